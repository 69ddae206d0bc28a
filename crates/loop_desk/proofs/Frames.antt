-- No frame is lost between a desk and the recording, and they keep their order.
use Rattle.std.proofs.Common.{◌≡◌, ◌≢◌, ℕ, Bool, true, false, min, if◌then◌else◌, Option, Some, None, Ok, Err, List, [], ◌∷◌, ◌++◌, length, take, drop, map, refl, sym, ap, ◌∙◌, append_assoc}
use Rattle.std.proofs.lemmas.Grind.{flat_map-append}
use Rattle.std.proofs.lemmas.List.{append-nil, length-take, take-append-drop, take_min}
use Rattle.std.specs.Prelude.{◌==◌, ◌-◌, ◌%◌}
use Rattle.loop_record.specs.declared.geometry.Geometry.{Geometry}
use Rattle.loop_record.specs.Recording.{Picture, Recording, Ring, Step, store, last_number, needs_recycling, recycling_first, ring_of, steps, victim}
use Rattle.loop_record.specs.Turns.{after_all, EachIn}
use Rattle.loop_record.proofs.TurnRuns.{told-behind}
use Rattle.loop_store.specs.declared.fault.StoreFault.{StoreFault}
use Rattle.loop_store.specs.Calls.{AreAnswered, IsAnswered, StoreState, after_store_call, made_by, made_in}
use Rattle.loop_store.proofs.AppendAnswers.{answered-some}
use Rattle.loop_desk.specs.declared.limits.Flushed.{Flushed}
use Rattle.loop_desk.specs.Desk.{AreTold, DeskCall, DeskState, IsFlush, IsDeskTold, Rules, frame_accepted, accepted_in, append_of, clip_locked, clip_unlocked, desk_after, desk_after_calls, flushed, frame_read, frames_stored, group_of, pending_after, layout_upgraded, status_told, store_calls, store_calls_in, stored_by, run_told, submitted}
use Rattle.loop_record.proofs.Names.{stores_after}
use Rattle.loop_store.proofs.Names.{steps_or_none}

pub each-parts : {S X : Type 0} (next : S → X → S) (P : S → X → Type 0) (s : S) (xs ys : List X)
    → EachIn next P s (xs ++ ys) → EachIn next P s xs × EachIn next P (after_all next s xs) ys
each-parts next P s [] ys both = (tt, both)
each-parts next P s (x ∷ xs) ys both = let rest = each-parts next P (next s x) xs ys both.1 in ((both.0, rest.0), rest.1)

frames-stores : (ps : List Picture) → frames_stored (map store ps) ≡ ps
frames-stores [] = refl
frames-stores (p ∷ ps) = ap (λ l. p ∷ l) (frames-stores ps)

-- an append's steps store its frames
frames-steps : (ring : Ring) (keep : ℕ) (r : Recording) (group : List Picture) → steps ring keep r group ≢ None
    → frames_stored (steps_or_none (steps ring keep r group)) ≡ group
frames-steps ring keep r group some =
    go (r.next == last_number ring) (needs_recycling ring r) (victim ring keep r) some
  where
    go : (b n : Bool) (v : Option ℕ) → (if b then None else stores_after (recycling_first n v) group) ≢ None
        → frames_stored (steps_or_none (if b then None else stores_after (recycling_first n v) group)) ≡ group
    go true n v some = absurd (some refl)
    go false false v some = frames-stores group
    go false true None some = absurd (some refl)
    go false true (Some b) some = frames-stores group

frames-both : (a b : List Step) → frames_stored (a ++ b) ≡ frames_stored a ++ frames_stored b
frames-both a b = flat_map-append stored_by a b

-- a group and the frames after it
group-and-rest : (most : ℕ) (waiting : List Picture) → take most waiting
    ++ drop (length (take most waiting)) waiting ≡ waiting
group-and-rest most waiting =
    let count = length-take most waiting in
    let front = take_min most waiting in
    (λ i. sym front i ++ drop (count i) waiting) ∙ take-append-drop (min most (length waiting)) waiting

flush-frames : (g : Geometry) (w : DeskState) (s : StoreState) (group : List Picture) (f : Flushed)
    → IsFlush w group (Ok f) → AreAnswered (Unit {0}) (ring_of g) s (append_of group (Ok f)) → group
    ++ drop (length group) w.pending ≡ w.pending
    → frames_stored (made_in (ring_of g) s (append_of group (Ok f))) ++ drop f.stored w.pending ≡ w.pending
flush-frames g w s [] f told said whole = (λ i. drop (told.1 i).stored w.pending) ∙ whole
flush-frames g w s (p ∷ ps) f told said whole =
    let list = steps_or_none (steps (ring_of g) s.keep s.recording (p ∷ ps)) in
    let frames : frames_stored (list ++ []) ≡ p ∷ ps = ap frames_stored (append-nil list)
    ∙ frames-steps (ring_of g) s.keep s.recording (p ∷ ps) (answered-some (Unit {0}) g s (p ∷ ps) f.first said.0) in
    let count = told.1 in
    (λ i. frames i ++ drop (count i).stored w.pending) ∙ whole

none-stored : (g : Geometry) (s : StoreState) (group : List Picture) (fault : StoreFault)
    → frames_stored (made_in (ring_of g) s (append_of group (Err fault))) ≡ []
none-stored g s [] fault = refl
none-stored g s (p ∷ ps) fault = refl

call-frames : (k : Rules) (w : DeskState) (c : DeskCall) → IsDeskTold k w c
    → AreAnswered (Unit {0}) (ring_of k.geometry) w.store (store_calls k w c) → w.pending ++ frame_accepted c ≡ frames_stored
    (made_in (ring_of k.geometry) w.store (store_calls k w c)) ++ pending_after w.pending c
call-frames k w (submitted p size (Ok number)) told said = refl
call-frames k w (submitted p size (Err fault)) told said = append-nil w.pending
call-frames k w (flushed (Ok f)) told said =
    append-nil w.pending ∙ sym (flush-frames k.geometry w w.store (group_of k w) f told said
    (group-and-rest (min k.limits.group (k.geometry.slots - w.store.recording.next % k.geometry.slots)) w.pending))
call-frames k w (flushed (Err fault)) told said = append-nil w.pending ∙ ap (λ (l : List Picture). l ++ w.pending)
    (sym (none-stored k.geometry w.store (group_of k w) fault))
call-frames k w (clip_locked span (Ok id)) told said = append-nil w.pending
call-frames k w (clip_locked span (Err fault)) told said = append-nil w.pending
call-frames k w (clip_unlocked id (Ok x)) told said = append-nil w.pending
call-frames k w (clip_unlocked id (Err fault)) told said = append-nil w.pending
call-frames k w (frame_read number (Ok x)) told said = append-nil w.pending
call-frames k w (frame_read number (Err fault)) told said = append-nil w.pending
call-frames k w (status_told status) told said = append-nil w.pending
call-frames k w (layout_upgraded (Ok made)) told said = append-nil w.pending
call-frames k w (layout_upgraded (Err fault)) told said = append-nil w.pending
call-frames k w (run_told times place run) told said = append-nil w.pending

-- what waited, and then what was accepted, is what was stored, and then what waits
pub none-lost : (k : Rules) (s : DeskState) (calls : List DeskCall) → AreTold k s calls
    → AreAnswered (Unit {0}) (ring_of k.geometry) s.store (store_calls_in k s calls) → s.pending
    ++ accepted_in calls ≡ frames_stored (made_in (ring_of k.geometry) s.store (store_calls_in k s calls))
    ++ (desk_after_calls k s calls).pending
none-lost k s [] told said = append-nil s.pending
none-lost k s (c ∷ calls) told said =
    let g = k.geometry in
    let here = store_calls k s c in
    let t = desk_after k s c in
    let there = store_calls_in k t calls in
    let parts = each-parts (after_store_call (ring_of g)) (IsAnswered (Unit {0}) (ring_of g)) s.store here there said in
    let one = call-frames k s c told.0 parts.0 in
    let rest = none-lost k t calls told.1 parts.1 in
    let split : frames_stored (made_in (ring_of g) s.store (here ++ there)) ≡ frames_stored (made_in (ring_of g) s.store here)
    ++ frames_stored (made_in (ring_of g) t.store there) =
    ap frames_stored (told-behind (after_store_call (ring_of g)) (made_by (ring_of g)) s.store here there)
    ∙ frames-both (made_in (ring_of g) s.store here) (made_in (ring_of g) t.store there) in
    sym (append_assoc s.pending (frame_accepted c) (accepted_in calls)) ∙ (λ i. one i ++ accepted_in calls)
    ∙ append_assoc (frames_stored (made_in (ring_of g) s.store here)) t.pending (accepted_in calls)
    ∙ ap (λ l. frames_stored (made_in (ring_of g) s.store here) ++ l) rest
    ∙ sym (append_assoc (frames_stored (made_in (ring_of g) s.store here))
    (frames_stored (made_in (ring_of g) t.store there)) (desk_after_calls k t calls).pending)
    ∙ ap (λ l. l ++ (desk_after_calls k t calls).pending) (sym split)
