-- The next number, after the frames that a call stored.
use Rattle.std.proofs.Common.{◌≡◌, ◌≢◌, ℕ, ◌+◌, Bool, true, false, if◌then◌else◌, Option, Some, None, Ok, Err, List, [], ◌∷◌, length, map, refl, sym, ap, ◌∙◌, arith}
use Rattle.std.specs.Prelude.{◌==◌}
use Rattle.loop_disk.specs.Medium.{Medium}
use Rattle.loop_record.specs.declared.geometry.Geometry.{Geometry}
use Rattle.loop_record.specs.Recording.{Picture, Recording, Ring, after_step as stepped, last_number, needs_recycling, plain, recycle, recycling_first, ring_of, steps, store, victim}
use Rattle.loop_record.proofs.Steps.{plain-stores}
use Rattle.loop_store.specs.Calls.{Call, IsAnswered, StoreState, after_store_call, appended, locked, unlocked, upgraded, was_read, was_read_part, sought}
use Rattle.loop_store.specs.Goes.{Goes}
use Rattle.loop_store.specs.Seen.{Seen}
use Rattle.loop_store.proofs.CallRuns.{state-of, state-told}
use Rattle.loop_store.proofs.AppendAnswers.{answered-some}
use Rattle.loop_record.proofs.Names.{stores_after}
use Rattle.loop_store.proofs.Names.{steps_or_none}

-- how many frames were stored
abbrev pub count_stored : Call → ℕ
count_stored (appended group (Ok number)) = length group
count_stored _ = 0

none-more : (n : ℕ) → n ≡ n + 0
none-more n = omega arith

raised : (ring : Ring) (r : Recording) (group : List Picture)
    → (plain ring r (map store group)).next ≡ r.next + length group
raised ring r group = ap (λ (q : Recording). q.next) (plain-stores ring r group)

-- the steps of an append raise it by the frames
appended-raises : (ring : Ring) (keep : ℕ) (r : Recording) (group : List Picture) → steps ring keep r group ≢ None
    → (plain ring r (steps_or_none (steps ring keep r group))).next ≡ r.next + length group
appended-raises ring keep r group some = go (r.next == last_number ring) (needs_recycling ring r) (victim ring keep r) some
  where
    go : (b n : Bool) (v : Option ℕ) → (if b then None else stores_after (recycling_first n v) group) ≢ None
        → (plain ring r (steps_or_none (if b then None else stores_after (recycling_first n v) group))).next ≡
        r.next + length group
    go true n v some = absurd (some refl)
    go false false v some = raised ring r group
    go false true None some = absurd (some refl)
    go false true (Some b) some = raised ring (stepped ring r (recycle b)) group

after-next : (H : Type 0) (g : Geometry) (s : StoreState) (c : Call) → IsAnswered H (ring_of g) s c
    → (after_store_call (ring_of g) s c).recording.next ≡ s.recording.next + count_stored c
after-next H g s (appended group (Ok number)) said = appended-raises (ring_of g) s.keep s.recording group (answered-some H g s group number said)
after-next H g s (appended group (Err fault)) said = none-more s.recording.next
after-next H g s (locked span (Ok id)) said = none-more s.recording.next
after-next H g s (locked span (Err fault)) said = none-more s.recording.next
after-next H g s (unlocked id (Ok x)) said = none-more s.recording.next
after-next H g s (unlocked id (Err fault)) said = none-more s.recording.next
after-next H g s (upgraded (Ok made)) said = none-more s.recording.next
after-next H g s (upgraded (Err fault)) said = none-more s.recording.next
after-next H g s (was_read number (Ok x)) said = none-more s.recording.next
after-next H g s (was_read number (Err fault)) said = none-more s.recording.next
after-next H g s (was_read_part number at (Ok bytes)) said = none-more s.recording.next
after-next H g s (was_read_part number at (Err fault)) said = none-more s.recording.next
after-next H g s (sought times (Ok runs)) said = none-more s.recording.next
after-next H g s (sought times (Err fault)) said = none-more s.recording.next

pub next-one : {D : Type 0} {medium : D → Medium} (old new : Seen D) (c : Call) → Goes medium old new (c ∷ [])
    → new.next ≡ old.next + count_stored c
next-one old new c goes =
    let s = state-of old goes.one in
    let told = state-told old goes.one in
    (goes.tells s told).recording.next_is ∙ after-next _ old.geometry s c (goes.answers s told).0
    ∙ ap (λ (n : ℕ). n + count_stored c) (sym told.recording.next_is)
