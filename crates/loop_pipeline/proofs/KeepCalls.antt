-- A keep submits nothing, and makes calls that visits may make.
use Rattle.std.proofs.Common.{◌≡◌, ℕ, ◌+◌, inl, inr, Option, Some, None, List, [], ◌∷◌, ◌++◌, All, map, refl, sym, subst, ap, ◌∙◌, Err}
use Rattle.std.specs.List.{filter}
use Rattle.std.proofs.lemmas.List.Elements.{All-append, All-cons, All-nil, filter-append}
use Rattle.loop_clips.specs.declared.clip.Clip.{Clip}
use Rattle.loop_record.specs.declared.clip.Span.{Span}
use Rattle.loop_record.specs.declared.times.Times.{Times}
use Rattle.loop_store.specs.declared.fault.StoreFault.{StoreFault}
use Rattle.loop_desk.specs.declared.keep.Kept.{Kept}
use Rattle.loop_desk.specs.Desk.{DeskCall, runs_told}
use Rattle.loop_desk.specs.Keeps.{Keeps, LocksEnd, lock_of}
use Rattle.loop_desk.specs.Seen.{SeenDesk}
use Rattle.loop_pipeline.specs.Backs.{MayKeep, is_submit}

none-sought : (times : Times) (place : ℕ) (runs : List Span) → filter is_submit (runs_told times place runs) ≡ []
none-sought times place [] = refl
none-sought times place (r ∷ rs) = none-sought times (place + 1) rs

none-locked : (clips : List Clip) → filter is_submit (map lock_of clips) ≡ []
none-locked [] = refl
none-locked (c ∷ cs) = none-locked cs

none-ended : (left : List Span) (fault : Option StoreFault) (calls : List DeskCall) → LocksEnd left fault calls
    → filter is_submit calls ≡ []
none-ended [] None calls ends = ap (filter is_submit) ends
none-ended [] (Some fault) calls ends = absurd ends
none-ended (r ∷ left) None calls ends = absurd ends
none-ended (r ∷ left) (Some fault) calls ends = ap (filter is_submit) ends

none-both : (xs ys : List DeskCall) → filter is_submit xs ≡ [] → filter is_submit ys ≡ []
    → filter is_submit (xs ++ ys) ≡ []
none-both xs ys first second = filter-append is_submit xs ys ∙ (λ i. first i ++ second i)

pub none-submitted : {D A : Type 0} (times : Times) (tag : ℕ) (desk : SeenDesk D) (calls : List DeskCall) (kept : Kept A)
    → Keeps times tag desk calls kept → filter is_submit calls ≡ []
none-submitted times tag desk calls kept (inl n) = ap (filter is_submit) n.uncalled
none-submitted times tag desk calls kept (inr (inl n)) = ap (filter is_submit) n.calls_are ∙ none-sought times 0 n.runs
none-submitted times tag desk calls kept (inr (inr h)) =
    let e = h.are in
    ap (filter is_submit) (h.calls_are ∙ ap (λ l. runs_told times 0 h.runs ++ l) e.calls_are)
    ∙ none-both (runs_told times 0 h.runs) (map lock_of kept.clips.items ++ e.refusal) (none-sought times 0 h.runs)
    (none-both (map lock_of kept.clips.items) e.refusal (none-locked kept.clips.items)
    (none-ended e.left kept.fault e.refusal e.ended))

-- ---- its calls are those of a keep

module _ (asks : DeskCall → Type 0) (may : MayKeep asks) where
  all-sought : (times : Times) (place : ℕ) (runs : List Span) → All asks (runs_told times place runs)
  all-sought times place [] = All-cons asks _ [] (may.0 times place None) (All-nil asks)
  all-sought times place (r ∷ rs) =
      All-cons asks _ (runs_told times (place + 1) rs) (may.0 times place (Some r)) (all-sought times (place + 1) rs)

  all-locked : (clips : List Clip) → All asks (map lock_of clips)
  all-locked [] = All-nil asks
  all-locked (c ∷ cs) = All-cons asks (lock_of c) (map lock_of cs) (may.1 _ _) (all-locked cs)

  all-ended : (left : List Span) (fault : Option StoreFault) (calls : List DeskCall) → LocksEnd left fault calls
      → All asks calls
  all-ended [] None calls ends = subst (All asks) (sym ends) (All-nil asks)
  all-ended [] (Some fault) calls ends = absurd ends
  all-ended (r ∷ left) None calls ends = absurd ends
  all-ended (r ∷ left) (Some fault) calls ends =
      subst (All asks) (sym ends) (All-cons asks _ [] (may.1 r (Err fault)) (All-nil asks))

  pub all-asked : {D A : Type 0} (times : Times) (tag : ℕ) (desk : SeenDesk D) (calls : List DeskCall) (kept : Kept A)
      → Keeps times tag desk calls kept → All asks calls
  all-asked times tag desk calls kept (inl n) = subst (All asks) (sym n.uncalled) (All-nil asks)
  all-asked times tag desk calls kept (inr (inl n)) = subst (All asks) (sym n.calls_are) (all-sought times 0 n.runs)
  all-asked times tag desk calls kept (inr (inr h)) =
      let e = h.are in
      subst (All asks) (sym (h.calls_are ∙ ap (λ l. runs_told times 0 h.runs ++ l) e.calls_are))
      (All-append asks (runs_told times 0 h.runs) (map lock_of kept.clips.items ++ e.refusal)
      (all-sought times 0 h.runs)
      (All-append asks (map lock_of kept.clips.items) e.refusal (all-locked kept.clips.items)
      (all-ended e.left kept.fault e.refusal e.ended)))
