use Rattle.std.proofs.Common.{◌≡◌, ◌<◌, ◌+◌, ◌++◌, ◌∷◌, [], None, Some, ℕ, sym, ◌∙◌, subst}
use Rattle.loop_record.specs.Counts.{cyclic_place}
use Rattle.loop_pipeline.specs.Nexts.{IsBest}
use Rattle.loop_pipeline.proofs.Oldest.{later-more, no-older, none-more, taken-more}
use Rattle.loop_pipeline.proofs.Places.{some-same}
use Rattle.loop_pipeline.proofs.Searching.{best-beside, get-last}
use Rattle.loop_pipeline.proofs.next.older.Goals as goal

pub returns-in_default : goal.returns-in_default
returns-in_default c spaces count b =
    none-more c.args.end (spaces ++ c.args.space ∷ []) c.args.place c.args.space
    (get-last spaces c.args.space c.args.place count) c.args.best
    (best-beside c.args.end spaces c.args.space c.args.place c.args.best count b) c.in_default.is

pub returns-in-Some-best : goal.returns-in-Some-best
returns-in-Some-best c spaces count b =
    let more = spaces ++ c.args.space ∷ [] in
    subst (IsBest c.args.end more (c.args.place + 1)) (sym c.in-Some-best.is)
    (later-more c.args.end more c.args.place c.args.space (get-last spaces c.args.space c.args.place count) _ _
    (subst (IsBest c.args.end more c.args.place) c.in-Some-best.is
    (best-beside c.args.end spaces c.args.space c.args.place c.args.best count b)) c.in-Some.is
    (no-older c.is_older.result _ _ c.is_older.ensures c.if-not-is_older.true))

pub returns-in_default-best : goal.returns-in_default-best
returns-in_default-best c spaces count b =
    taken-more c.args.end (spaces ++ c.args.space ∷ []) c.args.place c.args.space
    (get-last spaces c.args.space c.args.place count) c.args.best _
    (best-beside c.args.end spaces c.args.space c.args.place c.args.best count b) c.in-Some.is
    (λ b e. subst (λ (p : ℕ × ℕ). cyclic_place c.args.end c.in-Some.sequence < cyclic_place c.args.end p.1)
    (some-same _ b (sym c.in-Some-best.is ∙ e))
    (c.is_older.ensures.0 c.if-not-is_older.false))

pub returns-in_default-best-2 : goal.returns-in_default-best-2
returns-in_default-best-2 c spaces count b =
    taken-more c.args.end (spaces ++ c.args.space ∷ []) c.args.place c.args.space
    (get-last spaces c.args.space c.args.place count) c.args.best _
    (best-beside c.args.end spaces c.args.space c.args.place c.args.best count b) c.in-Some.is
    (λ b e. absurd (let none : None ≡ Some b = sym c.in_default-best.is ∙ e in cc))
