use Rattle.std.proofs.Common.{ℕ, Option, List, length, not, is_some, sym, ap, ◌∙◌}
use Rattle.std.specs.List.{position}
use Rattle.loop_record.specs.declared.clip.Span.{Span}
use Rattle.loop_clips.proofs.TableLocks.{place_free, place_none}
use Rattle.loop_clips.proofs.table.ClipTable.free_id.Goals as goal

abbrev free : List (Option Span) → Option ℕ
free clips = position (λ c. not (is_some c)) clips

pub returns-in-Some : goal.returns-in-Some
returns-in-Some c = place_free c.args.self.now c.in-Some.place (ap length (sym c.self.view_is) ∙ c.self.invariant)
    (ap free (sym c.self.view_is) ∙ sym c.free_place.ensures ∙ c.in-Some.is)

pub returns-in-None : goal.returns-in-None
returns-in-None c = place_none c.args.self.now (ap length (sym c.self.view_is) ∙ c.self.invariant)
    (ap free (sym c.self.view_is) ∙ sym c.free_place.ensures ∙ c.in-None.is)
