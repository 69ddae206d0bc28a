use Rattle.std.proofs.Common.{◌≡◌, ℕ, IfOk, List, map, sym, ◌∙◌, subst}
use Rattle.std.specs.List.{filter}
use Rattle.loop_record.specs.Times.{AreRuns, is_in}
use Rattle.loop_record.proofs.Form.{reading-well_formed}
use Rattle.loop_store.specs.Times.{Rise, stamp_under}
use Rattle.loop_store.proofs.TimeRuns.{numbers-rise}
use Rattle.loop_store.proofs.seek.seek.Goals as goal

pub returns : goal.returns
returns g c = λ r image known.
    let s = c.args.index.now in
    let h = s.ring.geometry in
    let are : c.as_slice.result.now ≡ map (λ f. f.0) r.frames =
    c.as_slice.ensures.value ∙ c.in_ok-numbers.ensures r image known in
    subst (λ (ns : List ℕ). IfOk c.runs_of.result (λ runs. AreRuns (filter (λ n. is_in c.args.times
    (stamp_under h.slots s.table.heads s.stamps.items n).time) ns) runs.items)) are
    (c.runs_of.ensures (subst Rise (sym are) (numbers-rise r (reading-well_formed h r image known.held))))
