use Rattle.std.proofs.Common.{false, true, arith, sym, subst, ◌∙◌, length}
use Rattle.loop_ring.proofs.IndexOrder.{IsOpen, there-entry}
use Rattle.loop_ring.proofs.Oldest.{IsLast, above-one, fewer, floor-found, floor-missing, left-last, left-less, one-less}
use Rattle.loop_ring.proofs.victim.floor_block.Goals as goal

pub bounds-heads-entry : goal.bounds-heads-entry
bounds-heads-entry c =
    let last : IsLast c.args.heads.now c.args.entries.now c.next.new.self.iter.rest.now c.in-Some.entry.now _ =
    left-last c.args.heads.now c.args.entries.now _ _ _ _ c.loop-entry.invariant.0 c.in-Some.ensures.steps in
    (subst (IsOpen c.args.heads.now) (last.at c.in-Some.entry.now)
    (there-entry c.args.heads.now c.args.entries.now _ (length c.next.new.self.iter.rest.now) c.in-Some.entry.now
    c.requires last.inside)).within

pub returns-then-left-eq1 : goal.returns-then-left-eq1
returns-then-left-eq1 c =
    let last : IsLast c.args.heads.now c.args.entries.now c.next.new.self.iter.rest.now c.in-Some.entry.now _ =
    left-last c.args.heads.now c.args.entries.now _ _ _ _ c.loop-entry.invariant.0 c.in-Some.ensures.steps in
    let most = c.loop-entry.invariant.1.1 in
    floor-found c.args.heads.now c.args.entries.now _ (length c.next.new.self.iter.rest.now) c.args.keep
    c.in-Some.entry.now c.requires last.inside last.at (sym c.has_frame.ensures ∙ c.if-has_frame.true)
    (omega (arith, last.counted, most, c.if-left-eq1.true))

pub loop-entry-preserved-then-has_frame : goal.loop-entry-preserved-then-has_frame
loop-entry-preserved-then-has_frame c =
    let last : IsLast c.args.heads.now c.args.entries.now c.next.new.self.iter.rest.now c.in-Some.entry.now _ =
    left-last c.args.heads.now c.args.entries.now _ _ _ _ c.loop-entry.invariant.0 c.in-Some.ensures.steps in
    let some = c.loop-entry.invariant.1.0 in
    let most = c.loop-entry.invariant.1.1 in
    let more = above-one c.loop-entry.left some c.if-left-eq1.false in (
      left-less c.args.heads.now c.args.entries.now _ c.in-Some.entry.now _ _ true last
          (sym c.has_frame.ensures ∙ c.if-has_frame.true) (one-less c.args.keep c.loop-entry.left more most),
      (omega (arith, more), omega (arith, most)),
    )

pub loop-entry-preserved : goal.loop-entry-preserved
loop-entry-preserved c =
    let last : IsLast c.args.heads.now c.args.entries.now c.next.new.self.iter.rest.now c.in-Some.entry.now _ =
    left-last c.args.heads.now c.args.entries.now _ _ _ _ c.loop-entry.invariant.0 c.in-Some.ensures.steps in (
      left-less c.args.heads.now c.args.entries.now _ c.in-Some.entry.now _ _ false last
          (sym c.has_frame.ensures ∙ c.if-has_frame.false) (omega arith),
      c.loop-entry.invariant.1,
    )

pub returns : goal.returns
returns c =
    let left = c.loop-entry.invariant.0 in
    let some = c.loop-entry.invariant.1.0 in
    let most = c.loop-entry.invariant.1.1 in
    floor-missing c.args.heads.now c.args.entries.now _ c.args.keep c.requires
    (fewer c.args.heads.now c.args.entries.now _ c.args.keep c.loop-entry.left left c.in-None.ensures.steps.0 some most)
