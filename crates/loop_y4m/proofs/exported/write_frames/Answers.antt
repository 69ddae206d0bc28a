use Rattle.std.proofs.Common.{◌≡◌, ◌+◌, ◌<◌, ◌≤◌, ◌^◌, ℕ, Option, Some, true, subst, arith}
use Rattle.std.specs.Prelude.{IfSome, flat_map}
use Rattle.loop_record.specs.Recording.{holds}
use Rattle.loop_y4m.specs.Export.{frames_between}
use Rattle.loop_y4m.specs.Text.{frame}
use Rattle.loop_y4m.proofs.ExportPieces.{only_joined, only_stands, stopped_later, stopped_on}
use Rattle.loop_y4m.proofs.Ranges.{Given, frame_there, given_more, given_rest, if_some, not_ok}
use Rattle.loop_y4m.proofs.exported.write_frames.Goals as goal

pub returns-in_err-write_held-clause-moved : goal.returns-in_err-write_held-clause-moved
returns-in_err-write_held-clause-moved g c = λ r stands there.
    let n = c.in-Some.number in
    let old = g.W.Write.contents c.args.out.now in
    let mid = g.W.Write.contents c.loop-next.out in
    let new = g.W.Write.contents c.write_held.new.out in
    let only = c.loop-next.invariant.store in
    let now = only_stands g.D.Disk.medium c.args.store.now c.loop-next.store _ r only stands in
    let low = subst (λ (o : Option ℕ). IfSome o (λ k. (c.loop-next.count ≤ k) × ((k ≤ c.args.to) × (k < 2 ^ 62)))) c.in-Some.is c.loop-next.invariant.low in
    let before : Given (g.D.Disk.medium c.args.store.now.disk).honest r c.args.first c.args.to c.loop-next.count
    (Some n) old mid = subst (λ (o : Option ℕ). Given (g.D.Disk.medium c.args.store.now.disk).honest r
    c.args.first c.args.to c.loop-next.count o old mid) c.in-Some.is (c.loop-next.invariant.moved r stands there) in
    let f = frame_there r n (subst (λ (o : Option ℕ). IfSome o (λ k. holds r k ≡ true)) c.in-Some.is (c.loop-next.invariant.held r stands there)) in
    let rising = stands.told.formed.rising in
    let fault = c.in_err-write_held.field-0.0 in
    let text = flat_map frame (frames_between c.args.first c.args.to r.frames) in (
      stopped_on _ old new c.from_residual.result fault text c.from_residual.ensures.1
          (stopped_later _ _ old mid new fault (flat_map frame before.done) (frame f.0.bytes)
          (flat_map frame (frames_between (n + 1) c.args.to r.frames)) text only.called.honest.0 before.given
          (c.in_err-write_held.ensures.moved r f.0 now f.1)
          (given_rest _ r c.args.first c.args.to c.loop-next.count n r.next f.0 old mid low.1.0 rising f.1 before)),
      not_ok _ _ c.from_residual.result c.from_residual.ensures.1,
    )

pub loop-next-preserved : goal.loop-next-preserved
loop-next-preserved g c =
    let n = c.in-Some.number in
    let medium = g.D.Disk.medium in
    let old = g.W.Write.contents c.args.out.now in
    let mid = g.W.Write.contents c.loop-next.out in
    let new = g.W.Write.contents c.write_held.new.out in
    let only = c.loop-next.invariant.store in
    let all = only_joined medium c.args.store.now c.loop-next.store c.write_held.new.store _ only c.in_ok-write_held.ensures.store in
    let low = subst (λ (o : Option ℕ). IfSome o (λ k. (c.loop-next.count ≤ k) × ((k ≤ c.args.to) × (k < 2 ^ 62))))
    c.in-Some.is c.loop-next.invariant.low in record {
      store = all;
      low = if_some _ _ c.held_between-next.result (λ k inner. (omega (arith, low.0, inner.0), (inner.1.0, inner.1.1))) c.held_between-next.ensures.within;
      held = λ r stands there. (c.held_between-next.ensures.frames r (only_stands medium c.args.store.now c.write_held.new.store _ r all stands)).0;
      moved = λ r stands there.
          let now = only_stands medium c.args.store.now c.loop-next.store _ r only stands in
          let before : Given (g.D.Disk.medium c.args.store.now.disk).honest r c.args.first c.args.to c.loop-next.count
          (Some n) old mid = subst (λ (o : Option ℕ). Given (g.D.Disk.medium c.args.store.now.disk).honest r
          c.args.first c.args.to c.loop-next.count o old mid) c.in-Some.is
          (c.loop-next.invariant.moved r stands there) in
          let f = frame_there r n (subst (λ (o : Option ℕ). IfSome o (λ k. holds r k ≡ true)) c.in-Some.is (c.loop-next.invariant.held r stands there)) in
          let rising = stands.told.formed.rising in
          given_more _ r c.args.first c.args.to c.loop-next.count n r.next f.0 c.held_between-next.result old mid new
          low.1.0 rising f.1 before (λ honest. c.in_ok-write_held.ensures.moved r f.0 now f.1
          (only.called.honest.0 honest))
          (c.held_between-next.ensures.frames r (only_stands medium c.args.store.now c.write_held.new.store _ r all stands));
    }
