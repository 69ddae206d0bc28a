use Rattle.std.proofs.Common.{◌≡◌, ℕ, ◌+◌, ◌≤◌, ◌<◌, List, [], ◌∷◌, length, take, drop, ap, arith}
use Rattle.loop_record.specs.Geometry.{clip_at}
use Rattle.loop_record.specs.Layout.{version_in}
use Rattle.loop_clips.proofs.TableLocks.{IsEntry, lock_moments, lock_ok}
use Rattle.loop_clips.proofs.table.ClipTable.lock.Goals as goal

pub returns : goal.returns
returns g c =
    let id = c.args.id in
    let span = c.args.span in
    let bytes = c.encode_clip.new.«out» in
    let from : span.from < 18446744073709551616 = omega (arith, c.well_formed) in
    let to : span.to < 18446744073709551616 = omega (arith, c.well_formed) in
    let tag : span.tag < 18446744073709551616 = omega (arith, c.well_formed) in
    let entry : (g.D.Disk.medium c.args.disk.now).honest → IsEntry (version_in (g.D.Disk.medium c.args.disk.now).bytes) span (take 31 (drop 1 bytes)) =
    λ honest. record {
      is = ap (λ (bs : List ℕ). take 31 (drop 1 bs)) c.encode_clip.ensures;
      fits =
          record { from = from; to = to; tag = tag; placed = c.requires.tag honest };
    } in
    let gate : take 1 bytes ≡ 165 ∷ [] = ap (λ (bs : List ℕ). take 1 bs) c.encode_clip.ensures in
    let fits : (g.D.Disk.medium c.args.disk.now).honest → clip_at id + 32 ≤ length (g.D.Disk.medium c.args.disk.now).bytes = λ honest.
    omega (arith, (g.met.D.Disk.sound c.args.disk.now honest).length_is, c.requires.extent, c.requires.id) in record {
      moments = λ honest. lock_moments id span c.entry_place-at.result _ _ _ _ _ c.entry_place-at.ensures gate
          (entry honest) (fits honest) (c.requires.closed honest) (c.store_in_turn.ensures.disk honest);
      such = λ honest. lock_ok id span c.entry_place-at.result _ _ _ _ _ c.entry_place-at.ensures gate (entry honest)
          (fits honest) (c.store_in_turn.ensures.disk honest);
      settled = λ honest. (c.store_in_turn.ensures.disk honest).settled;
      fault = c.store_in_turn.ensures.fault;
      called = c.store_in_turn.ensures.called;
    }
