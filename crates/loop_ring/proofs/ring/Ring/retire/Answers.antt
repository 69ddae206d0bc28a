use Rattle.std.proofs.Common.{◌+◌, ◌≤◌, length, arith}
use Rattle.loop_record.specs.Geometry.{segment_at, segment_size}
use Rattle.loop_record.proofs.Bounds.{limits}
use Rattle.loop_record.proofs.Parts.{apart}
use Rattle.loop_ring.proofs.Retirements.{retire_moments, retire_ok}
use Rattle.loop_ring.proofs.ring.Ring.retire.Goals as goal

pub returns : goal.returns
returns g c =
    let h = c.args.self.now.geometry in record {
      moments = λ honest. retire_moments h c.args.segment c.segment_at.result _ _ _ c.segment_at.ensures
          (limits h c.args.self.now.good).slots.1 (c.requires.settled honest) (c.requires.there honest)
          (c.store.ensures.disk honest);
      such = λ honest.
          let fits : segment_at h c.args.segment + segment_size h ≤ length (g.D.Disk.medium c.args.disk.now).bytes =
          omega (arith, (g.met.D.Disk.sound c.args.disk.now honest).length_is, c.requires.extent, apart h c.args.segment h.segments c.requires.segment) in
          retire_ok h c.args.segment c.segment_at.result _ _ _ c.segment_at.ensures fits (c.store.ensures.disk honest);
      settled = λ honest. (c.store.ensures.disk honest).settled;
      fault = c.store.ensures.fault;
      called = c.store.ensures.called;
    }
