use Rattle.std.proofs.Common.{rules, ◌≡◌, ◌+◌, ◌-◌, ◌<◌, ℕ, IsTrue, List, refl, sym, subst, arith}
use Rattle.std.proofs.lemmas.Result.{on_ok_weaker}
use Rattle.loop_disk.specs.Medium.{SameOutside}
use Rattle.loop_disk.proofs.Moments.{started, weaker}
use Rattle.loop_record.specs.declared.geometry.Geometry.{Geometry}
use Rattle.loop_record.specs.Change.{ShowsSegment}
use Rattle.loop_record.specs.Geometry.{is_good, gate_at}
use Rattle.loop_record.specs.Layout.{segment_in, whole_frames}
use Rattle.loop_record.proofs.Bounds.{limits}
use Rattle.loop_ring.proofs.StrayGates.{IsBehind, stray_torn, stray_closed, quiet_closed, none_behind, unchanged}
use Rattle.loop_ring.proofs.ring.Ring.clear_stray.Goals as goal

behind : (g : Geometry) (j k at : ℕ) (old : List ℕ) → IsTrue (is_good g) → at ≡ gate_at g j (k + 1) → k + 1 < g.slots
    → whole_frames g old j ≡ k → IsBehind g j k at (g.slots - (k + 1)) old
behind g j k at old good place room whole = record { few = (limits g good).slots.1; place = place; end = omega (arith, room); whole = whole }

pub returns-then-first-self : goal.returns-then-first-self
returns-then-first-self g c =
    let h = c.args.self.now.geometry in
    let m = g.D.Disk.medium c.args.disk.now in record {
      moments = λ honest. started m _ (g.met.D.Disk.sound c.args.disk.now honest)
          (λ image left. subst (ShowsSegment h c.args.segment (segment_in h m.bytes c.args.segment) m.bytes)
          (sym (c.requires.settled honest image left)) (unchanged h c.args.segment m.bytes));
      such = λ honest. (
        unchanged h c.args.segment m.bytes,
        none_behind h c.args.segment c.args.frames m.bytes
            (c.requires.whole honest) (omega (arith, c.if-first-self.true)),
      );
      settled = c.requires.settled;
      quiet = search rules;
      called = record { size = refl; honest = (λ x. x, λ x. x); failures = refl };
    }

pub returns : goal.returns
returns g c =
    let h = c.args.self.now.geometry in
    let j = c.args.segment in
    let k = c.args.frames in
    let at = c.gate_at-at.result in
    let old = (g.D.Disk.medium c.args.disk.now).bytes in
    let new = (g.D.Disk.medium c.close_gates.new.disk).bytes in
    let b : (g.D.Disk.medium c.args.disk.now).honest → IsBehind h j k at (h.slots - (k + 1)) old = λ honest.
    behind h j k at old c.args.self.now.good c.gate_at-at.ensures (omega (arith, c.if-first-self.false)) (c.requires.whole honest) in record {
      moments = λ honest. weaker _ _ (SameOutside at (h.slots - (k + 1)) old) _ (c.close_gates.ensures.moments honest)
          (λ image torn. stray_torn h j k at _ old image (b honest) torn);
      such = λ honest. on_ok_weaker c.close_gates.result
          (λ closed. (
            stray_torn h j k at _ old new (b honest) closed.0,
            stray_closed h j k at _ old new
                (b honest) closed.0 closed.1,
          )) (c.close_gates.ensures.such honest);
      settled = c.close_gates.ensures.settled;
      quiet = λ honest stray. c.close_gates.ensures.quiet honest (quiet_closed h j k at _ old (b honest) stray);
      called = c.close_gates.ensures.called;
    }
