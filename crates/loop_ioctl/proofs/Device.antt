-- The device's calls, of queue and table.
use Rattle.std.proofs.Common.{◌≡◌, ℕ, ◌+◌, true, length, List, ◌++◌, Option, Some, None, option_map, take, drop, Ok, Err, refl, sym, ◌∙◌, ap, arith}
use Rattle.std.specs.Prelude.{Result, Vec}
use Rattle.std.specs.Result.{result_err}
use Rattle.loop_plane.specs.Plane.{Plane}
use Rattle.loop_plane.specs.Fds.{Fds}
use Rattle.loop_vb2.specs.declared.buffer.Stamp.{Stamp}
use Rattle.loop_vb2.specs.declared.planes.PlaneSet.{PlaneSet}
use Rattle.loop_vb2.specs.declared.planes.Shape.{Shape}
use Rattle.loop_vb2.specs.declared.reason.Errno.{Errno}
use Rattle.loop_vb2.specs.Buffers.{failed_with}
use Rattle.loop_vb2.proofs.Short.{completed_with}
use Rattle.loop_vb2.specs.Planes.{number_at, slot_filled, set_by, frame_size}
use Rattle.loop_vb2.specs.State.{QueueState, Lined}
use Rattle.loop_vb2.specs.Effects.{end_buffer}
use Rattle.loop_vb2.specs.Events.{Happens, complete, fail}
use Rattle.loop_ioctl.specs.declared.events.QueueEvent.TheVariants as event
use Rattle.loop_ioctl.specs.declared.events.QueueReply.TheVariants as answer
use Rattle.loop_ioctl.specs.Names.{Names, value_with_fd, values_in}
use Rattle.loop_ioctl.specs.Attached.{fd_times, IsLinked}
use Rattle.loop_ioctl.specs.Events.{is_whole, Reacts}
use Rattle.loop_ioctl.specs.declared.events.QueueEvent.{QueueEvent}
use Rattle.std.proofs.lemmas.Bool.{eqb-true}
use Rattle.loop_ioctl.proofs.AttachedFds.{in_buffer, kept_changed, last_none}
use Rattle.loop_ioctl.proofs.QueueSteps.{still_linked, moves, stays}

-- a plane filled has the fd that it had
slot_fds : (fd f : ℕ) (p : Option Plane) (bytes : List ℕ) (a b : List (ℕ × Plane)) → fd_times fd a ≡ fd_times fd b
    → fd_times fd (value_with_fd f (slot_filled p bytes) ++ a) ≡ fd_times fd (value_with_fd f p ++ b)
slot_fds fd f None bytes a b e = e
slot_fds fd f (Some p) bytes a b e = omega (arith, e)

last_fds : (fd f : ℕ) (p : Option Plane) (bytes : List ℕ)
    → fd_times fd (value_with_fd f (slot_filled p bytes)) ≡ fd_times fd (value_with_fd f p)
last_fds fd f None bytes = refl
last_fds fd f (Some p) bytes = refl

filled_fds : (shape : Shape) (bytes : List ℕ) (planes : Option (PlaneSet Plane)) (fd : ℕ)
    → in_buffer fd (option_map (set_by slot_filled shape bytes) planes) ≡ in_buffer fd planes
filled_fds shape bytes None fd = refl
filled_fds shape bytes (Some set) fd =
    let b0 = take (number_at shape.sizes 0) bytes in
    let b1 = take (number_at shape.sizes 1) (drop (number_at shape.sizes 0) bytes) in
    let b2 = take (number_at shape.sizes 2) (drop (number_at shape.sizes 0 + number_at shape.sizes 1) bytes) in
    let f0 = number_at set.fds 0 in
    let f1 = number_at set.fds 1 in
    ap (fd_times fd) (last_none (values_in (set_by slot_filled shape bytes set)))
    ∙ (slot_fds fd (number_at set.fds 2) set.planes.cr b2 (value_with_fd f1 (slot_filled set.planes.cb b1)
    ++ value_with_fd f0 (slot_filled set.planes.y b0)) (value_with_fd f1 set.planes.cb
    ++ value_with_fd f0 set.planes.y)
    (slot_fds fd f1 set.planes.cb b1 (value_with_fd f0 (slot_filled set.planes.y b0)) (value_with_fd f0 set.planes.y) (last_fds fd f0 set.planes.y b0))
    ∙ sym (ap (fd_times fd) (last_none (values_in set))))

pub completed_linked : (index : ℕ) (stamp : Stamp) (bytes : List ℕ) (s : QueueState) (out : List (ℕ × Plane))
    (n : Names Plane) → IsLinked s.body out n → IsLinked (end_buffer (completed_with s.body.shape stamp bytes) index s).body out n
completed_linked index stamp bytes s out n linked =
    still_linked s.body (end_buffer (completed_with s.body.shape stamp bytes) index s).body out n refl
    (λ (fd : ℕ). kept_changed (completed_with s.body.shape stamp bytes) index s.body.buffers fd (λ b d. filled_fds s.body.shape bytes b.planes d)) linked

pub failed_linked : (index : ℕ) (stamp : Stamp) (s : QueueState) (out : List (ℕ × Plane)) (n : Names Plane)
    → IsLinked s.body out n → IsLinked (end_buffer (failed_with stamp) index s).body out n
failed_linked index stamp s out n linked = still_linked s.body (end_buffer (failed_with stamp) index s).body out n refl
    (λ (fd : ℕ). kept_changed (failed_with stamp) index s.body.buffers fd (λ b d. refl)) linked

module _ {P : Type 0} (A : Type 0) (m : P → Plane) where
  pub complete_reacts : (index : ℕ) (stamp : Stamp) (bytes : Vec ℕ A) (result : Result (Unit {0}) Errno)
      (q q' : Lined P) (table : Fds P) → Happens m q q' (complete index stamp bytes.items (result_err result))
      → Reacts m (event.Complete index stamp bytes) (answer.Ended result) q table q' table
  complete_reacts index stamp bytes (Ok u) q q' table step j stands =
      let t = step j.queue stands.queue in (
        t.0,
        moves m q q' table j (end_buffer (completed_with j.queue.body.shape stamp bytes.items) index j.queue) stands t.1
            (completed_linked index stamp bytes.items j.queue j.out j.names stands.linked),
      )
  complete_reacts index stamp bytes (Err e) q q' table step j stands = let t = step j.queue stands.queue in (t.0, stays m q q' table j stands t.1)

  pub fail_reacts : (index : ℕ) (stamp : Stamp) (result : Result (Unit {0}) Errno) (q q' : Lined P) (table : Fds P)
      → Happens m q q' (fail index stamp (result_err result)) → Reacts {A = A} m (event.Fail index stamp)
      (answer.Ended result) q table q' table
  fail_reacts index stamp (Ok u) q q' table step j stands =
      let t = step j.queue stands.queue in (
        t.0,
        moves m q q' table j (end_buffer (failed_with stamp) index j.queue) stands t.1
            (failed_linked index stamp j.queue j.out j.names stands.linked),
      )
  fail_reacts index stamp (Err e) q q' table step j stands = let t = step j.queue stands.queue in (t.0, stays m q q' table j stands t.1)

pub whole_bytes : {P A : Type 0} (shape : Shape) (e : QueueEvent P A) (index : ℕ) (stamp : Stamp) (bytes : Vec ℕ A)
    → is_whole shape e ≡ true → e ≡ event.Complete index stamp bytes → length bytes.items ≡ frame_size shape
whole_bytes shape e index stamp bytes whole is = eqb-true (length bytes.items) (frame_size shape) (sym (ap (is_whole shape) is) ∙ whole)
