-- Planes that are out of a queue may be forgotten: with none out, queue and table stand for a state too.
use Rattle.std.proofs.Common.{◌≡◌, inl, inr, ◌+◌, ◌⊎◌, ℕ, zero, suc, [], Option, refl, arith}
use Rattle.loop_plane.specs.Fds.{Fds}
use Rattle.loop_plane.specs.Plane.{Plane}
use Rattle.loop_vb2.specs.Requests.{held_sets}
use Rattle.loop_vb2.specs.State.{Lined}
use Rattle.loop_ioctl.specs.Attached.{IsOnce, fd_times, values_by_fd}
use Rattle.loop_ioctl.specs.Calls.{IoctlState, StandsIoctl}

none-of : (a b : ℕ) → a + b ≡ 0 → a + 0 ≡ 0
none-of a b none = omega (arith, none)

few-of : (a b : ℕ) → a + b ≡ 1 → (a + 0 ≡ 0) ⊎ (a + 0 ≡ 1)
few-of zero b one = inl refl
few-of (suc a) b one = inr (omega (arith, one))

-- what is there once, or not at all, is so without some
once-fewer : (a b : ℕ) (name : Option (Option Plane)) → IsOnce (a + b) name → IsOnce (a + 0) name
once-fewer a b name (inl none) = inl (none-of a b none)
once-fewer a b name (inr once) = elim (few-of a b once.0) [
  | inl none ↦ inl none
  | inr one ↦ inr (one, once.1)
]

pub forgotten : {P : Type 0} (m : P → Plane) (queue : Lined P) (table : Fds P) (j : IoctlState)
    → StandsIoctl m queue table j → StandsIoctl m queue table (record j { out = [] })
forgotten m queue table j stands = record {
  queue = stands.queue;
  names = stands.names;
  linked = λ (fd : ℕ). once-fewer (fd_times fd (values_by_fd j.queue.body.kind (held_sets j.queue.body.buffers)))
      (fd_times fd j.out) (j.names fd) (stands.linked fd);
}
