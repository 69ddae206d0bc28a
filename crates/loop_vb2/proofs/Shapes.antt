-- The shape of the frames stays, through each call.
use Rattle.std.proofs.Common.{◌≡◌, ℕ, true, false, ◌==◌, cond, List, [], Option, refl, ◌∙◌, ap}
use Rattle.loop_plane.specs.Plane.{Plane}
use Rattle.loop_plane.specs.declared.memory.Memory.{Memory}
use Rattle.loop_vb2.specs.declared.buffer.Buffer.{Buffer}
use Rattle.loop_vb2.specs.declared.planes.PlaneSet.{PlaneSet}
use Rattle.loop_vb2.specs.Buffers.{queued_with}
use Rattle.loop_vb2.specs.State.{Body, Lined, with_lines, read_body, read_lined}
use Rattle.loop_vb2.specs.Effects.{awake, device_runs, settle_device, with_buffer, body_streaming, body_stopped}
use Rattle.loop_vb2.proofs.Short.{body_queued}
use Rattle.loop_vb2.specs.Requests.{body_requested}

module _ {P : Type 0} where
  settled_shape : (b : Body P) → (settle_device b).shape ≡ b.shape
  settled_shape b = elim (device_runs b) as (λ t. (cond t (awake b) b).shape ≡ b.shape) [ true ↦ refl | false ↦ refl ]

  pub queued_shape : (index : ℕ) (planes : Option (PlaneSet P)) (before after : Lined P) (incoming done : List ℕ)
      → after ≡ with_lines (body_queued index planes before.body) incoming done → after.body.shape ≡ before.body.shape
  queued_shape index planes before after incoming done e = ap (λ c. c.body.shape) e ∙ settled_shape (with_buffer (queued_with planes) index before.body)

  pub streaming_shape : (before after : Lined P) (incoming done : List ℕ)
      → after ≡ with_lines (body_streaming before.body) incoming done → after.body.shape ≡ before.body.shape
  streaming_shape before after incoming done e =
      ap (λ c. c.body.shape) e
      ∙ elim before.body.streaming as (λ t. (cond t before.body (settle_device (record before.body { streaming = true }))).shape ≡ before.body.shape)
      [ true ↦ refl | false ↦ settled_shape (record before.body { streaming = true }) ]

  pub requested_shape : (count : ℕ) (kind : Memory) (sets : List (PlaneSet P)) (before after : Lined P)
      → after ≡ with_lines (body_requested count kind sets before.body) [] [] → after.body.shape ≡ before.body.shape
  requested_shape count kind sets before after e =
      ap (λ c. c.body.shape) e ∙ elim (count == 0) as
      (λ t. (cond t (body_stopped before.body) before.body).shape ≡ before.body.shape) [
        | true ↦ refl
        | false ↦
            refl
      ]

  -- one buffer changed
  pub changed_shape : (f : Buffer P → Buffer P) (index : ℕ) (before after : Lined P) (incoming done : List ℕ)
      → after ≡ with_lines (with_buffer f index before.body) incoming done → after.body.shape ≡ before.body.shape
  changed_shape f index before after incoming done e = ap (λ c. c.body.shape) e

  -- likewise, where the planes are read as what they mean
  pub filled_shape : (m : P → Plane) (f : Buffer Plane → Buffer Plane) (index : ℕ) (before after : Lined P)
      (incoming done : List ℕ) → read_lined m after ≡ with_lines (with_buffer f index (read_body m before.body))
      incoming done → after.body.shape ≡ before.body.shape
  filled_shape m f index before after incoming done e = ap (λ c. c.body.shape) e
