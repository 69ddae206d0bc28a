-- What is read of a queue's planes: an event does to the meanings what it does to the planes.
use Rattle.std.proofs.Common.{◌≡◌, ℕ, zero, suc, ◌+◌, ◌<◌, slice_set, slice_index_or, arith, Bool, true, false, not, ◌||◌, ◌&&◌, nat_le, cond, List, [], ◌∷◌, length, map, Option, Some, None, option_map, refl, sym, ◌∙◌, ap}
use Rattle.std.specs.Prelude.{is_some, count_by, slice_get}
use Rattle.std.specs.List.{fold, list_any}
use Rattle.loop_plane.specs.Plane.{Plane}
use Rattle.loop_plane.specs.declared.memory.Memory.{Memory}
use Rattle.loop_plane.specs.declared.memory.Memory.TheVariants.{Mmap, UserPtr, DmaBuf}
use Rattle.loop_vb2.specs.declared.buffer.Buffer.{Buffer}
use Rattle.loop_vb2.specs.declared.planes.PlaneSet.{PlaneSet}
use Rattle.loop_vb2.specs.Owner.{is_queued, is_ended}
use Rattle.loop_vb2.specs.Planes.{read_set}
use Rattle.loop_vb2.specs.Buffers.{change_at, state_at, holds_at, mapped_at, queued_with, prepared_with, wake_buffer, stop_buffer, dequeued_from, handed_over, read_buffer}
use Rattle.loop_vb2.proofs.Short.{kept, body_queued}
use Rattle.loop_vb2.specs.State.{Body, read_body}
use Rattle.loop_vb2.specs.Effects.{device_runs, settle_device, with_buffer, body_streaming, body_stopped}

module _ {P : Type 0} (meaning : P → Plane) where
  pub length_read : (bs : List (Buffer P)) → length (map (read_buffer meaning) bs) ≡ length bs
  length_read [] = refl
  length_read (b ∷ bs) = ap suc (length_read bs)

  pub state_read : (bs : List (Buffer P)) (i : ℕ) → state_at (map (read_buffer meaning) bs) i ≡ state_at bs i
  state_read [] i = refl
  state_read (b ∷ bs) zero = refl
  state_read (b ∷ bs) (suc i) = state_read bs i

  some_read : (planes : Option (PlaneSet P)) → is_some (option_map (read_set meaning) planes) ≡ is_some planes
  some_read None = refl
  some_read (Some set) = refl

  pub holds_read : (bs : List (Buffer P)) (i : ℕ) → holds_at (map (read_buffer meaning) bs) i ≡ holds_at bs i
  holds_read [] i = refl
  holds_read (b ∷ bs) zero = some_read b.planes
  holds_read (b ∷ bs) (suc i) = holds_read bs i

  pub mapped_read : (bs : List (Buffer P)) (i : ℕ) → mapped_at (map (read_buffer meaning) bs) i ≡ mapped_at bs i
  mapped_read [] i = refl
  mapped_read (b ∷ bs) zero = refl
  mapped_read (b ∷ bs) (suc i) = mapped_read bs i

  pub any_ended_read : (bs : List (Buffer P)) → list_any (λ x. is_ended x.state) (map (read_buffer meaning) bs) ≡
      list_any (λ x. is_ended x.state) bs
  any_ended_read [] = refl
  any_ended_read (b ∷ bs) = ap (λ t. is_ended b.state || t) (any_ended_read bs)

  pub get_read : (bs : List (Buffer P)) (i : ℕ) (b : Buffer P) → slice_get bs i ≡ Some b
      → slice_get (map (read_buffer meaning) bs) i ≡ Some (read_buffer meaning b)
  get_read [] i b e = absurd (cc)
  get_read (c ∷ cs) zero b e = ap (λ o. option_map (read_buffer meaning) o) e
  get_read (c ∷ cs) (suc i) b e = get_read cs i b e

  pub changed_read : (f : Buffer P → Buffer P) (g : Buffer Plane → Buffer Plane)
      → ((b : Buffer P) → read_buffer meaning (f b) ≡ g (read_buffer meaning b)) → (i : ℕ) (bs : List (Buffer P))
      → map (read_buffer meaning) (change_at f i bs) ≡ change_at g i (map (read_buffer meaning) bs)
  changed_read f g alike i [] = refl
  changed_read f g alike zero (b ∷ bs) = ap (λ c. c ∷ map (read_buffer meaning) bs) (alike b)
  changed_read f g alike (suc i) (b ∷ bs) = ap (λ cs. read_buffer meaning b ∷ cs) (changed_read f g alike i bs)

  -- a buffer that the code has written
  pub written_read : (g : Buffer Plane → Buffer Plane) (bs : List (Buffer P)) (x : ℕ) (b c : Buffer P) → x < length bs
      → b ≡ slice_index_or bs x b → read_buffer meaning c ≡ g (read_buffer meaning b)
      → map (read_buffer meaning) (slice_set bs x c) ≡ change_at g x (map (read_buffer meaning) bs)
  written_read g [] x b c h e d = absurd (omega arith)
  written_read g (z ∷ zs) zero b c h e d = ap (λ w. w ∷ map (read_buffer meaning) zs) (d ∙ ap (λ w. g (read_buffer meaning w)) e)
  written_read g (z ∷ zs) (suc x) b c h e d = ap (λ ws. read_buffer meaning z ∷ ws) (written_read g zs x b c (omega arith) e d)

  pub map_read : (f : Buffer P → Buffer P) (g : Buffer Plane → Buffer Plane)
      → ((b : Buffer P) → read_buffer meaning (f b) ≡ g (read_buffer meaning b)) → (bs : List (Buffer P))
      → map (read_buffer meaning) (map f bs) ≡ map g (map (read_buffer meaning) bs)
  map_read f g alike [] = refl
  map_read f g alike (b ∷ bs) = ap (λ c. c ∷ map (read_buffer meaning) (map f bs)) (alike b) ∙ ap (λ cs. g (read_buffer meaning b) ∷ cs) (map_read f g alike bs)

  pub queued_read : (planes : Option (PlaneSet P)) (b : Buffer P)
      → read_buffer meaning (queued_with planes b) ≡ queued_with (option_map (read_set meaning) planes)
      (read_buffer meaning b)
  queued_read None b = refl
  queued_read (Some set) b = refl

  pub prepared_read : (planes : Option (PlaneSet P)) (b : Buffer P)
      → read_buffer meaning (prepared_with planes b) ≡ prepared_with (option_map (read_set meaning) planes)
      (read_buffer meaning b)
  prepared_read None b = refl
  prepared_read (Some set) b = refl

  kept_read : (kind : Memory) (planes : Option (PlaneSet P)) → option_map (read_set meaning)
      (kept kind planes) ≡ kept kind (option_map (read_set meaning) planes)
  kept_read Mmap planes = refl
  kept_read UserPtr planes = refl
  kept_read DmaBuf planes = refl

  pub handed_read : (kind : Memory) (planes : Option (PlaneSet P)) → option_map (read_set meaning)
      (handed_over kind planes) ≡ handed_over kind (option_map (read_set meaning) planes)
  handed_read Mmap planes = refl
  handed_read UserPtr planes = refl
  handed_read DmaBuf planes = refl

  pub dequeued_read : (kind : Memory) (b : Buffer P) → read_buffer meaning (dequeued_from kind b) ≡ dequeued_from kind
      (read_buffer meaning b)
  dequeued_read kind b = ap (λ o. record (dequeued_from kind (read_buffer meaning b)) { planes = o }) (kept_read kind b.planes)

  -- one buffer changes
  pub with_read : (f : Buffer P → Buffer P) (g : Buffer Plane → Buffer Plane)
      → ((b : Buffer P) → read_buffer meaning (f b) ≡ g (read_buffer meaning b)) → (i : ℕ) (b : Body P)
      → read_body meaning (with_buffer f i b) ≡ with_buffer g i (read_body meaning b)
  with_read f g alike i b = ap (λ bs. record (read_body meaning b) { buffers = bs }) (changed_read f g alike i b.buffers)

  count_along : (a : ℕ) (bs : List (Buffer P)) → fold (λ s x. s + cond (is_queued x.state) 1 0) a
      (map (read_buffer meaning) bs) ≡ fold (λ s x. s + cond (is_queued x.state) 1 0) a bs
  count_along a [] = refl
  count_along a (b ∷ bs) = count_along (a + cond (is_queued b.state) 1 0) bs

  count_read : (bs : List (Buffer P)) → count_by (λ x. is_queued x.state) (map (read_buffer meaning) bs) ≡ count_by
      (λ x. is_queued x.state) bs
  count_read bs = count_along 0 bs

  settled_by : (t : Bool) (b : Body P)
      → read_body meaning (cond t (record b {
        started = true;
        fresh = b.fresh || not b.started;
        buffers =
            map wake_buffer b.buffers;
      }) b)
      ≡ cond t (record (read_body meaning b) {
        started = true;
        fresh = b.fresh || not b.started;
        buffers =
            map wake_buffer (map (read_buffer meaning) b.buffers);
      }) (read_body meaning b)
  settled_by true b = ap (λ bs. record (read_body meaning b) {
    started = true;
    fresh = b.fresh || not b.started;
    buffers = bs;
  }) (map_read wake_buffer wake_buffer (λ x. refl) b.buffers)
  settled_by false b = refl

  pub settled_read : (b : Body P) → read_body meaning (settle_device b) ≡ settle_device (read_body meaning b)
  settled_read b =
      settled_by (device_runs b) b
      ∙ ap (λ n. cond (b.streaming && (b.started || nat_le b.min_queued n))
      (record (read_body meaning b) {
        started = true;
        fresh = b.fresh || not b.started;
        buffers =
            map wake_buffer (map (read_buffer meaning) b.buffers);
      }) (read_body meaning b))
      (sym (count_read b.buffers))

  pub body_queued_read : (i : ℕ) (planes : Option (PlaneSet P)) (b : Body P)
      → read_body meaning (body_queued i planes b) ≡ body_queued i (option_map (read_set meaning) planes)
      (read_body meaning b)
  body_queued_read i planes b = settled_read (with_buffer (queued_with planes) i b)
      ∙ ap (λ (x : Body Plane). settle_device x)
      (with_read (queued_with planes) (queued_with (option_map (read_set meaning) planes)) (queued_read planes) i b)

  streaming_by : (t : Bool) (b : Body P)
      → read_body meaning (cond t b (settle_device (record b { streaming = true }))) ≡ cond t (read_body meaning b)
      (settle_device (record (read_body meaning b) { streaming = true }))
  streaming_by true b = refl
  streaming_by false b = settled_read (record b { streaming = true })

  pub streaming_read : (b : Body P) → read_body meaning (body_streaming b) ≡ body_streaming (read_body meaning b)
  streaming_read b = streaming_by b.streaming b

  pub stopped_read : (b : Body P) → read_body meaning (body_stopped b) ≡ body_stopped (read_body meaning b)
  stopped_read b = ap (λ bs. record (read_body meaning b) {
    streaming = false;
    started = false;
    fresh = false;
    fatal =
        false;
    buffers = bs;
  }) (map_read stop_buffer stop_buffer (λ x. refl) b.buffers)
