-- The frames of a queue's buffers through the events of its model: what is taken of a buffer is what it was completed with.
use Rattle.std.proofs.Common.{◌≡◌, ℕ, zero, suc, ◌<◌, Bool, true, false, ◌||◌, ◌==◌, cond, List, [], ◌∷◌, ◌++◌, length, map, Option, Some, None, Ok, Err, refl, sym, ◌∙◌, ap, subst, append_assoc, arith}
use Rattle.std.specs.Prelude.{is_some, slice_get}
use Rattle.std.specs.List.{flat_map, list_any}
use Rattle.std.proofs.lemmas.Grind.{flat_map-append}
use Rattle.std.proofs.lemmas.List.{append-nil, map-append}
use Rattle.loop_plane.specs.Plane.{Plane}
use Rattle.loop_plane.specs.declared.memory.Memory.{Memory}
use Rattle.loop_record.specs.declared.geometry.PixelFormat.{PixelFormat}
use Rattle.loop_record.specs.Recording.{Picture}
use Rattle.loop_record.specs.Turns.{EachIn, after_all}
use Rattle.loop_vb2.specs.declared.buffer.Buffer.{Buffer}
use Rattle.loop_vb2.specs.declared.buffer.Stamp.{Stamp}
use Rattle.loop_vb2.specs.declared.planes.PlaneSet.{PlaneSet}
use Rattle.loop_vb2.specs.declared.planes.Shape.{Shape}
use Rattle.loop_vb2.specs.declared.state.BufferState.{BufferState}
use Rattle.loop_vb2.specs.declared.state.BufferState.TheVariants.{Dequeued, Prepared, Queued, Active, Done, Error}
use Rattle.loop_vb2.specs.Buffers.{change_at, state_at, holds_at, wake_buffer, stop_buffer, queued_with, prepared_with, failed_with, dequeued_from}
use Rattle.loop_vb2.proofs.Short.{completed_with, mapped_as, without_planes, AllFit}
use Rattle.loop_vb2.specs.Checks.{queue_checks, take_checks}
use Rattle.loop_vb2.specs.Refusals.{queue_refusal, prepare_refusal, end_refusal}
use Rattle.loop_vb2.specs.Effects.{awake, device_runs, settle_device, with_buffer, body_streaming, body_stopped}
use Rattle.loop_vb2.specs.Events as model
use Rattle.loop_vb2.specs.Events.{Event, dequeued_by, ended_by, stops}
use Rattle.loop_vb2.specs.First.{shape_of}
use Rattle.loop_vb2.specs.Lines.{lists, Once}
use Rattle.loop_vb2.specs.Owner.{waits, is_ended, is_dequeued, activate}
use Rattle.loop_vb2.specs.Planes.{alike, frame_size, has_count}
use Rattle.loop_vb2.specs.Requests.{grants_or_none, new_buffers}
use Rattle.loop_vb2.specs.State.{Body, QueueState, BufferFits, EachFits}
use Rattle.loop_vb2.proofs.SetSizes.{fit_queued, fit_prepared, fit_completed, fit_failed, fit_dequeued, fit_mapped, fit_emptied, fit_requested, fit_stopped, fit_streaming}
use Rattle.loop_vb2.proofs.StepEvents.{active_ended_not, active_waits, dequeued_idle, idle_ended_not, idle_waits_not, prepared_state, waits_woken}
use Rattle.loop_vb2.proofs.Lines.{Rising-once, not_both, or_right, tested}
use Rattle.loop_vb2.proofs.FrameOrder.{Runs, Next, next, not_refused, first_off, second_off}
use Rattle.loop_vb2.proofs.PassedChecks.{Passed, all_passed, true_of}
use Rattle.loop_vb2.proofs.ListTests.{new_state}
use Rattle.loop_vb2.proofs.States.{state_at-map}
use Rattle.loop_vb2.proofs.Steps.{queue_idle, prepare_dequeued, end_within, end_active, held_there}
use Rattle.loop_desk.specs.Front.{taken_frame, was_given_up}
use Rattle.loop_desk.proofs.Short.{taken_bytes}
use Rattle.loop_desk.specs.Waiting.{AllHeld, IsCounted, IsHeld, BringsWhole, completed_frame, dequeued_frame, frames_dequeued, shot, without_flags}
use Rattle.loop_desk.proofs.CompleteFrames.{whole_taken}

pub get-within : {X : Type 0} (xs : List X) (i : ℕ) → i < length xs → (x : X) × (slice_get xs i ≡ Some x)
get-within [] i h = absurd (omega arith)
get-within (x ∷ xs) zero h = (x, refl)
get-within (x ∷ xs) (suc i) h = get-within xs i (omega arith)

-- ---- the frames of buffers

-- that of a buffer but for its flags
abbrev pub bare : Shape → Option (Buffer Plane) → List Picture
bare shape o = map without_flags (shot shape o)

abbrev pub shots : Shape → List (Buffer Plane) → List ℕ → List Picture
shots shape bs line = flat_map (λ i. bare shape (slice_get bs i)) line

-- frames that differ in their flags alone, unless they were given up
bare_same : (given_up : Bool) (p q : Picture) → without_flags p ≡ without_flags q
    → map without_flags (cond given_up [] (p ∷ [])) ≡ map without_flags (cond given_up [] (q ∷ []))
bare_same true p q e = refl
bare_same false p q e = ap (λ x. x ∷ []) e

got_other : {X : Type 0} (f : X → X) (xs : List X) (x i : ℕ) → (i ≡ x → ⊥)
    → slice_get (change_at f x xs) i ≡ slice_get xs i
got_other f [] x i h = refl
got_other f (y ∷ ys) zero zero h = absurd (h refl)
got_other f (y ∷ ys) zero (suc i) h = refl
got_other f (y ∷ ys) (suc x) zero h = refl
got_other f (y ∷ ys) (suc x) (suc i) h = got_other f ys x i (λ e. h (ap suc e))

got_here : {X : Type 0} (f : X → X) (xs : List X) (x : ℕ) (y : X) → slice_get xs x ≡ Some y
    → slice_get (change_at f x xs) x ≡ Some (f y)
got_here f [] x y e = absurd (cc)
got_here f (z ∷ zs) zero y e = let g : z ≡ y = cc in ap (λ w. Some (f w)) g
got_here f (z ∷ zs) (suc x) y e = got_here f zs x y e

state_got : (bs : List (Buffer Plane)) (index : ℕ) (b : Buffer Plane) → slice_get bs index ≡ Some b
    → state_at bs index ≡ b.state
state_got [] index b e = absurd (cc)
state_got (x ∷ bs) zero b e = let g : x ≡ b = cc in ap (λ y. y.state) g
state_got (x ∷ bs) (suc index) b e = state_got bs index b e

shot_kept : (sh : Shape) (f : Buffer Plane → Buffer Plane)
    → ((b : Buffer Plane) → bare sh (Some (f b)) ≡ bare sh (Some b)) → (bs : List (Buffer Plane)) (x i : ℕ)
    → bare sh (slice_get (change_at f x bs) i) ≡ bare sh (slice_get bs i)
shot_kept sh f h [] x i = refl
shot_kept sh f h (b ∷ bs) zero zero = h b
shot_kept sh f h (b ∷ bs) zero (suc i) = refl
shot_kept sh f h (b ∷ bs) (suc x) zero = refl
shot_kept sh f h (b ∷ bs) (suc x) (suc i) = shot_kept sh f h bs x i

shot_map : (sh : Shape) (f : Buffer Plane → Buffer Plane)
    → ((b : Buffer Plane) → bare sh (Some (f b)) ≡ bare sh (Some b)) → (bs : List (Buffer Plane)) (i : ℕ)
    → bare sh (slice_get (map f bs) i) ≡ bare sh (slice_get bs i)
shot_map sh f h [] i = refl
shot_map sh f h (b ∷ bs) zero = h b
shot_map sh f h (b ∷ bs) (suc i) = shot_map sh f h bs i

given_up_woken : (t : BufferState) → was_given_up (activate t) ≡ was_given_up t
given_up_woken Dequeued = refl
given_up_woken Prepared = refl
given_up_woken Queued = refl
given_up_woken Active = refl
given_up_woken Done = refl
given_up_woken Error = refl

shot_woken : (sh : Shape) (b : Buffer Plane) → bare sh (Some (wake_buffer b)) ≡ bare sh (Some b)
shot_woken sh b = ap (λ t. map without_flags (cond t [] (taken_frame sh (wake_buffer b) ∷ []))) (given_up_woken b.state)
    ∙ bare_same (was_given_up b.state) (taken_frame sh (wake_buffer b)) (taken_frame sh b) refl

shot_mapped : (sh : Shape) (mapped : Bool) (b : Buffer Plane) → bare sh (Some (mapped_as mapped b)) ≡ bare sh (Some b)
shot_mapped sh mapped b = bare_same (was_given_up b.state) (taken_frame sh (mapped_as mapped b)) (taken_frame sh b) refl

shot_settled : (sh : Shape) (b : Body Plane) (i : ℕ) → bare sh (slice_get (settle_device b).buffers i) ≡ bare sh
    (slice_get b.buffers i)
shot_settled sh b i = elim (device_runs b) as (λ t. bare sh (slice_get (cond t (awake b) b).buffers i) ≡ bare sh
    (slice_get b.buffers i)) [ true ↦ shot_map sh wake_buffer (shot_woken sh) b.buffers i | false ↦ refl ]

shot_streaming : (sh : Shape) (b : Body Plane) (i : ℕ) → bare sh (slice_get (body_streaming b).buffers i) ≡ bare sh
    (slice_get b.buffers i)
shot_streaming sh b i = elim b.streaming as
    (λ t. bare sh (slice_get (cond t b (settle_device (record b { streaming = true }))).buffers i) ≡ bare sh
    (slice_get b.buffers i)) [ true ↦ refl | false ↦ shot_settled sh (record b { streaming = true }) i ]

shots_same : (sh : Shape) (bs cs : List (Buffer Plane)) (line : List ℕ)
    → ((i : ℕ) → lists line i ≡ true → bare sh (slice_get cs i) ≡ bare sh (slice_get bs i))
    → shots sh cs line ≡ shots sh bs line
shots_same sh bs cs [] h = refl
shots_same sh bs cs (k ∷ ks) h =
    let here = h k (ap (λ t. t || lists ks k) (tested k k refl)) in
    let rest = shots_same sh bs cs ks (λ i l. h i (or_right (k == i) (lists ks i) l)) in
    λ i. here i ++ rest i

-- a buffer that hasn't ended isn't in the line
apart_of : (s : QueueState) (line : List ℕ) → Runs s line → (x : ℕ) → is_ended (state_at s.body.buffers x) ≡ false
    → (i : ℕ) → lists line i ≡ true → i ≡ x → ⊥
apart_of s line r x off i there e = not_both (lists line i) there (r.shows.done.listed i ∙ (ap (λ j. is_ended (state_at s.body.buffers j)) e ∙ off))

shots_beside : (s : QueueState) (line : List ℕ) → Runs s line → (f : Buffer Plane → Buffer Plane) (x : ℕ)
    → is_ended (state_at s.body.buffers x) ≡ false → shots s.body.shape (change_at f x s.body.buffers) line ≡ shots
    s.body.shape s.body.buffers line
shots_beside s line r f x off = shots_same s.body.shape s.body.buffers (change_at f x s.body.buffers) line
    (λ i there. ap (bare s.body.shape) (got_other f s.body.buffers x i (apart_of s line r x off i there)))

-- ---- a buffer that waits for a frame holds planes

held_changed : (f : Buffer Plane → Buffer Plane) (bs : List (Buffer Plane)) (x : ℕ)
    → ((b : Buffer Plane) → slice_get bs x ≡ Some b → IsHeld b → IsHeld (f b)) → AllHeld bs → AllHeld (change_at f x bs)
held_changed f [] x h held = tt
held_changed f (b ∷ bs) zero h held = (h b refl held.0, held.1)
held_changed f (b ∷ bs) (suc x) h held = (held.0, held_changed f bs x h held.1)

held_map : (f : Buffer Plane → Buffer Plane) (bs : List (Buffer Plane))
    → ((b : Buffer Plane) → IsHeld b → IsHeld (f b)) → AllHeld bs → AllHeld (map f bs)
held_map f [] h held = tt
held_map f (b ∷ bs) h held = (h b held.0, held_map f bs h held.1)

held_got : (bs : List (Buffer Plane)) (x : ℕ) (b : Buffer Plane) → slice_get bs x ≡ Some b → AllHeld bs → IsHeld b
held_got [] x b e held = absurd (cc)
held_got (y ∷ ys) zero b e held = let g : y ≡ b = cc in subst (λ (z : Buffer Plane). IsHeld z) g held.0
held_got (y ∷ ys) (suc x) b e held = held_got ys x b e held.1

pub held_none : (bs : List (Buffer Plane)) → ((i : ℕ) → waits (state_at bs i) ≡ false) → AllHeld bs
held_none [] h = tt
held_none (b ∷ bs) h = ((λ w. absurd (not_both (waits b.state) w (h zero))), held_none bs (λ i. h (suc i)))

held_settled : (b : Body Plane) → AllHeld b.buffers → AllHeld (settle_device b).buffers
held_settled b held = elim (device_runs b) as
    (λ t. AllHeld (cond t (awake b) b).buffers) [
      | true ↦ held_map wake_buffer b.buffers
          (λ x h w. h (sym (waits_woken x.state) ∙ w)) held
      | false ↦ held
    ]

held_queued : (given : Option (PlaneSet Plane)) (bs : List (Buffer Plane)) (x : ℕ)
    → alike (is_some given) (holds_at bs x) ≡ false → AllHeld bs → AllHeld (change_at (queued_with given) x bs)
held_queued None bs x e held = held_changed (queued_with None) bs x (λ b got was w. sym (held_there bs x b got) ∙ true_of (holds_at bs x) e) held
held_queued (Some set) bs x e held = held_changed (queued_with (Some set)) bs x (λ b got was w. refl) held

-- ---- what every event keeps

shape_settled : (b : Body Plane) → (settle_device b).shape ≡ b.shape
shape_settled b = elim (device_runs b) as (λ t. (cond t (awake b) b).shape ≡ b.shape) [ true ↦ refl | false ↦ refl ]

kept_shape : (s : QueueState) (e : Event) → (model.after_event s e).body.shape ≡ s.body.shape
kept_shape s (model.reqbufs count kind sets (Ok g)) =
    elim (count == 0) as (λ t. (cond t (body_stopped s.body) s.body).shape ≡ s.body.shape) [
      | true ↦ refl
      | false ↦
          refl
    ]
kept_shape s (model.qbuf index kind given None) = shape_settled (with_buffer (queued_with given) index s.body)
kept_shape s (model.streamon None) =
    elim s.body.streaming as (λ t. (cond t s.body (settle_device (record s.body { streaming = true }))).shape ≡
    s.body.shape) [ true ↦ refl | false ↦ shape_settled (record s.body { streaming = true }) ]
kept_shape s (model.reqbufs count kind sets (Err x)) = refl
kept_shape s (model.prepare_buf index kind given None) = refl
kept_shape s (model.prepare_buf index kind given (Some x)) = refl
kept_shape s (model.qbuf index kind given (Some x)) = refl
kept_shape s (model.dqbuf (Ok d)) = refl
kept_shape s (model.dqbuf (Err x)) = refl
kept_shape s (model.streamon (Some x)) = refl
kept_shape s model.streamoff = refl
kept_shape s (model.querybuf index answer) = refl
kept_shape s (model.mmap index None) = refl
kept_shape s (model.mmap index (Some x)) = refl
kept_shape s (model.munmap index None) = refl
kept_shape s (model.munmap index (Some x)) = refl
kept_shape s (model.take_planes index (Ok set)) = refl
kept_shape s (model.take_planes index (Err x)) = refl
kept_shape s (model.copy_plane index plane at count answer) = refl
kept_shape s (model.complete index stamp bytes None) = refl
kept_shape s (model.complete index stamp bytes (Some x)) = refl
kept_shape s (model.fail index stamp None) = refl
kept_shape s (model.fail index stamp (Some x)) = refl
kept_shape s model.fatal = refl
kept_shape s (model.take_fresh fresh) = refl

kept_fit : (s : QueueState) (e : Event) → model.MayHappen s e → BringsWhole s e → AllFit s.body
    → AllFit (model.after_event s e).body
kept_fit s (model.reqbufs count kind sets (Ok g)) a w fit = fit_requested count kind sets s.body a.0
kept_fit s (model.reqbufs count kind sets (Err x)) a w fit = fit
kept_fit s (model.prepare_buf index kind given None) a w fit = fit_prepared index kind given s.body
    (not_refused (prepare_refusal index kind given s.body) a) fit
kept_fit s (model.prepare_buf index kind given (Some x)) a w fit = fit
kept_fit s (model.qbuf index kind given None) a w fit = fit_queued index kind given s.body (not_refused (queue_refusal index kind given s.body) a) fit
kept_fit s (model.qbuf index kind given (Some x)) a w fit = fit
kept_fit s (model.dqbuf (Ok d)) a w fit = fit_dequeued d.index s.body fit
kept_fit s (model.dqbuf (Err x)) a w fit = fit
kept_fit s (model.streamon None) a w fit = fit_streaming s.body fit
kept_fit s (model.streamon (Some x)) a w fit = fit
kept_fit s model.streamoff a w fit = fit_stopped s.body fit
kept_fit s (model.querybuf index answer) a w fit = fit
kept_fit s (model.mmap index None) a w fit = fit_mapped true index s.body fit
kept_fit s (model.mmap index (Some x)) a w fit = fit
kept_fit s (model.munmap index None) a w fit = fit_mapped false index s.body fit
kept_fit s (model.munmap index (Some x)) a w fit = fit
kept_fit s (model.take_planes index (Ok set)) a w fit = fit_emptied index s.body fit
kept_fit s (model.take_planes index (Err x)) a w fit = fit
kept_fit s (model.copy_plane index plane at count answer) a w fit = fit
kept_fit s (model.complete index stamp bytes None) a w fit = fit_completed index stamp bytes s.body w fit
kept_fit s (model.complete index stamp bytes (Some x)) a w fit = fit
kept_fit s (model.fail index stamp None) a w fit = fit_failed index stamp s.body fit
kept_fit s (model.fail index stamp (Some x)) a w fit = fit
kept_fit s model.fatal a w fit = fit
kept_fit s (model.take_fresh fresh) a w fit = fit

-- planes were taken out of a dequeued buffer
take_dequeued : (s : QueueState) (index : ℕ) (set : PlaneSet Plane)
    → model.MayHappen s (model.take_planes index (Ok set)) → is_dequeued (state_at s.body.buffers index) ≡ true
take_dequeued s index set a = let p : Passed (take_checks index s.body) = all_passed (take_checks index s.body) a.0 in
    true_of (is_dequeued (state_at s.body.buffers index)) p.1.1.0

kept_held : (s : QueueState) (e : Event) → model.MayHappen s e → AllHeld s.body.buffers
    → AllHeld (model.after_event s e).body.buffers
kept_held s (model.reqbufs count kind sets (Ok g)) a held =
    held_none (new_buffers (grants_or_none s.body.min_queued count) sets)
    (λ i. ap waits (new_state (grants_or_none s.body.min_queued count) sets i))
kept_held s (model.reqbufs count kind sets (Err x)) a held = held
kept_held s (model.prepare_buf index kind given None) a held = held_changed (prepared_with given) s.body.buffers index
    (λ b got was w. absurd (not_both (waits (prepared_with given b).state) w (ap waits (prepared_state given b)))) held
kept_held s (model.prepare_buf index kind given (Some x)) a held = held
kept_held s (model.qbuf index kind given None) a held =
    let p : Passed (queue_checks index kind given s.body) = all_passed (queue_checks index kind given s.body)
    (not_refused (queue_refusal index kind given s.body) a) in
    held_settled (with_buffer (queued_with given) index s.body)
    (held_queued given s.body.buffers index
    (first_off (alike (is_some given) (holds_at s.body.buffers index)) _ p.1.1.0) held)
kept_held s (model.qbuf index kind given (Some x)) a held = held
kept_held s (model.dqbuf (Ok d)) a held = held_changed (dequeued_from s.body.kind) s.body.buffers d.index (λ b got was w. absurd (not_both false w refl)) held
kept_held s (model.dqbuf (Err x)) a held = held
kept_held s (model.streamon None) a held =
    elim s.body.streaming as (λ t. AllHeld
    (cond t s.body (settle_device (record s.body { streaming = true }))).buffers) [
      | true ↦ held
      | false ↦ held_settled
          (record s.body { streaming = true }) held
    ]
kept_held s (model.streamon (Some x)) a held = held
kept_held s model.streamoff a held = held_map stop_buffer s.body.buffers (λ b was w. absurd (not_both false w refl)) held
kept_held s (model.querybuf index answer) a held = held
kept_held s (model.mmap index None) a held = held_changed (mapped_as true) s.body.buffers index (λ b got was. was) held
kept_held s (model.mmap index (Some x)) a held = held
kept_held s (model.munmap index None) a held = held_changed (mapped_as false) s.body.buffers index (λ b got was. was) held
kept_held s (model.munmap index (Some x)) a held = held
kept_held s (model.take_planes index (Ok set)) a held =
    held_changed without_planes s.body.buffers index
    (λ b got was w. absurd (not_both (waits b.state) w (ap waits (sym (state_got s.body.buffers index b got))
    ∙ idle_waits_not (state_at s.body.buffers index)
    (dequeued_idle (state_at s.body.buffers index) (take_dequeued s index set a))))) held
kept_held s (model.take_planes index (Err x)) a held = held
kept_held s (model.copy_plane index plane at count answer) a held = held
kept_held s (model.complete index stamp bytes None) a held =
    held_changed (completed_with s.body.shape stamp bytes) s.body.buffers index
    (λ b got was w. absurd (not_both false w refl)) held
kept_held s (model.complete index stamp bytes (Some x)) a held = held
kept_held s (model.fail index stamp None) a held = held_changed (failed_with stamp) s.body.buffers index (λ b got was w. absurd (not_both false w refl)) held
kept_held s (model.fail index stamp (Some x)) a held = held
kept_held s model.fatal a held = held
kept_held s (model.take_fresh fresh) a held = held

-- a queue's frames are of this shape, each set in a buffer fits, and a buffer that waits for a frame holds planes
pub record IsHolding (sh : Shape) (s : QueueState) : Type 0 where
  pub shaped : s.body.shape ≡ sh
  pub fit : AllFit s.body
  pub held : AllHeld s.body.buffers

-- ---- the frames through one event

some_there : {X : Type 0} (o : Option X) → is_some o ≡ true → (x : X) × (o ≡ Some x)
some_there None e = absurd (cc)
some_there (Some x) e = (x, refl)

fits_got : (sh : Shape) (kind : Memory) (bs : List (Buffer Plane)) (x : ℕ) (b : Buffer Plane)
    → slice_get bs x ≡ Some b → EachFits sh kind bs → BufferFits sh kind b
fits_got sh kind [] x b e fit = absurd (cc)
fits_got sh kind (y ∷ ys) zero b e fit = let g : y ≡ b = cc in subst (λ (z : Buffer Plane). BufferFits sh kind z) g fit.0
fits_got sh kind (y ∷ ys) (suc x) b e fit = fits_got sh kind ys x b e fit.1

none_listed : (line : List ℕ) → ((i : ℕ) → lists line i ≡ false) → line ≡ []
none_listed [] h = refl
none_listed (k ∷ ks) h = absurd (not_both (lists (k ∷ ks) k) (ap (λ t. t || lists ks k) (tested k k refl)) (h k))

-- neither an end nor a dequeue
idle_frames : (sh : Shape) (bs cs : List (Buffer Plane)) (line rest : List ℕ) → line ++ [] ≡ rest
    → shots sh cs line ≡ shots sh bs line → shots sh bs line ++ [] ≡ shots sh cs rest
idle_frames sh bs cs line rest joined same = append-nil (shots sh bs line) ∙ (sym same ∙ ap (shots sh cs) (sym (append-nil line) ∙ joined))

-- a frame that ends joins the others
ended_frames : (sh : Shape) (bs cs : List (Buffer Plane)) (line rest : List ℕ) (index : ℕ) (new : List Picture) → line
    ++ index ∷ [] ≡ rest → shots sh cs line ≡ shots sh bs line → bare sh (slice_get cs index) ++ [] ≡ new
    → shots sh bs line ++ new ≡ shots sh cs rest
ended_frames sh bs cs line rest index new joined same is =
    ap (λ l. l ++ new) (sym same) ∙ (ap (λ l. shots sh cs line ++ l) (sym is)
    ∙ (sym (flat_map-append (λ i. bare sh (slice_get cs i)) line (index ∷ [])) ∙ ap (shots sh cs) joined))

-- the first is taken
taken_frames : (sh : Shape) (bs cs : List (Buffer Plane)) (line rest : List ℕ) (index : ℕ) → line ++ [] ≡ index ∷ rest
    → shots sh cs rest ≡ shots sh bs rest → shots sh bs line ++ [] ≡ bare sh (slice_get bs index) ++ shots sh cs rest
taken_frames sh bs cs line rest index joined same = append-nil (shots sh bs line)
    ∙ (ap (shots sh bs) (sym (append-nil line) ∙ joined) ∙ ap (λ l. bare sh (slice_get bs index) ++ l) (sym same))

module _ (format : PixelFormat) (width height : ℕ) where
  -- what was completed with a whole frame has its bytes
  whole_there : (s : QueueState) (index : ℕ) (stamp : Stamp) (bytes : List ℕ) (b : Buffer Plane)
      → IsHolding (shape_of format width height) s → end_refusal index s.body ≡ None
      → length bytes ≡ frame_size s.body.shape → slice_get s.body.buffers index ≡ Some b
      → taken_bytes s.body.shape (completed_with s.body.shape stamp bytes b) ≡ bytes
  whole_there s index stamp bytes b c passed whole got =
      let waiting : waits b.state ≡ true = ap waits (sym (state_got s.body.buffers index b got))
      ∙ active_waits (state_at s.body.buffers index) (end_active index s.body passed) in
      let set = some_there b.planes (held_got s.body.buffers index b got c.held waiting) in
      let fits = fits_got s.body.shape s.body.kind s.body.buffers index b got c.fit set.0 set.1 in
      subst (λ (x : Shape). taken_bytes x (completed_with x stamp bytes b) ≡ bytes) (sym c.shaped)
      (whole_taken format width height stamp bytes b set.0 set.1
      (subst (λ (x : Shape). has_count x.count set.0 ≡ true) c.shaped fits.counted)
      (whole ∙ ap frame_size c.shaped))

  frames_next : (s : QueueState) (e : Event) (line : List ℕ) → Runs s line → (n : Next s e line)
      → IsHolding (shape_of format width height) s → stops e ≡ false → model.MayHappen s e → BringsWhole s e
      → shots s.body.shape s.body.buffers line ++ completed_frame e ≡ map without_flags (dequeued_frame s e) ++ shots
      s.body.shape (model.after_event s e).body.buffers n.rest
  frames_next s (model.reqbufs count kind sets (Ok g)) line r n c on a w =
      let new = new_buffers (grants_or_none s.body.min_queued count) sets in
      let none : n.rest ≡ [] = none_listed n.rest (λ i. n.runs.shows.done.listed i ∙ ap is_ended (new_state (grants_or_none s.body.min_queued count) sets i)) in
      ap (λ l. shots s.body.shape s.body.buffers l ++ []) (sym (append-nil line) ∙ (n.joined ∙ none)) ∙ sym (ap (shots s.body.shape new) none)
  frames_next s (model.reqbufs count kind sets (Err x)) line r n c on a w = idle_frames s.body.shape s.body.buffers s.body.buffers line n.rest n.joined refl
  frames_next s (model.prepare_buf index kind given None) line r n c on a w =
      let bs = s.body.buffers in
      let off = idle_ended_not (state_at bs index)
      (dequeued_idle (state_at bs index)
      (prepare_dequeued index kind given s.body (not_refused (prepare_refusal index kind given s.body) a))) in
      idle_frames s.body.shape bs (change_at (prepared_with given) index bs) line n.rest n.joined (shots_beside s line r (prepared_with given) index off)
  frames_next s (model.prepare_buf index kind given (Some x)) line r n c on a w =
      idle_frames s.body.shape s.body.buffers s.body.buffers line n.rest n.joined refl
  frames_next s (model.qbuf index kind given None) line r n c on a w =
      let bs = s.body.buffers in
      let sh = s.body.shape in
      let mid : Body Plane = with_buffer (queued_with given) index s.body in
      let off = idle_ended_not (state_at bs index) (queue_idle index kind given s.body (not_refused (queue_refusal index kind given s.body) a)) in
      idle_frames sh bs (settle_device mid).buffers line n.rest n.joined
      (shots_same sh bs (settle_device mid).buffers line (λ i there. shot_settled sh mid i
      ∙ ap (bare sh) (got_other (queued_with given) bs index i (apart_of s line r index off i there))))
  frames_next s (model.qbuf index kind given (Some x)) line r n c on a w = idle_frames s.body.shape s.body.buffers s.body.buffers line n.rest n.joined refl
  frames_next s (model.dqbuf (Ok d)) line r n c on a w =
      let bs = s.body.buffers in
      let sh = s.body.shape in
      let is : line ≡ d.index ∷ n.rest = sym (append-nil line) ∙ n.joined in
      let once : Once (d.index ∷ n.rest) = subst (λ (l : List ℕ). Once l) is (Rising-once s.end_number line r.shows.done.rising) in
      taken_frames sh bs (change_at (dequeued_from s.body.kind) d.index bs) line n.rest d.index n.joined
      (shots_same sh bs (change_at (dequeued_from s.body.kind) d.index bs) n.rest
      (λ i there. ap (bare sh) (got_other (dequeued_from s.body.kind) bs d.index i
      (λ e. not_both (lists n.rest i) there (ap (lists n.rest) e ∙ once.0)))))
  frames_next s (model.dqbuf (Err x)) line r n c on a w = idle_frames s.body.shape s.body.buffers s.body.buffers line n.rest n.joined refl
  frames_next s (model.streamon None) line r n c on a w = idle_frames s.body.shape s.body.buffers
      (body_streaming s.body).buffers line n.rest n.joined
      (shots_same s.body.shape s.body.buffers (body_streaming s.body).buffers line
      (λ i there. shot_streaming s.body.shape s.body i))
  frames_next s (model.streamon (Some x)) line r n c on a w = idle_frames s.body.shape s.body.buffers s.body.buffers line n.rest n.joined refl
  frames_next s model.streamoff line r n c on a w = absurd (cc)
  frames_next s (model.querybuf index answer) line r n c on a w = idle_frames s.body.shape s.body.buffers s.body.buffers line n.rest n.joined refl
  frames_next s (model.mmap index None) line r n c on a w =
      idle_frames s.body.shape s.body.buffers (change_at (mapped_as true) index s.body.buffers) line n.rest n.joined
      (shots_same s.body.shape s.body.buffers (change_at (mapped_as true) index s.body.buffers) line
      (λ i there. shot_kept s.body.shape (mapped_as true) (shot_mapped s.body.shape true) s.body.buffers index i))
  frames_next s (model.mmap index (Some x)) line r n c on a w = idle_frames s.body.shape s.body.buffers s.body.buffers line n.rest n.joined refl
  frames_next s (model.munmap index None) line r n c on a w =
      idle_frames s.body.shape s.body.buffers (change_at (mapped_as false) index s.body.buffers) line n.rest n.joined
      (shots_same s.body.shape s.body.buffers (change_at (mapped_as false) index s.body.buffers) line
      (λ i there. shot_kept s.body.shape (mapped_as false) (shot_mapped s.body.shape false) s.body.buffers index i))
  frames_next s (model.munmap index (Some x)) line r n c on a w = idle_frames s.body.shape s.body.buffers s.body.buffers line n.rest n.joined refl
  frames_next s (model.take_planes index (Ok set)) line r n c on a w =
      let bs = s.body.buffers in
      idle_frames s.body.shape bs (change_at without_planes index bs) line n.rest n.joined
      (shots_beside s line r without_planes index
      (idle_ended_not (state_at bs index) (dequeued_idle (state_at bs index) (take_dequeued s index set a))))
  frames_next s (model.take_planes index (Err x)) line r n c on a w = idle_frames s.body.shape s.body.buffers s.body.buffers line n.rest n.joined refl
  frames_next s (model.copy_plane index plane at count answer) line r n c on a w =
      idle_frames s.body.shape s.body.buffers s.body.buffers line n.rest n.joined refl
  frames_next s (model.complete index stamp bytes None) line r n c on a w =
      let bs = s.body.buffers in
      let sh = s.body.shape in
      let f : Buffer Plane → Buffer Plane = completed_with sh stamp bytes in
      let passed = not_refused (end_refusal index s.body) a in
      let at = get-within bs index (end_within index s.body passed) in
      ended_frames sh bs (change_at f index bs) line n.rest index
      (completed_frame (model.complete index stamp bytes None)) n.joined
      (shots_beside s line r f index (active_ended_not (state_at bs index) (end_active index s.body passed)))
      (ap (λ o. bare sh o ++ []) (got_here f bs index at.0 at.1)
      ∙ ap (λ (l : List ℕ). record { sequence = stamp.sequence; flags = 0; timestamp = stamp.timestamp; bytes = l }
      ∷ []) (whole_there s index stamp bytes at.0 c passed w at.1))
  frames_next s (model.complete index stamp bytes (Some x)) line r n c on a w = idle_frames s.body.shape s.body.buffers s.body.buffers line n.rest n.joined refl
  frames_next s (model.fail index stamp None) line r n c on a w =
      let bs = s.body.buffers in
      let sh = s.body.shape in
      let f : Buffer Plane → Buffer Plane = failed_with stamp in
      let passed = not_refused (end_refusal index s.body) a in
      let at = get-within bs index (end_within index s.body passed) in
      ended_frames sh bs (change_at f index bs) line n.rest index [] n.joined
      (shots_beside s line r f index (active_ended_not (state_at bs index) (end_active index s.body passed)))
      (ap (λ o. bare sh o ++ []) (got_here f bs index at.0 at.1))
  frames_next s (model.fail index stamp (Some x)) line r n c on a w = idle_frames s.body.shape s.body.buffers s.body.buffers line n.rest n.joined refl
  frames_next s model.fatal line r n c on a w = idle_frames s.body.shape s.body.buffers s.body.buffers line n.rest n.joined refl
  frames_next s (model.take_fresh fresh) line r n c on a w = idle_frames s.body.shape s.body.buffers s.body.buffers line n.rest n.joined refl

-- ---- through a list

glued : {X : Type 0} (line ended taken next all_ended all_taken rest : List X) → line ++ ended ≡ taken ++ next → next
    ++ all_ended ≡ all_taken ++ rest → line ++ (ended ++ all_ended) ≡ (taken ++ all_taken) ++ rest
glued line ended taken next all_ended all_taken rest e f =
    sym (append_assoc line ended all_ended)
    ∙ (ap (λ l. l ++ all_ended) e ∙ (append_assoc taken next all_ended ∙ (ap (λ l. taken ++ l) f ∙ sym (append_assoc taken all_taken rest))))

pub all_fit : (s : QueueState) (events : List Event) → EachIn model.after_event IsCounted s events → AllFit s.body
    → AllFit (after_all model.after_event s events).body
all_fit s [] each fit = fit
all_fit s (e ∷ es) each fit = all_fit (model.after_event s e) es each.1 (kept_fit s e each.0.0 each.0.1 fit)

pub all_held : (s : QueueState) (events : List Event) → EachIn model.after_event model.MayHappen s events
    → AllHeld s.body.buffers → AllHeld (after_all model.after_event s events).body.buffers
all_held s [] each held = held
all_held s (e ∷ es) each held = all_held (model.after_event s e) es each.1 (kept_held s e each.0 held)

pub all_shaped : (s : QueueState) (events : List Event)
    → (after_all model.after_event s events).body.shape ≡ s.body.shape
all_shaped s [] = refl
all_shaped s (e ∷ es) = all_shaped (model.after_event s e) es ∙ kept_shape s e

-- the line after events, and the frames of both
pub record Along (s : QueueState) (events : List Event) (line : List ℕ) : Type 0 where
  pub rest : List ℕ
  pub ends : line ++ flat_map ended_by events ≡ flat_map dequeued_by events ++ rest
  pub frames : shots s.body.shape s.body.buffers line ++ flat_map completed_frame events
      ≡ map without_flags (frames_dequeued s events) ++ shots (after_all model.after_event s events).body.shape
      (after_all model.after_event s events).body.buffers rest

pub frames_along : (format : PixelFormat) (width height : ℕ) (s : QueueState) (events : List Event) (line : List ℕ)
    → Runs s line → IsHolding (shape_of format width height) s → list_any stops events ≡ false
    → EachIn model.after_event IsCounted s events → Along s events line
frames_along format width height s [] line r c on each =
    record { rest = line; ends = append-nil line; frames = append-nil (shots s.body.shape s.body.buffers line) }
frames_along format width height s (e ∷ es) line r c on each =
    let t : QueueState = model.after_event s e in
    let end : QueueState = after_all model.after_event t es in
    let now = first_off (stops e) (list_any stops es) on in
    let n : Next s e line = next s e line r now each.0.0 in
    let kept : t.body.shape ≡ s.body.shape = kept_shape s e in
    let holding : IsHolding (shape_of format width height) t =
    record {
      shaped = kept ∙ c.shaped;
      fit = kept_fit s e each.0.0 each.0.1 c.fit;
      held =
          kept_held s e each.0.0 c.held;
    } in
    let one = frames_next format width height s e line r n c now each.0.0 each.0.1 in
    let more : Along t es n.rest = frames_along format width height t es n.rest n.runs holding (second_off (stops e) (list_any stops es) on) each.1 in
    let here = map without_flags (dequeued_frame s e) in
    record {
      rest = more.rest;
      ends = glued line (ended_by e) (dequeued_by e) n.rest (flat_map ended_by es) (flat_map dequeued_by es) more.rest n.joined more.ends;
      frames = glued (shots s.body.shape s.body.buffers line) (completed_frame e) here
          (shots t.body.shape t.body.buffers n.rest) (flat_map completed_frame es)
          (map without_flags (frames_dequeued t es)) (shots end.body.shape end.body.buffers more.rest)
          (one ∙ ap (λ (x : Shape). here ++ shots x t.body.buffers n.rest) (sym kept)) more.frames
          ∙ ap (λ l. l ++ shots end.body.shape end.body.buffers more.rest)
          (sym (map-append without_flags (dequeued_frame s e) (frames_dequeued t es)));
    }

-- ---- after a stop

pub stopped_waits : (s : QueueState) (e : Event) → stops e ≡ true → (i : ℕ)
    → waits (state_at (model.after_event s e).body.buffers i) ≡ false
stopped_waits s model.streamoff is i = ap waits (state_at-map stop_buffer (λ t. Dequeued) s.body.buffers i (λ b. refl) refl)
stopped_waits s (model.reqbufs count kind sets (Ok g)) is i = ap waits (new_state (grants_or_none s.body.min_queued count) sets i)
stopped_waits s (model.reqbufs count kind sets (Err x)) is i = absurd (cc)
stopped_waits s (model.prepare_buf index kind given refusal) is i = absurd (cc)
stopped_waits s (model.qbuf index kind given refusal) is i = absurd (cc)
stopped_waits s (model.dqbuf answer) is i = absurd (cc)
stopped_waits s (model.streamon refusal) is i = absurd (cc)
stopped_waits s (model.querybuf index answer) is i = absurd (cc)
stopped_waits s (model.mmap index refusal) is i = absurd (cc)
stopped_waits s (model.munmap index refusal) is i = absurd (cc)
stopped_waits s (model.take_planes index answer) is i = absurd (cc)
stopped_waits s (model.copy_plane index plane at count answer) is i = absurd (cc)
stopped_waits s (model.complete index stamp bytes refusal) is i = absurd (cc)
stopped_waits s (model.fail index stamp refusal) is i = absurd (cc)
stopped_waits s model.fatal is i = absurd (cc)
stopped_waits s (model.take_fresh fresh) is i = absurd (cc)
