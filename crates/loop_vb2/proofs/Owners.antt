-- Whose a buffer is, before and after an event.
use Rattle.std.proofs.Common.{◌≡◌, ◌⊎◌, inl, inr, ℕ, ◌<◌, Bool, true, false, nat_le, cond, length, Some, None, Ok, Err, refl, sym, ◌∙◌, ap}
use Rattle.std.specs.Prelude.{count_by}
use Rattle.loop_plane.specs.Plane.{Plane}
use Rattle.loop_vb2.specs.declared.state.BufferState.{BufferState}
use Rattle.loop_vb2.specs.declared.state.BufferState.TheVariants.{Dequeued, Prepared, Queued, Active, Done, Error}
use Rattle.loop_vb2.specs.Owner.{Application, Device, owner, is_idle, is_dequeued, is_active, is_queued, is_ended, activate}
use Rattle.loop_vb2.specs.Buffers.{state_at, used_at, prepared_with, queued_with, failed_with, dequeued_from, wake_buffer, stop_buffer}
use Rattle.loop_vb2.proofs.Short.{completed_with, mapped_as, without_planes, in_step}
use Rattle.loop_vb2.specs.Checks.{take_checks, copy_checks}
use Rattle.loop_vb2.specs.Refusals.{queue_refusal, prepare_refusal, end_refusal, take_refusal, copy_refusal}
use Rattle.loop_vb2.specs.Effects.{device_runs, awake, settle_device, with_buffer, body_streaming, first_ended}
use Rattle.loop_vb2.specs.Requests.{grants_or_none}
use Rattle.loop_vb2.specs.State.{Body, QueueState, InStep}
use Rattle.loop_vb2.specs.Events.{Event, MayHappen, after_event, reqbufs, prepare_buf, qbuf, dqbuf, streamon, streamoff, querybuf, mmap, munmap, take_planes, copy_plane, complete, fail, fatal, take_fresh}
use Rattle.loop_vb2.specs.Laws.{HandedOverByOwners, ActsForOwner, run_on, turned_to}
use Rattle.loop_vb2.proofs.InStep.{not_yet}
use Rattle.loop_vb2.proofs.StepEvents.{queued_state, prepared_state}
use Rattle.loop_vb2.proofs.Lines.{least_found}
use Rattle.loop_vb2.proofs.FrameOrder.{not_refused}
use Rattle.loop_vb2.proofs.PassedChecks.{Passed, all_passed, true_of}
use Rattle.loop_vb2.proofs.ListTests.{new_state}
use Rattle.loop_vb2.proofs.States.{state_at-changed, state_at-kept, state_at-map}
use Rattle.loop_vb2.proofs.Steps.{queue_within, queue_idle, prepare_within, prepare_dequeued, end_within, end_active}

-- ---- what a state says of the owner

dequeued_owner : (s : BufferState) → is_dequeued s ≡ true → owner s ≡ Application
dequeued_owner Dequeued e = refl
dequeued_owner s e = absurd (cc)

active_owner : (s : BufferState) → is_active s ≡ true → owner s ≡ Device
active_owner Active e = refl
active_owner s e = absurd (cc)

idle_owner : (s : BufferState) → is_idle s ≡ true → (owner s ≡ Application) ⊎ (s ≡ Prepared)
idle_owner Dequeued e = inl refl
idle_owner Prepared e = inr refl
idle_owner s e = absurd (cc)

ended_owner : (s : BufferState) → is_ended s ≡ true → (s ≡ Done) ⊎ (s ≡ Error)
ended_owner Done e = inl refl
ended_owner Error e = inr refl
ended_owner s e = absurd (cc)

-- ---- what a call that isn't refused has found

take_dequeued : (index : ℕ) (b : Body Plane) → take_refusal index b ≡ None
    → is_dequeued (state_at b.buffers index) ≡ true
take_dequeued index b e = let p : Passed (take_checks index b) = all_passed (take_checks index b) e in true_of (is_dequeued (state_at b.buffers index)) p.1.1.0

copy_dequeued : (index plane at count : ℕ) (b : Body Plane) → copy_refusal index plane at count b ≡ None
    → is_dequeued (state_at b.buffers index) ≡ true
copy_dequeued index plane at count b e =
    let p : Passed (copy_checks index plane at count (used_at b.buffers index plane) b) =
    all_passed (copy_checks index plane at count (used_at b.buffers index plane) b) e in
    true_of (is_dequeued (state_at b.buffers index)) p.1.1.0

pub first_is_ended : (s : QueueState) (i : ℕ) → first_ended s ≡ Some i → (is_ended (state_at s.body.buffers i) ≡ true)
    × (i < length s.body.buffers)
first_is_ended s i e = least_found s.end_number (λ k. is_ended (state_at s.body.buffers k)) (length s.body.buffers) i e

for_owner : (s : QueueState) (event : Event) → MayHappen s event → ActsForOwner s.body.buffers event
for_owner s (prepare_buf index kind given None) a = dequeued_owner (state_at s.body.buffers index)
    (prepare_dequeued index kind given s.body (not_refused (prepare_refusal index kind given s.body) a))
for_owner s (prepare_buf index kind given (Some e)) a = tt
for_owner s (qbuf index kind given None) a = idle_owner (state_at s.body.buffers index)
    (queue_idle index kind given s.body (not_refused (queue_refusal index kind given s.body) a))
for_owner s (qbuf index kind given (Some e)) a = tt
for_owner s (dqbuf (Ok d)) a = ended_owner (state_at s.body.buffers d.index) (first_is_ended s d.index a.1).0
for_owner s (dqbuf (Err e)) a = tt
for_owner s (take_planes index (Ok set)) a = dequeued_owner (state_at s.body.buffers index) (take_dequeued index s.body a.0)
for_owner s (take_planes index (Err e)) a = tt
for_owner s (copy_plane index plane at count (Ok bytes)) a = dequeued_owner (state_at s.body.buffers index) (copy_dequeued index plane at count s.body a.0)
for_owner s (copy_plane index plane at count (Err e)) a = tt
for_owner s (complete index stamp bytes None) a = active_owner (state_at s.body.buffers index)
    (end_active index s.body (not_refused (end_refusal index s.body) a))
for_owner s (complete index stamp bytes (Some e)) a = tt
for_owner s (fail index stamp None) a = active_owner (state_at s.body.buffers index) (end_active index s.body (not_refused (end_refusal index s.body) a))
for_owner s (fail index stamp (Some e)) a = tt
for_owner s (reqbufs count kind sets answer) a = tt
for_owner s (streamon refusal) a = tt
for_owner s streamoff a = tt
for_owner s (querybuf index answer) a = tt
for_owner s (mmap index refusal) a = tt
for_owner s (munmap index refusal) a = tt
for_owner s fatal a = tt
for_owner s (take_fresh fresh) a = tt

-- ---- the state of each buffer after an event

left_off : (t : Bool) (state : BufferState) → t ≡ false → state ≡ run_on t state
left_off t state e = ap (λ x. run_on x state) (sym e)

none_queued : (started : Bool) (state : BufferState) → in_step started state ≡ true → state ≡ run_on started state
none_queued false state e = refl
none_queued true Dequeued e = refl
none_queued true Prepared e = refl
none_queued true Queued e = absurd (cc)
none_queued true Active e = refl
none_queued true Done e = refl
none_queued true Error e = refl

-- once it is settled whether the device runs
settled_states : (b : Body Plane) → (b.started ≡ true → b.streaming ≡ true) → (i : ℕ)
    → state_at (settle_device b).buffers i ≡ run_on (settle_device b).started (state_at b.buffers i)
settled_states b only i = by (device_runs b) refl
  where
    by : (t : Bool) → device_runs b ≡ t → state_at (cond t (awake b) b).buffers i ≡ run_on
        (cond t (awake b) b).started (state_at b.buffers i)
    by true e = state_at-map wake_buffer activate b.buffers i (λ x. refl) refl
    by false e = left_off b.started (state_at b.buffers i)
        (not_yet b.streaming b.started (nat_le b.min_queued (count_by (λ x. is_queued x.state) b.buffers)) only e)

streaming_states : (b : Body Plane) → InStep b → (i : ℕ) → state_at (body_streaming b).buffers i ≡ run_on
    (body_streaming b).started (state_at b.buffers i)
streaming_states b step i = by b.streaming refl
  where
    on : Body Plane
    on = record b { streaming = true }

    by : (t : Bool) → b.streaming ≡ t → state_at (cond t b (settle_device on)).buffers i ≡ run_on
        (cond t b (settle_device on)).started (state_at b.buffers i)
    by true e = none_queued b.started (state_at b.buffers i) (step.each i)
    by false e = settled_states on (λ h. refl) i

turned : (s : QueueState) (event : Event) → InStep s.body → MayHappen s event → (i : ℕ)
    → state_at (after_event s event).body.buffers i ≡ turned_to event (after_event s event).body.started i
    (state_at s.body.buffers i)
turned s (prepare_buf index kind given None) step a i =
    state_at-changed (prepared_with given) Prepared s.body.buffers index i (prepared_state given)
    (prepare_within index kind given s.body (not_refused (prepare_refusal index kind given s.body) a))
turned s (prepare_buf index kind given (Some e)) step a i = refl
turned s (qbuf index kind given None) step a i =
    let b : Body Plane = with_buffer (queued_with given) index s.body in
    settled_states b step.only_streaming i
    ∙ ap (run_on (settle_device b).started) (state_at-changed (queued_with given) Queued s.body.buffers index i
    (queued_state given) (queue_within index kind given s.body
    (not_refused (queue_refusal index kind given s.body) a)))
turned s (qbuf index kind given (Some e)) step a i = refl
turned s (dqbuf (Ok d)) step a i = state_at-changed (dequeued_from s.body.kind) Dequeued s.body.buffers d.index i (λ b. refl) (first_is_ended s d.index a.1).1
turned s (dqbuf (Err e)) step a i = refl
turned s (streamon None) step a i = streaming_states s.body step i
turned s (streamon (Some e)) step a i = refl
turned s streamoff step a i = state_at-map stop_buffer (λ t. Dequeued) s.body.buffers i (λ b. refl) refl
turned s (reqbufs count kind sets (Ok g)) step a i = new_state (grants_or_none s.body.min_queued count) sets i
turned s (reqbufs count kind sets (Err e)) step a i = refl
turned s (complete index stamp bytes None) step a i = state_at-changed (completed_with s.body.shape stamp bytes) Done
    s.body.buffers index i (λ b. refl) (end_within index s.body (not_refused (end_refusal index s.body) a))
turned s (complete index stamp bytes (Some e)) step a i = refl
turned s (fail index stamp None) step a i = state_at-changed (failed_with stamp) Error s.body.buffers index i
    (λ b. refl) (end_within index s.body (not_refused (end_refusal index s.body) a))
turned s (fail index stamp (Some e)) step a i = refl
turned s (mmap index None) step a i = state_at-kept (mapped_as true) s.body.buffers index i (λ b. refl)
turned s (mmap index (Some e)) step a i = refl
turned s (munmap index None) step a i = state_at-kept (mapped_as false) s.body.buffers index i (λ b. refl)
turned s (munmap index (Some e)) step a i = refl
turned s (take_planes index (Ok set)) step a i = state_at-kept without_planes s.body.buffers index i (λ b. refl)
turned s (take_planes index (Err e)) step a i = refl
turned s (querybuf index answer) step a i = refl
turned s (copy_plane index plane at count answer) step a i = refl
turned s fatal step a i = refl
turned s (take_fresh fresh) step a i = refl

pub handed_over_by_owners : HandedOverByOwners
handed_over_by_owners = λ s event step answered. (for_owner s event answered, turned s event step answered)
