-- The lines stay in the order of the numbers, through each event.
use Rattle.std.proofs.Common.{◌≡◌, ℕ, zero, suc, ◌<◌, Bool, true, false, not, ◌||◌, ◌==◌, cond, List, [], ◌∷◌, ◌++◌, length, map, Option, Some, None, refl, sym, ◌∙◌, ap, subst, arith}
use Rattle.loop_plane.specs.Plane.{Plane}
use Rattle.loop_vb2.specs.declared.buffer.Buffer.{Buffer}
use Rattle.loop_vb2.specs.declared.planes.PlaneSet.{PlaneSet}
use Rattle.loop_vb2.specs.declared.state.BufferState.{BufferState}
use Rattle.loop_vb2.specs.declared.state.BufferState.TheVariants.{Dequeued, Queued}
use Rattle.loop_vb2.specs.Owner.{waits, is_ended, is_idle, is_active, activate}
use Rattle.loop_vb2.specs.Buffers.{change_at, state_at, queued_with, wake_buffer, stop_buffer, dequeued_from}
use Rattle.loop_vb2.specs.Lines.{lists, without, InOrder, least, first_of_line}
use Rattle.loop_vb2.specs.State.{Body, QueueState, Lined, with_lines, Shows}
use Rattle.loop_vb2.specs.Effects.{settle_device, device_runs, with_buffer, after_queue, end_buffer, on_body, change_buffer, first_ended, longest_active, body_streaming, body_stopped}
use Rattle.loop_vb2.proofs.Short.{body_queued}
use Rattle.loop_vb2.proofs.Lines.{InOrder-push, InOrder-without, InOrder-same, InOrder-none, InOrder-pop, first_is_least, empty_line, least-none, least-same, same, tested}
use Rattle.loop_vb2.proofs.InStep.{step_changed, step_kept, step_queued, step_streaming, step_stopped, idle_fits, active_are_waiting, none_are_active}
use Rattle.loop_vb2.proofs.States.{state_at-changed, state_at-kept, state_at-map}
use Rattle.loop_vb2.proofs.Lists.{same_test, same_test_off, same_both}
use Rattle.loop_vb2.proofs.StepEvents.{idle_waits_not, idle_ended_not, active_ended_not, ended_waits_not, waits_woken, ended_woken, queued_state, ended_here}

abbrev is_test : (BufferState → Bool) → List (Buffer Plane) → ℕ → Bool
is_test test bs i = test (state_at bs i)

-- starting the device changes neither which buffers wait nor which ended
test_settled : (test : BufferState → Bool) → ((s : BufferState) → test (activate s) ≡ test s)
    → (b : Body Plane) (i : ℕ) → test (state_at (settle_device b).buffers i) ≡ test (state_at b.buffers i)
test_settled test keeps b i =
    elim (device_runs b) as (λ t. test
    (state_at (cond t (record b {
      started = true;
      fresh = b.fresh || not b.started;
      buffers =
          map wake_buffer b.buffers;
    }) b).buffers i) ≡ test (state_at b.buffers i))
    [ true ↦ ap test (state_at-map wake_buffer activate b.buffers i (λ b. refl) refl) ∙ keeps (state_at b.buffers i) | false ↦ refl ]

turned_on : (test : BufferState → Bool) (f : Buffer Plane → Buffer Plane) (state : BufferState)
    (bs : List (Buffer Plane)) (x i : ℕ) → ((b : Buffer Plane) → (f b).state ≡ state) → x < length bs
    → test state ≡ true → test (state_at (change_at f x bs) i) ≡ cond (i == x) true (test (state_at bs i))
turned_on test f state bs x i makes h after = ap test (state_at-changed f state bs x i makes h)
    ∙ sym (same_test test state (i == x) (test (state_at bs i)) (state_at bs i) after refl)

turned_off : (test : BufferState → Bool) (f : Buffer Plane → Buffer Plane) (state : BufferState)
    (bs : List (Buffer Plane)) (x i : ℕ) → ((b : Buffer Plane) → (f b).state ≡ state) → x < length bs
    → test state ≡ false → test (state_at (change_at f x bs) i) ≡ cond (i == x) false (test (state_at bs i))
turned_off test f state bs x i makes h after = ap test (state_at-changed f state bs x i makes h)
    ∙ sym (same_test_off test state (i == x) (test (state_at bs i)) (state_at bs i) after refl)

untouched : (test : BufferState → Bool) (f : Buffer Plane → Buffer Plane) (state : BufferState)
    (bs : List (Buffer Plane)) (x i : ℕ) → ((b : Buffer Plane) → (f b).state ≡ state) → x < length bs
    → test (state_at bs x) ≡ false → test state ≡ false → test (state_at (change_at f x bs) i) ≡ test (state_at bs i)
untouched test f state bs x i makes h before after =
    ap test (state_at-changed f state bs x i makes h)
    ∙ sym (same_both test state (i == x) (state_at bs i) (λ e. ap (λ j. test (state_at bs j)) (same i x e)
    ∙ (before ∙ sym after)))

-- QBUF
pub shows_queued : (s : QueueState) (code : Lined Plane) (x : ℕ) (planes : Option (PlaneSet Plane)) → Shows s code
    → x < length s.body.buffers → is_idle (state_at s.body.buffers x) ≡ true → Shows (after_queue x planes s)
    (with_lines (body_queued x planes code.body) (code.incoming ++ x ∷ []) code.done)
shows_queued s code x planes h within free =
    let bs : List (Buffer Plane) = s.body.buffers in
    let after : Body Plane = with_buffer (queued_with planes) x s.body in
    record {
      body = ap (λ b. body_queued x planes b) h.body;
      incoming = InOrder-push s.queue_number s.queue_count (is_test waits bs)
          (is_test waits (settle_device after).buffers) code.incoming x h.incoming (idle_waits_not (state_at bs x) free)
          (λ i. test_settled waits waits_woken after i ∙ turned_on waits (queued_with planes) Queued bs x i (queued_state planes) within refl);
      done = InOrder-same s.end_number s.end_count (is_test is_ended bs) (is_test is_ended (settle_device after).buffers) code.done h.done
          (λ i. test_settled is_ended ended_woken after i ∙ untouched is_ended (queued_with planes) Queued bs x i
          (queued_state planes) within (idle_ended_not (state_at bs x) free) refl);
      in_step = step_queued (queued_with planes) x s.body (queued_state planes) within h.in_step;
    }

-- the device's end of a frame
pub shows_ended : (s : QueueState) (code : Lined Plane) (f : Buffer Plane → Buffer Plane) (state : BufferState)
    (x : ℕ) → ((b : Buffer Plane) → (f b).state ≡ state) → waits state ≡ false → is_ended state ≡ true
    → Shows s code → x < length s.body.buffers → is_active (state_at s.body.buffers x) ≡ true
    → Shows (end_buffer f x s) (with_lines (with_buffer f x code.body) (without x code.incoming)
    (code.done ++ x ∷ []))
shows_ended s code f state x makes waits_not over h within active =
    let bs : List (Buffer Plane) = s.body.buffers in
    record {
      body = ap (λ b. with_buffer f x b) h.body;
      incoming = InOrder-without s.queue_number s.queue_count (is_test waits bs) (is_test waits (change_at f x bs)) code.incoming x h.incoming
          (λ i. turned_off waits f state bs x i makes within waits_not);
      done = InOrder-push s.end_number s.end_count (is_test is_ended bs) (is_test is_ended (change_at f x bs))
          code.done x h.done (active_ended_not (state_at bs x) active)
          (λ i. turned_on is_ended f state bs x i makes within over);
      in_step = step_changed f state x s.body makes within (idle_fits s.body.started state waits_not) h.in_step;
    }

-- a change of a buffer that neither waits nor has ended, before or after it
pub shows_touched : (s : QueueState) (code : Lined Plane) (f : Buffer Plane → Buffer Plane) (state : BufferState)
    (x : ℕ) → ((b : Buffer Plane) → (f b).state ≡ state) → waits state ≡ false → is_ended state ≡ false
    → Shows s code → x < length s.body.buffers → is_idle (state_at s.body.buffers x) ≡ true
    → Shows (change_buffer f x s) (with_lines (with_buffer f x code.body) code.incoming code.done)
shows_touched s code f state x makes waits_not over_not h within free =
    let bs : List (Buffer Plane) = s.body.buffers in
    record {
      body = ap (λ b. with_buffer f x b) h.body;
      incoming = InOrder-same s.queue_number s.queue_count (is_test waits bs) (is_test waits (change_at f x bs)) code.incoming h.incoming
          (λ i. untouched waits f state bs x i makes within (idle_waits_not (state_at bs x) free) waits_not);
      done = InOrder-same s.end_number s.end_count (is_test is_ended bs) (is_test is_ended (change_at f x bs)) code.done h.done
          (λ i. untouched is_ended f state bs x i makes within (idle_ended_not (state_at bs x) free) over_not);
      in_step = step_changed f state x s.body makes within (idle_fits s.body.started state waits_not) h.in_step;
    }

-- a change that leaves the buffer's state
pub shows_kept : (s : QueueState) (code : Lined Plane) (f : Buffer Plane → Buffer Plane) (x : ℕ)
    → ((b : Buffer Plane) → (f b).state ≡ b.state) → Shows s code
    → Shows (change_buffer f x s) (with_lines (with_buffer f x code.body) code.incoming code.done)
shows_kept s code f x keeps h =
    let bs : List (Buffer Plane) = s.body.buffers in
    record {
      body = ap (λ b. with_buffer f x b) h.body;
      incoming = InOrder-same s.queue_number s.queue_count (is_test waits bs) (is_test waits (change_at f x bs))
          code.incoming h.incoming (λ i. ap waits (state_at-kept f bs x i keeps));
      done = InOrder-same s.end_number s.end_count (is_test is_ended bs) (is_test is_ended (change_at f x bs))
          code.done h.done (λ i. ap is_ended (state_at-kept f bs x i keeps));
      in_step = step_kept f x s.body keeps h.in_step;
    }

-- ---- DQBUF

first_done : (s : QueueState) (code : Lined Plane) (x : ℕ) (rest : List ℕ) → Shows s code → code.done ≡ x ∷ rest
    → is_ended (state_at s.body.buffers x) ≡ true
first_done s code x rest h e = sym (h.done.listed x) ∙ (ap (λ ks. lists ks x) e ∙ ap (λ b. b || lists rest x) (tested x x refl))

done_as : (s : QueueState) (code : Lined Plane) (x : ℕ) (rest : List ℕ) → Shows s code → code.done ≡ x ∷ rest
    → InOrder s.end_number s.end_count (is_test is_ended s.body.buffers) (x ∷ rest)
done_as s code x rest h e = subst (λ (ks : List ℕ). InOrder s.end_number s.end_count (is_test is_ended s.body.buffers) ks) e h.done

-- the first of the done line is the buffer that DQBUF takes
pub first_is_taken : (s : QueueState) (code : Lined Plane) (x : ℕ) (rest : List ℕ) → Shows s code → code.done ≡ x
    ∷ rest → first_ended s ≡ Some x
first_is_taken s code x rest h e =
    first_is_least s.end_number s.end_count (is_test is_ended s.body.buffers) x rest (length s.body.buffers)
    (done_as s code x rest h e) (ended_here s.body.buffers x (first_done s code x rest h e))

pub shows_dequeued : (s : QueueState) (code : Lined Plane) (x : ℕ) (rest : List ℕ) → Shows s code → code.done ≡ x
    ∷ rest → Shows (change_buffer (dequeued_from s.body.kind) x s)
    (with_lines (with_buffer (dequeued_from code.body.kind) x code.body) code.incoming rest)
shows_dequeued s code x rest h e =
    let bs : List (Buffer Plane) = s.body.buffers in
    let f : Buffer Plane → Buffer Plane = dequeued_from s.body.kind in
    let here : is_ended (state_at bs x) ≡ true = first_done s code x rest h e in
    let within : x < length bs = ended_here bs x here in
    record {
      body = ap (λ b. with_buffer (dequeued_from b.kind) x b) h.body;
      incoming = InOrder-same s.queue_number s.queue_count (is_test waits bs) (is_test waits (change_at f x bs)) code.incoming h.incoming
          (λ i. untouched waits f Dequeued bs x i (λ b. refl) within (ended_waits_not (state_at bs x) here) refl);
      done = InOrder-pop s.end_number s.end_count (is_test is_ended bs) (is_test is_ended (change_at f x bs)) x rest (done_as s code x rest h e)
          (λ i. turned_off is_ended f Dequeued bs x i (λ b. refl) within refl);
      in_step = step_changed f Dequeued x s.body (λ b. refl) within (idle_fits s.body.started Dequeued refl) h.in_step;
    }

-- ---- STREAMON, STREAMOFF

pub shows_stopped : (s : QueueState) (code : Lined Plane) → Shows s code
    → Shows (on_body body_stopped s) (with_lines (body_stopped code.body) [] [])
shows_stopped s code h =
    let bs : List (Buffer Plane) = s.body.buffers in
    record {
      body = ap (λ b. body_stopped b) h.body;
      incoming = InOrder-none s.queue_number s.queue_count (is_test waits (map stop_buffer bs))
          (λ i. ap waits (state_at-map stop_buffer (λ t. Dequeued) bs i (λ b. refl) refl));
      done = InOrder-none s.end_number s.end_count (is_test is_ended (map stop_buffer bs))
          (λ i. ap is_ended (state_at-map stop_buffer (λ t. Dequeued) bs i (λ b. refl) refl));
      in_step = step_stopped s.body;
    }

test_streaming : (test : BufferState → Bool) → ((s : BufferState) → test (activate s) ≡ test s)
    → (b : Body Plane) (i : ℕ) → test (state_at (body_streaming b).buffers i) ≡ test (state_at b.buffers i)
test_streaming test keeps b i =
    elim b.streaming as (λ t. test (state_at (cond t b (settle_device (record b { streaming = true }))).buffers i) ≡ test (state_at b.buffers i))
    [ true ↦ refl | false ↦ test_settled test keeps (record b { streaming = true }) i ]

pub shows_streaming : (s : QueueState) (code : Lined Plane) → Shows s code
    → Shows (on_body body_streaming s) (with_lines (body_streaming code.body) code.incoming code.done)
shows_streaming s code h = record {
  body = ap (λ b. body_streaming b) h.body;
  incoming = InOrder-same s.queue_number s.queue_count (is_test waits s.body.buffers)
      (is_test waits (body_streaming s.body).buffers) code.incoming h.incoming
      (test_streaming waits waits_woken s.body);
  done = InOrder-same s.end_number s.end_count (is_test is_ended s.body.buffers)
      (is_test is_ended (body_streaming s.body).buffers) code.done h.done (test_streaming is_ended ended_woken s.body);
  in_step = step_streaming s.body h.in_step;
}

-- ---- the buffer that has been active longest

waits_here : (bs : List (Buffer Plane)) (x : ℕ) → waits (state_at bs x) ≡ true → x < length bs
waits_here [] x h = absurd (cc)
waits_here (b ∷ bs) zero h = omega arith
waits_here (b ∷ bs) (suc x) h = let e = waits_here bs x h in omega (arith, e)

first_waiting : (s : QueueState) (line : List ℕ) → InOrder s.queue_number s.queue_count (is_test waits s.body.buffers)
    line → least s.queue_number (is_test waits s.body.buffers) (length s.body.buffers) ≡ first_of_line line
first_waiting s [] o = empty_line s.queue_number s.queue_count (is_test waits s.body.buffers) (length s.body.buffers) o
first_waiting s (x ∷ rest) o =
    let here : waits (state_at s.body.buffers x) ≡ true = sym (o.listed x) ∙ ap (λ b. b || lists rest x) (tested x x refl) in
    first_is_least s.queue_number s.queue_count (is_test waits s.body.buffers) x rest (length s.body.buffers) o (waits_here s.body.buffers x here)

pub longest_started : (s : QueueState) (code : Lined Plane) → Shows s code → s.body.started ≡ true
    → longest_active s ≡ first_of_line code.incoming
longest_started s code h on =
    least-same s.queue_number (is_test is_active s.body.buffers) (is_test waits s.body.buffers)
    (active_are_waiting s.body h.in_step on) (length s.body.buffers) ∙ first_waiting s code.incoming h.incoming

pub longest_none : (s : QueueState) (code : Lined Plane) → Shows s code → s.body.started ≡ false
    → longest_active s ≡ None
longest_none s code h off = least-none s.queue_number (is_test is_active s.body.buffers) (none_are_active s.body h.in_step off) (length s.body.buffers)
