-- The order of frames: the buffers that the application gets are a prefix of those that the device ended.
use Rattle.std.proofs.Common.{◌≡◌, ℕ, Bool, true, false, ◌<◌, ◌||◌, ◌&&◌, ◌==◌, nat_lt, cond, List, [], ◌∷◌, ◌++◌, length, Option, Some, None, option_map, Ok, Err, refl, sym, ◌∙◌, ap, subst, append_assoc, arith, inl, inr}
use Rattle.std.specs.List.{flat_map, list_any}
use Rattle.std.proofs.lemmas.List.{append-nil}
use Rattle.std.proofs.lemmas.Bool.{cases_eq}
use Rattle.std.proofs.lemmas.Bool.Decides.{nat_tests}
use Rattle.loop_plane.specs.Plane.{Plane}
use Rattle.loop_plane.specs.declared.memory.Memory.{Memory}
use Rattle.loop_record.specs.Turns.{after_all, EachIn}
use Rattle.loop_record.proofs.TurnRuns.{after-behind}
use Rattle.loop_vb2.specs.declared.buffer.Buffer.{Buffer}
use Rattle.loop_vb2.specs.declared.planes.PlaneSet.{PlaneSet}
use Rattle.loop_vb2.specs.declared.buffer.Dequeued.{Dequeued as Answer}
use Rattle.loop_vb2.specs.declared.reason.Reason.{Reason}
use Rattle.loop_vb2.specs.declared.reason.Reason.TheVariants.{Streaming}
use Rattle.loop_vb2.specs.declared.state.BufferState.{BufferState}
use Rattle.loop_vb2.specs.declared.state.BufferState.TheVariants.{Dequeued, Prepared, Done, Error}
use Rattle.loop_vb2.specs.Errnos.{errno}
use Rattle.loop_vb2.specs.Owner.{waits, is_ended, is_active}
use Rattle.loop_vb2.specs.Buffers.{state_at, stop_buffer, dequeued_from, queued_with, prepared_with, failed_with}
use Rattle.loop_vb2.proofs.Short.{completed_with, mapped_as, without_planes, in_step}
use Rattle.loop_vb2.specs.Lines.{lists, without, InOrder}
use Rattle.loop_vb2.specs.Refusals.{queue_refusal, prepare_refusal, end_refusal, request_refusal}
use Rattle.loop_vb2.specs.Effects.{awake, device_runs, settle_device, with_buffer, body_streaming, body_stopped, first_ended, end_buffer, on_body, change_buffer}
use Rattle.loop_vb2.specs.Requests.{grants_or_none, body_requested}
use Rattle.loop_vb2.specs.State.{Body, QueueState, Lined, with_lines, InStep, Shows, StandsQueue}
use Rattle.loop_vb2.specs.Events.{Event, Grant, MayHappen, after_event, dequeued_by, ended_by, stops, reqbufs, prepare_buf, qbuf, dqbuf, streamon, streamoff, querybuf, mmap, munmap, take_planes, copy_plane, complete, fail, fatal, take_fresh}
use Rattle.loop_vb2.specs.Laws.{DequeuedInOrder, InTurn, IsStill, KeepsOrder, NewQueuesAreStill}
use Rattle.loop_vb2.proofs.InStep.{step_stopped, idle_fits, none_are_active}
use Rattle.loop_vb2.proofs.StepEvents.{dequeued_idle, prepared_state}
use Rattle.loop_vb2.proofs.Lines.{InOrder-none, InOrder-pop, differ, empty_line, not_both, tested}
use Rattle.loop_vb2.proofs.RequestSteps.{shows_requested}
use Rattle.loop_vb2.proofs.ListTests.{new_state}
use Rattle.loop_vb2.proofs.LineOrder.{shows_queued, shows_ended, shows_touched, shows_kept, shows_dequeued, shows_streaming, first_is_taken}
use Rattle.loop_vb2.proofs.States.{state_at-map}
use Rattle.loop_vb2.proofs.Steps.{queue_within, queue_idle, prepare_within, prepare_dequeued, end_within, end_active}
use Rattle.loop_vb2.proofs.PassedChecks.{passed_here}

-- a state with the buffers that were ended and not yet dequeued, in their order; while streaming is off there are none
pub record Runs (s : QueueState) (line : List ℕ) : Type 0 where
  pub incoming : List ℕ
  pub shows : Shows s (with_lines s.body incoming line)
  pub still : s.body.streaming ≡ false → line ≡ []

-- ---- what follows from an answer

pub not_refused : (r : Option Reason) → option_map errno r ≡ None → r ≡ None
not_refused None e = refl
not_refused (Some r) e = absurd (cc)

-- ---- after an event that stops the stream

only_stopped : (t : Bool) (b : Body Plane) → t ≡ true → (cond t (body_stopped b) b).started ≡ true
    → (cond t (body_stopped b) b).streaming ≡ true
only_stopped true b e h = absurd (cc)
only_stopped false b e h = absurd (cc)

runs_off : (s : QueueState) → Runs (record s { body = body_stopped s.body }) []
runs_off s = record {
  incoming = [];
  shows = record {
    body = refl;
    incoming = InOrder-none s.queue_number s.queue_count _ (λ i. ap waits (state_at-map stop_buffer (λ t. Dequeued) s.body.buffers i (λ b. refl) refl));
    done = InOrder-none s.end_number s.end_count _ (λ i. ap is_ended (state_at-map stop_buffer (λ t. Dequeued) s.body.buffers i (λ b. refl) refl));
    in_step = step_stopped s.body;
  };
  still = λ e. refl;
}

runs_freed : (s : QueueState) (count : ℕ) (kind : Memory) (sets : List (PlaneSet Plane)) → (count == 0) ≡ true
    → Runs (on_body (body_requested count kind sets) s) []
runs_freed s count kind sets none =
    let n : ℕ = grants_or_none s.body.min_queued count in
    let started : Bool = (cond (count == 0) (body_stopped s.body) s.body).started in
    record {
      incoming = [];
      shows = record {
        body = refl;
        incoming = InOrder-none s.queue_number s.queue_count _ (λ i. ap waits (new_state n sets i));
        done = InOrder-none s.end_number s.end_count _ (λ i. ap is_ended (new_state n sets i));
        in_step = record {
          only_streaming = only_stopped (count == 0) s.body none;
          each = λ i. ap (in_step started) (new_state n sets i) ∙ idle_fits started Dequeued refl;
        };
      };
      still = λ e. refl;
    }

pub runs_stopped : (s : QueueState) (stop : Event) → stops stop ≡ true → Runs (after_event s stop) []
runs_stopped s streamoff e = runs_off s
runs_stopped s (reqbufs count kind sets (Ok g)) e = runs_freed s count kind sets e
runs_stopped s (reqbufs count kind sets (Err x)) e = absurd (cc)
runs_stopped s (prepare_buf index kind given refusal) e = absurd (cc)
runs_stopped s (qbuf index kind given refusal) e = absurd (cc)
runs_stopped s (dqbuf answer) e = absurd (cc)
runs_stopped s (streamon refusal) e = absurd (cc)
runs_stopped s (querybuf index answer) e = absurd (cc)
runs_stopped s (mmap index refusal) e = absurd (cc)
runs_stopped s (munmap index refusal) e = absurd (cc)
runs_stopped s (take_planes index answer) e = absurd (cc)
runs_stopped s (copy_plane index plane at count answer) e = absurd (cc)
runs_stopped s (complete index stamp bytes refusal) e = absurd (cc)
runs_stopped s (fail index stamp refusal) e = absurd (cc)
runs_stopped s fatal e = absurd (cc)
runs_stopped s (take_fresh fresh) e = absurd (cc)

-- ---- any other event

-- the line after an event: what the device ended joins it at its end, and what the application got leaves it at its front
pub record Next (s : QueueState) (e : Event) (line : List ℕ) : Type 0 where
  pub rest : List ℕ
  pub runs : Runs (after_event s e) rest
  pub joined : line ++ ended_by e ≡ dequeued_by e ++ rest

settled_streaming : (b : Body Plane) → (settle_device b).streaming ≡ b.streaming
settled_streaming b = elim (device_runs b) as (λ t. (cond t (awake b) b).streaming ≡ b.streaming) [ true ↦ refl | false ↦ refl ]

streams : (b : Body Plane) → (body_streaming b).streaming ≡ true
streams b = by b.streaming refl
  where
    by : (t : Bool) → b.streaming ≡ t → (cond t b (settle_device (record b { streaming = true }))).streaming ≡ true
    by true e = e
    by false e = settled_streaming (record b { streaming = true })

-- an active buffer is one of a stream
active_streams : (b : Body Plane) (i : ℕ) → InStep b → is_active (state_at b.buffers i) ≡ true → b.streaming ≡ true
active_streams b i s active = by b.started refl
  where
    by : (t : Bool) → b.started ≡ t → b.streaming ≡ true
    by true e = s.only_streaming e
    by false e = absurd (not_both (is_active (state_at b.buffers i)) active (none_are_active b s e i))

next_queued : (s : QueueState) (index : ℕ) (kind : Memory) (given : Option (PlaneSet Plane)) (line : List ℕ)
    → Runs s line → queue_refusal index kind given s.body ≡ None → Next s (qbuf index kind given None) line
next_queued s index kind given line r passed = record {
  rest = line;
  runs = record {
    incoming = r.incoming ++ index ∷ [];
    shows = shows_queued s (with_lines s.body r.incoming line) index given r.shows
        (queue_within index kind given s.body passed) (queue_idle index kind given s.body passed);
    still = λ e. r.still (sym (settled_streaming (with_buffer (queued_with given) index s.body)) ∙ e);
  };
  joined = append-nil line;
}

next_prepared : (s : QueueState) (index : ℕ) (kind : Memory) (given : Option (PlaneSet Plane)) (line : List ℕ)
    → Runs s line → prepare_refusal index kind given s.body ≡ None → Next s (prepare_buf index kind given None) line
next_prepared s index kind given line r passed = record {
  rest = line;
  runs = record {
    incoming = r.incoming;
    shows = shows_touched s (with_lines s.body r.incoming line) (prepared_with given) Prepared index
        (prepared_state given) refl refl r.shows (prepare_within index kind given s.body passed)
        (dequeued_idle (state_at s.body.buffers index) (prepare_dequeued index kind given s.body passed));
    still = r.still;
  };
  joined = append-nil line;
}

next_kept : (s : QueueState) (f : Buffer Plane → Buffer Plane) (index : ℕ) (line : List ℕ)
    → ((b : Buffer Plane) → (f b).state ≡ b.state) → Runs s line → Runs (change_buffer f index s) line
next_kept s f index line keeps r =
    record {
      incoming = r.incoming;
      shows = shows_kept s (with_lines s.body r.incoming line) f index keeps r.shows;
      still = r.still;
    }

next_ended : (s : QueueState) (f : Buffer Plane → Buffer Plane) (state : BufferState) (index : ℕ) (line : List ℕ)
    → ((b : Buffer Plane) → (f b).state ≡ state) → waits state ≡ false → is_ended state ≡ true
    → Runs s line → end_refusal index s.body ≡ None → Runs (end_buffer f index s) (line ++ index ∷ [])
next_ended s f state index line makes waits_not over r passed =
    let active : is_active (state_at s.body.buffers index) ≡ true = end_active index s.body passed in
    record {
      incoming = without index r.incoming;
      shows = shows_ended s (with_lines s.body r.incoming line) f state index makes waits_not over r.shows (end_within index s.body passed) active;
      still = λ e. absurd (not_both s.body.streaming (active_streams s.body index r.shows.in_step active) e);
    }

none_given : (x : ℕ) (o : Option ℕ) → o ≡ None → o ≡ Some x → ⊥
none_given x o e f = cc

same_given : (x y : ℕ) (o : Option ℕ) → o ≡ Some x → o ≡ Some y → x ≡ y
same_given x y o e f = cc

not_empty_line : (x : ℕ) (rest : List ℕ) → x ∷ rest ≡ [] → ⊥
not_empty_line x rest e = cc

next_dequeued : (s : QueueState) (d : Answer Plane) (line : List ℕ) → Runs s line → first_ended s ≡ Some d.index
    → Next s (dqbuf (Ok d)) line
next_dequeued s d [] r first =
    absurd (none_given d.index (first_ended s)
    (empty_line s.end_number s.end_count (λ i. is_ended (state_at s.body.buffers i))
    (length s.body.buffers) r.shows.done) first)
next_dequeued s d (x ∷ rest) r first =
    let code : Lined Plane = with_lines s.body r.incoming (x ∷ rest) in
    let same : x ≡ d.index = same_given x d.index (first_ended s) (first_is_taken s code x rest r.shows refl) first in
    let after_x : Runs (change_buffer (dequeued_from s.body.kind) x s) rest =
    record {
      incoming = r.incoming;
      shows = shows_dequeued s code x rest r.shows refl;
      still =
          λ e. absurd (not_empty_line x rest (r.still e));
    } in
    record {
      rest = rest;
      runs = subst (λ (i : ℕ). Runs (change_buffer (dequeued_from s.body.kind) i s) rest) same after_x;
      joined = append-nil (x ∷ rest) ∙ ap (λ i. i ∷ rest) same;
    }

below : (count : ℕ) → (count == 0) ≡ false → nat_lt 0 count ≡ true
below count e = grind (arith, nat_tests)

off_where : (some streaming : Bool) → some ≡ true → (some && streaming) ≡ false → streaming ≡ false
off_where true streaming e f = f
off_where false streaming e f = absurd (cc)

next_requested : (s : QueueState) (count : ℕ) (kind : Memory) (sets : List (PlaneSet Plane)) (g : Grant)
    (line : List ℕ) → Runs s line → (count == 0) ≡ false → request_refusal count kind sets s.body ≡ None
    → Next s (reqbufs count kind sets (Ok g)) line
next_requested s count kind sets g line r some passed =
    let off : s.body.streaming ≡ false = off_where (nat_lt 0 count) s.body.streaming (below count some)
    (passed_here (nat_lt 0 count && s.body.streaming) Streaming _ passed) in
    record {
      rest = [];
      runs = record { incoming = []; shows = shows_requested count kind sets s (with_lines s.body r.incoming line) r.shows; still = λ e. refl };
      joined = append-nil line ∙ r.still off;
    }

pub next : (s : QueueState) (e : Event) (line : List ℕ) → Runs s line → stops e ≡ false → MayHappen s e → Next s e line
next s (reqbufs count kind sets (Ok g)) line r on a = next_requested s count kind sets g line r on a.0
next s (reqbufs count kind sets (Err x)) line r on a = record { rest = line; runs = r; joined = append-nil line }
next s (prepare_buf index kind given None) line r on a = next_prepared s index kind given line r (not_refused (prepare_refusal index kind given s.body) a)
next s (prepare_buf index kind given (Some x)) line r on a = record { rest = line; runs = r; joined = append-nil line }
next s (qbuf index kind given None) line r on a = next_queued s index kind given line r (not_refused (queue_refusal index kind given s.body) a)
next s (qbuf index kind given (Some x)) line r on a = record { rest = line; runs = r; joined = append-nil line }
next s (dqbuf (Ok d)) line r on a = next_dequeued s d line r a.1
next s (dqbuf (Err x)) line r on a = record { rest = line; runs = r; joined = append-nil line }
next s (streamon None) line r on a = record {
  rest = line;
  runs = record {
    incoming = r.incoming;
    shows = shows_streaming s (with_lines s.body r.incoming line) r.shows;
    still = λ e. absurd (not_both (body_streaming s.body).streaming (streams s.body) e);
  };
  joined = append-nil line;
}
next s (streamon (Some x)) line r on a = record { rest = line; runs = r; joined = append-nil line }
next s streamoff line r on a = absurd (cc)
next s (querybuf index answer) line r on a = record { rest = line; runs = r; joined = append-nil line }
next s (mmap index None) line r on a = record { rest = line; runs = next_kept s (mapped_as true) index line (λ b. refl) r; joined = append-nil line }
next s (mmap index (Some x)) line r on a = record { rest = line; runs = r; joined = append-nil line }
next s (munmap index None) line r on a = record { rest = line; runs = next_kept s (mapped_as false) index line (λ b. refl) r; joined = append-nil line }
next s (munmap index (Some x)) line r on a = record { rest = line; runs = r; joined = append-nil line }
next s (take_planes index (Ok set)) line r on a = record { rest = line; runs = next_kept s without_planes index line (λ b. refl) r; joined = append-nil line }
next s (take_planes index (Err x)) line r on a = record { rest = line; runs = r; joined = append-nil line }
next s (copy_plane index plane at count answer) line r on a = record { rest = line; runs = r; joined = append-nil line }
next s (complete index stamp bytes None) line r on a =
    record {
      rest = line ++ index ∷ [];
      runs = next_ended s (completed_with s.body.shape stamp bytes) Done index line
          (λ b. refl) refl refl r (not_refused (end_refusal index s.body) a);
      joined = refl;
    }
next s (complete index stamp bytes (Some x)) line r on a = record { rest = line; runs = r; joined = append-nil line }
next s (fail index stamp None) line r on a =
    record {
      rest = line ++ index ∷ [];
      runs = next_ended s (failed_with stamp) Error index line
          (λ b. refl) refl refl r (not_refused (end_refusal index s.body) a);
      joined = refl;
    }
next s (fail index stamp (Some x)) line r on a = record { rest = line; runs = r; joined = append-nil line }
next s fatal line r on a = record {
  rest = line;
  runs = record {
    incoming = r.incoming;
    shows =
        record {
          body = refl;
          incoming = r.shows.incoming;
          done = r.shows.done;
          in_step =
              record { only_streaming = r.shows.in_step.only_streaming; each = r.shows.in_step.each };
        };
    still = r.still;
  };
  joined = append-nil line;
}
next s (take_fresh fresh) line r on a = record {
  rest = line;
  runs = record {
    incoming = r.incoming;
    shows =
        record {
          body = refl;
          incoming = r.shows.incoming;
          done = r.shows.done;
          in_step =
              record { only_streaming = r.shows.in_step.only_streaming; each = r.shows.in_step.each };
        };
    still = r.still;
  };
  joined = append-nil line;
}

-- ---- a list of events

pub first_off : (a b : Bool) → (a || b) ≡ false → a ≡ false
first_off true b e = e
first_off false b e = refl

pub second_off : (a b : Bool) → (a || b) ≡ false → b ≡ false
second_off true b e = absurd (cc)
second_off false b e = e

rejoined : (line end_buffer taken next all_ended all_taken rest : List ℕ) → line ++ end_buffer ≡ taken ++ next → next
    ++ all_ended ≡ all_taken ++ rest → line ++ (end_buffer ++ all_ended) ≡ (taken ++ all_taken) ++ rest
rejoined line end_buffer taken next all_ended all_taken rest e f =
    sym (append_assoc line end_buffer all_ended)
    ∙ (ap (λ l. l ++ all_ended) e ∙ (append_assoc taken next all_ended ∙ (ap (λ l. taken ++ l) f ∙ sym (append_assoc taken all_taken rest))))

-- the line after events
record Along (s : QueueState) (events : List Event) (line : List ℕ) : Type 0 where
  rest : List ℕ
  runs : Runs (after_all after_event s events) rest
  joined : line ++ flat_map ended_by events ≡ flat_map dequeued_by events ++ rest

along : (s : QueueState) (events : List Event) (line : List ℕ) → Runs s line → list_any stops events ≡ false
    → EachIn after_event MayHappen s events → Along s events line
along s [] line r on a = record { rest = line; runs = r; joined = append-nil line }
along s (e ∷ es) line r on a =
    let n : Next s e line = next s e line r (first_off (stops e) (list_any stops es) on) a.0 in
    let more : Along (after_event s e) es n.rest = along (after_event s e) es n.rest n.runs (second_off (stops e) (list_any stops es) on) a.1 in
    record {
      rest = more.rest;
      runs = more.runs;
      joined = rejoined line (ended_by e) (dequeued_by e) n.rest
          (flat_map ended_by es) (flat_map dequeued_by es) more.rest n.joined more.joined;
    }

pub dequeued_in_order : DequeuedInOrder
dequeued_in_order = λ s stop events stop_buffer on a.
    let all : Along (after_event s stop) events [] = along (after_event s stop) events [] (runs_stopped s stop stop_buffer) on a.1 in
    (all.rest, all.joined)

-- ---- two lines in the same order

neither : (n : ℕ → ℕ) (x y : ℕ) → n x < n y → n y < n x → ⊥
neither n x y h k = omega arith

-- a buffer that heads one line, and comes after another's head, comes after that
behind_head : (n : ℕ → ℕ) (c : ℕ) (t : ℕ → Bool) (x y : ℕ) (xs ys : List ℕ) → InOrder n c t (x ∷ xs)
    → InOrder n c t (y ∷ ys) → (x ≡ y → ⊥) → n y < n x
behind_head n c t x y xs ys a b apart =
    let head : lists (x ∷ xs) x ≡ true = ap (λ e. e || lists xs x) (tested x x refl) in
    let there : lists (y ∷ ys) x ≡ true = b.listed x ∙ (sym (a.listed x) ∙ head) in
    b.rising.0 x (sym (ap (λ e. e || lists ys x) (differ y x (λ e. apart (sym e)))) ∙ there)

same_head : (n : ℕ → ℕ) (c : ℕ) (t : ℕ → Bool) (x y : ℕ) (xs ys : List ℕ) → InOrder n c t (x ∷ xs)
    → InOrder n c t (y ∷ ys) → x ≡ y
same_head n c t x y xs ys a b = elim (cases_eq x y) [
  | inl e ↦ e
  | inr apart ↦ absurd (neither n x y (behind_head n c t y x ys xs b a (λ e. apart (sym e))) (behind_head n c t x y xs ys a b apart))
]

no_head : (n : ℕ → ℕ) (c : ℕ) (t : ℕ → Bool) (x : ℕ) (xs : List ℕ) → InOrder n c t (x ∷ xs) → InOrder n c t [] → ⊥
no_head n c t x xs a b = not_both (lists (x ∷ xs) x) (ap (λ e. e || lists xs x) (tested x x refl)) (a.listed x ∙ sym (b.listed x))

same_line : (n : ℕ → ℕ) (c : ℕ) (t : ℕ → Bool) (xs ys : List ℕ) → InOrder n c t xs → InOrder n c t ys → xs ≡ ys
same_line n c t [] [] a b = refl
same_line n c t (x ∷ xs) [] a b = absurd (no_head n c t x xs a b)
same_line n c t [] (y ∷ ys) a b = absurd (no_head n c t y ys b a)
same_line n c t (x ∷ xs) (y ∷ ys) a b =
    let e : x ≡ y = same_head n c t x y xs ys a b in
    let u : ℕ → Bool = λ i. cond (i == x) false (t i) in
    let rest : xs ≡ ys = same_line n c u xs ys (InOrder-pop n c t u x xs a (λ i. refl))
    (InOrder-pop n c t u x ys (subst (λ (k : ℕ). InOrder n c t (k ∷ ys)) (sym e) b) (λ i. refl)) in
    ap (λ k. k ∷ xs) e ∙ ap (λ l. y ∷ l) rest

-- ---- a queue's events

each_first : (s : QueueState) (xs ys : List Event) → EachIn after_event MayHappen s (xs ++ ys)
    → EachIn after_event MayHappen s xs
each_first s [] ys each = tt
each_first s (x ∷ xs) ys each = (each.0, each_first (after_event s x) xs ys each.1)

each_second : (s : QueueState) (xs ys : List Event) → EachIn after_event MayHappen s (xs ++ ys)
    → EachIn after_event MayHappen (after_all after_event s xs) ys
each_second s [] ys each = each
each_second s (x ∷ xs) ys each = each_second (after_event s x) xs ys each.1

-- the others of a part, where its last state is one that the queue stands for
in_turn : {P : Type 0} (m : P → Plane) (new : Lined P) (s : QueueState) (done : List ℕ) (part behind : List Event)
    → Along s part done → (behind ≡ [] → StandsQueue m new (after_all after_event s part))
    → InTurn done part behind new.done
in_turn m new s done part behind a last =
    let t : QueueState = after_all after_event s part in (
      a.rest,
      a.joined,
      λ none. same_line t.end_number t.end_count (λ i. is_ended (state_at t.body.buffers i)) a.rest
          new.done a.runs.shows.done (last none).shown.done,
    )

-- a queue's start
started : {P : Type 0} (m : P → Plane) (code : Lined P) (s : QueueState) → StandsQueue m code s → IsStill code
    → Runs s code.done
started m code s h still = record {
  incoming = code.incoming;
  shows = record { body = refl; incoming = h.shown.incoming; done = h.shown.done; in_step = h.shown.in_step };
  still = λ off. still (ap (λ (b : Body Plane). b.streaming) h.shown.body ∙ off);
}

-- stops or not, what is done is a line
run_one : (s : QueueState) (e : Event) (line : List ℕ) → Runs s line → MayHappen s e → (rest : List ℕ)
    × Runs (after_event s e) rest
run_one s e line r a = by (stops e) refl
  where
    by : (t : Bool) → stops e ≡ t → (rest : List ℕ) × Runs (after_event s e) rest
    by true is = ([], runs_stopped s e is)
    by false is = let n : Next s e line = next s e line r is a in (n.rest, n.runs)

run_all : (s : QueueState) (events : List Event) (line : List ℕ) → Runs s line → EachIn after_event MayHappen s events
    → (rest : List ℕ) × Runs (after_all after_event s events) rest
run_all s [] line r each = (line, r)
run_all s (e ∷ es) line r each = let one = run_one s e line r each.0 in run_all (after_event s e) es one.0 one.1 each.1

none_listed : (line : List ℕ) → ((i : ℕ) → lists line i ≡ false) → line ≡ []
none_listed [] h = refl
none_listed (k ∷ ks) h = absurd (not_both (lists (k ∷ ks) k) (ap (λ e. e || lists ks k) (tested k k refl)) (h k))

pub new_queues_are_still : {P : Type 0} (m : P → Plane) → NewQueuesAreStill m
new_queues_are_still m code s h none = λ off. none_listed code.done (λ (i : ℕ). h.shown.done.listed i ∙ ap (λ bs. is_ended (state_at bs i)) none)

pub dequeues_in_order : {P : Type 0} (m : P → Plane) (old new : Lined P) (s : QueueState) (events : List Event)
    → StandsQueue m old s → EachIn after_event MayHappen s events → StandsQueue m new (after_all after_event s events)
    → KeepsOrder old new events
dequeues_in_order m old new s events first answered last = record {
  from_start = λ (part behind : List Event) is on idle.
      let each : EachIn after_event MayHappen s (part ++ behind) = subst (λ (l : List Event). EachIn after_event MayHappen s l) is answered in
      in_turn m new s old.done part behind (along s part old.done (started m old s first idle) on (each_first s part behind each))
      (λ none. subst (λ (l : List Event). StandsQueue m new (after_all after_event s l)) (is ∙ ap (λ l. part ++ l) none ∙ append-nil part) last);
  from_stop = λ (before part behind : List Event) (stop : Event) is stop_buffer on.
      let each : EachIn after_event MayHappen s (before ++ stop ∷ (part ++ behind)) =
      subst (λ (l : List Event). EachIn after_event MayHappen s l) is answered in
      let t : QueueState = after_all after_event s before in
      let now : EachIn after_event MayHappen t (stop ∷ (part ++ behind)) = each_second s before (stop ∷ (part ++ behind)) each in
      in_turn m new (after_event t stop) [] part behind
      (along (after_event t stop) part [] (runs_stopped t stop stop_buffer) on
      (each_first (after_event t stop) part behind now.1))
      (λ none. subst (λ (x : QueueState). StandsQueue m new x)
      (ap (after_all after_event s) (is ∙ ap (λ l. before ++ stop ∷ (part ++ l)) none
      ∙ ap (λ l. before ++ stop ∷ l) (append-nil part)) ∙ after-behind after_event s before (stop ∷ part)) last);
  still = λ idle off.
      let t : QueueState = after_all after_event s events in
      let end : (rest : List ℕ) × Runs t rest = run_all s events old.done (started m old s first idle) answered in
      sym (same_line t.end_number t.end_count (λ i. is_ended (state_at t.body.buffers i)) end.0 new.done end.1.shows.done last.shown.done)
      ∙ end.1.still (sym (ap (λ (b : Body Plane). b.streaming) last.shown.body) ∙ off);
}
