-- A frame taken into the ring, and a buffer queued again, as what each adds to what a front has done.
use Rattle.std.proofs.Common.{◌≡◌, ◌<◌, ◌++◌, ℕ, Bool, true, false, cond, List, [], ◌∷◌, map, Option, Some, None, Result, Ok, Err, refl, sym, ap, ◌∙◌, subst, option_to_list}
use Rattle.std.specs.Prelude.{slice_get}
use Rattle.std.proofs.lemmas.List.{append-nil, map-append}
use Rattle.std.specs.List.{flat_map, list_any}
use Rattle.rtrb.specs.declared.AnyItems.{AnyItems}
use Rattle.rtrb.specs.declared.producer.Producer.{Producer}
use Rattle.rtrb.specs.Ring.{ProducerLooked, SameProducer, sent}
use Rattle.loop_plane.specs.Fds.{Fds}
use Rattle.loop_plane.specs.Plane.{Plane}
use Rattle.loop_plane.specs.declared.memory.Memory.{Memory}
use Rattle.loop_record.specs.declared.frame.Frame.{Frame}
use Rattle.loop_record.specs.Recording.{Picture, picture}
use Rattle.loop_record.specs.Turns.{EachIn, after_all}
use Rattle.loop_vb2.specs.declared.buffer.Buffer.{Buffer}
use Rattle.loop_vb2.specs.declared.planes.PlaneSet.{PlaneSet}
use Rattle.loop_vb2.specs.declared.state.BufferState.TheVariants.{Dequeued}
use Rattle.loop_vb2.specs.Buffers.{dequeued_from, handed_over, queued_with, state_at}
use Rattle.loop_vb2.specs.Effects.{awake, device_runs, settle_device, with_buffer}
use Rattle.loop_vb2.proofs.Lines.{tested}
use Rattle.loop_vb2.proofs.Owners.{first_is_ended}
use Rattle.loop_vb2.proofs.States.{length-changed, state_at-changed}
use Rattle.loop_vb2.specs.Events.{Event, MayHappen, after_event, dqbuf, stops}
use Rattle.loop_vb2.specs.State.{Body, Lined, QueueState}
use Rattle.loop_ioctl.specs.Attached.{values_by_fd}
use Rattle.loop_ioctl.specs.Calls.{IoctlState}
use Rattle.loop_capture.specs.declared.source.Next.{Next}
use Rattle.loop_capture.specs.Ticks.{SeenDevice}
use Rattle.loop_desk.specs.declared.hand.Hand.{Hand}
use Rattle.loop_desk.specs.declared.hand.Hand.TheVariants as hand
use Rattle.loop_desk.specs.declared.hand.LaneFault.{LaneFault}
use Rattle.loop_desk.specs.declared.hand.LaneFault.TheVariants.{Queue, Store}
use Rattle.loop_vb2.specs.Answers.{buffer_answer}
use Rattle.loop_desk.specs.Front.{Front, HandState, IsDequeue, IsOneEvent, IsRequeue, StandsFront, TurnsBeside, dequeue_event, dequeued, empty, front_after, full, hand_state, kind_of, planes_held, requeue_event, requeued, spent, taken_frame, was_given_up, hand_frame}
use Rattle.loop_desk.proofs.Short.{hand_with}
use Rattle.loop_desk.specs.Waiting.{IsCounted, frames_dequeued, shot, completed_frame, without_flags}
use Rattle.loop_pipeline.specs.Fronts.{IsApart, IsOut, emptied, frame_of, marked_frame, shown_of}
use Rattle.loop_pipeline.proofs.FrontRuns.{Adds}

-- ---- a buffer that is dequeued

-- a mark changes nothing but the flags
unmarked : {P A : Type 0} (marks : List ℕ) (before : List (Frame A)) (k : Hand P A)
    → map without_flags (map picture (before ++ marked_frame marks k))
    ≡ map without_flags (map picture (before ++ frame_of k))
unmarked marks [] (hand.Frame index frame planes) = refl
unmarked marks [] (hand.Spent index planes) = refl
unmarked marks [] hand.Empty = refl
unmarked marks (x ∷ xs) k = ap (λ l. without_flags (picture x) ∷ l) (unmarked marks xs k)

-- DQBUF of a buffer, or nothing
abbrev event-of : Memory → ℕ → Option (Buffer Plane) → List Event
event-of kind index b = map (λ x. dqbuf (Ok (buffer_answer kind index x))) (option_to_list b)

event-counted : (s : QueueState) (kind : Memory) (index : ℕ) (b : Option (Buffer Plane))
    → IsOneEvent s (event-of kind index b) → EachIn after_event IsCounted s (event-of kind index b)
event-counted s kind index None said = absurd said
event-counted s kind index (Some b) said = ((said, tt), tt)

event-flows : (kind : Memory) (index : ℕ) (b : Option (Buffer Plane)) → list_any stops (event-of kind index b) ≡ false
event-flows kind index None = refl
event-flows kind index (Some b) = refl

event-completes : (kind : Memory) (index : ℕ) (b : Option (Buffer Plane))
    → flat_map completed_frame (event-of kind index b) ≡ []
event-completes kind index None = refl
event-completes kind index (Some b) = refl

frame-if : (gone : Bool) (index : ℕ) (p : Picture) (planes others : Option (PlaneSet Plane))
    → cond gone [] (p ∷ []) ++ [] ≡ hand_frame (cond gone (spent index planes) (full index p others))
frame-if true index p planes others = refl
frame-if false index p planes others = refl

-- its frame is then in the hand, if it has one
event-frames : (s : QueueState) (kind : Memory) (index : ℕ) (b : Option (Buffer Plane))
    → slice_get s.body.buffers index ≡ b → IsOneEvent s (event-of kind index b)
    → frames_dequeued s (event-of kind index b) ≡ hand_frame (hand_with s.body index b)
event-frames s kind index None is said = absurd said
event-frames s kind index (Some b) is said =
    ap (λ x. shot s.body.shape x ++ []) is
    ∙ frame-if (was_given_up b.state) index (taken_frame s.body.shape b) (handed_over s.body.kind b.planes) (handed_over s.body.kind b.planes)

-- it is out of the queue then
changed-out : (s : QueueState) (kind : Memory) (index : ℕ) (b : Buffer Plane) → MayHappen s (dqbuf (Ok (buffer_answer kind index b)))
    → IsOut (after_event s (dqbuf (Ok (buffer_answer kind index b)))).body index
changed-out s kind index b said =
    let bs = s.body.buffers in
    let f = dequeued_from s.body.kind in
    let within = (first_is_ended s index said.1).1 in (
      subst (λ n. index < n) (sym (length-changed f bs index)) within,
      state_at-changed f Dequeued bs index index (λ x. refl) within
          ∙ ap (λ t. cond t Dequeued (state_at bs index)) (tested index index refl),
    )

emptied-apart : (body : Body Plane) (index : ℕ) (gone : Bool) (p : Picture) (planes others : Option (PlaneSet Plane))
    → IsOut body index → IsApart body (emptied (cond gone (spent index planes) (full index p others)))
emptied-apart body index true p planes others out = out
emptied-apart body index false p planes others out = out

taken-apart : (s : QueueState) (kind : Memory) (index : ℕ) (b : Option (Buffer Plane))
    → slice_get s.body.buffers index ≡ b → IsOneEvent s (event-of kind index b)
    → IsApart (after_all after_event s (event-of kind index b)).body (emptied (hand_with s.body index b))
taken-apart s kind index None is said = absurd said
taken-apart s kind index (Some b) is said =
    emptied-apart (after_event s (dqbuf (Ok (buffer_answer kind index b)))).body index (was_given_up b.state)
    (taken_frame s.body.shape b) (handed_over s.body.kind b.planes) (handed_over s.body.kind b.planes)
    (changed-out s kind index b said)

taken-streams : (s : QueueState) (kind : Memory) (index : ℕ) (b : Option (Buffer Plane))
    → (after_all after_event s (event-of kind index b)).body.streaming ≡ s.body.streaming
taken-streams s kind index None = refl
taken-streams s kind index (Some b) = refl

-- that a device starts leaves the stream on
settled-streams : (b : Body Plane) → (settle_device b).streaming ≡ b.streaming
settled-streams b = by (device_runs b)
  where
    by : (t : Bool) → (cond t (awake b) b).streaming ≡ b.streaming
    by true = refl
    by false = refl

-- ---- a hand without its frame

emptied-planes : (h : HandState) → planes_held (emptied h) ≡ planes_held h
emptied-planes empty = refl
emptied-planes (full index p planes) = refl
emptied-planes (spent index planes) = refl

emptied-frame : (h : HandState) → hand_frame (emptied h) ≡ []
emptied-frame empty = refl
emptied-frame (full index p planes) = refl
emptied-frame (spent index planes) = refl

module _ {S P A : Type 0} (gives : S → Next → List ℕ → S → Type 0) (m : P → Plane) (table : Fds P)
    (d : SeenDevice S) where
  frame-read : (h : Hand P A) → map picture (frame_of h) ≡ hand_frame (hand_state m h)
  frame-read hand.Empty = refl
  frame-read (hand.Frame index frame planes) = refl
  frame-read (hand.Spent index planes) = refl

  emptied-stands : (q : Lined P) (h k : Hand P A) (f : Front) → hand_state m k ≡ emptied (hand_state m h)
      → StandsFront m q table h f → StandsFront m q table k (record f { hand = emptied f.hand })
  emptied-stands q h k f is stands = record {
    queue = stands.queue;
    hand = is ∙ ap emptied stands.hand;
    out = stands.out ∙ ap (λ x. values_by_fd (kind_of f.queue) (option_to_list x)) (sym (emptied-planes f.hand));
  }

  -- ---- what a call adds

  -- the ring was looked at
  pub look-adds : (p q : Lined P) (h : Hand P A) (to up : Producer (Frame A) A AnyItems) (f : Front)
      → q.body.shape ≡ p.body.shape → hand_frame f.hand ≡ [] → IsApart f.queue.queue.body f.hand
      → StandsFront m q table h f → ProducerLooked to up
      → Adds gives m table f.queue.queue d d p q h to up []
  look-adds p q h to up f formed free apart stands looked = record {
    events = [];
    legal = tt;
    flows = refl;
    now = f;
    stands = stands;
    reached = refl;
    formed = formed;
    free = free;
    apart = apart;
    streams = refl;
    ring = looked.0;
    went = ap (map without_flags) (ap (map picture) looked.1 ∙ sym (append-nil (map picture (sent to))));
    source = refl;
    shows = refl;
  }

  -- a DQBUF was refused
  pub refused-adds : (q r : Lined P) (h k : Hand P A) (to up : Producer (Frame A) A AnyItems) (f : Front)
      (fault : LaneFault) → r.body.shape ≡ q.body.shape → hand_frame f.hand ≡ [] → IsApart f.queue.queue.body f.hand
      → StandsFront m q table h f → ProducerLooked to up
      → TurnsBeside m q h (dequeued (Err fault)) r k → Adds gives m table f.queue.queue d d q r k to up []
  refused-adds q r h k to up f (Store fault) formed free apart stands looked turn =
      let t = turn table f stands in look-adds q r k to up f formed free apart t.1 looked
  refused-adds q r h k to up f (Queue e) formed free apart stands looked turn =
      let t = turn table f stands in record {
        events = dqbuf (Err e) ∷ [];
        legal = refused f.queue f.hand t.0;
        flows = refl;
        now = f;
        stands = t.1;
        reached = refl;
        formed = formed;
        free = free;
        apart = apart;
        streams = refl;
        ring = looked.0;
        went = ap (map without_flags) (ap (map picture) looked.1 ∙ sym (append-nil (map picture (sent to))));
        source = refl;
        shows = refl;
      }
    where
      refused : (j : IoctlState) (x : HandState) → IsDequeue j x (Err (Queue e))
          → EachIn after_event IsCounted j.queue (dqbuf (Err e) ∷ [])
      refused j empty said = ((said, tt), tt)
      refused j (full i p planes) said = absurd (cc)
      refused j (spent i planes) said = absurd (cc)

  -- a buffer was dequeued, and its frame pushed
  pub take-adds : (q r : Lined P) (h k l : Hand P A) (to look up : Producer (Frame A) A AnyItems) (marks : List ℕ)
      (f : Front) (index : ℕ) → r.body.shape ≡ q.body.shape → StandsFront m q table h f → ProducerLooked to look → TurnsBeside m q h (dequeued (Ok index)) r k
      → hand_state m l ≡ emptied (hand_state m k) → SameProducer look up → sent up ≡ sent look ++ marked_frame marks k
      → Adds gives m table f.queue.queue d d q r l to up []
  take-adds q r h k l to look up marks f index formed stands looked turn hand ring sends =
      let t = turn table f stands in
      let s = f.queue.queue in
      let b = slice_get s.body.buffers index in
      let g = front_after {P = P} {A = A} m f (dequeued (Ok index)) in
      let one : IsOneEvent s (event-of (kind_of f.queue) index b) = free-hand f.queue f.hand t.0 in record {
        events = event-of (kind_of f.queue) index b;
        legal = event-counted s (kind_of f.queue) index b one;
        flows = event-flows (kind_of f.queue) index b;
        now = record g { hand = emptied g.hand };
        stands = emptied-stands r k l g hand t.1;
        reached = refl;
        formed = formed;
        free = emptied-frame g.hand;
        apart = taken-apart s (kind_of f.queue) index b refl one;
        streams = taken-streams s (kind_of f.queue) index b;
        ring = joined looked.0 ring;
        went = ap (λ l. map without_flags (map picture l)) sends ∙ (unmarked marks (sent look) k
            ∙ ap (map without_flags) (ap (λ x. map picture (x ++ frame_of k)) looked.1
            ∙ (map-append picture (sent to) (frame_of k)
            ∙ ap (λ x. map picture (sent to) ++ x) (frame-read k ∙ (ap hand_frame t.1.hand
            ∙ sym (event-frames s (kind_of f.queue) index b refl one))))));
        source = refl;
        shows = ap (map shown_of) (event-completes (kind_of f.queue) index b);
      }
    where
      free-hand : (j : IoctlState) (x : HandState) → IsDequeue j x (Ok index)
          → IsOneEvent j.queue (dequeue_event j (Ok index))
      free-hand j empty said = said
      free-hand j (full i p planes) said = absurd (cc)
      free-hand j (spent i planes) said = absurd (cc)

      joined : SameProducer to look → SameProducer look up → SameProducer to up
      joined a c = ((c.0.0 ∙ a.0.0, c.0.1 ∙ a.0.1, c.0.2 ∙ a.0.2, c.0.3 ∙ a.0.3), c.1 ∙ a.1)

  -- the hand's buffer was queued again, or that was refused
  pub put-adds : (q r : Lined P) (h k : Hand P A) (to : Producer (Frame A) A AnyItems) (f : Front)
      (result : Result ℕ LaneFault) → r.body.shape ≡ q.body.shape → hand_frame f.hand ≡ [] → IsApart f.queue.queue.body f.hand
      → StandsFront m q table h f → TurnsBeside m q h (requeued result) r k → Adds gives m table f.queue.queue d d q r k to to []
  put-adds q r h k to f result formed free apart stands turn =
      let t = turn table f stands in by f.queue f.hand result free apart t.0 t.1
    where
      same : map picture (sent to) ≡ map picture (sent to) ++ []
      same = sym (append-nil (map picture (sent to)))

      plain : (j : IoctlState) (x : HandState) → hand_frame x ≡ [] → IsApart j.queue.body x
          → StandsFront m r table k (record { queue = j; hand = x }) → Adds gives m table j.queue d d q r k to to []
      plain j x free apart stands = record {
        events = [];
        legal = tt;
        flows = refl;
        now = record { queue = j; hand = x };
        stands = stands;
        reached = refl;
        formed = formed;
        free = free;
        apart = apart;
        streams = refl;
        ring = ((refl, refl, refl, refl), refl);
        went = ap (map without_flags) same;
        source = refl;
        shows = refl;
      }

      by : (j : IoctlState) (x : HandState) (result : Result ℕ LaneFault) → hand_frame x ≡ [] → IsApart j.queue.body x
          → IsRequeue j x result
          → StandsFront m r table k (front_after {P = P} {A = A} m (record { queue = j; hand = x }) (requeued result))
          → Adds gives m table j.queue d d q r k to to []
      by j empty (Ok index) free apart said stands = absurd (cc)
      by j (full i p planes) result free apart said stands = absurd (cc)
      by j (spent i planes) (Ok index) free apart said stands = record {
        events = requeue_event (kind_of j) (spent i planes) (Ok index);
        legal = ((said.0, tt), tt);
        flows = refl;
        now = front_after {P = P} {A = A} m (record { queue = j; hand = spent i planes }) (requeued (Ok index));
        stands = stands;
        reached = refl;
        formed = formed;
        free = refl;
        apart = tt;
        streams = settled-streams (with_buffer (queued_with planes) i j.queue.body);
        ring = ((refl, refl, refl, refl), refl);
        went = ap (map without_flags) same;
        source = refl;
        shows = refl;
      }
      by j (spent i planes) (Err (Queue e)) free apart said stands = record {
        events = requeue_event (kind_of j) (spent i planes) (Err (Queue e));
        legal = ((said.0, tt), tt);
        flows = refl;
        now = record { queue = j; hand = spent i planes };
        stands = stands;
        reached = refl;
        formed = formed;
        free = refl;
        apart = apart;
        streams = refl;
        ring = ((refl, refl, refl, refl), refl);
        went = ap (map without_flags) same;
        source = refl;
        shows = refl;
      }
      by j (spent i planes) (Err (Store fault)) free apart said stands = absurd said.0
      by j empty (Err fault) free apart said stands = plain j empty free apart stands
