-- The frames that a lane takes from its queue are those that the device completed.
use Rattle.std.proofs.Common.{◌≡◌, ℕ, Bool, true, false, if◌then◌else◌, cond, List, [], ◌∷◌, ◌++◌, length, map, Option, Some, None, Result, Ok, Err, refl, sym, ◌∙◌, ap, subst, append_assoc}
use Rattle.std.specs.Prelude.{is_some, option_to_list, slice_get}
use Rattle.std.specs.List.{flat_map, list_any, zip}
use Rattle.std.proofs.lemmas.Bool.{eqb-true}
use Rattle.loop_plane.specs.Plane.{Plane}
use Rattle.loop_plane.specs.declared.memory.Memory.{Memory}
use Rattle.loop_disk.specs.Medium.{Medium}
use Rattle.loop_record.specs.declared.geometry.PixelFormat.{PixelFormat}
use Rattle.loop_record.specs.Recording.{Picture}
use Rattle.loop_record.specs.Turns.{EachIn, after_all}
use Rattle.loop_record.proofs.TurnRuns.{after-behind, told-behind}
use Rattle.loop_vb2.specs.declared.buffer.Buffer.{Buffer}
use Rattle.loop_vb2.specs.declared.reason.Errno.{Errno}
use Rattle.loop_vb2.specs.declared.reason.Reason.{Reason}
use Rattle.loop_vb2.specs.declared.reason.Reason.TheVariants.{BadType}
use Rattle.loop_vb2.specs.declared.reason.Refused.{Refused}
use Rattle.loop_vb2.specs.Buffers.{handed_over, state_at}
use Rattle.loop_vb2.specs.Events as model
use Rattle.loop_vb2.specs.Events.{Event, stops}
use Rattle.loop_vb2.specs.First.{shape_of}
use Rattle.loop_vb2.specs.Owner.{is_ended, waits}
use Rattle.loop_vb2.specs.Planes.{frame_size}
use Rattle.loop_vb2.specs.State.{Body, QueueState}
use Rattle.loop_vb2.proofs.Short.{AllFit}
use Rattle.loop_vb2.proofs.Lines.{InOrder-none}
use Rattle.loop_vb2.proofs.FrameOrder.{Runs, runs_stopped}
use Rattle.loop_ioctl.specs.declared.call.Ioctl.{Ioctl}
use Rattle.loop_ioctl.specs.declared.call.Ioctl.TheVariants as call
use Rattle.loop_ioctl.specs.declared.call.IoctlReply.{IoctlReply}
use Rattle.loop_ioctl.specs.declared.call.IoctlReply.TheVariants as reply_to
use Rattle.loop_ioctl.specs.declared.events.QueueEvent.{QueueEvent}
use Rattle.loop_ioctl.specs.declared.events.QueueEvent.TheVariants as queue_event
use Rattle.loop_ioctl.specs.declared.events.QueueReply.{QueueReply}
use Rattle.loop_ioctl.specs.declared.events.QueueReply.TheVariants as answer
use Rattle.loop_ioctl.specs.Calls.{IoctlState, call_event, kind_named, plain_event, planes_brought, refusal_before}
use Rattle.loop_ioctl.specs.Events.{is_whole}
use Rattle.loop_ioctl.specs.Modelled.{event_of}
use Rattle.loop_ioctl.proofs.ModelTurns.{all_told}
use Rattle.loop_lane.specs.declared.event.LaneEvent.{LaneEvent}
use Rattle.loop_lane.specs.declared.event.LaneEvent.TheVariants as event
use Rattle.loop_lane.specs.declared.event.LaneReply.{LaneReply}
use Rattle.loop_lane.specs.declared.event.LaneReply.TheVariants as reply
use Rattle.loop_desk.specs.declared.hand.LaneFault.{LaneFault}
use Rattle.loop_desk.specs.declared.hand.LaneFault.TheVariants.{Queue, Store}
use Rattle.loop_lane.specs.declared.lane.Lane.{Lane}
use Rattle.loop_desk.specs.Front.{dequeued, empty, forbids, Front, full, hand_frame, HandState, index_in, kind_of, on_queue, requeue_event, requeued, spent, taken_frame, was_given_up}
use Rattle.loop_desk.proofs.Short.{hand_with}
use Rattle.loop_lane.specs.Lane.{IsAtFront, IsLaneTurn, LaneRan, LaneTurn, StandsLane, StartsAnew, TakesFrames, at_front, event_at, event_at_turn, frame_of_turn, frames_taken, is_dequeue, lane_after, mixed, queue_events, turn_at, turn_of}
use Rattle.loop_desk.specs.Waiting.{IsCounted, BringsWhole, completed_frame, dequeued_frame, frames_dequeued, shot, without_flags}
use Rattle.loop_desk.proofs.BufferFrames.{Along, IsHolding, all_fit, all_shaped, frames_along, held_none, shots, stopped_waits}
use Rattle.loop_desk.proofs.QueueFrames.{each-first, each-second}
use Rattle.loop_lane.proofs.QueueTurns.{lane-told}
use Rattle.loop_desk.proofs.FrontTurns.{taken_event}

-- ---- lists

pub each-both : (s : QueueState) (es : List Event) → EachIn model.after_event model.MayHappen s es
    → EachIn model.after_event BringsWhole s es → EachIn model.after_event IsCounted s es
each-both s [] first second = tt
each-both s (e ∷ es) first second = ((first.0, second.0), each-both (model.after_event s e) es first.1 second.1)

-- ---- an event that takes no frame

abbrev Quiet : QueueState → List Event → Type 0
Quiet s es = EachIn model.after_event BringsWhole s es × (frames_dequeued s es ≡ [])

quiet-unless : (s : QueueState) (why : Option Reason) (es : List Event) → Quiet s es → Quiet s (cond (is_some why) [] es)
quiet-unless s None es quiet = quiet
quiet-unless s (Some reason) es quiet = (tt, refl)

quiet-if : (s : QueueState) (b : Bool) (es : List Event) → Quiet s es → Quiet s (cond b [] es)
quiet-if s true es quiet = (tt, refl)
quiet-if s false es quiet = quiet

quiet-requeue : (s : QueueState) (kind : Memory) (h : HandState) (result : Result ℕ LaneFault)
    → Quiet s (requeue_event kind h result)
quiet-requeue s kind empty result = (tt, refl)
quiet-requeue s kind (full i p planes) result = (tt, refl)
quiet-requeue s kind (spent i planes) (Ok index) = ((tt, tt), refl)
quiet-requeue s kind (spent i planes) (Err (Queue e)) = ((tt, tt), refl)
quiet-requeue s kind (spent i planes) (Err (Store fault)) = (tt, refl)

module _ {P A : Type 0} (m : P → Plane) where
  quiet-plain : (s : QueueState) (e : Option Errno → Event) (result : Result (IoctlReply P A) (Refused P A))
      → ((refusal : Option Errno) → Quiet s (e refusal ∷ [])) → Quiet s (option_to_list (plain_event e result))
  quiet-plain s e (Ok reply_to.Done) quiet = quiet None
  quiet-plain s e (Ok r) quiet = (tt, refl)
  quiet-plain s e (Err r) quiet = quiet (Some r.errno)

  abbrev is_dqbuf : Ioctl P A → Bool
  is_dqbuf (call.DqBuf type) = true
  is_dqbuf c = false

  -- an ioctl of the queue's own type that isn't DQBUF
  quiet-own : (c : Ioctl P A) (result : Result (IoctlReply P A) (Refused P A)) (j : IoctlState) → is_dqbuf c ≡ false
      → Quiet j.queue (option_to_list (call_event m c result j))
  quiet-own (call.ReqBufs type count kind supply) (Ok (reply_to.Granted g)) j other = ((tt, tt), refl)
  quiet-own (call.ReqBufs type count kind supply) (Ok r) j other = (tt, refl)
  quiet-own (call.ReqBufs type count kind supply) (Err r) j other = ((tt, tt), refl)
  quiet-own (call.QueryBuf type index) (Ok (reply_to.Info info)) j other = ((tt, tt), refl)
  quiet-own (call.QueryBuf type index) (Ok r) j other = (tt, refl)
  quiet-own (call.QueryBuf type index) (Err r) j other = ((tt, tt), refl)
  quiet-own (call.PrepareBuf type index given) result j other =
      quiet-plain j.queue (model.prepare_buf index (kind_named given) (planes_brought m given j.names)) result
      (λ refusal. ((tt, tt), refl))
  quiet-own (call.QBuf type index given) result j other =
      quiet-plain j.queue (model.qbuf index (kind_named given) (planes_brought m given j.names)) result
      (λ refusal. ((tt, tt), refl))
  quiet-own (call.DqBuf type) result j other = absurd (cc)
  quiet-own (call.StreamOn type) result j other = quiet-plain j.queue model.streamon result (λ refusal. ((tt, tt), refl))
  quiet-own (call.StreamOff type) (Ok reply_to.Done) j other = ((tt, tt), refl)
  quiet-own (call.StreamOff type) result j other = (tt, refl)
  quiet-own (call.Mmap type index) result j other = quiet-plain j.queue (model.mmap index) result (λ refusal. ((tt, tt), refl))
  quiet-own (call.Munmap type index) result j other = quiet-plain j.queue (model.munmap index) result (λ refusal. ((tt, tt), refl))

  typed-quiet : (c : Ioctl P A) (result : Result (IoctlReply P A) (Refused P A)) (j : IoctlState)
      → Quiet j.queue (option_to_list (call_event m c result j))
      → Quiet j.queue (event_of m (queue_event.Ioctl c) (answer.Ioctl result) j)
  typed-quiet c result j quiet = quiet-unless j.queue (refusal_before c j) (option_to_list (call_event m c result j)) quiet

  quiet-call : (c : Ioctl P A) (result : Result (IoctlReply P A) (Refused P A)) (j : IoctlState)
      → is_dequeue {P = P} {A = A} j.queue.body.format (queue_event.Ioctl c) ≡ false
      → Quiet j.queue (event_of m (queue_event.Ioctl c) (answer.Ioctl result) j)
  quiet-call (call.DqBuf type) result j other =
      subst (λ (t : Bool). Quiet j.queue (cond (is_some (cond t None (Some BadType))) []
      (option_to_list (call_event m (call.DqBuf type) result j)))) (sym other) (tt, refl)
  quiet-call c result j other = typed-quiet c result j (quiet-own c result j refl)

  quiet-event : (e : QueueEvent P A) (r : QueueReply P A) (j : IoctlState) → is_dequeue j.queue.body.format e ≡ false
      → is_whole j.queue.body.shape e ≡ true → Quiet j.queue (event_of m e r j)
  quiet-event (queue_event.Ioctl c) (answer.Ioctl result) j other whole = quiet-call c result j other
  quiet-event (queue_event.Complete index stamp bytes) (answer.Ended (Ok u)) j other whole =
      ((eqb-true (length bytes.items) (frame_size j.queue.body.shape) whole, tt), refl)
  quiet-event (queue_event.Complete index stamp bytes) (answer.Ended (Err e)) j other whole = ((tt, tt), refl)
  quiet-event (queue_event.Fail index stamp) (answer.Ended result) j other whole = ((tt, tt), refl)
  quiet-event queue_event.Fatal answer.Fatal j other whole = ((tt, tt), refl)
  quiet-event e r j other whole = (tt, refl)

-- ---- one turn

taken-tells : (f : Front) (index : ℕ) (o : Option (Buffer Plane)) → slice_get f.queue.queue.body.buffers index ≡ o
    → EachIn model.after_event BringsWhole f.queue.queue (taken_event (kind_of f.queue) index o)
    × (hand_frame (hand_with f.queue.queue.body index o) ≡ frames_dequeued f.queue.queue
    (taken_event (kind_of f.queue) index o))
taken-tells f index None got = (tt, refl)
taken-tells f index (Some b) got =
    let body : Body Plane = f.queue.queue.body in
    let planes = handed_over body.kind b.planes in (
      (tt, tt),
      elim (was_given_up b.state) as
          (λ t. hand_frame (cond t (spent index planes) (full index (taken_frame body.shape b) planes)) ≡ cond t []
          (taken_frame body.shape b ∷ []) ++ []) [ true ↦ refl | false ↦ refl ]
          ∙ sym (ap (λ o. shot body.shape o ++ []) got),
    )

module _ {P A : Type 0} (m : P → Plane) where
  -- each completion is whole, and what the hand gets is what the event takes
  abbrev pub Tells : Front → LaneTurn P A → Type 0
  Tells f t = EachIn model.after_event BringsWhole f.queue.queue (event_at_turn m f t)
      × (frame_of_turn m f t ≡ frames_dequeued f.queue.queue (event_at_turn m f t))

module _ {P : Type 0} (A : Type 0) (m : P → Plane) where
  pub dequeue-tells : (f : Front) (result : Result ℕ LaneFault) → Tells {P = P} {A = A} m f (at_front (dequeued result))
  dequeue-tells f (Ok index) = taken-tells f index (slice_get f.queue.queue.body.buffers index) refl
  dequeue-tells f (Err (Queue e)) = ((tt, tt), refl)
  dequeue-tells f (Err (Store fault)) = (tt, refl)

  dqbuf-tells : (f : Front) (result : Result ℕ LaneFault) (b : Bool) → IsAtFront {P = P} {A = A} m f
      (if b then at_front (dequeued result) else mixed)
      → Tells {P = P} {A = A} m f (if b then at_front (dequeued result) else mixed)
  dqbuf-tells f result true said = dequeue-tells f result
  dqbuf-tells f result false said = absurd said

  pub requeue-tells : (f : Front) (result : Result ℕ LaneFault) → Tells {P = P} {A = A} m f (at_front (requeued result))
  requeue-tells f (Ok index) = let quiet = quiet-requeue f.queue.queue (kind_of f.queue) f.hand (Ok index) in (quiet.0, sym quiet.1)
  requeue-tells f (Err fault) = let quiet = quiet-requeue f.queue.queue (kind_of f.queue) f.hand (Err fault) in (quiet.0, sym quiet.1)

module _ {P A : Type 0} (m : P → Plane) where
  queue-tells : (f : Front) (e : QueueEvent P A) (result : Result (QueueReply P A) LaneFault) (b : Bool)
      → is_dequeue f.queue.queue.body.format e ≡ b → IsAtFront m f (if b then mixed else at_front (on_queue e result))
      → Tells m f (if b then mixed else at_front (on_queue e result))
  queue-tells f e result true is said = absurd said
  queue-tells f e (Ok r) false is said =
      let quiet = quiet-if f.queue.queue (forbids (index_in f.hand) e) (event_of m e r f.queue) (quiet-event m e r f.queue is said.0) in
      (quiet.0, sym quiet.1)
  queue-tells f e (Err fault) false is said = (tt, refl)

  lane-tells : (f : Front) (e : LaneEvent P A) (p : LaneReply P A)
      → IsAtFront m f (turn_of f.queue.queue.body.format e p) → Tells m f (turn_of f.queue.queue.body.format e p)
  lane-tells f (event.Queue e) (reply.Queue result) said = queue-tells f e result (is_dequeue f.queue.queue.body.format e) refl said
  lane-tells f (event.Queue e) (reply.Dequeue result) said = dqbuf-tells A m f result (is_dequeue f.queue.queue.body.format e) said
  lane-tells f event.Dequeue (reply.Dequeue result) said = dequeue-tells A m f result
  lane-tells f event.Submit (reply.Submit result) said = (tt, refl)
  lane-tells f event.Requeue (reply.Requeue result) said = requeue-tells A m f result
  lane-tells f event.Flush (reply.Flush result) said = (tt, refl)
  lane-tells f (event.Lock span) (reply.Lock result) said = (tt, refl)
  lane-tells f (event.Unlock id) (reply.Unlock result) said = (tt, refl)
  lane-tells f (event.Read number) (reply.Read result) said = (tt, refl)
  lane-tells f e p said = absurd said

-- ---- turns

module _ {P A : Type 0} (m : P → Plane) where
  counted : (f : Front) (xs : List (LaneEvent P A × LaneReply P A)) → EachIn (lane_after m) (IsLaneTurn m) f xs
      → EachIn model.after_event IsCounted f.queue.queue (queue_events m f xs)
      × ((after_all (lane_after m) f xs).queue.queue ≡ after_all model.after_event f.queue.queue
      (queue_events m f xs))
  counted f xs each = all_told (lane_after m) (IsLaneTurn m) model.after_event IsCounted (λ x. x.queue.queue) (event_at m)
      (λ x t said. let told = lane-told m x (turn_at x t) said in
      (each-both x.queue.queue (event_at m x t) told.0 (lane-tells m x t.0 t.1 said).0, told.1)) f xs each

  frames-told : (f : Front) (xs : List (LaneEvent P A × LaneReply P A)) → EachIn (lane_after m) (IsLaneTurn m) f xs
      → frames_taken m f xs ≡ frames_dequeued f.queue.queue (queue_events m f xs)
  frames-told f [] each = refl
  frames-told f (x ∷ xs) each =
      let next = lane_after m f x in
      let s = f.queue.queue in
      let here = lane-tells m f x.0 x.1 each.0 in
      let rest = frames-told next xs each.1 in
      let moved = (lane-told m f (turn_at f x) each.0).1 in
      (λ i. here.1 i ++ rest i)
      ∙ (ap (λ (t : QueueState). frames_dequeued s (event_at m f x) ++ frames_dequeued t (queue_events m next xs)) moved
      ∙ sym (told-behind model.after_event dequeued_frame s (event_at m f x) (queue_events m next xs)))

  -- the front after turns
  abbrev front_behind : Front → List (LaneEvent P A × LaneReply P A) → Front
  front_behind f turns = after_all (lane_after m) f turns

  -- turns from a front on: what was taken is a prefix of what the device completed
  abbrev TakesCompleted : Front → List (LaneEvent P A × LaneReply P A) → Type 0
  TakesCompleted f part = (others : List Picture) × (flat_map completed_frame (queue_events m f part)
      ≡ map without_flags (frames_taken m f part) ++ others)

  -- so it is from the start on, and from each stop on
  record TakesParts (f : Front) (turns : List (LaneEvent P A × LaneReply P A)) : Type 0 where
    from_start : (part behind : List (LaneEvent P A × LaneReply P A)) → turns ≡ part ++ behind
        → list_any stops (queue_events m f part) ≡ false → f.queue.queue.body.buffers ≡ [] → TakesCompleted f part
    from_stop : (before part behind : List (LaneEvent P A × LaneReply P A)) (stop : LaneEvent P A × LaneReply P A)
        (e : Event) → turns ≡ before ++ stop ∷ (part ++ behind) → event_at m (front_behind f before) stop ≡ e ∷ []
        → stops e ≡ true → list_any stops (queue_events m (front_behind f (before ++ stop ∷ [])) part) ≡ false
        → TakesCompleted (front_behind f (before ++ stop ∷ [])) part

  -- turns whose last one stopped the stream
  record Stopped (f : Front) (turns : List (LaneEvent P A × LaneReply P A)) : Type 0 where
    first : List (LaneEvent P A × LaneReply P A)
    stop : LaneEvent P A × LaneReply P A
    e : Event
    is : turns ≡ first ++ stop ∷ []
    told : event_at m (front_behind f first) stop ≡ e ∷ []
    ends : stops e ≡ true

  stopped : (f : Front) (x : LaneEvent P A × LaneReply P A) (xs : List (LaneEvent P A × LaneReply P A))
      → StartsAnew m f (x ∷ xs) → Stopped f (x ∷ xs)
  stopped f x [] new = record { first = []; stop = x; e = new.0; is = refl; told = new.1; ends = new.2 }
  stopped f x (y ∷ ys) new = let r = stopped (lane_after m f x) y ys new in
      record { first = x ∷ r.first; stop = r.stop; e = r.e; is = ap (λ l. x ∷ l) r.is; told = r.told; ends = r.ends }

  -- both at once
  all-parts : (f : Front) (turns : List (LaneEvent P A × LaneReply P A)) → TakesParts f turns → TakesFrames m f turns
  all-parts f turns parts [] part behind now is new at on =
      subst (λ (g : Front). TakesCompleted g part) (sym at)
      (parts.from_start part behind is (subst (λ (g : Front). list_any stops (queue_events m g part) ≡ false) at on) new)
  all-parts f turns parts (x ∷ xs) part behind now is new at on =
      let r = stopped f x xs new in
      let there : now ≡ front_behind f (r.first ++ r.stop ∷ []) = at ∙ ap (front_behind f) r.is in
      let all : turns ≡ r.first ++ r.stop ∷ (part ++ behind) =
      is ∙ (ap (λ l. l ++ (part ++ behind)) r.is ∙ append_assoc r.first (r.stop ∷ []) (part ++ behind)) in
      subst (λ (g : Front). TakesCompleted g part) (sym there)
      (parts.from_stop r.first part behind r.stop r.e all r.told r.ends
      (subst (λ (g : Front). list_any stops (queue_events m g part) ≡ false) there on))

  -- from a front whose queue has nothing done
  from-front : (format : PixelFormat) (width height : ℕ) (f : Front) (part : List (LaneEvent P A × LaneReply P A))
      → Runs f.queue.queue [] → IsHolding (shape_of format width height) f.queue.queue
      → EachIn (lane_after m) (IsLaneTurn m) f part → list_any stops (queue_events m f part) ≡ false
      → TakesCompleted f part
  from-front format width height f part runs holding each on =
      let s : QueueState = f.queue.queue in
      let events = queue_events m f part in
      let end : QueueState = after_all model.after_event s events in
      let all : Along s events [] = frames_along format width height s events [] runs holding on (counted f part each).0 in
      let others = shots end.body.shape end.body.buffers all.rest in
      (others, all.frames ∙ ap (λ l. map without_flags l ++ others) (sym (frames-told f part each)))

parts : {D P A : Type 0} (m : P → Plane) (medium : D → Medium) (old new : Lane D P A)
    (es : List (LaneEvent P A)) (ps : List (LaneReply P A)) → LaneRan m medium old new es ps
    → (f : Front) → StandsLane m old f → (format : PixelFormat) (width height : ℕ)
    → old.queue.body.shape ≡ shape_of format width height → TakesParts m f (zip es ps)
parts {D} {P} {A} m medium old new es ps run f stands format width height shaped =
    let told = (run.front f stands).0 in
    let s : QueueState = f.queue.queue in
    let own : s.body.shape ≡ shape_of format width height = sym (ap (λ (b : Body Plane). b.shape) stands.queue.queue.shown.body) ∙ shaped in
    record {
      from_start = λ (part behind : List (LaneEvent P A × LaneReply P A)) is on none.
          let each = each-first (lane_after m) (IsLaneTurn m) f part behind
          (subst (λ (l : List (LaneEvent P A × LaneReply P A)). EachIn (lane_after m) (IsLaneTurn m) f l) is told)
          in
          let runs : Runs s [] = record {
            incoming = [];
            shows = record {
              body = refl;
              incoming = InOrder-none s.queue_number s.queue_count _ (λ i. ap (λ bs. waits (state_at bs i)) none);
              done = InOrder-none s.end_number s.end_count _ (λ i. ap (λ bs. is_ended (state_at bs i)) none);
              in_step = stands.queue.queue.shown.in_step;
            };
            still = λ e. refl;
          } in
          from-front m format width height f part runs
          (record {
            shaped = own;
            fit = stands.queue.queue.fit;
            held =
                held_none s.body.buffers (λ i. ap (λ bs. waits (state_at bs i)) none);
          }) each on;
      from_stop = λ (before part behind : List (LaneEvent P A × LaneReply P A)) (stop : LaneEvent P A × LaneReply P A) (e : Event) is here stopped on.
          let all = subst (λ (l : List (LaneEvent P A × LaneReply P A)). EachIn (lane_after m) (IsLaneTurn m) f l) is told in
          let first = counted m f before (each-first (lane_after m) (IsLaneTurn m) f before (stop ∷ (part ++ behind)) all) in
          let now : Front = front_behind m f before in
          let next : Front = front_behind m f (before ++ stop ∷ []) in
          let follows : next ≡ lane_after m now stop = after-behind (lane_after m) f before (stop ∷ []) in
          let later : EachIn (lane_after m) (IsLaneTurn m) now (stop ∷ (part ++ behind)) =
          each-second (lane_after m) (IsLaneTurn m) f before (stop ∷ (part ++ behind)) all in
          let each : EachIn (lane_after m) (IsLaneTurn m) next part =
          subst (λ (x : Front). EachIn (lane_after m) (IsLaneTurn m) x part) (sym follows)
          (each-first (lane_after m) (IsLaneTurn m) (lane_after m now stop) part behind later.1) in
          let n : QueueState = now.queue.queue in
          let came : n ≡ after_all model.after_event s (queue_events m f before) = first.1 in
          let two = counted m now (stop ∷ []) (later.0, tt) in
          let events = queue_events m now (stop ∷ []) in
          let went : next.queue.queue ≡ after_all model.after_event n events = ap (λ (x : Front). x.queue.queue) follows ∙ two.1 in
          let done : next.queue.queue ≡ model.after_event n e = went ∙ ap (λ l. after_all model.after_event n (l ++ [])) here in
          let fit_now : AllFit n.body = subst (λ (t : QueueState). AllFit t.body) (sym came)
          (all_fit s (queue_events m f before) first.0 stands.queue.queue.fit) in
          from-front m format width height next part (subst (λ (t : QueueState). Runs t []) (sym done) (runs_stopped n e stopped))
          (record {
            shaped = ap (λ (t : QueueState). t.body.shape) went
                ∙ (all_shaped n events ∙ (ap (λ (t : QueueState). t.body.shape) came
                ∙ (all_shaped s (queue_events m f before) ∙ own)));
            fit = subst (λ (t : QueueState). AllFit t.body) (sym went) (all_fit n events two.0 fit_now);
            held = held_none next.queue.queue.body.buffers (λ i. ap (λ (t : QueueState). waits (state_at t.body.buffers i)) done ∙ stopped_waits n e stopped i);
          }) each on;
    }

pub completes : {D P A : Type 0} (m : P → Plane) (medium : D → Medium) (old new : Lane D P A)
    (es : List (LaneEvent P A)) (ps : List (LaneReply P A)) → LaneRan m medium old new es ps
    → (f : Front) → StandsLane m old f → (format : PixelFormat) (width height : ℕ)
    → old.queue.body.shape ≡ shape_of format width height → TakesFrames m f (zip es ps)
completes m medium old new es ps run f stands format width height shaped =
    all-parts m f (zip es ps) (parts m medium old new es ps run f stands format width height shaped)
