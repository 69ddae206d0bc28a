-- Each event of the front is one turn of queue, table and hand.
use Rattle.std.proofs.Common.{◌≡◌, ℕ, zero, suc, ◌+◌, Bool, true, false, cond, List, [], ◌∷◌, map, Option, Some, None, Ok, Err, refl, sym, ◌∙◌, ap, subst, arith}
use Rattle.std.specs.Prelude.{Result, option_to_list, slice_get, is_some, MatchBool}
use Rattle.loop_plane.specs.Plane.{Plane}
use Rattle.loop_plane.specs.Fds.{Fds}
use Rattle.loop_plane.specs.declared.memory.Memory.{Memory}
use Rattle.loop_plane.specs.declared.memory.Memory.TheVariants.{Mmap, UserPtr, DmaBuf}
use Rattle.loop_store.specs.declared.fault.StoreFault.{StoreFault}
use Rattle.loop_vb2.specs.declared.buffer.Buffer.{Buffer}
use Rattle.loop_vb2.specs.declared.buffer.Dequeued.{Dequeued}
use Rattle.loop_vb2.specs.declared.planes.PlaneSet.{PlaneSet}
use Rattle.loop_vb2.specs.declared.reason.Refused.{Refused}
use Rattle.loop_vb2.specs.Buffers.{change_at, handed_over, dequeued_from}
use Rattle.loop_vb2.specs.Refusals.{queue_refusal}
use Rattle.loop_vb2.specs.Answers.{buffer_answer}
use Rattle.loop_vb2.specs.Effects as effect
use Rattle.loop_vb2.specs.State.{Body, QueueState, Lined, StandsQueue}
use Rattle.loop_vb2.specs.Planes.{read_given}
use Rattle.loop_vb2.specs.Events.{Event, Happens, MayHappen, read_frame, qbuf, dqbuf}
use Rattle.loop_vb2.proofs.FrameOrder.{not_refused}
use Rattle.loop_ioctl.specs.declared.call.Ioctl.TheVariants as call
use Rattle.loop_ioctl.specs.declared.events.QueueEvent.{QueueEvent}
use Rattle.loop_ioctl.specs.declared.events.QueueEvent.TheVariants as event
use Rattle.loop_ioctl.specs.declared.events.QueueReply.{QueueReply}
use Rattle.loop_ioctl.specs.Names.{Names}
use Rattle.loop_ioctl.specs.Attached.{fd_times, values_by_fd, IsLinked}
use Rattle.loop_ioctl.proofs.Short.{values_held}
use Rattle.loop_ioctl.specs.Calls.{IoctlState, StandsIoctl, planes_at}
use Rattle.loop_ioctl.specs.Events.{is_whole, IsTold, state_after, Reacts}
use Rattle.loop_ioctl.proofs.AttachedFds.{in_buffers, in_buffer, once_same}
use Rattle.loop_ioctl.proofs.OutsidePlanes.{queued_kind, queued_none, queued_some, IsAside, is_request, event_aside, event_out, new_queues_stand}
use Rattle.loop_ioctl.proofs.LeavingPlanes.{planes_got, out_count}
use Rattle.loop_ioctl.proofs.QueueSteps.{stays}
use Rattle.loop_desk.specs.declared.hand.Hand.{Hand}
use Rattle.loop_desk.specs.declared.hand.Hand.TheVariants as hand
use Rattle.loop_desk.specs.declared.hand.LaneFault.TheVariants.{Queue}
use Rattle.loop_desk.specs.Front.{dequeued, empty, forbids, Front, FrontTurns, full, hand_given, hand_of, hand_state, HandState, index_in, IsDequeue, IsForbidden, IsOneEvent, IsRequeue, kind_of, on_queue, planes_held, requeue_event, requeued, spent, StandsFront, taken_frame, TurnsBeside, was_given_up, with_hand}
use Rattle.loop_desk.proofs.Short.{hand_with}
use Rattle.loop_desk.specs.FrontLaws.{NewFrontsStand}
use Rattle.loop_desk.specs.Parts.{StaysIn, GetsBuffer}

-- ---- what an event of the queue leaves

-- the planes that are out of the queue are the hand's
abbrev IsOut : IoctlState → HandState → Type 0
IsOut j h = j.out ≡ values_by_fd (kind_of j) (option_to_list (planes_held h))

-- a state with the same planes out and memory of the same kind
same_out : (j k : IoctlState) (h : HandState) → k.out ≡ j.out → kind_of k ≡ kind_of j → IsOut j h → IsOut k h
same_out j k h e kind out = e ∙ (out ∙ ap (λ x. values_by_fd x (option_to_list (planes_held h))) (sym kind))

none_by_fd : (kind : Memory) → values_by_fd {T = Plane} kind [] ≡ []
none_by_fd Mmap = refl
none_by_fd UserPtr = refl
none_by_fd DmaBuf = refl

-- nothing is out where the hand is empty, whatever the kind
nothing_out : (j k : IoctlState) (h : HandState) → k.out ≡ j.out → is_some (index_in h) ≡ false → IsOut j h → IsOut k h
nothing_out j k empty e none out = e ∙ (out ∙ (none_by_fd (kind_of j) ∙ sym (none_by_fd (kind_of k))))
nothing_out j k (full index p planes) e none out = absurd (cc)
nothing_out j k (spent index planes) e none out = absurd (cc)

module _ {P : Type 0} (m : P → Plane) where
  shape_read : (q : Lined P) (t : Fds P) (j : IoctlState) → StandsIoctl m q t j → j.queue.body.shape ≡ q.body.shape
  shape_read q t j stands = sym (ap (λ b. b.shape) stands.queue.shown.body)

  own_kind : (kind : Memory) (q : Lined P) (table : Fds P) (j : IoctlState) → kind ≡ q.body.kind
      → StandsIoctl m q table j → kind ≡ kind_of j
  own_kind kind q table j is stands = is ∙ ap (λ b. b.kind) stands.queue.shown.body

module _ {P A : Type 0} (m : P → Plane) where
  aside_out : (e : QueueEvent P A) (r : QueueReply P A) (j : IoctlState) (h : HandState) → is_request e ≡ false
      → IsOut j h → IsOut (state_after m e r j) h
  aside_out e r j h n out = let x : IsAside j (state_after m e r j) = event_aside m e r j n in same_out j (state_after m e r j) h x.out x.kind out

  -- the hand is empty where REQBUFS isn't forbidden
  out_after : (e : QueueEvent P A) (r : QueueReply P A) (j : IoctlState) (h : HandState)
      → forbids (index_in h) e ≡ false → IsOut j h → IsOut (state_after m e r j) h
  out_after (event.Ioctl (call.ReqBufs type count kind supply)) r j h free out =
      nothing_out j (state_after m (event.Ioctl (call.ReqBufs type count kind supply)) r j) h
      (event_out m (event.Ioctl (call.ReqBufs type count kind supply)) r j) free out
  out_after e r j h free out = aside_out e r j h refl out

  -- ---- events of the queue

  whole_read : (e : QueueEvent P A) (whole : Bool) (q : Lined P) (t : Fds P) (j : IoctlState)
      → is_whole q.body.shape e ≡ whole → StandsIoctl m q t j → is_whole j.queue.body.shape e ≡ whole
  whole_read e whole q t j is stands = ap (λ s. is_whole s e) (shape_read m q t j stands) ∙ is

  forbids_read : (e : QueueEvent P A) (b : Bool) (h : Hand P A) (f : HandState)
      → forbids (index_in (hand_state m h)) e ≡ b → hand_state m h ≡ f → forbids (index_in f) e ≡ b
  forbids_read e b h f is same = ap (λ x. forbids (index_in x) e) (sym same) ∙ is

  pub told : (e : QueueEvent P A) (r : QueueReply P A) (q q' : Lined P) (t t' : Fds P) (h : Hand P A)
      → is_whole q.body.shape e ≡ true → forbids (index_in (hand_state m h)) e ≡ false → Reacts m e r q t q' t'
      → FrontTurns m q t h (on_queue e (Ok r)) q' t' h
  told e r q q' t t' h whole free reacts f stands =
      let x : forbids (index_in f.hand) e ≡ false = forbids_read e false h f.hand free stands.hand in
      let g = reacts f.queue stands.queue in (
        (whole_read e true q t f.queue whole stands.queue, subst (λ b. MatchBool b (IsForbidden e r) (IsTold m e r f.queue)) (sym x) g.0),
        subst (λ b. StandsFront m q' t' h (record f { queue = cond b f.queue (state_after m e r f.queue) })) (sym x)
            (record { queue = g.1; hand = stands.hand; out = out_after e r f.queue f.hand x stands.out }),
      )

-- ---- a dequeue

left_there : (f : Buffer Plane → Buffer Plane) (bs : List (Buffer Plane)) (index : ℕ) (b : Buffer Plane)
    → slice_get bs index ≡ Some b → slice_get (change_at f index bs) index ≡ Some (f b)
left_there f [] index b e = absurd (cc)
left_there f (x ∷ bs) zero b e = let g : x ≡ b = cc in ap (λ y. Some (f y)) g
left_there f (x ∷ bs) (suc index) b e = left_there f bs index b e

hand_planes : (body : Body Plane) (index : ℕ) (b : Buffer Plane)
    → planes_held (hand_of body index b) ≡ handed_over body.kind b.planes
hand_planes body index b = elim (was_given_up b.state) as
    (λ t. planes_held (cond t (spent index (handed_over body.kind b.planes))
    (full index (taken_frame body.shape b) (handed_over body.kind b.planes))) ≡ handed_over body.kind b.planes) [
      | true ↦ refl
      | false ↦ refl
    ]

handed_by_fd : (kind : Memory) (planes : Option (PlaneSet Plane))
    → values_by_fd kind (option_to_list (handed_over kind planes)) ≡ values_by_fd kind (option_to_list planes)
handed_by_fd Mmap planes = refl
handed_by_fd UserPtr planes = refl
handed_by_fd DmaBuf planes = refl

moved_out : (a b h : ℕ) → (a + 0) + b ≡ h + 0 → a + b ≡ h + 0
moved_out a b h e = omega (arith, e)

-- the planes that leave the queue go to the hand, which was empty
took_linked : (s : QueueState) (index : ℕ) (b : Buffer Plane) (h : HandState) (out : List (ℕ × Plane))
    (n : Names Plane) → slice_get s.body.buffers index ≡ Some b → planes_held h ≡ handed_over s.body.kind b.planes
    → out ≡ [] → IsLinked s.body out n → IsLinked (effect.change_buffer (dequeued_from s.body.kind) index s).body
    (values_by_fd s.body.kind (option_to_list (planes_held h))) n
took_linked s index b h out n get planes none linked =
    let kind = s.body.kind in
    let bs = s.body.buffers in
    let vs : values_by_fd kind (option_to_list (planes_held h)) ≡ values_by_fd kind (option_to_list (planes_at bs index)) =
    ap (λ p. values_by_fd kind (option_to_list p)) planes
    ∙ (handed_by_fd kind b.planes ∙ ap (λ p. values_by_fd kind (option_to_list p)) (sym (planes_got bs index b get))) in
    λ (fd : ℕ). once_same (fd_times fd (values_held kind bs) + fd_times fd out)
    (fd_times fd (values_held kind (change_at (dequeued_from kind) index bs)) + fd_times fd
    (values_by_fd kind (option_to_list (planes_held h)))) (n fd) (n fd)
    (ap (λ l. fd_times fd (values_held kind (change_at (dequeued_from kind) index bs)) + fd_times fd l) vs
    ∙ (moved_out (fd_times fd (values_held kind (change_at (dequeued_from kind) index bs)))
    (fd_times fd (values_by_fd kind (option_to_list (planes_at bs index)))) (fd_times fd (values_held kind bs))
    (out_count bs kind index 0 fd)
    ∙ ap (λ l. fd_times fd (values_held kind bs) + fd_times fd l) (sym none)))
    refl (linked fd)

-- DQBUF of the buffer of an index, if there is one
abbrev pub taken_event : Memory → ℕ → Option (Buffer Plane) → List Event
taken_event kind index o = map (λ b. dqbuf (Ok (buffer_answer kind index b))) (option_to_list o)

module _ {P A : Type 0} (m : P → Plane) where
  pub took : (d : Dequeued P) (index : ℕ) (q q' : Lined P) (h : Hand P A) → index ≡ d.index
      → Happens m q q' (dqbuf (read_frame m (Ok d))) → GetsBuffer m q' d h
      → TurnsBeside m q hand.Empty (dequeued (Ok index)) q' h
  took d index q q' h is step holds table f stands =
      let j = f.queue in
      let s = j.queue in
      let body = s.body in
      let kind = body.kind in
      let t = step s stands.queue.queue in
      let b = t.0.2.0 in
      let get : slice_get body.buffers d.index ≡ Some b = t.0.2.1 in
      let now : StandsQueue m q' (effect.change_buffer (dequeued_from kind) d.index s) = t.1 in
      let left : StaysIn (effect.change_buffer (dequeued_from kind) d.index s).body d.index b = left_there (dequeued_from kind) body.buffers d.index b get in
      let none : j.out ≡ [] = stands.out ∙ (ap (λ x. values_by_fd kind (option_to_list (planes_held x))) (sym stands.hand) ∙ none_by_fd kind) in
      let front : StandsFront m q' table h (with_hand j (dqbuf (Ok (buffer_answer kind d.index b)) ∷ []) (hand_of body d.index b)) =
      record {
        queue = record {
          queue = now;
          names = stands.queue.names;
          linked =
              took_linked s d.index b (hand_of body d.index b) j.out j.names get (hand_planes body d.index b) none
              stands.queue.linked;
        };
        hand = holds (effect.change_buffer (dequeued_from kind) d.index s) b now left t.0.2.2;
        out = refl;
      } in
      let said : MayHappen s (dqbuf (Ok (buffer_answer kind d.index b))) = (
        t.0.0,
        t.0.1,
        (
          b,
          get,
          refl,
        ),
      ) in
      let both : Took j d.index (slice_get body.buffers d.index) = subst (Took j d.index) (sym get) (said, front) in (
        subst (λ x. IsDequeue j x (Ok index)) stands.hand (subst (λ i. IsOneEvent s (taken_event kind i (slice_get body.buffers i))) (sym is) both.0),
        subst (λ i. StandsFront m q' table h (with_hand j (taken_event kind i (slice_get body.buffers i))
            (hand_with body i (slice_get body.buffers i)))) (sym is) both.1,
      )
    where
      Took : IoctlState → ℕ → Option (Buffer Plane) → Type 0
      Took j i o = IsOneEvent j.queue (taken_event (kind_of j) i o)
          × StandsFront m q' table h (with_hand j (taken_event (kind_of j) i o) (hand_with j.queue.body i o))

-- ---- a requeue

back_none : (s : QueueState) (index fd : ℕ)
    → fd_times fd (values_held (effect.after_queue index None s).body.kind
    (effect.after_queue index None s).body.buffers) + 0 ≡ fd_times fd (values_held s.body.kind s.body.buffers) +
    fd_times fd (values_by_fd {T = Plane} s.body.kind [])
back_none s index fd =
    let t = effect.after_queue index None s in
    ap (λ k. fd_times fd (values_held k t.body.buffers) + 0) (queued_kind index None s)
    ∙ (ap (λ n. n + 0) (queued_none index s fd)
    ∙ ap (λ l. fd_times fd (values_held s.body.kind s.body.buffers) + fd_times fd l) (sym (none_by_fd s.body.kind)))

some_back : (a b c : ℕ) → a ≡ b + c → a + 0 ≡ b + c
some_back a b c e = omega (arith, e)

-- a buffer that held no planes gets those of a set
set_back : (kind : Memory) (bs cs : List (Buffer Plane)) (set : PlaneSet Plane) (fd : ℕ)
    → in_buffers fd cs ≡ in_buffers fd bs + in_buffer fd (Some set)
    → fd_times fd (values_held kind cs) + 0 ≡ fd_times fd (values_held kind bs) + fd_times fd
    (values_by_fd kind (set ∷ []))
set_back Mmap bs cs set fd e = refl
set_back UserPtr bs cs set fd e = refl
set_back DmaBuf bs cs set fd e = some_back (in_buffers fd cs) (in_buffers fd bs) (in_buffer fd (Some set)) e

back_count : (s : QueueState) (index : ℕ) (planes : Option (PlaneSet Plane)) (fd : ℕ)
    → queue_refusal index s.body.kind planes s.body ≡ None
    → fd_times fd (values_held (effect.after_queue index planes s).body.kind
    (effect.after_queue index planes s).body.buffers) + 0 ≡ fd_times fd (values_held s.body.kind s.body.buffers) +
    fd_times fd (values_by_fd s.body.kind (option_to_list planes))
back_count s index None fd e = back_none s index fd
back_count s index (Some set) fd e =
    let t = effect.after_queue index (Some set) s in
    ap (λ k. fd_times fd (values_held k t.body.buffers) + 0) (queued_kind index (Some set) s)
    ∙ set_back s.body.kind s.body.buffers t.body.buffers set fd (queued_some index set s fd e)

back_linked : (s : QueueState) (index : ℕ) (planes : Option (PlaneSet Plane)) (out : List (ℕ × Plane))
    (n : Names Plane) → out ≡ values_by_fd s.body.kind (option_to_list planes)
    → queue_refusal index s.body.kind planes s.body ≡ None → IsLinked s.body out n
    → IsLinked (effect.after_queue index planes s).body [] n
back_linked s index planes out n is e linked =
    let t = effect.after_queue index planes s in
    λ (fd : ℕ). once_same (fd_times fd (values_held s.body.kind s.body.buffers) + fd_times fd out)
    (fd_times fd (values_held t.body.kind t.body.buffers) + 0) (n fd) (n fd)
    (back_count s index planes fd e ∙ ap (λ l. fd_times fd (values_held s.body.kind s.body.buffers) + fd_times fd l) (sym is))
    refl (linked fd)

module _ {P A : Type 0} (m : P → Plane) where
  pub put_none : (r : Refused P A) (kind : Memory) (i : ℕ) (planes : Option (PlaneSet P)) (q q' : Lined P)
      → kind ≡ q.body.kind → r.planes ≡ planes → Happens m q q' (qbuf i kind (read_given m planes) (Some r.errno))
      → TurnsBeside {A = A} m q (hand.Spent i planes) (requeued (Err (Queue r.errno))) q' (hand.Spent i r.planes)
  put_none r kind i planes q q' is back step table f stands =
      let j = f.queue in
      let t = step j.queue stands.queue.queue in
      let fails = subst (λ k. MayHappen j.queue (qbuf i k (read_given m planes) (Some r.errno))) (own_kind m kind q table j is stands.queue) t.0 in (
        subst (λ x. IsRequeue j x (Err (Queue r.errno))) stands.hand (fails, tt),
        record {
          queue = stays m q q' table j stands.queue t.1;
          hand = ap (λ p. spent i (read_given m p)) back ∙ stands.hand;
          out = stands.out;
        },
      )

  pub put_in_queue : (kind : Memory) (i : ℕ) (planes : Option (PlaneSet P)) (q q' : Lined P) → kind ≡ q.body.kind
      → Happens m q q' (qbuf i kind (read_given m planes) None) → TurnsBeside {A = A} m q (hand.Spent i planes)
      (requeued (Ok i)) q' hand.Empty
  put_in_queue kind i planes q q' is step table f stands =
      let j = f.queue in
      let s = j.queue in
      let given = read_given m planes in
      let t = step s stands.queue.queue in
      let said = subst (λ k. MayHappen s (qbuf i k given None)) (own_kind m kind q table j is stands.queue) t.0 in
      let out : j.out ≡ values_by_fd (kind_of j) (option_to_list given) = stands.out
      ∙ ap (λ x. values_by_fd (kind_of j) (option_to_list (planes_held x))) (sym stands.hand) in
      let none = none_by_fd (kind_of j) in
      let after = effect.after_queue i given s in
      let front : StandsFront {A = A} m q' table hand.Empty (with_hand j (requeue_event (kind_of j) (spent i given) (Ok i)) empty) =
      record {
        queue = record {
          queue = t.1;
          names = stands.queue.names;
          linked = subst (λ (l : List (ℕ × Plane)). IsLinked after.body l j.names) (sym none)
              (back_linked s i given j.out j.names out (not_refused (queue_refusal i (kind_of j) given s.body) said)
              stands.queue.linked);
        };
        hand = refl;
        out = none ∙ sym (none_by_fd after.body.kind);
      } in (
        subst (λ x. IsRequeue j x (Ok i)) stands.hand ((said, refl)),
        subst (λ x. StandsFront {A = A} m q' table hand.Empty (with_hand j (requeue_event (kind_of j) x (Ok i)) empty)) stands.hand front,
      )

-- ---- a submit, and a new front

given_planes : (h : HandState) (result : Result ℕ StoreFault) → planes_held (hand_given h result) ≡ planes_held h
given_planes empty result = refl
given_planes (full index p planes) (Ok number) = refl
given_planes (full index p planes) (Err fault) = refl
given_planes (spent index planes) result = refl

module _ {P A : Type 0} (m : P → Plane) where
  -- the hand after a submit: its planes stay in it
  pub given_stands : (result : Result ℕ StoreFault) (q : Lined P) (t : Fds P) (h h' : Hand P A) (f : Front)
      → hand_state m h' ≡ hand_given (hand_state m h) result → StandsFront m q t h f
      → StandsFront m q t h' (record f { hand = hand_given f.hand result })
  given_stands result q t h h' f is stands = record {
    queue = stands.queue;
    hand = is ∙ ap (λ x. hand_given x result) stands.hand;
    out = stands.out ∙ ap (λ p. values_by_fd (kind_of f.queue) (option_to_list p)) (sym (given_planes f.hand result));
  }

pub new_fronts_stand : {P : Type 0} (A : Type 0) (m : P → Plane) → NewFrontsStand A m
new_fronts_stand A m code table s stands none = record { queue = new_queues_stand m code table s stands none; hand = refl; out = sym (none_by_fd s.body.kind) }
