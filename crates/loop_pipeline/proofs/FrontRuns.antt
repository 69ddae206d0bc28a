-- What a front has done, and a step more.
use Rattle.std.proofs.Common.{◌≡◌, inl, inr, ◌&&◌, ◌||◌, ◌+◌, ◌<◌, ◌≤◌, ℕ, Bool, true, false, not, cond, Option, Some, None, Result, Ok, Err, List, [], ◌∷◌, ◌++◌, length, map, refl, sym, ap, ◌∙◌, subst, arith}
use Rattle.std.proofs.lemmas.Grind.{flat_map-append}
use Rattle.std.proofs.lemmas.List.{append-nil, length-append, map-append}
use Rattle.std.proofs.lemmas.List.Folds.{list_any-append}
use Rattle.std.specs.List.{flat_map, list_any}
use Rattle.rtrb.specs.declared.AnyItems.{AnyItems}
use Rattle.rtrb.specs.declared.producer.Producer.{Producer}
use Rattle.rtrb.specs.Ring.{SameProducer, sent}
use Rattle.loop_plane.specs.Fds.{Fds}
use Rattle.loop_plane.specs.Plane.{Plane}
use Rattle.loop_plane.specs.declared.memory.Memory.{Memory}
use Rattle.loop_plane.specs.declared.memory.Memory.TheVariants.{DmaBuf, Mmap, UserPtr}
use Rattle.loop_record.specs.declared.frame.Frame.{Frame}
use Rattle.loop_record.specs.Recording.{picture}
use Rattle.loop_record.specs.Turns.{EachIn, after_all}
use Rattle.loop_record.proofs.TurnRuns.{after-behind, each-behind, told-behind}
use Rattle.loop_vb2.specs.Buffers.{queued_with}
use Rattle.loop_vb2.specs.Effects.{awake, body_stopped, device_runs, settle_device, with_buffer}
use Rattle.loop_vb2.specs.Events.{Event, MayHappen, after_event, complete, copy_plane, dqbuf, fail, fatal, mmap, munmap, prepare_buf, qbuf, querybuf, reqbufs, stops, streamoff, streamon, take_fresh, take_planes}
use Rattle.loop_vb2.specs.State.{Body, Lined, QueueState, StandsQueue}
use Rattle.loop_vb2.proofs.PlaneMeanings.{length_read, state_read}
use Rattle.loop_ioctl.specs.Attached.{values_by_fd}
use Rattle.loop_capture.specs.declared.source.Next.{Next}
use Rattle.loop_capture.specs.Ticks.{SeenDevice}
use Rattle.loop_desk.specs.declared.hand.Hand.{Hand}
use Rattle.loop_desk.specs.declared.hand.Hand.TheVariants as hand
use Rattle.loop_desk.specs.Front.{Front, StandsFront, empty, hand_state, hand_frame}
use Rattle.loop_desk.specs.Waiting.{AllHeld, FramesAreKept, IsCounted, IsSoundQueue, QueuesStaySound, dequeued_frame, frames_dequeued, frames_waiting, completed_frame, without_flags}
use Rattle.loop_capture.specs.declared.device.Tick.{Tick}
use Rattle.loop_capture.specs.declared.device.Tick.TheVariants.{Idle, Completed, Failed, Missed, Ended, WrongSize}
use Rattle.loop_pipeline.specs.Fronts.{AreDue, AreTicksTold, FrontKeeps, GoesFrom, GoesOn, HasMoved, IsApart, IsNoticed, HandIsSpent, IsOut, IsRegular, Leaves, SeenFront, TickRecord, asks_source, count_failed, count_missed, fails, first_after, is_last, misses, shown_of, shown_given, StandsPort}
use Rattle.loop_pipeline.proofs.OutPlanes.{forgotten}

add-assoc : (a b c : ℕ) → (a + b) + c ≡ a + (b + c)
add-assoc a b c = omega arith

module _ {S : Type 0} (gives : S → Next → List ℕ → S → Type 0) where
  -- ticks, and others after them
  pub goes-behind : (f : Bool) (d b e : SeenDevice S) (xs ys : List TickRecord) → GoesFrom gives f d xs b
      → GoesFrom gives (first_after f xs) b ys e → GoesFrom gives f d (xs ++ ys) e
  goes-behind f d b e [] ys first second = subst (λ x. GoesFrom gives f x ys e) first second
  goes-behind f d b e (x ∷ xs) ys first second =
      (first.0, first.1, goes-behind (f && not (asks_source x.tick)) first.0 b e xs ys first.2 second)

pub first-behind : (f : Bool) (xs ys : List TickRecord) → first_after f (xs ++ ys) ≡ first_after (first_after f xs) ys
first-behind f [] ys = refl
first-behind f (x ∷ xs) ys = first-behind (f && not (asks_source x.tick)) xs ys

none-plus : (n : ℕ) → 0 + n ≡ n
none-plus n = omega arith

-- ticks that lost a frame, and others after them
missed-behind : (xs ys : List TickRecord) → count_missed (xs ++ ys) ≡ count_missed xs + count_missed ys
missed-behind [] ys = sym (none-plus (count_missed ys))
missed-behind (x ∷ xs) ys = let n = misses x.tick in let h = missed-behind xs ys in
    ap (λ k. n + k) h ∙ sym (add-assoc n (count_missed xs) (count_missed ys))

failed-behind : (xs ys : List TickRecord) → count_failed (xs ++ ys) ≡ count_failed xs + count_failed ys
failed-behind [] ys = sym (none-plus (count_failed ys))
failed-behind (x ∷ xs) ys = let n = fails x.tick in let h = failed-behind xs ys in
    ap (λ k. n + k) h ∙ sym (add-assoc n (count_failed xs) (count_failed ys))

pub plus-none : (n : ℕ) → n + 0 ≡ n
plus-none n = omega arith

-- ---- counts of ticks

pub or-true : (b : Bool) → (b || true) ≡ true
or-true true = refl
or-true false = refl

length-cons : (g : TickRecord) (gs : List TickRecord) → length (g ∷ gs) ≡ 1 + length gs
length-cons g gs = omega arith

sum-few : (n k l : ℕ) → n ≤ 1 → k ≤ l → n + k ≤ 1 + l
sum-few n k l one few = omega arith

misses-few : (t : Tick) → misses t ≤ 1
misses-few (Completed i) = omega arith
misses-few (Failed i) = omega arith
misses-few Missed = omega arith
misses-few Idle = omega arith
misses-few Ended = omega arith
misses-few WrongSize = omega arith

fails-few : (t : Tick) → fails t ≤ 1
fails-few (Completed i) = omega arith
fails-few (Failed i) = omega arith
fails-few Missed = omega arith
fails-few Idle = omega arith
fails-few Ended = omega arith
fails-few WrongSize = omega arith

few-missed : (gs : List TickRecord) → count_missed gs ≤ length gs
few-missed [] = omega arith
few-missed (g ∷ gs) = let h = few-missed gs in let one = misses-few g.tick in
    subst (λ n. count_missed (g ∷ gs) ≤ n) (sym (length-cons g gs)) (sum-few (misses g.tick) (count_missed gs) (length gs) one h)

few-failed : (gs : List TickRecord) → count_failed gs ≤ length gs
few-failed [] = omega arith
few-failed (g ∷ gs) = let h = few-failed gs in let one = fails-few g.tick in
    subst (λ n. count_failed (g ∷ gs) ≤ n) (sym (length-cons g gs)) (sum-few (fails g.tick) (count_failed gs) (length gs) one h)

-- What a step adds: its events, what the queue and the hand stand for after them, the frames that it pushed, its ticks.
pub record Adds {S P A : Type 0} (gives : S → Next → List ℕ → S → Type 0) (meaning : P → Plane) (table : Fds P)
    (s : QueueState) (d e : SeenDevice S) (old queue : Lined P) (hand : Hand P A) (to up : Producer (Frame A) A AnyItems)
    (given : List TickRecord) : Type 0 where
  pub events : List Event
  pub legal : EachIn after_event IsCounted s events
  pub flows : list_any stops events ≡ false
  pub now : Front
  pub stands : StandsFront meaning queue table hand now
  pub reached : now.queue.queue ≡ after_all after_event s events
  pub formed : queue.body.shape ≡ old.body.shape
  pub free : hand_frame now.hand ≡ []
  pub apart : IsApart now.queue.queue.body now.hand
  pub streams : now.queue.queue.body.streaming ≡ s.body.streaming
  pub ring : SameProducer to up
  pub went : map without_flags (map picture (sent up))
      ≡ map without_flags (map picture (sent to) ++ frames_dequeued s events)
  pub source : GoesOn gives d given e
  pub shows : map shown_of (flat_map completed_frame events) ≡ flat_map shown_given given

-- what a tick adds: itself, at this time; where the start was noticed before, it isn't the first after it
abbrev pub TickAdds : {S P A : Type 0} → (S → Next → List ℕ → S → Type 0) → (P → Plane) → Fds P → QueueState
    → SeenDevice S → SeenDevice S → Lined P → Lined P → Hand P A → Producer (Frame A) A AnyItems
    → Producer (Frame A) A AnyItems → ℕ → Tick → Type 0
TickAdds gives m table s d e old queue hand to up now tick =
    (g : TickRecord) × (g.now ≡ now) × (g.tick ≡ tick) × (adds : Adds gives m table s d e old queue hand to up (g ∷ []))
    × (IsNoticed s → GoesFrom gives false d (g ∷ []) e)
    × (first_after true (g ∷ []) ≡ false → IsNoticed adds.now.queue.queue)

each-may : (s : QueueState) (events : List Event) → EachIn after_event IsCounted s events
    → EachIn after_event MayHappen s events
each-may s [] each = tt
each-may s (x ∷ xs) each = (each.0.0, each-may (after_event s x) xs each.1)

-- a queue is sound in each state that it stands for, or in none
pub same-sound : {P : Type 0} (m : P → Plane) (q : Lined P) (s t : QueueState) → StandsQueue m q s → StandsQueue m q t
    → IsSoundQueue q s → IsSoundQueue q t
same-sound m q s t one other is = record {
  still = is.still;
  held = subst (λ (b : Body Plane). AllHeld b.buffers) (sym one.shown.body ∙ other.shown.body) is.held;
}

none-by-fd : (kind : Memory) → values_by_fd {T = Plane} kind [] ≡ []
none-by-fd Mmap = refl
none-by-fd UserPtr = refl
none-by-fd DmaBuf = refl

module _ {S P G A : Type 0} (gives : S → Next → List ℕ → S → Type 0) (m : P → Plane) (due : ℕ → ℕ → Type 0)
    (ends : ℕ → Type 0) where
  -- a new front has done nothing
  pub begun : (queue : Lined P) (table : Fds P) (device : SeenDevice S) (to : Producer (Frame A) A AnyItems) (guide : G)
      → StandsPort m queue table → sent to ≡ []
      → HasMoved gives m due ends (record { queue = queue; device = device; to = to; guide = guide }) device queue table
      hand.Empty to 0 0 0 false
  begun queue table device to guide is none = record {
    first = is.state.queue;
    stood = is.stands.queue;
    formed = refl;
    ring = ((refl, refl, refl, refl), refl);
    events = [];
    legal = tt;
    flows = refl;
    now = record { queue = record is.state { out = [] }; hand = empty };
    stands = record {
      queue = forgotten m queue table is.state is.stands;
      hand = refl;
      out = sym (none-by-fd is.state.queue.body.kind);
    };
    reached = refl;
    free = refl;
    apart = tt;
    streams = refl;
    went = ap (λ l. map without_flags (map picture l)) none;
    given = [];
    source = refl;
    noticed = λ is. absurd (cc);
    counted = refl;
    told = record { timed = tt; missing = refl; failing = refl; ended = λ e. absurd (cc) };
    shows = refl;
  }

  -- what never ticked leaves what it came with
  pub rested : (queue : Lined P) (table : Fds P) (device : SeenDevice S) (to : Producer (Frame A) A AnyItems) (guide : G)
      → StandsPort m queue table → sent to ≡ []
      → Leaves gives m due ends (record { queue = queue; device = device; to = to; guide = guide })
      (record { device = device; queue = queue; table = table; hand = hand.Empty; to = to; missed = 0; failed = 0; over = false })
  rested queue table device to guide is none =
      let wait = map without_flags (frames_waiting queue is.state.queue) in
      record {
        ring = ((refl, refl, refl, refl), refl);
        keeps = λ regular. record {
          first = is.state.queue;
          last = is.state.queue;
          stood = is.stands.queue;
          stands = is.stands.queue;
          streams = refl;
          given = [];
          source = refl;
          told = record { timed = tt; missing = refl; failing = refl; ended = λ e. absurd (cc) };
          completed = [];
          shows = refl;
          whole = append-nil wait ∙ sym (ap (λ l. map without_flags (map picture l) ++ wait) none);
        };
        port = is;
        regular = λ regular. regular;
        held = tt;
      }

  -- what a front has done, in the words of what it keeps, if it began with a regular queue
  pub kept : (seen : SeenFront S P G A) (device : SeenDevice S) (queue : Lined P) (table : Fds P) (h : Hand P A)
      (to : Producer (Frame A) A AnyItems) (ticks missed failed : ℕ) (over : Bool) → FramesAreKept m
      → HasMoved gives m due ends seen device queue table h to ticks missed failed over → IsRegular m seen.queue
      → FrontKeeps gives m due ends seen device queue to missed failed over
  kept seen device queue table h to ticks missed failed over law has is =
      let last = after_all after_event has.first has.events in
      record {
        first = has.first;
        last = last;
        stood = has.stood;
        stands = subst (StandsQueue m queue) has.reached has.stands.queue.queue;
        streams = streaming-of queue has.now.queue.queue has.stands.queue.queue
            ∙ (has.streams ∙ sym (streaming-of seen.queue has.first has.stood));
        given = has.given;
        source = has.source;
        told = has.told;
        completed = flat_map completed_frame has.events;
        shows = has.shows;
        whole = law.from_start seen.queue queue has.first has.events is.shaped.0 is.shaped.1 is.shaped.2 has.stood
            (same-sound m seen.queue is.state has.first is.stands has.stood is.sound)
            (shape-of seen.queue has.first has.stood ∙ is.shaped.3) has.legal
            (subst (StandsQueue m queue) has.reached has.stands.queue.queue) has.flows
            ∙ ap (λ l. l ++ map without_flags (frames_waiting queue last)) (sym has.went);
      }
    where
      shape-of : (q : Lined P) (s : QueueState) → StandsQueue m q s → s.body.shape ≡ q.body.shape
      shape-of q s stands = sym (ap (λ b. b.shape) stands.shown.body)

      streaming-of : (q : Lined P) (s : QueueState) → StandsQueue m q s → q.body.streaming ≡ s.body.streaming
      streaming-of q s stands = ap (λ b. b.streaming) stands.shown.body

  -- a buffer that isn't in the queue is in the hand, without its frame
  pub held : (seen : SeenFront S P G A) (device : SeenDevice S) (queue : Lined P) (table : Fds P) (h : Hand P A)
      (to : Producer (Frame A) A AnyItems) (ticks missed failed : ℕ) (over : Bool)
      → HasMoved gives m due ends seen device queue table h to ticks missed failed over
      → HandIsSpent queue h
  held seen device queue table h to ticks missed failed over has =
      by h has.stands.hand
    where
      out : (i : ℕ) → IsOut has.now.queue.queue.body i → IsOut queue.body i
      out i is =
          let read = subst (λ (b : Body Plane). IsOut b i) (sym has.stands.queue.queue.shown.body) is in
          (subst (λ n. i < n) (length_read m queue.body.buffers) read.0, sym (state_read m queue.body.buffers i) ∙ read.1)

      by : (k : Hand P A) → hand_state m k ≡ has.now.hand → HandIsSpent queue k
      by hand.Empty is = tt
      by (hand.Frame i frame planes) is =
          absurd (let none : hand_frame (hand_state m (hand.Frame i frame planes)) ≡ [] = ap hand_frame is ∙ has.free in cc)
      by (hand.Spent i planes) is = out i (subst (IsApart has.now.queue.queue.body) (sym is) has.apart)

  -- another front may begin with what a front leaves
  pub again : (seen : SeenFront S P G A) (device : SeenDevice S) (queue : Lined P) (table : Fds P) (h : Hand P A)
      (to : Producer (Frame A) A AnyItems) (ticks missed failed : ℕ) (over : Bool)
      → HasMoved gives m due ends seen device queue table h to ticks missed failed over → StandsPort m queue table
  again seen device queue table h to ticks missed failed over has =
      record { state = has.now.queue; stands = has.stands.queue }

  -- a regular queue stays so
  pub regular : (seen : SeenFront S P G A) (device : SeenDevice S) (queue : Lined P) (table : Fds P) (h : Hand P A)
      (to : Producer (Frame A) A AnyItems) (ticks missed failed : ℕ) (over : Bool) → QueuesStaySound m
      → HasMoved gives m due ends seen device queue table h to ticks missed failed over
      → IsRegular m seen.queue → IsRegular m queue
  regular seen device queue table h to ticks missed failed over law has is =
      let sound = law.after seen.queue queue has.first has.events has.stood
      (same-sound m seen.queue is.state has.first is.stands has.stood is.sound)
      (each-may has.first has.events has.legal) (subst (StandsQueue m queue) has.reached has.stands.queue.queue) in
      record {
        state = has.now.queue.queue;
        stands = has.stands.queue.queue;
        sound = subst (IsSoundQueue queue) (sym has.reached) sound;
        shaped = (is.shaped.0, is.shaped.1, is.shaped.2, has.formed ∙ is.shaped.3);
      }

-- ---- a start that was noticed

settled-noticed : (b : Body Plane) → b.started ≡ true → b.fresh ≡ false
    → ((settle_device b).started ≡ true) × ((settle_device b).fresh ≡ false)
settled-noticed b started fresh = by (device_runs b)
  where
    by : (t : Bool) → ((cond t (awake b) b).started ≡ true) × ((cond t (awake b) b).fresh ≡ false)
    by true = (refl, λ i. fresh i || not (started i))
    by false = (started, fresh)

-- an event that doesn't stop the stream leaves it so
noticed-on : (s : QueueState) (x : Event) → stops x ≡ false → IsNoticed s → IsNoticed (after_event s x)
noticed-on s (reqbufs count kind sets (Ok g)) flows is =
    subst (λ (t : Bool). ((cond t (body_stopped s.body) s.body).started ≡ true)
    × ((cond t (body_stopped s.body) s.body).fresh ≡ false)) (sym flows) is
noticed-on s (reqbufs count kind sets (Err e)) flows is = is
noticed-on s (prepare_buf index kind given None) flows is = is
noticed-on s (prepare_buf index kind given (Some e)) flows is = is
noticed-on s (qbuf index kind given None) flows is =
    settled-noticed (with_buffer (queued_with given) index s.body) is.0 is.1
noticed-on s (qbuf index kind given (Some e)) flows is = is
noticed-on s (dqbuf (Ok d)) flows is = is
noticed-on s (dqbuf (Err e)) flows is = is
noticed-on s (streamon None) flows is = by s.body.streaming
  where
    by : (t : Bool) → ((cond t s.body (settle_device (record s.body { streaming = true }))).started ≡ true)
        × ((cond t s.body (settle_device (record s.body { streaming = true }))).fresh ≡ false)
    by true = is
    by false = settled-noticed (record s.body { streaming = true }) is.0 is.1
noticed-on s (streamon (Some e)) flows is = is
noticed-on s streamoff flows is = absurd (cc)
noticed-on s (querybuf index result) flows is = is
noticed-on s (mmap index None) flows is = is
noticed-on s (mmap index (Some e)) flows is = is
noticed-on s (munmap index None) flows is = is
noticed-on s (munmap index (Some e)) flows is = is
noticed-on s (take_planes index (Ok set)) flows is = is
noticed-on s (take_planes index (Err e)) flows is = is
noticed-on s (copy_plane index plane at count result) flows is = is
noticed-on s (complete index stamp bytes None) flows is = is
noticed-on s (complete index stamp bytes (Some e)) flows is = is
noticed-on s (fail index stamp None) flows is = is
noticed-on s (fail index stamp (Some e)) flows is = is
noticed-on s fatal flows is = is
noticed-on s (take_fresh fresh) flows is = (is.0, refl)

either-false : (a b : Bool) → (a || b) ≡ false → (a ≡ false) × (b ≡ false)
either-false true b is = absurd (cc)
either-false false b is = (refl, is)

stays-noticed : (s : QueueState) (events : List Event) → list_any stops events ≡ false → IsNoticed s
    → IsNoticed (after_all after_event s events)
stays-noticed s [] flows is = is
stays-noticed s (x ∷ xs) flows is =
    let each = either-false (stops x) (list_any stops xs) flows in
    stays-noticed (after_event s x) xs each.1 (noticed-on s x each.0 is)

-- ---- what a front has done, and a step more

module _ (due : ℕ → ℕ → Type 0) (ends : ℕ → Type 0) where
  due-behind : (n : ℕ) (xs ys : List TickRecord) → AreDue due n xs → AreDue due (n + length xs) ys
      → AreDue due n (xs ++ ys)
  due-behind n [] ys first second = subst (λ k. AreDue due k ys) (plus-none n) second
  due-behind n (x ∷ xs) ys first second = (
    first.0,
    due-behind (n + 1) xs ys first.1
        (subst (λ k. AreDue due k ys) (ap (λ k. n + k) (length-cons x xs) ∙ sym (add-assoc n 1 (length xs))) second),
  )

  last-behind : (xs : List TickRecord) (y : TickRecord) → is_last y.tick ≡ true
      → list_any (λ g. is_last g.tick) (xs ++ y ∷ []) ≡ true
  last-behind xs y is = list_any-append (λ (g : TickRecord). is_last g.tick) xs (y ∷ [])
      ∙ (ap (λ b. list_any (λ (g : TickRecord). is_last g.tick) xs || (b || false)) is
      ∙ or-true (list_any (λ (g : TickRecord). is_last g.tick) xs))

  -- one tick more: it was at a time that is due for its number
  told-more : (missed failed : ℕ) (over : Bool) (xs : List TickRecord) (y : TickRecord)
      → AreTicksTold due ends missed failed over xs → due (length xs) y.now
      → AreTicksTold due ends (missed + misses y.tick) (failed + fails y.tick) (is_last y.tick) (xs ++ y ∷ [])
  told-more missed failed over xs y told is = record {
    timed = due-behind 0 xs (y ∷ []) told.timed (subst (λ k. AreDue due k (y ∷ [])) (sym (none-plus (length xs))) (is, tt));
    missing = missed-behind xs (y ∷ []) ∙ (λ i. told.missing i + plus-none (misses y.tick) i);
    failing = failed-behind xs (y ∷ []) ∙ (λ i. told.failing i + plus-none (fails y.tick) i);
    ended = λ last. inr (inl (last-behind xs y last));
  }

module _ {S P G A : Type 0} (gives : S → Next → List ℕ → S → Type 0) (m : P → Plane) (due : ℕ → ℕ → Type 0)
    (ends : ℕ → Type 0) (seen : SeenFront S P G A) (table : Fds P) where
  same-ring : (a b c : Producer (Frame A) A AnyItems) → SameProducer a b → SameProducer b c → SameProducer a c
  same-ring a b c first second =
      ((second.0.0 ∙ first.0.0, second.0.1 ∙ first.0.1, second.0.2 ∙ first.0.2, second.0.3 ∙ first.0.3), second.1 ∙ first.1)

  moved : (d e : SeenDevice S) (q r : Lined P) (h k : Hand P A) (to up : Producer (Frame A) A AnyItems)
      (ticks missed failed : ℕ) (over : Bool) (new_ticks new_missed new_failed : ℕ) (new_over : Bool)
      (given : List TickRecord) (before : HasMoved gives m due ends seen d q table h to ticks missed failed over)
      → (adds : Adds gives m table before.now.queue.queue d e q r k to up given)
      → (IsNoticed before.now.queue.queue → GoesFrom gives false d given e)
      → (first_after true given ≡ false → IsNoticed adds.now.queue.queue)
      → length (before.given ++ given) ≡ new_ticks
      → AreTicksTold due ends new_missed new_failed new_over (before.given ++ given)
      → HasMoved gives m due ends seen e r table k up new_ticks new_missed new_failed new_over
  moved d e q r h k to up ticks missed failed over new_ticks new_missed new_failed new_over given before adds firm asked
      counted told =
      let s = before.first in
      let old = before.events in
      let new = adds.events in
      let here : before.now.queue.queue ≡ after_all after_event s old = before.reached in
      record {
        first = s;
        stood = before.stood;
        formed = adds.formed ∙ before.formed;
        ring = same-ring seen.to to up before.ring adds.ring;
        events = old ++ new;
        legal = each-behind after_event IsCounted s old new before.legal
            (subst (λ t. EachIn after_event IsCounted t new) here adds.legal);
        flows = list_any-append stops old new ∙ (λ i. before.flows i || adds.flows i);
        now = adds.now;
        stands = adds.stands;
        reached = adds.reached ∙ (ap (λ t. after_all after_event t new) here ∙ sym (after-behind after_event s old new));
        free = adds.free;
        apart = adds.apart;
        streams = adds.streams ∙ before.streams;
        went = adds.went ∙ (map-append without_flags (map picture (sent to)) (frames_dequeued before.now.queue.queue new)
            ∙ (ap (λ l. l ++ map without_flags (frames_dequeued before.now.queue.queue new)) before.went
            ∙ (sym (map-append without_flags (frames_dequeued s old) (frames_dequeued before.now.queue.queue new))
            ∙ ap (map without_flags) (ap (λ t. frames_dequeued s old ++ frames_dequeued t new) here
            ∙ sym (told-behind after_event dequeued_frame s old new)))));
        given = before.given ++ given;
        source = goes-behind gives true seen.device d e before.given given before.source
            (numbered (first_after true before.given) refl);
        noticed = λ is. seen-then (first_after true before.given) refl
            (sym (first-behind true before.given given) ∙ is);
        counted = counted;
        told = told;
        shows = ap (map shown_of) (flat_map-append completed_frame old new)
            ∙ (map-append shown_of (flat_map completed_frame old) (flat_map completed_frame new)
            ∙ (ap (λ l. l ++ map shown_of (flat_map completed_frame new)) before.shows
            ∙ (ap (λ l. flat_map shown_given before.given ++ l) adds.shows
            ∙ sym (flat_map-append shown_given before.given given))));
      }
    where
      numbered : (f : Bool) → first_after true before.given ≡ f → GoesFrom gives f d given e
      numbered true is = adds.source
      numbered false is = firm (before.noticed is)

      seen-then : (f : Bool) → first_after true before.given ≡ f → first_after f given ≡ false
          → IsNoticed adds.now.queue.queue
      seen-then true was is = asked is
      seen-then false was is = subst IsNoticed (sym adds.reached)
          (stays-noticed before.now.queue.queue adds.events adds.flows (before.noticed was))

  -- a step without a tick
  pub stirred : (d e : SeenDevice S) (q r : Lined P) (h k : Hand P A) (to up : Producer (Frame A) A AnyItems)
      (ticks missed failed : ℕ) (over : Bool)
      (before : HasMoved gives m due ends seen d q table h to ticks missed failed over)
      → Adds gives m table before.now.queue.queue d e q r k to up []
      → HasMoved gives m due ends seen e r table k up ticks missed failed over
  stirred d e q r h k to up ticks missed failed over before adds =
      let none : before.given ++ [] ≡ before.given = append-nil before.given in
      moved d e q r h k to up ticks missed failed over ticks missed failed over [] before adds (λ n. adds.source)
      (λ is. absurd (cc)) (ap length none ∙ before.counted) (subst (AreTicksTold due ends missed failed over) (sym none) before.told)

  -- a tick, at a time that is due
  pub ticked : (d e : SeenDevice S) (q r : Lined P) (h k : Hand P A) (to up : Producer (Frame A) A AnyItems)
      (ticks missed failed : ℕ) (over : Bool) (now : ℕ) (tick : Tick)
      (before : HasMoved gives m due ends seen d q table h to ticks missed failed over) → due ticks now
      → TickAdds gives m table before.now.queue.queue d e q r k to up now tick
      → HasMoved gives m due ends seen e r table k up (ticks + 1) (missed + misses tick) (failed + fails tick) (is_last tick)
  ticked d e q r h k to up ticks missed failed over now tick before is adds =
      let g = adds.0 in
      let told = told-more due ends missed failed over before.given g before.told
      (subst (λ n. due n g.now) (sym before.counted) (subst (due ticks) (sym adds.1) is)) in
      moved d e q r h k to up ticks missed failed over (ticks + 1) (missed + misses tick) (failed + fails tick) (is_last tick)
      (g ∷ []) before adds.3 adds.4 adds.5
      (length-append before.given (g ∷ []) ∙ ap (λ n. n + 1) before.counted)
      (subst (λ t. AreTicksTold due ends (missed + misses t) (failed + fails t) (is_last t) (before.given ++ g ∷ [])) adds.2 told)

  -- no count is above that of the ticks
  pub few : (d : SeenDevice S) (q : Lined P) (h : Hand P A) (to : Producer (Frame A) A AnyItems)
      (ticks missed failed : ℕ) (over : Bool)
      → HasMoved gives m due ends seen d q table h to ticks missed failed over → (missed ≤ ticks) × (failed ≤ ticks)
  few d q h to ticks missed failed over has = (
    subst (λ n. n ≤ ticks) has.told.missing (subst (λ n. count_missed has.given ≤ n) has.counted (few-missed has.given)),
    subst (λ n. n ≤ ticks) has.told.failing (subst (λ n. count_failed has.given ≤ n) has.counted (few-failed has.given)),
  )
