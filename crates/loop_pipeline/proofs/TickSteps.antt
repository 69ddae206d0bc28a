-- A tick, as what it adds to what a front has done.
use Rattle.std.proofs.Common.{◌≡◌, ◌⊎◌, inl, inr, ◌++◌, ℕ, ◌<◌, ◌==◌, ◌&&◌, Bool, true, false, not, cond, List, [], ◌∷◌, length, map, Option, Some, None, refl, sym, ap, ◌∙◌, subst, option_to_list}
use Rattle.std.proofs.lemmas.List.{append-nil}
use Rattle.std.specs.List.{flat_map, list_any}
use Rattle.rtrb.specs.declared.AnyItems.{AnyItems}
use Rattle.rtrb.specs.declared.producer.Producer.{Producer}
use Rattle.rtrb.specs.Ring.{sent}
use Rattle.loop_plane.specs.Fds.{Fds}
use Rattle.loop_plane.specs.Plane.{Plane}
use Rattle.loop_record.specs.declared.frame.Frame.{Frame}
use Rattle.loop_record.specs.Recording.{picture}
use Rattle.loop_record.specs.Turns.{EachIn, after_all}
use Rattle.loop_vb2.specs.declared.buffer.Buffer.{Buffer}
use Rattle.loop_vb2.specs.declared.buffer.Stamp.{Stamp}
use Rattle.loop_vb2.specs.declared.state.BufferState.{BufferState}
use Rattle.loop_vb2.specs.declared.state.BufferState.TheVariants.{Dequeued, Done, Error}
use Rattle.loop_vb2.specs.Buffers.{completed_by, failed_with, state_at}
use Rattle.loop_vb2.specs.Effects.{longest_active, on_body}
use Rattle.loop_vb2.proofs.Short.{body_seen}
use Rattle.loop_vb2.specs.Events.{MayHappen, after_event, complete, fail, stops}
use Rattle.loop_vb2.specs.Owner.{Device, owner}
use Rattle.loop_vb2.specs.Planes.{frame_size, slot_filled}
use Rattle.loop_vb2.specs.State.{InStep, Lined, QueueState}
use Rattle.loop_vb2.proofs.Lines.{same}
use Rattle.loop_vb2.proofs.Owners.{handed_over_by_owners}
use Rattle.loop_vb2.proofs.States.{length-changed}
use Rattle.loop_ioctl.specs.Attached.{values_by_fd}
use Rattle.loop_ioctl.proofs.QueueSteps.{moves}
use Rattle.loop_capture.specs.declared.device.Tick.{Tick}
use Rattle.loop_capture.specs.declared.device.Tick.TheVariants.{Idle, Completed, Failed, Missed, Ended, WrongSize}
use Rattle.loop_capture.specs.declared.source.Next.{Next}
use Rattle.loop_capture.specs.declared.source.Next.TheVariants.{More, End, Bad}
use Rattle.loop_capture.specs.Ticks.{SeenDevice, Ticks, Took, end_event, sequence_after, sequence_at, sequence_of, tick_events, tick_of}
use Rattle.loop_capture.proofs.TickLinks.{tick-linked}
use Rattle.loop_desk.specs.declared.hand.Hand.{Hand}
use Rattle.loop_desk.specs.Front.{Front, HandState, StandsFront, empty, full, planes_held, spent, hand_frame}
use Rattle.loop_desk.specs.Waiting.{IsCounted, frames_dequeued, completed_frame, without_flags}
use Rattle.loop_pipeline.specs.Fronts.{GaveBy, IsApart, IsNoticed, IsOut, asks_source, TickRecord, IsToldBy, shown_of, shown_given}
use Rattle.loop_pipeline.proofs.FrontRuns.{TickAdds}

-- for such a tick the source was asked
abbrev Asks : Tick → Type 0
Asks Idle = ⊥
Asks WrongSize = ⊥
Asks tick = Unit {0}

-- what a tick says of the source's answer
told-by : (tick : Tick) (answer : Next) (active : Option ℕ) → tick ≡ tick_of answer active → Asks tick
    → IsToldBy tick answer
told-by (Completed i) More active is asks = refl
told-by (Completed i) End active is asks = absurd (cc)
told-by (Completed i) Bad (Some j) is asks = absurd (cc)
told-by (Completed i) Bad None is asks = absurd (cc)
told-by (Failed i) Bad active is asks = refl
told-by (Failed i) End active is asks = absurd (cc)
told-by (Failed i) More (Some j) is asks = absurd (cc)
told-by (Failed i) More None is asks = absurd (cc)
told-by Missed More active is asks = λ e. absurd (cc)
told-by Missed Bad active is asks = λ e. absurd (cc)
told-by Missed End active is asks = absurd (cc)
told-by Ended End active is asks = refl
told-by Ended More (Some j) is asks = absurd (cc)
told-by Ended More None is asks = absurd (cc)
told-by Ended Bad (Some j) is asks = absurd (cc)
told-by Ended Bad None is asks = absurd (cc)
told-by Idle answer active is asks = absurd asks
told-by WrongSize answer active is asks = absurd asks

-- after a start 0, otherwise the next one
fresh-or-next : (goes_on fresh : Bool) (next : ℕ) → (sequence_at goes_on fresh next ≡ next)
    ⊎ (true ≡ true) × (sequence_at goes_on fresh next ≡ 0) × (goes_on ≡ false)
fresh-or-next true fresh next = inl refl
fresh-or-next false true next = inr (refl, refl, refl)
fresh-or-next false false next = inl refl

next-one : (goes_on fresh : Bool) (next : ℕ) → fresh ≡ false → sequence_at goes_on fresh next ≡ next
next-one true fresh next is = refl
next-one false true next is = absurd (cc)
next-one false false next is = refl

-- ---- what the end of a buffer is, or none

end-counted : (tick : Tick) (stamp : Stamp) (bytes : List ℕ) (s : QueueState)
    → EachIn after_event MayHappen s (end_event tick stamp bytes)
    → ((i : ℕ) → tick ≡ Completed i → length bytes ≡ frame_size s.body.shape)
    → EachIn after_event IsCounted s (end_event tick stamp bytes)
end-counted (Completed i) stamp bytes s may whole = ((may.0, whole i refl), tt)
end-counted (Failed i) stamp bytes s may whole = ((may.0, tt), tt)
end-counted Idle stamp bytes s may whole = tt
end-counted Missed stamp bytes s may whole = tt
end-counted Ended stamp bytes s may whole = tt
end-counted WrongSize stamp bytes s may whole = tt

end-flows : (tick : Tick) (stamp : Stamp) (bytes : List ℕ) → list_any stops (end_event tick stamp bytes) ≡ false
end-flows (Completed i) stamp bytes = refl
end-flows (Failed i) stamp bytes = refl
end-flows Idle stamp bytes = refl
end-flows Missed stamp bytes = refl
end-flows Ended stamp bytes = refl
end-flows WrongSize stamp bytes = refl

end-frames : (tick : Tick) (stamp : Stamp) (bytes : List ℕ) (s : QueueState) → frames_dequeued s (end_event tick stamp bytes) ≡ []
end-frames (Completed i) stamp bytes s = refl
end-frames (Failed i) stamp bytes s = refl
end-frames Idle stamp bytes s = refl
end-frames Missed stamp bytes s = refl
end-frames Ended stamp bytes s = refl
end-frames WrongSize stamp bytes s = refl

end-shown : (tick : Tick) (sequence now : ℕ) (bytes : List ℕ)
    → map shown_of (flat_map completed_frame (end_event tick (record { sequence = sequence; timestamp = now }) bytes))
    ≡ flat_map shown_given (record { now = now; tick = tick; sequence = sequence; bytes = bytes } ∷ [])
end-shown (Completed i) sequence now bytes = refl
end-shown (Failed i) sequence now bytes = refl
end-shown Idle sequence now bytes = refl
end-shown Missed sequence now bytes = refl
end-shown Ended sequence now bytes = refl
end-shown WrongSize sequence now bytes = refl

end-kind : (tick : Tick) (stamp : Stamp) (bytes : List ℕ) (s : QueueState)
    → (after_all after_event s (end_event tick stamp bytes)).body.kind ≡ s.body.kind
end-kind (Completed i) stamp bytes s = refl
end-kind (Failed i) stamp bytes s = refl
end-kind Idle stamp bytes s = refl
end-kind Missed stamp bytes s = refl
end-kind Ended stamp bytes s = refl
end-kind WrongSize stamp bytes s = refl

end-streams : (tick : Tick) (stamp : Stamp) (bytes : List ℕ) (s : QueueState)
    → (after_all after_event s (end_event tick stamp bytes)).body.streaming ≡ s.body.streaming
end-streams (Completed i) stamp bytes s = refl
end-streams (Failed i) stamp bytes s = refl
end-streams Idle stamp bytes s = refl
end-streams Missed stamp bytes s = refl
end-streams Ended stamp bytes s = refl
end-streams WrongSize stamp bytes s = refl

end-noticed : (tick : Tick) (stamp : Stamp) (bytes : List ℕ) (s : QueueState) → IsNoticed s
    → IsNoticed (after_all after_event s (end_event tick stamp bytes))
end-noticed (Completed i) stamp bytes s is = is
end-noticed (Failed i) stamp bytes s is = is
end-noticed Idle stamp bytes s is = is
end-noticed Missed stamp bytes s is = is
end-noticed Ended stamp bytes s is = is
end-noticed WrongSize stamp bytes s is = is

-- ---- a buffer that is out of the queue stays so

-- it isn't the one that the device ends
kept-out : (bs : List (Buffer Plane)) (k i : ℕ) (state : BufferState) → state_at bs k ≡ Dequeued
    → owner (state_at bs i) ≡ Device → cond (k == i) state (state_at bs k) ≡ Dequeued
kept-out bs k i state out device = by (k == i) refl
  where
    by : (t : Bool) → (k == i) ≡ t → cond t state (state_at bs k) ≡ Dequeued
    by false e = out
    by true e = absurd (let it : state_at bs i ≡ Dequeued = subst (λ n. state_at bs n ≡ Dequeued) (same k i e) out in
        let both : owner Dequeued ≡ Device = ap owner (sym it) ∙ device in cc)

stays-out : (tick : Tick) (stamp : Stamp) (bytes : List ℕ) (s : QueueState) → InStep s.body
    → EachIn after_event MayHappen s (end_event tick stamp bytes) → (k : ℕ) → IsOut s.body k
    → IsOut (after_all after_event s (end_event tick stamp bytes)).body k
stays-out (Completed i) stamp bytes s step may k out =
    let law = handed_over_by_owners s (complete i stamp bytes None) step may.0 in
    let bs = s.body.buffers in (
      subst (λ n. k < n) (sym (length-changed (completed_by slot_filled s.body.shape stamp bytes) bs i)) out.0,
      law.1 k ∙ kept-out bs k i Done out.1 law.0,
    )
stays-out (Failed i) stamp bytes s step may k out =
    let law = handed_over_by_owners s (fail i stamp None) step may.0 in
    let bs = s.body.buffers in (
      subst (λ n. k < n) (sym (length-changed (failed_with stamp) bs i)) out.0,
      law.1 k ∙ kept-out bs k i Error out.1 law.0,
    )
stays-out Idle stamp bytes s step may k out = out
stays-out Missed stamp bytes s step may k out = out
stays-out Ended stamp bytes s step may k out = out
stays-out WrongSize stamp bytes s step may k out = out

stays-apart : (tick : Tick) (stamp : Stamp) (bytes : List ℕ) (s : QueueState) → InStep s.body
    → EachIn after_event MayHappen s (end_event tick stamp bytes) → (h : HandState) → IsApart s.body h
    → IsApart (after_all after_event s (end_event tick stamp bytes)).body h
stays-apart tick stamp bytes s step may empty is = tt
stays-apart tick stamp bytes s step may (full k p planes) is = stays-out tick stamp bytes s step may k is
stays-apart tick stamp bytes s step may (spent k planes) is = stays-out tick stamp bytes s step may k is

seen-in-step : (s : QueueState) → InStep s.body → InStep (on_body body_seen s).body
seen-in-step s step = record { only_streaming = step.only_streaming; each = step.each }

module _ {S P A : Type 0} (gives : S → Next → List ℕ → S → Type 0) (m : P → Plane) (table : Fds P) (now : ℕ)
    (d e : SeenDevice S) (before after : Lined P) (h : Hand P A) (to : Producer (Frame A) A AnyItems) where
  abbrev given-at : Tick → ℕ → List ℕ → TickRecord
  given-at tick sequence bytes = record { now = now; tick = tick; sequence = sequence; bytes = bytes }

  -- a tick that changes nothing
  nothing-adds : (tick : Tick) (f : Front) → asks_source tick ≡ false → ((first : Bool) → GaveBy gives first tick 0 [] d e)
      → flat_map shown_given (given-at tick 0 [] ∷ []) ≡ []
      → after ≡ before → hand_frame f.hand ≡ [] → IsApart f.queue.queue.body f.hand → StandsFront m before table h f
      → TickAdds gives m table f.queue.queue d e before after h to to now tick
  nothing-adds tick f quiet gave none still free apart stands = (
    given-at tick 0 [],
    refl,
    refl,
    record {
      events = [];
      legal = tt;
      flows = refl;
      now = f;
      stands = subst (λ q. StandsFront m q table h f) (sym still) stands;
      reached = refl;
      formed = ap (λ q. q.body.shape) still;
      free = free;
      apart = apart;
      streams = refl;
      ring = ((refl, refl, refl, refl), refl);
      went = ap (map without_flags) (sym (append-nil (map picture (sent to))));
      source = (e, gave true, refl);
      shows = sym none;
    },
    λ noticed. (e, gave false, refl),
    λ is. absurd (let other : true && not (asks_source tick) ≡ true = ap (λ t. true && not t) quiet in
        let both : true ≡ false = sym other ∙ is in cc),
  )

  -- the front after a tick for which the source was asked: the queue's events have happened, the rest is as it was
  abbrev after-tick : Tick → List ℕ → Front → Front
  after-tick tick bytes f = record f {
    queue = record f.queue {
      queue = after_all after_event f.queue.queue (tick_events now d tick bytes f.queue.queue);
    };
  }

  abbrev stamp-at : Front → Stamp
  stamp-at f = record { sequence = sequence_of d f.queue.queue; timestamp = now }

  ticked-stands : (tick : Tick) (f : Front) → StandsFront m before table h f
      → (took : Took gives m now tick d e before after f.queue.queue)
      → StandsFront m after table h (after-tick tick took.bytes f)
  ticked-stands tick f stands took = record {
    queue = moves m before after table f.queue _ stands.queue took.queue
        (tick-linked tick (stamp-at f) took.bytes f.queue.queue f.queue.out f.queue.names stands.queue.linked);
    hand = stands.hand;
    out = stands.out ∙ ap (λ k. values_by_fd k (option_to_list (planes_held f.hand)))
        (sym (end-kind tick (stamp-at f) took.bytes (on_body body_seen f.queue.queue)));
  }

  -- a tick for which the source was asked
  took-adds : (tick : Tick) (f : Front) → after.body.shape ≡ before.body.shape → Asks tick
      → hand_frame f.hand ≡ [] → IsApart f.queue.queue.body f.hand → StandsFront m before table h f
      → (took : Took gives m now tick d e before after f.queue.queue)
      → GaveBy gives true tick (sequence_of d f.queue.queue) took.bytes d e
      → (IsNoticed f.queue.queue → GaveBy gives false tick (sequence_of d f.queue.queue) took.bytes d e)
      → TickAdds gives m table f.queue.queue d e before after h to to now tick
  took-adds tick f formed asks free apart stands took gave firm =
      let s = f.queue.queue in
      let bytes = took.bytes in
      let told = told-by tick took.answer (longest_active s) took.tick_is asks in
      let stamp = stamp-at f in (
        given-at tick stamp.sequence bytes,
        refl,
        refl,
        record {
          events = tick_events now d tick bytes s;
          legal = (
            (took.happen.0, tt),
            end-counted tick stamp bytes (on_body body_seen s) took.happen.1
                (λ i is. took.whole (subst (λ (t : Tick). IsToldBy t took.answer) is told) ∙ took.fits),
          );
          flows = end-flows tick stamp bytes;
          now = after-tick tick bytes f;
          stands = ticked-stands tick f stands took;
          reached = refl;
          formed = formed;
          free = free;
          apart = stays-apart tick stamp bytes (on_body body_seen s) (seen-in-step s stands.queue.queue.shown.in_step)
              took.happen.1 f.hand apart;
          streams = end-streams tick stamp bytes (on_body body_seen s);
          ring = ((refl, refl, refl, refl), refl);
          went = ap (map without_flags) (sym (append-nil (map picture (sent to)))
              ∙ ap (λ l. map picture (sent to) ++ l) (sym (end-frames tick stamp bytes (on_body body_seen s))));
          source = (e, gave, refl);
          shows = end-shown tick stamp.sequence now bytes;
        },
        λ noticed. (e, firm noticed, refl),
        λ is. end-noticed tick stamp bytes (on_body body_seen s) (took.started, refl),
      )

  abbrev Gave : Bool → (tick : Tick) → (s : QueueState) → Took gives m now tick d e before after s → Type 0
  Gave first tick s took =
      (answer : Next) × IsToldBy tick answer × gives d.source answer took.bytes e.source × (e.size ≡ d.size)
      × (e.goes_on ≡ d.goes_on)
      × ((sequence_of d s ≡ d.next) ⊎ (first ≡ true) × (sequence_of d s ≡ 0) × (d.goes_on ≡ false))
      × (e.next ≡ sequence_after answer (sequence_of d s))

  gave-of : (tick : Tick) (s : QueueState) → Asks tick → (took : Took gives m now tick d e before after s)
      → Gave true tick s took
  gave-of tick s asks took = (
    took.answer,
    told-by tick took.answer (longest_active s) took.tick_is asks,
    took.given,
    took.size,
    took.goes_on,
    fresh-or-next d.goes_on s.body.fresh d.next,
    took.next,
  )

  gave-next : (tick : Tick) (s : QueueState) → Asks tick → (took : Took gives m now tick d e before after s)
      → IsNoticed s → Gave false tick s took
  gave-next tick s asks took noticed = (
    took.answer,
    told-by tick took.answer (longest_active s) took.tick_is asks,
    took.given,
    took.size,
    took.goes_on,
    inl (next-one d.goes_on s.body.fresh d.next noticed.1),
    took.next,
  )

  pub tick-adds : (tick : Tick) (f : Front) → after.body.shape ≡ before.body.shape → hand_frame f.hand ≡ []
      → IsApart f.queue.queue.body f.hand → StandsFront m before table h f → Ticks gives m now tick d e before after
      → TickAdds gives m table f.queue.queue d e before after h to to now tick
  tick-adds WrongSize f formed free apart stands ticks =
      let t = ticks f.queue.queue stands.queue.queue in nothing-adds WrongSize f refl (λ first. t.1) refl t.2 free apart stands
  tick-adds Idle f formed free apart stands ticks =
      let t = ticks f.queue.queue stands.queue.queue in nothing-adds Idle f refl (λ first. t.2) refl t.3 free apart stands
  tick-adds (Completed i) f formed free apart stands ticks =
      let t = ticks f.queue.queue stands.queue.queue in
      took-adds (Completed i) f formed tt free apart stands t (gave-of (Completed i) f.queue.queue tt t)
      (gave-next (Completed i) f.queue.queue tt t)
  tick-adds (Failed i) f formed free apart stands ticks =
      let t = ticks f.queue.queue stands.queue.queue in
      took-adds (Failed i) f formed tt free apart stands t (gave-of (Failed i) f.queue.queue tt t)
      (gave-next (Failed i) f.queue.queue tt t)
  tick-adds Missed f formed free apart stands ticks =
      let t = ticks f.queue.queue stands.queue.queue in
      took-adds Missed f formed tt free apart stands t (gave-of Missed f.queue.queue tt t)
      (gave-next Missed f.queue.queue tt t)
  tick-adds Ended f formed free apart stands ticks =
      let t = ticks f.queue.queue stands.queue.queue in
      took-adds Ended f formed tt free apart stands t (gave-of Ended f.queue.queue tt t)
      (gave-next Ended f.queue.queue tt t)
