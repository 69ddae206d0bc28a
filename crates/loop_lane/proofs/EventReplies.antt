-- One event of a lane with its reply.
use Rattle.std.proofs.Common.{◌≡◌, ℕ, Bool, true, false, if◌then◌else◌, Result, List, [], ◌∷◌, refl, sym, ap, ◌∙◌, subst}
use Rattle.std.proofs.lemmas.List.{append-nil}
use Rattle.loop_plane.specs.Plane.{Plane}
use Rattle.loop_disk.specs.Medium.{Medium, IsSound}
use Rattle.loop_record.specs.declared.clip.Span.{Span}
use Rattle.loop_record.specs.declared.geometry.PixelFormat.{PixelFormat}
use Rattle.loop_record.proofs.TurnRuns.{plays-once}
use Rattle.loop_store.specs.declared.command.ReadFrame.{ReadFrame}
use Rattle.loop_store.specs.declared.fault.StoreFault.{StoreFault}
use Rattle.loop_store.specs.Reopen.{TellsOne}
use Rattle.loop_store.specs.Runs.{read_of}
use Rattle.loop_vb2.specs.State.{Body}
use Rattle.loop_ioctl.specs.declared.events.QueueEvent.{QueueEvent}
use Rattle.loop_ioctl.specs.declared.events.QueueReply.{QueueReply}
use Rattle.loop_lane.specs.declared.event.LaneEvent.{LaneEvent}
use Rattle.loop_lane.specs.declared.event.LaneEvent.TheVariants as event
use Rattle.loop_lane.specs.declared.event.LaneReply.{LaneReply}
use Rattle.loop_lane.specs.declared.event.LaneReply.TheVariants as reply
use Rattle.loop_desk.specs.declared.hand.LaneFault.{LaneFault}
use Rattle.loop_lane.specs.declared.lane.Lane.{Lane}
use Rattle.loop_desk.specs.declared.limits.Flushed.{Flushed}
use Rattle.loop_desk.specs.Desk.{DeskCall, frame_accepted, clip_locked, clip_unlocked, flushed, frame_read}
use Rattle.loop_desk.specs.Front.{Front, FrontTurns, HandState, IsSubmit, StandsFront, Turn, dequeued, front_after, offered, hand_given, hand_state, on_queue, requeued}
use Rattle.loop_lane.specs.Lane.{AreCallsAt, IsAtFront, LaneRan, LaneTurn, StandsLane, after_turn, at_desk, at_front, calls_of_turn, is_dequeue, mixed, submit_calls, turn_at, turn_of}
use Rattle.loop_desk.specs.Seen.{DeskGoes}
use Rattle.loop_desk.proofs.CallRuns.{desk-none}
use Rattle.loop_lane.proofs.LaneRuns.{lane_machine, shown-one}
use Rattle.loop_desk.proofs.FrontTurns.{given_stands}

calls-are : {P A : Type 0} (h : HandState) (t : LaneTurn P A) (calls : List DeskCall) → AreCallsAt h t calls
    → calls ≡ calls_of_turn h t
calls-are h (at_front (on_queue e result)) calls are = are
calls-are h (at_front (dequeued result)) calls are = are
calls-are h (at_front (requeued result)) calls are = are
calls-are h (at_front (offered result)) calls are = are.1
calls-are h (at_desk c) calls are = are
calls-are h mixed calls are = absurd are

module _ {D P A : Type 0} (m : P → Plane) (medium : D → Medium) where
  -- an event that is this turn
  one : (old new : Lane D P A) (e : LaneEvent P A) (p : LaneReply P A) (t : LaneTurn P A) (calls : List DeskCall)
      → turn_of old.queue.body.format e p ≡ t → AreCallsAt (hand_state m old.hand) t calls
      → DeskGoes medium old.desk new.desk calls
      → ((f : Front) → StandsLane m old f → IsAtFront m f t × StandsLane m new (after_turn m f t)) → LaneRan m medium old new (e ∷ []) (p ∷ [])
  one old new e p t calls is are goes turns = record {
    calls = calls;
    shown = shown-one e p calls (
      old.queue.body.format,
      (hand_state m old.hand, subst (λ (x : LaneTurn P A). AreCallsAt (hand_state m old.hand) x calls) (sym is) are),
    );
    desk = goes;
    front = plays-once (lane_machine m) (StandsLane m old) (StandsLane m new) (e, p)
        (λ f stands. subst (λ (x : LaneTurn P A). IsAtFront m f x × StandsLane m new (after_turn m f x))
        (sym (at f stands)) (turns f stands));
    are = λ f stands. calls-are (hand_state m old.hand) t calls are
        ∙ (ap (λ h. calls_of_turn h t) stands.hand
        ∙ (ap (calls_of_turn f.hand) (sym (at f stands)) ∙ sym (append-nil (calls_of_turn f.hand (turn_at f (e, p))))));
  }
    where
      at : (f : Front) → StandsLane m old f → turn_at f (e, p) ≡ t
      at f stands = ap (λ (b : Body Plane). turn_of b.format e p) (sym stands.queue.queue.shown.body) ∙ is

  -- ---- the front

  -- a turn of the front alone
  at-front : (old new : Lane D P A) (e : LaneEvent P A) (p : LaneReply P A) (t : Turn P A) → TellsOne old.desk.store
      → ((medium old.desk.store.disk).honest → IsSound (medium old.desk.store.disk))
      → turn_of old.queue.body.format e p ≡ at_front t → AreCallsAt (hand_state m old.hand) (at_front t) []
      → new.desk ≡ old.desk → FrontTurns m old.queue old.table old.hand t new.queue new.table new.hand → LaneRan m medium old new (e ∷ []) (p ∷ [])
  at-front old new e p t one_told sound is none same turns = one old new e p (at_front t) [] is none
      (subst (λ d. DeskGoes medium old.desk d []) (sym same) (desk-none medium old.desk one_told sound)) turns

  pub told-queue : (old new : Lane D P A) (e : QueueEvent P A) (result : Result (QueueReply P A) LaneFault)
      → TellsOne old.desk.store → ((medium old.desk.store.disk).honest → IsSound (medium old.desk.store.disk))
      → new.desk ≡ old.desk
      → is_dequeue old.queue.body.format e ≡ false → FrontTurns m old.queue old.table old.hand
      (on_queue e result) new.queue new.table new.hand → LaneRan m medium old new (event.Queue e ∷ [])
      (reply.Queue result ∷ [])
  told-queue old new e result one_told sound same other turns =
      at-front old new (event.Queue e) (reply.Queue result) (on_queue e result) one_told sound
      (ap (λ (b : Bool). if b then mixed else at_front (on_queue e result)) other) refl same turns

  pub told-dqbuf : (old new : Lane D P A) (e : QueueEvent P A) (result : Result ℕ LaneFault) → TellsOne old.desk.store
      → ((medium old.desk.store.disk).honest → IsSound (medium old.desk.store.disk)) → new.desk ≡ old.desk
      → is_dequeue old.queue.body.format e ≡ true → FrontTurns m old.queue old.table old.hand
      (dequeued result) new.queue new.table new.hand → LaneRan m medium old new (event.Queue e ∷ [])
      (reply.Dequeue result ∷ [])
  told-dqbuf old new e result one_told sound same is turns =
      at-front old new (event.Queue e) (reply.Dequeue result) (dequeued result) one_told sound
      (ap (λ (b : Bool). if b then at_front (dequeued result) else mixed) is) refl same turns

  pub told-dequeue : (old new : Lane D P A) (result : Result ℕ LaneFault) → TellsOne old.desk.store
      → ((medium old.desk.store.disk).honest → IsSound (medium old.desk.store.disk)) → new.desk ≡ old.desk
      → FrontTurns m old.queue old.table old.hand (dequeued result) new.queue new.table new.hand
      → LaneRan m medium old new (event.Dequeue ∷ []) (reply.Dequeue result ∷ [])
  told-dequeue old new result one_told sound same turns = at-front old new event.Dequeue (reply.Dequeue result)
      (dequeued result) one_told sound refl refl same turns

  pub told-requeue : (old new : Lane D P A) (result : Result ℕ LaneFault) → TellsOne old.desk.store
      → ((medium old.desk.store.disk).honest → IsSound (medium old.desk.store.disk)) → new.desk ≡ old.desk
      → FrontTurns m old.queue old.table old.hand (requeued result) new.queue new.table new.hand
      → LaneRan m medium old new (event.Requeue ∷ []) (reply.Requeue result ∷ [])
  told-requeue old new result one_told sound same turns = at-front old new event.Requeue (reply.Requeue result)
      (requeued result) one_told sound refl refl same turns

  -- ---- the desk

  -- the front is as it was
  pub record SameFront (old new : Lane D P A) : Type 0 where
    pub queue : new.queue ≡ old.queue
    pub table : new.table ≡ old.table
    pub hand : new.hand ≡ old.hand

  stands-same : (old new : Lane D P A) (f : Front) → SameFront old new → StandsLane m old f → StandsLane m new f
  stands-same old new f same stands =
      let q = same.queue in
      let t = same.table in
      let h = same.hand in
      subst (λ x. StandsFront m x new.table new.hand f) (sym q)
      (subst (λ x. StandsFront m old.queue x new.hand f) (sym t)
      (subst (λ x. StandsFront m old.queue old.table x f) (sym h) stands))

  -- a call of the desk alone
  at-desk : (old new : Lane D P A) (e : LaneEvent P A) (p : LaneReply P A) (c : DeskCall) → SameFront old new
      → frame_accepted c ≡ [] → ((format : PixelFormat) → turn_of format e p ≡ at_desk c)
      → DeskGoes medium old.desk new.desk (c ∷ []) → LaneRan m medium old new (e ∷ []) (p ∷ [])
  at-desk old new e p c same none is goes = one old new e p (at_desk c) (c ∷ []) (is old.queue.body.format) refl goes
      (λ f stands. (none, stands-same old new f same stands))

  pub told-flush : (old new : Lane D P A) (result : Result Flushed StoreFault) → SameFront old new
      → DeskGoes medium old.desk new.desk (flushed result ∷ []) → LaneRan m medium old new (event.Flush ∷ [])
      (reply.Flush result ∷ [])
  told-flush old new result same goes = at-desk old new event.Flush (reply.Flush result) (flushed result) same refl (λ format. refl) goes

  pub told-lock : (old new : Lane D P A) (span : Span) (result : Result ℕ StoreFault) → SameFront old new
      → DeskGoes medium old.desk new.desk (clip_locked span result ∷ [])
      → LaneRan m medium old new (event.Lock span ∷ []) (reply.Lock result ∷ [])
  told-lock old new span result same goes = at-desk old new (event.Lock span) (reply.Lock result) (clip_locked span result) same refl (λ format. refl) goes

  pub told-unlock : (old new : Lane D P A) (id : ℕ) (result : Result (Unit {0}) StoreFault) → SameFront old new
      → DeskGoes medium old.desk new.desk (clip_unlocked id result ∷ [])
      → LaneRan m medium old new (event.Unlock id ∷ []) (reply.Unlock result ∷ [])
  told-unlock old new id result same goes = at-desk old new (event.Unlock id) (reply.Unlock result) (clip_unlocked id result) same refl (λ format. refl) goes

  pub told-read : (old new : Lane D P A) (number : ℕ) (result : Result (ReadFrame A) StoreFault) → SameFront old new
      → DeskGoes medium old.desk new.desk (frame_read number (read_of result) ∷ [])
      → LaneRan m medium old new (event.Read number ∷ []) (reply.Read result ∷ [])
  told-read old new number result same goes = at-desk old new (event.Read number) (reply.Read result)
      (frame_read number (read_of result)) same refl (λ format. refl) goes

  -- ---- a submit

  -- the hand's frame goes to the desk, or stays
  pub told-submit : (old new : Lane D P A) (result : Result ℕ StoreFault) → new.queue ≡ old.queue
      → new.table ≡ old.table → IsSubmit (hand_state m old.hand) result → hand_state m new.hand ≡ hand_given
      (hand_state m old.hand) result
      → DeskGoes medium old.desk new.desk (submit_calls (hand_state m old.hand) result)
      → LaneRan m medium old new (event.Submit ∷ []) (reply.Submit result ∷ [])
  told-submit old new result queue table said hand goes =
      one old new event.Submit (reply.Submit result) (at_front (offered result)) (submit_calls (hand_state m old.hand) result) refl (said, refl) goes
      (λ (f : Front) (stands : StandsLane m old f). (
        subst (λ (h : HandState). IsSubmit h result) stands.hand said,
        subst (λ q. StandsFront m q new.table new.hand (front_after {P = P} {A = A} m f (offered result))) (sym queue)
            (subst (λ t. StandsFront m old.queue t new.hand (front_after {P = P} {A = A} m f (offered result)))
            (sym table) (given_stands m result old.queue old.table old.hand new.hand f hand stands)),
      ))
