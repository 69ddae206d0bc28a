-- Events of a queue, and the frames that they keep.
use Rattle.std.proofs.Common.{◌≡◌, ℕ, false, List, [], ◌∷◌, ◌++◌, map, refl, sym, ◌∙◌, ap}
use Rattle.std.specs.Prelude.{slice_get}
use Rattle.std.specs.List.{flat_map, list_any}
use Rattle.std.proofs.lemmas.List.{append-nil, append_cancel_left, map-append}
use Rattle.loop_plane.specs.Plane.{Plane}
use Rattle.loop_record.specs.declared.geometry.PixelFormat.{PixelFormat}
use Rattle.loop_record.specs.Turns.{EachIn, after_all}
use Rattle.loop_record.proofs.TurnRuns.{after-behind}
use Rattle.loop_vb2.specs.Buffers.{state_at}
use Rattle.loop_vb2.specs.Events.{Event, MayHappen, after_event, dequeued_by, stops}
use Rattle.loop_vb2.specs.First.{shape_of}
use Rattle.loop_vb2.specs.Laws.{InTurn, IsStill, KeepsOrder}
use Rattle.loop_vb2.specs.Owner.{waits}
use Rattle.loop_vb2.specs.State.{Body, Lined, QueueState, StandsQueue}
use Rattle.loop_vb2.proofs.FrameOrder.{Runs, dequeues_in_order, new_queues_are_still, runs_stopped}
use Rattle.loop_desk.specs.Waiting.{FramesAreKept, IsCounted, QueuesStaySound, completed_frame, frames_dequeued, frames_waiting, shot, without_flags}
use Rattle.loop_desk.proofs.BufferFrames.{Along, IsHolding, all_fit, all_held, all_shaped, frames_along, held_none, shots, stopped_waits}

-- ---- lists

pub each-first : {S X : Type 0} (after : S → X → S) (P : S → X → Type 0) (s : S) (xs ys : List X)
    → EachIn after P s (xs ++ ys) → EachIn after P s xs
each-first after P s [] ys each = tt
each-first after P s (x ∷ xs) ys each = (each.0, each-first after P (after s x) xs ys each.1)

pub each-second : {S X : Type 0} (after : S → X → S) (P : S → X → Type 0) (s : S) (xs ys : List X)
    → EachIn after P s (xs ++ ys) → EachIn after P (after_all after s xs) ys
each-second after P s [] ys each = each
each-second after P s (x ∷ xs) ys each = each-second after P (after s x) xs ys each.1

-- ---- events

pub each-may : (s : QueueState) (events : List Event) → EachIn after_event IsCounted s events
    → EachIn after_event MayHappen s events
each-may s [] each = tt
each-may s (e ∷ es) each = (each.0.0, each-may (after_event s e) es each.1)

-- ---- frames

map-of-all : {X Y Z : Type 0} (f : Y → Z) (g : X → List Y) (xs : List X)
    → map f (flat_map g xs) ≡ flat_map (λ x. map f (g x)) xs
map-of-all f g [] = refl
map-of-all f g (x ∷ xs) = map-append f (g x) (flat_map g xs) ∙ ap (λ l. map f (g x) ++ l) (map-of-all f g xs)

waiting-shots : {P : Type 0} (code : Lined P) (s : QueueState)
    → map without_flags (frames_waiting code s) ≡ shots s.body.shape s.body.buffers code.done
waiting-shots code s = map-of-all without_flags (λ i. shot s.body.shape (slice_get s.body.buffers i)) code.done

-- the lines of a sound queue
lines-of : {P : Type 0} (m : P → Plane) (code : Lined P) (s : QueueState) → StandsQueue m code s → IsStill code
    → Runs s code.done
lines-of m code s stands still = record {
  incoming = code.incoming;
  shows =
      record {
        body = refl;
        incoming = stands.shown.incoming;
        done = stands.shown.done;
        in_step = stands.shown.in_step;
      };
  still = λ off. still (ap (λ (b : Body Plane). b.streaming) stands.shown.body ∙ off);
}

-- the frames from a line on, which ends where the queue's own does
from-line : {P : Type 0} (format : PixelFormat) (width height : ℕ) (new : Lined P) (s : QueueState)
    (events : List Event) (line : List ℕ) → Runs s line → IsHolding (shape_of format width height) s
    → list_any stops events ≡ false → EachIn after_event IsCounted s events → InTurn line events [] new.done
    → shots s.body.shape s.body.buffers line ++ flat_map completed_frame events ≡ map without_flags (frames_dequeued s events)
    ++ map without_flags (frames_waiting new (after_all after_event s events))
from-line format width height new s events line runs holding on each turn =
    let end : QueueState = after_all after_event s events in
    let a : Along s events line = frames_along format width height s events line runs holding on each in
    let last : a.rest ≡ new.done = append_cancel_left (flat_map dequeued_by events) a.rest new.done
    (sym a.ends ∙ (turn.1 ∙ ap (λ l. flat_map dequeued_by events ++ l) (turn.2 refl))) in
    let taken = map without_flags (frames_dequeued s events) in
    a.frames ∙ (ap (λ l. taken ++ shots end.body.shape end.body.buffers l) last ∙ ap (λ l. taken ++ l) (sym (waiting-shots new end)))

pub frames-are-kept : {P : Type 0} (m : P → Plane) → FramesAreKept m
frames-are-kept m = record {
  from_start = λ old new s events format width height stands sound shaped each last on.
      let order : KeepsOrder old new events = dequeues_in_order m old new s events stands (each-may s events each) last in
      ap (λ l. l ++ flat_map completed_frame events) (waiting-shots old s)
      ∙ from-line format width height new s events old.done (lines-of m old s stands sound.still)
      (record { shaped = shaped; fit = stands.fit; held = sound.held }) on each
      (order.from_start events [] (sym (append-nil events)) on sound.still);
  from_stop = λ old new s before part stop format width height stands shaped each last stopped on.
      let all = before ++ stop ∷ part in
      let n : QueueState = after_all after_event s before in
      let t : QueueState = after_event n stop in
      let first = each-first after_event IsCounted s before (stop ∷ part) each in
      let later = each-second after_event IsCounted s before (stop ∷ part) each in
      let order : KeepsOrder old new all = dequeues_in_order m old new s all stands (each-may s all each) last in
      let holding : IsHolding (shape_of format width height) t =
      record {
        shaped = all_shaped n (stop ∷ []) ∙ (all_shaped s before ∙ shaped);
        fit = all_fit n (stop ∷ []) (later.0, tt) (all_fit s before first stands.fit);
        held = held_none t.body.buffers (stopped_waits n stop stopped);
      } in
      from-line format width height new t part [] (runs_stopped n stop stopped) holding on later.1
      (order.from_stop before part [] stop (ap (λ l. before ++ stop ∷ l) (sym (append-nil part))) stopped on)
      ∙ ap (λ (x : QueueState). map without_flags (frames_dequeued t part) ++ map without_flags (frames_waiting new x))
      (sym (after-behind after_event s before (stop ∷ part)));
}

-- ---- soundness

pub queues-stay-sound : {P : Type 0} (m : P → Plane) → QueuesStaySound m
queues-stay-sound m = record {
  new = λ code s stands none. record {
    still = new_queues_are_still m code s stands none;
    held =
        held_none s.body.buffers (λ i. ap (λ bs. waits (state_at bs i)) none);
  };
  after = λ old new s events stands sound each last.
      let order : KeepsOrder old new events = dequeues_in_order m old new s events stands each last in
      record {
        still = order.still sound.still;
        held = all_held s events each sound.held;
      };
}
