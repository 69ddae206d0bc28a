-- A tick that asked its source.
use Rattle.std.proofs.Common.{◌≡◌, ℕ, Bool, true, List, length, Option, Some, None, refl, sym, ◌∙◌, ap, subst}
use Rattle.loop_plane.specs.Plane.{Plane}
use Rattle.loop_record.specs.Turns.{EachIn, after_all}
use Rattle.loop_capture.specs.declared.device.Tick.{Tick}
use Rattle.loop_capture.specs.declared.device.Tick.TheVariants.{Idle, Completed, Failed, Missed, Ended, WrongSize}
use Rattle.loop_capture.specs.declared.source.Next.{Next}
use Rattle.loop_capture.specs.declared.source.Next.TheVariants.{More, End, Bad}
use Rattle.loop_capture.specs.Ticks.{SeenDevice, Ends, Took, Ticked, Ticks, tick_of, end_event, sequence_at, sequence_of, sequence_after}
use Rattle.loop_vb2.specs.Effects.{longest_active, on_body}
use Rattle.loop_vb2.proofs.Short.{body_seen}
use Rattle.loop_vb2.specs.Events.{Event, Happens, MayHappen, after_event, take_fresh}
use Rattle.loop_vb2.specs.Planes.{frame_size}
use Rattle.loop_vb2.specs.State.{Lined, QueueState, StandsQueue}

not_wrong : (answer : Next) (active : Option ℕ) → WrongSize ≡ tick_of answer active → ⊥
not_wrong End active e = absurd (cc)
not_wrong More None e = absurd (cc)
not_wrong More (Some i) e = absurd (cc)
not_wrong Bad None e = absurd (cc)
not_wrong Bad (Some i) e = absurd (cc)

not_idle : (answer : Next) (active : Option ℕ) → Idle ≡ tick_of answer active → ⊥
not_idle End active e = absurd (cc)
not_idle More None e = absurd (cc)
not_idle More (Some i) e = absurd (cc)
not_idle Bad None e = absurd (cc)
not_idle Bad (Some i) e = absurd (cc)

module _ {S P : Type 0} (gives : S → Next → List ℕ → S → Type 0) (m : P → Plane) where
  took_so : (now : ℕ) (tick : Tick) (d e : SeenDevice S) (q q' : Lined P) (s : QueueState)
      → Took gives m now tick d e q q' s → Ticked gives m now tick d e q q' s
  took_so now WrongSize d e q q' s t = absurd (not_wrong t.answer (longest_active s) t.tick_is)
  took_so now Idle d e q q' s t = absurd (not_idle t.answer (longest_active s) t.tick_is)
  took_so now (Completed i) d e q q' s t = t
  took_so now (Failed i) d e q q' s t = t
  took_so now Missed d e q q' s t = t
  took_so now Ended d e q q' s t = t

  pub took : (now sequence : ℕ) (fresh : Bool) (answer : Next) (tick : Tick) (bytes : List ℕ) (d e : SeenDevice S)
      (q between q' : Lined P) → d.size ≡ frame_size q.body.shape → q.body.started ≡ true
      → Happens m q between (take_fresh fresh) → sequence ≡ sequence_at d.goes_on fresh d.next
      → (answer ≡ More → length bytes ≡ d.size) → gives d.source answer bytes e.source → e.size ≡ d.size → e.goes_on ≡ d.goes_on
      → e.next ≡ sequence_after answer sequence → Ends m answer (record { sequence = sequence; timestamp = now })
      bytes tick between q' → Ticks gives m now tick d e q q'
  took now sequence fresh answer tick bytes d e q between q' fits started step is whole given size same_way next ends = λ s h.
      let x = step s h in
      let y = ends.1 (on_body body_seen s) x.1 in
      let same : sequence ≡ sequence_of d s = is ∙ ap (λ b. sequence_at d.goes_on b d.next) x.0 in
      let of : ℕ → List Event = λ (k : ℕ). end_event tick (record { sequence = k; timestamp = now }) bytes in
      took_so now tick d e q q' s (record {
        fits = fits ∙ ap (λ b. frame_size b.shape) h.shown.body;
        started = sym (ap (λ b. b.started) h.shown.body) ∙ started;
        answer = answer;
        bytes = bytes;
        whole = whole;
        given = given;
        tick_is = ends.0 (on_body body_seen s) x.1;
        next = next ∙ ap (sequence_after answer) same;
        size = size;
        goes_on = same_way;
        happen = (refl, subst (λ (k : ℕ). EachIn after_event MayHappen (on_body body_seen s) (of k)) same y.0);
        queue = subst (λ (k : ℕ). StandsQueue m q' (after_all after_event (on_body body_seen s) (of k))) same y.1;
      })
