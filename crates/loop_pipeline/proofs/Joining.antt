-- Desks that join a back.
use Rattle.std.proofs.Common.{◌≡◌, ◌++◌, ◌∷◌, ℕ, Bool, List, [], refl, sym, ap, ◌∙◌, subst}
use Rattle.std.proofs.lemmas.List.{append-nil, append_assoc}
use Rattle.rtrb.specs.declared.AnyItems.{AnyItems}
use Rattle.rtrb.specs.declared.consumer.Consumer.{Consumer}
use Rattle.rtrb.specs.declared.producer.Producer.{Producer}
use Rattle.loop_disk.specs.Medium.{Medium}
use Rattle.loop_plane.specs.Plane.{Plane}
use Rattle.loop_record.specs.declared.frame.Frame.{Frame}
use Rattle.loop_store.specs.declared.fault.StoreFault.{StoreFault}
use Rattle.loop_vb2.specs.State.{Lined}
use Rattle.loop_capture.specs.declared.source.Next.{Next}
use Rattle.loop_capture.specs.Ticks.{SeenDevice}
use Rattle.loop_desk.specs.Desk.{DeskCall}
use Rattle.loop_desk.specs.Seen.{SeenDesk}
use Rattle.loop_pipeline.specs.declared.waiting.Arrival.{Arrival}
use Rattle.loop_pipeline.specs.declared.waiting.Arrival.TheVariants.{Joined, Full, Nobody}
use Rattle.loop_pipeline.specs.Backs.{Joins, SeenBack}
use Rattle.loop_pipeline.specs.Cameras.{CameraKeeps, KeepsJoined, SeenCamera}
use Rattle.loop_pipeline.specs.Doors.{HasArrived}
use Rattle.loop_pipeline.specs.Fronts.{IsRegular, SeenFront}

module _ {D A : Type 0} (shut : Type 0) where
  -- none
  pub joins-none : (old new : SeenBack D A) → new.began ≡ old.began → new.from ≡ old.from → new.start ≡ old.start → Joins shut old new
  joins-none old new began from start = record {
    others = [];
    none = λ s. refl;
    began = began ∙ sym (append-nil old.began);
    from = from;
    start = start;
  }

  -- some, and then others
  pub joins-then : (old mid new : SeenBack D A) → Joins shut old mid → Joins shut mid new → Joins shut old new
  joins-then old mid new first second = record {
    others = first.others ++ second.others;
    none = λ s. (λ i. first.none s i ++ second.none s i);
    began = second.began ∙ (ap (λ l. l ++ second.others) first.began ∙ append_assoc old.began first.others second.others);
    from = second.from ∙ first.from;
    start = second.start ∙ first.start;
  }

  -- what came of a look at the door: none comes through a shut one
  pub joins-arrived : (old new : SeenBack D A) (came : Arrival) → (shut → came ≡ Nobody) → HasArrived came old new → Joins shut old new
  joins-arrived old new Joined wide arrived = record {
    others = arrived.0 ∷ [];
    none = λ s. absurd (let no = wide s in cc);
    began = ap (λ b. b.began) arrived.1;
    from = ap (λ b. b.from) arrived.1;
    start = ap (λ b. b.start) arrived.1;
  }
  joins-arrived old new Full wide arrived =
      joins-none old new (ap (λ b. b.began) arrived) (ap (λ b. b.from) arrived) (ap (λ b. b.start) arrived)
  joins-arrived old new Nobody wide arrived =
      joins-none old new (ap (λ b. b.began) arrived) (ap (λ b. b.from) arrived) (ap (λ b. b.start) arrived)

-- what a camera keeps that they joined, from what its two threads left
module _ {S D P G A : Type 0} (medium : D → Medium) (gives : S → Next → List ℕ → S → Type 0) (meaning : P → Plane)
    (asks : DeskCall → Type 0) (gives_up : StoreFault → Type 0) (due : G → ℕ → ℕ → Type 0) (ends : G → ℕ → Type 0)
    (shut : Type 0) where
  pub keeps-joined : {end : ℕ} (camera last : SeenCamera S D P) (device : SeenDevice S) (queue : Lined P) (desk : SeenDesk D)
      (to : Producer (Frame A) A AnyItems) (guide : G) (seen : SeenFront S P G A) (from : Consumer (Frame A) A AnyItems)
      (old new : SeenBack D A) (given_up left missed failed : ℕ) (over : Bool)
      → record { device = device; queue = queue; desk = desk; joined = [] } ≡ camera
      → seen ≡ record { queue = queue; device = device; to = to; guide = guide }
      → old ≡ record { began = desk ∷ []; from = from; start = end; desks = desk ∷ []; active = 0; end = end } → end ≡ device.next → Joins shut old new
      → ((first : SeenDesk D) (others : List (SeenDesk D)) → new.began ≡ first ∷ others → new.start ≡ seen.device.next → IsRegular meaning seen.queue
      → CameraKeeps medium gives meaning asks gives_up (due seen.guide) (ends seen.guide)
      (record { device = seen.device; queue = seen.queue; desk = first; joined = others }) last given_up left missed failed over)
      → IsRegular meaning camera.queue
      → KeepsJoined medium gives meaning asks gives_up (due guide) (ends guide) shut camera last given_up left missed failed over
  keeps-joined {end} camera last device queue desk to guide seen from old new given_up left missed failed over is made was starts joins keeps
      regular =
      let same : seen.queue ≡ camera.queue =
      ap (λ (s : SeenFront S P G A). s.queue) made ∙ ap (λ (c : SeenCamera S D P). c.queue) is in
      let began : new.began ≡ desk ∷ joins.others =
      joins.began ∙ ap (λ (b : SeenBack D A). b.began ++ joins.others) was in
      let start : new.start ≡ seen.device.next =
      joins.start ∙ (ap (λ (b : SeenBack D A). b.start) was
      ∙ (starts ∙ ap (λ (s : SeenFront S P G A). s.device.next) (sym made))) in
      record {
        others = joins.others;
        none = joins.none;
        keeps = subst (λ (c : SeenCamera S D P). CameraKeeps medium gives meaning asks gives_up (due guide) (ends guide)
            (record c { joined = c.joined ++ joins.others }) last given_up left missed failed over) is
            (subst (λ (s : SeenFront S P G A). CameraKeeps medium gives meaning asks gives_up (due s.guide) (ends s.guide)
            (record { device = s.device; queue = s.queue; desk = desk; joined = joins.others }) last given_up left missed
            failed over) made (keeps desk joins.others began start (subst (IsRegular meaning) (sym same) regular)));
      }
