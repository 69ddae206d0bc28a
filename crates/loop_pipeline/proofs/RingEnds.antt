-- A camera's front and back, on the two ends of one ring.
use Rattle.std.proofs.Common.{◌≡◌, ◌⊎◌, inl, inr, ◌++◌, ◌+◌, ℕ, Bool, true, false, List, [], ◌∷◌, drop, length, map, slice_get, refl, sym, ap, ◌∙◌, subst, arith}
use Rattle.std.proofs.lemmas.Grind.{flat_map-append}
use Rattle.std.proofs.lemmas.List.{append-nil, length-append, length-map, map-append}
use Rattle.std.specs.List.{flat_map}
use Rattle.rtrb.specs.declared.AnyItems.{AnyItems}
use Rattle.rtrb.specs.declared.consumer.Consumer.{Consumer}
use Rattle.rtrb.specs.declared.producer.Producer.{Producer}
use Rattle.rtrb.specs.Ring.{ConsumerLooked, ProducerLooked, known_items, received, sent}
use Rattle.loop_disk.specs.Medium.{Medium}
use Rattle.loop_plane.specs.Plane.{Plane}
use Rattle.loop_record.specs.declared.frame.Frame.{Frame}
use Rattle.loop_record.specs.Recording.{Picture, picture}
use Rattle.loop_vb2.specs.State.{Lined}
use Rattle.loop_capture.specs.declared.source.Next.{Next}
use Rattle.loop_capture.specs.Ticks.{SeenDevice}
use Rattle.loop_store.specs.declared.fault.StoreFault.{StoreFault}
use Rattle.loop_desk.specs.Desk.{DeskCall}
use Rattle.loop_desk.specs.Seen.{SeenDesk}
use Rattle.loop_desk.specs.Waiting.{frames_waiting, without_flags}
use Rattle.loop_desk.proofs.FootageRuns.{keeps-footage}
use Rattle.loop_pipeline.specs.Backs.{Came, IsFed, MayGiveUpAt, SeenBack, calls_at, calls_by, lost_by, picture_of, placed_calls, unasked, unasked_by}
use Rattle.loop_pipeline.specs.Cameras.{CameraKeeps}
use Rattle.loop_pipeline.proofs.Places.{some-same}
use Rattle.loop_pipeline.specs.Fronts.{FrontKeeps, SeenFront}
use Rattle.loop_pipeline.specs.DeskEvents.{Happened, desk_in}
use Rattle.loop_pipeline.specs.KeptBacks.{BackKeeps}

-- frames that nobody brought
left-pictures : (ps : List Picture) → map picture_of (map unasked ps) ≡ ps
left-pictures [] = refl
left-pictures (p ∷ ps) = ap (λ l. p ∷ l) (left-pictures ps)

left-calls : (ps : List Picture) → flat_map calls_by (map unasked ps) ≡ []
left-calls [] = refl
left-calls (p ∷ ps) = left-calls ps

left-lost : (ps : List Picture) → flat_map lost_by (map unasked ps) ≡ ps
left-lost [] = refl
left-lost (p ∷ ps) = ap (λ l. p ∷ l) (left-lost ps)

left-unasked : (ps : List Picture) → flat_map unasked_by (map unasked ps) ≡ ps
left-unasked [] = refl
left-unasked (p ∷ ps) = ap (λ l. p ∷ l) (left-unasked ps)

-- with these, all that came is what was sent
fed-all : (got : List Picture) (calls : List (ℕ × DeskCall)) (given_up : ℕ) (came : List Came) (left : List Picture)
    → IsFed got calls given_up came → IsFed (got ++ left) calls (given_up + length left) (came ++ map unasked left)
fed-all got calls given_up came left fed = record {
  whole = map-append picture_of came (map unasked left)
      ∙ ((λ i. fed.whole i ++ left-pictures left i));
  submits = flat_map-append calls_by came (map unasked left)
      ∙ (ap (λ l. flat_map calls_by came ++ l) (left-calls left)
      ∙ (append-nil (flat_map calls_by came) ∙ fed.submits));
  lost = ap length (flat_map-append lost_by came (map unasked left))
      ∙ (length-append (flat_map lost_by came) (flat_map lost_by (map unasked left))
      ∙ (λ i. fed.lost i + length (left-lost left i)));
}

module _ {S D P G A : Type 0} (medium : D → Medium) (gives : S → Next → List ℕ → S → Type 0) (m : P → Plane)
    (asks : DeskCall → Type 0) (gives_up : StoreFault → Type 0) (due : ℕ → ℕ → Type 0) (ends : ℕ → Type 0) where
  pub both : (seen : SeenFront S P G A) (back : SeenBack D A) (first desk : SeenDesk D) (others joined : List (SeenDesk D))
      (device : SeenDevice S) (queue : Lined P) (to up : Producer (Frame A) A AnyItems)
      (from down : Consumer (Frame A) A AnyItems) (given_up left missed failed : ℕ) (over refused : Bool)
      → back.began ≡ first ∷ others → back.start ≡ seen.device.next → desk ∷ joined ≡ back.desks
      → FrontKeeps gives m due ends seen device queue to missed failed over → BackKeeps medium asks gives_up back from given_up refused
      → ProducerLooked to up → ConsumerLooked from down → received down ++ known_items down ≡ sent up
      → left ≡ length (known_items down)
      → CameraKeeps medium gives m asks gives_up due ends
      (record { device = seen.device; queue = seen.queue; desk = first; joined = others })
      (record { device = device; queue = queue; desk = desk; joined = joined }) given_up left missed failed over
  both seen back first desk others joined device queue to up from down given_up left missed failed over refused was starts is front kept
      up_looked down_looked fifo count =
      let items = map picture (known_items down) in
      let fed = fed-all (map picture (received from)) (flat_map placed_calls keeps.parts) given_up keeps.came items keeps.fed in
      let all : map picture (received from) ++ items ≡ map picture (sent to) =
      ap (λ l. map picture l ++ items) (sym down_looked.1)
      ∙ (sym (map-append picture (received down) (known_items down)) ∙ ap (map picture) (fifo ∙ up_looked.1)) in
      record {
        given = front.given;
        source = front.source;
        told = front.told;
        completed = front.completed;
        shows = front.shows;
        first = front.first;
        last = front.last;
        stood = front.stood;
        stands = front.stands;
        streams = front.streams;
        came = keeps.came ++ map unasked items;
        whole = front.whole ∙ ap (λ l. map without_flags l ++ map without_flags (frames_waiting queue front.last))
            (sym (fed.whole ∙ all));
        lost = fed.lost ∙ ap (λ n. given_up + n) (length-map (known_items down) picture ∙ sym count);
        all = omega (arith, keeps.all);
        events = keeps.events;
        active = back.active;
        end = back.end;
        happened = subst (λ d. Happened medium (record { desks = d ∷ []; active = 0; end = seen.device.next }) keeps.events
            (record { desks = desk ∷ joined; active = back.active; end = back.end })) (sym only.0) keeps.happened;
        joins = sym only.1;
        parts = keeps.parts;
        are = keeps.are;
        among = keeps.among;
        submits = fed.submits;
        served = keeps.served;
        rightful = keeps.rightful;
        excused = excuse refused refl;
        footage = λ place d e first last s stands now.
            keeps-footage medium d e (calls_at place keeps.parts) s (keeps.served place d e first last).goes stands now;
      }
    where
      keeps : BackKeeps medium asks gives_up
          (record { began = first ∷ others; from = back.from; start = seen.device.next; desks = desk ∷ joined; active = back.active; end = back.end }) from given_up refused
      keeps = subst (λ b. BackKeeps medium asks gives_up b from given_up refused)
          (λ i. record { began = was i; from = back.from; start = starts i; desks = (sym is) i; active = back.active; end = back.end }) kept

      only : (first ≡ keeps.first) × (others ≡ flat_map desk_in keeps.events)
      only = (some-same first keeps.first (ap (λ l. slice_get l 0) keeps.began), ap (drop 1) keeps.began)

      none-asked : refused ≡ false → length (flat_map unasked_by (keeps.came ++ map unasked (map picture (known_items down)))) ≡ left
      none-asked on =
          let items = map picture (known_items down) in
          ap length (flat_map-append unasked_by keeps.came (map unasked items)
          ∙ (ap (λ l. l ++ flat_map unasked_by (map unasked items)) (keeps.excused on) ∙ left-unasked items))
          ∙ (length-map (known_items down) picture ∙ sym count)

      excuse : (b : Bool) → refused ≡ b
          → (length (flat_map unasked_by (keeps.came ++ map unasked (map picture (known_items down)))) ≡ left)
          ⊎ MayGiveUpAt gives_up (length (first ∷ others)) keeps.parts
      excuse true is = inr (keeps.tried is)
      excuse false is = inl (none-asked is)
