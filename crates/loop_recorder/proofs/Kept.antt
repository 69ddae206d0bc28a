-- What a filming promises of a camera whose source was lent, it promises of the camera that lent it.
use Rattle.std.proofs.Common.{◌≡◌, ◌⊎◌, ◌∙◌, inl, inr, ⊎_elim, ◌&&◌, not, ℕ, Bool, true, List, [], ◌∷◌, Result, Ok, Err, None, Option, Some, ◌≤◌, All, ap, arith, length, map, refl, slice_get, subst, sym}
use Rattle.std.proofs.lemmas.List.{nil_from_length}
use Rattle.std.specs.Global.{Global}
use Rattle.std.specs.Prelude.{⊤}
use Rattle.loop_disk.specs.Medium.{Medium}
use Rattle.loop_plane.specs.Plane.{Plane}
use Rattle.loop_record.specs.declared.geometry.Geometry.{Geometry}
use Rattle.loop_store.specs.declared.fault.StoreFault.{StoreFault}
use Rattle.loop_vb2.specs.State.{Lined}
use Rattle.loop_capture.specs.declared.device.Tick.{Tick}
use Rattle.loop_capture.specs.declared.device.Tick.TheVariants.{Completed, Ended, Failed, Idle, Missed, WrongSize}
use Rattle.loop_capture.specs.declared.source.Next.{Next}
use Rattle.loop_capture.specs.Ticks.{SeenDevice, SeenRest}
use Rattle.loop_desk.specs.Desk.{DeskCall}
use Rattle.loop_desk.specs.Seen.{SeenDesk}
use Rattle.loop_pipeline.specs.declared.ending.CameraEnd.{CameraEnd}
use Rattle.loop_pipeline.specs.declared.film.Unfilmed.{Unfilmed}
use Rattle.loop_pipeline.specs.declared.film.Unfilmed.TheVariants.{NoMemory, NoThread}
use Rattle.loop_pipeline.specs.declared.several.Outcome.{Outcome}
use Rattle.loop_pipeline.specs.declared.several.Shot.{Shot}
use Rattle.loop_pipeline.specs.Cameras.{CameraKeeps, SeenCamera}
use Rattle.loop_pipeline.specs.Fronts.{GaveBy, GoesFrom, IsRegular, TickRecord, asks_source}
use Rattle.loop_pipeline.specs.Several.{IsFilmed, IsOutcome, shot_of}
use Rattle.loop_recorder.specs.declared.opened.OpenCamera.{OpenCamera}
use Rattle.loop_recorder.specs.declared.post.Post.{Post}
use Rattle.loop_recorder.specs.declared.room.Returned.{Returned}
use Rattle.loop_recorder.specs.Recordings.{AreFilmed, CameBack, CameOf, EachKept, HasKept, HasServed, IsGuided, IsRead, IsTickTime, SeenLeft, had_by, had_in, outcome_left, lender, lender_of, outcome_rest, rest_left, seen_filmed, seen_left, shot_left, shot_rest, without_source}
use Rattle.loop_recorder.proofs.Places.{all-at, made-from, makes, same-some}

module _ {B S : Type 0} (source : B → S) (gives : S → Next → List ℕ → S → Type 0) where
  -- what a lent source gives
  abbrev lent : B → Next → List ℕ → B → Type 0
  lent b answer out c = gives (source b) answer out (source c)

  gave : (first : Bool) (tick : Tick) (sequence : ℕ) (bytes : List ℕ) (d e : SeenDevice B)
      → GaveBy lent first tick sequence bytes d e
      → GaveBy gives first tick sequence bytes (lender source d) (lender source e)
  gave first Idle sequence bytes d e g = ap (lender source) g
  gave first WrongSize sequence bytes d e g = ap (lender source) g
  gave first (Completed i) sequence bytes d e g = g
  gave first (Failed i) sequence bytes d e g = g
  gave first Missed sequence bytes d e g = g
  gave first Ended sequence bytes d e g = g

  goes : (first : Bool) (d : SeenDevice B) (given : List TickRecord) (e : SeenDevice B) → GoesFrom lent first d given e
      → GoesFrom gives first (lender source d) given (lender source e)
  goes first d [] e g = ap (lender source) g
  goes first d (t ∷ given) e g = (
    lender source g.0,
    gave first t.tick t.sequence t.bytes d g.0 g.1,
    goes (first && not (asks_source t.tick)) g.0 given e g.2,
  )

  module _ {D P : Type 0} (medium : D → Medium) (meaning : P → Plane) where
    abbrev camera_of : SeenCamera B D P → SeenCamera S D P
    camera_of c = record { device = lender source c.device; queue = c.queue; desk = c.desk; joined = c.joined }

    keeps-lent : {asks : DeskCall → Type 0} {gives_up : StoreFault → Type 0} {due : ℕ → ℕ → Type 0} {ends : ℕ → Type 0}
        (old new : SeenCamera B D P) (given_up left missed failed : ℕ) (over : Bool)
        → CameraKeeps medium lent meaning asks gives_up due ends old new given_up left missed failed over
        → CameraKeeps medium gives meaning asks gives_up due ends (camera_of old) (camera_of new) given_up left missed
        failed over
    keeps-lent old new given_up left missed failed over k = record {
      given = k.given;
      source = goes true old.device k.given new.device k.source;
      told = k.told;
      completed = k.completed;
      shows = k.shows;
      first = k.first;
      last = k.last;
      stood = k.stood;
      stands = k.stands;
      streams = k.streams;
      came = k.came;
      whole = k.whole;
      lost = k.lost;
      events = k.events;
      active = k.active;
      end = k.end;
      happened = k.happened;
      joins = k.joins;
      all = k.all;
      parts = k.parts;
      are = k.are;
      among = k.among;
      submits = k.submits;
      served = k.served;
      rightful = k.rightful;
      excused = k.excused;
      footage = k.footage;
    }

    kept-lent : (frames : ℕ) (geometry : Geometry) (old : SeenCamera B D P) (rest : SeenRest) (queue : Lined P)
        (desk : SeenDesk D) (lost : ℕ) → HasKept medium lent meaning frames geometry old rest queue desk lost
        → HasKept medium gives meaning frames geometry (camera_of old) rest queue desk lost
    kept-lent frames geometry old rest queue desk lost h = record {
      device = lender source h.device;
      same = h.same;
      refused = h.refused;
      left = h.left;
      missed = h.missed;
      failed = h.failed;
      counted = h.counted;
      keeps = keeps-lent old _ h.refused h.left h.missed h.failed true h.keeps;
    }

    served-lent : (frames : ℕ) (geometry : Geometry) (old : SeenCamera B D P) (desk : SeenDesk D)
        → HasServed medium lent meaning frames geometry old desk
        → HasServed medium gives meaning frames geometry (camera_of old) desk
    served-lent frames geometry old desk h = record {
      refused = h.refused;
      left = h.left;
      missed = h.missed;
      failed = h.failed;
      over = h.over;
      keeps = keeps-lent old (record old { desk = desk }) h.refused h.left h.missed h.failed h.over h.keeps;
    }

    came-lent : (frames : ℕ) (geometry : Geometry) (old : SeenCamera B D P) (rest : SeenRest) (queue : Lined P)
        (desk : SeenDesk D) (lost : Option ℕ) → CameOf medium lent meaning frames geometry old rest queue desk lost
        → CameOf medium gives meaning frames geometry (camera_of old) rest queue desk lost
    came-lent frames geometry old rest queue desk None b = record {
      device = b.device;
      queue_is = b.queue_is;
      desk_is = ⊎_elim (λ (same : desk ≡ old.desk). inl same)
          (λ (served : IsRegular meaning old.queue → HasServed medium lent meaning frames geometry old desk).
          inr (λ regular. served-lent frames geometry old desk (served regular))) b.desk_is;
    }
    came-lent frames geometry old rest queue desk (Some lost) h =
        λ regular. kept-lent frames geometry old rest queue desk lost (h regular)

module _ {S D P G : Type 0} (medium : D → Medium) (gives : S → Next → List ℕ → S → Type 0) (meaning : P → Plane)
    (frames : ℕ) (geometry : Geometry) where
  -- of a camera that had one desk
  pub came-of : {plain : Type 0} (camera : SeenCamera S D P) (filmed : Result (CameraEnd S D P G Global) (Unfilmed S D P G))
      → IsFilmed medium gives meaning IsRead (λ fault. ⊤) plain (IsTickTime geometry) (λ n. frames ≤ n) camera filmed
      → camera.joined ≡ []
      → CameOf medium gives meaning frames geometry camera (rest_left filmed) (seen_left filmed).queue
      (seen_left filmed).desk (seen_left filmed).lost
  came-of camera (Ok e) is alone = λ regular.
      let kept : CameraKeeps medium gives meaning IsRead (λ fault. ⊤) (IsTickTime geometry) (λ n. frames ≤ n) camera
      (record { device = e.device; queue = e.queue; desk = e.desk; joined = e.joined.items })
      e.given_up e.left e.missed e.failed e.over = is.keeps regular in
      let none : e.joined.items ≡ [] = nil_from_length e.joined.items (kept.all ∙ ap length alone) in
      record {
        device = e.device;
        same = refl;
        refused = e.given_up;
        left = e.left;
        missed = e.missed;
        failed = e.failed;
        counted = omega arith;
        keeps =
            subst (λ over. CameraKeeps medium gives meaning IsRead (λ fault. ⊤) (IsTickTime geometry) (λ n. frames ≤ n)
            camera (record { device = e.device; queue = e.queue; desk = e.desk; joined = [] })
            e.given_up e.left e.missed e.failed over) is.ended
            (subst (λ joined. CameraKeeps medium gives meaning IsRead (λ fault. ⊤) (IsTickTime geometry)
            (λ n. frames ≤ n) camera (record { device = e.device; queue = e.queue; desk = e.desk; joined = joined })
            e.given_up e.left e.missed e.failed e.over) none kept);
      }
  came-of camera (Err (NoMemory c)) is alone = record {
    device = ap (λ (x : SeenCamera S D P). without_source x.device) is.refused;
    queue_is = ap (λ (x : SeenCamera S D P). x.queue) is.refused;
    desk_is = inl (ap (λ (x : SeenCamera S D P). x.desk) is.refused);
  }
  came-of camera (Err (NoThread e)) is alone = record {
    device = ap (λ (d : SeenDevice S). without_source d) is.refused.0;
    queue_is = is.refused.1;
    desk_is = inr (λ regular.
        let kept : CameraKeeps medium gives meaning IsRead (λ fault. ⊤) (IsTickTime geometry) (λ n. frames ≤ n) camera
        (record { device = e.device; queue = e.queue; desk = e.desk; joined = e.joined.items })
        e.given_up e.left e.missed e.failed e.over = is.refused.3 regular in
        let none : e.joined.items ≡ [] = nil_from_length e.joined.items (kept.all ∙ ap length alone) in
        let joined : e.joined.items ≡ camera.joined = none ∙ sym alone in
        let now : record { device = e.device; queue = e.queue; desk = e.desk; joined = e.joined.items }
        ≡ record camera { desk = e.desk } = λ i.
        record { device = is.refused.0 i; queue = is.refused.1 i; desk = e.desk; joined = joined i } in record {
          refused = e.given_up;
          left = e.left;
          missed = e.missed;
          failed = e.failed;
          over = e.over;
          keeps = subst (λ (x : SeenCamera S D P). CameraKeeps medium gives meaning IsRead (λ fault. ⊤)
              (IsTickTime geometry) (λ n. frames ≤ n) camera x e.given_up e.left e.missed e.failed e.over) now kept;
        });
  }

-- so it is of each of several
module _ {S D P W : Type 0} (medium : D → Medium) (gives : S → Next → List ℕ → S → Type 0) (meaning : P → Plane)
    (shots : List (Shot S D P (Post W))) (r : Returned D P) where
  pub are-filmed : {plain : Type 0} (outcomes : List (Outcome S D P (Post W))) → map shot_of outcomes ≡ shots
      → All (IsOutcome medium gives meaning IsRead (λ fault. ⊤) plain (λ (post : Post W) n now. IsTickTime post.geometry n now)
      (λ post n. post.frames ≤ n)) outcomes
      → r.rests.items ≡ map outcome_rest outcomes
      → map seen_filmed r.filmed.items ≡ map outcome_left outcomes → AreFilmed medium gives meaning shots r
  are-filmed {plain} outcomes same each rests left k s rest e is-s is-rest is-e alone =
      let at = made-from shot_of outcomes k s (subst (λ l. slice_get l k ≡ Some s) (sym same) is-s) in
      let o = at.0 in
      let shot = shot_of o in
      let the-rest : outcome_rest o ≡ rest =
      same-some (outcome_rest o) rest
      (sym (makes outcome_rest outcomes k o at.1) ∙ sym (ap (λ l. slice_get l k) rests) ∙ is-rest) in
      let the-left : outcome_left o ≡ seen_filmed e =
      same-some (outcome_left o) (seen_filmed e)
      (sym (makes outcome_left outcomes k o at.1) ∙ sym (ap (λ l. slice_get l k) left)
      ∙ makes seen_filmed r.filmed.items k e is-e) in
      let came : CameOf medium gives meaning shot.guide.frames shot.guide.geometry shot.camera (outcome_rest o)
      (outcome_left o).queue (outcome_left o).desk (outcome_left o).lost =
      came-of medium gives meaning shot.guide.frames shot.guide.geometry shot.camera o.filmed
      (all-at (IsOutcome medium gives meaning IsRead (λ fault. ⊤) plain
      (λ (post : Post W) n now. IsTickTime post.geometry n now) (λ post n. post.frames ≤ n)) outcomes k o each at.1)
      (subst (λ (z : Shot S D P (Post W)). z.camera.joined ≡ []) (sym at.2) alone) in
      subst (λ (z : Shot S D P (Post W)). CameOf medium gives meaning z.guide.frames z.guide.geometry z.camera rest
      e.camera.port.queue e.camera.session.desk e.given_up) at.2
      (subst (λ z. CameOf medium gives meaning shot.guide.frames shot.guide.geometry shot.camera z
      e.camera.port.queue e.camera.session.desk e.given_up) the-rest
      (subst (λ (z : SeenLeft D P). CameOf medium gives meaning shot.guide.frames shot.guide.geometry
      shot.camera (outcome_rest o) z.queue z.desk z.lost) the-left came))

  -- where none was filmed, all came back
  pub back-filmed : r.rests.items ≡ map shot_rest shots → map seen_filmed r.filmed.items ≡ map shot_left shots
      → AreFilmed medium gives meaning shots r
  back-filmed rests left k s rest e is-s is-rest is-e alone =
      let the-rest : shot_rest s ≡ rest =
      same-some (shot_rest s) rest
      (sym (makes shot_rest shots k s is-s) ∙ sym (ap (λ l. slice_get l k) rests) ∙ is-rest) in
      let the-left : shot_left s ≡ seen_filmed e =
      same-some (shot_left s) (seen_filmed e)
      (sym (makes shot_left shots k s is-s) ∙ sym (ap (λ l. slice_get l k) left)
      ∙ makes seen_filmed r.filmed.items k e is-e) in
      let back : CameBack medium gives meaning s.guide.frames s.guide.geometry s.camera (shot_rest s) s.camera.queue
      s.camera.desk = record { device = refl; queue_is = refl; desk_is = inl refl } in
      subst (λ z. CameOf medium gives meaning s.guide.frames s.guide.geometry s.camera z e.camera.port.queue
      e.camera.session.desk e.given_up) the-rest
      (subst (λ (z : SeenLeft D P). CameOf medium gives meaning s.guide.frames s.guide.geometry s.camera (shot_rest s)
      z.queue z.desk z.lost) the-left back)

-- and of each camera that lent its source
pub each-kept : {B S D P W : Type 0} (source : B → S) (gives : S → Next → List ℕ → S → Type 0) (medium : D → Medium)
    (meaning : P → Plane) (frames : ℕ) (old new : List (SeenDevice S)) (cameras : List (OpenCamera D P Global))
    (shots : List (Shot B D P (Post W))) (r : Returned D P) → map (lender_of source) shots ≡ old
    → map had_by shots ≡ map had_in cameras → All (IsGuided frames) shots → map without_source new ≡ r.rests.items
    → AreFilmed medium (lent source gives) meaning shots r
    → EachKept medium gives meaning frames old new cameras r.filmed.items
each-kept {B} {S} {D} {P} {W} source gives medium meaning frames old new cameras shots r devices held guided resumed
    filmed k d f c e is-d is-f is-c is-e =
    let at = made-from (lender_of source) shots k d (subst (λ l. slice_get l k ≡ Some d) (sym devices) is-d) in
    let s = at.0 in
    let holds : had_by s ≡ had_in c =
    same-some (had_by s) (had_in c)
    (sym (makes had_by shots k s at.1) ∙ ap (λ l. slice_get l k) held ∙ makes had_in cameras k c is-c) in
    let guide = all-at (IsGuided frames) shots k s guided at.1 in
    let rest : slice_get r.rests.items k ≡ Some (without_source f) =
    sym (ap (λ l. slice_get l k) resumed) ∙ makes without_source new k f is-f in
    let was : camera_of source gives medium meaning s.camera
    ≡ record { device = d; queue = c.port.queue; desk = c.session.desk; joined = [] } =
    λ i. record { device = at.2 i; queue = (holds i).0; desk = (holds i).1; joined = guide.alone i } in
    let geometry : s.guide.geometry ≡ c.session.desk.store.geometry =
    guide.geometry ∙ ap (λ (h : Lined P × SeenDesk D). h.1.store.geometry) holds in
    subst (λ (z : SeenCamera S D P). CameOf medium gives meaning frames c.session.desk.store.geometry z
    (without_source f) e.camera.port.queue e.camera.session.desk e.given_up) was
    (subst (λ z. CameOf medium gives meaning frames z (camera_of source gives medium meaning s.camera)
    (without_source f) e.camera.port.queue e.camera.session.desk e.given_up) geometry
    (subst (λ z. CameOf medium gives meaning z s.guide.geometry (camera_of source gives medium meaning s.camera)
    (without_source f) e.camera.port.queue e.camera.session.desk e.given_up) guide.ticks
    (came-lent source gives medium meaning s.guide.frames s.guide.geometry s.camera (without_source f)
    e.camera.port.queue e.camera.session.desk e.given_up
    (filmed k s (without_source f) e at.1 rest is-e guide.alone))))
