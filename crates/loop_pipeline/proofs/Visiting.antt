-- What visits do to the desks that are lent to them, and what a back keeps after a visit.
use Rattle.std.proofs.Common.{◌≡◌, ◌==◌, ◌++◌, ◌<◌, ℕ, Bool, true, false, List, [], ◌∷◌, All, length, map, slice_get, slice_index_or, slice_set, IfSome, None, Option, Some, Err, refl, sym, ap, ◌∙◌, subst}
use Rattle.std.proofs.lemmas.Bool.{eqb-true, eqb-false}
use Rattle.std.proofs.lemmas.Grind.{flat_map-append}
use Rattle.std.proofs.lemmas.List.{append-nil, append_assoc, length-set}
use Rattle.std.proofs.lemmas.List.Elements.{All-append, All-cons, All-nil, Contains-append_left, filter-append}
use Rattle.std.proofs.lemmas.Option.{slice_get_within}
use Rattle.std.specs.List.{filter, flat_map}
use Rattle.rtrb.specs.declared.AnyItems.{AnyItems}
use Rattle.rtrb.specs.declared.consumer.Consumer.{Consumer}
use Rattle.rtrb.specs.Ring.{received}
use Rattle.loop_disk.specs.Medium.{Medium}
use Rattle.loop_record.specs.declared.frame.Frame.{Frame}
use Rattle.loop_record.specs.Recording.{picture}
use Rattle.loop_store.specs.declared.fault.StoreFault.{StoreFault}
use Rattle.loop_desk.specs.Desk.{DeskCall, flushed}
use Rattle.loop_desk.specs.Seen.{DeskGoes, SeenDesk}
use Rattle.loop_pipeline.specs.Backs.{GoesBy, IsFed, IsLast, IsRightful, IsSoAt, MayGiveUp, MayGiveUpAt, Part, SeenBack, Served, calls_at, calls_of, is_placed_submit, is_submit, part_for, parts_at, placed_calls, visited}
use Rattle.loop_pipeline.specs.Desks.{AreVisited, EachWent, Lent, SeenDesks, turned}
use Rattle.loop_pipeline.specs.Turns.{IsBetween}
use Rattle.loop_pipeline.specs.DeskEvents.{desk_in, part_in}
use Rattle.loop_pipeline.specs.KeptBacks.{BackKeeps}
use Rattle.loop_pipeline.proofs.Happening.{done_by, happened-both, none-joined, parts-done, visit-happened}
use Rattle.loop_pipeline.proofs.BackRuns.{all-more, by-more, fed-beside, parts-elsewhere, parts-here, placed-none, served-more}
use Rattle.loop_pipeline.proofs.Places.{get-set-other, get-set-same, set-same, some-same, some-there}

-- each desk, after a part of one of them
went-more : {D : Type 0} (medium : D → Medium) (began desks : List (SeenDesk D)) (parts : List (ℕ × Part)) (place : ℕ)
    (old new : SeenDesk D) (part : Part) → EachWent medium began desks parts → slice_get desks place ≡ Some old
    → DeskGoes medium old new (calls_of part) → EachWent medium began (slice_set desks place new) (parts ++ (place, part) ∷ [])
went-more medium began desks parts place old new part each at goes i d e first last = go (place == i) refl
  where
    go : (b : Bool) → (place == i) ≡ b → GoesBy medium d (parts_at i (parts ++ (place, part) ∷ [])) e
    go true here =
        let same : place ≡ i = eqb-true place i here in
        let is : e ≡ new = some-same e new
        (sym last ∙ (ap (λ n. slice_get (slice_set desks place new) n) (sym same) ∙ get-set-same desks place old new at)) in
        let went = by-more medium d old new (parts_at i parts) part
        (each i d old first (ap (λ n. slice_get desks n) (sym same) ∙ at)) goes in
        let there : parts_at i (parts ++ (place, part) ∷ []) ≡ parts_at i parts ++ part ∷ [] =
        subst (λ n. parts_at n (parts ++ (place, part) ∷ []) ≡ parts_at n parts ++ part ∷ []) same
        (parts-here place parts part) in
        subst (λ l. GoesBy medium d l e) (sym there)
        (subst (λ x. GoesBy medium d (parts_at i parts ++ part ∷ []) x) (sym is) went)
    go false apart =
        subst (λ l. GoesBy medium d l e) (sym (parts-elsewhere i place parts part apart))
        (each i d e first (get-set-other desks place i new e (λ s. eqb-false place i apart (sym s)) last))

module _ {D : Type 0} (medium : D → Medium) (asks : DeskCall → Type 0) where
  -- a visit begins
  pub none-visited : {end : ℕ} (desks : List (SeenDesk D)) (active : ℕ) → active < length desks
      → AreVisited medium asks (record { lent = record { began = desks; active = active; end = end }; desks = desks })
  none-visited {end} desks active inside = record {
    all = refl;
    inside = inside;
    parts = [];
    among = All-nil (λ part. part.0 < length desks);
    went = λ place d e first last. some-same e d (sym last ∙ first);
    rightful = All-nil (λ part. IsRightful asks part.1);
    quiet = refl;
  }

  module _ (seen : SeenDesks D) (so : AreVisited medium asks seen) where
    -- another desk is active
    pub turned-on : (place : ℕ) → place < length seen.desks → AreVisited medium asks (turned place seen)
    turned-on place inside = record {
      all = so.all;
      inside = inside;
      parts = so.parts;
      among = so.among;
      went = so.went;
      rightful = so.rightful;
      quiet = so.quiet;
    }

    -- what the active desk answered last
    pub last-visited : (old new : SeenDesk D) (call : DeskCall) → slice_get seen.desks seen.lent.active ≡ Some old
        → DeskGoes medium old new (call ∷ [])
        → IsLast medium seen.lent.began (slice_set seen.desks seen.lent.active new) seen.lent.active call
    last-visited old new call at goes =
        let was = some-there seen.lent.began seen.lent.active (subst (λ n. seen.lent.active < n) so.all so.inside) in record {
          began = was.0;
          desk = new;
          was = was.1;
          is = get-set-same seen.desks seen.lent.active old new at;
          before = old;
          parts = parts_at seen.lent.active so.parts;
          went = so.went seen.lent.active was.0 old was.1 at;
          goes = goes;
        }

    module _ (place : ℕ) (old new : SeenDesk D) (at : slice_get seen.desks place ≡ Some old) where
      -- a part more
      pub visited-more : (part : Part) → IsRightful asks part → filter is_submit (calls_of part) ≡ []
          → DeskGoes medium old new (calls_of part)
          → AreVisited medium asks (record seen { desks = slice_set seen.desks place new })
      visited-more part is none goes = record {
        all = length-set seen.desks place new ∙ so.all;
        inside = subst (λ n. seen.lent.active < n) (sym (length-set seen.desks place new)) so.inside;
        parts = so.parts ++ (place, part) ∷ [];
        among = All-append (λ part. part.0 < length seen.lent.began) so.parts ((place, part) ∷ []) so.among
            (All-cons (λ part. part.0 < length seen.lent.began) (place, part) []
            (subst (λ n. place < n) so.all (slice_get_within seen.desks place old at))
            (All-nil (λ part. part.0 < length seen.lent.began)));
        went = went-more medium seen.lent.began seen.desks so.parts place old new part so.went at goes;
        rightful = All-append (λ part. IsRightful asks part.1) so.parts ((place, part) ∷ []) so.rightful
            (All-cons (λ part. IsRightful asks part.1) (place, part) [] is (All-nil (λ part. IsRightful asks part.1)));
        quiet = ap (filter is_placed_submit) (all-more placed_calls so.parts (place, part))
            ∙ (filter-append is_placed_submit (flat_map placed_calls so.parts) (placed_calls (place, part))
            ∙ (λ i. so.quiet i ++ placed-none place (calls_of part) none i));
      }

      -- one call of a visitor
      pub visited-once : (call : DeskCall) → asks call → filter is_submit (call ∷ []) ≡ []
          → DeskGoes medium old new (call ∷ [])
          → AreVisited medium asks (record seen { desks = slice_set seen.desks place new })
      visited-once call is none goes = visited-more (visited (call ∷ [])) (All-cons asks call [] is (All-nil asks)) none goes

      -- a part, unless the desk wasn't asked
      pub visited-maybe : {R : Type 0} → old ≡ slice_index_or seen.desks place old → (part : R → Part)
          → ((answer : R) → IsRightful asks (part answer)) → ((answer : R) → filter is_submit (calls_of (part answer)) ≡ [])
          → (result : Option R) → IfSome result (λ answer. DeskGoes medium old new (calls_of (part answer)))
          → (result ≡ None → new ≡ old)
          → AreVisited medium asks (record seen { desks = slice_set seen.desks place new })
      visited-maybe is part may none (Some answer) goes still = visited-more (part answer) (may answer) (none answer) goes
      visited-maybe is part may none None goes still =
          subst (λ (l : List (SeenDesk D)). AreVisited medium asks (record seen { desks = l }))
          (sym (set-same seen.desks place old new is (still refl))) so

-- ---- the end of a visit

-- one desk, and some parts more
served-by : {D : Type 0} (medium : D → Medium) (d e f : SeenDesk D) (parts more : List Part) → Served medium d e parts
    → GoesBy medium e more f → Served medium d f (parts ++ more)
served-by medium d e f parts [] served went =
    subst (λ l. Served medium d f l) (sym (append-nil parts)) (subst (λ x. Served medium d x parts) (sym went) served)
served-by medium d e f parts (part ∷ more) served went =
    subst (λ l. Served medium d f l) (append_assoc parts (part ∷ []) more)
    (served-by medium d went.0 f (parts ++ part ∷ []) more (served-more medium d e went.0 parts part served went.1) went.2)

-- a refused flush stays one of the calls
refused-still : (gives_up : StoreFault → Type 0) (count : ℕ) (parts more : List (ℕ × Part)) → MayGiveUpAt gives_up count parts
    → MayGiveUpAt gives_up count (parts ++ more)
refused-still gives_up count parts more why = record {
  place = why.place;
  among = why.among;
  refused = subst (MayGiveUp gives_up)
      (sym (ap (flat_map calls_of) (flat_map-append (part_for why.place) parts more)
      ∙ flat_map-append calls_of (parts_at why.place parts) (parts_at why.place more))) (
        why.refused.0,
        why.refused.1,
        Contains-append_left (calls_at why.place parts) (calls_at why.place more) (flushed (Err why.refused.0)) why.refused.2,
      );
}

module _ {D A : Type 0} (medium : D → Medium) (asks : DeskCall → Type 0) (gives_up : StoreFault → Type 0) where
  -- what the back kept before the visit it keeps after it
  pub kept-since : {start : ℕ} (began : List (SeenDesk D)) (before from : Consumer (Frame A) A AnyItems) (given_up : ℕ) (refused : Bool)
      (seen : SeenDesks D) → AreVisited medium asks seen
      → BackKeeps medium asks gives_up
      (record { began = began; from = before; start = start; desks = seen.lent.began; active = seen.lent.active; end = seen.lent.end }) from given_up refused
      → BackKeeps medium asks gives_up
      (record { began = began; from = before; start = start; desks = seen.desks; active = seen.lent.active; end = seen.lent.end })
      from given_up refused
  kept-since {start} began before from given_up refused seen so keeps = record {
    ring = keeps.ring;
    all = so.all ∙ keeps.all;
    inside = so.inside;
    first = keeps.first;
    events = keeps.events ++ map done_by so.parts;
    happened = happened-both medium (record { desks = keeps.first ∷ []; active = 0; end = start })
        (record { desks = seen.lent.began; active = seen.lent.active; end = seen.lent.end })
        (record { desks = seen.desks; active = seen.lent.active; end = seen.lent.end }) keeps.events
        (map done_by so.parts) keeps.happened
        (visit-happened medium seen.lent.active seen.lent.end seen.lent.began seen.desks so.parts so.all so.among
        so.went so.quiet);
    began = keeps.began ∙ ap (λ l. keeps.first ∷ l) (sym (flat_map-append desk_in keeps.events (map done_by so.parts)
        ∙ (ap (λ l. flat_map desk_in keeps.events ++ l) (none-joined D so.parts)
        ∙ append-nil (flat_map desk_in keeps.events))));
    parts = keeps.parts ++ so.parts;
    are = (λ i. keeps.are i ++ sym (parts-done D so.parts) i)
        ∙ sym (flat_map-append part_in keeps.events (map done_by so.parts));
    among = All-append (λ part. part.0 < length began) keeps.parts so.parts keeps.among
        (subst (λ n. All (λ part. part.0 < n) so.parts) keeps.all so.among);
    served = λ place d f first last.
        let mid = some-there seen.lent.began place (subst (λ n. place < n) so.all (slice_get_within seen.desks place f last)) in
        subst (λ l. Served medium d f l) (sym (flat_map-append (part_for place) keeps.parts so.parts))
        (served-by medium d mid.0 f (parts_at place keeps.parts) (parts_at place so.parts)
        (keeps.served place d mid.0 first mid.1) (so.went place mid.0 f mid.1 last));
    rightful = All-append (λ part. IsRightful asks part.1) keeps.parts so.parts keeps.rightful so.rightful;
    came = keeps.came;
    fed = subst (λ l. IsFed (map picture (received from)) l given_up keeps.came)
        (sym (flat_map-append placed_calls keeps.parts so.parts))
        (fed-beside (map picture (received from)) (flat_map placed_calls keeps.parts) given_up keeps.came
        (flat_map placed_calls so.parts) keeps.fed so.quiet);
    tried = λ e. refused-still gives_up (length began) keeps.parts so.parts (keeps.tried e);
    excused = keeps.excused;
  }

  -- so it is of the desks that were lent
  pub kept-lent : {start end : ℕ} (began desks : List (SeenDesk D)) (active : ℕ) (before from : Consumer (Frame A) A AnyItems) (given_up : ℕ)
      (refused : Bool) (seen : SeenDesks D) → seen.lent ≡ record { began = desks; active = active; end = end }
      → AreVisited medium asks seen
      → BackKeeps medium asks gives_up (record { began = began; from = before; start = start; desks = desks; active = active; end = end }) from
      given_up refused
      → BackKeeps medium asks gives_up
      (record { began = began; from = before; start = start; desks = seen.desks; active = seen.lent.active; end = seen.lent.end })
      from given_up refused
  kept-lent {start} {end} began desks active before from given_up refused seen lent so keeps =
      kept-since began before from given_up refused seen so
      (subst (λ (l : Lent D). BackKeeps medium asks gives_up
      (record { began = began; from = before; start = start; desks = l.began; active = l.active; end = l.end }) from given_up refused) (sym lent) keeps)

  -- what it keeps of desks, of the active one's place and of the end it keeps of those that are seen
  pub kept-as : {start end : ℕ} (began desks : List (SeenDesk D)) (active : ℕ) (before from : Consumer (Frame A) A AnyItems) (given_up : ℕ)
      (refused : Bool) (seen : SeenDesks D) → seen.desks ≡ desks → seen.lent.active ≡ active → seen.lent.end ≡ end
      → BackKeeps medium asks gives_up (record { began = began; from = before; start = start; desks = desks; active = active; end = end }) from
      given_up refused
      → BackKeeps medium asks gives_up
      (record { began = began; from = before; start = start; desks = seen.desks; active = seen.lent.active; end = seen.lent.end })
      from given_up refused
  kept-as {start} {end} began desks active before from given_up refused seen is same still keeps =
      subst (λ (b : SeenBack D A). BackKeeps medium asks gives_up b from given_up refused)
      (λ i. record {
        began = began;
        from = before;
        start = start;
        desks = (sym is) i;
        active = (sym same) i;
        end = (sym still) i;
      }) keeps

-- and so the last call
pub last-as : {D : Type 0} (medium : D → Medium) (began desks : List (SeenDesk D)) (active : ℕ) (call : DeskCall)
    (seen : SeenDesks D) → seen.desks ≡ desks → seen.lent.active ≡ active → IsLast medium began desks active call
    → IsLast medium began seen.desks seen.lent.active call
last-as medium began desks active call seen is same last =
    subst (λ l. IsLast medium began l seen.lent.active call) (sym is)
    (subst (λ n. IsLast medium began desks n call) (sym same) last)

-- nothing but its desks changed
pub back-but-desks : {D A : Type 0} (inside old : SeenBack D A) (desks : List (SeenDesk D)) (active end : ℕ)
    → inside ≡ old → active ≡ inside.active → end ≡ inside.end
    → record inside { desks = desks; active = active; end = end } ≡ record old { desks = desks }
back-but-desks {D} {A} inside old desks active end is same still =
    (λ i. record inside { desks = desks; active = same i; end = still i })
    ∙ ap (λ (b : SeenBack D A). record b { desks = desks }) is

-- nothing but the place of the active one
pub back-but-active : {D A : Type 0} (inside old : SeenBack D A) (desks : List (SeenDesk D)) (active end : ℕ)
    → inside ≡ old → desks ≡ inside.desks → end ≡ inside.end
    → record inside { desks = desks; active = active; end = end } ≡ record old { active = active }
back-but-active {D} {A} inside old desks active end is same still =
    (λ i. record inside { desks = same i; active = active; end = still i })
    ∙ ap (λ (b : SeenBack D A). record b { active = active }) is

-- where the active one isn't between two blocks, nothing changes
pub back-stays : {D A : Type 0} (inside old : SeenBack D A) (desks : List (SeenDesk D)) (active end : ℕ) (locked : Bool)
    → inside ≡ old
    → ((IsSoAt inside.active inside.desks IsBetween → ⊥)
    → (desks ≡ inside.desks) × (active ≡ inside.active) × (end ≡ inside.end) × (locked ≡ false))
    → (IsSoAt old.active old.desks IsBetween → ⊥)
    → (record inside { desks = desks; active = active; end = end } ≡ old) × (locked ≡ false)
back-stays {D} {A} inside old desks active end locked is stays never =
    let so = stays (subst (λ (b : SeenBack D A). IsSoAt b.active b.desks IsBetween → ⊥) (sym is) never) in
    ((λ i. record inside { desks = so.0 i; active = so.1 i; end = so.2 i }) ∙ is, so.3)
