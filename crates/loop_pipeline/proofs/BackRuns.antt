-- What a back has done, and a call, a frame or a desk more.
use Rattle.std.proofs.Common.{◌≡◌, ◌==◌, ◌++◌, ◌<◌, ◌≤◌, ◌⊎◌, inl, inr, ne_eqb, ℕ, ◌+◌, Bool, true, false, cond, zero, suc, List, [], ◌∷◌, All, length, map, slice_get, slice_index_or, slice_set, Option, Some, None, Result, Ok, Err, refl, sym, ap, ◌∙◌, subst, arith}
use Rattle.std.proofs.lemmas.Bool.{eqb-true, eqb-false, eq-eqb}
use Rattle.std.proofs.lemmas.Grind.{flat_map-append}
use Rattle.std.proofs.lemmas.List.{append-nil, length-append, length-set, map-append}
use Rattle.std.proofs.lemmas.List.Elements.{All-append, All-cons, All-nil, Contains-append_left, Contains-push, filter-append}
use Rattle.std.proofs.lemmas.Option.{slice_get_within}
use Rattle.std.specs.List.{filter, flat_map}
use Rattle.rtrb.specs.declared.AnyItems.{AnyItems}
use Rattle.rtrb.specs.declared.consumer.Consumer.{Consumer}
use Rattle.rtrb.specs.Ring.{SameConsumer, received}
use Rattle.loop_disk.specs.Medium.{IsSound, Medium}
use Rattle.loop_record.specs.declared.frame.Frame.{Frame}
use Rattle.loop_record.specs.Recording.{Picture, picture}
use Rattle.loop_store.specs.declared.fault.StoreFault.{StoreFault}
use Rattle.loop_store.specs.Reopen.{TellsOne}
use Rattle.loop_desk.specs.declared.limits.Flushed.{Flushed}
use Rattle.loop_desk.specs.Desk.{DeskCall, flushed, submitted}
use Rattle.loop_desk.specs.Seen.{DeskGoes, SeenDesk}
use Rattle.loop_desk.proofs.CallRuns.{desk-joined, desk-none}
use Rattle.loop_pipeline.specs.Backs.{Came, EachServed, GoesBy, IsFed, IsLast, IsRightful, IsSoAt, MayGiveUp, MayGiveUpAt, Part, Served, WasRefused, asked, calls_at, calls_by, calls_of, is_placed_submit, is_submit, lost_by, own, part_for, parts_at, picture_of, placed_calls, unasked, unasked_by}
use Rattle.loop_pipeline.specs.DeskEvents.{DesksNow, Happened, IsDue, TakesFrame, desk_in, done, end_by, joined_by, part_in, turned_to}
use Rattle.loop_pipeline.specs.KeptBacks.{BackKeeps}
use Rattle.loop_pipeline.specs.Nexts.{end_past}
use Rattle.loop_pipeline.specs.Turns.{Chooses, IsBetween, TurnsTo, turned_by}
use Rattle.loop_pipeline.proofs.Happening.{events-more, events-still, happened-more, quiet-due, quiet-end}
use Rattle.loop_pipeline.proofs.Turning.{between-or-not}
use Rattle.loop_pipeline.proofs.Places.{get-joined, get-set-other, get-set-same, some-same, some-there}

plus-none : (n : ℕ) → n + 0 ≡ n
plus-none n = omega arith

-- ---- frames that came

-- a frame more, and the desk's calls of it
fed-more : (got : List Picture) (calls : List (ℕ × DeskCall)) (given_up : ℕ) (came : List Came) (x : Came)
    (more : List (ℕ × DeskCall)) → IsFed got calls given_up came → filter is_placed_submit more ≡ calls_by x
    → IsFed (got ++ picture_of x ∷ []) (calls ++ more) (given_up + length (lost_by x)) (came ++ x ∷ [])
fed-more got calls given_up came x more fed is = record {
  whole = map-append picture_of came (x ∷ []) ∙ ap (λ l. l ++ picture_of x ∷ []) fed.whole;
  submits = flat_map-append calls_by came (x ∷ []) ∙ (ap (λ l. flat_map calls_by came ++ l) (append-nil (calls_by x))
      ∙ (ap (λ l. l ++ calls_by x) fed.submits ∙ (ap (λ l. filter is_placed_submit calls ++ l) (sym is)
      ∙ sym (filter-append is_placed_submit calls more))));
  lost = ap length (flat_map-append lost_by came (x ∷ []) ∙ ap (λ l. flat_map lost_by came ++ l) (append-nil (lost_by x)))
      ∙ (length-append (flat_map lost_by came) (lost_by x) ∙ ap (λ n. n + length (lost_by x)) fed.lost);
}

-- calls that submit nothing
pub fed-beside : (got : List Picture) (calls : List (ℕ × DeskCall)) (given_up : ℕ) (came : List Came)
    (more : List (ℕ × DeskCall)) → IsFed got calls given_up came → filter is_placed_submit more ≡ []
    → IsFed got (calls ++ more) given_up came
fed-beside got calls given_up came more fed none = record {
  whole = fed.whole;
  submits = fed.submits ∙ (sym (append-nil (filter is_placed_submit calls))
      ∙ (ap (λ l. filter is_placed_submit calls ++ l) (sym none) ∙ sym (filter-append is_placed_submit calls more)));
  lost = fed.lost;
}

-- ---- parts

-- a part more, with each of its calls
pub all-more : {X : Type 0} (f : ℕ × Part → List X) (parts : List (ℕ × Part)) (part : ℕ × Part)
    → flat_map f (parts ++ part ∷ []) ≡ flat_map f parts ++ f part
all-more f parts part = flat_map-append f parts (part ∷ []) ∙ ap (λ l. flat_map f parts ++ l) (append-nil (f part))

-- a call that submits nothing
pub placed-none : (place : ℕ) (calls : List DeskCall) → filter is_submit calls ≡ []
    → filter is_placed_submit (map (λ call. (place, call)) calls) ≡ []
placed-none place [] none = refl
placed-none place (call ∷ calls) none = go (is_submit call) none (placed-none place calls)
  where
    go : (b : Bool) → cond b (call ∷ filter is_submit calls) (filter is_submit calls) ≡ []
        → (filter is_submit calls ≡ [] → filter is_placed_submit (map (λ c. (place, c)) calls) ≡ [])
        → cond b ((place, call) ∷ filter is_placed_submit (map (λ c. (place, c)) calls))
        (filter is_placed_submit (map (λ c. (place, c)) calls)) ≡ []
    go true e more = absurd (cc)
    go false e more = more e

pub by-more : {D : Type 0} (medium : D → Medium) (old mid new : SeenDesk D) (parts : List Part) (part : Part)
    → GoesBy medium old parts mid → DeskGoes medium mid new (calls_of part)
    → GoesBy medium old (parts ++ part ∷ []) new
by-more medium old mid new [] part went goes =
    (new, subst (λ d. DeskGoes medium d new (calls_of part)) went goes, refl)
by-more medium old mid new (first ∷ parts) part went goes =
    (went.0, went.1, by-more medium went.0 mid new parts part went.2 goes)

-- one desk, a part more
pub served-more : {D : Type 0} (medium : D → Medium) (old mid new : SeenDesk D) (parts : List Part) (part : Part)
    → Served medium old mid parts → DeskGoes medium mid new (calls_of part) → Served medium old new (parts ++ part ∷ [])
served-more medium old mid new parts part served goes = record {
  goes = subst (λ l. DeskGoes medium old new l)
      (sym (flat_map-append calls_of parts (part ∷ []) ∙ ap (λ l. flat_map calls_of parts ++ l) (append-nil (calls_of part))))
      (desk-joined medium old mid new (flat_map calls_of parts) (calls_of part) served.goes goes);
  went = by-more medium old mid new parts part served.went goes;
}

-- the parts of a place, and one more
pub parts-here : (place : ℕ) (parts : List (ℕ × Part)) (part : Part)
    → parts_at place (parts ++ (place, part) ∷ []) ≡ parts_at place parts ++ part ∷ []
parts-here place parts part =
    all-more (part_for place) parts (place, part)
    ∙ ap (λ b. parts_at place parts ++ cond b (part ∷ []) []) (eq-eqb place place refl)

pub parts-elsewhere : (place other : ℕ) (parts : List (ℕ × Part)) (part : Part) → (other == place) ≡ false
    → parts_at place (parts ++ (other, part) ∷ []) ≡ parts_at place parts
parts-elsewhere place other parts part apart =
    all-more (part_for place) parts (other, part)
    ∙ (ap (λ b. parts_at place parts ++ cond b (part ∷ []) []) apart ∙ append-nil (parts_at place parts))

-- no part is of a place beyond the desks
parts-none : (place : ℕ) (parts : List (ℕ × Part)) → All (λ part. part.0 < place) parts → parts_at place parts ≡ []
parts-none place [] all = refl
parts-none place (part ∷ parts) all =
    let less : part.0 < place = all zero part (omega arith) in
    let apart : (part.0 == place) ≡ false = ne_eqb part.0 place (λ e. omega (arith, e, less)) in
    ap (λ b. cond b (part.1 ∷ []) [] ++ parts_at place parts) apart
    ∙ parts-none place parts (λ k d l. all (suc k) d (omega (arith, l)))

-- the calls of a place stay, and one more part may have some of them
calls-more : (place : ℕ) (parts : List (ℕ × Part)) (part : ℕ × Part)
    → calls_at place (parts ++ part ∷ []) ≡ calls_at place parts ++ flat_map calls_of (part_for place part)
calls-more place parts part =
    ap (flat_map calls_of) (all-more (part_for place) parts part)
    ∙ flat_map-append calls_of (parts_at place parts) (part_for place part)

-- a refused flush stays one of the calls
still-refused : (gives_up : StoreFault → Type 0) (count : ℕ) (parts : List (ℕ × Part)) (part : ℕ × Part)
    → MayGiveUpAt gives_up count parts → MayGiveUpAt gives_up count (parts ++ part ∷ [])
still-refused gives_up count parts part why = record {
  place = why.place;
  among = why.among;
  refused = subst (MayGiveUp gives_up) (sym (calls-more why.place parts part)) (
    why.refused.0,
    why.refused.1,
    Contains-append_left (calls_at why.place parts) (flat_map calls_of (part_for why.place part)) (flushed (Err why.refused.0))
        why.refused.2,
  );
}

module _ {D : Type 0} (medium : D → Medium) where
  -- each desk, after a part of one of them
  each-more : (began desks : List (SeenDesk D)) (parts : List (ℕ × Part)) (place : ℕ) (old new : SeenDesk D) (part : Part)
      → EachServed medium began desks parts → slice_get desks place ≡ Some old → DeskGoes medium old new (calls_of part)
      → EachServed medium began (slice_set desks place new) (parts ++ (place, part) ∷ [])
  each-more began desks parts place old new part each at goes i d e first last = go (place == i) refl
    where
      go : (b : Bool) → (place == i) ≡ b → Served medium d e (parts_at i (parts ++ (place, part) ∷ []))
      go true here =
          let same : place ≡ i = eqb-true place i here in
          let is : e ≡ new = some-same e new
          (sym last ∙ (ap (λ n. slice_get (slice_set desks place new) n) (sym same) ∙ get-set-same desks place old new at)) in
          let served = served-more medium d old new (parts_at i parts) part
          (each i d old first (ap (λ n. slice_get desks n) (sym same) ∙ at)) goes in
          let there : parts_at i (parts ++ (place, part) ∷ []) ≡ parts_at i parts ++ part ∷ [] =
          subst (λ n. parts_at n (parts ++ (place, part) ∷ []) ≡ parts_at n parts ++ part ∷ []) same
          (parts-here place parts part) in
          subst (λ l. Served medium d e l) (sym there)
          (subst (λ x. Served medium d x (parts_at i parts ++ part ∷ [])) (sym is) served)
      go false apart =
          subst (λ l. Served medium d e l) (sym (parts-elsewhere i place parts part apart))
          (each i d e first (get-set-other desks place i new e (λ s. eqb-false place i apart (sym s)) last))

module _ {D A : Type 0} (medium : D → Medium) (asks : DeskCall → Type 0) (gives_up : StoreFault → Type 0) where
  -- a new back has one desk, and has done nothing
  pub begun : {end : ℕ} (desk : SeenDesk D) (from : Consumer (Frame A) A AnyItems) → TellsOne desk.store
      → ((medium desk.store.disk).honest → IsSound (medium desk.store.disk)) → received from ≡ []
      → BackKeeps medium asks gives_up (record { began = desk ∷ []; from = from; start = end; desks = desk ∷ []; active = 0; end = end }) from 0 false
  begun {end} desk from one sound none = record {
    ring = ((refl, refl, refl, refl), refl);
    all = refl;
    inside = omega arith;
    first = desk;
    events = [];
    happened = refl;
    began = refl;
    parts = [];
    are = refl;
    among = λ k d l. absurd (omega (arith, l));
    served = alone;
    rightful = λ k d l. absurd (omega (arith, l));
    came = [];
    fed = record { whole = sym (ap (map picture) none); submits = refl; lost = refl };
    tried = λ e. absurd (cc);
    excused = λ e. refl;
  }
    where
      alone : EachServed medium (desk ∷ []) (desk ∷ []) []
      alone zero d e first last =
          let is : d ≡ desk = some-same d desk (sym first) in
          let so : e ≡ desk = some-same e desk (sym last) in
          record {
            goes = subst (λ x. DeskGoes medium x e []) (sym is)
                (subst (λ x. DeskGoes medium desk x []) (sym so) (desk-none medium desk one sound));
            went = so ∙ sym is;
          }
      alone (suc n) d e first last = absurd (cc)

  same-ring : (a b c : Consumer (Frame A) A AnyItems) → SameConsumer a b → SameConsumer b c → SameConsumer a c
  same-ring a b c first second =
      ((second.0.0 ∙ first.0.0, second.0.1 ∙ first.0.1, second.0.2 ∙ first.0.2, second.0.3 ∙ first.0.3), second.1 ∙ first.1)

  module _ {start end : ℕ} (began desks : List (SeenDesk D)) (active : ℕ) (before from up : Consumer (Frame A) A AnyItems) (given_up : ℕ)
      (refused : Bool)
      (keeps : BackKeeps medium asks gives_up (record { began = began; from = before; start = start; desks = desks; active = active; end = end })
      from given_up refused)
    where
      abbrev pub now : DesksNow D
      now = record { desks = desks; active = active; end = end }

      -- a flush was refused
      pub was-refused : refused ≡ true
          → WasRefused medium gives_up (record { began = began; from = before; start = start; desks = desks; active = active; end = end })
      was-refused is =
          let why = keeps.tried is in
          let old = some-there began why.place why.among in
          let new = some-there desks why.place (subst (λ n. why.place < n) (sym keeps.all) why.among) in
          record {
            place = why.place;
            began = old.0;
            desk = new.0;
            was = old.1;
            is = new.1;
            parts = parts_at why.place keeps.parts;
            went = (keeps.served why.place old.0 new.0 old.1 new.1).went;
            refused = why.refused;
          }

      module _ (place : ℕ) (old new : SeenDesk D) (at : slice_get desks place ≡ Some old) where
        inside-began : place < length began
        inside-began = subst (λ n. place < n) keeps.all (slice_get_within desks place old at)

        among-more : (part : Part) → All (λ part. part.0 < length began) (keeps.parts ++ (place, part) ∷ [])
        among-more part =
            All-append (λ part. part.0 < length began) keeps.parts ((place, part) ∷ []) keeps.among
            (All-cons (λ part. part.0 < length began) (place, part) [] inside-began (All-nil (λ part. part.0 < length began)))

        rightful-more : (part : Part) → IsRightful asks part
            → All (λ part. IsRightful asks part.1) (keeps.parts ++ (place, part) ∷ [])
        rightful-more part is =
            All-append (λ part. IsRightful asks part.1) keeps.parts ((place, part) ∷ []) keeps.rightful
            (All-cons (λ part. IsRightful asks part.1) (place, part) [] is (All-nil (λ part. IsRightful asks part.1)))

        happened-part : {next : ℕ} (part : Part) → IsDue medium now place part → next ≡ end_by part end
            → DeskGoes medium old new (calls_of part)
            → Happened medium (record { desks = keeps.first ∷ []; active = 0; end = start })
            (keeps.events ++ done place part ∷ [])
            (record { desks = slice_set desks place new; active = active; end = next })
        happened-part {next} part due ends goes =
            happened-more medium (record { desks = keeps.first ∷ []; active = 0; end = start }) now
            (record { desks = slice_set desks place new; active = active; end = next }) keeps.events (done place part)
            keeps.happened (record {
              goes = record { before = old; after = new; at = at; goes = goes; same = refl };
              active = refl;
              end = ends;
              due = due;
            })

        began-still : (part : Part) → began ≡ keeps.first ∷ flat_map desk_in (keeps.events ++ done place part ∷ [])
        began-still part =
            keeps.began ∙ ap (λ l. keeps.first ∷ l) (sym (events-still desk_in keeps.events (done place part) refl))

        are-more : (part : Part)
            → keeps.parts ++ (place, part) ∷ [] ≡ flat_map part_in (keeps.events ++ done place part ∷ [])
        are-more part =
            ap (λ l. l ++ (place, part) ∷ []) keeps.are ∙ sym (events-more part_in keeps.events (done place part))

        fed-quiet : (part : Part) → filter is_submit (calls_of part) ≡ []
            → IsFed (map picture (received from)) (flat_map placed_calls (keeps.parts ++ (place, part) ∷ [])) given_up keeps.came
        fed-quiet part none =
            subst (λ l. IsFed (map picture (received from)) l given_up keeps.came)
            (sym (all-more placed_calls keeps.parts (place, part)))
            (fed-beside (map picture (received from)) (flat_map placed_calls keeps.parts) given_up keeps.came
            (placed_calls (place, part)) keeps.fed (placed-none place (calls_of part) none))

        -- a part that submits nothing
        pub called : (part : Part) → IsRightful asks part → filter is_submit (calls_of part) ≡ []
            → DeskGoes medium old new (calls_of part)
            → BackKeeps medium asks gives_up
            (record { began = began; from = before; start = start; desks = slice_set desks place new; active = active; end = end }) from given_up refused
        called part is none goes = record {
          ring = keeps.ring;
          all = length-set desks place new ∙ keeps.all;
          inside = subst (λ n. active < n) (sym (length-set desks place new)) keeps.inside;
          first = keeps.first;
          events = keeps.events ++ done place part ∷ [];
          happened = happened-part part (quiet-due medium now place part none) (quiet-end part end none) goes;
          began = began-still part;
          parts = keeps.parts ++ (place, part) ∷ [];
          are = are-more part;
          among = among-more part;
          served = each-more medium began desks keeps.parts place old new part keeps.served at goes;
          rightful = rightful-more part is;
          came = keeps.came;
          fed = fed-quiet part none;
          tried = λ e. still-refused gives_up (length began) keeps.parts (place, part) (keeps.tried e);
          excused = keeps.excused;
        }

        -- a flush that was answered
        pub flushed-on : (answer : Result Flushed StoreFault) → DeskGoes medium old new (flushed answer ∷ [])
            → BackKeeps medium asks gives_up
            (record { began = began; from = before; start = start; desks = slice_set desks place new; active = active; end = end }) from given_up refused
        flushed-on answer goes = called (own (flushed answer)) refl refl goes

        -- a flush that was refused, and isn't tried again
        pub refused-flush : (fault : StoreFault) → gives_up fault → DeskGoes medium old new (flushed (Err fault) ∷ [])
            → BackKeeps medium asks gives_up
            (record { began = began; from = before; start = start; desks = slice_set desks place new; active = active; end = end }) from given_up true
        refused-flush fault gives goes =
            let part = own (flushed (Err fault)) in record {
              ring = keeps.ring;
              all = length-set desks place new ∙ keeps.all;
              inside = subst (λ n. active < n) (sym (length-set desks place new)) keeps.inside;
              first = keeps.first;
              events = keeps.events ++ done place part ∷ [];
              happened = happened-part part (quiet-due medium now place part refl) refl goes;
              began = began-still part;
              parts = keeps.parts ++ (place, part) ∷ [];
              are = are-more part;
              among = among-more part;
              served = each-more medium began desks keeps.parts place old new part keeps.served at goes;
              rightful = rightful-more part refl;
              came = keeps.came;
              fed = fed-quiet part refl;
              tried = λ e. record {
                place = place;
                among = inside-began;
                refused = subst (MayGiveUp gives_up)
                    (sym (ap (flat_map calls_of) (parts-here place keeps.parts part)
                    ∙ flat_map-append calls_of (parts_at place keeps.parts) (part ∷ [])))
                    (fault, gives, Contains-push (calls_at place keeps.parts) (flushed (Err fault)));
              };
              excused = λ e. absurd (cc);
            }

        -- a frame came out of the ring
        came-out : (frame : Frame A) → received up ≡ received from ++ frame ∷ []
            → map picture (received up) ≡ map picture (received from) ++ picture frame ∷ []
        came-out frame got = ap (map picture) got ∙ map-append picture (received from) (frame ∷ [])

        -- and the desk was asked for it
        pub brought : (frame : Frame A) (answer : Result ℕ StoreFault) → place ≡ active
            → (2 ≤ length desks → TakesFrame medium now) → SameConsumer from up
            → received up ≡ received from ++ frame ∷ []
            → DeskGoes medium old new (submitted (picture frame) (length frame.bytes.items) answer ∷ [])
            → BackKeeps medium asks gives_up
            (record { began = began; from = before; start = start; desks = slice_set desks place new; active = active; end = end_past frame.sequence }) up
            (given_up + length (lost_by (asked place (picture frame) answer))) refused
        brought frame answer here due same got goes =
            let part = own (submitted (picture frame) (length frame.bytes.items) answer) in
            let x = asked place (picture frame) answer in record {
              ring = same-ring before from up keeps.ring same;
              all = length-set desks place new ∙ keeps.all;
              inside = subst (λ n. active < n) (sym (length-set desks place new)) keeps.inside;
              first = keeps.first;
              events = keeps.events ++ done place part ∷ [];
              happened = happened-part part (λ _. (here, due)) refl goes;
              began = began-still part;
              parts = keeps.parts ++ (place, part) ∷ [];
              are = are-more part;
              among = among-more part;
              served = each-more medium began desks keeps.parts place old new part keeps.served at goes;
              rightful = rightful-more part refl;
              came = keeps.came ++ x ∷ [];
              fed = subst (λ l. IsFed l (flat_map placed_calls (keeps.parts ++ (place, part) ∷ []))
                  (given_up + length (lost_by x)) (keeps.came ++ x ∷ []))
                  (sym (came-out frame got))
                  (subst (λ l. IsFed (map picture (received from) ++ picture frame ∷ []) l (given_up + length (lost_by x))
                  (keeps.came ++ x ∷ []))
                  (sym (all-more placed_calls keeps.parts (place, part)))
                  (fed-more (map picture (received from)) (flat_map placed_calls keeps.parts) given_up keeps.came x
                  (placed_calls (place, part)) keeps.fed refl));
              tried = λ e. still-refused gives_up (length began) keeps.parts (place, part) (keeps.tried e);
              excused = λ e. flat_map-append unasked_by keeps.came (x ∷ [])
                  ∙ (append-nil (flat_map unasked_by keeps.came) ∙ keeps.excused e);
            }

        -- and accepted it
        pub accepted : (frame : Frame A) (number : ℕ) → place ≡ active → (2 ≤ length desks → TakesFrame medium now)
            → SameConsumer from up → received up ≡ received from ++ frame ∷ []
            → DeskGoes medium old new (submitted (picture frame) (length frame.bytes.items) (Ok number) ∷ [])
            → BackKeeps medium asks gives_up
            (record { began = began; from = before; start = start; desks = slice_set desks place new; active = active; end = end_past frame.sequence }) up given_up refused
        accepted frame number here due same got goes =
            subst (λ n. BackKeeps medium asks gives_up
            (record { began = began; from = before; start = start; desks = slice_set desks place new; active = active; end = end_past frame.sequence }) up n refused)
            (plus-none given_up) (brought frame (Ok number) here due same got goes)

      -- the call that the active desk answered last
      pub last : (old new : SeenDesk D) (call : DeskCall) → slice_get desks active ≡ Some old
          → DeskGoes medium old new (call ∷ [])
          → IsLast medium began (slice_set desks active new) active call
      last old new call at goes =
          let was = some-there began active (subst (λ n. active < n) keeps.all keeps.inside) in record {
            began = was.0;
            desk = new;
            was = was.1;
            is = get-set-same desks active old new at;
            before = old;
            parts = parts_at active keeps.parts;
            went = (keeps.served active was.0 old was.1 at).went;
            goes = goes;
          }

      -- none came out of the ring
      pub nothing : SameConsumer from up → received up ≡ received from
          → BackKeeps medium asks gives_up (record { began = began; from = before; start = start; desks = desks; active = active; end = end }) up
          given_up refused
      nothing same none = record {
        ring = same-ring before from up keeps.ring same;
        all = keeps.all;
        inside = keeps.inside;
        first = keeps.first;
        events = keeps.events;
        happened = keeps.happened;
        began = keeps.began;
        parts = keeps.parts;
        are = keeps.are;
        among = keeps.among;
        served = keeps.served;
        rightful = keeps.rightful;
        came = keeps.came;
        fed = subst (λ l. IsFed (map picture l) (flat_map placed_calls keeps.parts) given_up keeps.came) (sym none) keeps.fed;
        tried = keeps.tried;
        excused = keeps.excused;
      }

      -- or it was given up unasked
      pub dropped : (frame : Frame A) → refused ≡ true → SameConsumer from up → received up ≡ received from ++ frame ∷ []
          → BackKeeps medium asks gives_up (record { began = began; from = before; start = start; desks = desks; active = active; end = end }) up
          (given_up + 1) refused
      dropped frame is same got =
          let x = unasked (picture frame) in record {
            ring = same-ring before from up keeps.ring same;
            all = keeps.all;
            inside = keeps.inside;
            first = keeps.first;
            events = keeps.events;
            happened = keeps.happened;
            began = keeps.began;
            parts = keeps.parts;
            are = keeps.are;
            among = keeps.among;
            served = keeps.served;
            rightful = keeps.rightful;
            came = keeps.came ++ x ∷ [];
            fed = subst (λ l. IsFed l (flat_map placed_calls keeps.parts) (given_up + 1) (keeps.came ++ x ∷ []))
                (sym (ap (map picture) got ∙ map-append picture (received from) (frame ∷ [])))
                (subst (λ l. IsFed (map picture (received from) ++ picture frame ∷ []) l (given_up + 1) (keeps.came ++ x ∷ []))
                (append-nil (flat_map placed_calls keeps.parts))
                (fed-more (map picture (received from)) (flat_map placed_calls keeps.parts) given_up keeps.came x [] keeps.fed refl));
            tried = keeps.tried;
            excused = λ e. absurd (let both : true ≡ false = sym is ∙ e in cc);
          }

  -- a desk more
  pub one-more : {start end : ℕ} (began desks : List (SeenDesk D)) (active : ℕ) (before from : Consumer (Frame A) A AnyItems)
      (given_up : ℕ) (refused : Bool) (desk : SeenDesk D) → TellsOne desk.store
      → ((medium desk.store.disk).honest → IsSound (medium desk.store.disk))
      → BackKeeps medium asks gives_up (record { began = began; from = before; start = start; desks = desks; active = active; end = end }) from
      given_up refused
      → BackKeeps medium asks gives_up
      (record { began = began ++ desk ∷ []; from = before; start = start; desks = desks ++ desk ∷ []; active = active; end = end }) from given_up refused
  one-more {start} {end} began desks active before from given_up refused desk one sound keeps = record {
    ring = keeps.ring;
    all = length-append desks (desk ∷ []) ∙ (ap (λ n. n + 1) keeps.all ∙ sym (length-append began (desk ∷ [])));
    inside = subst (λ n. active < n) (sym (length-append desks (desk ∷ []))) (omega (arith, keeps.inside));
    first = keeps.first;
    events = keeps.events ++ joined_by desk ∷ [];
    happened = happened-more medium (record { desks = keeps.first ∷ []; active = 0; end = start })
        (record { desks = desks; active = active; end = end })
        (record { desks = desks ++ desk ∷ []; active = active; end = end }) keeps.events (joined_by desk) keeps.happened
        refl;
    began = ap (λ l. l ++ desk ∷ []) keeps.began
        ∙ ap (λ l. keeps.first ∷ l) (sym (events-more desk_in keeps.events (joined_by desk)));
    parts = keeps.parts;
    are = keeps.are ∙ sym (events-still part_in keeps.events (joined_by desk) refl);
    among = λ k part l. subst (λ n. (slice_index_or keeps.parts k part).0 < n) (sym (length-append began (desk ∷ [])))
        (omega (arith, keeps.among k part l));
    served = λ place d e first last. go place d e (get-joined began desk d place first) (get-joined desks desk e place last);
    rightful = keeps.rightful;
    came = keeps.came;
    fed = keeps.fed;
    tried = λ e. let why = keeps.tried e in record {
      place = why.place;
      among = subst (λ n. why.place < n) (sym (length-append began (desk ∷ []))) (omega (arith, why.among));
      refused = why.refused;
    };
    excused = keeps.excused;
  }
    where
      go : (place : ℕ) (d e : SeenDesk D)
          → ((place < length began) × (slice_get began place ≡ Some d)) ⊎ ((place ≡ length began) × (d ≡ desk))
          → ((place < length desks) × (slice_get desks place ≡ Some e)) ⊎ ((place ≡ length desks) × (e ≡ desk))
          → Served medium d e (parts_at place keeps.parts)
      go place d e (inl first) (inl last) = keeps.served place d e first.1 last.1
      go place d e (inl first) (inr last) = absurd (omega (arith, first.0, last.0, keeps.all))
      go place d e (inr first) (inl last) = absurd (omega (arith, first.0, last.0, keeps.all))
      go place d e (inr first) (inr last) =
          subst (λ l. Served medium d e l)
          (sym (parts-none place keeps.parts (subst (λ n. All (λ part. part.0 < n) keeps.parts) (sym first.0) keeps.among)))
          (subst (λ x. Served medium x e []) (sym first.1) (subst (λ x. Served medium desk x []) (sym last.1)
          (record { goes = desk-none medium desk one sound; went = refl })))

  -- a turn, after which another desk may be active
  pub turned-on : {start end : ℕ} (began desks : List (SeenDesk D)) (active place : ℕ) (before from : Consumer (Frame A) A AnyItems)
      (given_up : ℕ) (refused locked : Bool) → place < length desks → IsSoAt active desks IsBetween
      → TurnsTo medium desks end active place locked
      → BackKeeps medium asks gives_up (record { began = began; from = before; start = start; desks = desks; active = active; end = end }) from
      given_up refused
      → BackKeeps medium asks gives_up (record { began = began; from = before; start = start; desks = desks; active = place; end = end }) from
      given_up refused
  turned-on {start} {end} began desks active place before from given_up refused locked inside between turns keeps =
      go turns.next turns.chosen turns.turns
    where
      go : (next : Option ℕ) → Chooses medium desks end active next → place ≡ turned_by next active
          → BackKeeps medium asks gives_up
          (record { began = began; from = before; start = start; desks = desks; active = place; end = end }) from
          given_up refused
      go None chosen is =
          subst (λ n. BackKeeps medium asks gives_up
          (record { began = began; from = before; start = start; desks = desks; active = n; end = end }) from given_up
          refused) (sym is) keeps
      go (Some other) chosen is = record {
        ring = keeps.ring;
        all = keeps.all;
        inside = inside;
        first = keeps.first;
        events = keeps.events ++ turned_to place ∷ [];
        happened = happened-more medium (record { desks = keeps.first ∷ []; active = 0; end = start })
            (record { desks = desks; active = active; end = end }) (record { desks = desks; active = place; end = end })
            keeps.events (turned_to place) keeps.happened (record {
              between = between;
              chosen = subst (λ n. Chooses medium desks end active (Some n)) (sym is) chosen;
              is = refl;
            });
        began = keeps.began ∙ ap (λ l. keeps.first ∷ l) (sym (events-still desk_in keeps.events (turned_to place) refl));
        parts = keeps.parts;
        are = keeps.are ∙ sym (events-still part_in keeps.events (turned_to place) refl);
        among = keeps.among;
        served = keeps.served;
        rightful = keeps.rightful;
        came = keeps.came;
        fed = keeps.fed;
        tried = keeps.tried;
        excused = keeps.excused;
      }

  -- as a back turns, or stays where its active desk isn't between two blocks
  pub turned-once : {start end : ℕ} (began desks : List (SeenDesk D)) (active place : ℕ) (before from : Consumer (Frame A) A AnyItems)
      (given_up : ℕ) (refused locked : Bool) → place < length desks
      → (IsSoAt active desks IsBetween → TurnsTo medium desks end active place locked)
      → ((IsSoAt active desks IsBetween → ⊥) → place ≡ active)
      → BackKeeps medium asks gives_up (record { began = began; from = before; start = start; desks = desks; active = active; end = end }) from
      given_up refused
      → BackKeeps medium asks gives_up (record { began = began; from = before; start = start; desks = desks; active = place; end = end }) from
      given_up refused
  turned-once {start} {end} began desks active place before from given_up refused locked inside turns stays keeps =
      go (between-or-not desks active keeps.inside)
    where
      go : IsSoAt active desks IsBetween ⊎ (IsSoAt active desks IsBetween → ⊥)
          → BackKeeps medium asks gives_up
          (record { began = began; from = before; start = start; desks = desks; active = place; end = end }) from
          given_up refused
      go (inl between) =
          turned-on began desks active place before from given_up refused locked inside between (turns between) keeps
      go (inr never) =
          subst (λ n. BackKeeps medium asks gives_up
          (record { began = began; from = before; start = start; desks = desks; active = n; end = end }) from given_up
          refused) (sym (stays never)) keeps
