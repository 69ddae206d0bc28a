-- Each tick of a device that goes on has the next count.
use Rattle.std.proofs.Common.{◌≡◌, ◌≢◌, ◌⊎◌, inl, inr, ℕ, ◌+◌, ◌%◌, ◌^◌, ◌&&◌, Bool, true, false, not, List, [], ◌∷◌, refl, sym, ap, subst, ◌∙◌}
use Rattle.std.proofs.Math.Nat.{mod-add-mod}
use Rattle.loop_capture.specs.declared.device.Tick.{Tick}
use Rattle.loop_capture.specs.declared.device.Tick.TheVariants.{Idle, Completed, Failed, Missed, Ended, WrongSize}
use Rattle.loop_capture.specs.declared.source.Next.{Next}
use Rattle.loop_capture.specs.declared.source.Next.TheVariants.{More, End, Bad}
use Rattle.loop_capture.specs.Ticks.{SeenDevice, sequence_after}
use Rattle.loop_pipeline.specs.Fronts.{GaveBy, GoesFrom, TickRecord, asks_source}
use Rattle.loop_pipeline.specs.TickCounts.{CountsTick, CountsTicks}

-- the sequence of a device that goes on
its-next : (first : Bool) (sequence next : ℕ) (goes_on : Bool)
    → (sequence ≡ next) ⊎ (first ≡ true) × (sequence ≡ 0) × (goes_on ≡ false) → goes_on ≡ true → sequence ≡ next
its-next first sequence next goes_on (inl same) on = same
its-next first sequence next goes_on (inr none) on = absurd (let no : true ≡ false = sym on ∙ none.2 in cc)

one-more : (sequence count : ℕ) → sequence ≡ count % 2 ^ 32 → (sequence + 1) % 2 ^ 32 ≡ (count + 1) % 2 ^ 32
one-more sequence count is = ap (λ n. (n + 1) % 2 ^ 32) is ∙ mod-add-mod count (2 ^ 32) 1

asked : (answer : Next) (sequence : ℕ) → answer ≢ End → sequence_after answer sequence ≡ (sequence + 1) % 2 ^ 32
asked End sequence never = absurd (never refl)
asked More sequence never = refl
asked Bad sequence never = refl

module _ {S : Type 0} (gives : S → Next → List ℕ → S → Type 0) where
  -- what a tick leaves of the count
  abbrev Counts : Tick → ℕ → SeenDevice S → ℕ → Type 0
  Counts tick sequence e count =
      (next : ℕ) × CountsTick tick sequence count next × (e.next ≡ next % 2 ^ 32) × (e.goes_on ≡ true)

  counts-tick : (first : Bool) (tick : Tick) (sequence : ℕ) (bytes : List ℕ) (d e : SeenDevice S) (count : ℕ)
      → GaveBy gives first tick sequence bytes d e → d.goes_on ≡ true → d.next ≡ count % 2 ^ 32
      → Counts tick sequence e count
  counts-tick first Idle sequence bytes d e count h on is =
      (count, refl, ap (λ (x : SeenDevice S). x.next) h ∙ is, ap (λ (x : SeenDevice S). x.goes_on) h ∙ on)
  counts-tick first WrongSize sequence bytes d e count h on is =
      (count, refl, ap (λ (x : SeenDevice S). x.next) h ∙ is, ap (λ (x : SeenDevice S). x.goes_on) h ∙ on)
  counts-tick first (Completed i) sequence bytes d e count h on is =
      let here : sequence ≡ count % 2 ^ 32 = its-next first sequence d.next d.goes_on h.5 on ∙ is in (
        count + 1,
        (here, refl),
        h.6 ∙ ap (λ (a : Next). sequence_after a sequence) h.1 ∙ one-more sequence count here,
        h.4 ∙ on,
      )
  counts-tick first (Failed i) sequence bytes d e count h on is =
      let here : sequence ≡ count % 2 ^ 32 = its-next first sequence d.next d.goes_on h.5 on ∙ is in (
        count + 1,
        (here, refl),
        h.6 ∙ ap (λ (a : Next). sequence_after a sequence) h.1 ∙ one-more sequence count here,
        h.4 ∙ on,
      )
  counts-tick first Missed sequence bytes d e count h on is =
      let here : sequence ≡ count % 2 ^ 32 = its-next first sequence d.next d.goes_on h.5 on ∙ is in (
        count + 1,
        (here, refl),
        h.6 ∙ asked h.0 sequence h.1 ∙ one-more sequence count here,
        h.4 ∙ on,
      )
  counts-tick first Ended sequence bytes d e count h on is =
      let here : sequence ≡ count % 2 ^ 32 = its-next first sequence d.next d.goes_on h.5 on ∙ is in
      (count, refl, h.6 ∙ ap (λ (a : Next). sequence_after a sequence) h.1 ∙ here, h.4 ∙ on)

  pub counts-ticks : (first : Bool) (d e : SeenDevice S) (given : List TickRecord) (count : ℕ)
      → GoesFrom gives first d given e
      → d.goes_on ≡ true → d.next ≡ count % 2 ^ 32
      → (end : ℕ) × CountsTicks count given end × (e.next ≡ end % 2 ^ 32)
  counts-ticks first d e [] count went on is = (count, refl, ap (λ (x : SeenDevice S). x.next) went ∙ is)
  counts-ticks first d e (g ∷ gs) count went on is =
      let here = counts-tick first g.tick g.sequence g.bytes d went.0 count went.1 on is in
      let rest = counts-ticks (first && not (asks_source g.tick)) went.0 e gs here.0 went.2 here.3 here.2 in
      (rest.0, (here.0, here.1, rest.1), rest.2)

  -- ---- from the first tick that asks the source on

  -- what a tick leaves of the count, by its own sequence
  counted : (first : Bool) (tick : Tick) (sequence : ℕ) (bytes : List ℕ) (d e : SeenDevice S) (count : ℕ)
      → GaveBy gives first tick sequence bytes d e → (asks_source tick ≡ true → sequence ≡ count % 2 ^ 32)
      → (asks_source tick ≡ false → d.next ≡ count % 2 ^ 32)
      → (next : ℕ) × CountsTick tick sequence count next × (e.next ≡ next % 2 ^ 32)
  counted first Idle sequence bytes d e count h asks quiet =
      (count, refl, ap (λ (x : SeenDevice S). x.next) h ∙ quiet refl)
  counted first WrongSize sequence bytes d e count h asks quiet =
      (count, refl, ap (λ (x : SeenDevice S). x.next) h ∙ quiet refl)
  counted first (Completed i) sequence bytes d e count h asks quiet = (
    count + 1,
    (asks refl, refl),
    h.6 ∙ ap (λ (a : Next). sequence_after a sequence) h.1 ∙ one-more sequence count (asks refl),
  )
  counted first (Failed i) sequence bytes d e count h asks quiet = (
    count + 1,
    (asks refl, refl),
    h.6 ∙ ap (λ (a : Next). sequence_after a sequence) h.1 ∙ one-more sequence count (asks refl),
  )
  counted first Missed sequence bytes d e count h asks quiet =
      (count + 1, (asks refl, refl), h.6 ∙ asked h.0 sequence h.1 ∙ one-more sequence count (asks refl))
  counted first Ended sequence bytes d e count h asks quiet =
      (count, refl, h.6 ∙ ap (λ (a : Next). sequence_after a sequence) h.1 ∙ asks refl)

  later : (sequence next : ℕ) (goes_on : Bool)
      → (sequence ≡ next) ⊎ (false ≡ true) × (sequence ≡ 0) × (goes_on ≡ false) → sequence ≡ next
  later sequence next goes_on (inl same) = same
  later sequence next goes_on (inr none) = absurd (let no : false ≡ true = none.0 in cc)

  -- a tick that isn't the first after a start has the next one
  has-next : (tick : Tick) (sequence : ℕ) (bytes : List ℕ) (d e : SeenDevice S)
      → GaveBy gives false tick sequence bytes d e → asks_source tick ≡ true → sequence ≡ d.next
  has-next Idle sequence bytes d e h asks = absurd (cc)
  has-next WrongSize sequence bytes d e h asks = absurd (cc)
  has-next (Completed i) sequence bytes d e h asks = later sequence d.next d.goes_on h.5
  has-next (Failed i) sequence bytes d e h asks = later sequence d.next d.goes_on h.5
  has-next Missed sequence bytes d e h asks = later sequence d.next d.goes_on h.5
  has-next Ended sequence bytes d e h asks = later sequence d.next d.goes_on h.5

  counts-later : (d e : SeenDevice S) (given : List TickRecord) (count : ℕ) → GoesFrom gives false d given e
      → d.next ≡ count % 2 ^ 32 → (end : ℕ) × CountsTicks count given end
  counts-later d e [] count went is = (count, refl)
  counts-later d e (g ∷ gs) count went is =
      let here = counted false g.tick g.sequence g.bytes d went.0 count went.1
      (λ asks. has-next g.tick g.sequence g.bytes d went.0 went.1 asks ∙ is) (λ quiet. is) in
      let rest = counts-later went.0 e gs here.0 went.2 here.2 in
      (rest.0, (here.0, here.1, rest.1))

  pub counts-first : (d e : SeenDevice S) (g : TickRecord) (given : List TickRecord) (count : ℕ)
      → asks_source g.tick ≡ true → GoesFrom gives true d (g ∷ given) e → g.sequence ≡ count % 2 ^ 32
      → (end : ℕ) × CountsTicks count (g ∷ given) end
  counts-first d e g given count asks went is =
      let here = counted true g.tick g.sequence g.bytes d went.0 count went.1 (λ a. is)
      (λ quiet. absurd (let both : true ≡ false = sym asks ∙ quiet in cc)) in
      let strict : GoesFrom gives false went.0 given e =
      subst (λ (t : Bool). GoesFrom gives (true && not t) went.0 given e) asks went.2 in
      let rest = counts-later went.0 e given here.0 strict here.2 in
      (rest.0, (here.0, here.1, rest.1))
