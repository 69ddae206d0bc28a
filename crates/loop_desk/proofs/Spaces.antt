-- The first frame of the block that goes.
use Rattle.std.proofs.Common.{◌≡◌, ◌<◌, ◌≤◌, ◌*◌, ◌-◌, ◌^◌, ◌⊎◌, inl, inr, is_some, ℕ, Bool, true, false, min, Option, Some, None, refl, sym, ap, ◌∙◌, subst, arith}
use Rattle.std.specs.Prelude.{option_map}
use Rattle.std.proofs.lemmas.Bool.{cases_lt}
use Rattle.std.proofs.Math.Nat.{div-mul-le_self, le-div_iff_mul-le}
use Rattle.loop_record.specs.Recording.{IsWellFormed, Picture, Recording, Ring, block, frame_under, holds, numbers_end, victim}
use Rattle.loop_record.proofs.Victim.{victim-is}
use Rattle.loop_store.specs.Numbers.{IsLeastFrom}
use Rattle.loop_desk.specs.Space.{BeginsBlock, TellsOldest}

-- the block of a later number is no earlier
block-le : (ring : Ring) (m n : ℕ) → 1 ≤ ring.slots → m ≤ n → block ring m ≤ block ring n
block-le ring m n some order = (le-div_iff_mul-le some).1 (omega (arith, order, div-mul-le_self m ring.slots))

-- the first number of a block, as far as a word reaches
from-first : (a start : ℕ) → start ≡ min a (2 ^ 64 - 1) → (start ≤ a) × ((start ≡ a) ⊎ (start ≡ 2 ^ 64 - 1))
from-first a start is = go (cases_lt a (2 ^ 64 - 1))
  where
    go : (a < 2 ^ 64 - 1) ⊎ (2 ^ 64 - 1 ≤ a) → (start ≤ a) × ((start ≡ a) ⊎ (start ≡ 2 ^ 64 - 1))
    go (inl low) = (omega (arith, is, low), inl (omega (arith, is, low)))
    go (inr high) = (omega (arith, is, high), inr (omega (arith, is, high)))

module _ (ring : Ring) (keep : ℕ) (r : Recording) (v : ℕ) (some : 1 ≤ ring.slots) (w : IsWellFormed r)
    (chosen : victim ring keep r ≡ Some v) (among : ℕ → Bool) (are : (n : ℕ) → among n ≡ holds r n) (start : ℕ)
    (is : start ≡ min (v * ring.slots) (2 ^ 64 - 1)) where
  -- a number of the block is no less than what it begins with
  after : (n : ℕ) → block ring n ≡ v → start ≤ n
  after n of = omega (
    arith,
    (from-first (v * ring.slots) start is).0,
    div-mul-le_self n ring.slots,
    ap (λ b. b * ring.slots) of,
  )

  not-both : (n : ℕ) → among n ≡ false → holds r n ≡ true → ⊥
  not-both n none held = absurd (let both : false ≡ true = sym none ∙ (are n ∙ held) in cc)

  -- one is held
  pub one-held : IsLeastFrom among start None → ⊥
  one-held least =
      let held = ((victim-is ring keep r v some w).0 chosen).goes.held in
      not-both held.0 (least held.0 (after held.0 held.1.1)) held.1.0

  -- and the least from there on is the block's first
  pub first-held : (m : ℕ) → m < numbers_end → IsLeastFrom among start (Some m)
      → (p : Picture) × BeginsBlock ring r v m p
  first-held m low least = go (frame_under r.frames m) refl
    where
      held : (n : ℕ) × ((holds r n ≡ true) × (block ring n ≡ v))
      held = ((victim-is ring keep r v some w).0 chosen).goes.held

      no-earlier : (n : ℕ) → holds r n ≡ true → block ring n ≡ v → n < m → ⊥
      no-earlier n is-held of less = not-both n (least.1.1 n (after n of) less) is-held

      order : m ≤ held.0
      order = omega (arith, no-earlier held.0 held.1.0 held.1.1)

      from : v * ring.slots ≤ m
      from = by (from-first (v * ring.slots) start is).1
        where
          by : (start ≡ v * ring.slots) ⊎ (start ≡ 2 ^ 64 - 1) → v * ring.slots ≤ m
          by (inl same) = omega (arith, same, least.0)
          by (inr high) = absurd (omega (arith, high, least.0, low))

      of : block ring m ≡ v
      of = omega (arith, block-le ring m held.0 some order, held.1.1, (le-div_iff_mul-le some).1 from)

      go : (o : Option Picture) → frame_under r.frames m ≡ o → (p : Picture) × BeginsBlock ring r v m p
      go None none = absurd (let both : false ≡ true = sym (ap (λ (o : Option Picture). is_some o) none) ∙ (sym (are m) ∙ least.1.0) in cc)
      go (Some p) there = (
        p,
        record {
          held = there;
          of = of;
          first = λ n is-held in-block. omega (arith, no-earlier n is-held in-block);
        },
      )

same-some : (a b : ℕ) → let x : Option ℕ = Some a in let y : Option ℕ = Some b in x ≡ y → a ≡ b
same-some a b e = cc

not-none : (a : ℕ) → let x : Option ℕ = Some a in let y : Option ℕ = None in x ≡ y → ⊥
not-none a e = absurd (let both : true ≡ false = ap (λ (o : Option ℕ). is_some o) e in cc)

-- what a store tells that has found the first frame of the block that goes, and its sequence
pub tells-first : (ring : Ring) (keep : ℕ) (r : Recording) (v : ℕ) (some : 1 ≤ ring.slots) (w : IsWellFormed r)
    (chosen : victim ring keep r ≡ Some v) (among : ℕ → Bool) (are : (n : ℕ) → among n ≡ holds r n) (start : ℕ)
    (is : start ≡ min (v * ring.slots) (2 ^ 64 - 1)) (first : ℕ) (oldest : Option ℕ) → first < numbers_end
    → IsLeastFrom among start (Some first) → oldest ≡ option_map (λ p. p.sequence) (frame_under r.frames first)
    → TellsOldest ring keep r oldest
tells-first ring keep r v some w chosen among are start is first oldest low least oldest-is =
    let found = first-held ring keep r v some w chosen among are start is first low least in
    record {
      some = λ b goes.
          let same : b ≡ v = same-some b v (sym goes ∙ chosen) in (
            first,
            found.0,
            subst (λ x. BeginsBlock ring r x first found.0) (sym same) found.1,
            oldest-is ∙ ap (λ (o : Option Picture). option_map (λ p. p.sequence) o) found.1.held,
          );
      none = λ nothing. absurd (not-none v (sym chosen ∙ nothing));
    }
