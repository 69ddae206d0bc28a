-- What goes is the oldest.
use Rattle.std.proofs.Common.{◌≡◌, ◌≢◌, ◌==◌, true, false, ◌<◌, ◌≤◌, ◌⊎◌, inl, inr, is_some, ℕ, Option, Some, None, refl, sym, ap, ◌∙◌, arith}
use Rattle.std.proofs.lemmas.Bool.Decides.{eqb_tells}
use Rattle.std.proofs.Math.Nat.{div-mul-le_self, le-div_iff_mul-le}
use Rattle.loop_record.specs.Counts.{cyclic_place}
use Rattle.loop_record.specs.Recording.{IsWellFormed, MayGo, Picture, Recording, Ring, block, frame_under, victim}
use Rattle.loop_record.proofs.Victim.{victim-is, victim-none}
use Rattle.loop_desk.specs.Space.{BeginsBlock}
use Rattle.loop_pipeline.specs.Nexts.{OldestGoes}

-- the block of a later number is no earlier
block-le : (ring : Ring) (m n : ℕ) → 1 ≤ ring.slots → m ≤ n → block ring m ≤ block ring n
block-le ring m n some order = (le-div_iff_mul-le some).1 (omega (arith, order, div-mul-le_self m ring.slots))

-- the first frame of the victim is no later than any of a block that may go
first-before : (ring : Ring) (keep : ℕ) (r : Recording) (v b m n : ℕ) (p q : Picture) → 1 ≤ ring.slots → IsWellFormed r
    → victim ring keep r ≡ Some v → MayGo ring keep r b → BeginsBlock ring r v m p → frame_under r.frames n ≡ Some q
    → block ring n ≡ b → m ≤ n
first-before ring keep r v b m n p q some w chosen may first held of = go (eqb_tells v b)
  where
    go : (((v == b) ≡ true) × (v ≡ b)) ⊎ (((v == b) ≡ false) × (v ≢ b)) → m ≤ n
    go (inl same) = first.first n (ap (λ (o : Option Picture). is_some o) held) (of ∙ sym same.1)
    go (inr apart) =
        let low : v ≤ b = ((victim-is ring keep r v some w).0 chosen).least b may in
        let never : n < m → ⊥ = λ after.
        let back : block ring n ≤ block ring m = block-le ring n m some (omega (arith, after)) in
        omega (arith, back, low, apart.1, first.of, of) in
        omega (arith, never)

at-most : (a b c : ℕ) → a ≤ b → b ≤ c → a ≤ c
at-most a b c first second = omega (arith, first, second)

pub oldest-goes : OldestGoes
oldest-goes end spaces place oldest i s there ring keep r some w rise tells b may n q held of =
    go (victim ring keep r) refl
  where
    go : (o : Option ℕ) → victim ring keep r ≡ o → cyclic_place end oldest.sequence ≤ cyclic_place end q.sequence
    go None none = absurd (victim-none ring keep r some w none b may)
    go (Some v) chosen =
        let told = tells.oldest.some v chosen in
        let late = oldest.least i s told.1.sequence there told.3 in
        let order = rise told.0 n told.1 q told.2.held held
        (first-before ring keep r v b told.0 n told.1 q some w chosen may told.2 held of) in
        at-most (cyclic_place end oldest.sequence) (cyclic_place end told.1.sequence) (cyclic_place end q.sequence) late
        order
