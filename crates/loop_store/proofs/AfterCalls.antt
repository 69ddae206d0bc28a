-- What a disk's images hold after a call, and a store after one that failed.
use Rattle.std.proofs.Common.{◌++◌, ℕ, refl, List, length, sym, ap, subst, arith}
use Rattle.std.proofs.lemmas.List.{length-append, take_at}
use Rattle.loop_disk.specs.Medium.{Medium}
use Rattle.loop_record.specs.declared.geometry.Geometry.{Geometry}
use Rattle.loop_record.specs.Reading.{Holds}
use Rattle.loop_record.specs.Recording.{Recording, Step, plain, ring_of}
use Rattle.loop_record.proofs.TestFacts.{clash}
use Rattle.loop_store.specs.Steps.{HoldsFrom}
use Rattle.loop_store.specs.Seen.{HasFailed, Seen, StandsFor, Tells}

-- all of some steps, with none after them
pub holds-all : (g : Geometry) (r : Recording) (steps more : List Step) (image : List ℕ)
    → Holds g (plain (ring_of g) r steps) image → HoldsFrom g r (length steps) (steps ++ more) image
holds-all g r steps more image held = record {
  count = length steps;
  enough = omega arith;
  few = omega (arith, length-append steps more);
  held = subst (λ (l : List Step). Holds g (plain (ring_of g) r l) image) (sym (take_at steps more (length steps) refl)) held;
}

-- a store after a failed call reports what it reported, and stands for what it stood for
pub failed-told : {D : Type 0} (old new : Seen D) (r : Recording) → HasFailed old new → Tells old r → Tells new r
failed-told {D} old new r failed told =
    subst (λ (s : Seen D). Tells s r) (sym failed)
    (record {
      formed = told.formed;
      next_is = told.next_is;
      numbers_are = told.numbers_are;
      count_is =
          told.count_is;
      stamps_are = told.stamps_are;
      clips_are = told.clips_are;
    })

pub failed-stands : {D : Type 0} (medium : D → Medium) (old new : Seen D) (r : Recording) → HasFailed old new
    → StandsFor medium old r → StandsFor medium new r
failed-stands {D} medium old new r failed stands = record {
  told = failed-told old new r failed stands.told;
  settled = λ fine now. absurd (clash new.must_reopen (ap (λ (s : Seen D). s.must_reopen) failed) fine);
  held = λ fine now. absurd (clash new.must_reopen (ap (λ (s : Seen D). s.must_reopen) failed) fine);
  version_is = λ fine now. absurd (clash new.must_reopen (ap (λ (s : Seen D). s.must_reopen) failed) fine);
}
