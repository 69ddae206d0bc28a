use Rattle.std.proofs.Common.{◌≡◌, ◌↔◌, ℕ, List, ◌∷◌, length, sym, ◌∙◌, ap, subst}
use Rattle.loop_disk.specs.Behind.{Behind}
use Rattle.loop_disk.specs.declared.fault.Failures.{Failures}
use Rattle.loop_disk.specs.History.{unknown}
use Rattle.loop_disk.specs.Medium.{MayBe, piece}
use Rattle.loop_file.proofs.file.FileDiskDisk.read.Goals as goal

-- an image that agrees with one read more
one-more : (size : ℕ) (failures : Failures) (given : List (ℕ × List ℕ)) (at n : ℕ) (bytes image : List ℕ)
    → length bytes ≡ n → MayBe (unknown size failures ((at, bytes) ∷ given)) image
    ↔ (MayBe (unknown size failures given) image × (bytes ≡ piece at n image))
one-more size failures given at n bytes image long = (
  λ may. (record { size = may.size; agrees = may.agrees.1 }, may.agrees.0 ∙ ap (λ (k : ℕ). piece at k image) long),
  λ both. record { size = both.0.size; agrees = (both.1 ∙ ap (λ (k : ℕ). piece at k image) (sym long), both.0.agrees) },
)

pub returns-in-Ok-clause-gives : goal.returns-in-Ok-clause-gives
returns-in-Ok-clause-gives g c =
    let disk = c.args.self.now in
    let bytes = c.read_exact_at.new.buf in
    let n = length c.args.buf.now in λ image.
    subst (λ (reads : List (ℕ × List ℕ)). MayBe (unknown disk.size disk.failures reads) image
    ↔ (MayBe (unknown disk.size disk.failures disk.past.behind.reads) image × (bytes ≡ piece c.args.at n image)))
    (ap (λ (behind : Behind). behind.reads) (sym c.after-self.ensures))
    (one-more disk.size disk.failures disk.past.behind.reads c.args.at n bytes image c.read_exact_at.auto.buf)
