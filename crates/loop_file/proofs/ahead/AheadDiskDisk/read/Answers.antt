use Rattle.std.proofs.Common.{◌≡◌, ◌≤◌, ◌+◌, ◌-◌, ◌++◌, ℕ, List, OnOk, length, take, drop, subst, sym, ap, arith}
use Rattle.std.proofs.lemmas.Result.{on_ok_weaker}
use Rattle.loop_disk.specs.Medium.{MayBe, piece}
use Rattle.loop_file.proofs.Copies.{read_on}
use Rattle.loop_file.proofs.ahead.AheadDiskDisk.read.Given.{Over}
use Rattle.loop_file.proofs.ahead.AheadDiskDisk.read.Goals as goal

-- what the buffer gets is what an image has there that agrees with what was read
got : (g : Over) (c : goal.After-note g) (image : List ℕ) → MayBe (g.D.Disk.medium c.read_by-outcome.new.disk) image
    → OnOk c.note.result (take c.give-known.result c.give-known.new.buf ++ (c.read_by-outcome.new.buf
    ++ drop (length c.give-known.new.buf - c.give-known.result) (drop c.give-known.result c.give-known.new.buf))
    ≡ piece c.args.at (length c.args.buf.now) image)
got g c image may =
    let buf = c.give-known.new.buf in
    let rest = c.read_by-outcome.new.buf in
    let n = length c.args.buf.now in
    let k = c.give-known.result in
    let before = c.read_by-outcome.ensures.reads.gives image may in
    let long : length buf ≡ n = omega (arith, c.give-known.auto.buf) in
    let fits : c.args.at + n ≤ length image = omega (arith, c.requires, ap (λ v. (g.D.Disk.medium v.disk).size) c.self.view_is, before.size) in
    subst (λ r. OnOk r (take k buf ++ (rest ++ drop (length buf - k) (drop k buf)) ≡ piece c.args.at n image)) (sym c.note.ensures.same)
    (on_ok_weaker c.read_by-outcome.result
    (read_on c.args.at k n image buf rest c.give-known.ensures.few long fits (c.give-known.ensures.bytes image (c.self.invariant.same image before)))
    (c.read_by-outcome.ensures.read image may))

pub returns-clause-gives : goal.returns-clause-gives
returns-clause-gives g c = λ image may.
    let beneath : MayBe (g.D.Disk.medium c.read_by-outcome.new.disk) image = record { size = may.size; agrees = may.agrees } in
    let before = c.read_by-outcome.ensures.reads.gives image beneath in (
      subst (λ v. MayBe (record (g.D.Disk.medium v.disk) { failures = v.failures }) image) c.self.view_is
          (record { size = before.size; agrees = before.agrees }),
      got g c image beneath,
    )
