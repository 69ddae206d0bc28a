use Rattle.std.proofs.Common.{◌≤◌, ◌+◌, length, arith}
use Rattle.loop_disk.proofs.Moments.{read_present}
use Rattle.loop_disk.proofs.TornWrites.{read_and_written}
use Rattle.loop_disk.proofs.once.rewrite_chunk.Goals as goal

pub returns-clause-disk : goal.returns-clause-disk
returns-clause-disk g c = λ honest.
    let sound = g.met.D.Disk.sound c.args.disk.now honest in
    let fits : c.args.at + length c.args.chunk.now ≤ length (g.D.Disk.medium c.args.disk.now).bytes = omega (arith, c.requires, sound.length_is) in
    read_and_written c.args.at (length c.args.chunk.now) c.read.new.buf (g.D.Disk.medium c.args.disk.now)
    (g.D.Disk.medium c.read.new.self) (g.D.Disk.medium c.write_at.new.self) c.write_at.result fits
    (read_present _ _ (g.met.D.Disk.sound c.read.new.self (c.in_ok-read.ensures.called.honest.0 honest))
    (c.in_ok-read.ensures.disk honest) c.in_ok-read.ensures.gives) (c.in_ok-read.ensures.disk honest)
    (c.write_at.ensures.disk (c.in_ok-read.ensures.called.honest.0 honest))
