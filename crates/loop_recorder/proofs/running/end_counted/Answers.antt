use Rattle.std.proofs.Common.{◌≡◌, arith, length}
use Rattle.std.specs.Global.{Global}
use Rattle.loop_recorder.specs.Refused.{BreaksTie}
use Rattle.loop_recorder.proofs.Ends.{broken-counted, end-counted}
use Rattle.loop_recorder.proofs.running.end_counted.Goals as goal

pub returns-in-Ok-clause-ended : goal.returns-in-Ok-clause-ended
returns-in-Ok-clause-ended g c =
    let n = c.counted.ensures in
    let counts : length c.counted.result.given_up.items ≡ length c.args.counts.items =
    λ i. length (n.counts i).items in
    end-counted g.D.Disk.medium _ c.in-Ok.ended c.counted.result n.rest
    (omega (arith, counts, c.args.counts.ok.0, c.requires.counts, c.in-Ok.ensures.ended.counts)) c.in-Ok.ensures.ended

pub returns-in-Err-TieBroken-clause-refused : goal.returns-in-Err-TieBroken-clause-refused
returns-in-Err-TieBroken-clause-refused g c =
    let e = c.in-Err-TieBroken in
    let n = c.counted-in-Err-TieBroken.ensures in
    let counts : length c.counted-in-Err-TieBroken.result.given_up.items ≡ length c.args.counts.items =
    λ i. length (n.counts i).items in
    let refused : BreaksTie {D = g.row.D.Denot} {P = g.row.P.Denot} {A = Global} g.D.Disk.medium c.args.recorder
    c.args.passes.items e.camera e.ended = rw e.field-0-is at e.ensures.refused in
    broken-counted g.D.Disk.medium _ _ _ e.ended c.counted-in-Err-TieBroken.result n.rest
    (omega (arith, counts, c.args.counts.ok.0, c.requires.counts, refused.counts)) refused
