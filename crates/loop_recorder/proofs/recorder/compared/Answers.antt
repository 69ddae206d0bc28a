use Rattle.std.proofs.Common.{◌≡◌, ◌<◌, length, arith, refl}
use Rattle.loop_recorder.proofs.Ends.{ends-at}
use Rattle.loop_recorder.proofs.recorder.compared.Goals as goal

pub returns-in-None-clause-ended : goal.returns-in-None-clause-ended
returns-in-None-clause-ended g c =
    let outlines = c.args.outlines.now in
    let count : length c.as_slice.result.now ≡ length outlines.items =
    omega (arith, c.as_slice.ensures.len, c.requires.count, outlines.ok.0) in
    record {
      ports = rw outlines.ok.0 at c.requires.ports;
      counts = omega (arith, c.requires.counts, c.args.given_up.ok.0, outlines.ok.0);
      count = rw c.as_slice.ensures.value at count;
      each = λ k below.
          let inside : k < length c.as_slice.result.now = omega (arith, count, below) in
          ends-at g.D.Disk.medium outlines.items c.args.cameras.items c.args.passes.items k c.requires.faithful
          (rw (c.as_slice.ensures.value, c.as_slice-2.ensures.value, c.as_slice-3.ensures.value) at (c.in-None.ensures.tied k inside));
      there = rw (count, c.as_slice-3.ensures.value) at c.in-None.ensures.there;
    }

pub returns-in-Some-clause-broken : goal.returns-in-Some-clause-broken
returns-in-Some-clause-broken g c made enough =
    let outlines = c.args.outlines.now in
    record {
      same = refl;
      enough = omega (arith, enough, c.args.passes.ok.0);
      count = omega (arith, c.requires.count, c.args.cameras.ok.0, outlines.ok.0);
      faithful = c.requires.faithful;
      ports = rw outlines.ok.0 at c.requires.ports;
      counts = omega (arith, c.requires.counts, c.args.given_up.ok.0, outlines.ok.0);
      broken = rw (c.as_slice.ensures.value, c.as_slice-2.ensures.value, c.as_slice-3.ensures.value) at c.in-Some.ensures.broken;
    }
