use Rattle.loop_y4m.proofs.PartWrites.{goes_on, stands, beginning}
use Rattle.loop_y4m.proofs.text.put.Goals as goal
use Rattle.loop_y4m.proofs.text.put.Goals.{in-Ok, in-Err}

pub returns-in-Ok-eq0 : goal.returns-in-Ok-eq0
returns-in-Ok-eq0 g c = beginning (g.W.Write.contents c.args.out.now) (g.W.Write.contents c.write.new.self)
    c.args.bytes.now _ (goes_on (g.W.Write.contents c.args.out.now) (g.W.Write.contents c.loop.out)
    (g.W.Write.contents c.write.new.self) c.args.bytes.now c.loop.rest.now c.in-Ok-eq0.field-0 c.loop.invariant
    (rw c.in-Ok-eq0.is at c.write.ensures.bytes))

pub returns-in-Err-2 : goal.returns-in-Err-2
returns-in-Err-2 g c = beginning (g.W.Write.contents c.args.out.now) (g.W.Write.contents c.write.new.self)
    c.args.bytes.now c.loop.rest.now (stands (g.W.Write.contents c.args.out.now) (g.W.Write.contents c.loop.out)
    (g.W.Write.contents c.write.new.self) c.args.bytes.now c.loop.rest.now c.loop.invariant c.in-Err-2.ensures.bytes)

pub loop-preserved : goal.loop-preserved
loop-preserved g c = elim c.match-write.branch [
  | in-Ok w ↦ rw w.rest-is (goes_on (g.W.Write.contents c.args.out.now) (g.W.Write.contents c.loop.out)
      (g.W.Write.contents c.write.new.self) c.args.bytes.now c.loop.rest.now w.in-Ok.n c.loop.invariant
      w.in-Ok.ensures.bytes)
  | in-Err w ↦ rw w.rest-is (stands (g.W.Write.contents c.args.out.now) (g.W.Write.contents c.loop.out)
      (g.W.Write.contents c.write.new.self) c.args.bytes.now c.loop.rest.now c.loop.invariant w.in-Err.ensures.bytes)
]

pub returns : goal.returns
returns g c = beginning (g.W.Write.contents c.args.out.now) (g.W.Write.contents c.loop.out) c.args.bytes.now c.loop.rest.now c.loop.invariant
