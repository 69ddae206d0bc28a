use Rattle.std.proofs.lemmas.Result.{on_ok_weaker}
use Rattle.loop_disk.proofs.Moments.{weaker}
use Rattle.loop_store.proofs.BlockImages.{frames-held, beginning-held}
use Rattle.loop_store.proofs.grow.store_group.Goals as goal

pub returns : goal.returns
returns g c =
    let h = c.args.ring.now.geometry in
    let first = c.args.group.now.first in
    let frames = c.args.group.now.frames in record {
      moments = λ r is honest held. weaker _ _ _ _ (c.commit.ensures.moments honest)
          (λ image some. beginning-held h r c.args.segment first frames _ image held is c.requires.segment
          (c.requires.newest honest) some);
      held = λ r is honest held. on_ok_weaker c.commit.result
          (λ shows. frames-held h r c.args.segment first frames _ _ held is c.requires.segment
          (c.requires.newest honest) shows.0) (c.commit.ensures.such honest);
      such = c.commit.ensures.such;
      settled = c.commit.ensures.settled;
      fault = c.commit.ensures.fault;
      called = c.commit.ensures.called;
    }
