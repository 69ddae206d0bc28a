use Rattle.std.proofs.Common.{refl}
use Rattle.loop_pipeline.proofs.start.start_queue.Goals as goal

-- the last call is STREAMON
pub returns-clause-streams : goal.returns-clause-streams
returns-clause-streams g c = c.ask-2.ensures.streams c.args.start.buf_type refl
