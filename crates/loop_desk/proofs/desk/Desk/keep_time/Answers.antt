use Rattle.loop_desk.proofs.KeepParts.{keeps-whole}
use Rattle.loop_desk.proofs.desk.Desk.keep_time.Goals as goal

pub returns-clause-whole : goal.returns-clause-whole
returns-clause-whole g c none = keeps-whole g.D.Disk.medium _ _ _ _ _ c.keep_at.ensures none
