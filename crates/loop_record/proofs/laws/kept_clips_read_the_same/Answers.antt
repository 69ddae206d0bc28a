use Rattle.loop_record.proofs.UpgradeImages.{reading-kept}
use Rattle.loop_record.proofs.laws.kept_clips_read_the_same.Goals as goal

pub returns : goal.returns
returns c = reading-kept
