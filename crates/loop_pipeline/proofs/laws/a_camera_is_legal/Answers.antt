use Rattle.loop_desk.specs.Desk.{desk_after_calls}
use Rattle.loop_desk.specs.Seen.{rules_of}
use Rattle.loop_desk.proofs.Blind.{blind}
use Rattle.loop_desk.proofs.DeskModel.{answers-are}
use Rattle.loop_desk.proofs.DiskFailures.{failures-are}
use Rattle.loop_pipeline.specs.Backs.{calls_at}
use Rattle.loop_pipeline.proofs.laws.a_camera_is_legal.Goals as goal

pub returns : goal.returns
returns g c = λ given_up left missed failed over kept place d e first last.
    let goes = (kept.served place d e first last).goes in
    record {
      replays = λ s stands now.
          let told = answers-are g.D.Disk.medium _ _ (calls_at place kept.parts) s goes stands now in
          let same = blind (rules_of d) s (calls_at place kept.parts) in
          record {
            last = desk_after_calls (rules_of d) s (calls_at place kept.parts);
            closes = told.1;
            answers = same.answers told.0;
            replay = same.state;
          };
      counted = failures-are g.D.Disk.medium _ _ (calls_at place kept.parts) goes;
    }
