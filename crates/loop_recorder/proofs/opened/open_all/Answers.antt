use Rattle.std.proofs.Common.{rules}
use Rattle.std.proofs.lemmas.List.Elements.{All-push}
use Rattle.loop_recorder.specs.declared.ended.EndedCamera.{EndedCamera}
use Rattle.loop_recorder.specs.Endings.{IsFaithfulCamera}
use Rattle.loop_recorder.proofs.opened.open_all.Goals as goal

pub loop-session-preserved : goal.loop-session-preserved
loop-session-preserved g c =
    let P : EndedCamera g.row.D.Denot g.row.A.Denot → Type 0 = IsFaithfulCamera g.D.Disk.medium in
    record {
      room = search rules;
      count = search rules;
      faithful = rw c.push_reserved.ensures.items
          (All-push P c.loop-session.ended.items c.into_parts.result c.loop-session.invariant.faithful
          c.into_parts.ensures.faithful);
    }
