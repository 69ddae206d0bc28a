use Rattle.loop_plane.specs.Kinds.{mmap_plane}
use Rattle.loop_commands.proofs.Recordings.{are-recorded, if-ok}
use Rattle.loop_commands.proofs.cameras.record_stores.Goals as goal

pub returns-in-Ok : goal.returns-in-Ok
returns-in-Ok g c =
    let made = c.in_ok-shots.ensures in
    let filmed = c.in-Ok.ensures in
    if-ok _ _ c.takes_of.result
    (λ takes told. are-recorded _ mmap_plane c.args.frames c.args.sources.items c.args.stores.items
    c.in_ok-shots.shots.items c.in-Ok.outcomes.items takes.items made.held made.ready filmed.shots filmed.each told)
    c.takes_of.ensures.told
