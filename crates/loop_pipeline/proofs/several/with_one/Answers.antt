use Rattle.std.proofs.Common.{◌≡◌, ◌∷◌, [], false, map, sym}
use Rattle.std.proofs.lemmas.List.{append-nil, map-append}
use Rattle.std.proofs.lemmas.List.Elements.{All-push}
use Rattle.loop_pipeline.specs.declared.several.Outcome.{Outcome}
use Rattle.loop_pipeline.specs.Several.{IsOutcome, shot_of}
use Rattle.loop_pipeline.proofs.several.with_one.Goals as goal

pub returns-in-Some-clause-each : goal.returns-in-Some-clause-each
returns-in-Some-clause-each g c =
    let P : Outcome g.row.S.Denot g.row.D.Denot g.row.P.Denot g.row.G.Denot → Type 0 = IsOutcome g.D.Disk.medium g.S.FrameSource.next_gives g.P.PlaneMemory.plane
    g.G.Visits.asks g.G.Visits.gives_up (g.G.Noting.NOTED ≡ false) g.G.Guide.due g.G.Guide.ends in
    rw c.push_reserved.ensures.items
    (All-push P c.args.outcomes.items c.in-Some.outcome c.requires.each (rw c.in-Some.is at c.requires.came))

pub returns-in-None-clause-shots : goal.returns-in-None-clause-shots
returns-in-None-clause-shots g c = rw c.in-None.is (sym (append-nil (map shot_of c.args.outcomes.items)))

pub returns-in-Some-clause-shots : goal.returns-in-Some-clause-shots
returns-in-Some-clause-shots g c =
    rw (c.push_reserved.ensures.items, c.in-Some.is) (map-append shot_of c.args.outcomes.items (c.in-Some.outcome ∷ []))
