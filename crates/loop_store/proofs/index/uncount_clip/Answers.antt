use Rattle.std.proofs.Common.{List, ℕ, map, ap, ◌∙◌, arith}
use Rattle.std.specs.List.{zip}
use Rattle.loop_record.specs.Recording.{ring_of}
use Rattle.loop_ring.specs.Heads.{Segments, without_one}
use Rattle.loop_ring.proofs.ClipCounts.{counts-unlocked}
use Rattle.loop_store.proofs.index.uncount_clip.Goals as goal

pub returns-in-Some-clause-counted : goal.returns-in-Some-clause-counted
returns-in-Some-clause-counted g c =
    let ring = ring_of c.args.ring.now.geometry in
    let clips = c.args.clips.now in
    let heads = c.args.table.now.heads in
    ap (λ (s : Segments). s.clips) c.unlock_clip.ensures
    ∙ ap (λ (l : List ℕ). map (λ x. without_one ring c.in-Some.span x.0 x.1) (zip heads l)) c.requires.counted
    ∙ counts-unlocked ring clips heads c.args.id c.in-Some.span (omega (arith, c.requires.id, c.requires.ids)) c.in-Some.is
