use Rattle.std.proofs.Common.{All, Option, List, ℕ, ◌<◌, map, set, sym, ap, ◌∙◌, subst, arith}
use Rattle.std.specs.List.{zip}
use Rattle.loop_record.specs.declared.clip.Span.{Span}
use Rattle.loop_record.specs.Recording.{ring_of}
use Rattle.loop_ring.specs.Heads.{Segments, clip_counts, with_one}
use Rattle.loop_ring.proofs.ClipCounts.{counts-few, counts-locked}
use Rattle.loop_store.proofs.index.count_clip.Goals as goal

pub lock_clip-requires-clause-few : goal.lock_clip-requires-clause-few
lock_clip-requires-clause-few g c =
    let clips = c.args.clips.now in
    subst (λ (l : List ℕ). All (λ n. n < 64) l) (sym c.requires.counted)
    (subst (λ (most : ℕ). All (λ n. n < most)
    (clip_counts (ring_of c.args.ring.now.geometry) clips c.args.table.now.heads)) c.requires.ids
    (counts-few (ring_of c.args.ring.now.geometry) clips c.args.table.now.heads c.args.id
    (omega (arith, c.requires.id, c.requires.ids)) c.requires.free))

pub returns-in-Some-clause-counted : goal.returns-in-Some-clause-counted
returns-in-Some-clause-counted g c =
    let ring = ring_of c.args.ring.now.geometry in
    let clips = c.args.clips.now in
    let heads = c.args.table.now.heads in
    ap (λ (s : Segments). s.clips) c.lock_clip.ensures ∙ ap (λ (l : List ℕ). map (λ x. with_one ring c.in-Some.span x.0 x.1) (zip heads l)) c.requires.counted
    ∙ counts-locked ring clips heads c.args.id c.in-Some.span (omega (arith, c.requires.id, c.requires.ids)) c.requires.free
    ∙ ap (λ (o : Option Span). clip_counts ring (set clips c.args.id o) heads) (sym c.in-Some.is)
