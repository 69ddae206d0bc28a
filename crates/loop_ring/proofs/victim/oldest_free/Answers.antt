use Rattle.std.proofs.Common.{sym, get_or, arith, ◌∙◌}
use Rattle.std.proofs.lemmas.List.{get_or_default}
use Rattle.loop_record.specs.declared.image.Found.{Found}
use Rattle.loop_ring.proofs.IndexOrder.{there-entry}
use Rattle.loop_ring.proofs.Oldest.{free-picked, is_free_at, least-first, least-none, none-more}
use Rattle.loop_ring.proofs.victim.oldest_free.Goals as goal

abbrev nothing : Found
nothing = record { segment = 0; block = 0; frames = 0 }

pub bounds-heads-segment : goal.bounds-heads-segment
bounds-heads-segment c = (there-entry c.args.heads.now c.args.entries.now _ c.loop-entry.entry-index nothing c.requires.order c.loop-entry-test.true).within

pub returns-then-is_free : goal.returns-then-is_free
returns-then-is_free c =
    let entries = c.args.entries.now in
    let i = c.loop-entry.entry-index in
    least-first c.args.heads.now (is_free_at c.args.floor c.args.heads.now c.args.clips.now) _ entries _ i
    (get_or entries i nothing) c.requires.order
    (free-picked c.args.floor c.args.heads.now c.args.clips.now c.requires.counted) c.loop-entry-test.true
    (λ d. get_or_default entries i d nothing c.loop-entry-test.true) (sym c.is_free.ensures ∙ c.if-is_free.true) c.loop-entry.invariant

pub loop-entry-preserved : goal.loop-entry-preserved
loop-entry-preserved c =
    let entries = c.args.entries.now in
    let i = c.loop-entry.entry-index in
    none-more (is_free_at c.args.floor c.args.heads.now c.args.clips.now) entries i
    (get_or entries i nothing) c.loop-entry.invariant
    (λ d. get_or_default entries i d nothing c.loop-entry-test.true) (sym c.is_free.ensures ∙ c.if-is_free.false)

pub returns : goal.returns
returns c =
    least-none c.args.heads.now (is_free_at c.args.floor c.args.heads.now c.args.clips.now) _ c.args.entries.now _
    c.requires.order (free-picked c.args.floor c.args.heads.now c.args.clips.now c.requires.counted)
    (λ k d l. c.loop-entry.invariant k d (omega (arith, l, c.loop-entry-test.false)))

pub bounds-clips-segment : goal.bounds-clips-segment
bounds-clips-segment c =
    let inside = (there-entry c.args.heads.now c.args.entries.now _ c.loop-entry.entry-index nothing c.requires.order c.loop-entry-test.true).within in
    omega (arith, inside, c.requires.counted)
