use Rattle.std.proofs.Common.{not, is_some, List, Option, sym, ap, ◌∙◌}
use Rattle.std.specs.List.{count_by, position}
use Rattle.loop_record.specs.declared.segment.SegmentHead.{SegmentHead}
use Rattle.loop_ring.specs.Heads.{has_frame}
use Rattle.loop_store.proofs.AppendPlaces.{closed-place, no-victim, some-closed, victim-place}
use Rattle.loop_store.proofs.index.Index.place_of_new.Goals as goal

pub returns-in-Some-clause-place : goal.returns-in-Some-clause-place
returns-in-Some-clause-place g c = λ r image known unspent missing.
    victim-place c.args.self.now.ring.geometry c.args.self.now.table.keep r image c.in-Some.segment c.held_blocks.result
    c.args.self.now.table.heads known.held known.heads_are unspent missing c.held_blocks.ensures
    c.if-held_blocks-self.true (c.in-Some.ensures.place r image known)

pub returns-in-None-clause-place : goal.returns-in-None-clause-place
returns-in-None-clause-place g c = λ r image known unspent missing.
    no-victim c.args.self.now.ring.geometry c.args.self.now.table.keep r image c.held_blocks.result c.args.self.now.table.heads known.held
    known.heads_are missing c.held_blocks.ensures c.if-held_blocks-self.true (c.in-None.ensures.place r image known)

pub returns-in-Some-first_closed-clause-place : goal.returns-in-Some-first_closed-clause-place
returns-in-Some-first_closed-clause-place g c = λ r image known unspent missing.
    closed-place c.args.self.now.ring.geometry r image c.in-Some-first_closed.segment c.held_blocks.result known.held unspent missing
    (ap (λ (hs : List (Option SegmentHead)). position (λ h. not (is_some h)) hs) (sym known.heads_are)
    ∙ sym c.in-Some-first_closed.ensures) (c.held_blocks.ensures ∙ ap (count_by has_frame) known.heads_are)
    c.if-held_blocks-self.false

pub returns-in-None-first_closed-clause-place : goal.returns-in-None-first_closed-clause-place
returns-in-None-first_closed-clause-place g c = λ r image known unspent missing.
    absurd (some-closed c.args.self.now.ring.geometry r image c.held_blocks.result known.held missing
    (c.held_blocks.ensures ∙ ap (count_by has_frame) known.heads_are) c.if-held_blocks-self.false
    (ap (λ (hs : List (Option SegmentHead)). position (λ h. not (is_some h)) hs) (sym known.heads_are) ∙ sym c.in-None-first_closed.ensures))
