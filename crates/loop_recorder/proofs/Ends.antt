-- The end of a camera, by the outline that was kept outside its lock.
use Rattle.std.proofs.Common.{◌≡◌, ℕ, List, All, ap, length, replicate, subst, sym, ◌∙◌}
use Rattle.std.proofs.lemmas.List.{length-replicate}
use Rattle.loop_disk.specs.Medium.{Medium}
use Rattle.loop_desk.specs.declared.limits.Outline.{Outline}
use Rattle.loop_desk.specs.Seen.{SeenDesk, TellsOutline}
use Rattle.loop_recorder.specs.declared.ended.EndedCamera.{EndedCamera}
use Rattle.loop_pipeline.specs.declared.entry.Entry.{Entry}
use Rattle.loop_pipeline.specs.declared.entry.Pass.{Pass}
use Rattle.loop_recorder.specs.Endings.{EndsTied, IsFaithfulCamera, SameOutline}
use Rattle.loop_recorder.specs.declared.recorder.Ended.{Ended}
use Rattle.loop_recorder.specs.Ends.{EndsAt, IsEnd}
use Rattle.loop_recorder.specs.Opened.{SeenRecorder}
use Rattle.loop_recorder.specs.Refused.{BreaksTie}
use Rattle.loop_recorder.specs.Sessions.{IsFaithful}
use Rattle.loop_recorder.proofs.Apart.{all-read, tied-apart}

module _ {D A B : Type 0} (medium : D → Medium) (one : Outline A) (other : Outline B) (same : SameOutline one other) where
  tells-same : (d : SeenDesk D) → TellsOutline medium d one → TellsOutline medium d other
  tells-same d tells = record {
    version = sym same.version ∙ tells.version;
    keep = sym same.keep ∙ tells.keep;
    next = sym same.next ∙ tells.next;
    pending = sym same.pending ∙ tells.pending;
    clips = sym same.clips ∙ tells.clips;
    frames = λ r stands. sym same.frames ∙ tells.frames r stands;
  }

  faithful-same : (history : List Entry) (desk : SeenDesk D) → IsFaithful medium one history desk
      → IsFaithful medium other history desk
  faithful-same history desk faithful =
      let kept = faithful.kept in
      record {
        opening = faithful.opening;
        kept = record { opens = kept.opens; outlined = tells-same faithful.opening kept.outlined; calls = kept.calls; noted = kept.noted; goes = kept.goes };
        survive = faithful.survive;
        legal = faithful.legal;
      }

-- a camera that is faithful and tied
pub ends-at : {D A : Type 0} (medium : D → Medium) (outlines : List (Outline A)) (cameras : List (EndedCamera D A))
    (passes : List (Pass A)) (k : ℕ) → All (IsFaithfulCamera medium) cameras → EndsTied outlines cameras passes k
    → EndsAt medium outlines cameras passes k
ends-at {D} {A} medium outlines cameras passes k all tied = λ e o at_e at_o.
    let here = tied e o at_e at_o in
    let there : IsFaithfulCamera medium e = all-read (IsFaithfulCamera medium) cameras k e all at_e in
    record {
      faithful = faithful-same medium e.outline o here.outline_is e.history.items e.desk there;
      tied = here.tied;
      apart = tied-apart k e.history.items passes here.tied;
    }

-- the counts may be others
pub end-counted : {D P A : Type 0} (medium : D → Medium) (outlines : List (Outline A)) (e f : Ended D P A)
    → f ≡ record e { given_up = f.given_up } → length f.given_up.items ≡ length e.given_up.items
    → IsEnd medium outlines e → IsEnd medium outlines f
end-counted {D} {P} {A} medium outlines e f is same end = subst (λ (x : Ended D P A). IsEnd medium outlines x) (sym is) (record {
  count = end.count;
  each = end.each;
  there = end.there;
  ports = end.ports;
  counts = same ∙ end.counts;
})

pub broken-counted : {D P A : Type 0} (medium : D → Medium) (recorder : SeenRecorder A) (passes : List (Pass A)) (camera : ℕ)
    (e f : Ended D P A) → f ≡ record e { given_up = f.given_up } → length f.given_up.items ≡ length e.given_up.items
    → BreaksTie medium recorder passes camera e → BreaksTie medium recorder passes camera f
broken-counted {D} {P} {A} medium recorder passes camera e f is same broken =
    subst (λ (x : Ended D P A). BreaksTie medium recorder passes camera x) (sym is) (record {
      same = broken.same;
      enough = broken.enough;
      count = broken.count;
      faithful = broken.faithful;
      ports = broken.ports;
      counts = same ∙ broken.counts;
      broken = broken.broken;
    })

-- What both ends of a recorder cite, whether its cameras are under their locks or out of them: the counts that it was
-- made with are zeros, one for each camera, and a tie that is broken by its parts is so by what its callers see.
module _ {A : Type 0} (outlines : List (Outline A)) (made n : ℕ) (counts : List ℕ) (seen : SeenRecorder A)
    (is : record { outlines = outlines; passes = made } ≡ seen) where
  pub none-given-up : n ≡ length outlines → counts ≡ replicate n 0 → (length counts ≡ n)
      × (counts ≡ replicate (length seen.outlines) 0)
  none-given-up all none = (
    ap length none ∙ length-replicate n 0,
    none ∙ ap (λ m. replicate m 0) (all ∙ ap (λ (r : SeenRecorder A). length r.outlines) is),
  )

pub broken-seen : {D P A : Type 0} (medium : D → Medium) (recorder seen : SeenRecorder A) (passes : List (Pass A))
    (camera : ℕ) (e : Ended D P A) → recorder ≡ seen → BreaksTie medium recorder passes camera e
    → BreaksTie medium seen passes camera e
broken-seen {D} {P} {A} medium recorder seen passes camera e is broken =
    subst (λ (r : SeenRecorder A). BreaksTie medium r passes camera e) is broken
