use Rattle.std.proofs.Common.{None, Option, List, set, refl, sym, ap, ◌∙◌}
use Rattle.std.proofs.lemmas.List.{set-set}
use Rattle.loop_record.specs.declared.clip.Span.{Span}
use Rattle.loop_record.specs.Recording.{ring_of}
use Rattle.loop_ring.specs.Heads.{clip_counts}
use Rattle.loop_store.proofs.index.Index.note_clip.Goals as goal

pub returns : goal.returns
returns g c =
    let old = c.args.self.now in
    let ring = ring_of old.ring.geometry in
    let id = c.args.id in
    let clip = c.args.clip in record {
      ring = refl;
      version = refl;
      keep = c.count_clip.ensures.keep ∙ c.uncount_clip.ensures.keep;
      next = refl;
      heads = c.count_clip.ensures.heads ∙ c.uncount_clip.ensures.heads;
      clips = c.set-2.ensures ∙ ap (λ (l : List (Option Span)). set l id clip) c.set.ensures ∙ set-set old.clips id None clip;
      counted =
          c.count_clip.ensures.counted ∙ (λ i. clip_counts ring (set (c.as_slice-2.ensures.clips i) id clip) (c.uncount_clip.ensures.heads i))
          ∙ ap (λ (l : List (Option Span)). clip_counts ring l old.table.heads) (sym c.set-2.ensures);
      stamps = refl;
    }
