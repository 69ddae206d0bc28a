use Rattle.std.proofs.Common.{Option, Some, List, ◌+◌, ◌/◌, ◌%◌, set, refl, ap, ◌∙◌}
use Rattle.loop_record.specs.declared.clip.Span.{Span}
use Rattle.loop_record.specs.Recording.{ring_of}
use Rattle.loop_ring.specs.Heads.{clip_counts}
use Rattle.loop_store.proofs.index.Index.note.Goals as goal

pub returns-clause-noted : goal.returns-clause-noted
returns-clause-noted g c =
    let old = c.args.self.now in record {
      ring = refl;
      version = refl;
      keep = c.set_head.ensures.keep;
      next = ap (λ n. old.next + n) (c.from.ensures ∙ c.len-count.ensures.count);
      heads = c.set_head.ensures.heads
          ∙ (λ i. set old.table.heads c.args.segment
          (Some (record {
            block = old.next / c.from-slots.ensures i;
            frames =
                old.next % c.from-slots.ensures i + c.len-count.ensures.count i;
          })));
      clips = refl;
      counted = c.set_head.ensures.counted
          ∙ ap (λ (l : List (Option Span)). clip_counts (ring_of old.ring.geometry) l c.set_head.new.table.heads)
          c.as_slice.ensures.clips;
    }
