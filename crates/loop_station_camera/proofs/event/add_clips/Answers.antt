use Rattle.std.proofs.Common.{◌≡◌, ◌<◌, ◌≤◌, ◌++◌, ◌+◌, max, [], ◌∷◌, ap, sym, ◌∙◌, refl, slice_index_or, rules}
use Rattle.std.proofs.lemmas.List.{append_assoc, append-nil, get_or_default}
use Rattle.loop_clips.specs.declared.clip.Clip.{Clip}
use Rattle.loop_pipeline.proofs.DeskPlaces.{goes-still}
use Rattle.loop_station_camera.specs.Keeping.{IsOnlyRead, known}
use Rattle.loop_station_camera.proofs.EventRuns.{added, all-ends, none-found, skipped}
use Rattle.loop_station_camera.proofs.ReadRuns.{here-then, not-read}
use Rattle.loop_station_camera.proofs.event.add_clips.Goals as goal

pub clips-init : goal.clips-init
clips-init g c = record {
  part = [];
  has = sym (append-nil c.args.found.now.items);
  ends = none-found c.args.number c.args.clips.now;
  reads = goes-still c.args.desks.now.desks c.args.place (IsOnlyRead g.D.Disk.medium) c.requires.place
      (not-read g.D.Disk.medium);
  lent = refl;
  still = refl;
}

pub clips-preserved-then-from-next : goal.clips-preserved-then-from-next
clips-preserved-then-from-next g c =
    let none : Clip = record { id = 0; from = 0; to = 0; tag = 0 } in
    let clip : Clip = slice_index_or c.args.clips.now c.clips.clip-index none in
    let over : clip.to < c.clips.next = search rules in
    record {
      part = c.clips.invariant.part;
      has = c.clips.invariant.has;
      ends = skipped c.args.number c.args.clips.now c.clips.clip-index c.clips.next c.clips.invariant.part
          c.requires.sorted c.clips-test.true clip
          (λ d. get_or_default c.args.clips.now c.clips.clip-index d none c.clips-test.true) c.clips.invariant.ends
          over;
      reads = c.clips.invariant.reads;
      lent = c.clips.invariant.lent;
      still = c.clips.invariant.still;
    }

pub returns-in_err-with_times-clause-reads : goal.returns-in_err-with_times-clause-reads
returns-in_err-with_times-clause-reads g c =
    here-then g.D.Disk.medium c.args.desks.now.desks c.clips.desks.desks c.found_of.new.desks.desks c.args.place
    c.clips.invariant.reads c.found_of.ensures.reads

pub returns-then-is_err-clause-reads : goal.returns-then-is_err-clause-reads
returns-then-is_err-clause-reads g c =
    here-then g.D.Disk.medium c.args.desks.now.desks c.clips.desks.desks c.found_of.new.desks.desks c.args.place
    c.clips.invariant.reads c.found_of.ensures.reads

pub clips-preserved : goal.clips-preserved
clips-preserved g c =
    let none : Clip = record { id = 0; from = 0; to = 0; tag = 0 } in
    let clip : Clip = slice_index_or c.args.clips.now c.clips.clip-index none in
    let found = c.in_ok-with_times.with_times in
    let least : c.clips.next ≤ clip.to = search rules in
    let begins : c.max.result ≡ max clip.from c.clips.next = search rules in
    let is : found.clip ≡ record (known c.args.number clip) { from = max clip.from c.clips.next } =
    c.in_ok-with_times.ensures.clip ∙ (λ i. record clip { id = c.clip_id.ensures i; from = begins i }) in
    let last : c.from-next.result ≡ clip.to = search rules in
    let pushed : c.push.new.self.items ≡ c.clips.found.items ++ found ∷ [] = search rules in
    record {
      part = c.clips.invariant.part ++ found ∷ [];
      has = pushed ∙ (ap (λ l. l ++ found ∷ []) c.clips.invariant.has
          ∙ append_assoc c.args.found.now.items c.clips.invariant.part (found ∷ []));
      ends = added c.args.number c.args.clips.now c.clips.clip-index c.clips.next c.clips.invariant.part
          c.requires.sorted c.clips-test.true clip
          (λ d. get_or_default c.args.clips.now c.clips.clip-index d none c.clips-test.true) c.clips.invariant.ends
          found (c.from-next.result + 1) is least (ap (λ n. n + 1) last);
      reads = here-then g.D.Disk.medium c.args.desks.now.desks c.clips.desks.desks c.found_of.new.desks.desks
          c.args.place c.clips.invariant.reads c.found_of.ensures.reads;
      lent = c.found_of.ensures.lent ∙ c.clips.invariant.lent;
      still = c.found_of.ensures.still ∙ c.clips.invariant.still;
    }

pub returns-clause-found : goal.returns-clause-found
returns-clause-found g c = (
  c.clips.invariant.part,
  c.clips.invariant.has,
  all-ends c.args.number c.args.clips.now c.clips.clip-index c.clips.next c.clips.invariant.part c.clips-test.false
      c.clips.invariant.ends,
)
