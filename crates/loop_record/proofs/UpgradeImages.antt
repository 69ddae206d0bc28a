-- An image whose layout becomes version 2 reads the same at each moment.
use Rattle.std.proofs.Common.{◌≡◌, ℕ, ◌+◌, ◌≤◌, Bool, true, false, cond, eqb, Result, Ok, Err, List, get_or, refl, sym, ap, ◌∙◌, arith}
use Rattle.byteorder.specs.Endian.{little_from}
use Rattle.loop_disk.specs.Medium.{SameOutside}
use Rattle.loop_record.specs.declared.damage.Damage.TheVariants.{DiskSize}
use Rattle.loop_record.specs.declared.damage.LayoutFault.{LayoutFault}
use Rattle.loop_record.specs.declared.damage.LayoutFault.TheVariants.{Damaged}
use Rattle.loop_record.specs.declared.geometry.Geometry.{Geometry}
use Rattle.loop_record.specs.Geometry.{disk_size, clip_at}
use Rattle.loop_record.specs.Layout.{segment_in, clip_in, geometry_in, version_in}
use Rattle.loop_record.specs.Reading.{with_geometry, contents}
use Rattle.loop_record.specs.Parts.{parts_of, shown_by}
use Rattle.loop_record.specs.Change.{KeepsClips, SameButTags, HasNoTags}
use Rattle.loop_record.specs.Laws.{KeptClipsReadTheSame}
use Rattle.loop_record.proofs.Bounds.{limits}
use Rattle.loop_record.proofs.OwnBytes.{map_range, moved_clip, same_geometry, same_segment, same_version}
use Rattle.loop_record.proofs.Fields.{moved_number}
use Rattle.loop_record.proofs.Parts.{geometry-good}
use Rattle.loop_record.proofs.Names.{tag_at}

-- where each id has the clip that it had, an image reads the same
pub reading-kept : KeptClipsReadTheSame
reading-kept old new k = go (geometry_in old) refl
  where
    geometry : geometry_in new ≡ geometry_in old
    geometry = same_geometry new old (record { size = k.size; bytes = λ i low high. k.before i high }) (record { size = k.size; bytes = k.zeros })

    parts : (g : Geometry) → g.slots ≤ 256 → parts_of g new ≡ parts_of g old
    parts g few =
        let segments = map_range (segment_in g new) (segment_in g old) 0 g.segments (λ j low high.
        same_segment g new old j few (record { size = k.size; bytes = λ i from to. k.behind i (omega (arith, from)) })) in
        let clips = map_range (clip_in new) (clip_in old) 0 64 (λ id low high. k.clips id (omega (arith, high))) in
        λ i. record { segments = segments i; clips = clips i }

    go : (o : Result Geometry LayoutFault) → geometry_in old ≡ o → contents new (geometry_in new) ≡ contents old
        (geometry_in old)
    go (Err e) is = ap (contents new) (geometry ∙ is) ∙ sym (ap (contents old) is)
    go (Ok g) is =
        let same = parts g (limits g (geometry-good g old is)).slots.1 in
        ap (contents new) (geometry ∙ is)
        ∙ (λ i. cond (eqb (k.size i) (disk_size g)) (with_geometry g (shown_by g (same i))) (Err (Damaged DiskSize)))
        ∙ sym (ap (contents old) is)

-- the same for one change after another
pub kept-on : (old mid new : List ℕ) → KeepsClips old mid → KeepsClips mid new → KeepsClips old new
kept-on old mid new a b = record {
  size = b.size ∙ a.size;
  before = λ i l. b.before i l ∙ a.before i l;
  zeros = λ i low high. b.zeros i low high ∙ a.zeros i low high;
  behind = λ i l. b.behind i l ∙ a.behind i l;
  clips = λ id l. b.clips id l ∙ a.clips id l;
}

-- in version 1 nothing is read in the places of the tags
pub kept-tags : (old new : List ℕ) → version_in old ≡ 1 → SameButTags old new → KeepsClips old new
kept-tags old new first s = record {
  size = s.size;
  before = λ i l. s.before i (omega (arith, l));
  zeros = λ i low high. s.before i high;
  behind = s.behind;
  clips = λ id l.
      let same = same_version new old (record { size = s.size; bytes = λ i low high. s.before i (omega (arith, high)) }) in
      moved_clip (version_in new) (version_in old) (clip_at id) (clip_at id) new old (λ k u. s.entries id k l u) (λ e.
      let at = clip_at id + 24 in
      ap (λ (v : ℕ). tag_at v new at) (same ∙ first) ∙ sym (ap (λ (v : ℕ). tag_at v old at) first));
}

-- where no open entry has a tag, the version's gate may open
pub kept-opened : (old new : List ℕ) → version_in old ≡ 1 → HasNoTags 64 old → SameOutside 44 1 old new
    → KeepsClips old new
kept-opened old new first none torn = record {
  size = torn.size;
  before = torn.before;
  zeros = λ i low high. torn.behind i low;
  behind = λ i low. torn.behind i (omega (arith, low));
  clips = λ id l.
      let at = clip_at id in
      let byte : (k : ℕ) → get_or new (at + k) 0 ≡ get_or old (at + k) 0 = λ k. torn.behind (at + k) (omega arith) in
      moved_clip (version_in new) (version_in old) at at new old (λ k u. byte k) (λ e.
      let place : (k : ℕ) → at + 24 + k ≡ at + (24 + k) = λ k. omega arith in
      let zero : little_from (at + 24) 8 new ≡ 0 = moved_number 8 (at + 24) (at + 24) new old (λ k u. torn.behind (at + 24 + k) (omega arith)) ∙ none id l e in
      either (eqb (version_in new) 2) (little_from (at + 24) 8 new) zero ∙ sym (ap (λ (v : ℕ). tag_at v old (at + 24)) first));
}
  where
    either : (t : Bool) (n : ℕ) → n ≡ 0 → cond t n 0 ≡ 0
    either true n e = e
    either false n e = refl
