-- An image in which one segment has changed has the other parts of the old one.
use Rattle.std.proofs.Common.{◌≡◌, ◌⊎◌, inl, inr, ℕ, zero, suc, ◌+◌, ◌*◌, ◌<◌, ◌≤◌, Bool, true, false, cond, ◌&&◌, eqb, IsTrue, Option, Some, None, Result, Ok, Err, List, ◌∷◌, length, set, map, refl, ap, ◌∙◌, subst, arith}
use Rattle.std.proofs.Math.Nat.{mul-le-mul_right, add-mul}
use Rattle.std.proofs.lemmas.Bool.Decides.{nat_tests}
use Rattle.std.specs.List.{range_with_len}
use Rattle.loop_record.specs.declared.damage.Damage.{Damage}
use Rattle.loop_record.specs.declared.damage.Damage.TheVariants.{DiskSize}
use Rattle.loop_record.specs.declared.damage.LayoutFault.{LayoutFault}
use Rattle.loop_record.specs.declared.damage.LayoutFault.TheVariants.{Damaged, NotFormatted}
use Rattle.loop_record.specs.declared.geometry.Geometry.{Geometry}
use Rattle.loop_record.specs.declared.geometry.PixelFormat.{PixelFormat}
use Rattle.loop_record.specs.declared.superblock.SuperHead.{SuperHead}
use Rattle.loop_record.specs.Geometry.{is_good, disk_size, segment_at, segment_size, clip_at}
use Rattle.loop_record.specs.Recording.{Recording}
use Rattle.loop_disk.specs.Medium.{SameOutside}
use Rattle.loop_record.specs.Change.{ShowsSegment}
use Rattle.loop_record.specs.Layout.{Segment, segment_in, clip_in, geometry_in, version_in, with_version, super_in, checked_geometry, geometry_fields, format_at, is_formatted, is_super_of}
use Rattle.loop_record.specs.Reading.{Contents, with_geometry, contents, reading}
use Rattle.loop_record.specs.Parts.{parts_of, shown_by}
use Rattle.loop_record.proofs.Bounds.{limits}
use Rattle.loop_record.proofs.OwnBytes.{SameWithin, map_range, same_segment, same_clip, same_geometry, same_version}

-- ---- parts of one image and of the other

pub within_before : (at n from to : ℕ) (old new : List ℕ) → SameOutside at n old new → to ≤ at
    → SameWithin from to new old
within_before at n from to old new s h = record { size = s.size; bytes = λ k l u. s.before k (omega (arith, u, h)) }

pub within_behind : (at n from to : ℕ) (old new : List ℕ) → SameOutside at n old new → at + n ≤ from
    → SameWithin from to new old
within_behind at n from to old new s h = record { size = s.size; bytes = λ k l u. s.behind k (omega (arith, l, h)) }

-- a list over a range, with one element another
pub map_range-set : {X : Type 0} (f h : ℕ → X) (lo n j : ℕ) (x : X) → j < n
    → ((i : ℕ) → (i < lo + j) ⊎ (lo + j < i) → f i ≡ h i) → f (lo + j) ≡ x → map f (range_with_len lo n) ≡ set
    (map h (range_with_len lo n)) j x
map_range-set f h lo zero j x l same is = absurd (omega (arith, l))
map_range-set f h lo (suc n) zero x l same is =
    let at : lo ≡ lo + zero = omega arith in
    let rest = map_range f h (lo + 1) n (λ i low high. same i (inr (omega (arith, low)))) in
    let first : f lo ≡ x = ap f at ∙ is in
    λ i. first i ∷ rest i
map_range-set f h lo (suc n) (suc j) x l same is =
    let first : f lo ≡ h lo = same lo (inl (omega arith)) in
    let at : lo + 1 + j ≡ lo + suc j = omega arith in
    let rest = map_range-set f h (lo + 1) n j x (omega (arith, l)) (λ i o. same i (moved i o)) (ap f at ∙ is) in
    λ i. first i ∷ rest i
  where
    moved : (i : ℕ) → (i < lo + 1 + j) ⊎ (lo + 1 + j < i) → (i < lo + suc j) ⊎ (lo + suc j < i)
    moved i (inl a) = inl (omega (arith, a))
    moved i (inr a) = inr (omega (arith, a))

-- a change after the superblock leaves the version
pub version-outside : (at n : ℕ) (old new : List ℕ) → 45 ≤ at → SameOutside at n old new
    → version_in new ≡ version_in old
version-outside at n old new behind s = same_version new old (within_before at n 44 45 old new s behind)

-- segments don't overlap
pub apart : (g : Geometry) (i j : ℕ) → i < j → segment_at g i + segment_size g ≤ segment_at g j
apart g i j l =
    let le : (i + 1) * segment_size g ≤ j * segment_size g = mul-le-mul_right (segment_size g) (omega (arith, l)) in
    let split : (i + 1) * segment_size g ≡ i * segment_size g + segment_size g = omega (arith, add-mul i 1 (segment_size g)) in
    omega (arith, le, split)

-- the parts of the old image, except segment j
pub parts-shows : (g : Geometry) (j : ℕ) (part : Option Segment) (old new : List ℕ) → g.slots ≤ 256 → j < g.segments
    → ShowsSegment g j part old new
    → parts_of g new ≡ record { segments = set (parts_of g old).segments j part; clips = (parts_of g old).clips }
parts-shows g j part old new few l s =
    let other : (i : ℕ) → (i < 0 + j) ⊎ (0 + j < i) → segment_in g new i ≡ segment_in g old i = λ i o. same_segment g new old i few (within i o) in
    let at : 0 + j ≡ j = omega arith in
    let segments = map_range-set (segment_in g new) (segment_in g old) 0 g.segments j part l other (ap (segment_in g new) at ∙ s.holds) in
    let clips = map_range (clip_in new) (clip_in old) 0 64
    (λ id low high. same_clip new old id (within_before (segment_at g j) (segment_size g) 44 45 old new s.outside
    (omega arith)) (within_before (segment_at g j) (segment_size g) (clip_at id)
    (clip_at id + 32) old new s.outside (omega (arith, high)))) in
    λ i. record { segments = segments i; clips = clips i }
  where
    within : (i : ℕ) → (i < 0 + j) ⊎ (0 + j < i) → SameWithin (segment_at g i) (segment_at g i + segment_size g) new old
    within i (inl a) = within_before (segment_at g j) (segment_size g) (segment_at g i)
        (segment_at g i + segment_size g) old new s.outside (apart g i j (omega (arith, a)))
    within i (inr a) = within_behind (segment_at g j) (segment_size g) (segment_at g i)
        (segment_at g i + segment_size g) old new s.outside (apart g j i (omega (arith, a)))

-- ---- what an image reads as, by its stages

pub record ReadsAs (g : Geometry) (r : Recording) (image : List ℕ) : Type 0 where
  pub geometry : geometry_in image ≡ Ok g
  pub size : length image ≡ disk_size g
  pub recording : shown_by g (parts_of g image) ≡ Ok r

abbrev pub these : Geometry → Recording → Contents
these g r = record { geometry = g; recording = r }

pub reading-stages : (g : Geometry) (r : Recording) (image : List ℕ) → reading image ≡ Ok (these g r)
    → ReadsAs g r image
reading-stages g r image e = go (geometry_in image) refl e
  where
    ok_is : Contents → Result Contents LayoutFault
    ok_is c = Ok c

    same_contents : (a b : Contents) → ok_is a ≡ ok_is b → a ≡ b
    same_contents a b e = cc

    inner : (h : Geometry) (q : Result Recording Damage) → with_geometry h q ≡ Ok (these g r) → (h ≡ g) × (q ≡ Ok r)
    inner h (Ok s) e =
        let same : these h s ≡ these g r = cc in
        (ap (λ (c : Contents). c.geometry) same, λ i. Ok (same i).recording)
    inner h (Err d) e = absurd cc

    sized : (h : Geometry) (t : Bool) (q : Result Contents LayoutFault) → cond t q (Err (Damaged DiskSize)) ≡ Ok
        (these g r) → (t ≡ true) × (q ≡ Ok (these g r))
    sized h true q e = (refl, e)
    sized h false q e = absurd cc

    equal : (m n : ℕ) → eqb m n ≡ true → m ≡ n
    equal m n e = grind (arith, nat_tests, e)

    go : (o : Result Geometry LayoutFault) → geometry_in image ≡ o → contents image o ≡ Ok (these g r)
        → ReadsAs g r image
    go (Err d) is e = absurd cc
    go (Ok h) is e =
        let k = sized h (eqb (length image) (disk_size h)) (with_geometry h (shown_by h (parts_of h image))) e in
        let q = inner h (shown_by h (parts_of h image)) k.1 in
        let size : length image ≡ disk_size h = equal (length image) (disk_size h) k.0 in
        record {
          geometry = is ∙ (λ i. Ok (q.0 i));
          size = size ∙ ap disk_size q.0;
          recording = subst (λ (x : Geometry). shown_by x (parts_of x image) ≡ Ok r) q.0 q.1;
        }

pub stages-reading : (g : Geometry) (r : Recording) (image : List ℕ) → ReadsAs g r image
    → reading image ≡ Ok (these g r)
stages-reading g r image s =
    let sized : eqb (length image) (disk_size g) ≡ true = equal (length image) (disk_size g) s.size in
    ap (contents image) s.geometry ∙ (λ i. cond (sized i) (with_geometry g (s.recording i)) (Err (Damaged DiskSize)))
  where
    equal : (m n : ℕ) → m ≡ n → eqb m n ≡ true
    equal m n e = grind (arith, nat_tests, e)

-- the geometry of an image is good
pub geometry-good : (g : Geometry) (image : List ℕ) → geometry_in image ≡ Ok g → IsTrue (is_good g)
geometry-good g image e = go (is_formatted image) e
  where
    ok_is : Geometry → Result Geometry LayoutFault
    ok_is c = Ok c

    both : (a b : Bool) → (a && b) ≡ true → (a ≡ true) × (b ≡ true)
    both true b e = (refl, e)
    both false b e = absurd cc

    tested : (h : Geometry) (t : Bool) (f : LayoutFault) → cond t (ok_is h) (Err f) ≡ Ok g → (t ≡ true) × (h ≡ g)
    tested h true f e = (refl, cc)
    tested h false f e = absurd cc

    named : (o : Option PixelFormat) → checked_geometry image o ≡ Ok g → IsTrue (is_good g)
    named None e = absurd cc
    named (Some f) e =
        let h = geometry_fields image f in
        let k = tested h (is_super_of image h) _ e in
        let a = both _ _ k.0 in
        let b = both _ _ a.0 in
        let c = both _ _ b.0 in
        subst (λ (x : Geometry). is_good x ≡ true) k.1 c.1

    go : (t : Bool) → cond t (checked_geometry image (format_at image 20)) (Err NotFormatted) ≡ Ok g
        → IsTrue (is_good g)
    go true e = named (format_at image 20) e
    go false e = absurd cc

-- what a superblock says is the geometry and the version of its image
pub super-parts : (h : SuperHead) (image : List ℕ) → super_in image ≡ Ok h → (geometry_in image ≡ Ok h.geometry)
    × (version_in image ≡ h.version)
super-parts h image e = go (geometry_in image) refl e
  where
    ok_is : SuperHead → Result SuperHead LayoutFault
    ok_is s = Ok s

    same_head : (s t : SuperHead) → ok_is s ≡ ok_is t → s ≡ t
    same_head s t e = cc

    go : (o : Result Geometry LayoutFault) → geometry_in image ≡ o → with_version (version_in image) o ≡ Ok h
        → (geometry_in image ≡ Ok h.geometry) × (version_in image ≡ h.version)
    go (Ok g) is e =
        let same = same_head (record { geometry = g; version = version_in image }) h e in
        (is ∙ (λ i. Ok (same i).geometry), ap (λ (s : SuperHead). s.version) same)
    go (Err d) is e = absurd cc

pub super-fault : (fault : LayoutFault) (image : List ℕ) → super_in image ≡ Err fault → geometry_in image ≡ Err fault
super-fault fault image e = go (geometry_in image) refl e
  where
    err_is : LayoutFault → Result SuperHead LayoutFault
    err_is f = Err f

    same_fault : (a b : LayoutFault) → err_is a ≡ err_is b → a ≡ b
    same_fault a b e = cc

    go : (o : Result Geometry LayoutFault) → geometry_in image ≡ o → with_version (version_in image) o ≡ Err fault
        → geometry_in image ≡ Err fault
    go (Ok g) is e = absurd cc
    go (Err d) is e = is ∙ (λ i. Err (same_fault d fault e i))

-- ---- the whole

-- where segment j of an image has changed, the rest read the same
pub reading-shows : (g : Geometry) (r s : Recording) (j : ℕ) (part : Option Segment) (old new : List ℕ)
    → reading old ≡ Ok (these g r) → j < g.segments → ShowsSegment g j part old new
    → shown_by g (record { segments = set (parts_of g old).segments j part; clips = (parts_of g old).clips }) ≡ Ok s → reading new ≡ Ok (these g s)
reading-shows g r s j part old new e l shows is =
    let was = reading-stages g r old e in
    let limit = limits g (geometry-good g old was.geometry) in
    let parts = parts-shows g j part old new limit.slots.1 l shows in
    stages-reading g s new (record {
      geometry = same_geometry new old (within_before (segment_at g j) (segment_size g) 0 44 old new shows.outside
          (omega arith)) (within_before (segment_at g j) (segment_size g) 45 512 old new shows.outside (omega arith))
          ∙ was.geometry;
      size = shows.outside.size ∙ was.size;
      recording = ap (shown_by g) parts ∙ is;
    })
