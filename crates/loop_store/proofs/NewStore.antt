-- A store that was just formatted.
use Rattle.std.proofs.Common.{◌≡◌, ◌⊎◌, ⊎_elim, inl, inr, ℕ, eqb, Err, zero, suc, ◌+◌, ◌*◌, ◌<◌, cond, false, IsTrue, Option, None, Some, List, [], ◌∷◌, length, map, replicate, refl, sym, ap, ◌∙◌, subst, arith}
use Rattle.std.proofs.lemmas.List.{get_or-replicate, length-replicate, take_at}
use Rattle.std.proofs.lemmas.List.Elements.{All-replicate}
use Rattle.std.specs.List.{All, range_with_len}
use Rattle.std.specs.Prelude.{◌&&◌, ◌↔◌}
use Rattle.byteorder.specs.Endian.{little_from}
use Rattle.loop_disk.specs.declared.fault.DiskFault.{DiskFault}
use Rattle.loop_disk.specs.Calls.{Called}
use Rattle.loop_disk.specs.Medium.{Medium, IsSound}
use Rattle.loop_disk.proofs.Moments.{started}
use Rattle.loop_record.specs.declared.geometry.Geometry.{Geometry}
use Rattle.loop_record.specs.declared.superblock.SuperHead.{SuperHead}
use Rattle.loop_record.specs.Geometry.{disk_size, is_good, segment_at}
use Rattle.loop_record.specs.Layout.{IsVersion, header_at, open_gates, super_bytes}
use Rattle.loop_record.specs.Reading.{Holds, IsFreshImage}
use Rattle.loop_record.specs.Recording.{Picture, Recording, empty, frame_under, ring_of}
use Rattle.loop_record.proofs.Fresh.{reading-fresh}
use Rattle.loop_record.proofs.ReadBack.{length-super_bytes}
use Rattle.loop_record.proofs.LegalSteps.{empty-well_formed}
use Rattle.loop_ring.specs.Heads.{clip_counts, heads_of}
use Rattle.loop_ring.proofs.Bytes.{closed_none}
use Rattle.loop_ring.proofs.ClipCounts.{counts-closed}
use Rattle.loop_store.specs.declared.index.Index.{Index}
use Rattle.loop_store.specs.Drawn.{drawn_image, drawn_super}
use Rattle.loop_store.specs.Grow.{HasNoneStray}
use Rattle.loop_store.specs.Numbers.{is_among, numbers_under}
use Rattle.loop_store.specs.Found.{IsHeadIn}
use Rattle.loop_store.specs.Fresh.{HoldsFresh}
use Rattle.loop_store.specs.Index.{IsIndexOf}
use Rattle.loop_store.specs.declared.fault.StoreFault.{StoreFault}
use Rattle.loop_store.specs.declared.fault.StoreFault.TheVariants.{BadGeometry, NoMemory}
use Rattle.loop_store.specs.Faults.{failed_by}
use Rattle.loop_store.specs.Make.{Formats, WasOr, NoneOrEmpty}
use Rattle.loop_store.specs.Store.{IsKept}
use Rattle.loop_store.specs.Seen.{StandsFor, Tells, seen_with}
use Rattle.loop_record.specs.declared.segment.SegmentHead.{SegmentHead}
use Rattle.loop_store.proofs.IndexImages.{closed-entry, closed-header, drawn-length}
use Rattle.loop_store.proofs.AppendImages.{known-drawn}
use Rattle.loop_store.proofs.Room.{one-recording}

all-none : {X : Type 0} (f : ℕ → Option X) (lo n : ℕ) → ((j : ℕ) → j < lo + n → f j ≡ None)
    → map f (range_with_len lo n) ≡ replicate n None
all-none f lo zero none = refl
all-none f lo (suc n) none = λ i. none lo (omega arith) i ∷ all-none f (lo + 1) n (λ j l. none j (omega (arith, l))) i

-- each header is closed
fresh-heads : (s : SuperHead) (image : List ℕ) → IsFreshImage s image
    → heads_of s.geometry image ≡ replicate s.geometry.segments None
fresh-heads s image fresh = all-none (λ j. header_at s.geometry image (segment_at s.geometry j)) 0 s.geometry.segments (λ j l. closed-head j (omega (arith, l)))
  where
    closed-head : (j : ℕ) → j < s.geometry.segments → header_at s.geometry image (segment_at s.geometry j) ≡ None
    closed-head j l = λ i. cond (fresh.segments j l i)
        (Some (record {
          block = little_from (segment_at s.geometry j + 8) 8 image;
          frames =
              open_gates s.geometry.slots image (segment_at s.geometry j + 256);
        })) None

-- the index of what was just formatted
pub record IsNew {A : Type 0} (index : Index A) (s : SuperHead) : Type 0 where
  pub geometry : index.ring.geometry ≡ s.geometry
  pub version : index.version ≡ s.version
  pub next : index.next ≡ 0
  pub closed : index.table.heads ≡ replicate s.geometry.segments None
  pub none : index.clips ≡ replicate 64 None
  pub counts : index.table.clips ≡ replicate s.geometry.segments 0
  pub places : length index.stamps.items ≡ s.geometry.segments * s.geometry.slots

fresh-known : {A : Type 0} (index : Index A) (s : SuperHead) (image : List ℕ) → IsNew index s
    → IsVersion s.version → IsTrue (is_good s.geometry) → IsFreshImage s image → IsIndexOf index empty image
fresh-known index s image new version good fresh = record {
  held = subst (λ (h : Geometry). Holds h empty image) (sym new.geometry) (reading-fresh s image version good fresh).held;
  next_is = new.next;
  heads_are = new.closed ∙ sym (fresh-heads s image fresh) ∙ ap (λ (h : Geometry). heads_of h image) (sym new.geometry);
  clips_are = new.none;
}

-- what it draws is the empty recording
drawn-fresh : (g : Geometry) → IsTrue (is_good g) → IsFreshImage (drawn_super g)
    (drawn_image g (replicate g.segments None) (replicate 64 None))
drawn-fresh g good = record {
  size = drawn-length g (replicate g.segments None) (replicate 64 None);
  superblock = take_at (super_bytes (drawn_super g)) _ 512 (length-super_bytes (drawn_super g));
  clips = λ id l. closed-entry g (replicate g.segments None) (replicate 64 None) id l (get_or-replicate 64 id None None l);
  segments = λ j l. closed-header g (replicate g.segments None) (replicate 64 None) j l (get_or-replicate g.segments j None None l);
}

drawn-new : {A : Type 0} (index : Index A) (s : SuperHead) → IsNew index s → IsTrue (is_good s.geometry)
    → IsIndexOf index empty (drawn_image index.ring.geometry index.table.heads index.clips)
drawn-new index s new good =
    let g = s.geometry in
    known-drawn index g (replicate g.segments None) (replicate 64 None) empty good (let none : Option SegmentHead =
    None in length-replicate g.segments none) (All-replicate (IsHeadIn g) g.segments None tt)
    (reading-fresh (drawn_super g) _ (inr refl) good (drawn-fresh g good)).held
    new.geometry new.closed new.none new.next refl

nothing : (p : Picture) → let x : Option Picture = None in x ≡ Some p → ⊥
nothing p e = cc

-- the image of a disk that was formatted, with the memory of its store
pub fresh-kept : {D A : Type 0} (medium : D → Medium) (s : SuperHead) (disk : D) (index : Index A)
    → IsNew index s → IsVersion s.version → IsTrue (is_good s.geometry)
    → (medium disk).size ≡ disk_size s.geometry → ((medium disk).honest → HoldsFresh s (medium disk))
    → IsKept medium disk index false
fresh-kept medium s disk index new version good size fresh = record {
  fits = record {
    size_is = size ∙ ap disk_size (sym new.geometry);
    whole = record {
      count = ap length new.closed ∙ length-replicate s.geometry.segments None ∙ ap (λ (h : Geometry). h.segments) (sym new.geometry);
      within = subst (All (IsHeadIn index.ring.geometry)) (sym new.closed) (All-replicate (IsHeadIn index.ring.geometry) s.geometry.segments None tt);
      few = omega (arith, new.next);
      counted = new.counts ∙ counts-closed (ring_of index.ring.geometry) index.clips s.geometry.segments
          ∙ ap (clip_counts (ring_of index.ring.geometry) index.clips) (sym new.closed);
      places = new.places ∙ (λ i. (sym new.geometry i).segments * (sym new.geometry i).slots);
    };
  };
  known = record { recording = empty; known = drawn-new index s new good };
  present = λ fine now. record {
    recorded = record { recording = empty; known = fresh-known index s (medium disk).bytes new version good (fresh now).0 };
    version = (reading-fresh s (medium disk).bytes version good (fresh now).0).version_is ∙ sym new.version;
    settled = (fresh now).1;
    unstray = subst (λ (h : Geometry). HasNoneStray h (medium disk).bytes) (sym new.geometry)
        (λ j l there. absurd (there (closed_none s.geometry (medium disk).bytes j ((fresh now).0.segments j l))));
    stamped = record {
      each = λ r there n p held.
          let is = one-recording index.ring.geometry r empty (medium disk).bytes there
          (fresh-known index s (medium disk).bytes new version good (fresh now).0).held in
          absurd (nothing p (ap (λ (t : Recording). frame_under t.frames n) (sym is) ∙ held));
    };
  };
}

-- no segment is open
none-under : (slots count : ℕ) → numbers_under slots (replicate count None) ≡ []
none-under slots zero = refl
none-under slots (suc count) = none-under slots count

-- what its store reports
pub fresh-tells : {D A : Type 0} (s : SuperHead) (disk : D) (index : Index A) → IsNew index s
    → Tells (seen_with disk index false) empty
fresh-tells s disk index new = record {
  formed = empty-well_formed;
  next_is = new.next;
  numbers_are = λ n. ap (λ (ns : List ℕ). is_among ns n) (ap (numbers_under index.ring.geometry.slots) new.closed
      ∙ none-under index.ring.geometry.slots s.geometry.segments);
  count_is = ap length (ap (numbers_under index.ring.geometry.slots) new.closed ∙ none-under index.ring.geometry.slots s.geometry.segments);
  stamps_are = λ n p there. absurd (nothing p there);
  clips_are = new.none;
}

pub fresh-stands : {D A : Type 0} (medium : D → Medium) (s : SuperHead) (disk : D) (index : Index A)
    → IsNew index s → IsVersion s.version → IsTrue (is_good s.geometry)
    → ((medium disk).honest → HoldsFresh s (medium disk)) → StandsFor medium (seen_with disk index false) empty
fresh-stands medium s disk index new version good fresh = record {
  told = fresh-tells s disk index new;
  settled = λ fine now. (fresh now).1;
  held = λ fine now. (fresh-known index s (medium disk).bytes new version good (fresh now).0).held;
  version_is = λ fine now. (reading-fresh s (medium disk).bytes version good (fresh now).0).version_is ∙ sym new.version;
}

-- ---- a format that is refused

-- before the disk was called
pub refused-formats : {D : Type 0} (medium : D → Medium) (h : SuperHead) (disk : D) (fault : StoreFault)
    → (fault ≡ BadGeometry) ↔ ((is_good h.geometry && eqb (medium disk).size (disk_size h.geometry)) ≡ false)
    → (fault ≡ BadGeometry) ⊎ (fault ≡ NoMemory) → failed_by fault ≡ None
    → ((medium disk).honest → IsSound (medium disk)) → Formats medium h disk (Err (record { fault = fault; disk = disk }))
refused-formats medium h disk fault bad is none sound = record {
  bad = bad;
  refusals = ⊎_elim inl (λ memory. inr (inl memory)) is;
  untouched = λ early. refl;
  formatted = tt;
  stands = tt;
  moments = λ now. started (medium disk) (WasOr (medium disk) (NoneOrEmpty h)) (sound now) (λ c left. inl left);
  called = subst (λ (f : Option DiskFault). Called (medium disk) (medium disk) f) (sym none)
      (record { size = refl; honest = (λ honest. honest, λ honest. honest); failures = refl });
}
