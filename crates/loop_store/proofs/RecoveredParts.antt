-- What a read of each part of a disk says of its image.
use Rattle.std.proofs.Common.{◌≡◌, ℕ, ◌+◌, ◌-◌, ◌*◌, ◌<◌, ◌≤◌, Bool, true, false, cond, IsTrue, IsErrAnd, Option, Some, None, Result, Ok, Err, List, [], ◌∷◌, ◌++◌, length, take, drop, map, refl, sym, ap, ◌∙◌, subst, arith}
use Rattle.std.specs.List.{list_any, range_with_len}
use Rattle.loop_disk.specs.Calls.{Called, Stays}
use Rattle.loop_disk.specs.Medium.{MayBe, Medium, piece}
use Rattle.loop_disk.proofs.Moments.{called_on}
use Rattle.loop_record.specs.declared.clip.Span.{Span}
use Rattle.loop_record.specs.declared.damage.Damage.{Damage}
use Rattle.loop_record.specs.declared.damage.LayoutFault.{LayoutFault}
use Rattle.loop_record.specs.declared.frame.FrameHead.{FrameHead}
use Rattle.loop_record.specs.declared.geometry.Geometry.{Geometry}
use Rattle.loop_record.specs.declared.image.Found.{Found}
use Rattle.loop_record.specs.declared.segment.SegmentHead.{SegmentHead}
use Rattle.loop_record.specs.declared.superblock.SuperHead.{SuperHead}
use Rattle.loop_record.specs.Geometry.{frame_bytes, is_good, segment_at, slot_at}
use Rattle.loop_record.specs.Layout.{entry_at, Slot, open_gates, checked_header, super_in, version_in, header_at, is_open, is_slot_of, is_too_high, segment_in, slot_head, slot_in}
use Rattle.loop_record.specs.Plain.{AreIn, IsSomeHigh, lacks_number, segment_of, table_clips}
use Rattle.loop_record.specs.Reading.{is_bad_slot, reading}
use Rattle.std.proofs.lemmas.List.{length-map, map-append}
use Rattle.loop_record.proofs.Gates.{range_append}
use Rattle.loop_record.proofs.Bounds.{limits}
use Rattle.loop_record.proofs.OwnBytes.{prefix_range-le}
use Rattle.loop_record.proofs.Parts.{super-fault}
use Rattle.loop_record.proofs.Fresh.{super_in-slice, header_at-slice}
use Rattle.loop_record.proofs.FoundSegments.{found-high, read_slots, reading-no_geometry, slots-bad, slots-hold}
use Rattle.loop_record.proofs.HeldNumbers.{bad-lacks, clips-table}
use Rattle.loop_record.specs.Recording.{head}
use Rattle.byteorder.specs.Endian.{little_from}
use Rattle.loop_ring.proofs.SlotReads.{head_read, stays_on}
use Rattle.loop_record.proofs.Readings.{length-range}
use Rattle.loop_store.specs.declared.fault.StoreFault.{StoreFault}
use Rattle.loop_store.specs.Faults.{failed_by}
use Rattle.loop_store.specs.Found.{Finds, IsHeadIn, Recovers, clips_of, refusal, some_bad_clip}
use Rattle.loop_record.proofs.Names.{hold_from}

-- ---- refusals

-- what was found where this was refused
pub finds-err : {T : Type 0} (r : Result T StoreFault) (e : StoreFault) (P : List ℕ → T → Type 0)
    (Q : List ℕ → LayoutFault → Type 0) (old new : Medium)
    → ((image : List ℕ) → MayBe new image → Recovers (let s : Result T StoreFault = Err e in s) (P image) (Q image))
    → ((image : List ℕ) → MayBe new image → MayBe old image)
    → (old.honest → Stays old new) → Called old new (failed_by e)
    → IsErrAnd r (λ made. made ≡ e) → Finds P Q old new r
finds-err (Ok x) e P Q old new said gives stays called made = absurd made
finds-err (Err x) e P Q old new said gives stays called made = record {
  found = λ image may. subst (λ (y : StoreFault). Recovers (Err y) (P image) (Q image)) (sym made) (said image may);
  gives = gives;
  stays = stays;
  called = subst (λ (y : StoreFault). Called old new (failed_by y)) (sym made) called;
}

-- a refusal of the layout is returned as it is
recovers-refusal : {T : Type 0} (fault : LayoutFault) (P : T → Type 0) (Q : LayoutFault → Type 0) → Q fault
    → Recovers (let s : Result T StoreFault = Err (refusal fault) in s) P Q
recovers-refusal LayoutFault.NotFormatted P Q q = q
recovers-refusal (LayoutFault.Damaged d) P Q q = q

refusal-called : (fault : LayoutFault) (old new : Medium) → Called old new None
    → Called old new (failed_by (refusal fault))
refusal-called LayoutFault.NotFormatted old new called = called
refusal-called (LayoutFault.Damaged d) old new called = called

pub finds-refusal : {T : Type 0} (r : Result T StoreFault) (fault : LayoutFault) (P : List ℕ → T → Type 0)
    (Q : List ℕ → LayoutFault → Type 0) (old new : Medium) → ((image : List ℕ) → MayBe new image → Q image fault)
    → ((image : List ℕ) → MayBe new image → MayBe old image) → (old.honest → Stays old new)
    → Called old new None → IsErrAnd r (λ made. made ≡ refusal fault) → Finds P Q old new r
finds-refusal r fault P Q old new q gives stays called made = finds-err r (refusal fault) P Q old new
    (λ image may. recovers-refusal fault (P image) (Q image) (q image may)) gives stays
    (refusal-called fault old new called) made

-- what a callee refused
recovers-as : {T U : Type 0} (e : StoreFault) (P : T → Type 0) (P' : U → Type 0) (Q Q' : LayoutFault → Type 0)
    → ((f : LayoutFault) → Q f → Q' f)
    → Recovers (let s : Result T StoreFault = Err e in s) P Q → Recovers (let s : Result U StoreFault = Err e in s) P' Q'
recovers-as StoreFault.NoMemory P P' Q Q' h said = tt
recovers-as (StoreFault.Disk fault) P P' Q Q' h said = tt
recovers-as StoreFault.NotFormatted P P' Q Q' h said = h LayoutFault.NotFormatted said
recovers-as (StoreFault.Damaged d) P P' Q Q' h said = h (LayoutFault.Damaged d) said
recovers-as StoreFault.MustReopen P P' Q Q' h said = absurd said
recovers-as StoreFault.NotHeld P P' Q Q' h said = absurd said
recovers-as StoreFault.BadGeometry P P' Q Q' h said = absurd said
recovers-as StoreFault.NumbersSpent P P' Q Q' h said = absurd said
recovers-as StoreFault.AllLocked P P' Q Q' h said = absurd said
recovers-as StoreFault.ClipEmpty P P' Q Q' h said = absurd said
recovers-as (StoreFault.ClipNotHeld number) P P' Q Q' h said = absurd said
recovers-as StoreFault.ClipTableFull P P' Q Q' h said = absurd said
recovers-as StoreFault.NoSuchClip P P' Q Q' h said = absurd said
recovers-as StoreFault.PendingFull P P' Q Q' h said = absurd said
recovers-as StoreFault.WrongSize P P' Q Q' h said = absurd said
recovers-as StoreFault.HandFull P P' Q Q' h said = absurd said
recovers-as StoreFault.HandEmpty P P' Q Q' h said = absurd said
recovers-as StoreFault.OldLayout P P' Q Q' h said = absurd said
recovers-as StoreFault.BadKeep P P' Q Q' h said = absurd said

-- what was found where a callee refused, after reads
pub finds-on : {T U : Type 0} (r : Result U StoreFault) (e : StoreFault) (P : List ℕ → T → Type 0)
    (P' : List ℕ → U → Type 0) (Q Q' : List ℕ → LayoutFault → Type 0) (old mid new : Medium)
    → ((image : List ℕ) → MayBe mid image → (f : LayoutFault) → Q image f → Q' image f)
    → ((image : List ℕ) → MayBe mid image → MayBe old image) → (old.honest → Stays old mid) → Called old mid None
    → IsErrAnd r (λ made. made ≡ e) → Finds P Q mid new (let s : Result T StoreFault = Err e in s) → Finds P' Q' old new r
finds-on {T} {U} r e P P' Q Q' old mid new h gives stays called made inner =
    finds-err r e P' Q' old new
    (λ image may. recovers-as {T = T} {U = U} e (P image) (P' image) (Q image) (Q' image) (h image (inner.gives image may))
    (inner.found image may))
    (λ image may. gives image (inner.gives image may))
    (λ honest. stays_on old mid new (stays honest) (inner.stays (called.honest.0 honest)))
    (called_on old mid new (failed_by e) called inner.called) made

-- what holds under a premise, where the premise does
recovers-given : {T : Type 0} (r : Result T StoreFault) (S : Type 0) (P : T → Type 0) (Q : LayoutFault → Type 0) → S
    → Recovers r (λ x. S → P x) (λ f. S → Q f) → Recovers r P Q
recovers-given (Ok x) S P Q s said = said s
recovers-given {T} (Err e) S P Q s said = recovers-as {T = T} {U = T} e (λ x. S → P x) P (λ f. S → Q f) Q (λ f q. q s) said

-- what was found after reads that say this of an image
pub finds-after : {T : Type 0} (r : Result T StoreFault) (S : List ℕ → Type 0) (P : List ℕ → T → Type 0)
    (Q : List ℕ → LayoutFault → Type 0) (old mid new : Medium) → ((image : List ℕ) → MayBe mid image → S image)
    → ((image : List ℕ) → MayBe mid image → MayBe old image) → (old.honest → Stays old mid) → Called old mid None
    → Finds (λ image x. S image → P image x) (λ image f. S image → Q image f) mid new r → Finds P Q old new r
finds-after r S P Q old mid new says gives stays called inner = record {
  found = λ image may. recovers-given r (S image) (P image) (Q image) (says image (inner.gives image may)) (inner.found image may);
  gives = λ image may. gives image (inner.gives image may);
  stays = λ honest. stays_on old mid new (stays honest) (inner.stays (called.honest.0 honest));
  called = called_on old mid new _ called inner.called;
}

-- ---- the superblock

-- what is decoded from the first 512 bytes is what the image says
pub super-read : (image bytes : List ℕ) (said : Result SuperHead LayoutFault) → 512 ≤ length image
    → bytes ≡ piece 0 512 image → said ≡ super_in bytes → said ≡ super_in image
super-read image bytes said room read is = is ∙ ap super_in read ∙ super_in-slice image room

pub refused-read : (image bytes : List ℕ) (fault : LayoutFault) → 512 ≤ length image → bytes ≡ piece 0 512 image
    → (let r : Result SuperHead LayoutFault = Err fault in r) ≡ super_in bytes → reading image ≡ Err fault
refused-read image bytes fault room read is = reading-no_geometry image fault
    (sym (super-fault fault image (sym (super-read image bytes (Err fault) room read is))))

-- ---- headers

-- what is decoded from a read of a header is what the image says
pub head-read : (g : Geometry) (j at : ℕ) (image bytes : List ℕ) (said : Result (Option SegmentHead) Damage)
    → IsTrue (is_good g) → at ≡ segment_at g j → bytes ≡ piece at 512 image
    → said ≡ checked_header g (header_at g bytes 0)
    → said ≡ checked_header g (header_at g image (segment_at g j))
head-read g j at image bytes said good at_is read is =
    let count : 512 ≡ at + 512 - at = omega arith in
    is ∙ ap (λ (b : List ℕ). checked_header g (header_at g b 0)) (read ∙ ap (λ (n : ℕ). take n (drop at image)) count)
    ∙ ap (checked_header g) (header_at-slice g image at (limits g good).slots.1 ∙ ap (header_at g image) at_is)

-- a header that is returned is the one on the disk
pub head-same : (g : Geometry) (said h : Option SegmentHead) → (let r : Result (Option SegmentHead) Damage = Ok said in r) ≡ checked_header g h → said ≡ h
head-same g said None e = cc
head-same g said (Some h) e = go (is_too_high g h.block) e
  where
    ok : Option SegmentHead → Result (Option SegmentHead) Damage
    ok x = Ok x

    go : (t : Bool) → ok said ≡ cond t (Err Damage.BlockTooHigh) (ok (Some h)) → said ≡ Some h
    go true e = absurd cc
    go false e = cc

-- and has no more frames than there are slots, and no block that is too high
pub head-in : (g : Geometry) (bytes : List ℕ) (at : ℕ) (said : Option SegmentHead)
    → (let r : Result (Option SegmentHead) Damage = Ok said in r) ≡ checked_header g (header_at g bytes at)
    → IsHeadIn g said
head-in g bytes at said e = gate (is_open bytes at) e
  where
    there : SegmentHead
    there = record { block = little_from (at + 8) 8 bytes; frames = open_gates g.slots bytes (at + 256) }

    ok : Option SegmentHead → Result (Option SegmentHead) Damage
    ok x = Ok x

    low : (t : Bool) → is_too_high g there.block ≡ t → ok said ≡ cond t (Err Damage.BlockTooHigh) (ok (Some there))
        → IsHeadIn g said
    low true up e = absurd cc
    low false up e =
        let same : said ≡ Some there = cc in
        subst (IsHeadIn g) (sym same) (prefix_range-le (λ i. is_open bytes (at + 256 + i)) 0 g.slots, up)

    gate : (t : Bool) → ok said ≡ checked_header g (cond t (Some there) None) → IsHeadIn g said
    gate true e = low (is_too_high g there.block) refl e
    gate false e =
        let same : said ≡ None = cc in
        subst (IsHeadIn g) (sym same) tt

-- a header that is refused has a block that is too high
pub head-high : (g : Geometry) (image : List ℕ) (j : ℕ) (d : Damage)
    → (let r : Result (Option SegmentHead) Damage = Err d in r) ≡ checked_header g (header_at g image (segment_at g j))
    → (LayoutFault.Damaged d ≡ LayoutFault.Damaged Damage.BlockTooHigh) × IsSomeHigh g (segment_in g image j)
head-high g image j d e =
    let k = found-high g image j d e in
    (ap (λ (x : Damage). LayoutFault.Damaged x) k.0, k.1)

-- one more header that was read
pub heads-more : (g : Geometry) (image : List ℕ) (n : ℕ) (said : Option SegmentHead)
    (heads new : List (Option SegmentHead)) → said ≡ header_at g image (segment_at g n)
    → heads ≡ map (λ j. header_at g image (segment_at g j)) (range_with_len 0 n) → new ≡ heads ++ said ∷ []
    → new ≡ map (λ j. header_at g image (segment_at g j)) (range_with_len 0 (n + 1))
heads-more g image n said heads new is so_far pushed =
    let f = λ (j : ℕ). header_at g image (segment_at g j) in
    let at : 0 + n ≡ n = omega arith in
    pushed ∙ (λ i. so_far i ++ is i ∷ [])
    ∙ sym (ap (map f) (range_append 0 n 1) ∙ map-append f (range_with_len 0 n) (range_with_len (0 + n) 1)
    ∙ ap (λ (k : ℕ). map f (range_with_len 0 n) ++ f k ∷ []) at)

-- ---- slots

-- what is decoded from a read of a slot's head is what the image says
pub slot-read : (g : Geometry) (j i number at n : ℕ) (image head : List ℕ) (said : Result FrameHead Damage)
    → at ≡ slot_at g j i → n ≡ frame_bytes g → head ≡ piece at 32 image → said ≡ slot_head n number (slot_in n head 0)
    → said ≡ slot_head (frame_bytes g) number (slot_in (frame_bytes g) image (slot_at g j i))
slot-read g j i number at n image head said at_is n_is read is = sym (head_read g j i number at n image head said at_is n_is read is)

pub slot-right : (n number : ℕ) (s : Slot) (h : FrameHead) → (let r : Result FrameHead Damage = Ok h in r) ≡ slot_head n number s → is_slot_of n number s ≡ true
slot-right n number s h e = go (is_slot_of n number s) refl e
  where
    ok : FrameHead → Result FrameHead Damage
    ok x = Ok x

    go : (t : Bool) → is_slot_of n number s ≡ t → ok h ≡ cond t (ok (head number s.picture)) (Err Damage.SlotHead)
        → is_slot_of n number s ≡ true
    go true is e = is
    go false is e = absurd cc

-- ---- loops

-- a slot that was refused
pub slots-wrong : (g : Geometry) (image : List ℕ) (f : Found) (i number : ℕ) → number ≡ f.block * g.slots + i
    → i < f.frames → is_slot_of (frame_bytes g) number (slot_in (frame_bytes g) image (slot_at g f.segment i)) ≡ false
    → is_bad_slot g (segment_of g image f) ≡ true
slots-wrong g image f i number counted l fails =
    slots-bad g image f i l (sym (λ q. is_slot_of (frame_bytes g) (counted q) (slot_in (frame_bytes g) image (slot_at g f.segment i))) ∙ fails)

-- and one that holds its frame
pub slots-right : (g : Geometry) (image : List ℕ) (j i first number : ℕ) → number ≡ first + i
    → hold_from (frame_bytes g) first (read_slots g image j i) ≡ true → is_slot_of (frame_bytes g) number
    (slot_in (frame_bytes g) image (slot_at g j i)) ≡ true
    → hold_from (frame_bytes g) first (read_slots g image j (i + 1)) ≡ true
slots-right g image j i first number counted held one =
    slots-hold g image j i first held (sym (λ q. is_slot_of (frame_bytes g) (counted q) (slot_in (frame_bytes g) image (slot_at g j i))) ∙ one)

-- ---- the clip table

pub table-bad : (g : Geometry) (version : ℕ) (image table : List ℕ) (fs : List Found) (t : Bool) → IsTrue (is_good g)
    → AreIn g fs → version_in image ≡ version → table ≡ piece 512 2048 image → list_any (lacks_number g fs)
    (table_clips version table) ≡ t → some_bad_clip g image fs ≡ t
table-bad g version image table fs t good within is read e = bad-lacks g image fs t (limits g good).slots.0 within
    ((λ i. list_any (lacks_number g fs) (table_clips (is i) (sym read i))) ∙ e)

pub table-read : (version : ℕ) (image table : List ℕ) (clips : List (Option Span)) → version_in image ≡ version
    → table ≡ piece 512 2048 image → clips ≡ table_clips version table → clips ≡ clips_of image
table-read version image table clips is read are = are ∙ (λ i. table_clips (sym is i) (read i)) ∙ clips-table image

pub table-length : (version : ℕ) (table : List ℕ) → length (table_clips version table) ≡ 64
table-length version table = length-map (range_with_len 0 64) (λ id. entry_at version table (id * 32)) ∙ length-range 0 64
