-- What a lock and an unlock make of the clip table.
use Rattle.std.proofs.Common.{◌≡◌, ◌≢◌, inl, inr, ℕ, ◌+◌, ◌<◌, ◌≤◌, Bool, true, false, not, zero, suc, cond, eqb, ltb, is_some, Option, None, Some, Result, OnOk, List, [], ◌∷◌, length, drop, get_or, refl, sym, ap, ◌∙◌, subst, arith}
use Rattle.std.proofs.lemmas.List.{get_or-drop}
use Rattle.std.proofs.lemmas.List.Sums.{prefix_len-le-length}
use Rattle.std.specs.List.{position}
use Rattle.std.proofs.lemmas.Result.{on_ok_weaker}
use Rattle.loop_disk.specs.declared.fault.DiskFault.{DiskFault}
use Rattle.loop_disk.specs.Medium.{Medium, with_bytes_at, SameOutside, IsSettled, LeavesOnly}
use Rattle.loop_disk.specs.Steps.{Stores, StoresInTurn, TornInTurn}
use Rattle.loop_disk.proofs.Moments.{stored, weaker}
use Rattle.loop_disk.proofs.Images.{both, get_or-written_there, length-written, widened, written_outside}
use Rattle.loop_record.specs.declared.clip.Span.{Span}
use Rattle.loop_record.specs.Change.{ShowsClip}
use Rattle.loop_record.specs.Geometry.{clip_at}
use Rattle.loop_record.specs.Layout.{clip_in, entry_at, entry_bytes, is_open, version_in}
use Rattle.loop_record.specs.Laws.{FitsEntry}
use Rattle.loop_record.specs.Recording.{first_free}
use Rattle.loop_record.proofs.TestFacts.{at_most, equal, not_below}
use Rattle.loop_record.proofs.OwnBytes.{moved_entry}
use Rattle.loop_record.proofs.Parts.{version-outside}
use Rattle.loop_record.proofs.Fresh.{written-entry}
use Rattle.loop_clips.specs.Table.{IsFirstFree, ShowsClipOrNot}

-- what the entry of a clip has after its gate
pub record IsEntry (version : ℕ) (s : Span) (entry : List ℕ) : Type 0 where
  pub is : entry ≡ drop 1 (entry_bytes s)
  pub fits : FitsEntry version s

entry-size : (version : ℕ) (s : Span) (entry : List ℕ) → IsEntry version s entry → length entry ≡ 31
entry-size version s entry e = ap length e.is

-- an entry is open where its gate is
closed_none : (c : List ℕ) (id : ℕ) → is_open c (clip_at id) ≡ false → clip_in c id ≡ None
closed_none c id e = rw e refl

pub none_closed : (c : List ℕ) (id : ℕ) → clip_in c id ≡ None → is_open c (clip_at id) ≡ false
none_closed c id e = go (is_open c (clip_at id)) _ e
  where
    go : (t : Bool) (s : Span) → cond t (Some s) None ≡ None → t ≡ false
    go true s e = absurd cc
    go false s e = refl

-- ---- a lock

-- an image with that entry after its gate
entry_there : (id k : ℕ) (entry old c : List ℕ) → length entry ≡ 31 → clip_at id + 32 ≤ length old
    → SameOutside (clip_at id) 1 (with_bytes_at (clip_at id + 1) entry old) c → k < 31
    → get_or c (clip_at id + 1 + k) 0 ≡ get_or entry k 0
entry_there id k entry old c size fits torn l =
    torn.behind (clip_at id + 1 + k) (omega arith) ∙ get_or-written_there (clip_at id + 1) entry old k (omega (arith, fits)) (omega (arith, size, l))

entry_outside : (id : ℕ) (entry old : List ℕ) → length entry ≡ 31 → clip_at id + 32 ≤ length old
    → SameOutside (clip_at id) 32 old (with_bytes_at (clip_at id + 1) entry old)
entry_outside id entry old size fits =
    widened (clip_at id + 1) (length entry) (clip_at id) 32 old _
    (written_outside (clip_at id + 1) entry old (omega (arith, size, fits))) (omega arith) (omega (arith, size))

locked_there : (id : ℕ) (s : Span) (entry old c : List ℕ) → IsEntry (version_in old) s entry
    → clip_at id + 32 ≤ length old → SameOutside (clip_at id) 1 (with_bytes_at (clip_at id + 1) entry old) c
    → SameOutside (clip_at id) 32 old c
    → is_open c (clip_at id) ≡ true → clip_in c id ≡ Some s
locked_there id s entry old c e fits torn outside gate =
    let at = clip_at id in
    ap (λ (v : ℕ). entry_at v c at) (version-outside (clip_at id) 32 old c (omega arith) outside)
    ∙ moved_entry (version_in old) at 0 c (entry_bytes s) byte ∙ written-entry (version_in old) s e.fits
  where
    byte : (k : ℕ) → k < 32 → get_or c (clip_at id + k) 0 ≡ get_or (entry_bytes s) (0 + k) 0
    byte zero l =
        let here : clip_at id + 0 ≡ clip_at id = omega arith in
        ap (λ (x : ℕ). get_or c x 0) here ∙ equal (get_or c (clip_at id) 0) 0xA5 gate
    byte (suc k) l =
        let place : clip_at id + suc k ≡ clip_at id + 1 + k = omega arith in
        let first : 0 + suc k ≡ 1 + k = omega arith in
        ap (λ (x : ℕ). get_or c x 0) place ∙ entry_there id k entry old c (entry-size (version_in old) s entry e) fits torn (omega (arith, l))
        ∙ ap (λ (b : List ℕ). get_or b k 0) e.is ∙ get_or-drop 1 (entry_bytes s) k 0 ∙ ap (λ (x : ℕ). get_or (entry_bytes s) x 0) (sym first)

lock_torn : (id : ℕ) (s : Span) (entry old c : List ℕ) → IsEntry (version_in old) s entry
    → clip_at id + 32 ≤ length old → clip_in old id ≡ None
    → TornInTurn (clip_at id + 1) entry (clip_at id) 1 old c → ShowsClipOrNot id (Some s) old c
lock_torn id s entry old c e fits closed (inl torn) =
    let outside : SameOutside (clip_at id) 32 old c = widened (clip_at id + 1) (length entry)
    (clip_at id) 32 old c torn (omega arith) (omega (arith, entry-size (version_in old) s entry e)) in
    let gate : is_open c (clip_at id) ≡ false = ap (λ (k : ℕ). eqb k 0xA5) (torn.before (clip_at id) (omega arith)) ∙ none_closed old id closed in
    inl (record { outside = outside; holds = closed_none c id gate ∙ sym closed })
lock_torn id s entry old c e fits closed (inr torn) = go (is_open c (clip_at id)) refl
  where
    outside : SameOutside (clip_at id) 32 old c
    outside = both (clip_at id) 32 old _ c (entry_outside id entry old (entry-size (version_in old) s entry e) fits)
        (widened (clip_at id) 1 (clip_at id) 32 _ c torn (omega arith) (omega arith))

    go : (t : Bool) → is_open c (clip_at id) ≡ t → ShowsClipOrNot id (Some s) old c
    go true o = inr (record { outside = outside; holds = locked_there id s entry old c e fits torn outside o })
    go false o = inl (record { outside = outside; holds = closed_none c id o ∙ sym closed })

-- both stores done
lock_done : (id : ℕ) (s : Span) (entry old : List ℕ) → IsEntry (version_in old) s entry → clip_at id + 32 ≤ length old
    → ShowsClip id (Some s) old (with_bytes_at (clip_at id) (165 ∷ []) (with_bytes_at (clip_at id + 1) entry old))
lock_done id s entry old e fits =
    let at = clip_at id in
    let long = entry-size (version_in old) s entry e in
    let mid = with_bytes_at (at + 1) entry old in
    let size = length-written (at + 1) entry old (omega (arith, long, fits)) in
    let torn : SameOutside at 1 mid (with_bytes_at at (165 ∷ []) mid) = written_outside at (165 ∷ []) mid (omega (arith, long, fits, size)) in
    let there : at ≡ at + 0 = omega arith in
    let gate : get_or (with_bytes_at at (165 ∷ []) mid) at 0 ≡ 165 =
    ap (λ (k : ℕ). get_or (with_bytes_at at (165 ∷ []) mid) k 0) there ∙ get_or-written_there at (165 ∷ []) mid 0
    (omega (arith, fits, size)) (omega arith) in
    let outside = both at 32 old mid _ (entry_outside id entry old long fits) (widened at 1 at 32 mid _ torn (omega arith) (omega arith)) in
    record { outside = outside; holds = locked_there id s entry old _ e fits torn outside (ap (λ (k : ℕ). eqb k 0xA5) gate) }

-- the gate after its entry
stores_there : {T : Type 0} (id at : ℕ) (entry gate : List ℕ) (old new : Medium) (r : Result T DiskFault)
    → at ≡ clip_at id → gate ≡ 165 ∷ []
    → StoresInTurn (at + 1) entry at gate old new r → StoresInTurn (clip_at id + 1) entry (clip_at id) (165 ∷ []) old new r
stores_there id at entry gate old new r is opens stores =
    subst (λ (k : ℕ). StoresInTurn (k + 1) entry k (165 ∷ []) old new r) is
    (subst (λ (bytes : List ℕ). StoresInTurn (at + 1) entry at bytes old new r) opens stores)

pub lock_moments : {T : Type 0} (id : ℕ) (s : Span) (at : ℕ) (entry gate : List ℕ) (old new : Medium)
    (r : Result T DiskFault) → at ≡ clip_at id → gate ≡ 165 ∷ [] → IsEntry (version_in old.bytes) s entry
    → clip_at id + 32 ≤ length old.bytes → clip_in old.bytes id ≡ None
    → StoresInTurn (at + 1) entry at gate old new r → LeavesOnly old new (ShowsClipOrNot id (Some s) old.bytes)
lock_moments id s at entry gate old new r is opens e fits closed stores =
    weaker old new _ _ (stores_there id at entry gate old new r is opens stores).moments (λ c torn. lock_torn id s entry old.bytes c e fits closed torn)

pub lock_ok : {T : Type 0} (id : ℕ) (s : Span) (at : ℕ) (entry gate : List ℕ) (old new : Medium)
    (r : Result T DiskFault) → at ≡ clip_at id → gate ≡ 165 ∷ [] → IsEntry (version_in old.bytes) s entry
    → clip_at id + 32 ≤ length old.bytes
    → StoresInTurn (at + 1) entry at gate old new r → OnOk r (ShowsClip id (Some s) old.bytes new.bytes)
lock_ok id s at entry gate old new r is opens e fits stores =
    on_ok_weaker r (λ (d : new.bytes ≡ with_bytes_at (clip_at id) (165 ∷ [])
    (with_bytes_at (clip_at id + 1) entry old.bytes)). subst (ShowsClip id (Some s) old.bytes) (sym d)
    (lock_done id s entry old.bytes e fits)) (stores_there id at entry gate old new r is opens stores).done

-- ---- an unlock

some_open : (c : List ℕ) (id : ℕ) → clip_in c id ≢ None → is_open c (clip_at id) ≡ true
some_open c id some = go (is_open c (clip_at id)) refl
  where
    go : (t : Bool) → is_open c (clip_at id) ≡ t → is_open c (clip_at id) ≡ true
    go true e = e
    go false e = absurd (some (closed_none c id e))

unlock_torn : (id : ℕ) (old c : List ℕ) → clip_in old id ≢ None → SameOutside (clip_at id) 1 old c
    → ShowsClipOrNot id None old c
unlock_torn id old c some torn = go (is_open c (clip_at id)) refl
  where
    wide : SameOutside (clip_at id) 32 old c
    wide = widened (clip_at id) 1 (clip_at id) 32 old c torn (omega arith) (omega arith)

    go : (t : Bool) → is_open c (clip_at id) ≡ t → ShowsClipOrNot id None old c
    go false o = inr (record { outside = wide; holds = closed_none c id o })
    go true o = inl (record {
      outside = wide;
      holds = ap (λ (v : ℕ). entry_at v c (clip_at id))
          (version-outside (clip_at id) 32 old c (omega arith) wide) ∙ moved_entry (version_in old) (clip_at id)
          (clip_at id) c old byte;
    })
      where
        byte : (k : ℕ) → k < 32 → get_or c (clip_at id + k) 0 ≡ get_or old (clip_at id + k) 0
        byte zero l =
            let here : clip_at id + 0 ≡ clip_at id = omega arith in
            let gate = equal (get_or c (clip_at id) 0) 0xA5 o ∙ sym (equal (get_or old (clip_at id) 0) 0xA5 (some_open old id some)) in
            ap (λ (x : ℕ). get_or c x 0) here ∙ gate ∙ ap (λ (x : ℕ). get_or old x 0) (sym here)
        byte (suc k) l = torn.behind (clip_at id + suc k) (omega arith)

unlock_done : (id : ℕ) (old : List ℕ) → clip_at id + 32 ≤ length old
    → ShowsClip id None old (with_bytes_at (clip_at id) (0 ∷ []) old)
unlock_done id old fits =
    let at = clip_at id in
    let there : at + 0 ≡ at = omega arith in
    let gate : get_or (with_bytes_at at (0 ∷ []) old) at 0 ≡ 0 =
    sym (ap (λ (k : ℕ). get_or (with_bytes_at at (0 ∷ []) old) k 0) there)
    ∙ get_or-written_there at (0 ∷ []) old 0 (omega (arith, fits)) (omega arith) in record {
      outside = widened at 1 at 32 old _ (written_outside at (0 ∷ []) old (omega (arith, fits))) (omega arith) (omega arith);
      holds = closed_none _ id (ap (λ (k : ℕ). eqb k 0xA5) gate);
    }

pub unlock_moments : {T : Type 0} (id at : ℕ) (old new : Medium) (r : Result T DiskFault) → at ≡ clip_at id
    → IsSettled old → clip_in old.bytes id ≢ None → Stores at (0 ∷ []) old new r
    → LeavesOnly old new (ShowsClipOrNot id None old.bytes)
unlock_moments id at old new r is settled some stores =
    stored at (0 ∷ []) old new r _ settled stores (λ c torn. unlock_torn id old.bytes c some (subst (λ (k : ℕ). SameOutside k 1 old.bytes c) is torn))

pub unlock_ok : {T : Type 0} (id at : ℕ) (old new : Medium) (r : Result T DiskFault) → at ≡ clip_at id
    → clip_at id + 32 ≤ length old.bytes → Stores at (0 ∷ []) old new r → OnOk r (ShowsClip id None old.bytes new.bytes)
unlock_ok id at old new r is fits stores =
    on_ok_weaker r (λ (e : new.bytes ≡ with_bytes_at at (0 ∷ []) old.bytes). subst (ShowsClip id None old.bytes)
    (sym (e ∙ ap (λ (k : ℕ). with_bytes_at k (0 ∷ []) old.bytes) is)) (unlock_done id old.bytes fits)) stores.done

-- ---- the first free place

pub place_free : (clips : List (Option Span)) (id : ℕ) → length clips ≡ 64
    → position (λ c. not (is_some c)) clips ≡ Some id → IsFirstFree clips (Some id)
place_free clips id size is = go (ltb (first_free clips) (length clips)) refl is
  where
    go : (t : Bool) → ltb (first_free clips) (length clips) ≡ t → cond t (Some (first_free clips)) None ≡ Some id
        → IsFirstFree clips (Some id)
    go true l e = let same : first_free clips ≡ id = cc in (omega (arith, at_most (suc (first_free clips)) (length clips) l, same, size), sym same)
    go false l e = absurd cc

pub place_none : (clips : List (Option Span)) → length clips ≡ 64 → position (λ c. not (is_some c)) clips ≡ None
    → IsFirstFree clips None
place_none clips size is = go (ltb (first_free clips) (length clips)) refl is
  where
    go : (t : Bool) → ltb (first_free clips) (length clips) ≡ t → cond t (Some (first_free clips)) None ≡ None
        → first_free clips ≡ 64
    go true l e = absurd cc
    go false l e = omega (arith, not_below (first_free clips) (length clips) l, prefix_len-le-length (λ c. not (not (is_some c))) clips, size)
