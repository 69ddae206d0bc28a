-- What an upgrade leaves of a disk, write by write.
use Rattle.std.proofs.Common.{◌≡◌, ◌⊎◌, inl, inr, ℕ, ◌+◌, ◌<◌, ◌≤◌, true, false, cond, eqb, is_some, Option, None, Result, OnOk, List, [], ◌∷◌, length, get_or, replicate, refl, sym, ap, ◌∙◌, subst, arith}
use Rattle.std.proofs.lemmas.Bool.{cases_lt}
use Rattle.std.proofs.lemmas.Result.{on_ok_weaker}
use Rattle.byteorder.specs.Endian.{little_from}
use Rattle.loop_disk.specs.declared.fault.DiskFault.{DiskFault}
use Rattle.loop_disk.specs.Calls.{Called, Writes}
use Rattle.loop_disk.specs.Medium.{Medium, IsSound, IsSettled, LeavesOnly, SameOutside, TornAt, with_bytes_at}
use Rattle.loop_disk.specs.Steps.{Stores}
use Rattle.loop_disk.proofs.Images.{get_or-written_before, get_or-written_there, written_outside}
use Rattle.loop_disk.proofs.Moments.{each_now, called_on, started, goes_on, joined, stored, weaker}
use Rattle.loop_record.specs.declared.clip.Span.{Span}
use Rattle.loop_record.specs.Change.{KeepsClips, SameButTags, HasNoTags}
use Rattle.loop_record.specs.Geometry.{clip_at}
use Rattle.loop_record.specs.Layout.{clip_in, is_open, version_in}
use Rattle.loop_record.proofs.TestFacts.{clash}
use Rattle.loop_record.proofs.Fields.{moved_number}
use Rattle.loop_record.proofs.UpgradeImages.{kept-on, kept-tags, kept-opened}
use Rattle.loop_clips.specs.Upgrade.{AreOpen, IsUpgraded}
use Rattle.loop_clips.proofs.TableLocks.{none_closed}

-- ---- images

same : (image : List ℕ) → SameButTags image image
same image = record {
  size = refl;
  before = λ i l. refl;
  entries = λ id k l u. refl;
  closed = λ id k l u e. refl;
  behind = λ i l. refl;
}

-- any bytes in the place of one tag, of an open entry
torn-tag : (id : ℕ) (old mid new : List ℕ) → id < 64 → is_open old (clip_at id) ≡ true → SameButTags old mid
    → SameOutside (clip_at id + 24) 8 mid new → SameButTags old new
torn-tag id old mid new l gate s torn = record {
  size = torn.size ∙ s.size;
  before = λ i u. torn.before i (omega (arith, u)) ∙ s.before i u;
  entries = λ j k u v. entry j k v (cases_lt id j) ∙ s.entries j k u v;
  closed = λ j k u v e. other j k v e (cases_lt id j) ∙ s.closed j k u v e;
  behind = λ i u. torn.behind i (omega (arith, u, l)) ∙ s.behind i u;
}
  where
    entry : (j k : ℕ) → k < 24 → (id < j) ⊎ (j ≤ id) → get_or new (clip_at j + k) 0 ≡ get_or mid (clip_at j + k) 0
    entry j k v (inl a) = torn.behind (clip_at j + k) (omega (arith, a))
    entry j k v (inr a) = torn.before (clip_at j + k) (omega (arith, a, v))

    differs : (j : ℕ) → is_open old (clip_at j) ≡ false → (j < id) ⊎ (id ≤ j) → j ≤ id → j < id
    differs j e (inl b) a = b
    differs j e (inr b) a =
        let at : id ≡ j = omega (arith, a, b) in
        absurd (clash (is_open old (clip_at j)) (ap (λ (i : ℕ). is_open old (clip_at i)) (sym at) ∙ gate) e)

    other : (j k : ℕ) → k < 32 → is_open old (clip_at j) ≡ false → (id < j) ⊎ (j ≤ id)
        → get_or new (clip_at j + k) 0 ≡ get_or mid (clip_at j + k) 0
    other j k v e (inl a) = torn.behind (clip_at j + k) (omega (arith, a))
    other j k v e (inr a) = torn.before (clip_at j + k) (omega (arith, differs j e (cases_lt j id) a, v))

-- the gates of the entries stay
same-gate : (id : ℕ) (old new : List ℕ) → id < 64 → SameButTags old new → is_open new (clip_at id) ≡ is_open old
    (clip_at id)
same-gate id old new l s =
    let at : clip_at id ≡ clip_at id + 0 = omega arith in
    ap (λ (k : ℕ). is_open new k) at ∙ ap (λ (b : ℕ). eqb b 0xA5) (s.entries id 0 l (omega arith)) ∙ ap (λ (k : ℕ). is_open old k) (sym at)

-- zeros in the place of one tag more
pub zeros-more : (id : ℕ) (old : List ℕ) → clip_at id + 32 ≤ length old → HasNoTags id old
    → HasNoTags (id + 1) (with_bytes_at (clip_at id + 24) (replicate 8 0) old)
zeros-more id old fits none = λ i l e. go i (cases_lt i id) l e
  where
    new : List ℕ
    new = with_bytes_at (clip_at id + 24) (replicate 8 0) old

    kept : (k : ℕ) → k < clip_at id + 24 → get_or new k 0 ≡ get_or old k 0
    kept k u = get_or-written_before (clip_at id + 24) (replicate 8 0) old k (omega (arith, fits)) u

    go : (i : ℕ) → (i < id) ⊎ (id ≤ i) → i < id + 1 → is_open new (clip_at i) ≡ true
        → little_from (clip_at i + 24) 8 new ≡ 0
    go i (inl a) l e =
        moved_number 8 (clip_at i + 24) (clip_at i + 24) new old (λ k u. kept (clip_at i + 24 + k) (omega (arith, a, u)))
        ∙ none i a (sym (ap (λ (b : ℕ). eqb b 0xA5) (kept (clip_at i) (omega (arith, a)))) ∙ e)
    go i (inr a) l e =
        let at : i ≡ id = omega (arith, a, l) in
        ap (λ (j : ℕ). little_from (clip_at j + 24) 8 new) at
        ∙ moved_number 8 (clip_at id + 24) 0 new (replicate 8 0)
        (λ k u. get_or-written_there (clip_at id + 24) (replicate 8 0) old k (omega (arith, fits)) u
        ∙ ap (λ (x : ℕ). get_or (replicate 8 0) x 0) (omega arith))

-- a closed entry has none
closed-more : (id : ℕ) (image : List ℕ) → HasNoTags id image → is_open image (clip_at id) ≡ false
    → HasNoTags (id + 1) image
closed-more id image none closed = λ i l e. go i (cases_lt i id) l e
  where
    go : (i : ℕ) → (i < id) ⊎ (id ≤ i) → i < id + 1 → is_open image (clip_at i) ≡ true
        → little_from (clip_at i + 24) 8 image ≡ 0
    go i (inl a) l e = none i a e
    go i (inr a) l e = let at : i ≡ id = omega (arith, a, l) in
        absurd (clash (is_open image (clip_at id)) (sym (ap (λ (j : ℕ). is_open image (clip_at j)) at) ∙ e) closed)

-- ---- the disk

-- the present bytes are one of the run's
pub present : (old new : Medium) (P : List ℕ → Type 0) → IsSound new → LeavesOnly old new P → P new.bytes
present old new P sound run = each_now old new P sound run new.bytes sound.present

-- a write of zeros after it, done or failed
pub clearing : {T : Type 0} (id : ℕ) (old mid new : Medium) (r : Result T DiskFault) → id < 64
    → is_open old.bytes (clip_at id) ≡ true → IsSound mid → LeavesOnly old mid (SameButTags old.bytes)
    → Writes (clip_at id + 24) (replicate 8 0) mid new r → LeavesOnly old new (SameButTags old.bytes)
clearing id old mid new r l gate sound run writes =
    goes_on old mid new (SameButTags old.bytes) (TornAt (clip_at id + 24) 8 mid) run writes.time (λ c torn.
    torn-tag id old.bytes torn.0 c l gate (each_now old mid (SameButTags old.bytes) sound run torn.0 torn.1) torn.2)

-- ---- the loop

-- the tag of each id below this one is zeros, and nothing else was written
pub record IsCleared (count : ℕ) (old new : Medium) : Type 0 where
  pub moments : old.honest → LeavesOnly old new (SameButTags old.bytes)
  pub none : old.honest → HasNoTags count new.bytes
  pub called : Called old new None

pub cleared-none : (m : Medium) → (m.honest → IsSound m) → (m.honest → IsSettled m) → IsCleared 0 m m
cleared-none m sound settled = record {
  moments = λ honest. started m (SameButTags m.bytes) (sound honest) (λ c left. subst (SameButTags m.bytes) (sym (settled honest c left)) (same m.bytes));
  none = λ honest id l e. absurd (omega (arith, l));
  called = record { size = refl; honest = (λ honest. honest, λ honest. honest); failures = refl };
}

-- an id that has a clip has an open entry
pub known-open : (clips : List (Option Span)) (id : ℕ) (image : List ℕ) → id < 64 → AreOpen clips image
    → is_some (get_or clips id None) ≡ true → is_open image (clip_at id) ≡ true
known-open clips id image l known stands = known id l ∙ stands

-- an id that has a clip
pub cleared-more : {T : Type 0} (id : ℕ) (old mid new : Medium) (r : Result T DiskFault) → id < 64 → 2560 ≤ mid.size
    → (mid.honest → IsSound mid) → (old.honest → is_open old.bytes (clip_at id) ≡ true) → IsCleared id old mid
    → (mid.honest → Writes (clip_at id + 24) (replicate 8 0) mid new r)
    → (mid.honest → new.bytes ≡ with_bytes_at (clip_at id + 24) (replicate 8 0) mid.bytes) → Called mid new None → IsCleared (id + 1) old new
cleared-more id old mid new r l room sound gate so_far writes done called = record {
  moments = λ honest.
      let there = so_far.called.honest.0 honest in
      clearing id old mid new r l (gate honest) (sound there) (so_far.moments honest) (writes there);
  none = λ honest.
      let there = so_far.called.honest.0 honest in
      subst (HasNoTags (id + 1)) (sym (done there)) (zeros-more id mid.bytes (omega (arith, (sound there).length_is, room, l)) (so_far.none honest));
  called = called_on old mid new None so_far.called called;
}

-- an id without a clip
pub cleared-past : (clips : List (Option Span)) (id : ℕ) (old mid : Medium) → id < 64 → (mid.honest → IsSound mid)
    → (old.honest → AreOpen clips old.bytes) → IsCleared id old mid → is_some (get_or clips id None) ≡ false
    → IsCleared (id + 1) old mid
cleared-past clips id old mid l sound known so_far free = record {
  moments = so_far.moments;
  none = λ honest.
      let kept = present old mid (SameButTags old.bytes) (sound (so_far.called.honest.0 honest)) (so_far.moments honest) in
      closed-more id mid.bytes (so_far.none honest) (same-gate id old.bytes mid.bytes l kept ∙ known honest id l ∙ free);
  called = so_far.called;
}

-- ---- the version's gate

still-first : (old new : List ℕ) → version_in old ≡ 1 → SameButTags old new → version_in new ≡ 1
still-first old new first s = ap (λ (b : ℕ). cond (eqb b 0xA5) 2 1) (s.before 44 (omega arith)) ∙ first

pub cleared-kept : (old new : Medium) → version_in old.bytes ≡ 1 → LeavesOnly old new (SameButTags old.bytes)
    → LeavesOnly old new (KeepsClips old.bytes)
cleared-kept old new first run = weaker old new _ _ run (λ c s. kept-tags old.bytes c first s)

opened-kept : (old mid new : List ℕ) → version_in old ≡ 1 → SameButTags old mid → HasNoTags 64 mid → SameOutside 44 1 mid new → KeepsClips old new
opened-kept old mid new first s none torn = kept-on old mid new (kept-tags old mid first s) (kept-opened mid new (still-first old mid first s) none torn)

pub opened-moments : {T : Type 0} (old mid new : Medium) (r : Result T DiskFault) → version_in old.bytes ≡ 1
    → IsSound mid → LeavesOnly old mid (SameButTags old.bytes) → HasNoTags 64 mid.bytes → IsSettled mid
    → Stores 44 (165 ∷ []) mid new r
    → LeavesOnly old new (KeepsClips old.bytes)
opened-moments old mid new r first sound run none settled stores =
    joined old mid new (KeepsClips old.bytes) (cleared-kept old mid first run)
    (stored 44 (165 ∷ []) mid new r (KeepsClips old.bytes) settled stores
    (λ c torn. opened-kept old.bytes mid.bytes c first (present old mid (SameButTags old.bytes) sound run) none
    torn))

pub opened-ok : {T : Type 0} (old mid new : Medium) (r : Result T DiskFault) → version_in old.bytes ≡ 1
    → 2560 ≤ mid.size → IsSound mid → LeavesOnly old mid (SameButTags old.bytes) → HasNoTags 64 mid.bytes
    → Stores 44 (165 ∷ []) mid new r
    → OnOk r (IsUpgraded old.bytes new.bytes)
opened-ok old mid new r first room sound run none stores =
    on_ok_weaker r (λ (done : new.bytes ≡ with_bytes_at 44 (165 ∷ []) mid.bytes). subst (IsUpgraded old.bytes) (sym done)
    (record { clips = kept; closed = closed; version = second })) stores.done
  where
    fits : 2560 ≤ length mid.bytes
    fits = omega (arith, sound.length_is, room)

    tags : SameButTags old.bytes mid.bytes
    tags = present old mid (SameButTags old.bytes) sound run

    torn : SameOutside 44 1 mid.bytes (with_bytes_at 44 (165 ∷ []) mid.bytes)
    torn = written_outside 44 (165 ∷ []) mid.bytes (omega (arith, fits))

    kept : KeepsClips old.bytes (with_bytes_at 44 (165 ∷ []) mid.bytes)
    kept = opened-kept old.bytes mid.bytes _ first tags none torn

    closed : (id k : ℕ) → id < 64 → k < 32 → clip_in old.bytes id ≡ None
        → get_or (with_bytes_at 44 (165 ∷ []) mid.bytes) (clip_at id + k) 0 ≡ get_or old.bytes (clip_at id + k) 0
    closed id k l u e =
        torn.behind (clip_at id + k) (omega arith) ∙ tags.closed id k l u (none_closed old.bytes id e)

    second : version_in (with_bytes_at 44 (165 ∷ []) mid.bytes) ≡ 2
    second = ap (λ (b : ℕ). cond (eqb b 0xA5) 2 1) (get_or-written_there 44 (165 ∷ []) mid.bytes 0 (omega (arith, fits)) (omega arith))
