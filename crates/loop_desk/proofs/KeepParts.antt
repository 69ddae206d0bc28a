-- What a keep does, put together from its parts, and that it is whole.
use Rattle.std.proofs.Common.{◌≡◌, ◌≢◌, ℕ, suc, ◌+◌, ◌<◌, inl, inr, Option, Some, None, Result, Ok, Err, List, [], ◌∷◌, ◌++◌, length, map, take, drop, get_or, refl, sym, ap, ◌∙◌, subst, arith}
use Rattle.std.specs.Prelude.{IsOk}
use Rattle.std.specs.Result.{result_err}
use Rattle.std.proofs.lemmas.List.{append-nil, map-append, take-append-drop, take_more}
use Rattle.std.proofs.lemmas.Option.{none-some}
use Rattle.std.proofs.Math.Seq.{drop-cons}
use Rattle.loop_clips.specs.declared.clip.Clip.{Clip}
use Rattle.loop_disk.specs.Medium.{Medium, IsSound}
use Rattle.loop_record.specs.declared.clip.Span.{Span}
use Rattle.loop_record.specs.declared.times.Times.{Times}
use Rattle.loop_record.specs.Times.{numbers_in_time, numbers_of_span, numbers_of_spans}
use Rattle.loop_store.specs.declared.fault.StoreFault.{StoreFault}
use Rattle.loop_store.specs.declared.fault.StoreFault.TheVariants.{NoMemory}
use Rattle.loop_store.specs.Reopen.{TellsOne}
use Rattle.loop_desk.specs.declared.keep.Kept.{Kept}
use Rattle.loop_desk.specs.Desk.{AreTold, DeskCall, DeskState, IsDeskTold, clip_locked, desk_after, runs_told}
use Rattle.loop_desk.specs.Keeps.{AreLocks, HaveTime, Keeps, KeepsTime, LocksEnd, clip_span, lock_of, numbers_of_clips, with_tag}
use Rattle.loop_desk.specs.Seen.{DeskGoes, OutlineRefuses, SeenDesk, rules_of}
use Rattle.loop_desk.proofs.Frames.{each-parts}
use Rattle.loop_desk.proofs.CallRuns.{desk-joined, desk-none}
use Rattle.loop_desk.proofs.TimeRuns.{told-all}

-- ---- which runs are locked

-- the run at a place with a tag, as a clip of an id
abbrev pub clip_made : List Span → ℕ → Span → ℕ → ℕ → Clip
clip_made runs count r tag id =
    record { id = id; from = (get_or runs count r).from; to = (get_or runs count r).to; tag = tag }

module _ (tag : ℕ) (runs : List Span) (clips : List Clip) where
  -- one more
  pub locked-more : (count id : ℕ) (r : Span) → count < length runs
      → map clip_span clips ≡ map (with_tag tag) (take count runs)
      → map clip_span (clips ++ clip_made runs count r tag id ∷ []) ≡ map (with_tag tag) (take (count + 1) runs)
  locked-more count id r below first =
      let clip : Clip = clip_made runs count r tag id in
      map-append clip_span clips (clip ∷ []) ∙ ap (λ l. l ++ clip_span clip ∷ []) first
      ∙ sym (map-append (with_tag tag) (take count runs) (get_or runs count r ∷ []))
      ∙ ap (map (with_tag tag)) (sym (take_more runs count r below))

  -- all but one, and those after it
  pub locked-until : (count : ℕ) (r : Span) → count < length runs
      → map clip_span clips ≡ map (with_tag tag) (take count runs)
      → map (with_tag tag) runs
      ≡ map clip_span clips ++ with_tag tag (get_or runs count r) ∷ map (with_tag tag) (drop (count + 1) runs)
  locked-until count r below first =
      let at : suc count ≡ count + 1 = omega arith in
      let rest : drop count runs ≡ get_or runs count r ∷ drop (count + 1) runs =
      drop-cons runs count r below ∙ ap (λ n. get_or runs count r ∷ drop n runs) at in
      ap (map (with_tag tag)) (sym (take-append-drop count runs) ∙ ap (λ l. take count runs ++ l) rest)
      ∙ map-append (with_tag tag) (take count runs) (get_or runs count r ∷ drop (count + 1) runs)
      ∙ ap (λ l. l ++ with_tag tag (get_or runs count r) ∷ map (with_tag tag) (drop (count + 1) runs)) (sym first)

-- a tag doesn't change the numbers
tagged-numbers : (tag : ℕ) (runs : List Span) → numbers_of_spans (map (with_tag tag) runs) ≡ numbers_of_spans runs
tagged-numbers tag [] = refl
tagged-numbers tag (r ∷ rs) = ap (λ (l : List ℕ). numbers_of_span r ++ l) (tagged-numbers tag rs)

-- where none is left, the clips have the numbers of the runs
pub locked-numbers : (tag : ℕ) (runs left : List Span) (clips : List Clip)
    → map (with_tag tag) runs ≡ map clip_span clips ++ left → left ≡ []
    → numbers_of_clips clips ≡ numbers_of_spans runs
locked-numbers tag runs left clips locked none =
    ap numbers_of_spans (sym (append-nil (map clip_span clips))
    ∙ ap (λ (l : List Span). map clip_span clips ++ l) (sym none) ∙ sym locked)
    ∙ tagged-numbers tag runs

-- ---- one run after the other

-- the lock of a run, with its answer
abbrev pub lock_at : List Span → ℕ → Span → ℕ → Result ℕ StoreFault → DeskCall
lock_at runs count r tag result =
    clip_locked (record { from = (get_or runs count r).from; to = (get_or runs count r).to; tag = tag }) result

-- the first n runs are locked, all without a refusal
pub record LocksFirst {D : Type 0} (medium : D → Medium) (tag count : ℕ) (runs : List Span) (clips : List Clip)
    (old new : SeenDesk D) : Type 0 where
  pub goes : DeskGoes medium old new (map lock_of clips)
  pub locked : map clip_span clips ≡ map (with_tag tag) (take count runs)

-- some calls of a desk are these locks
abbrev pub LocksRuns : {D : Type 0} → (D → Medium) → ℕ → List Span → List Clip → SeenDesk D → SeenDesk D
    → Result (Unit {0}) StoreFault → Type 0
LocksRuns medium tag runs clips old new result =
    (calls : List DeskCall) × (DeskGoes medium old new calls × AreLocks tag runs clips (result_err result) calls)

module _ {D : Type 0} (medium : D → Medium) (tag : ℕ) where
  -- none
  pub lock-none : (runs : List Span) (desk : SeenDesk D) → TellsOne desk.store
      → ((medium desk.store.disk).honest → IsSound (medium desk.store.disk))
      → LocksFirst medium tag 0 runs [] desk desk
  lock-none runs desk one sound = record { goes = desk-none medium desk one sound; locked = refl }

  -- one more
  pub lock-more : (count id : ℕ) (runs : List Span) (r : Span) (clips : List Clip) (old mid new : SeenDesk D)
      → count < length runs → LocksFirst medium tag count runs clips old mid
      → DeskGoes medium mid new (lock_at runs count r tag (Ok id) ∷ [])
      → LocksFirst medium tag (count + 1) runs
      (clips ++ clip_made runs count r tag id ∷ []) old new
  lock-more count id runs r clips old mid new below first goes =
      let clip : Clip = clip_made runs count r tag id in
      record {
        goes = subst (λ (l : List DeskCall). DeskGoes medium old new l) (sym (map-append lock_of clips (clip ∷ [])))
            (desk-joined medium old mid new (map lock_of clips) (lock_of clip ∷ []) first.goes goes);
        locked = locked-more tag runs clips count id r below first.locked;
      }

  -- one was refused
  pub lock-refused : (count : ℕ) (fault : StoreFault) (runs : List Span) (r : Span) (clips : List Clip)
      (old mid new : SeenDesk D) → count < length runs → LocksFirst medium tag count runs clips old mid
      → DeskGoes medium mid new (lock_at runs count r tag (Err fault) ∷ [])
      → LocksRuns medium tag runs clips old new (Err fault)
  lock-refused count fault runs r clips old mid new below first goes =
      let span = with_tag tag (get_or runs count r) in
      let refusal = clip_locked span (Err fault) ∷ [] in (
        map lock_of clips ++ refusal,
        (
          desk-joined medium old mid new (map lock_of clips) refusal first.goes goes,
          record {
            left = span ∷ map (with_tag tag) (drop (count + 1) runs);
            locked = locked-until tag runs clips count r below first.locked;
            refusal = refusal;
            ended = refl;
            calls_are = refl;
          },
        ),
      )

-- ---- both

-- no memory is refused for nothing
pub not-none : {T E : Type 0} (result : Result T E) (fault : E) (n : ℕ) → (n ≡ 0 → IsOk result) → result ≡ Err fault
    → n ≢ 0
not-none (Ok x) fault n succeeds is none = absurd cc
not-none (Err e) fault n succeeds is none = let never = succeeds none in absurd cc

module _ {D A : Type 0} (medium : D → Medium) (times : Times) (tag : ℕ) where
  -- the desk returned no runs
  pub keeps-none : (desk : SeenDesk D) (kept : Kept A) (fault : StoreFault) → TellsOne desk.store
      → ((medium desk.store.disk).honest → IsSound (medium desk.store.disk)) → kept.clips.items ≡ []
      → kept.fault ≡ Some fault → OutlineRefuses desk fault → KeepsTime medium times tag desk desk kept
  keeps-none desk kept fault one sound empty told refused = record {
    calls = [];
    goes = desk-none medium desk one sound;
    keeps = inl (record { uncalled = refl; clips = empty; fault = fault; told = told; refused = refused });
  }

  -- the desk returned the runs, and there was no memory for clips
  pub keeps-crammed : (runs : List Span) (desk : SeenDesk D) (kept : Kept A) → runs ≢ []
      → DeskGoes medium desk desk (runs_told times 0 runs) → kept.clips.items ≡ [] → kept.fault ≡ Some NoMemory
      → KeepsTime medium times tag desk desk kept
  keeps-crammed runs desk kept some goes empty told = record {
    calls = runs_told times 0 runs;
    goes = goes;
    keeps = inr (inl (record { runs = runs; some = some; calls_are = refl; clips = empty; told = told }));
  }

  -- and they were locked, or some of them
  pub keeps-runs : (runs slice : List Span) (old new : SeenDesk D) (kept : Kept A) (result : Result (Unit {0}) StoreFault)
      → slice ≡ runs → kept.fault ≡ result_err result → DeskGoes medium old old (runs_told times 0 runs)
      → LocksRuns medium tag slice kept.clips.items old new result → KeepsTime medium times tag old new kept
  keeps-runs runs slice old new kept result same told goes locks = record {
    calls = runs_told times 0 runs ++ locks.0;
    goes = desk-joined medium old old new (runs_told times 0 runs) locks.0 goes locks.1.0;
    keeps = inr (inr (record {
      runs = runs;
      locks = locks.0;
      are = subst (λ (l : List Span). AreLocks tag l kept.clips.items kept.fault locks.0) same
          (subst (λ (f : Option StoreFault). AreLocks tag slice kept.clips.items f locks.0) (sym told) locks.1.1);
      calls_are = refl;
    }));
  }

-- ---- a keep is whole

-- where no fault is returned, no run is left
none-refused : (left : List Span) (fault : Option StoreFault) (calls : List DeskCall) → LocksEnd left fault calls
    → fault ≡ None → left ≡ []
none-refused [] fault calls ends none = refl
none-refused (r ∷ left) None calls ends none = absurd ends
none-refused (r ∷ left) (Some fault) calls ends none = absurd (none-some fault (sym none))

module _ {D A : Type 0} (medium : D → Medium) (times : Times) (tag : ℕ) (old new : SeenDesk D) (kept : Kept A) where
  clips-whole : (calls : List DeskCall) (s : DeskState) → Keeps times tag old calls kept → kept.fault ≡ None
      → AreTold (rules_of old) s calls → numbers_of_clips kept.clips.items ≡ numbers_in_time times s.store.recording
  clips-whole calls s (inl n) none told = absurd (none-some n.fault (sym none ∙ n.told))
  clips-whole calls s (inr (inl n)) none told = absurd (none-some _ (sym none ∙ n.told))
  clips-whole calls s (inr (inr h)) none told =
      let k = rules_of old in
      let all = none-refused h.are.left kept.fault h.are.refusal h.are.ended none in
      let parts = subst (λ (l : List DeskCall). AreTold k s l) h.calls_are told in
      locked-numbers tag h.runs h.are.left kept.clips.items h.are.locked all
      ∙ told-all k times h.runs s (each-parts (desk_after k) (IsDeskTold k) s (runs_told times 0 h.runs) h.locks parts).0

  pub keeps-whole : KeepsTime medium times tag old new kept → kept.fault ≡ None → HaveTime times old kept.clips.items
  keeps-whole h none s tells = clips-whole h.calls s h.keeps none (h.goes.plays s tells).0
