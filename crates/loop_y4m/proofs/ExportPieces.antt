-- What is written of a store piece by piece.
use Rattle.std.proofs.Common.{◌≡◌, ℕ, ◌+◌, ◌≤◌, Bool, false, Option, Some, None, Result, Ok, Err, List, [], ◌∷◌, ◌++◌, take, drop, refl, sym, ap, ◌∙◌, subst, append_assoc}
use Rattle.std.proofs.KnownBytes.{Appends-nil, Appends-trans}
use Rattle.std.proofs.Math.Seq.{take-add}
use Rattle.std.proofs.lemmas.List.{append-nil, take-append-drop}
use Rattle.std.specs.Prelude.{◌≢◌, IsErrAnd, flat_map}
use Rattle.std.specs.Io.KnownBytes.{Appends}
use Rattle.loop_disk.specs.declared.fault.DiskFault.{DiskFault}
use Rattle.loop_disk.specs.Calls.{with_failed}
use Rattle.loop_disk.specs.Medium.{Medium, piece}
use Rattle.loop_record.specs.declared.damage.Damage.TheVariants.{SlotHead}
use Rattle.loop_record.specs.Recording.{Recording, RiseBetween}
use Rattle.loop_record.specs.declared.geometry.Geometry.{Geometry}
use Rattle.loop_store.specs.Seen.{Seen, StandsFor}
use Rattle.loop_store.proofs.Looks.{looked-stands, stays_on}
use Rattle.loop_y4m.specs.declared.fault.ExportFault.{ExportFault}
use Rattle.loop_store.specs.declared.fault.StoreFault.TheVariants as store
use Rattle.loop_y4m.specs.declared.fault.ExportFault.TheVariants as export
use Rattle.loop_y4m.specs.Export.{IsExport, OnlyRead, Stopped, frames_between}
use Rattle.loop_y4m.specs.Steps.{IsFirstBetween, Moved, MovedAll}
use Rattle.loop_y4m.specs.Text.{AppendsSome, frame, header, text}
use Rattle.loop_y4m.proofs.Ranges.{first_between, frame_there}

-- ---- the store

-- reads, and reads after them
pub only_joined : {D : Type 0} (medium : D → Medium) (old mid new : Seen D) (failed : Option DiskFault)
    → OnlyRead medium old mid None → OnlyRead medium mid new failed → OnlyRead medium old new failed
only_joined {D} medium old mid new failed first second = record {
  same = second.same ∙ ap (λ (s : Seen D). record s { disk = new.disk }) first.same;
  stays = λ honest. stays_on (medium old.disk) (medium mid.disk) (medium new.disk) (first.stays honest) (second.stays (first.called.honest.0 honest));
  called = record {
    size = second.called.size ∙ first.called.size;
    honest = (λ h. second.called.honest.0 (first.called.honest.0 h), λ h. first.called.honest.1 (second.called.honest.1 h));
    failures = second.called.failures ∙ ap (with_failed failed) first.called.failures;
  };
}

-- a store that was only read stands for what it stood for
pub only_stands : {D : Type 0} (medium : D → Medium) (old new : Seen D) (failed : Option DiskFault) (r : Recording)
    → OnlyRead medium old new failed → StandsFor medium old r → StandsFor medium new r
only_stands {D} medium old new failed r only stands = subst (λ (s : Seen D). StandsFor medium s r) (sym only.same)
    (looked-stands medium old new.disk r stands only.called.honest.1 only.stays)

-- ---- the text

four : (done given left rest : List ℕ) → done ++ ((given ++ left) ++ rest) ≡ (done ++ given) ++ (left ++ rest)
four done given left rest = simp append_assoc refl

-- a prefix of a later part is a prefix of the whole
pub some_later : (old mid new : Option (List ℕ)) (done more rest whole : List ℕ) → Appends old mid done
    → AppendsSome mid new more → whole ≡ done ++ (more ++ rest) → AppendsSome old new whole
some_later old mid new done more rest whole first some is = (
  done ++ some.0,
  some.1 ++ rest,
  is ∙ ap (λ (m : List ℕ). done ++ (m ++ rest)) some.2
      ∙ four done some.0 some.1 rest,
  Appends-trans old mid new done some.0 first some.3,
)

pub stopped_later : (H K : Type 0) (old mid new : Option (List ℕ)) (fault : ExportFault)
    (done more rest whole : List ℕ) → (H → K) → (H → Appends old mid done) → Stopped K fault mid new more
    → whole ≡ done ++ (more ++ rest) → Stopped H fault old new whole
stopped_later H K old mid new (export.Store (store.Disk fault)) done more rest whole on first some is =
    λ h. some_later old mid new done more rest whole (first h) (some (on h)) is
stopped_later H K old mid new (export.Store (store.Damaged SlotHead)) done more rest whole on first some is = λ h. some (on h)
stopped_later H K old mid new export.Write done more rest whole on first some is = λ h. some_later old mid new done more rest whole (first h) (some (on h)) is
stopped_later H K old mid new _ done more rest whole on first some is = elim some [ ]

-- a fault that was passed on
pub stopped_on : {T : Type 0} (H : Type 0) (old new : Option (List ℕ)) (result : Result T ExportFault)
    (fault : ExportFault) (bytes : List ℕ) → IsErrAnd result (λ made. made ≡ fault) → Stopped H fault old new bytes
    → Moved H old new result bytes
stopped_on H old new (Ok x) fault bytes failed stopped = absurd failed
stopped_on H old new (Err made) fault bytes failed stopped = subst (λ (f : ExportFault). Stopped H f old new bytes) (sym failed) stopped

-- a frame's first bytes, and some more
pub frame_more : (at n : ℕ) (bytes : List ℕ) → frame (take (at + n) bytes) ≡ frame (take at bytes) ++ piece at n bytes
frame_more at n bytes = ap frame (take-add at n bytes)

pub frame_rest : (at n : ℕ) (bytes : List ℕ) → frame bytes ≡ frame (take at bytes)
    ++ (piece at n bytes ++ drop (at + n) bytes)
frame_rest at n bytes = ap frame (sym (take-append-drop (at + n) bytes)
    ∙ ap (λ (xs : List ℕ). xs ++ drop (at + n) bytes) (take-add at n bytes) ∙ append_assoc (take at bytes)
    (piece at n bytes) (drop (at + n) bytes))

-- ---- the whole

-- a range with a held number has a frame
pub some_frames : (r : Recording) (from first to : ℕ) → first ≤ to → RiseBetween 0 r.next r.frames
    → IsFirstBetween r from to (Some first) → frames_between from to r.frames ≢ []
some_frames r from first to inner rise is none =
    let f = frame_there r first is.0 in
    let some : frames_between from to r.frames ≡ f.0.bytes ∷ frames_between (first + 1) to r.frames = is.1
    ∙ first_between first to 0 r.next r.frames f.0 inner rise f.1 in
    absurd (never f.0.bytes (frames_between (first + 1) to r.frames) (sym some ∙ none))
  where
    never : (x : List ℕ) (xs : List (List ℕ)) → x ∷ xs ≡ [] → ⊥
    never x xs e = absurd cc

-- memory was refused
pub unwritten : (H : Type 0) (g : Geometry) (must_reopen : Bool) (frames : List (List ℕ)) (held : Option (List ℕ))
    (result : Result ℕ ExportFault) → must_reopen ≡ false → frames ≢ []
    → IsErrAnd result (λ made. made ≡ export.Store store.NoMemory) → IsExport H g must_reopen frames held held result
unwritten H g must_reopen frames held (Ok count) fine some failed = absurd failed
unwritten H g must_reopen frames held (Err fault) fine some failed =
    subst (λ (f : ExportFault). IsExport H g must_reopen frames held held (Err f)) (sym failed) (fine, (some, refl))

-- the header was written, or a prefix of it
pub unheaded : (H : Type 0) (g : Geometry) (must_reopen : Bool) (frames : List (List ℕ)) (old new : Option (List ℕ))
    (result : Result ℕ ExportFault) → must_reopen ≡ false → frames ≢ []
    → IsErrAnd result (λ made. made ≡ export.Write) → AppendsSome old new (header g)
    → IsExport H g must_reopen frames old new result
unheaded H g must_reopen frames old new (Ok count) fine some failed given = absurd failed
unheaded H g must_reopen frames old new (Err fault) fine some failed given =
    subst (λ (f : ExportFault). IsExport H g must_reopen frames old new (Err f)) (sym failed) (
      fine,
      (
        some,
        λ h. some_later old old new [] (header g) (flat_map frame frames) (text g frames)
            (Appends-nil old) given refl,
      ),
    )

-- and the frames after it
pub headed : (H : Type 0) (g : Geometry) (must_reopen : Bool) (frames : List (List ℕ)) (old mid new : Option (List ℕ))
    (result : Result ℕ ExportFault) → must_reopen ≡ false → frames ≢ [] → Appends old mid (header g)
    → MovedAll H mid new result frames
    → IsExport H g must_reopen frames old new result
headed H g must_reopen frames old mid new (Ok count) fine some first moved =
    (fine, (some, (λ h. Appends-trans old mid new (header g) (flat_map frame frames) first (moved.0 h), moved.1)))
headed H g must_reopen frames old mid new (Err fault) fine some first moved =
    go fault (stopped_later H H old mid new fault (header g) (flat_map frame frames) [] (text g frames) (λ h. h)
    (λ h. first) moved.0 (ap (λ (l : List ℕ). header g ++ l) (sym (append-nil (flat_map frame frames)))))
  where
    go : (f : ExportFault) → Stopped H f old new (text g frames) → IsExport H g must_reopen frames old new (Err f)
    go (export.Store (store.Disk failed)) stopped = (fine, (some, stopped))
    go (export.Store (store.Damaged SlotHead)) stopped = (fine, (some, stopped))
    go export.Write stopped = (fine, (some, stopped))
    go _ stopped = elim stopped [ ]
