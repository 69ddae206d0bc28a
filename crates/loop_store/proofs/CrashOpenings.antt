-- A store whose disk crashed, and is opened again.
use Rattle.std.proofs.Common.{◌≡◌, ◌⊎◌, inl, inr, ℕ, true, false, not, None, Some, Result, Ok, Err, List, [], refl, sym, ap, ◌∙◌, subst}
use Rattle.loop_disk.specs.Medium.{Medium}
use Rattle.loop_record.specs.declared.damage.LayoutFault.{LayoutFault}
use Rattle.loop_record.specs.declared.frame.FrameHead.{FrameHead}
use Rattle.loop_record.specs.declared.geometry.Geometry.{Geometry}
use Rattle.loop_record.specs.Layout.{version_in}
use Rattle.loop_record.specs.Reading.{Contents, Holds}
use Rattle.loop_record.specs.Recording.{holds, ring_of}
use Rattle.loop_store.specs.declared.fault.StoreFault.{StoreFault}
use Rattle.loop_store.specs.declared.fault.StoreFault.TheVariants.{MustReopen, NoMemory, NotHeld}
use Rattle.loop_store.specs.Calls.{IsAnswered, AnswersOtherwise, IsHeldFrame, ReadFails, StoreState, checks, first_of, read_with, was_read}
use Rattle.loop_store.specs.Faults.{is_disk}
use Rattle.loop_store.specs.Goes.{Stands}
use Rattle.loop_store.specs.Reopen.{IsOpened}
use Rattle.loop_store.specs.Chain.{ReadsFrame}
use Rattle.loop_store.specs.Seen.{Seen, StandsFor}
use Rattle.loop_store.proofs.CheckAnswers.{due-none, due-some, passed}

ok-inj : (a b : Contents) → let x : Result Contents LayoutFault = Ok a in let y : Result Contents LayoutFault = Ok b in x ≡ y → a ≡ b
ok-inj a b e = cc

-- what a store stood for, a store stands for that was opened on an image that a crash may leave; they may differ in how many
-- blocks they keep
pub record IsSame {D E : Type 0} (medium : D → Medium) (other : E → Medium) (old : Seen D) (new : Seen E) (s : StoreState) : Type 0 where
  pub geometry : new.geometry ≡ old.geometry
  pub stands : Stands other new (record s { keep = new.keep })

pub opened-same : {D E : Type 0} (medium : D → Medium) (other : E → Medium) (old : Seen D) (new : Seen E)
    (image : List ℕ) (s : StoreState) → Stands medium old s → s.must_reopen ≡ false → (medium old.disk).honest
    → (medium old.disk).may_leave image → IsOpened other image new → new.must_reopen ≡ false
    → IsSame medium other old new s
opened-same medium other old new image s stands fine honest left opened still =
    let kept : old.must_reopen ≡ false = stands.must_reopen ∙ fine in
    let same : image ≡ (medium old.disk).bytes = stands.recording.settled kept honest image left in
    let held : Holds old.geometry s.recording image = subst (λ (i : List ℕ). Holds old.geometry s.recording i) (sym same) (stands.recording.held kept honest) in
    let one : record { geometry = new.geometry; recording = opened.recording } ≡ record { geometry = old.geometry; recording = s.recording } =
    ok-inj (record { geometry = new.geometry; recording = opened.recording })
    (record { geometry = old.geometry; recording = s.recording }) (sym opened.held ∙ held) in
    record {
      geometry = ap (λ (x : Contents). x.geometry) one;
      stands = record {
        recording = subst (λ (x : Contents). StandsFor other new x.recording) one opened.stands;
        version = sym opened.version_is ∙ ap version_in same ∙ stands.recording.version_is kept honest ∙ stands.version;
        keep = refl;
        must_reopen = still ∙ sym fine;
      };
    }

-- a read of a held number
pub read-held : (H : Type 0) (g : Geometry) (s : StoreState) (number : ℕ) (result : Result FrameHead StoreFault)
    (out : List ℕ) → H → s.must_reopen ≡ false → holds s.recording number ≡ true
    → IsAnswered H (ring_of g) s (was_read number (read_with result out)) → ReadsFrame s.recording number result out
read-held H g s number (Ok h) out honest fine there said =
    (due-none (first_of (checks (ring_of g) s (was_read number (Ok (h, out))))) (was_read number (Ok (h, out)))
    (H → IsHeldFrame s.recording number h out) said refl).1 honest
read-held H g s number (Err fault) out honest fine there said =
    go (due-some (first_of (checks (ring_of g) s (was_read number (Err fault)))) (was_read number (Err fault))
    (AnswersOtherwise H s (was_read number (Err fault))) said)
  where
    none : first_of (checks (ring_of g) s (was_read number (Err fault))) ≡ None
    none = passed s.must_reopen MustReopen _ fine ∙ passed (not (holds s.recording number)) NotHeld [] (ap not there)

    apart : None ≡ Some fault → ⊥
    apart e = absurd cc

    go : (first_of (checks (ring_of g) s (was_read number (Err fault))) ≡ Some fault)
        ⊎ ((first_of (checks (ring_of g) s (was_read number (Err fault))) ≡ None) × AnswersOtherwise H s
        (was_read number (Err fault))) → (fault ≡ NoMemory) ⊎ (is_disk fault ≡ true)
    go (inl e) = absurd (apart (sym none ∙ e))
    go (inr x) = failed x.1
      where
        failed : (fault ≡ NoMemory) ⊎ ReadFails H fault → (fault ≡ NoMemory) ⊎ (is_disk fault ≡ true)
        failed (inl is) = inl is
        failed (inr (inl is)) = inr is
        failed (inr (inr x)) = absurd (x.1 honest)
