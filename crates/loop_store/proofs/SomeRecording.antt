-- That a store stands for some recording.
use Rattle.std.proofs.Common.{◌⊎◌, inl, inr, Bool, true, false, refl}
use Rattle.loop_disk.specs.Medium.{Medium}
use Rattle.loop_record.specs.Recording.{Recording}
use Rattle.loop_record.proofs.Bounds.{limits}
use Rattle.loop_store.specs.declared.index.Index.{Index}
use Rattle.loop_store.specs.Store.{IsKept}
use Rattle.loop_store.specs.Seen.{StandsFor, seen_with}
use Rattle.loop_store.proofs.Looks.{drawn-of, told-drawn}
use Rattle.loop_store.proofs.Openings.{present-opened}

-- whether its disk is honest or not, the store stands for some recording, where that is known
pub stands-known : {D A : Type 0} (medium : D → Medium) (disk : D) (index : Index A) (b : Bool)
    → IsKept medium disk index b → (medium disk).honest ⊎ ((medium disk).honest → ⊥) → (r : Recording)
    × StandsFor medium (seen_with disk index b) r
stands-known medium disk index b kept (inr not_so) = (
  drawn-of index kept.known,
  record {
    told = told-drawn medium disk index b kept;
    settled = λ fine now. absurd (not_so now);
    held = λ fine now. absurd (not_so now);
    version_is = λ fine now. absurd (not_so now);
  },
)
stands-known medium disk index true kept (inl now) = (
  drawn-of index kept.known,
  record {
    told = told-drawn medium disk index true kept;
    settled = λ fine now. absurd cc;
    held = λ fine now. absurd cc;
    version_is = λ fine now. absurd cc;
  },
)
stands-known medium disk index false kept (inl now) =
    let o = present-opened medium disk index (medium disk).bytes (limits index.ring.geometry index.ring.good).slots.0
    kept.fits.whole.within (kept.present refl now) (refl, refl) in
    (o.recording, o.stands)
