-- The calls that a session makes of its desk.
use Rattle.std.proofs.Common.{◌≡◌, ℕ, ◌+◌, Result, Ok, Err, [], ◌∷◌, length, inl, inr, sym, ap, subst}
use Rattle.std.specs.Prelude.{IfErr}
use Rattle.loop_disk.specs.declared.memory.MemDisk.{MemDisk}
use Rattle.loop_disk.specs.Behind.{moment_now}
use Rattle.loop_disk.specs.Calls.{no_failures}
use Rattle.loop_disk.specs.History.{medium_of}
use Rattle.loop_disk.specs.Medium.{Medium, IsSound}
use Rattle.loop_disk.specs.Sound.{sound_of}
use Rattle.loop_record.specs.Geometry.{frame_bytes}
use Rattle.loop_record.specs.Recording.{Picture}
use Rattle.loop_store.specs.declared.fault.StoreFault.{StoreFault}
use Rattle.loop_store.specs.declared.fault.StoreFault.TheVariants.{AllLocked, NoMemory}
use Rattle.loop_desk.specs.declared.limits.Flushed.{Flushed}
use Rattle.loop_desk.specs.Desk.{DeskCall, flushed, submitted}
use Rattle.loop_desk.specs.Seen.{DeskGoes, SeenDesk}
use Rattle.loop_desk.proofs.CallRuns.{desk-joined}
use Rattle.loop_script.specs.Pattern.{pattern_picture}
use Rattle.loop_script.specs.Sessions.{RefusesFrame, accepted_after, calls_of_store, calls_of_submit, pattern_submitted}
use Rattle.loop_script.proofs.SessionLaws.{submit-memory, submitted-as}

-- what is on a disk in memory
abbrev pub memory : {A : Type 0} → MemDisk A → Medium
memory disk = medium_of no_failures (moment_now disk.past.behind disk.bytes.items) disk.past.behind.moments

pub memory-sound : {A : Type 0} (disk : MemDisk A) → IsSound (memory disk)
memory-sound disk = sound_of no_failures (moment_now disk.past.behind disk.bytes.items) disk.past.behind.moments

module _ {D : Type 0} {medium : D → Medium} where
  -- a submit of frame n
  submit-calls : (old new : SeenDesk D) (n : ℕ) (answer : Result ℕ StoreFault)
      → DeskGoes medium old new (pattern_submitted old.store.geometry n answer ∷ [])
      → DeskGoes medium old new (calls_of_submit old.store.geometry n answer)
  submit-calls old new n (Ok number) goes = goes
  submit-calls old new n (Err NoMemory) goes = absurd (submit-memory old new (pattern_picture old.store.geometry n) (frame_bytes old.store.geometry) goes)
  submit-calls old new n (Err fault) goes = goes

  pub submit-goes : (old mid new : SeenDesk D) (n size : ℕ) (p : Picture) (answer result : Result ℕ StoreFault)
      → DeskGoes medium old mid (submitted p size answer ∷ []) → p ≡ pattern_picture old.store.geometry n
      → size ≡ frame_bytes old.store.geometry → new ≡ mid → result ≡ answer
      → DeskGoes medium old new (calls_of_submit old.store.geometry n result)
  submit-goes old mid new n size p answer result goes picture bytes desk is =
      let same : submitted p size answer ≡ pattern_submitted old.store.geometry n answer = λ i. submitted (picture i) (bytes i) answer in
      let calls : DeskGoes medium old mid (calls_of_submit old.store.geometry n answer) =
      submit-calls old mid n answer (subst (λ (c : DeskCall). DeskGoes medium old mid (c ∷ [])) same goes) in
      subst (λ (x : SeenDesk D × Result ℕ StoreFault). DeskGoes medium old x.0 (calls_of_submit old.store.geometry n x.1)) (λ i. (sym desk i, sym is i)) calls

  -- a submit of frame n that was accepted, and a flush
  both : (old mid new : SeenDesk D) (n number : ℕ) (result : Result Flushed StoreFault)
      → DeskGoes medium old mid (pattern_submitted old.store.geometry n (Ok number) ∷ [])
      → DeskGoes medium mid new (flushed result ∷ [])
      → DeskGoes medium old new (pattern_submitted old.store.geometry n (Ok (old.store.next + length old.pending))
      ∷ flushed result ∷ [])
  both old mid new n number result first second =
      let is = (submitted-as old mid (pattern_picture old.store.geometry n) (frame_bytes old.store.geometry) number first).1 in
      subst (λ (k : ℕ). DeskGoes medium old new (pattern_submitted old.store.geometry n (Ok k) ∷ flushed result ∷ [])) is
      (desk-joined medium old mid new (pattern_submitted old.store.geometry n (Ok number) ∷ []) (flushed result ∷ []) first second)

  pub store-goes : (old mid new : SeenDesk D) (n number : ℕ) (result : Result Flushed StoreFault)
      → DeskGoes medium old mid (pattern_submitted old.store.geometry n (Ok number) ∷ [])
      → DeskGoes medium mid new (flushed result ∷ []) → IfErr result (λ fault. fault ≡ AllLocked)
      → DeskGoes medium old new (calls_of_store old n result)
  store-goes old mid new n number (Ok f) first second locked = both old mid new n number (Ok f) first second
  store-goes old mid new n number (Err fault) first second locked =
      subst (λ (x : StoreFault). DeskGoes medium old new (calls_of_store old n (Err x))) (sym locked)
      (both old mid new n number (Err AllLocked) first (subst (λ (x : StoreFault). DeskGoes medium mid new (flushed (Err x) ∷ [])) locked second))

-- how many frames are accepted after a submit that was refused
pub accepted-refused : (count : ℕ) (fault : StoreFault) → RefusesFrame fault → count ≡ accepted_after {T = ℕ} count (Err fault)
accepted-refused count fault (inl e) = sym (ap (λ (x : StoreFault). accepted_after {T = ℕ} count (Err x)) e)
accepted-refused count fault (inr (inl e)) = sym (ap (λ (x : StoreFault). accepted_after {T = ℕ} count (Err x)) e)
accepted-refused count fault (inr (inr e)) = sym (ap (λ (x : StoreFault). accepted_after {T = ℕ} count (Err x)) e)
