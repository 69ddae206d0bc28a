-- How runs of disk calls join.
use Rattle.std.proofs.Common.{inl, inr, ⊎_elim, ℕ, ◌≡◌, ◌≤◌, List, length, Option, None, Result, ◌∙◌, ap, subst, arith}
use Rattle.loop_disk.specs.declared.fault.DiskFault.{DiskFault}
use Rattle.loop_disk.specs.declared.fault.Failures.{Failures}
use Rattle.loop_disk.specs.Medium.{Medium, MayBe, piece, SameOutside, TornAt, IsSettled, Meanwhile, Remembers, LeavesOnly, IsSound}
use Rattle.loop_disk.specs.Calls.{Called, Stays, with_failed}
use Rattle.loop_disk.specs.Steps.{Stores}

-- no time
pub at_first : (m : Medium) (P : List ℕ → Type 0) → Meanwhile m m P
at_first m P = record { later = omega arith; nothing_else = λ t c le left. inl left }

-- a call, or a run of calls, after another
pub meanwhile_on : (old mid new : Medium) (P Q : List ℕ → Type 0) → Meanwhile old mid P → Meanwhile mid new Q
    → ((c : List ℕ) → Q c → P c) → Meanwhile old new P
meanwhile_on old mid new P Q first second within = record {
  later = omega (arith, first.later, second.later);
  nothing_else = λ t c le left.
      ⊎_elim (first.nothing_else t c le) (λ (q : Q c). inr (within c q)) (second.nothing_else t c (omega (arith, le, first.later)) left);
}

pub meanwhile_weaker : (old new : Medium) (P Q : List ℕ → Type 0) → Meanwhile old new P → ((c : List ℕ) → P c → Q c)
    → Meanwhile old new Q
meanwhile_weaker old new P Q time weaken = meanwhile_on old old new Q P (at_first old Q) time weaken

pub remembers_on : (old mid new : Medium) → old.moment ≤ mid.moment → Remembers old mid → Remembers mid new
    → Remembers old new
remembers_on old mid new later first second = λ t c le left. second t c (omega (arith, le, later)) (first t c le left)

-- what a call keeps, and another after it
pub called_on : (old mid new : Medium) (failed : Option DiskFault) → Called old mid None → Called mid new failed
    → Called old new failed
called_on old mid new failed first second = record {
  size = second.size ∙ first.size;
  honest = (λ honest. second.honest.0 (first.honest.0 honest), λ honest. first.honest.1 (second.honest.1 honest));
  failures = second.failures ∙ ap (λ (f : Failures). with_failed failed f) first.failures;
}

-- before the first call
pub started : (m : Medium) (P : List ℕ → Type 0) → IsSound m → ((c : List ℕ) → m.may_leave c → P c) → LeavesOnly m m P
started m P sound here = record { each = λ c left. here c (sound.only_now c left); time = at_first m P }

-- one more call, during which a crash leaves what has P
pub goes_on : (old mid new : Medium) (P during : List ℕ → Type 0) → LeavesOnly old mid P → Meanwhile mid new during
    → ((c : List ℕ) → during c → P c) → LeavesOnly old new P
goes_on old mid new P during so_far time here = record {
  each = λ c left. ⊎_elim (so_far.each c) (here c) (time.nothing_else old.moment c so_far.time.later left);
  time = meanwhile_on old mid new P during so_far.time time here;
}

-- one run after another
pub joined : (old mid new : Medium) (P : List ℕ → Type 0) → LeavesOnly old mid P → LeavesOnly mid new P
    → LeavesOnly old new P
joined old mid new P first second = goes_on old mid new P P first second.time (λ c p. p)

pub weaker : (old new : Medium) (P Q : List ℕ → Type 0) → LeavesOnly old new P → ((c : List ℕ) → P c → Q c)
    → LeavesOnly old new Q
weaker old new P Q run weaken = record { each = λ c left. weaken c (run.each c left); time = meanwhile_weaker old new P Q run.time weaken }

-- what a crash now may leave is one of the images since then
pub each_now : (old new : Medium) (P : List ℕ → Type 0) → IsSound new → LeavesOnly old new P → (c : List ℕ)
    → new.may_leave c → P c
each_now old new P sound run = λ c left. run.each c (sound.counts_now old.moment c run.time.later left)

-- on a disk where a crash leaves the present bytes and nothing else, a torn write tears those
pub torn_settled : (at n : ℕ) (m : Medium) (c : List ℕ) → IsSettled m → TornAt at n m c → SameOutside at n m.bytes c
torn_settled at n m c settled torn = subst (λ (d : List ℕ). SameOutside at n d c) (settled torn.0 torn.1) torn.2

-- a store on a disk where a crash leaves the present bytes and nothing else
pub stored : {T : Type 0} (at : ℕ) (bytes : List ℕ) (old new : Medium) (r : Result T DiskFault) (P : List ℕ → Type 0)
    → IsSettled old → Stores at bytes old new r
    → ((c : List ℕ) → SameOutside at (length bytes) old.bytes c → P c) → LeavesOnly old new P
stored at bytes old new r P settled stores here =
    weaker old new _ P stores.moments (λ c torn. here c (torn_settled at (length bytes) old c settled torn))

-- an honest disk's bytes agree with what its reads gave
pub of_bytes : (old new : Medium) (P : List ℕ → Type 0) → IsSound new → Stays old new
    → ((image : List ℕ) → MayBe new image → P image) → P old.bytes
of_bytes old new P sound stays gives =
    subst P stays.bytes (gives new.bytes (record { size = sound.length_is; agrees = sound.shown }))

-- what a read of an honest disk gave is what is stored on it
pub read_present : (at n : ℕ) {bytes : List ℕ} {old new : Medium} → IsSound new → Stays old new
    → ((image : List ℕ) → MayBe new image → MayBe old image × (bytes ≡ piece at n image)) → bytes ≡ piece at n old.bytes
read_present at n {bytes} {old} {new} sound stays gives =
    of_bytes old new (λ image. bytes ≡ piece at n image) sound stays (λ image may. (gives image may).1)
