-- What an exported call answers, by what its parts say.
use Rattle.std.proofs.Common.{◌≡◌, inl, ℕ, List, [], Option, Some, Result, Ok, Err, refl, sym, subst}
use Rattle.loop_disk.specs.Calls.{no_failures}
use Rattle.loop_disk.specs.History.{at_rest}
use Rattle.loop_disk.specs.Medium.{IsSound}
use Rattle.loop_disk.specs.Sound.{sound_of}
use Rattle.loop_disk.proofs.Moments.{started}
use Rattle.loop_store.specs.declared.fault.OpenRefused.{OpenRefused}
use Rattle.loop_store.specs.declared.fault.StoreFault.{StoreFault}
use Rattle.loop_store.specs.declared.fault.StoreFault.TheVariants.{NoMemory}
use Rattle.loop_record.specs.declared.geometry.Geometry.{Geometry}
use Rattle.loop_store.specs.Make.{Formats}
use Rattle.loop_store.specs.Reopen.{OpensKeeping}
use Rattle.loop_store.specs.Seen.{Seen}
use Rattle.loop_overlay.specs.Pages.{Logged, logged}
use Rattle.lapyrei.specs.declared.answer.Answer.{Answer}
use Rattle.lapyrei.specs.declared.answer.Shape.{Shape}
use Rattle.lapyrei.specs.Shown.{shaped, version_asked}
use Rattle.lapyrei.specs.Told.{Deed, Given, AnswersFor, MakesStore, Serves, ServesNew, untouched}

-- the store was opened, and did this
pub served : (it : Given) (keep : ℕ) (Did : Deed) (old new : Seen Logged) (outcome : Result ℕ StoreFault)
    (handed : Logged) (log : List ℕ) (answer : Answer) → OpensKeeping logged keep (untouched it.bytes it.present) (Ok old)
    → Did old new outcome → handed ≡ new.disk
    → AnswersFor it outcome handed log answer → Serves it keep Did log answer
served it keep Did old new outcome handed log answer opens did left told = record {
  outcome = outcome;
  disk = handed;
  made = record { store = Ok old; opens = opens; done = (new, (did, left)) };
  told = told;
}

-- there is no store
pub unserved : (it : Given) (keep : ℕ) (Did : Deed) (refused : OpenRefused Logged) (log : List ℕ) (answer : Answer)
    → OpensKeeping logged keep (untouched it.bytes it.present) (Err refused)
    → AnswersFor it (Err refused.fault) refused.disk log answer → Serves it keep Did log answer
unserved it keep Did refused log answer opens told = record {
  outcome = Err refused.fault;
  disk = refused.disk;
  made = record { store = Err refused; opens = opens; done = (refl, refl) };
  told = told;
}

-- what opens a disk may refuse for want of memory before the disk is called
no_memory : (keep : ℕ) (start present : List ℕ)
    → OpensKeeping logged keep (untouched start present)
    (Err (record { fault = NoMemory; disk = untouched start present }))
no_memory keep start present =
    let m = logged (untouched start present) in
    let sound : IsSound m = sound_of no_failures (at_rest start) [] in record {
      opened = λ honest. tt;
      found = tt;
      tells = tt;
      kept = tt;
      fine = tt;
      refused = λ image may. tt;
      alike = λ honest. (refl, refl);
      stays = λ honest other. record {
        bytes = refl;
        images = λ c left. left;
        time = (started m m.may_leave sound (λ c left. left)).time;
        keeps = λ t c le left. left;
      };
      moments = λ honest. started m _ sound (λ c left. inl left);
      called = record { size = refl; honest = (λ h. h, λ h. h); failures = refl };
    }

-- memory was refused before the store was opened
pub unopened : (it : Given) (keep : ℕ) (Did : Deed) (log : List ℕ) (answer : Answer)
    → AnswersFor it (Err NoMemory) (untouched it.bytes it.present) log answer → Serves it keep Did log answer
unopened it keep Did log answer told =
    unserved it keep Did (record { fault = NoMemory; disk = untouched it.bytes it.present }) log answer (no_memory keep it.bytes it.present)
    told

-- a store was made
pub served_new : (it : Given) (shape : Shape) (g : Geometry) (disk : Logged) (store : Seen Logged)
    (handed : Logged) (log : List ℕ) (answer : Answer) → shaped shape ≡ Some g → disk ≡ untouched it.bytes it.present
    → Formats logged (record { geometry = g; version = version_asked shape.version }) disk (Ok store)
    → handed ≡ store.disk → AnswersFor it (Ok 0) handed log answer → ServesNew it shape log answer
served_new it shape g disk store handed log answer shown over makes left told =
    let formats = subst (λ (d : Logged). Formats logged
    (record { geometry = g; version = version_asked shape.version }) d (Ok store)) over makes in record {
      outcome = Ok 0;
      disk = handed;
      made = subst (λ (o : Option Geometry). MakesStore (untouched it.bytes it.present) (version_asked shape.version) o (Ok 0) handed)
          (sym shown) (record {
            store = Ok store;
            opens = formats;
            done = (store, ((refl, refl), left));
          });
      told = told;
    }

-- no store was made
pub unserved_new : (it : Given) (shape : Shape) (g : Geometry) (disk : Logged) (refused : OpenRefused Logged)
    (log : List ℕ) (answer : Answer) → shaped shape ≡ Some g → disk ≡ untouched it.bytes it.present
    → Formats logged (record { geometry = g; version = version_asked shape.version }) disk (Err refused)
    → AnswersFor it (Err refused.fault) refused.disk log answer → ServesNew it shape log answer
unserved_new it shape g disk refused log answer shown over makes told =
    let formats = subst (λ (d : Logged). Formats logged
    (record { geometry = g; version = version_asked shape.version }) d (Err refused)) over makes in record {
      outcome = Err refused.fault;
      disk = refused.disk;
      made = subst (λ (o : Option Geometry). MakesStore (untouched it.bytes it.present) (version_asked shape.version) o (Err refused.fault)
          refused.disk) (sym shown) (record { store = Err refused; opens = formats; done = (refl, refl) });
      told = told;
    }
