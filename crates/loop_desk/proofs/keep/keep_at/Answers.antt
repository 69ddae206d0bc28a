use Rattle.std.proofs.Common.{None, Some, Ok, Err, length, refl, ap, arith}
use Rattle.loop_store.specs.declared.fault.StoreFault.TheVariants.{NoMemory}
use Rattle.loop_desk.proofs.KeepParts.{keeps-crammed, keeps-none, keeps-runs, not-none}
use Rattle.loop_desk.proofs.keep.keep_at.Goals as goal

pub returns-in-Err : goal.returns-in-Err
returns-in-Err g c =
    rw c.refused.ensures (keeps-none g.D.Disk.medium _ _ _ _ c.in-Err.fault c.opens.ensures.tells
    (λ honest. g.met.D.Disk.sound _ honest) c.new.ensures.items refl c.in-Err.ensures.refused)

pub returns-in_default : goal.returns-in_default
returns-in_default g c =
    rw c.refused-in_default.ensures (keeps-crammed g.D.Disk.medium _ _ c.in-Ok.runs.items _
    (record { clips = c.new-in_default.result; fault = Some NoMemory })
    (λ none. not-none c.with_capacity.result c.in_default.field-0 c.len.result c.with_capacity.ensures.succeeds
    c.in_default.is (omega (arith, c.len.ensures, ap length none)))
    c.in-Ok.ensures.goes c.new-in_default.ensures.items refl)

pub returns-in-Ok-lock_runs : goal.returns-in-Ok-lock_runs
returns-in-Ok-lock_runs g c =
    keeps-runs g.D.Disk.medium _ _ c.in-Ok.runs.items c.as_slice.result.now _ _
    (record { clips = c.lock_runs.new.clips; fault = None }) (Ok c.in-Ok-lock_runs.field-0) c.as_slice.ensures.value refl
    c.in-Ok.ensures.goes c.in-Ok-lock_runs.ensures

pub returns : goal.returns
returns g c =
    rw c.refused-in-Err-lock_runs.ensures (keeps-runs g.D.Disk.medium _ _ c.in-Ok.runs.items c.as_slice.result.now _ _
    (record { clips = c.lock_runs.new.clips; fault = Some c.in-Err-lock_runs.fault })
    (Err c.in-Err-lock_runs.fault) c.as_slice.ensures.value refl c.in-Ok.ensures.goes c.in-Err-lock_runs.ensures)
