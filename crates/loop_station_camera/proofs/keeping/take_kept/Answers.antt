use Rattle.std.proofs.Common.{◌≡◌, if◌then◌else◌, Some, ap, length, map, sym, ◌∙◌, arith}
use Rattle.std.proofs.lemmas.List.{with_items_is}
use Rattle.loop_store.specs.declared.fault.StoreFault.TheVariants.{NoMemory}
use Rattle.loop_station_camera.specs.Keeping.{known, or_fault}
use Rattle.loop_station_camera.proofs.KeepRuns.{takes}
use Rattle.loop_station_camera.proofs.keeping.take_kept.Goals as goal
use Rattle.loop_station_camera.proofs.keeping.take_kept.Goals.{then-put_after, else-put_after}

pub returns : goal.returns
returns g c =
    let why : c.if-put_after.fault ≡ (if c.put_after.result then c.args.kept.fault else Some NoMemory) =
    elim c.if-put_after.branch [
      | then-put_after w ↦
          w.fault-is ∙ sym (ap (λ b. if b then c.args.kept.fault else Some NoMemory) w.if-put_after.true)
      | else-put_after w ↦
          w.fault-is ∙ sym (ap (λ b. if b then c.args.kept.fault else Some NoMemory) w.if-put_after.false)
    ] in
    takes c.args.kept c.args.all.now (record { clips = c.put_after.new.all; fault = c.or_fault-all.result })
    c.number_at-number.result c.put_after.result _ c.number_at-number.ensures
    (with_items_is c.args.kept.clips c.name_clips.new.clips
    (omega (
      arith,
      c.name_clips.auto.clips,
      c.as_mut_slice.ensures.len,
      c.args.kept.clips.ok.0,
      ap length c.as_mut_slice.ensures.value,
    ))
    ∙ (c.name_clips.ensures ∙ ap (map (known c.number_at-number.result)) c.as_mut_slice.ensures.value))
    c.put_after.ensures.done c.put_after.ensures.refused
    (c.or_fault-all.ensures ∙ ap (or_fault c.args.all.now.fault) why)
