-- The ticks of a device that goes on, as they are counted.
use Rattle.std.specs.Prelude.{◌≡◌, ℕ, ◌+◌, ◌%◌, ◌^◌, List, [], ◌∷◌}
use Rattle.loop_capture.specs.declared.device.Tick.{Tick}
use Rattle.loop_capture.specs.declared.device.Tick.TheVariants.{Completed, Failed, Missed}
use Rattle.loop_pipeline.specs.Fronts.{TickRecord}

-- a tick that got a frame or lost one has the next count, and its sequence is the count, which goes round at 2^32
abbrev pub CountsTick : Tick → ℕ → ℕ → ℕ → Type 0
CountsTick (Completed i) sequence count next = (sequence ≡ count % 2 ^ 32) × (next ≡ count + 1)
CountsTick (Failed i) sequence count next = (sequence ≡ count % 2 ^ 32) × (next ≡ count + 1)
CountsTick Missed sequence count next = (sequence ≡ count % 2 ^ 32) × (next ≡ count + 1)
CountsTick _ sequence count next = next ≡ count

-- one after the other
abbrev pub CountsTicks : ℕ → List TickRecord → ℕ → Type 0
CountsTicks count [] end = end ≡ count
CountsTicks count (g ∷ gs) end =
    (next : ℕ) × CountsTick g.tick g.sequence count next × CountsTicks next gs end
