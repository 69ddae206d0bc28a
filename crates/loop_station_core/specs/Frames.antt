-- Where a camera's frames are.
use Rattle.std.specs.Prelude.{ℕ, ◌+◌, ◌-◌, ◌^◌, List, [], ◌∷◌, min, nat_lt, if◌then◌else◌, ◌≡◌, ◌≤◌}
use Rattle.loop_station_core.specs.declared.tally.Tally.{Tally}

-- how many of the frames that have come are on their way to the desk, wait at the desk, are stored, and are lost
pub record Flow : Type 0 where
  pub coming : ℕ
  pub waiting : ℕ
  pub stored : ℕ
  pub lost : ℕ

-- as a tally says
abbrev pub frames : Tally → Flow
frames t = record { coming = t.come - t.brought; waiting = t.submitted - t.left; stored = t.left; lost = t.lost }

-- how many have come in all
abbrev pub all_of : Flow → ℕ
all_of f = f.coming + f.waiting + f.stored + f.lost

-- how many are no longer on their way
abbrev pub brought_of : Flow → ℕ
brought_of f = f.waiting + f.stored + f.lost

-- What happens to frames: one comes, the first that is on its way comes to the desk or is given up, so many at the desk
-- are stored, or the desk is given up when so many had been taken for it.
pub data FlowStep : Type 0 where
  comes : FlowStep
  brings : FlowStep
  gives_up : FlowStep
  stores : ℕ → FlowStep
  loses : ℕ → FlowStep

-- where frames are after that; no more come than a u64 counts
abbrev pub step_flow : Flow → FlowStep → Flow
step_flow f comes = if nat_lt (all_of f) (2 ^ 64 - 1) then record f { coming = f.coming + 1 } else f
step_flow f brings = record f { coming = f.coming - 1; waiting = f.waiting + min 1 f.coming }
step_flow f gives_up = record f { coming = f.coming - 1; lost = f.lost + min 1 f.coming }
step_flow f (stores n) = record f { waiting = f.waiting - n; stored = f.stored + min n f.waiting }
step_flow f (loses taken) =
    let gone = min f.coming (taken - brought_of f) in
    record f { coming = f.coming - gone; waiting = 0; lost = f.lost + f.waiting + gone }

-- no frame has come
abbrev pub no_frames : Flow
no_frames = record { coming = 0; waiting = 0; stored = 0; lost = 0 }

-- where frames are after a list of steps
abbrev pub after : Flow → List FlowStep → Flow
after f [] = f
after f (s ∷ ss) = after (step_flow f s) ss

-- how many come in a step, and in a list of them
abbrev pub come_by : FlowStep → ℕ
come_by comes = 1
come_by _ = 0

abbrev pub come_in : List FlowStep → ℕ
come_in [] = 0
come_in (s ∷ ss) = come_by s + come_in ss

-- A tally's frames are all that came, and those that it has brought are no longer on their way.
abbrev pub TalliesAddUp : Type 0
TalliesAddUp = (t : Tally) → (all_of (frames t) ≡ t.come) × (brought_of (frames t) ≡ t.brought)

-- no frame is given up, and no desk
abbrev pub NoneIsGivenUp : List FlowStep → Type 0
NoneIsGivenUp [] = Unit {0}
NoneIsGivenUp (gives_up ∷ steps) = ⊥
NoneIsGivenUp (loses taken ∷ steps) = ⊥
NoneIsGivenUp (s ∷ steps) = NoneIsGivenUp steps

-- A frame is lost only where one is given up, or a desk is; and what was given up or stored stays so. So is what was
-- brought.
abbrev pub LostFramesWereGivenUp : Type 0
LostFramesWereGivenUp = (f : Flow) (steps : List FlowStep) → let g = after f steps in
    (NoneIsGivenUp steps → g.lost ≡ f.lost) × (f.lost ≤ g.lost) × (f.stored ≤ g.stored) × (brought_of f ≤ brought_of g)
