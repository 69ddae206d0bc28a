-- Frames add up.
use Rattle.std.proofs.Common.{◌≡◌, ◌+◌, ◌<◌, ◌^◌, List, [], ◌∷◌, arith, ◌≤◌, refl}
use Rattle.std.proofs.lemmas.Grind.{common_steps}
use Rattle.loop_station_core.specs.Frames.{Flow, FlowStep, after, all_of, brings, come_by, come_in, comes, gives_up, loses, no_frames, step_flow, stores, LostFramesWereGivenUp, NoneIsGivenUp, TalliesAddUp, brought_of}

-- one step adds a frame, or none
step-adds : (f : Flow) (s : FlowStep) → all_of f + come_by s < 2 ^ 64 → all_of (step_flow f s) ≡ all_of f + come_by s
step-adds f comes h = grind (arith, common_steps)
step-adds f brings h = omega arith
step-adds f gives_up h = omega arith
step-adds f (stores n) h = omega arith
step-adds f (loses n) h = omega arith

-- the same of each list of steps
adds : (f : Flow) (steps : List FlowStep) → all_of f + come_in steps < 2 ^ 64 → all_of (after f steps) ≡ all_of f + come_in steps
adds f [] h = omega arith
adds f (s ∷ ss) h =
    let one : all_of (step_flow f s) ≡ all_of f + come_by s = step-adds f s (omega arith) in
    let rest : all_of (after (step_flow f s) ss) ≡ all_of (step_flow f s) + come_in ss = adds (step_flow f s) ss (omega arith) in
    omega arith

pub frames-add-up : (steps : List FlowStep) → come_in steps < 2 ^ 64 → all_of (after no_frames steps) ≡ come_in steps
frames-add-up steps h = let e = adds no_frames steps (omega arith) in omega arith

pub tallies-add-up : TalliesAddUp
tallies-add-up t =
    let before = t.before in let split = t.split in let stored = t.stored in (omega arith, omega arith)

-- what was brought, stored or lost stays so after one step
step-stays : (f : Flow) (s : FlowStep) → (f.lost ≤ (step_flow f s).lost) × (f.stored ≤ (step_flow f s).stored)
    × (brought_of f ≤ brought_of (step_flow f s))
step-stays f comes = (grind (arith, common_steps), grind (arith, common_steps), grind (arith, common_steps))
step-stays f brings = (omega arith, omega arith, omega arith)
step-stays f gives_up = (omega arith, omega arith, omega arith)
step-stays f (stores n) = (omega arith, omega arith, omega arith)
step-stays f (loses n) = (omega arith, omega arith, omega arith)

all-stays : (f : Flow) (steps : List FlowStep) → (f.lost ≤ (after f steps).lost) × (f.stored ≤ (after f steps).stored)
    × (brought_of f ≤ brought_of (after f steps))
all-stays f [] = (omega arith, omega arith, omega arith)
all-stays f (s ∷ ss) =
    let one = step-stays f s in let rest = all-stays (step_flow f s) ss in
    let a : f.lost ≤ (step_flow f s).lost = one.0 in let b : f.stored ≤ (step_flow f s).stored = one.1 in
    let c : brought_of f ≤ brought_of (step_flow f s) = one.2 in
    let d : (step_flow f s).lost ≤ (after (step_flow f s) ss).lost = rest.0 in
    let e : (step_flow f s).stored ≤ (after (step_flow f s) ss).stored = rest.1 in
    let g : brought_of (step_flow f s) ≤ brought_of (after (step_flow f s) ss) = rest.2 in
    (omega arith, omega arith, omega arith)

none-lost : (f : Flow) (steps : List FlowStep) → NoneIsGivenUp steps → (after f steps).lost ≡ f.lost
none-lost f [] h = refl
none-lost f (comes ∷ ss) h =
    let rest : (after (step_flow f comes) ss).lost ≡ (step_flow f comes).lost = none-lost (step_flow f comes) ss h in
    let same : (step_flow f comes).lost ≡ f.lost = grind (arith, common_steps) in
    omega arith
none-lost f (brings ∷ ss) h = none-lost (step_flow f brings) ss h
none-lost f (gives_up ∷ ss) h = elim h [ ]
none-lost f (stores n ∷ ss) h = none-lost (step_flow f (stores n)) ss h
none-lost f (loses n ∷ ss) h = elim h [ ]

pub lost-given-up : LostFramesWereGivenUp
lost-given-up f steps = let all = all-stays f steps in (none-lost f steps, all.0, all.1, all.2)
