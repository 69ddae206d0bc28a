-- What is decided for what a user asks for.
use Rattle.std.proofs.Common.{◌≡◌, ℕ, ◌+◌, ◌-◌, ◌*◌, ◌^◌, ◌≤◌, ◌<◌, ◌&&◌, Bool, true, false, not, Option, Some, None, arith, refl}
use Rattle.loop_station_core.specs.Keeps.{IsAskedTime, asked_time}
use Rattle.loop_station_core.specs.Sets.{clip_id}
use Rattle.loop_station_core.specs.declared.keep.KeepPeriod.TheVariants.{Around, Between}

and-both : (a b : Bool) → a && b ≡ true → (a ≡ true) × (b ≡ true)
and-both true true e = (refl, refl)
and-both true false e = absurd (cc)
and-both false b e = absurd (cc)

not-true : (b : Bool) → not b ≡ true → b ≡ false
not-true true e = absurd (cc)
not-true false e = refl

pub keeps-cover-their-seconds : (read seconds more before after t : ℕ) → t < 2 ^ 64
    → let asked = asked_time (Around (Some seconds) (Some more)) read before after in
    (IsAskedTime asked t → (read ≤ t + seconds * 1000000) × (t ≤ read + more * 1000000))
    × (read ≤ t + seconds * 1000000 → t ≤ read + more * 1000000 → IsAskedTime asked t)
keeps-cover-their-seconds read seconds more before after t fits =
    (λ h. let from = h.0 in let to = h.1 in (omega arith, omega arith), λ from to. (omega arith, omega arith))

pub keeps-take-the-cameras-seconds : (seconds more : Option ℕ) (read before after : ℕ)
    → (asked_time (Around None more) read before after ≡ asked_time (Around (Some before) more) read before after)
    × (asked_time (Around seconds None) read before after ≡ asked_time (Around seconds (Some after)) read before after)
keeps-take-the-cameras-seconds seconds more read before after = (refl, refl)

pub keeps-cover-both-ends : (since until read before after t : ℕ)
    → let asked = asked_time (Between since until) read before after in
    (IsAskedTime asked t → (since ≤ t) × (t ≤ until)) × (since ≤ t → t ≤ until → IsAskedTime asked t)
keeps-cover-both-ends since until read before after t = (λ h. h, λ from to. (from, to))

pub clips-have-their-own-ids : (store id other there : ℕ) → id < 64 → there < 64
    → clip_id store id ≡ clip_id other there → (store ≡ other) × (id ≡ there)
clips-have-their-own-ids store id other there few small e = (omega arith, omega arith)

pub ids-are-those-of-the-file : (store id : ℕ) → store < 256 → id < 64 → (clip_id 0 id ≡ id) × (clip_id store id < 2 ^ 32 - 1)
ids-are-those-of-the-file store id few small = (omega arith, omega arith)
