-- What has room, and what is still to be done.
use Rattle.std.proofs.Common.{◌≡◌, ℕ, ◌+◌, ◌-◌, ◌*◌, ◌/◌, ◌%◌, ◌^◌, ◌==◌, ◌≤◌, ◌<◌, ◌⊎◌, ◌&&◌, Bool, true, false, not, List, [], ◌∷◌, Some, None, zero, suc, slice_get, length, arith, refl, sym, ap, subst, inl, inr, max, min, nat_lt, if◌then◌else◌, ◌∙◌}
use Rattle.std.specs.Int.{div_ceil}
use Rattle.std.specs.List.{position, position_or_len}
use Rattle.std.proofs.lemmas.Bool.{eqb-true, eq-eqb}
use Rattle.std.proofs.lemmas.Grind.{common_steps, div_ceil_times}
use Rattle.std.proofs.lemmas.Nat.{div-add-mod', div_below, mod_below, mul-le}
use Rattle.loop_station_core.proofs.OrderLaws.{orders-in-turn}
use Rattle.loop_station_core.proofs.ReleaseLaws.{first-at}
use Rattle.loop_station_core.specs.Clips.{keeps_in}
use Rattle.loop_station_core.specs.Orders.{OrderStep, are_done, no_orders, orders_after_all, orders_handed_in, orders_taken_in}
use Rattle.loop_station_core.specs.Retries.{reads_clip, taken}
use Rattle.loop_station_core.specs.Sets.{frames_held_since}
use Rattle.loop_station_core.specs.declared.orders.Orders.{Orders}
use Rattle.loop_station_core.specs.declared.retries.Retry.{Retry}

-- what one needs, and how many have it
shared : (blocks each : ℕ) → 0 < each → (blocks / each * each ≤ blocks) × (blocks < (blocks / each + 1) * each)
shared blocks each some =
    let e = div-add-mod' blocks each in let r = mod_below blocks each some in
    let next : (blocks / each + 1) * each ≡ blocks / each * each + each = grind (arith, common_steps) in
    (omega arith, omega arith)

touches : (frames slots begins : ℕ) → 1 ≤ slots → begins < slots
    → (begins + frames + (slots - 1)) / slots ≤ div_ceil frames slots + 1
touches frames slots begins some within =
    let c : frames ≤ div_ceil frames slots * slots = (div_ceil_times frames slots some).0 in
    let wide : (div_ceil frames slots + 2) * slots ≡ div_ceil frames slots * slots + slots + slots = grind (arith, common_steps) in
    let b = div_below (begins + frames + (slots - 1)) slots (div_ceil frames slots + 2) some (omega arith) in
    omega arith

few : (frames slots : ℕ) → 1 ≤ slots → frames < 2 ^ 64 - 1 → div_ceil frames slots + 1 ≤ 2 ^ 64 - 1
few frames slots some fits =
    let e = div-add-mod' frames slots in
    let q : frames / slots * 1 ≤ frames / slots * slots = mul-le (frames / slots) 1 (frames / slots) slots (omega arith) some in
    let m : min 1 (frames % slots) ≤ frames % slots = omega arith in
    omega arith

pub keeps-have-room : (blocks frames slots begins : ℕ) → 1 ≤ slots → frames < 2 ^ 64 - 1 → begins < slots
    → let keeps = keeps_in blocks frames slots in
    (keeps * ((begins + frames + (slots - 1)) / slots) ≤ blocks) × (blocks < (keeps + 1) * (frames / slots + 2))
keeps-have-room blocks frames slots begins some fits within = subst
    (λ k. (k * ((begins + frames + (slots - 1)) / slots) ≤ blocks) × (blocks < (k + 1) * (frames / slots + 2)))
    (sym is) (fit, all)
  where
    each : ℕ
    each = div_ceil frames slots + 1

    is : keeps_in blocks frames slots ≡ blocks / each
    is = let wide : max slots 1 ≡ slots = omega arith in
        let small : min each (2 ^ 64 - 1) ≡ each = let f = few frames slots some fits in omega arith in
        ap (λ s. blocks / min (div_ceil frames s + 1) (2 ^ 64 - 1)) wide ∙ ap (λ n. blocks / n) small

    fit : blocks / each * ((begins + frames + (slots - 1)) / slots) ≤ blocks
    fit = let l = mul-le (blocks / each) ((begins + frames + (slots - 1)) / slots) (blocks / each) each (omega arith)
        (touches frames slots begins some within) in
        let s = (shared blocks each (omega arith)).0 in omega arith

    all : blocks < (blocks / each + 1) * (frames / slots + 2)
    all = let s = (shared blocks each (omega arith)).1 in
        let l = mul-le (blocks / each + 1) each (blocks / each + 1) (frames / slots + 2) (omega arith) (omega arith) in omega arith

pub stores-hold-what-came : (segments slots held began next : ℕ) → 1 ≤ segments → 1 ≤ slots
    → let holds = frames_held_since segments slots held began next in
    (holds ≤ held + (next - began)) × (holds ≤ segments * slots)
    × (held + (next - began) ≤ (segments - 1) * slots → holds ≡ held + (next - began))
stores-hold-what-came zero slots held began next some wide = absurd (omega arith)
stores-hold-what-came (suc n) slots held began next some wide =
    let m = mod_below (next + (slots - 1)) slots wide in
    let one : (suc n - 1) * slots + slots ≡ suc n * slots = grind (arith, common_steps) in
    (omega arith, omega arith, λ h. omega arith)

idle-means : (o : Orders) → are_done o ≡ true → (o.waiting ≡ 0) × (o.busy ≡ false)
idle-means o e = at (o.waiting == 0) o.busy refl refl e
  where
    at : (a b : Bool) → (o.waiting == 0) ≡ a → o.busy ≡ b → a && not b ≡ true → (o.waiting ≡ 0) × (o.busy ≡ false)
    at true false h k e = (eqb-true o.waiting 0 h, k)
    at true true h k e = absurd (cc)
    at false b h k e = absurd (cc)

busy-means : (o : Orders) → are_done o ≡ false → (1 ≤ o.waiting) ⊎ (o.busy ≡ true)
busy-means o e = at (o.waiting == 0) o.busy refl refl e
  where
    at : (a b : Bool) → (o.waiting == 0) ≡ a → o.busy ≡ b → a && not b ≡ false → (1 ≤ o.waiting) ⊎ (o.busy ≡ true)
    at true false h k e = absurd (cc)
    at true true h k e = inr k
    at false b h k e = inl (grind (arith, common_steps))

pub idle-cameras-are-done : (steps : List OrderStep) → let orders = orders_after_all no_orders steps in
    (are_done orders ≡ true → (orders_handed_in no_orders steps ≡ orders_taken_in no_orders steps) × (orders.busy ≡ false))
    × (are_done orders ≡ false → (1 ≤ orders.waiting) ⊎ (orders.busy ≡ true))
idle-cameras-are-done steps = (
  (λ e. let i = idle-means (orders_after_all no_orders steps) e in let w = i.0 in let all = (orders-in-turn steps).1 in (omega arith, i.1)),
  busy-means (orders_after_all no_orders steps),
)

and-both : (a b : Bool) → a && b ≡ true → (a ≡ true) × (b ≡ true)
and-both true true e = (refl, refl)
and-both true false e = absurd (cc)
and-both false b e = absurd (cc)

module _ (p : Retry → Bool) where
  -- where one passes, one is found
  found : (rs : List Retry) (i : ℕ) (r : Retry) → slice_get rs i ≡ Some r → p r ≡ true
      → nat_lt (position_or_len p rs) (length rs) ≡ true
  found [] i r e h = grind (arith, common_steps)
  found (x ∷ xs) zero r e h = grind (arith, common_steps)
  found (x ∷ xs) (suc i) r e h = let rest = found xs i r e h in grind (arith, common_steps)

  taken-at : (rs : List Retry) (b : Bool) → nat_lt (position_or_len p rs) (length rs) ≡ b
      → (taken p rs).1 ≡ (if b then Some (position_or_len p rs) else None)
  taken-at rs true h = grind (arith, common_steps)
  taken-at rs false h = grind (arith, common_steps)

  taken-passes : (rs : List Retry) (i : ℕ) (r : Retry) → (taken p rs).1 ≡ Some i → slice_get rs i ≡ Some r → p r ≡ true
  taken-passes rs i r e s = let first : position p rs ≡ Some i = grind (arith, common_steps) in first-at p rs i r first s

  none-passes : (rs : List Retry) (i : ℕ) (r : Retry) → (taken p rs).1 ≡ None → slice_get rs i ≡ Some r → p r ≡ true → ⊥
  none-passes rs i r e s h = let t = taken-at rs true (found rs i r s h) in cc

pub cancels-mean-their-clip : (retries : List Retry) (camera id i : ℕ) (r : Retry) → slice_get retries i ≡ Some r
    → ((taken (reads_clip camera id) retries).1 ≡ Some i → (r.key.camera ≡ camera) × (r.key.id ≡ id))
    × ((taken (reads_clip camera id) retries).1 ≡ None → r.key.camera ≡ camera → r.key.id ≡ id → ⊥)
cancels-mean-their-clip rs camera id i r s = (
  (λ e. let b = and-both (r.key.camera == camera) (r.key.id == id) (taken-passes (reads_clip camera id) rs i r e s) in
      (eqb-true r.key.camera camera b.0, eqb-true r.key.id id b.1)),
  (λ e c d. none-passes (reads_clip camera id) rs i r e s
      (ap (λ b. b && (r.key.id == id)) (eq-eqb r.key.camera camera c) ∙ eq-eqb r.key.id id d)),
)
