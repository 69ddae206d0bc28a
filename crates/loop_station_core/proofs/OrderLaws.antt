-- Orders that are taken in are handed out, or wait.
use Rattle.std.proofs.Common.{◌≡◌, ◌≤◌, ◌+◌, List, [], ◌∷◌, arith, ◌≢◌, ◌<◌, refl, true}
use Rattle.std.proofs.lemmas.Grind.{common_steps}
use Rattle.loop_station_core.specs.Orders.{OrderStep, adds, ends, hands, leaves, no_orders, opens, orders_after, orders_after_all, orders_handed_by, orders_handed_in, orders_taken_by, orders_taken_in, OrdersAreTakenIn, order_added, order_handed, after_one}
use Rattle.loop_station_core.specs.declared.orders.Orders.{Orders}
use Rattle.loop_station_core.specs.declared.orders.Attended.{Attended}
use Rattle.loop_station_core.specs.declared.orders.Attended.TheVariants.{NotYet, Now, Gone}
use Rattle.loop_station_core.specs.declared.orders.AddedOrder.TheVariants.{Waits, Absent, TooMany}

one-step : (o : Orders) (s : OrderStep) → o.waiting ≤ 256
    → ((orders_after o s).waiting ≤ 256) × (orders_handed_by o s + (orders_after o s).waiting ≡ o.waiting + orders_taken_by o s)
one-step o adds h = grind (arith, common_steps)
one-step o hands h = grind (arith, common_steps)
one-step o ends h = grind (arith, common_steps)
one-step o opens h = grind (arith, common_steps)
one-step o leaves h = grind (arith, common_steps)

from-any : (o : Orders) (steps : List OrderStep) → o.waiting ≤ 256
    → ((orders_after_all o steps).waiting ≤ 256)
    × (orders_handed_in o steps + (orders_after_all o steps).waiting ≡ o.waiting + orders_taken_in o steps)
from-any o [] h = grind (arith, common_steps)
from-any o (s ∷ ss) h =
    let one = one-step o s h in
    let rest = from-any (orders_after o s) ss one.0 in
    grind (arith, common_steps)

pub orders-in-turn : (steps : List OrderStep)
    → ((orders_after_all no_orders steps).waiting ≤ 256)
    × (orders_handed_in no_orders steps + (orders_after_all no_orders steps).waiting ≡ orders_taken_in no_orders steps)
orders-in-turn steps = let r = from-any no_orders steps (grind (arith, common_steps)) in grind (arith, common_steps)

pub orders-taken : OrdersAreTakenIn
orders-taken o = at o.attended refl
  where
    at : (x : Attended) → o.attended ≡ x → let added = order_added o in
        (added.1 ≡ Waits → (o.attended ≢ Gone) × (o.waiting < 256)) × (added.1 ≡ TooMany → 256 ≤ o.waiting)
        × (added.1 ≡ Absent → o.attended ≡ Gone) × (1 ≤ o.waiting → (order_handed o).1 ≡ true)
        × (1 ≤ o.waiting → (after_one o).1 ≡ true) × ((after_one o).1 ≡ true → 1 ≤ o.waiting)
    at NotYet e = (
      (λ t. ((λ g. grind (arith, common_steps)), grind (arith, common_steps))),
      (λ t. grind (arith, common_steps)),
      (λ t. grind (arith, common_steps)),
      (λ some. grind (arith, common_steps)),
      (λ some. grind (arith, common_steps)),
      (λ more. grind (arith, common_steps)),
    )
    at Now e = (
      (λ t. ((λ g. grind (arith, common_steps)), grind (arith, common_steps))),
      (λ t. grind (arith, common_steps)),
      (λ t. grind (arith, common_steps)),
      (λ some. grind (arith, common_steps)),
      (λ some. grind (arith, common_steps)),
      (λ more. grind (arith, common_steps)),
    )
    at Gone e = (
      (λ t. grind (arith, common_steps)),
      (λ t. grind (arith, common_steps)),
      (λ t. e),
      (λ some. grind (arith, common_steps)),
      (λ some. grind (arith, common_steps)),
      (λ more. grind (arith, common_steps)),
    )
