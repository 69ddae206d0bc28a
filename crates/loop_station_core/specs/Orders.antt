-- Which orders of a camera are taken in, and which are handed out.
use Rattle.std.specs.Prelude.{◌≡◌, ◌≤◌, ◌⊎◌, ℕ, ◌+◌, ◌-◌, ◌==◌, ◌&&◌, Bool, true, false, not, List, [], ◌∷◌, nat_lt, if◌then◌else◌, ◌≢◌, ◌<◌}
use Rattle.loop_station_core.specs.declared.orders.AddedOrder.{AddedOrder}
use Rattle.loop_station_core.specs.declared.orders.AddedOrder.TheVariants.{Waits, Absent, TooMany}
use Rattle.loop_station_core.specs.declared.orders.Attended.{Attended}
use Rattle.loop_station_core.specs.declared.orders.Attended.TheVariants.{NotYet, Now, Gone}
use Rattle.loop_station_core.specs.declared.orders.Orders.{Orders}

abbrev pub no_orders : Orders
no_orders = record { waiting = 0; busy = false; attended = NotYet }

abbrev pub is_unattended : Attended → Bool
is_unattended Gone = true
is_unattended _ = false

-- one more comes: it is taken in where somebody does orders, or is still to come, and fewer than 256 wait
abbrev pub order_added : Orders → Orders × AddedOrder
order_added o = if is_unattended o.attended then (o, Absent)
    else (if nat_lt o.waiting 256 then (record o { waiting = o.waiting + 1 }, Waits) else (o, TooMany))

-- the first one is handed out, if there is one
abbrev pub order_handed : Orders → Orders × Bool
order_handed o = (record o { waiting = o.waiting - 1; busy = nat_lt 0 o.waiting }, nat_lt 0 o.waiting)

-- one is done, and whether further ones wait
abbrev pub after_one : Orders → Orders × Bool
after_one o = (record o { busy = false }, nat_lt 0 o.waiting)

-- somebody does them, or nobody any more
abbrev pub opened : Orders → Orders
opened o = record o { attended = Now }

abbrev pub unattended : Orders → Orders
unattended o = record o { attended = Gone }

abbrev pub are_done : Orders → Bool
are_done o = (o.waiting == 0) && not o.busy

-- What happens to the orders of a camera: one comes, the first is handed out, one is done, somebody comes, nobody is
-- there any more.
pub data OrderStep : Type 0 where
  adds : OrderStep
  hands : OrderStep
  ends : OrderStep
  opens : OrderStep
  leaves : OrderStep

-- the orders after that
abbrev pub orders_after : Orders → OrderStep → Orders
orders_after o adds = (order_added o).0
orders_after o hands = (order_handed o).0
orders_after o ends = (after_one o).0
orders_after o opens = opened o
orders_after o leaves = unattended o

abbrev pub orders_after_all : Orders → List OrderStep → Orders
orders_after_all o [] = o
orders_after_all o (s ∷ ss) = orders_after_all (orders_after o s) ss

-- an order is taken in by a step
abbrev pub added_count : AddedOrder → ℕ
added_count Waits = 1
added_count _ = 0

abbrev pub orders_taken_by : Orders → OrderStep → ℕ
orders_taken_by o adds = added_count (order_added o).1
orders_taken_by o _ = 0

-- one is handed out
abbrev pub orders_handed_by : Orders → OrderStep → ℕ
orders_handed_by o hands = if (order_handed o).1 then 1 else 0
orders_handed_by o _ = 0

-- how many are, by a list of steps
abbrev pub orders_taken_in : Orders → List OrderStep → ℕ
orders_taken_in o [] = 0
orders_taken_in o (s ∷ ss) = orders_taken_by o s + orders_taken_in (orders_after o s) ss

abbrev pub orders_handed_in : Orders → List OrderStep → ℕ
orders_handed_in o [] = 0
orders_handed_in o (s ∷ ss) = orders_handed_by o s + orders_handed_in (orders_after o s) ss

-- A camera with nothing to do has been handed each order that was taken in. One that isn't has an order that waits, or
-- is being done.
abbrev pub IdleCamerasAreDone : Type 0
IdleCamerasAreDone = (steps : List OrderStep) → let orders = orders_after_all no_orders steps in
    (are_done orders ≡ true → (orders_handed_in no_orders steps ≡ orders_taken_in no_orders steps)
    × (orders.busy ≡ false))
    × (are_done orders ≡ false → (1 ≤ orders.waiting) ⊎ (orders.busy ≡ true))

-- An order is taken in exactly where somebody does orders, or is still to come, and fewer than 256 wait; and where one
-- waits, one is handed out.
abbrev pub OrdersAreTakenIn : Type 0
OrdersAreTakenIn = (o : Orders) → let added = order_added o in
    (added.1 ≡ Waits → (o.attended ≢ Gone) × (o.waiting < 256)) × (added.1 ≡ TooMany → 256 ≤ o.waiting)
    × (added.1 ≡ Absent → o.attended ≡ Gone) × (1 ≤ o.waiting → (order_handed o).1 ≡ true)
    × (1 ≤ o.waiting → (after_one o).1 ≡ true) × ((after_one o).1 ≡ true → 1 ≤ o.waiting)
