use Rattle.loop_record.proofs.CyclicOrder.{order-true, places-are}
use Rattle.loop_record.proofs.laws.order_is_true.Goals as goal

pub returns-clause-places : goal.returns-clause-places
returns-clause-places c = places-are

pub returns-clause-order : goal.returns-clause-order
returns-clause-order c = order-true
