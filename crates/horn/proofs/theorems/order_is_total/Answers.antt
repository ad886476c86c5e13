use Rattle.horn.proofs.Order.{total_order}
use Rattle.horn.proofs.theorems.order_is_total.Goals as goal

pub returns : goal.returns
returns c = total_order
