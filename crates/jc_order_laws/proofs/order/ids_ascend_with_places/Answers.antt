use Rattle.jc_order_laws.proofs.Ascending.{ids_ascend}
use Rattle.jc_order_laws.proofs.order.ids_ascend_with_places.Goals as goal

pub returns : goal.returns
returns c = ids_ascend
