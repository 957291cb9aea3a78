use Rattle.rectangle_pack_sections.proofs.lemmas.cuts.TotalOrders.{size_order_total}
use Rattle.rectangle_pack_sections.proofs.width_height_depth.laws.sizes_are_ordered.Goals as goal

pub returns-clause-total : goal.returns-clause-total
returns-clause-total c = size_order_total
