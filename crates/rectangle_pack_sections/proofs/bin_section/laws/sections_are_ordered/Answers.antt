use Rattle.rectangle_pack_sections.proofs.lemmas.cuts.TotalOrders.{section_order_total}
use Rattle.rectangle_pack_sections.proofs.bin_section.laws.sections_are_ordered.Goals as goal

pub returns-clause-total : goal.returns-clause-total
returns-clause-total c = section_order_total
