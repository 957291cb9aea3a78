use Rattle.rectangle_pack_sections.proofs.Std.{rules}
use Rattle.std.proofs.lemmas.List.Elements.{filter_from_retain}
use Rattle.rectangle_pack_sections.specs.Boxes.{has_cells}
use Rattle.rectangle_pack_lists.proofs.coalesce.close_up.Goals as goal

pub returns : goal.returns
returns g c = filter_from_retain _ has_cells (λ p x b q called. search rules) _ _ _ c.retain.ensures.filtered
