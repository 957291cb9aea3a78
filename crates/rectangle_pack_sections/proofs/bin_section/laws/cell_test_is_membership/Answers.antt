use Rattle.rectangle_pack_sections.proofs.lemmas.cuts.Boxes.{is_cell_of-true, is_cell_of-from}
use Rattle.rectangle_pack_sections.proofs.bin_section.laws.cell_test_is_membership.Goals as goal

pub returns : goal.returns
returns c = λ cell b. (is_cell_of-true cell b, is_cell_of-from cell b)
