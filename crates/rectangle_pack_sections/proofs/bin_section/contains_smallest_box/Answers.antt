use Rattle.rectangle_pack_sections.proofs.Std.{rules}
use Rattle.rectangle_pack_sections.proofs.bin_section.contains_smallest_box.Goals as goal

pub returns-in-Equal : goal.returns-in-Equal
returns-in-Equal g c = search rules
