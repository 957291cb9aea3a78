use Rattle.rectangle_pack_sections.proofs.Std.{refl}
use Rattle.rectangle_pack.proofs.searching.outlay.outlay_of.Goals as goal

pub returns : goal.returns
returns g c = rw (c.cells_left.ensures, c.in_ok-cost_made.ensures, c.in_ok-use_made.ensures, c.in_ok-bins_used.ensures) refl
