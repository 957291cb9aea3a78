use Rattle.rectangle_pack_c.proofs.Std.{◌∙◌, arith}
use Rattle.rectangle_pack_c.proofs.fitting.write_among.Goals as goal

pub returns : goal.returns
returns g c = record {
  placed = c.write_all.ensures.written;
  others = λ k low none. c.write_all.ensures.others k none ∙ c.fill.ensures k (omega (arith, low, c.write_all.auto.placements));
}
