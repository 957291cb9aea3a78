use Rattle.std.proofs.Common.{◌∙◌}
use Rattle.rectangle_pack_bounds.proofs.lemmas.SameSizes.{bins-alike}
use Rattle.rectangle_pack_bounds.proofs.least_bins.all_have_bins.Goals as goal

pub returns : goal.returns
returns g c =
    c.each_has_bin.ensures ∙ bins-alike _ _ c.args.boxes.now (rw c.as_slice.ensures.value c.in_ok-sizes.ensures)
