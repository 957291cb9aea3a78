use Rattle.std.proofs.Common.{◌≡◌, ◌∙◌, length}
use Rattle.std.proofs.lemmas.List.{length-map}
use Rattle.std.proofs.lemmas.List.Sorted.{length_permutation}
use Rattle.rectangle_pack_sections.specs.Boxes.{volume_of}
use Rattle.rectangle_pack_bounds.proofs.volumes.shown_by_volumes.Goals as goal

pub returns : goal.returns
returns g c =
    let long : length c.in_ok-rising.rising.items ≡ length c.args.bins.now =
    length_permutation _ _ c.in_ok-rising.ensures.each_once ∙ length-map c.args.bins.now volume_of in
    let same = c.as_slice.ensures.value in
    let cells = c.cells_of_boxes.ensures in
    let enough = rw (same, cells) at c.fewest_with.ensures.enough in
    record {
      rising = c.in_ok-rising.rising.items;
      each_once = c.in_ok-rising.ensures.each_once;
      ordered = c.in_ok-rising.ensures.ordered;
      too_few = rw (same, cells) at c.fewest_with.ensures.too_few;
      enough = λ within. enough (rw long within);
      most = rw (same, long) at c.fewest_with.ensures.most;
    }
