use Rattle.std.proofs.Common.{◌≡◌, rules, tests, nat_le, sym, ◌∙◌}
use Rattle.std.proofs.lemmas.Iterator.{YieldsList-from_slice}
use Rattle.std.proofs.lemmas.Iterator.Search.{all_from_yields_List}
use Rattle.std.proofs.lemmas.List.Folds.{list_all-map}
use Rattle.std.specs.List.{list_all}
use Rattle.rectangle_pack_sections.specs.Boxes.{extent}
use Rattle.rectangle_pack_bounds.proofs.ratings_along.are_full.Goals as goal

pub returns : goal.returns
returns c =
    let axis = c.args.axis in
    let along = extent axis c.args.bin in
    let answer : c.all.result ≡ list_all (λ s. nat_le along (extent axis s)) c.args.sizes.now =
    all_from_yields_List (λ s. nat_le along (extent axis s)) _ _ c.all.result c.all.ensures.ran (YieldsList-from_slice c.args.sizes.now cc) (λ x b q k. search (rules, tests)) in
    answer ∙ sym (list_all-map (nat_le along) (extent axis) c.args.sizes.now)
