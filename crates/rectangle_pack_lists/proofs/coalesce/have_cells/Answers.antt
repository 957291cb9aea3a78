use Rattle.rectangle_pack_sections.proofs.Std.{rules, ◌≡◌, true, false, All, OnTrue_from}
use Rattle.std.proofs.lemmas.Bool.{MatchBool-at_true}
use Rattle.std.proofs.lemmas.Iterator.{cases_from_all, YieldsList-from_slice}
use Rattle.std.proofs.lemmas.List.Elements.{All-from_all_within}
use Rattle.rectangle_pack_sections.specs.Boxes.{Cuboid, has_cells}
use Rattle.rectangle_pack_lists.proofs.coalesce.have_cells.Goals as goal

pub returns : goal.returns
returns c =
    let HasCells : Cuboid → Type 0 = λ b. has_cells b ≡ true in
    let HasNone : Cuboid → Type 0 = λ b. has_cells b ≡ false in
    let cases = cases_from_all _ _ _ HasCells HasNone c.all.ensures.ran (YieldsList-from_slice c.args.sections.now cc)
    (λ x q k. search rules) (λ x q k. search rules) in
    OnTrue_from c.all.result (All HasCells c.args.sections.now) (λ all. All-from_all_within HasCells c.args.sections.now (MatchBool-at_true _ _ all cases))
