use Rattle.rectangle_pack_sections.proofs.Std.{filter}
use Rattle.rectangle_pack_sections.specs.Boxes.{has_cells}
use Rattle.rectangle_pack_sections.proofs.lemmas.cuts.SameBoxes.{HaveSameBoxes-sym, HaveSameBoxes-filter, IsFromCuts-same}
use Rattle.rectangle_pack_plans.proofs.lemmas.cut_plan.Filling.{IsFilled-bin}
use Rattle.rectangle_pack_covers.proofs.covers.are_from_cuts.Goals as goal

pub plan_of-requires : goal.plan_of-requires
plan_of-requires g c = record {
  filled = rw (c.all_of.ensures.whole, c.as_mut_slice.ensures.value, c.in_ok-parts.ensures)
      (IsFilled-bin c.args.size c.args.boxes.now (rw c.all_of.ensures.whole at c.all_of.ensures.fits) c.requires);
}

pub returns-in-Some : goal.returns-in-Some
returns-in-Some g c =
    let boxes = c.args.boxes.now in
    let answer = rw (c.all_of.ensures.whole, c.as_mut_slice.ensures.value, c.in_ok-parts.ensures, c.in-Some.is) at c.in_ok-plan_of.ensures in
    IsFromCuts-same (filter has_cells boxes) boxes (HaveSameBoxes-filter boxes) answer.from_cuts

pub returns : goal.returns
returns g c =
    let boxes = c.args.boxes.now in
    let answer = rw (c.all_of.ensures.whole, c.as_mut_slice.ensures.value, c.in_ok-parts.ensures, c.in-None.is) at c.in_ok-plan_of.ensures in
    λ from. answer (IsFromCuts-same boxes (filter has_cells boxes) (HaveSameBoxes-sym (filter has_cells boxes) boxes (HaveSameBoxes-filter boxes)) from)
