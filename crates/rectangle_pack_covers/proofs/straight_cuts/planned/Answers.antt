use Rattle.rectangle_pack_covers.proofs.lemmas.StraightCuts.{IsFilled-cuts}
use Rattle.rectangle_pack_covers.proofs.straight_cuts.planned.Goals as goal

pub plan_of-requires : goal.plan_of-requires
plan_of-requires g c = record {
  filled = rw (c.all_of.ensures.whole, c.as_mut_slice.ensures.value, c.in_ok-parts.ensures)
      (IsFilled-cuts c.args.size c.args.free.now c.args.boxes.now (rw c.all_of.ensures.whole at c.all_of.ensures.fits) c.requires.cells c.requires.from_cuts);
}
