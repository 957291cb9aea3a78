use Rattle.rectangle_pack_sections.proofs.Std.{◌≡◌, List, length, subst}
use Rattle.rectangle_pack_sections.specs.declared.axis.Axis.{Axis}
use Rattle.rectangle_pack_sections.specs.declared.axis.Axis.TheVariants.{X, Y, Z}
use Rattle.rectangle_pack_plans.specs.declared.cut_plan.split.Split.{Split}
use Rattle.rectangle_pack_sections.specs.Boxes.{Cuboid}
use Rattle.rectangle_pack_sections.specs.CutTrees.{upper}
use Rattle.rectangle_pack_plans.specs.private.CutPlans.{IsLeftIn, along, AreInOrder, IsKeptSplit}
use Rattle.rectangle_pack_plans.proofs.lemmas.cut_plan.Orders.{IsKept, IsKept-taken, IsKept-other, IsKeptAbove-from}
use Rattle.rectangle_pack_plans.proofs.cut_plan.peel.advance.Goals as goal

-- the order from which the boxes were taken, and one that has them still
module _ (part above : Cuboid) (xs ys zs : List Cuboid) (s : Split) (ordered : AreInOrder part xs ys zs) (split : IsKeptSplit part xs ys zs s)
    (is_above : above ≡ upper s.axis s.place part) where
  taken : (order rest last to : List Cuboid) (a : Axis) → s.axis ≡ a → order ≡ along s.axis xs ys zs → length to ≡ s.below → IsLeftIn part (length to) order rest
      → IsLeftIn above 0 rest last → IsKept part xs ys zs s ordered split a last
  taken order rest last to a is on long off next =
      let off_below = subst (λ n. IsLeftIn part n order rest) long off in
      let off_along = subst (λ l. IsLeftIn part s.below l rest) on off_below in
      subst (λ e. IsKept part xs ys zs s ordered split e last) is
      (IsKept-taken part xs ys zs s ordered split rest last off_along (subst (λ w. IsLeftIn w 0 rest last) is_above next))

  other : (a : Axis) (last : List Cuboid) → IsLeftIn above 0 (along a xs ys zs) last → IsKept part xs ys zs s ordered split a last
  other a last next = IsKept-other part xs ys zs s ordered split a last (subst (λ w. IsLeftIn w 0 (along a xs ys zs) last) is_above next)

pub returns-in-X-clause-kept : goal.returns-in-X-clause-kept
returns-in-X-clause-kept c =
    let t = taken _ _ _ _ _ c.args.split.now c.requires.ordered c.requires.split c.requires.above _ _ _ c.args.to.now X c.in-X.is c.along.ensures c.requires.room
    c.take_off-rest.ensures.rest c.skip-rest.ensures in
    let o = other _ _ _ _ _ c.args.split.now c.requires.ordered c.requires.split c.requires.above in
    IsKeptAbove-from _ _ _ _ _ c.requires.ordered c.requires.split _ _ _ t (o Y _ c.skip.ensures) (o Z _ c.skip-in-X.ensures)

pub returns-in-Y-clause-kept : goal.returns-in-Y-clause-kept
returns-in-Y-clause-kept c =
    let t = taken _ _ _ _ _ c.args.split.now c.requires.ordered c.requires.split c.requires.above _ _ _ c.args.to.now Y c.in-Y.is c.along.ensures c.requires.room
    c.take_off-rest.ensures.rest c.skip-rest.ensures in
    let o = other _ _ _ _ _ c.args.split.now c.requires.ordered c.requires.split c.requires.above in
    IsKeptAbove-from _ _ _ _ _ c.requires.ordered c.requires.split _ _ _ (o X _ c.skip-in-Y.ensures) t (o Z _ c.skip-in-Y-2.ensures)

pub returns-in-Z-clause-kept : goal.returns-in-Z-clause-kept
returns-in-Z-clause-kept c =
    let t = taken _ _ _ _ _ c.args.split.now c.requires.ordered c.requires.split c.requires.above _ _ _ c.args.to.now Z c.in-Z.is c.along.ensures c.requires.room
    c.take_off-rest.ensures.rest c.skip-rest.ensures in
    let o = other _ _ _ _ _ c.args.split.now c.requires.ordered c.requires.split c.requires.above in
    IsKeptAbove-from _ _ _ _ _ c.requires.ordered c.requires.split _ _ _ (o X _ c.skip-in-Z.ensures) (o Y _ c.skip-in-Z-2.ensures) t
