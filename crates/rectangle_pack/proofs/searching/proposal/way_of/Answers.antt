use Rattle.rectangle_pack_sections.proofs.Std.{◌∙◌, sym, Contains}
use Rattle.rectangle_pack_sections.specs.contracts.width_height_depth.WidthHeightDepthPartialEq.TheImpl.{ghosts}
use Rattle.rectangle_pack_bounds.specs.declared.turning.TurningBox.{TurningBox}
use Rattle.rectangle_pack_bounds.specs.Turning.{ways}
use Rattle.rectangle_pack_bounds.proofs.lemmas.SameSizes.{sizes-same}
use Rattle.rectangle_pack.proofs.lemmas.bound.Arranged.{as_it_is}
use Rattle.rectangle_pack.proofs.lemmas.searching.Sizes.{way-found}
use Rattle.rectangle_pack.proofs.searching.proposal.way_of.Goals as goal

-- the box may stand as it is
own : (b : TurningBox) → Contains (ways b) b.whd
own b = as_it_is b.turns.about_x b.turns.about_y b.turns.about_z b.whd

pub returns-then-may_stand_in : goal.returns-then-may_stand_in
returns-then-may_stand_in g =
    way-found g.in-Some.whd ghosts.eq (ways g.args.turning) (sym g.may_stand_in.ensures ∙ g.if-may_stand_in.true) sizes-same

pub returns-else-may_stand_in : goal.returns-else-may_stand_in
returns-else-may_stand_in g = own g.args.turning

pub returns-in_default : goal.returns-in_default
returns-in_default g = own g.args.turning
