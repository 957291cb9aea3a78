use Rattle.rectangle_pack_sections.proofs.Std.{refl}
use Rattle.rectangle_pack_lists.proofs.lemmas.joining.Names.{renamed-at}
use Rattle.rectangle_pack_lists.proofs.corners.rename.Goals as goal

pub returns-in-Some : goal.returns-in-Some
returns-in-Some c = renamed-at c.args.names.now _ c.in-Some.at c.args.corner c.args.slot c.requires c.in-Some.ensures.some.0 c.in-Some.ensures.some.1 refl
