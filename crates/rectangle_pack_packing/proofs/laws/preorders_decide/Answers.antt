use Rattle.rectangle_pack_packing.proofs.lemmas.determinism.Preorders.{total_decides}
use Rattle.rectangle_pack_packing.proofs.laws.preorders_decide.Goals as goal

pub returns : goal.returns
returns g c = λ boxes bins. total_decides boxes bins _ c.requires.one_rate c.requires.preorder
