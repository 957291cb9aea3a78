use Rattle.rectangle_pack_sections.proofs.Std.{refl}
use Rattle.rectangle_pack_sections.proofs.lemmas.groups.GroupOrder.{groups_total}
use Rattle.rectangle_pack_packing.proofs.lemmas.packing.ToldLaws.{packings_can_be_told}
use Rattle.rectangle_pack_packing.proofs.laws.told.packing_can_be_told.Goals as goal

pub returns : goal.returns
returns g c =
    packings_can_be_told _ _ _
    (groups_total _ g.Id.Ord.cmp g.GroupId.Ord.cmp g.met.Id.Ord.total g.met.GroupId.Ord.total (λ a b. refl) (λ a b. refl) (λ a b. refl) (λ a b. refl))
