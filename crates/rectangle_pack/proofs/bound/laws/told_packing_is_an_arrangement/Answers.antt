use Rattle.rectangle_pack_sections.proofs.Std.{refl}
use Rattle.rectangle_pack_sections.proofs.lemmas.groups.GroupOrder.{groups_total}
use Rattle.rectangle_pack.proofs.lemmas.bound.Arranged.{own_sizes, told_are_arrangements}
use Rattle.rectangle_pack.proofs.bound.laws.told_packing_is_an_arrangement.Goals as goal

pub returns-clause-arranged : goal.returns-clause-arranged
returns-clause-arranged g c =
    told_are_arrangements _ g.Id.Ord.cmp g.BinId.Ord.cmp
    (groups_total _ g.Id.Ord.cmp g.GroupId.Ord.cmp g.met.Id.Ord.total g.met.GroupId.Ord.total (λ a b. refl) (λ a b. refl) (λ a b. refl) (λ a b. refl))
    g.met.BinId.Ord.total

pub returns-clause-own_sizes : goal.returns-clause-own_sizes
returns-clause-own_sizes g c = λ all turns. (refl, own_sizes g.Id.Ord.cmp all turns)
