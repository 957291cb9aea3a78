use Rattle.rectangle_pack_sections.proofs.Std.{refl}
use Rattle.rectangle_pack_sections.proofs.lemmas.groups.GroupOrder.{groups_total}
use Rattle.rectangle_pack.proofs.lemmas.bound.Arranged.{told_fewest_are_used}
use Rattle.rectangle_pack.proofs.bound.laws.told_fewest_bins_are_used.Goals as goal

pub returns : goal.returns
returns g c =
    told_fewest_are_used _ g.Id.Ord.cmp g.BinId.Ord.cmp
    (groups_total _ g.Id.Ord.cmp g.GroupId.Ord.cmp g.met.Id.Ord.total g.met.GroupId.Ord.total (λ a b. refl) (λ a b. refl) (λ a b. refl) (λ a b. refl))
    g.met.BinId.Ord.total
