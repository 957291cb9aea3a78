use Rattle.rectangle_pack_sections.proofs.Std.{refl}
use Rattle.rectangle_pack_sections.proofs.lemmas.groups.GroupOrder.{groups_total}
use Rattle.rectangle_pack_groups.proofs.lemmas.groups.OnePush.{alone_alike, into_alike}
use Rattle.rectangle_pack_groups.proofs.grouped_rects_to_place.laws.equal_pushes_leave_equal_collections.Goals as goal

pub returns-clause-alone : goal.returns-clause-alone
returns-clause-alone g c =
    alone_alike _ g.Id.Ord.cmp g.GroupId.Ord.cmp
    (groups_total _ g.Id.Ord.cmp g.GroupId.Ord.cmp g.met.Id.Ord.total g.met.GroupId.Ord.total (λ a b. refl) (λ a b. refl) (λ a b. refl) (λ a b. refl))
    g.met.Id.Ord.total (λ a b. refl) (λ a b. refl)

pub returns-clause-grouped : goal.returns-clause-grouped
returns-clause-grouped g c =
    into_alike _ g.Id.Ord.cmp g.GroupId.Ord.cmp
    (groups_total _ g.Id.Ord.cmp g.GroupId.Ord.cmp g.met.Id.Ord.total g.met.GroupId.Ord.total (λ a b. refl) (λ a b. refl) (λ a b. refl) (λ a b. refl))
    g.met.Id.Ord.total (λ a b. refl) (λ a b. refl)
