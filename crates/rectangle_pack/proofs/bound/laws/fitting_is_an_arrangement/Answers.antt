use Rattle.rectangle_pack_sections.proofs.Std.{refl}
use Rattle.rectangle_pack_sections.specs.Closures.{answers}
use Rattle.rectangle_pack_packing.specs.Best.{named_rules}
use Rattle.rectangle_pack_packing.specs.Packing.{rules_by}
use Rattle.rectangle_pack_sections.proofs.lemmas.groups.GroupOrder.{groups_total}
use Rattle.rectangle_pack.proofs.lemmas.bound.Arranged.{fittings_are_arrangements}
use Rattle.rectangle_pack.proofs.bound.laws.fitting_is_an_arrangement.Goals as goal

pub returns-clause-closures : goal.returns-clause-closures
returns-clause-closures g c =
    fittings_are_arrangements _
    (rules_by g.Id.Ord.cmp g.BinId.Ord.cmp (answers g.H.Fn g.C.Fn c.args.heuristic.now c.args.comparison.now))
    (groups_total _ g.Id.Ord.cmp g.GroupId.Ord.cmp g.met.Id.Ord.total g.met.GroupId.Ord.total (λ a b. refl) (λ a b. refl) (λ a b. refl) (λ a b. refl))
    g.met.BinId.Ord.total

pub returns-clause-by_name : goal.returns-clause-by_name
returns-clause-by_name g c = λ named.
    fittings_are_arrangements _ (named_rules g.Id.Ord.cmp g.BinId.Ord.cmp named)
    (groups_total _ g.Id.Ord.cmp g.GroupId.Ord.cmp g.met.Id.Ord.total g.met.GroupId.Ord.total (λ a b. refl) (λ a b. refl) (λ a b. refl) (λ a b. refl))
    g.met.BinId.Ord.total
