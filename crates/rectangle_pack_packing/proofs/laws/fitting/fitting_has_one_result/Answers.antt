use Rattle.rectangle_pack_sections.proofs.Std.{refl, values_of}
use Rattle.rectangle_pack_packing.specs.Best.{named_rules}
use Rattle.rectangle_pack_packing.specs.Packing.{rules_by}
use Rattle.rectangle_pack_packing.proofs.lemmas.best.Whole.{named_decides}
use Rattle.rectangle_pack_packing.proofs.lemmas.determinism.OneFitting.{one_fit}
use Rattle.rectangle_pack_sections.proofs.lemmas.groups.GroupOrder.{groups_total}
use Rattle.rectangle_pack_packing.proofs.laws.fitting.fitting_has_one_result.Goals as goal

pub returns-clause-closures : goal.returns-clause-closures
returns-clause-closures g c = λ all others bins other_bins alike bins_alike decide.
    one_fit _ (rules_by g.Id.Ord.cmp g.BinId.Ord.cmp _)
    (groups_total _ g.Id.Ord.cmp g.GroupId.Ord.cmp g.met.Id.Ord.total g.met.GroupId.Ord.total (λ a b. refl) (λ a b. refl) (λ a b. refl) (λ a b. refl))
    g.met.Id.Ord.total g.met.BinId.Ord.total all others bins other_bins alike bins_alike decide

pub returns-clause-by_name : goal.returns-clause-by_name
returns-clause-by_name g c = λ named all others bins other_bins alike bins_alike.
    one_fit _ (named_rules g.Id.Ord.cmp g.BinId.Ord.cmp named)
    (groups_total _ g.Id.Ord.cmp g.GroupId.Ord.cmp g.met.Id.Ord.total g.met.GroupId.Ord.total (λ a b. refl) (λ a b. refl) (λ a b. refl) (λ a b. refl))
    g.met.Id.Ord.total g.met.BinId.Ord.total all others bins other_bins alike bins_alike (named_decides (values_of all.sizes) (values_of bins) named)
