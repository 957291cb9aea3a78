use Rattle.rectangle_pack_sections.proofs.Std.{◌≡◌, refl, values_of}
use Rattle.rectangle_pack_sections.specs.Heuristics.{rate_of, named_answers}
use Rattle.rectangle_pack_packing.specs.Packing.{rules_by}
use Rattle.rectangle_pack_packing.proofs.lemmas.determinism.Either.{HaveOneResult-either, rates_decide}
use Rattle.rectangle_pack_sections.proofs.lemmas.groups.GroupOrder.{groups_total}
use Rattle.rectangle_pack_packing.proofs.lemmas.determinism.OnePacking.{one_result}
use Rattle.rectangle_pack_packing.proofs.laws.named_packing_has_one_result.Goals as goal

pub returns-clause-closures : goal.returns-clause-closures
returns-clause-closures g c = λ all others bins other_bins alike bins_alike.
    HaveOneResult-either _ g.Id.Ord.cmp g.BinId.Ord.cmp _ _ all others bins other_bins
    (one_result _ (rules_by g.Id.Ord.cmp g.BinId.Ord.cmp _)
    (groups_total _ g.Id.Ord.cmp g.GroupId.Ord.cmp g.met.Id.Ord.total g.met.GroupId.Ord.total (λ a b. refl) (λ a b. refl) (λ a b. refl) (λ a b. refl))
    g.met.Id.Ord.total g.met.BinId.Ord.total all others bins other_bins alike bins_alike
    (rates_decide (rate_of c.args.named) _ _ _ _ c.requires.rates c.requires.other_rates
    (λ size rate u says. c.requires.rates size rate (record { small = u; says = says }))
    (λ size rate u says. c.requires.other_rates size rate (record { small = u; says = says }))
    (λ a b r says. (says.first_three.small, says.second_three.small)) (λ a b r says. (says.first_three.small, says.second_three.small))
    c.requires.smallest c.requires.other_smallest (values_of all.sizes) (values_of bins)))

pub returns-clause-by_name : goal.returns-clause-by_name
returns-clause-by_name g c = λ all others bins other_bins alike bins_alike.
    HaveOneResult-either _ g.Id.Ord.cmp g.BinId.Ord.cmp _ (named_answers c.args.named) all others bins other_bins
    (one_result _ (rules_by g.Id.Ord.cmp g.BinId.Ord.cmp _)
    (groups_total _ g.Id.Ord.cmp g.GroupId.Ord.cmp g.met.Id.Ord.total g.met.GroupId.Ord.total (λ a b. refl) (λ a b. refl) (λ a b. refl) (λ a b. refl))
    g.met.Id.Ord.total g.met.BinId.Ord.total all others bins other_bins alike bins_alike
    (rates_decide (rate_of c.args.named) _ (named_answers c.args.named) _ (λ size rate. rate ≡ rate_of c.args.named size)
    c.requires.rates (λ size rate says. says)
    (λ size rate u says. c.requires.rates size rate (record { small = u; says = says })) (λ size rate u says. says)
    (λ a b r says. (says.first_three.small, says.second_three.small)) (λ a b r says. (says.0.small, says.1.small))
    c.requires.smallest (λ a b r says. says.2) (values_of all.sizes) (values_of bins)))
