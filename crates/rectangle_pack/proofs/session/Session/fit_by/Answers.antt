use Rattle.rectangle_pack_sections.proofs.Std.{◌∙◌, ◌++◌, ap, sym, arith}
use Rattle.rectangle_pack_sections.specs.Bins.{bins_of}
use Rattle.rectangle_pack_packing.specs.Packing.{rules_by}
use Rattle.rectangle_pack_packing.proofs.lemmas.packing.Groups.{lists-some, lists-empty}
use Rattle.rectangle_pack.specs.Session.{numbered}
use Rattle.rectangle_pack.proofs.lemmas.session.Fitting.{IsSession-tried, PacksFitting-nothing, fitting-stopped}
use Rattle.rectangle_pack.proofs.lemmas.session.Packing.{next-fits}
use Rattle.rectangle_pack.proofs.session.Session.fit_by.Goals as goal

pub returns-then-is_empty-clause-packed : goal.returns-then-is_empty-clause-packed
returns-then-is_empty-clause-packed g c =
    PacksFitting-nothing _ (rules_by g.Id.Ord.cmp g.BinId.Ord.cmp (g.R.Policy.may c.args.policy.now)) c.args.groups.now
    (bins_of c.self.inside.bins.entries) c.self.inside.outstanding.items c.self.inside.next c.new-left.result c.args.self.now c.self.view_is
    (next-fits c.args.groups.now _ c.groups.ensures.entries c.self.inside.next c.in-Some.next c.in-Some.ensures (omega arith))
    (sym c.groups-2.ensures.entries ∙ lists-empty _ _ c.is_empty.ensures c.if-is_empty.true) c.new-left.ensures.items

pub returns-in_err-reserve-clause-no_groups : goal.returns-in_err-reserve-clause-no_groups
returns-in_err-reserve-clause-no_groups g c = λ none. absurd (lists-some _ _ c.is_empty.ensures c.if-is_empty.false (c.groups-2.ensures.entries ∙ none))

pub returns-in_err-fitted-clause-packed : goal.returns-in_err-fitted-clause-packed
returns-in_err-fitted-clause-packed g c =
    fitting-stopped _ (rules_by g.Id.Ord.cmp g.BinId.Ord.cmp (g.R.Policy.may c.args.policy.now)) c.args.groups.now
    (bins_of c.self.inside.bins.entries) (bins_of c.try_fitting.new.bins.entries) c.self.inside.outstanding.items c.reserve.new.self.items c.self.inside.next
    c.in_err-fitted.ensures.stopped c.in_ok-reserve.ensures.items c.args.self.now c.self.view_is
    (next-fits c.args.groups.now _ c.groups.ensures.entries c.self.inside.next c.in-Some.next c.in-Some.ensures (omega arith))
    (λ none. lists-some _ _ c.is_empty.ensures c.if-is_empty.false (c.groups-2.ensures.entries ∙ none))
    c.from_residual-in_err-fitted.result c.from_residual-in_err-fitted.ensures.1

pub returns-in_err-fitted-clause-no_groups : goal.returns-in_err-fitted-clause-no_groups
returns-in_err-fitted-clause-no_groups g c = λ none. absurd (lists-some _ _ c.is_empty.ensures c.if-is_empty.false (c.groups-2.ensures.entries ∙ none))

pub invariant_of-self-2 : goal.invariant_of-self-2
invariant_of-self-2 g c =
    IsSession-tried _ (rules_by g.Id.Ord.cmp g.BinId.Ord.cmp (g.R.Policy.may c.args.policy.now)) c.args.groups.now g.met.BinId.Ord.total
    (bins_of c.self.inside.bins.entries) _ c.in_ok-fitted.fitted c.self.inside.outstanding.items _ c.self.inside.next _ c.in_ok-fitted.ensures.fits
    (c.number_all.ensures ∙ ap (λ items. items ++ numbered c.self.inside.next c.in_ok-fitted.fitted.packed.items) c.in_ok-reserve.ensures.items)
    (omega arith) c.self.invariant

pub returns-clause-always : goal.returns-clause-always
returns-clause-always g c = invariant_of-self-2 g c
