use Rattle.rectangle_pack_sections.proofs.Std.{◌∙◌, ◌++◌, ap, sym, arith}
use Rattle.rectangle_pack_packing.specs.Packing.{rules_by}
use Rattle.rectangle_pack_packing.proofs.lemmas.packing.Groups.{lists-some, lists-empty}
use Rattle.rectangle_pack.specs.Session.{numbered}
use Rattle.rectangle_pack.proofs.lemmas.session.Packing.{next-entries, Packs-nothing, IsSession-tried}
use Rattle.rectangle_pack.proofs.session.Session.pack_by.Goals as goal

pub returns-then-is_empty-clause-packed : goal.returns-then-is_empty-clause-packed
returns-then-is_empty-clause-packed g c =
    Packs-nothing _ (rules_by g.Id.Ord.cmp g.BinId.Ord.cmp (g.R.Policy.may c.args.policy.now)) c.args.groups.now _ _ _ c.in-Some.next
    (next-entries c.args.groups.now _ c.groups.ensures.entries c.self.inside.next c.in-Some.next c.in-Some.ensures)
    c.args.self.now c.self.view_is (omega arith) (sym c.groups-2.ensures.entries ∙ lists-empty _ _ c.is_empty.ensures c.if-is_empty.true)

pub returns-in_err-reserve-clause-no_groups : goal.returns-in_err-reserve-clause-no_groups
returns-in_err-reserve-clause-no_groups g c = λ none. absurd (lists-some _ _ c.is_empty.ensures c.if-is_empty.false (c.groups-2.ensures.entries ∙ none))

pub returns-in_err-placements-clause-no_groups : goal.returns-in_err-placements-clause-no_groups
returns-in_err-placements-clause-no_groups g c = λ none. absurd (lists-some _ _ c.is_empty.ensures c.if-is_empty.false (c.groups-2.ensures.entries ∙ none))

pub returns-in_default-2-clause-no_groups : goal.returns-in_default-2-clause-no_groups
returns-in_default-2-clause-no_groups g c = λ none. absurd (lists-some _ _ c.is_empty.ensures c.if-is_empty.false (c.groups-2.ensures.entries ∙ none))

pub invariant_of-self-2 : goal.invariant_of-self-2
invariant_of-self-2 g c =
    IsSession-tried _ (rules_by g.Id.Ord.cmp g.BinId.Ord.cmp (g.R.Policy.may c.args.policy.now)) c.args.groups.now _ _ _ c.in-Some.next
    (next-entries c.args.groups.now _ c.groups.ensures.entries c.self.inside.next c.in-Some.next c.in-Some.ensures)
    _ _ c.in_ok-placements.field-0 c.in_ok-placements.ensures.tried c.in-Some-2.placements c.in-Some-2.is
    (c.number_all.ensures ∙ ap (λ items. items ++ numbered c.self.inside.next c.in-Some-2.placements.items) c.in_ok-reserve.ensures.items) g.met.BinId.Ord.total c.self.invariant

pub returns-clause-always : goal.returns-clause-always
returns-clause-always g c = invariant_of-self-2 g c
