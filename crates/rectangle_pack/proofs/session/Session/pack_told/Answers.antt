use Rattle.rectangle_pack_sections.proofs.Std.{◌∙◌, ◌+◌, ◌-◌, ◌++◌, Ok, ap, sym, arith, eqb-true}
use Rattle.rectangle_pack_sections.specs.Bins.{bins_of}
use Rattle.rectangle_pack.specs.Session.{numbered}
use Rattle.rectangle_pack.proofs.lemmas.session.Told.{IsSession-told, IsSession-stopped, PacksAsTold-nothing, PacksAsTold-kept, told-refused, told-stopped, told_promised, positive}
use Rattle.rectangle_pack.proofs.session.Session.pack_told.Goals as goal

pub returns-then-is_empty-clause-packed : goal.returns-then-is_empty-clause-packed
returns-then-is_empty-clause-packed g c =
    PacksAsTold-nothing _ g.Id.Ord.cmp g.met.BinId.Ord.total c.args.groups.now c.args.steps.now (eqb-true _ 0 (sym c.is_empty.ensures ∙ c.if-is_empty.true))
    (bins_of c.self.inside.bins.entries) c.self.inside.outstanding.items c.self.inside.next c.in-Some.next c.args.self.now c.self.view_is (omega arith)
    c.in-Some.ensures

pub returns-then-is_empty-clause-promise : goal.returns-then-is_empty-clause-promise
returns-then-is_empty-clause-promise g c =
    told_promised _ g.Id.Ord.cmp g.met.BinId.Ord.total c.args.groups.now c.args.steps.now c.args.self.now
    (Ok (record { first = c.self.inside.next; count = c.in-Some.next - c.self.inside.next })) c.args.self.now (returns-then-is_empty-clause-packed g c)

pub invariant_of-self-in_err-placements : goal.invariant_of-self-in_err-placements
invariant_of-self-in_err-placements g c =
    IsSession-stopped _ g.Id.Ord.cmp g.met.BinId.Ord.total c.args.groups.now c.args.steps.now (bins_of c.self.inside.bins.entries) _
    c.self.inside.outstanding.items _ c.self.inside.next c.in_err-placements.field-0.0 c.in_err-placements.ensures.told c.in_ok-reserve.ensures.items c.self.invariant

pub returns-in_err-placements-clause-packed : goal.returns-in_err-placements-clause-packed
returns-in_err-placements-clause-packed g c =
    told-refused _ g.Id.Ord.cmp g.met.BinId.Ord.total c.args.groups.now c.args.steps.now c.args.self.now _ c.in_err-placements.field-0.0
    (told-stopped _ g.Id.Ord.cmp g.met.BinId.Ord.total c.args.groups.now c.args.steps.now (bins_of c.self.inside.bins.entries)
    (bins_of c.try_told.new.bins.entries) c.self.inside.outstanding.items c.reserve.new.self.items c.self.inside.next c.in-Some.next
    c.in_err-placements.field-0.0 c.in_err-placements.ensures.told c.in_ok-reserve.ensures.items c.args.self.now c.self.view_is (omega arith)
    c.in-Some.ensures (positive _ _ c.is_empty.ensures c.if-is_empty.false))
    c.from_residual-in_err-placements.result c.from_residual-in_err-placements.ensures.1

pub returns-in_err-placements-clause-always : goal.returns-in_err-placements-clause-always
returns-in_err-placements-clause-always g c = invariant_of-self-in_err-placements g c

pub invariant_of-self-2 : goal.invariant_of-self-2
invariant_of-self-2 g c =
    IsSession-told _ g.Id.Ord.cmp g.met.BinId.Ord.total c.args.groups.now c.args.steps.now (bins_of c.self.inside.bins.entries) _ _ c.self.inside.outstanding.items _
    c.self.inside.next _ c.in_ok-placements.ensures.told.0
    (c.number_all.ensures ∙ ap (λ items. items ++ numbered c.self.inside.next c.in_ok-placements.placements.items) c.in_ok-reserve.ensures.items)
    (c.in-Some.ensures ∙ ap (λ n. c.self.inside.next + n) (sym c.in_ok-placements.ensures.told.1)) c.self.invariant

pub returns-clause-packed : goal.returns-clause-packed
returns-clause-packed g c =
    PacksAsTold-kept _ g.Id.Ord.cmp g.met.BinId.Ord.total c.args.groups.now c.args.steps.now (bins_of c.self.inside.bins.entries) _ c.self.inside.outstanding.items _
    c.self.inside.next _ c.in-Some.next c.in_ok-placements.placements.items c.args.self.now c.self.view_is (omega arith) c.in_ok-placements.ensures.told.0
    c.in_ok-placements.ensures.told.1
    (c.number_all.ensures ∙ ap (λ items. items ++ numbered c.self.inside.next c.in_ok-placements.placements.items) c.in_ok-reserve.ensures.items)
    c.in-Some.ensures (omega (arith, c.in-Some.ensures))

pub returns-clause-promise : goal.returns-clause-promise
returns-clause-promise g c =
    told_promised _ g.Id.Ord.cmp g.met.BinId.Ord.total c.args.groups.now c.args.steps.now c.args.self.now
    (Ok (record { first = c.self.inside.next; count = c.in-Some.next - c.self.inside.next })) _ (returns-clause-packed g c)

pub returns-clause-always : goal.returns-clause-always
returns-clause-always g c = invariant_of-self-2 g c
