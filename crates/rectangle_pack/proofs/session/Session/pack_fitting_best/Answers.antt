use Rattle.rectangle_pack_sections.proofs.Std.{◌≡◌, ◌∙◌, ◌⊎◌, [], inl, inr, length, refl, sym, arith}
use Rattle.rectangle_pack_sections.specs.declared.box_size_heuristics.named.Heuristic.TheVariants.{Volume}
use Rattle.rectangle_pack_sections.specs.Bins.{bins_of}
use Rattle.rectangle_pack_sections.proofs.lemmas.groups.GroupOrder.{groups_total}
use Rattle.rectangle_pack_packing.proofs.lemmas.packing.Groups.{lists-some, lists-empty}
use Rattle.rectangle_pack.proofs.lemmas.session.FittingBest.{first-answered, best-answered, best-found, best-promised, best-stopped}
use Rattle.rectangle_pack.proofs.lemmas.session.Packing.{next-fits, unchanged}
use Rattle.rectangle_pack.proofs.session.Session.pack_fitting_best.Goals.{then-heuristics-eq1-via-then-heuristics-eq1}
use Rattle.rectangle_pack.proofs.session.Session.pack_fitting_best.Goals.{then-heuristics-eq1-via-else-heuristics-eq1+then-is_empty}
use Rattle.rectangle_pack.proofs.session.Session.pack_fitting_best.Goals as goal

pub returns-then-heuristics-eq1-clause-packed : goal.returns-then-heuristics-eq1-clause-packed
returns-then-heuristics-eq1-clause-packed g c =
    let either : (length c.args.heuristics.now ≡ 1) ⊎ (c.args.groups.now.groups ≡ []) = elim c.then-heuristics-eq1.branch [
      | then-heuristics-eq1-via-then-heuristics-eq1 w ↦ inl w.if-heuristics-eq1.true
      | then-heuristics-eq1-via-else-heuristics-eq1+then-is_empty w ↦
          inr (sym w.groups.ensures.entries ∙ lists-empty _ _ w.is_empty.ensures w.if-is_empty.true)
    ] in
    first-answered _ g.Id.Ord.cmp g.met.BinId.Ord.total c.args.groups.now c.args.heuristics.now Volume c.requires.some either c.args.self.now c.fit_named.result
    c.fit_named.new.self c.fit_named.ensures.packed

pub returns-then-heuristics-eq1-clause-promise : goal.returns-then-heuristics-eq1-clause-promise
returns-then-heuristics-eq1-clause-promise g c =
    best-promised _ g.Id.Ord.cmp g.met.BinId.Ord.total c.args.groups.now c.args.heuristics.now c.args.self.now c.fit_named.result c.fit_named.new.self
    (returns-then-heuristics-eq1-clause-packed g c)

pub returns-in_err-best-clause-packed : goal.returns-in_err-best-clause-packed
returns-in_err-best-clause-packed g c =
    best-stopped _ g.Id.Ord.cmp g.met.BinId.Ord.total c.args.groups.now c.args.heuristics.now (bins_of c.self.inside.bins.entries) _ c.self.inside.outstanding.items
    c.self.inside.next c.in_err-best.ensures.same c.args.self.now c.self.view_is
    (next-fits c.args.groups.now _ c.groups-2.ensures.entries c.self.inside.next c.in-Some.next c.in-Some.ensures (omega arith))
    (λ none. lists-some _ _ c.is_empty.ensures c.if-is_empty.false (c.groups.ensures.entries ∙ none))
    c.from_residual.result c.from_residual.ensures.1

pub returns-in_err-best-clause-no_groups : goal.returns-in_err-best-clause-no_groups
returns-in_err-best-clause-no_groups g c = λ none. absurd (lists-some _ _ c.is_empty.ensures c.if-is_empty.false (c.groups.ensures.entries ∙ none))

pub returns-clause-packed : goal.returns-clause-packed
returns-clause-packed g c =
    let bins = bins_of c.self.inside.bins.entries in
    let found = best-found _ g.Id.Ord.cmp g.BinId.Ord.cmp c.args.groups.now c.args.heuristics.now bins c.in_ok-best.best c.in_ok-best.ensures.best
    c.in-Some-best.best c.in-Some-best.field-0-1 c.in-Some-best.is in
    best-answered _ g.Id.Ord.cmp g.met.BinId.Ord.total c.args.groups.now
    (groups_total _ g.Id.Ord.cmp g.GroupId.Ord.cmp g.met.Id.Ord.total g.met.GroupId.Ord.total (λ a b. refl) (λ a b. refl) (λ a b. refl) (λ a b. refl))
    g.met.Id.Ord.total c.args.heuristics.now c.in-Some-best.best c.in-Some-best.field-0-1 _ _ found
    (unchanged bins (bins_of c.best_fit_of.new.target_bins.entries) c.self.inside.outstanding.items c.self.inside.outstanding.items c.self.inside.next
    c.in_ok-best.ensures.same refl _ refl) c.args.self.now c.self.view_is c.fit_named-2.result c.fit_named-2.new.self c.fit_named-2.ensures.packed

pub returns-clause-promise : goal.returns-clause-promise
returns-clause-promise g c =
    best-promised _ g.Id.Ord.cmp g.met.BinId.Ord.total c.args.groups.now c.args.heuristics.now c.args.self.now c.fit_named-2.result c.fit_named-2.new.self
    (returns-clause-packed g c)
