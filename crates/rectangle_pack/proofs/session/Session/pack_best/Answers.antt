use Rattle.rectangle_pack_sections.proofs.Std.{◌≡◌, ◌∙◌, ◌⊎◌, [], inl, inr, length, refl, sym, arith, Err}
use Rattle.rectangle_pack_sections.specs.declared.box_size_heuristics.named.Heuristic.TheVariants.{Volume}
use Rattle.rectangle_pack_sections.specs.Bins.{bins_of}
use Rattle.rectangle_pack_sections.proofs.lemmas.groups.GroupOrder.{groups_total}
use Rattle.rectangle_pack_packing.proofs.lemmas.packing.Groups.{lists-some, lists-empty}
use Rattle.rectangle_pack.specs.declared.session.command.SessionError.TheVariants.{NotEnoughBinSpace}
use Rattle.rectangle_pack.proofs.lemmas.session.Best.{best-found, none-found, first-answered, best-named, best-stopped, best-none, best-promised}
use Rattle.rectangle_pack.proofs.lemmas.session.Packing.{next-fits, unchanged}
use Rattle.rectangle_pack.proofs.session.Session.pack_best.Goals.{then-heuristics-eq1-via-then-heuristics-eq1}
use Rattle.rectangle_pack.proofs.session.Session.pack_best.Goals.{then-heuristics-eq1-via-else-heuristics-eq1+then-is_empty}
use Rattle.rectangle_pack.proofs.session.Session.pack_best.Goals as goal

pub returns-then-heuristics-eq1-clause-packed : goal.returns-then-heuristics-eq1-clause-packed
returns-then-heuristics-eq1-clause-packed g c =
    let either : (length c.args.heuristics.now ≡ 1) ⊎ (c.args.groups.now.groups ≡ []) = elim c.then-heuristics-eq1.branch [
      | then-heuristics-eq1-via-then-heuristics-eq1 w ↦ inl w.if-heuristics-eq1.true
      | then-heuristics-eq1-via-else-heuristics-eq1+then-is_empty w ↦
          inr (sym w.groups.ensures.entries ∙ lists-empty _ _ w.is_empty.ensures w.if-is_empty.true)
    ] in
    first-answered _ g.Id.Ord.cmp g.BinId.Ord.cmp c.args.groups.now c.args.heuristics.now c.args.self.now Volume c.requires.some either c.pack_named.result
    c.pack_named.new.self c.pack_named.ensures.no_groups c.pack_named.ensures.packed

pub returns-then-heuristics-eq1-clause-promise : goal.returns-then-heuristics-eq1-clause-promise
returns-then-heuristics-eq1-clause-promise g c =
    best-promised _ g.Id.Ord.cmp g.met.BinId.Ord.total c.args.groups.now c.args.heuristics.now c.args.self.now c.pack_named.result c.pack_named.new.self
    (returns-then-heuristics-eq1-clause-packed g c)

pub returns-clause-packed : goal.returns-clause-packed
returns-clause-packed g c =
    let bins = bins_of c.self.inside.bins.entries in
    let found = best-found _ g.Id.Ord.cmp g.BinId.Ord.cmp c.args.groups.now c.args.heuristics.now bins c.in_ok-best.best c.in_ok-best.ensures.best
    c.in-Some-best.best c.in-Some-best.field-0-1 c.in-Some-best.is in
    best-named (groups_total _ g.Id.Ord.cmp g.GroupId.Ord.cmp g.met.Id.Ord.total g.met.GroupId.Ord.total (λ a b. refl) (λ a b. refl) (λ a b. refl) (λ a b. refl))
    g.met.Id.Ord.total g.met.BinId.Ord.total c.args.groups.now c.args.heuristics.now _ c.in-Some-best.best c.in-Some-best.field-0-1 found _
    (unchanged bins (bins_of c.best_of.new.target_bins.entries) c.self.inside.outstanding.items c.self.inside.outstanding.items c.self.inside.next
    c.in_ok-best.ensures.same refl _ refl) c.args.self.now c.self.view_is c.pack_named-2.result c.pack_named-2.new.self c.pack_named-2.ensures.packed

pub returns-clause-promise : goal.returns-clause-promise
returns-clause-promise g c =
    best-promised _ g.Id.Ord.cmp g.met.BinId.Ord.total c.args.groups.now c.args.heuristics.now c.args.self.now c.pack_named-2.result c.pack_named-2.new.self
    (returns-clause-packed g c)

pub returns-in_default-best-clause-packed : goal.returns-in_default-best-clause-packed
returns-in_default-best-clause-packed g c =
    let fits = next-fits c.args.groups.now _ c.groups-2.ensures.entries c.self.inside.next c.in-Some.next c.in-Some.ensures (omega arith) in
    let bins = bins_of c.self.inside.bins.entries in
    let none = none-found _ g.Id.Ord.cmp g.BinId.Ord.cmp c.args.groups.now c.args.heuristics.now bins c.in_ok-best.best c.in_ok-best.ensures.best
    c.in_default-best.is in
    best-none _ g.Id.Ord.cmp g.BinId.Ord.cmp c.args.groups.now c.args.heuristics.now bins _ c.self.inside.outstanding.items c.self.inside.next
    c.in_ok-best.ensures.same c.args.self.now c.self.view_is fits none

pub returns-in_default-best-clause-promise : goal.returns-in_default-best-clause-promise
returns-in_default-best-clause-promise g c =
    best-promised _ g.Id.Ord.cmp g.met.BinId.Ord.total c.args.groups.now c.args.heuristics.now c.args.self.now (Err NotEnoughBinSpace) _
    (returns-in_default-best-clause-packed g c)

pub returns-in_err-best-clause-packed : goal.returns-in_err-best-clause-packed
returns-in_err-best-clause-packed g c =
    let fits = next-fits c.args.groups.now _ c.groups-2.ensures.entries c.self.inside.next c.in-Some.next c.in-Some.ensures (omega arith) in
    best-stopped _ g.Id.Ord.cmp g.BinId.Ord.cmp c.args.groups.now c.args.heuristics.now _ _ c.self.inside.outstanding.items c.self.inside.next
    c.in_err-best.ensures.same c.args.self.now c.self.view_is fits c.from_residual.result c.from_residual.ensures.1

pub returns-in_default-clause-no_groups : goal.returns-in_default-clause-no_groups
returns-in_default-clause-no_groups g c = λ none. absurd (lists-some _ _ c.is_empty.ensures c.if-is_empty.false (c.groups.ensures.entries ∙ none))

pub returns-in_err-best-clause-no_groups : goal.returns-in_err-best-clause-no_groups
returns-in_err-best-clause-no_groups g c = λ none. absurd (lists-some _ _ c.is_empty.ensures c.if-is_empty.false (c.groups.ensures.entries ∙ none))

pub returns-in_default-best-clause-no_groups : goal.returns-in_default-best-clause-no_groups
returns-in_default-best-clause-no_groups g c = λ none. absurd (lists-some _ _ c.is_empty.ensures c.if-is_empty.false (c.groups.ensures.entries ∙ none))
