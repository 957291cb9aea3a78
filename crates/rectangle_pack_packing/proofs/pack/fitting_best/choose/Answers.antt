use Rattle.rectangle_pack_sections.proofs.Std.{◌≡◌, ◌∙◌, sym, refl, arith, ap, length}
use Rattle.rectangle_pack_sections.specs.declared.box_size_heuristics.named.Heuristic.TheVariants.{Volume}
use Rattle.rectangle_pack_sections.proofs.lemmas.groups.GroupOrder.{groups_total}
use Rattle.rectangle_pack_sections.specs.Bins.{bins_of}
use Rattle.rectangle_pack_packing.proofs.lemmas.best.Chosen.{choice-alone, choice-found}
use Rattle.rectangle_pack_packing.proofs.lemmas.best.Nothing.{choice-nothing}
use Rattle.rectangle_pack_packing.proofs.lemmas.packing.Groups.{lists-empty, lists-some}
use Rattle.rectangle_pack_packing.proofs.pack.fitting_best.choose.Goals.{then-heuristics-eq1-via-then-heuristics-eq1}
use Rattle.rectangle_pack_packing.proofs.pack.fitting_best.choose.Goals.{then-heuristics-eq1-via-else-heuristics-eq1+then-is_empty}
use Rattle.rectangle_pack_packing.proofs.pack.fitting_best.choose.Goals as goal

pub returns-then-heuristics-eq1-clause-best : goal.returns-then-heuristics-eq1-clause-best
returns-then-heuristics-eq1-clause-best g c =
    let groups = groups_total _ g.Id.Ord.cmp g.GroupId.Ord.cmp g.met.Id.Ord.total g.met.GroupId.Ord.total (λ a b. refl) (λ a b. refl) (λ a b. refl) (λ a b. refl) in
    elim c.then-heuristics-eq1.branch [
      | then-heuristics-eq1-via-then-heuristics-eq1 w ↦
          choice-alone groups g.met.Id.Ord.total g.met.BinId.Ord.total c.args.rects_to_place.now (bins_of c.args.target_bins.now.entries)
          c.args.heuristics.now Volume w.if-heuristics-eq1.true
      | then-heuristics-eq1-via-else-heuristics-eq1+then-is_empty w ↦
          choice-nothing _ g.Id.Ord.cmp g.BinId.Ord.cmp c.args.rects_to_place.now (bins_of c.args.target_bins.now.entries)
          (sym w.groups.ensures.entries ∙ lists-empty _ _ w.is_empty.ensures w.if-is_empty.true) c.args.heuristics.now Volume c.requires.some
    ]

pub returns-in-Some-clause-best : goal.returns-in-Some-clause-best
returns-in-Some-clause-best g c =
    let groups = groups_total _ g.Id.Ord.cmp g.GroupId.Ord.cmp g.met.Id.Ord.total g.met.GroupId.Ord.total (λ a b. refl) (λ a b. refl) (λ a b. refl) (λ a b. refl) in
    choice-found groups g.met.Id.Ord.total g.met.BinId.Ord.total c.args.rects_to_place.now (bins_of c.args.target_bins.now.entries) c.args.heuristics.now
    c.in-Some.best _ (rw c.in-Some.is at c.in_ok-best.ensures.best)

pub returns-in-None-clause-best : goal.returns-in-None-clause-best
returns-in-None-clause-best g c =
    absurd (omega (arith, c.requires.some, ap length (rw c.in-None.is at c.in_ok-best.ensures.best)))

pub returns-in_err-best-clause-no_groups : goal.returns-in_err-best-clause-no_groups
returns-in_err-best-clause-no_groups g c = λ none. absurd (lists-some _ _ c.is_empty.ensures c.if-is_empty.false (c.groups.ensures.entries ∙ none))
