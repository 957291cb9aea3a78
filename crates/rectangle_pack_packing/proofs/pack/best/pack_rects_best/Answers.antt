use Rattle.rectangle_pack_sections.proofs.Std.{◌≡◌, ◌∙◌, ◌⊎◌, [], inl, inr, length, refl, sym}
use Rattle.rectangle_pack_sections.specs.declared.box_size_heuristics.named.Heuristic.TheVariants.{Volume}
use Rattle.rectangle_pack_sections.proofs.lemmas.groups.GroupOrder.{groups_total}
use Rattle.rectangle_pack_sections.specs.Bins.{bins_of}
use Rattle.rectangle_pack_packing.proofs.lemmas.packing.Groups.{lists-empty, lists-some}
use Rattle.rectangle_pack_packing.proofs.lemmas.best.Nothing.{first-answered}
use Rattle.rectangle_pack_packing.proofs.lemmas.best.Whole.{best-named}
use Rattle.rectangle_pack_packing.proofs.pack.best.pack_rects_best.Goals.{then-heuristics-eq1-via-then-heuristics-eq1}
use Rattle.rectangle_pack_packing.proofs.pack.best.pack_rects_best.Goals.{then-heuristics-eq1-via-else-heuristics-eq1+then-is_empty}
use Rattle.rectangle_pack_packing.proofs.pack.best.pack_rects_best.Goals as goal

pub returns-then-heuristics-eq1-clause-answer : goal.returns-then-heuristics-eq1-clause-answer
returns-then-heuristics-eq1-clause-answer g c =
    let either : (length c.args.heuristics.now ≡ 1) ⊎ (c.args.rects_to_place.now.groups ≡ []) =
    elim c.then-heuristics-eq1.branch [
      | then-heuristics-eq1-via-then-heuristics-eq1 w ↦ inl w.if-heuristics-eq1.true
      | then-heuristics-eq1-via-else-heuristics-eq1+then-is_empty w ↦
          inr (sym w.groups.ensures.entries ∙ lists-empty _ _ w.is_empty.ensures w.if-is_empty.true)
    ] in
    first-answered _ g.Id.Ord.cmp g.BinId.Ord.cmp c.args.rects_to_place.now (bins_of c.args.target_bins.now.entries) c.args.heuristics.now Volume
    c.requires.some either c.pack_named.result (bins_of c.pack_named.new.target_bins.entries) c.pack_named.ensures.no_groups c.pack_named.ensures.answer

pub returns-in-Ok-Some-clause-answer : goal.returns-in-Ok-Some-clause-answer
returns-in-Ok-Some-clause-answer g c =
    best-named (groups_total _ g.Id.Ord.cmp g.GroupId.Ord.cmp g.met.Id.Ord.total g.met.GroupId.Ord.total (λ a b. refl) (λ a b. refl) (λ a b. refl) (λ a b. refl))
    g.met.Id.Ord.total g.met.BinId.Ord.total c.args.rects_to_place.now (bins_of c.args.target_bins.now.entries) c.args.heuristics.now c.in-Ok-Some.best
    c.in-Ok-Some.field-0-0-1 (rw c.in-Ok-Some.field-0-is at c.in-Ok-Some.ensures.best) c.pack_named-in-Ok-Some.result
    (bins_of c.pack_named-in-Ok-Some.new.target_bins.entries) (rw c.in-Ok-Some.ensures.same at c.pack_named-in-Ok-Some.ensures.answer)

pub returns-in-Ok-None-clause-no_groups : goal.returns-in-Ok-None-clause-no_groups
returns-in-Ok-None-clause-no_groups g c = λ none. absurd (lists-some _ _ c.is_empty.ensures c.if-is_empty.false (c.groups.ensures.entries ∙ none))

pub returns-in-Err-clause-no_groups : goal.returns-in-Err-clause-no_groups
returns-in-Err-clause-no_groups g c = λ none. absurd (lists-some _ _ c.is_empty.ensures c.if-is_empty.false (c.groups.ensures.entries ∙ none))
