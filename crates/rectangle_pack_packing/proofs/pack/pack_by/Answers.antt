use Rattle.rectangle_pack_sections.proofs.Std.{length, ap, sym, ◌∙◌, refl, arith, map, sum, values_of}
use Rattle.rectangle_pack_sections.specs.Bins.{bins_of}
use Rattle.rectangle_pack_packing.specs.Packing.{rules_by}
use Rattle.rectangle_pack_packing.specs.Placed.{placements_of}
use Rattle.rectangle_pack_packing.proofs.lemmas.packing.Placed.{AreLastPlacements-nothing}
use Rattle.rectangle_pack_packing.proofs.lemmas.packing.FitTests.{counted-none}
use Rattle.rectangle_pack_packing.proofs.lemmas.packing.Groups.{PackingDone-none, lists-some, lists-empty}
use Rattle.rectangle_pack_packing.proofs.pack.pack_by.Goals as goal

pub returns-then-is_empty-clause-answer : goal.returns-then-is_empty-clause-answer
returns-then-is_empty-clause-answer g c =
    let none = sym c.groups.ensures.entries ∙ lists-empty c.groups.result.now.entries c.is_empty.result c.is_empty.ensures c.if-is_empty.true in
    let rules = rules_by g.Id.Ord.cmp g.BinId.Ord.cmp (g.R.Policy.may c.args.policy.now) in
    let placed = c.answer_of.ensures.placements ∙ c.new-then-is_empty.ensures.items in
    let done = PackingDone-none _ rules c.args.rects_to_place.now (bins_of c.args.target_bins.now.entries) (placements_of c.answer_of.result) none placed in (
      record {
        done = done.0;
        counted = ap length placed ∙ sym (ap (λ gs. sum (map length (values_of gs))) none);
        last = AreLastPlacements-nothing g.Id.Ord.cmp g.BinId.Ord.cmp _ _ c.new.result.entries c.new.ensures.ordered placed c.answer_of.ensures.locations c.new.ensures.empty;
      },
      record { most = omega (arith, done.1); added = rw done.1 (omega (arith, c.count-count.ensures, c.count-count.type_inv)) },
    )

pub returns-in_default-clause-answer : goal.returns-in_default-clause-answer
returns-in_default-clause-answer g c = (refl, counted-none _ _ c.args.tests.now (omega (arith, c.count-count.ensures, c.count-count.type_inv)))

pub returns-in_default-clause-no_groups : goal.returns-in_default-clause-no_groups
returns-in_default-clause-no_groups g c = λ none. absurd (lists-some _ _ c.is_empty.ensures c.if-is_empty.false (c.groups.ensures.entries ∙ none))

pub returns-clause-no_groups : goal.returns-clause-no_groups
returns-clause-no_groups g c = λ none. absurd (lists-some _ _ c.is_empty.ensures c.if-is_empty.false (c.groups.ensures.entries ∙ none))
