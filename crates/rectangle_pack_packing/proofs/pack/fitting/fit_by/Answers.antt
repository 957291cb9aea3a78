use Rattle.rectangle_pack_sections.proofs.Std.{◌≡◌, ◌∙◌, ap, map, sym, refl, Bor}
use Rattle.rectangle_pack_sections.specs.Bins.{bins_of}
use Rattle.rectangle_pack_sections.specs.declared.group.Group.{Group}
use Rattle.rectangle_pack_packing.specs.Fitting.{names_left}
use Rattle.rectangle_pack_packing.specs.Packing.{Rules, rules_by}
use Rattle.rectangle_pack_packing.specs.Placed.{placements_of}
use Rattle.rectangle_pack_packing.proofs.lemmas.packing.Ends.{fitted-done, fitted-failed}
use Rattle.rectangle_pack_packing.proofs.lemmas.packing.FittingLaws.{done_is_none_left}
use Rattle.rectangle_pack_packing.proofs.lemmas.packing.Groups.{PackingDone-none, lists-some, lists-empty}
use Rattle.rectangle_pack_packing.proofs.lemmas.packing.Placed.{AreLastPlacements-nothing}
use Rattle.rectangle_pack_packing.proofs.pack.fitting.fit_by.Given.{Over}
use Rattle.rectangle_pack_packing.proofs.pack.fitting.fit_by.Goals.{After-end_packing-bins}
use Rattle.rectangle_pack_packing.proofs.pack.fitting.fit_by.Goals.at as goal_at
use Rattle.rectangle_pack_packing.proofs.pack.fitting.fit_by.Goals as goal

-- the packing began with the bins of before
start : (g : Over) (c : After-end_packing-bins g) → c.place_all-tried.new.self.bins.start ≡ bins_of c.args.target_bins.now.entries
start g c = c.place_all-tried.ensures.start ∙ rw c.replace-bins.ensures.value at c.new-packing.ensures.start

pub returns-then-is_empty-clause-answer : goal.returns-then-is_empty-clause-answer
returns-then-is_empty-clause-answer g c =
    let none = sym c.groups.ensures.entries ∙ lists-empty c.groups.result.now.entries c.is_empty.result c.is_empty.ensures c.if-is_empty.true in
    let rules = rules_by g.Id.Ord.cmp g.BinId.Ord.cmp (g.R.Policy.may c.args.policy.now) in
    let placed = c.answer_of-packed.ensures.placements ∙ c.new-then-is_empty.ensures.items in
    let old = bins_of c.args.target_bins.now.entries in
    let done = PackingDone-none _ rules c.args.rects_to_place.now old (placements_of c.answer_of-packed.result) none placed in
    let fits = (done_is_none_left _ rules c.args.rects_to_place.now old old (placements_of c.answer_of-packed.result) 0).1 done in
    record {
      fits = rw c.new-left.ensures.items fits.0;
      last = AreLastPlacements-nothing g.Id.Ord.cmp g.BinId.Ord.cmp _ _ c.new.result.entries c.new.ensures.ordered placed
          c.answer_of-packed.ensures.locations c.new.ensures.empty;
    }

pub new-packing-requires-clause-found : goal.new-packing-requires-clause-found
new-packing-requires-clause-found g c = rw (c.replace-bins.ensures.value, c.as_slice.ensures.value) c.in_ok-order.ensures.found

pub returns-in-Ok-clause-answer : goal.returns-in-Ok-clause-answer
returns-in-Ok-clause-answer g c =
    let tried = rw (c.new-packing.ensures.now, c.new-packing.ensures.policy, c.replace-bins.ensures.value) at c.place_all-tried.ensures.packed in
    let fitted = fitted-done _ (rules_by g.Id.Ord.cmp g.BinId.Ord.cmp (g.R.Policy.may c.args.policy.now)) c.args.rects_to_place.now
    (bins_of c.args.target_bins.now.entries) c.place_all-tried.new.self (names_left c.place_all-tried.new.left) c.place_all-tried.result _ c.in-Ok.packed tried
    (rw c.in-Ok.is at c.end_packing-bins.ensures) in
    record { fits = fitted.0; last = fitted.1 }

pub returns-clause-answer : goal.returns-clause-answer
returns-clause-answer g c =
    fitted-failed g.Id.Ord.cmp g.BinId.Ord.cmp (bins_of c.args.target_bins.now.entries) c.place_all-tried.new.self c.place_all-tried.result _ _ _
    (start g (goal_at.returns-clause-answer g c).After-end_packing-bins) c.in-Err.is c.end_packing-bins.ensures

pub returns-clause-no_groups : goal.returns-clause-no_groups
returns-clause-no_groups g c = λ none. absurd (lists-some _ _ c.is_empty.ensures c.if-is_empty.false (c.groups.ensures.entries ∙ none))
