use Rattle.rectangle_pack_sections.proofs.Std.{◌≡◌, ◌-◌, ◌∙◌, Some, refl, ap, sym, subst, length, length-append, remove, get_or, arith, rules}
use Rattle.rectangle_pack_sections.specs.Bins.{Bin, Held}
use Rattle.rectangle_pack_lists.specs.Steps.{IsStep}
use Rattle.rectangle_pack_bins.specs.BestFit.{IsPlacedBest}
use Rattle.rectangle_pack_bins.specs.private.Indices.{IsBestFitAt}
use Rattle.rectangle_pack_bins.proofs.lemmas.bins.BestFits.{read_best, last, last_is, fits-last, IsSound-placed}
use Rattle.rectangle_pack_bins.proofs.target_bin.placing_best.cut_best.Given.{Over}
use Rattle.rectangle_pack_bins.proofs.target_bin.placing_best.cut_best.Goals.{After-push_reserved, After-place_at-location}
use Rattle.rectangle_pack_bins.proofs.target_bin.placing_best.cut_best.Goals.at as goal_at
use Rattle.rectangle_pack_bins.proofs.target_bin.placing_best.cut_best.Goals as goal

-- the section there, in the list of the bin
at_is : (g : Over) (c : After-push_reserved g)
    → IsBestFitAt c.bin.inside.max_size c.bin.inside.available_bin_sections.items c.args.size.now c.args.index c.requires.best.0
at_is g c = subst (λ (h : Held). IsBestFitAt h.bin.size h.bin.sections c.args.size.now c.args.index c.requires.best.0) (sym c.bin.view_is) c.requires.best.1

-- the list in which it stands last
list_is : (g : Over) (c : After-push_reserved g) → c.push_reserved.new.self.items
    ≡ last (g.R.Policy.may c.args.policy.now) c.bin.inside.max_size c.args.size.now c.bin.inside.available_bin_sections.items c.args.index c.requires.best.0 (at_is g c)
list_is g c =
    let may = g.R.Policy.may c.args.policy.now in
    let old = c.bin.inside.available_bin_sections.items in
    let same = c.in_ok-reserve.ensures.items in
    let at = at_is g c in
    last_is may c.bin.inside.max_size c.args.size.now old c.args.index c.requires.best.0 at c.remove-section.new.self.items _ c.remove-section.result
    (c.remove-section.ensures.items ∙ ap (λ l. remove l c.args.index) same)
    (c.remove-section.ensures.value ∙ ap (λ l. get_or l c.args.index c.remove-section.result) same
    ∙ read_best may c.bin.inside.max_size c.args.size.now old c.args.index c.requires.best.0 at c.remove-section.result)
    c.push_reserved.ensures.items

-- the step in it
step_is : (g : Over) (c : After-place_at-location g)
    → IsStep (g.R.Policy.may c.args.policy.now)
    (last (g.R.Policy.may c.args.policy.now) c.bin.inside.max_size c.args.size.now c.bin.inside.available_bin_sections.items c.args.index c.requires.best.0
    (at_is g c.before)) c.args.size.now c.place_at-location.result.0 c.place_at-location.new.sections.items 1
step_is g c =
    let may = g.R.Policy.may c.args.policy.now in
    let one : length c.push_reserved.new.self.items - c.len-last.result ≡ 1 = omega (
      arith,
      c.len-last.ensures,
      ap length c.push_reserved.ensures.items,
      length-append c.remove-section.new.self.items,
      c.remove-section.new.self.ok.0,
    ) in
    subst (λ l. IsStep may l c.args.size.now c.place_at-location.result.0 c.place_at-location.new.sections.items 1) (list_is g c.before)
    (subst (λ n. IsStep may c.push_reserved.new.self.items c.args.size.now c.place_at-location.result.0 c.place_at-location.new.sections.items n) one
    c.place_at-location.ensures.step)

pub place_at-location-requires-clause-fits : goal.place_at-location-requires-clause-fits
place_at-location-requires-clause-fits g c =
    let after = (goal_at.place_at-location-requires-clause-fits g c).After-push_reserved in
    rw (list_is g after) (fits-last (g.R.Policy.may c.args.policy.now) c.bin.inside.max_size c.args.size.now c.bin.inside.available_bin_sections.items c.args.index c.requires.best.0 (at_is g after)
    c.bin.inside.max_size (record { wide = search rules; high = search rules; deep = search rules }) c.bin.invariant.inside)

pub invariant_of-bin-2 : goal.invariant_of-bin-2
invariant_of-bin-2 g c =
    let after = (goal_at.invariant_of-bin-2 g c).After-place_at-location in
    IsSound-placed _ c.bin.inside.max_size c.args.size.now c.bin.inside.available_bin_sections.items c.args.index c.requires.best.0 (at_is g after.before)
    c.place_at-location.result.0 _ (step_is g after) c.bin.inside.max_size c.bin.invariant

pub returns-clause-ok : goal.returns-clause-ok
returns-clause-ok g c =
    let after = (goal_at.returns-clause-ok g c).After-place_at-location in
    let may = g.R.Policy.may c.args.policy.now in
    let at = at_is g after.before in
    let next = c.place_at-location.new.sections.items in
    let was : Bin = record {
      size = c.bin.inside.max_size;
      sections = c.bin.inside.available_bin_sections.items;
      coalesced = c.bin.inside.was_coalesced;
    } in
    subst (λ (h : Held). IsPlacedBest may h.bin c.args.size.now (Some c.place_at-location.result.0) (record was { sections = next })) c.bin.view_is
    (at.0, at.1, next, step_is g after, refl)
