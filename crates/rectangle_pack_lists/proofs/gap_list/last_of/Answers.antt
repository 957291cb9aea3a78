use Rattle.rectangle_pack_sections.proofs.Std.{◌≤◌, ◌-◌, ℕ, arith, rules, length, List, None, Bool, sym, ◌∙◌, drop}
use Rattle.rectangle_pack_sections.specs.Boxes.{Cuboid, Size}
use Rattle.rectangle_pack_lists.specs.private.GapBits.{bits_of}
use Rattle.rectangle_pack_lists.specs.private.Places.{places_of, NoneHolds}
use Rattle.rectangle_pack_lists.proofs.lemmas.trial.GapBits.{fits-bits_of}
use Rattle.rectangle_pack_lists.proofs.lemmas.trial.Places.{length-places_of, within-places, place-gap, place-section}
use Rattle.rectangle_pack_lists.proofs.lemmas.trial.Places.{NoneHolds-past, NoneHolds-most, NoneHolds-empty, NoneHolds-section, IsLastHolding-at}
use Rattle.rectangle_pack_lists.proofs.gap_list.last_of.Goals as goal

-- there are no more tests than sections before the end
tests_most : (s : List Cuboid) (g : List Bool) (end : ℕ) (size : Size) (n : ℕ) → NoneHolds (drop end (places_of s g)) size n → n ≤ length s - end
tests_most s g end size n none = omega (arith, length-places_of s g, NoneHolds-most (places_of s g) end size n none)

pub loop-end-init : goal.loop-end-init
loop-end-init c =
    let sections = c.args.sections.now in
    let gaps = bits_of c.args.gaps in
    record {
      within = omega arith;
      none = NoneHolds-past (places_of sections gaps) _ c.args.member.now (omega (arith, length-places_of sections gaps));
    }

pub overflow_add-tests : goal.overflow_add-tests
overflow_add-tests c = omega (arith, tests_most c.args.sections.now (bits_of c.args.gaps) c.loop-end.end _ _ c.loop-end.invariant.none)

pub returns-then-holds-clause-found : goal.returns-then-holds-clause-found
returns-then-holds-clause-found c =
    let sections = c.args.sections.now in
    let gaps = bits_of c.args.gaps in
    let now = c.loop-end.invariant in
    let inside = within-places sections gaps c.loop-end.end now.within in
    let here = place-section sections gaps (c.loop-end.end - 1) _ _ None (fits-bits_of sections c.args.gaps c.requires) (omega arith) (sym c.has_gap.ensures ∙ c.if-not-has_gap.true) c.index-sections-end.is in
    IsLastHolding-at (places_of sections gaps) c.loop-end.end c.loop-end-test.true inside _ _ now.none c.index-sections-end.result _
    (sym here) (search rules)

pub returns-then-holds-clause-most : goal.returns-then-holds-clause-most
returns-then-holds-clause-most c = omega (arith, tests_most c.args.sections.now (bits_of c.args.gaps) c.loop-end.end _ _ c.loop-end.invariant.none)

pub loop-end-preserved-else-holds : goal.loop-end-preserved-else-holds
loop-end-preserved-else-holds c =
    let sections = c.args.sections.now in
    let gaps = bits_of c.args.gaps in
    let now = c.loop-end.invariant in
    let inside = within-places sections gaps c.loop-end.end now.within in
    let here = place-section sections gaps (c.loop-end.end - 1) _ _ None (fits-bits_of sections c.args.gaps c.requires) (omega arith) (sym c.has_gap.ensures ∙ c.if-not-has_gap.true) c.index-sections-end.is in
    record {
      within = omega arith;
      none = NoneHolds-section (places_of sections gaps) c.loop-end.end c.loop-end-test.true inside _ _ now.none c.index-sections-end.result _
          (sym here) (search rules);
    }

pub loop-end-preserved : goal.loop-end-preserved
loop-end-preserved c =
    let sections = c.args.sections.now in
    let gaps = bits_of c.args.gaps in
    let now = c.loop-end.invariant in
    let inside = within-places sections gaps c.loop-end.end now.within in
    let here = place-gap sections gaps (c.loop-end.end - 1) _ None (fits-bits_of sections c.args.gaps c.requires) (omega arith) (sym c.has_gap.ensures ∙ c.if-not-has_gap.false) in
    record {
      within = omega arith;
      none = NoneHolds-empty (places_of sections gaps) c.loop-end.end c.loop-end-test.true inside _ _ now.none _ (sym here);
    }

pub returns-clause-most : goal.returns-clause-most
returns-clause-most c = omega (arith, tests_most c.args.sections.now (bits_of c.args.gaps) c.loop-end.end _ _ c.loop-end.invariant.none)
