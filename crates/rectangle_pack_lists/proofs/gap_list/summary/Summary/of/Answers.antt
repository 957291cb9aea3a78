use Rattle.rectangle_pack_sections.proofs.Std.{arith, take, ap, sym, ◌∙◌, take_more, take_all, length-take-le, None}
use Rattle.rectangle_pack_lists.specs.private.GapBits.{bits_of}
use Rattle.rectangle_pack_lists.specs.private.Places.{places_of}
use Rattle.rectangle_pack_lists.specs.declared.gap_list.summary.Summary.{Summary}
use Rattle.rectangle_pack_lists.proofs.lemmas.trial.GapBits.{fits-bits_of}
use Rattle.rectangle_pack_lists.proofs.lemmas.trial.Places.{length-sections_of, length-places_of, place-section, place-gap}
use Rattle.rectangle_pack_lists.proofs.lemmas.trial.Summaries.{Sums-more, Sums-empty}
use Rattle.rectangle_pack_lists.proofs.gap_list.summary.Summary.of.Goals as goal
use Rattle.rectangle_pack_lists.proofs.gap_list.summary.Summary.of.Goals.{then-not-has_gap, else-not-has_gap}

pub join-summary-requires : goal.join-summary-requires
join-summary-requires c =
    let places = places_of c.args.sections.now (bits_of c.args.gaps) in
    let long = length-places_of c.args.sections.now (bits_of c.args.gaps) in
    let seen = length-take-le c.loop-place.place places (omega (arith, long)) in
    let one = ap (λ (s : Summary). s.count) c.of_section.ensures in
    let no_more = length-sections_of (take c.loop-place.place places) in
    omega (arith, seen, one, c.loop-place.invariant.count, no_more)

pub loop-place-preserved : goal.loop-place-preserved
loop-place-preserved c =
    let sections = c.args.sections.now in
    let gaps = bits_of c.args.gaps in
    let places = places_of sections gaps in
    let i = c.loop-place.place in
    let fits = fits-bits_of sections c.args.gaps c.requires in
    let read = sym c.has_gap.ensures in
    let more = take_more places i None (omega (arith, length-places_of sections gaps)) in
    elim c.if-not-has_gap.branch [
      | then-not-has_gap w ↦
          let here = place-section sections gaps i _ _ None fits c.loop-place-test.true (read ∙ w.if-not-has_gap.true) w.index-sections-place.is in
          rw (more, here, w.summary-is, w.join-summary.ensures, w.of_section.ensures, w.whd.ensures)
          (Sums-more c.loop-place.summary (take i places) w.index-sections-place.result c.loop-place.invariant)
      | else-not-has_gap w ↦
          let here = place-gap sections gaps i _ None fits c.loop-place-test.true (read ∙ w.if-not-has_gap.false) in
          rw (more, here, w.summary-is) (Sums-empty c.loop-place.summary (take i places) c.loop-place.invariant)
    ]

pub returns : goal.returns
returns c =
    let sections = c.args.sections.now in
    let gaps = bits_of c.args.gaps in
    rw (take_all c.loop-place.place (places_of sections gaps) (omega (arith, length-places_of sections gaps))) at c.loop-place.invariant
