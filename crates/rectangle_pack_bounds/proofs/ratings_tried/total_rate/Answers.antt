use Rattle.std.proofs.Common.{ap, ◌∙◌}
use Rattle.rectangle_pack_sections.specs.Boxes.{Size, extent}
use Rattle.rectangle_pack_bounds.specs.Turning.{ways_in}
use Rattle.rectangle_pack_bounds.specs.Ratings.{rate_by, capped}
use Rattle.rectangle_pack_bounds.proofs.lemmas.LeastRates.{rows_added, length-row}
use Rattle.rectangle_pack_bounds.proofs.ratings_tried.total_rate.Goals as goal

pub least_rates-requires-clause-widths : goal.least_rates-requires-clause-widths
least_rates-requires-clause-widths g c =
    rw (c.as_slice.ensures.value, c.as_slice-2.ensures.value)
    (length-row _ (ways_in c.args.fitting.now.bin) c.args.fitting.now.boxes.now _ _ _ c.requires.fitting.sizes_are c.requires.fitting.first_are c.requires.of_width.rates_are)

pub least_rates-requires-clause-heights : goal.least_rates-requires-clause-heights
least_rates-requires-clause-heights g c =
    rw (c.as_slice.ensures.value, c.as_slice-3.ensures.value)
    (length-row _ (ways_in c.args.fitting.now.bin) c.args.fitting.now.boxes.now _ _ _ c.requires.fitting.sizes_are c.requires.fitting.first_are c.requires.of_height.rates_are)

pub least_rates-requires-clause-depths : goal.least_rates-requires-clause-depths
least_rates-requires-clause-depths g c =
    rw (c.as_slice.ensures.value, c.as_slice-4.ensures.value)
    (length-row _ (ways_in c.args.fitting.now.bin) c.args.fitting.now.boxes.now _ _ _ c.requires.fitting.sizes_are c.requires.fitting.first_are c.requires.of_depth.rates_are)

pub returns : goal.returns
unfolding extent
returns g c =
    let bin = c.args.fitting.now.bin in
    c.least_rates.ensures ∙ ap capped
    (rows_added (λ (s : Size). rate_by c.args.width.now.rating bin.width s.width) (λ (s : Size). rate_by c.args.height.now.rating bin.height s.height) (λ (s : Size). rate_by c.args.depth.now.rating bin.depth s.depth)
    (ways_in bin) c.args.fitting.now.boxes.now c.args.fitting.now.sizes.items _ _ _ _
    c.requires.fitting.sizes_are (c.as_slice.ensures.value ∙ c.requires.fitting.first_are)
    (c.as_slice-2.ensures.value ∙ c.requires.of_width.rates_are) (c.as_slice-3.ensures.value ∙ c.requires.of_height.rates_are) (c.as_slice-4.ensures.value ∙ c.requires.of_depth.rates_are))
