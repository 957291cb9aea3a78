use Rattle.std.proofs.Common.{◌≡◌, ap, sym, ◌∙◌, ◌||◌, List, map}
use Rattle.rectangle_pack_sections.specs.Boxes.{Size, extent}
use Rattle.rectangle_pack_sections.specs.declared.axis.Axis.{Axis}
use Rattle.rectangle_pack_sections.specs.declared.axis.Axis.TheVariants.{X, Y, Z}
use Rattle.rectangle_pack_bounds.specs.Turning.{ways}
use Rattle.rectangle_pack_bounds.specs.Ratings.{are_full, bound_by, effort_by}
use Rattle.rectangle_pack_bounds.proofs.lemmas.Items.{map-flat_map}
use Rattle.rectangle_pack_bounds.proofs.lemmas.Totals.{three_equal}
use Rattle.rectangle_pack_bounds.proofs.lemmas.Greatest.{greatest_by-maps}
use Rattle.rectangle_pack_bounds.proofs.ratings_tried.shown_by_ratings.Goals as goal

pub greatest-requires-clause-of_widths : goal.greatest-requires-clause-of_widths
unfolding extent
greatest-requires-clause-of_widths g c = rw c.deref-5.ensures.value c.in_ok-widths.ensures.rated

pub greatest-requires-clause-of_heights : goal.greatest-requires-clause-of_heights
unfolding extent
greatest-requires-clause-of_heights g c = rw c.deref-6.ensures.value c.in_ok-heights.ensures.rated

pub greatest-requires-clause-of_depths : goal.greatest-requires-clause-of_depths
unfolding extent
greatest-requires-clause-of_depths g c = rw c.deref-7.ensures.value c.in_ok-depths.ensures.rated

pub returns : goal.returns
unfolding extent
returns g c =
    let bin = c.args.bin in
    let boxes = c.args.boxes.now in
    let sizes = c.in_ok-sizes.ensures in
    let of_boxes = λ (axis : Axis) (all : List Size) (e : all ≡ c.in_ok-sizes.sizes.items).
    ap (map (extent axis)) (e ∙ sizes) ∙ map-flat_map (extent axis) ways boxes in
    let given = c.in_ok-fitting.ensures.given in
    let greatest = rw (given.0, given.1) at c.greatest.ensures in
    record {
      widths = map (λ row. row.rating) c.in_ok-widths.widths.items;
      heights = map (λ row. row.rating) c.in_ok-heights.heights.items;
      depths = map (λ row. row.rating) c.in_ok-depths.depths.items;
      effort = effort_by c.is_flat-is_flat.result;
      effort_is = ap effort_by (c.is_flat-is_flat.ensures
          ∙ three_equal (λ x y z. are_full bin.width x || are_full bin.height y || are_full bin.depth z)
          (of_boxes X _ c.deref.ensures.value) (of_boxes Y _ c.deref.ensures.value) (of_boxes Z _ c.deref.ensures.value));
      of_width = rw (← of_boxes X _ c.deref-2.ensures.value) (rw given.0 at c.in_ok-widths.ensures.tried);
      of_height = rw (← of_boxes Y _ c.deref-3.ensures.value) (rw given.0 at c.in_ok-heights.ensures.tried);
      of_depth = rw (← of_boxes Z _ c.deref-4.ensures.value) (rw given.0 at c.in_ok-depths.ensures.tried);
      greatest = rw (c.deref-5.ensures.value, c.deref-6.ensures.value, c.deref-7.ensures.value) at greatest
          ∙ sym (greatest_by-maps (λ w h d. bound_by bin boxes (record { of_width = w; of_height = h; of_depth = d })) (λ row. row.rating)
          c.in_ok-widths.widths.items c.in_ok-heights.heights.items c.in_ok-depths.depths.items);
    }
