use Rattle.std.proofs.Common.{◌≡◌, ◌-◌, ◌*◌, ◌^◌, min, length, sum_by, ap, ◌∙◌, arith}
use Rattle.std.specs.Int.{div_ceil}
use Rattle.rectangle_pack_sections.specs.Boxes.{volume_of, extent}
use Rattle.rectangle_pack_bounds.specs.Ratings.{scales_by, least_rate, capped}
use Rattle.rectangle_pack_bounds.specs.private.Rates.{ratings_of}
use Rattle.rectangle_pack_bounds.proofs.lemmas.Totals.{three_equal, div_ceil-capped}
use Rattle.rectangle_pack_bounds.proofs.lemmas.Zero.{boxes_none}
use Rattle.rectangle_pack_bounds.proofs.ratings_tried.bound_by.Goals as goal

pub quotient-requires : goal.quotient-requires
unfolding extent
quotient-requires g c = λ none.
    let r = ratings_of c.args.width.now c.args.height.now c.args.depth.now in
    let scale : c.saturating_mul-scale.result ≡ capped (volume_of (scales_by r c.args.fitting.now.bin)) =
    c.saturating_mul-scale.ensures ∙ ap capped (three_equal (λ x y z. x * y * z) c.requires.of_width.scale_is c.requires.of_height.scale_is c.requires.of_depth.scale_is) in
    c.total_rate-total.ensures ∙ ap capped (boxes_none r c.args.fitting.now.bin c.args.fitting.now.boxes.now (omega (arith, scale, none)))

pub returns : goal.returns
unfolding extent
returns g c =
    let r = ratings_of c.args.width.now c.args.height.now c.args.depth.now in
    let volume = volume_of (scales_by r c.args.fitting.now.bin) in
    let scale : c.saturating_mul-scale.result ≡ capped volume =
    c.saturating_mul-scale.ensures ∙ ap capped (three_equal (λ x y z. x * y * z) c.requires.of_width.scale_is c.requires.of_height.scale_is c.requires.of_depth.scale_is) in
    let total = capped (sum_by (least_rate r c.args.fitting.now.bin) c.args.fitting.now.boxes.now) in
    let same : div_ceil c.total_rate-total.result c.saturating_mul-scale.result ≡ div_ceil total volume =
    rw (c.total_rate-total.ensures, scale) (div_ceil-capped total volume (2 ^ 128 - 1) (omega arith) (omega arith)) in
    c.quotient.ensures ∙ ap (λ bins. min bins (length c.args.fitting.now.boxes.now)) same
