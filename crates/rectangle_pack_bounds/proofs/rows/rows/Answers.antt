use Rattle.std.proofs.Common.{rules}
use Rattle.std.proofs.lemmas.List.Elements.{All-push}
use Rattle.rectangle_pack_bounds.specs.private.Rates.{IsRow}
use Rattle.rectangle_pack_bounds.proofs.lemmas.Items.{map_more}
use Rattle.rectangle_pack_bounds.proofs.rows.rows.Goals as goal

pub loop-rating-preserved : goal.loop-rating-preserved
loop-rating-preserved g c =
    let row = c.in_ok-rated_row.field-0 in
    let before = c.loop-rating.rows.items in
    record {
      of_ratings = rw c.in_ok-push.ensures.items (map_more (λ row. row.rating) before row c.args.ratings.now
          c.loop-rating.rating-index c.loop-rating.invariant.of_ratings c.loop-rating-test.true (let h = c.in_ok-rated_row.ensures.of_rating in search rules));
      rated = rw c.in_ok-push.ensures.items (All-push (IsRow c.args.axis c.args.fitting.now.bin c.args.fitting.now.sizes.items) before row c.loop-rating.invariant.rated c.in_ok-rated_row.ensures.rated);
    }
