use Rattle.std.proofs.Common.{◌≡◌, All, map, take}
use Rattle.rectangle_pack_bounds.specs.private.Rates.{IsRow}
use Rattle.rectangle_pack_bounds.proofs.rows.rows.Given as goal

abbrev pub invariant-loop-rating : goal.invariant-loop-rating
invariant-loop-rating g l = record {
  of_ratings : map (λ row. row.rating) l.rows.items ≡ take l.rating-index l.ratings;
  rated : All (IsRow l.fn.axis l.fn.fitting.bin l.fn.fitting.sizes.items) l.rows.items;
}
