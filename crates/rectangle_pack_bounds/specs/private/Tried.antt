-- The ratings that are tried beside that of lengths as they are.
use Rattle.std.specs.Prelude.{ℕ, List, ◌++◌, map}
use Rattle.rectangle_pack_bounds.specs.declared.rating.Rating.{Rating}
use Rattle.rectangle_pack_bounds.specs.declared.rating.Rating.TheVariants.{Rounded, InParts, InPieces}
use Rattle.rectangle_pack_bounds.specs.declared.ratings_along.Effort.{Effort as Numbers}
use Rattle.rectangle_pack_bounds.specs.Ratings.{Effort, last_of}

-- the effort that a value of the code means
abbrev pub meant : Numbers → Effort
meant n = record { parts = n.parts.now; rounded = n.rounded; pieces = n.pieces }

-- cut into parts, then rounded at lengths, then in pieces of lengths
abbrev pub ratings_beside : Effort → List ℕ → List Rating
ratings_beside effort rising = map InParts effort.parts ++ map Rounded (last_of effort.rounded rising) ++ map InPieces (last_of effort.pieces rising)
