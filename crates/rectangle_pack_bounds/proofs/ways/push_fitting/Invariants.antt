use Rattle.std.proofs.Common.{◌≡◌, Bool, true, false, List, [], ◌∷◌, ◌++◌, filter, take}
use Rattle.rectangle_pack_bounds.specs.Turning.{fits_in}
use Rattle.rectangle_pack_bounds.specs.private.Ways.{firsts}
use Rattle.rectangle_pack_bounds.proofs.ways.push_fitting.Given as goal

-- whether a list is empty
abbrev are_none : {X : Type 0} → List X → Bool
are_none [] = true
are_none (x ∷ xs) = false

abbrev pub invariant-loop-way : goal.invariant-loop-way
invariant-loop-way g l = record {
  sizes : l.sizes.items ≡ l.initial.sizes.items ++ filter (fits_in l.fn.bin) (take l.way-index l.ways);
  first : l.are_first.items ≡ l.initial.are_first.items ++ firsts (filter (fits_in l.fn.bin) (take l.way-index l.ways));
  next : l.is_first ≡ are_none (filter (fits_in l.fn.bin) (take l.way-index l.ways));
}
