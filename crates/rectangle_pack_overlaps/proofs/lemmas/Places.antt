-- Places of lists.
use Rattle.rectangle_pack_sections.proofs.Std.{ℕ, ◌+◌, ◌<◌, ◌≡◌, ◌∙◌, List, ◌∷◌, ◌++◌, length, take, drop, get_or, ap, sym, arith, suc, split_at, length-take-le, length-append}
use Rattle.rectangle_pack_overlaps.specs.Places.{At}

-- a list, split at a place
pub split_here : {X : Type 0} (xs : List X) (i : ℕ) (x : X) → i < length xs → x ≡ get_or xs i x → xs ≡ take i xs ++ x ∷ drop (i + 1) xs
split_here xs i x within at =
    let on : suc i ≡ i + 1 = omega arith in
    split_at xs i x within ∙ ap (λ y. take i xs ++ y ∷ drop (suc i) xs) (sym at) ∙ ap (λ n. take i xs ++ x ∷ drop n xs) on

-- what stands at a place
abbrev pub at_here : {X : Type 0} (xs : List X) (i : ℕ) (x : X) → i < length xs → x ≡ get_or xs i x → At xs i
at_here xs i x within is = record {
  before = take i xs;
  one = x;
  after = drop (i + 1) xs;
  splits = split_here xs i x within is;
  place_is = sym (length-take-le i xs (omega arith));
}

-- a place is below the length
pub place_within : {X : Type 0} (xs : List X) (i : ℕ) → At xs i → i < length xs
place_within xs i at = omega (arith, at.place_is, ap length at.splits, length-append at.before (at.one ∷ at.after))
