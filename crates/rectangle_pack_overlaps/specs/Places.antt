-- Places of lists.
use Rattle.std.specs.Prelude.{◌≡◌, ℕ, List, ◌∷◌, ◌++◌, length}

-- what stands at a place of a list, counted from 0: what is before it, it, and what is after it
-- Example: in 7, 8, 9 the place 1: before it 7, there 8, after it 9
pub record At {X : Type 0} (xs : List X) (place : ℕ) : Type 0 where
  pub before : List X
  pub one : X
  pub after : List X
  pub splits : xs ≡ before ++ one ∷ after
  pub place_is : place ≡ length before
