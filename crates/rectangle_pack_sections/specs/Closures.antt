-- What is asked of the two closures: the heuristic and the comparison.
use Rattle.std.specs.Prelude.{◌≡◌, ℕ, List, All, length}
use Rattle.std.specs.declared.cmp.Ordering.{Ordering}
use Rattle.std.specs.Fn.{Shared}
use Rattle.std.specs.Borrow.{Bor}
use Rattle.rectangle_pack_sections.specs.Boxes.{Size, IsU32}

-- what is known of a heuristic (`H.Fn`): what it may be asked and what it may answer, on one size
abbrev pub RateCalls : Type 0 → Type 1
RateCalls H = Shared H (Size × Unit {0}) ℕ

-- what is known of a comparison (`C.Fn`): what it may be asked and what it may answer, on two lists of sizes and the
-- heuristic
abbrev pub CompareCalls : Type 0 → Type 0 → Type 1
CompareCalls C H = Shared C (List Size × (List Size × (Bor H × Unit {0}))) Ordering

-- the heuristic may be called on each size of 32 bits (`IsU32`), also where a side is 0
abbrev pub CanRate : {H : Type 0} → RateCalls H → H → Type 0
CanRate g heuristic = (size : Size) → IsU32 size → g.pre heuristic (size, tt)

-- there are three sizes, each of 32 bits
pub record AreThreeSizes (sizes : List Size) : Type 0 where
  pub three : length sizes ≡ 3
  pub small : All IsU32 sizes

-- the comparison may be called on each two triples of such sizes (`AreThreeSizes`), with a reference to this heuristic
-- beside them
abbrev pub CanCompare : {C H : Type 0} → CompareCalls C H → C → H → Type 0
CanCompare {C} {H} g comparison heuristic =
    (first second : List Size) (shown : Bor H) → AreThreeSizes first → AreThreeSizes second → shown.now ≡ heuristic
    → g.pre comparison (first, (second, (shown, tt)))

-- the heuristic may be asked about each size of 32 bits, and the comparison about each two triples of them (`CanRate`,
-- `CanCompare`)
pub record AreCallable {C H : Type 0} (rates : RateCalls H) (compares : CompareCalls C H) (heuristic : H) (comparison : C) : Type 0 where
  pub rate : CanRate rates heuristic
  pub compare : CanCompare compares comparison heuristic

-- the heuristic may answer this rate on this size, and the size is of 32 bits. A closure is asked about no other sizes
pub record MayRateBy {H : Type 0} (g : RateCalls H) (heuristic : H) (size : Size) (rate : ℕ) : Type 0 where
  pub small : IsU32 size
  pub says : g.post heuristic (size, tt) rate

-- the comparison may answer r on these two triples, with a reference to this heuristic beside them; and both are three
-- sizes of 32 bits
pub record MayCompare {C H : Type 0} (g : CompareCalls C H) (comparison : C) (heuristic : H) (first second : List Size) (r : Ordering) : Type 0 where
  pub first_three : AreThreeSizes first
  pub second_three : AreThreeSizes second
  pub shown : Bor H
  pub shows : shown.now ≡ heuristic
  pub says : g.post comparison (first, (second, (shown, tt))) r

-- what the two closures of a packing may answer: `rate size n`, that the heuristic may answer n on this size (n is then
-- a rate of it); `prefer first second r`, that the comparison may answer r on two triples of sizes, `Greater` where the
-- first is better. They are relations and no functions: a closure may answer differently from call to call, as its own
-- contract allows
pub record Answers : Type 1 where
  pub rate : Size → ℕ → Type 0
  pub prefer : List Size → List Size → Ordering → Type 0

-- what this heuristic and this comparison may answer: `MayRateBy` and `MayCompare`
abbrev pub answers : {C H : Type 0} → RateCalls H → CompareCalls C H → H → C → Answers
answers rates compares heuristic comparison = record { rate = MayRateBy rates heuristic; prefer = MayCompare compares comparison heuristic }
