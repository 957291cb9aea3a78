-- The choice among the six cuts, by a comparison of the sizes of their pieces.
use Rattle.std.specs.Prelude.{◌≡◌, ◌≢◌, ℕ, List, [], ◌∷◌, ◌++◌, All, Any, ◌⊎◌, Contains}
use Rattle.std.specs.Ordering.{ordering_reverse}
use Rattle.std.specs.declared.cmp.Ordering.{Ordering}
use Rattle.std.specs.declared.cmp.Ordering.TheVariants.{Greater}
use Rattle.rectangle_pack_sections.specs.Boxes.{Size, Cuboid, Holds}
use Rattle.rectangle_pack_sections.specs.Cuts.{cuts, sizes_of}

-- a heuristic that has at most one answer on each size. Where `MayRate` is `MayRateBy`, nothing is asked of sizes
-- beyond 32 bits: what a closure answers on these may be left open
pub record IsFunction (MayRate : Size → ℕ → Type 0) : Type 0 where
  pub rate : Size → ℕ
  pub only : (size : Size) (answer : ℕ) → MayRate size answer → answer ≡ rate size

module _ {A : Type 0} (MayAnswer : A → A → Ordering → Type 0) where
  -- on any two elements no answer is allowed but that of one function; on swapped elements it is reversed; and where x
  -- is not `Greater` than y, and y not than z, x is not `Greater` than z
  -- Example: a comparison that always answers `Equal` is one. One that always answers `Greater`, or always `Less`, is
  -- none: on swapped elements it would have to answer the other
  pub record IsTotalPreorder : Type 0 where
    pub compare : A → A → Ordering
    pub only : (x y : A) (r : Ordering) → MayAnswer x y r → r ≡ compare x y
    pub swapped : (x y : A) → compare y x ≡ ordering_reverse (compare x y)
    pub transitive : (x y z : A) → compare x y ≢ Greater → compare y z ≢ Greater → compare x z ≢ Greater

  -- on these elements no answer but that of `compare` may come, swapped elements have the reversed one, and where x is
  -- not `Greater` than y, and y not than z, x is not `Greater` than z
  pub record IsTotalPreorderOn (xs : List A) (compare : A → A → Ordering) : Type 0 where
    pub only : (x y : A) (r : Ordering) → Contains xs x → Contains xs y → MayAnswer x y r → r ≡ compare x y
    pub swapped : (x y : A) → Contains xs x → Contains xs y → compare y x ≡ ordering_reverse (compare x y)
    pub transitive : (x y z : A) → Contains xs x → Contains xs y → Contains xs z
        → compare x y ≢ Greater → compare y z ≢ Greater → compare x z ≢ Greater

  -- the chosen element stands in the list (`listed`), and the answers allow it. Asked about it and any later one, the
  -- comparison may say `Greater` (`beats_later`). If it is not the first, then asked about some earlier one and it, the
  -- comparison may say something else (`replaces`). Where the answers are those of a total preorder on the list, no
  -- element is `Greater` than it (`greatest`)
  pub record MayChoose (xs : List A) (chosen : A) : Type 0 where
    pub before : List A
    pub after : List A
    pub listed : xs ≡ before ++ chosen ∷ after
    pub beats_later : All (λ later. MayAnswer chosen later Greater) after
    pub replaces : (before ≡ []) ⊎ Any (λ earlier. (r : Ordering) × MayAnswer earlier chosen r × (r ≢ Greater)) before
    pub greatest : (compare : A → A → Ordering) → IsTotalPreorderOn xs compare → All (λ other. compare other chosen ≢ Greater) xs

-- the pieces are those of one of the six cuts, and the comparison allows this one (`MayChoose`), by the sizes of the
-- pieces
-- Example: where the answer is always `Greater`, cut 0 alone: a later one replaces none. Where it is always `Less`, or
-- always `Equal`, cut 5 alone: an earlier one would have to be `Greater` than it. Where any answer may come at any
-- time, each of the six. By `volume_heuristic` and `contains_smallest_box`, with the six cuts in the example of `cuts`:
-- cut 5 alone. The smallest and the second smallest volumes of the cuts 0 to 5 are 112500 and 375000; 112500 and
-- 125000; 37500 and 450000; 37500 and 50000; 12500 and 225000; 12500 and 75000. On each cut and a later one the answer
-- is `Less`
abbrev pub IsAllowedCut : (List Size → List Size → Ordering → Type 0) → Cuboid → Size → List Cuboid → Type 0
IsAllowedCut MayPrefer section size pieces = MayChoose (λ a b. MayPrefer (sizes_of a) (sizes_of b)) (cuts section size) pieces

-- take any section and any size that it holds, of which `IsMet` says that they may be met: on the six cuts of the
-- section round this size the comparison is a total preorder
pub record IsPreorderOnCuts (IsMet : Cuboid → Size → Type 0) (MayPrefer : List Size → List Size → Ordering → Type 0) : Type 0 where
  pub compare : Cuboid → Size → List Cuboid → List Cuboid → Ordering
  pub preorder : (section : Cuboid) (member : Size) → IsMet section member → Holds section member
      → IsTotalPreorderOn (λ a b. MayPrefer (sizes_of a) (sizes_of b)) (cuts section member) (compare section member)
