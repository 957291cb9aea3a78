-- Boxes in bins, by whatever packer, and how many bins they need.
use Rattle.std.specs.Prelude.{◌≡◌, ℕ, ◌≤◌, cond, List, [], ◌∷◌, All, AllPairs, Contains, IsPermutation, IsSomeAnd, length}
use Rattle.std.specs.Prelude.{map, Option, Some, None}
use Rattle.std.specs.declared.cmp.Ordering.{Ordering}
use Rattle.std.specs.declared.cmp.Ordering.TheVariants.{Equal}
use Rattle.std.specs.BTreeMap.{is_at}
use Rattle.std.specs.List.{list_any}
use Rattle.std.specs.Map.{lookup}
use Rattle.rectangle_pack_sections.specs.Boxes.{Size, Cuboid, IsInside, AreApart}

-- a box where some packer put it: which box it is, the id of its bin, and where it stands in there
-- Example: the box 5x5x1 in the bin 4, at (0,0,0)
pub record Put (E B : Type 0) : Type 0 where
  pub of : E
  pub bin : B
  pub box : Cuboid

module _ {E B : Type 0} (bin_cmp : B → B → Ordering) (ways : E → List Size) (bins : List (B × Size)) (boxes : List E) where
  -- the boxes, in any order, each once: each stands in one of its ways inside its bin, and no two in one bin share a cell
  -- Example: 6x1x1 and 5x1x1 in bins 0 and 4 of 10x1x1: (0,0,0) 6x1x1 in bin 0, and (3,0,0) 5x1x1 in bin 4
  pub record IsArrangement (puts : List (Put E B)) : Type 0 where
    pub each_once : IsPermutation boxes (map (λ p. p.of) puts)
    pub one_way : All (λ p. Contains (ways p.of) p.box.whd) puts
    pub inside : All (λ p. IsSomeAnd (lookup (is_at (bin_cmp p.bin)) bins) (λ size. IsInside size p.box)) puts
    pub apart : AllPairs (λ a b. bin_cmp a.bin b.bin ≡ Equal → AreApart a.box b.box) puts

-- each id once: of those that are equal the last
-- Example: of 4, 0, 4: 0, 4
abbrev pub different : {B : Type 0} → (B → B → Ordering) → List B → List B
different cmp [] = []
different cmp (id ∷ ids) = cond (list_any (is_at (cmp id)) ids) (different cmp ids) (id ∷ different cmp ids)

-- how many bins have a box, or more than one
-- Example: 2 in the example of `IsArrangement`
abbrev pub bins_used : {E B : Type 0} → (B → B → Ordering) → List (Put E B) → ℕ
bins_used cmp puts = length (different cmp (map (λ p. p.bin) puts))

-- so many bins used meet what is shown to be needed: the number that is shown is at most `used`. Where no number is shown,
-- nothing meets it
-- Example: 3 bins used meet a shown 2; 1 does not
abbrev pub IsMetBy : Option ℕ → ℕ → Type 0
IsMetBy (Some least) used = least ≤ used
IsMetBy None used = ⊥

-- no arrangement uses fewer bins than `least`; where there is no such number, there is no arrangement
-- Example: 6x1x1 and 5x1x1 need two of the bins 0, 1 and 2 of 10x1x1; into bin 0 alone there is no arrangement
abbrev pub AreNeeded : {E B : Type 0} → (B → B → Ordering) → (E → List Size) → List (B × Size) → List E → Option ℕ → Type 0
AreNeeded {E} {B} bin_cmp ways bins boxes least =
    (puts : List (Put E B)) → IsArrangement bin_cmp ways bins boxes puts → IsMetBy least (bins_used bin_cmp puts)
