-- Bins that a group passes over.
use Rattle.std.specs.Prelude.{◌≡◌, ℕ, List, ◌∷◌, sum, false}
use Rattle.std.specs.declared.cmp.Ordering.{Ordering}
use Rattle.std.specs.Borrow.{Bor}
use Rattle.std.specs.List.{AllZip}
use Rattle.rectangle_pack_sections.specs.Boxes.{Size}
use Rattle.rectangle_pack_sections.specs.Bins.{Bin}
use Rattle.rectangle_pack_packing.specs.private.Excluded.{are_in}
use Rattle.rectangle_pack_packing.specs.private.BinsAtWork.{BinHoldsNone}

-- the bin of this id is not excluded for a group, and none of its sections holds the first member; so many sections stand in it
pub record IsPassedOver {B : Type 0} (cmp : B → B → Ordering) (excluded : List (Bor B)) (bins : List (B × Bin)) (members : List Size) (id : B) (tests : ℕ)
    : Type 0 where
  pub allowed : are_in cmp excluded id ≡ false
  pub first : Size
  pub others : List Size
  pub members_are : members ≡ first ∷ others
  pub none : BinHoldsNone cmp bins first id tests

-- so it is with each bin of these ids, with so many tests in all
pub record ArePassedOver {B : Type 0} (cmp : B → B → Ordering) (excluded : List (Bor B)) (bins : List (B × Bin)) (members : List Size) (ids : List B)
    (tests : ℕ) : Type 0 where
  pub counts : List ℕ
  pub each : AllZip (IsPassedOver cmp excluded bins members) ids counts
  pub tests_are : tests ≡ sum counts
