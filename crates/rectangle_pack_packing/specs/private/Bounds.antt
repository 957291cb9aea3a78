-- What bounds the fit tests of a packing.
use Rattle.std.specs.Prelude.{ℕ, ◌+◌, ◌*◌, ◌≤◌, List, length, unwrap_or}
use Rattle.std.specs.declared.cmp.Ordering.{Ordering}
use Rattle.std.specs.List.{sum_by}
use Rattle.std.specs.Option.{option_map}
use Rattle.std.specs.Map.{lookup}
use Rattle.std.specs.BTreeMap.{is_at}
use Rattle.rectangle_pack_sections.specs.Bins.{Bin}

-- how many free sections the bin of this id has
abbrev pub free_sections_at : {B : Type 0} → (B → B → Ordering) → List (B × Bin) → B → ℕ
free_sections_at bin_cmp bins id = unwrap_or (option_map (λ (b : Bin). length b.sections) (lookup (is_at (bin_cmp id)) bins)) 0

-- how many free sections the bins of an order have
abbrev pub free_sections_of : {B : Type 0} → (B → B → Ordering) → List (B × Bin) → List B → ℕ
free_sections_of bin_cmp bins order = sum_by (free_sections_at bin_cmp bins) order

-- `tests` fit tests are no more than groups with `entries` entries may make in these bins: with n entries n for each
-- free section and n · (n - 1) for each bin
pub record AreWithin {B : Type 0} (bin_cmp : B → B → Ordering) (bins : List (B × Bin)) (order : List B) (entries tests : ℕ) : Type 0 where
  pub most : tests + length order * entries ≤ entries * free_sections_of bin_cmp bins order + length order * (entries * entries)
