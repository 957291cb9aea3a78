-- Counts of cells by bin.
use Rattle.std.specs.Prelude.{ℕ, List, unwrap_or}
use Rattle.std.specs.declared.cmp.Ordering.{Ordering}
use Rattle.std.specs.BTreeMap.{is_at}
use Rattle.std.specs.Borrow.{Bor}
use Rattle.std.specs.Map.{lookup}

-- what is counted for the bin of this id, in counts by references to ids; 0 where nothing is
abbrev pub cells_in : {B : Type 0} → (B → B → Ordering) → List (Bor B × ℕ) → B → ℕ
cells_in bin_cmp counts id = unwrap_or (lookup (λ bin. is_at (bin_cmp id) bin.now) counts) 0
