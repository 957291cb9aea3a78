-- The lengths above 0 and up to half of an axis.
use Rattle.std.proofs.Common.{◌≡◌, ℕ, ◌*◌, ◌/◌, ◌<◌, ◌≤◌, ◌&&◌, true, nat_lt, nat_le, arith}
use Rattle.std.proofs.lemmas.Bool.Decides.{nat_tests}

pub above_none : (along l : ℕ) → (nat_lt 0 l && nat_le l (along / 2)) ≡ true → 0 < l
above_none along l h = grind (arith, nat_tests)

pub to_half : (along l : ℕ) → (nat_lt 0 l && nat_le l (along / 2)) ≡ true → 2 * l ≤ along
to_half along l h = grind (arith, nat_tests)

pub passes_to_half : (along l : ℕ) → 0 < l → 2 * l ≤ along → (nat_lt 0 l && nat_le l (along / 2)) ≡ true
passes_to_half along l pos le = grind (arith, nat_tests)
