-- Numbers of 128 bits that do not wrap.
use Rattle.std.specs.Prelude.{ℕ, ◌-◌, ◌^◌, min}

-- the number, or the greatest of 128 bits, 2^128 - 1, where that is less
-- Example: rates 2^128 - 1 and 1 add up to 2^128, which is saturated to 2^128 - 1
abbrev pub saturated : ℕ → ℕ
saturated n = min n (2 ^ 128 - 1)
