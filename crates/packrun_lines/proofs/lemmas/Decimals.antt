-- Digits that are written before a place, the last one first.
use Rattle.std.proofs.Common.{◌≡◌, ◌<◌, ◌≤◌, ◌+◌, ◌-◌, ◌/◌, ◌%◌, ◌^◌, ◌⊎◌, inl, inr, ◌++◌, ◌∷◌, ℕ, List, [], length, length-append, length-set, drop, set, refl, sym, ap, ◌∙◌, append_assoc, arith}
use Rattle.std.specs.Fmt.{decimal}
use Rattle.std.proofs.lemmas.Bool.{cases_lt}
use Rattle.std.proofs.lemmas.Fmt.{decimal_step_wide, decimal_digit}
use Rattle.std.proofs.lemmas.List.{drop-set}

-- a number is being written before `end`: from a place on its last digits stand in the line, and those of the rest of
-- the number are to stand before them, where there is room
pub record IsSpelling (number : ℕ) (old : List ℕ) (end rest : ℕ) (line : List ℕ) (at : ℕ) : Type 0 where
  pub written : decimal rest ++ drop at line ≡ decimal number ++ drop end old
  pub places : length (decimal number) + at ≡ length (decimal rest) + end
  pub room : length (decimal number) ≤ end
  pub some : 1 ≤ at
  pub within : at ≤ length line
  pub small : rest < 10 ^ 64

-- a byte that is written before a place stands in front of what was there
pub written_before : (line : List ℕ) (at byte : ℕ) → 1 ≤ at → at ≤ length line → drop (at - 1) (set line (at - 1) byte) ≡ byte ∷ drop at line
written_before line at byte some within =
    let next : at - 1 + 1 ≡ at = omega arith in
    drop-set line (at - 1) byte (omega arith) ∙ ap (λ k. byte ∷ drop k line) next

-- the last digit of a number is written before those that were
pub digit_more : (n : ℕ) (line : List ℕ) (at : ℕ) → 10 ≤ n → n < 10 ^ 64 → 1 ≤ at → at ≤ length line
    → decimal (n / 10) ++ drop (at - 1) (set line (at - 1) (48 + n % 10)) ≡ decimal n ++ drop at line
digit_more n line at many small some within =
    ap (λ t. decimal (n / 10) ++ t) (written_before line at (48 + n % 10) some within)
    ∙ sym (append_assoc (decimal (n / 10)) ((48 + n % 10) ∷ []) (drop at line))
    ∙ ap (λ t. t ++ drop at line) (sym (decimal_step_wide n many small))

-- which is one digit longer than what is left
pub digit_fewer : (n : ℕ) → 10 ≤ n → n < 10 ^ 64 → length (decimal n) ≡ length (decimal (n / 10)) + 1
digit_fewer n many small = omega (arith, ap length (decimal_step_wide n many small), length-append (decimal (n / 10)) ((48 + n % 10) ∷ []))

-- a number has a digit
decimal_some : (n : ℕ) → n < 10 ^ 64 → 1 ≤ length (decimal n)
decimal_some n small = by (cases_lt n 10)
  where
    by : (n < 10) ⊎ (10 ≤ n) → 1 ≤ length (decimal n)
    by (inl one) = omega (arith, ap length (decimal_digit n one))
    by (inr many) = omega (arith, digit_fewer n many small)

-- nothing is written yet
pub IsSpelling-begun : (number : ℕ) (old : List ℕ) (end : ℕ) → number < 10 ^ 64 → length (decimal number) ≤ end → end ≤ length old → IsSpelling number old end number old end
IsSpelling-begun number old end small room within = record {
  written = refl;
  places = refl;
  room = room;
  some = omega (arith, decimal_some number small, room);
  within = within;
  small = small;
}

-- the last digit of the rest is written
pub IsSpelling-more : (number : ℕ) (old : List ℕ) (end rest : ℕ) (line : List ℕ) (at : ℕ) → 10 ≤ rest → IsSpelling number old end rest line at
    → IsSpelling number old end (rest / 10) (set line (at - 1) (48 + rest % 10)) (at - 1)
IsSpelling-more number old end rest line at many h =
    let fewer = digit_fewer rest many h.small in
    let small : rest / 10 < 10 ^ 64 = omega (arith, h.small) in
    record {
      written = digit_more rest line at many h.small h.some h.within ∙ h.written;
      places = omega (arith, h.some, fewer, h.places);
      room = h.room;
      some = omega (arith, decimal_some (rest / 10) small, h.some, fewer, h.places, h.room);
      within = omega (arith, length-set line (at - 1) (48 + rest % 10), h.within);
      small = small;
    }
