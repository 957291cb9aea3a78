-- Room in lists with gaps: what is reserved makes it, and a piece takes no more than one place of it.
use Rattle.std.specs.Int.{div_ceil}
use Rattle.rectangle_pack_sections.proofs.Std.{◌≡◌, ◌≤◌, ◌<◌, ◌+◌, ◌-◌, ◌*◌, ◌/◌, ℕ, List, [], ◌∷◌, ◌++◌, length, min, arith, ap}
use Rattle.rectangle_pack_sections.proofs.Std.{filter, length-append, length-filter, count_by-le-length}
use Rattle.rectangle_pack_sections.specs.Boxes.{Cuboid, has_cells}

-- there is as much room as the least of sections, flags, blocks and rows leaves
module _ (room sections gaps blocks rows : ℕ) (is : min (min sections (gaps * 8)) (min (blocks * 8 + 7) (rows * 64 + 63)) ≡ room) (all : ℕ) (some : all < room) where
  -- where there is room for a place, there is for its section, its flag, and the block and the row that it completes
  pub section-fits : (len n : ℕ) → len ≡ n → n ≡ all → len < sections
  section-fits len n long same = omega arith

  pub flag-fits : (len n : ℕ) → len ≡ n → n ≡ all → len < gaps * 8
  flag-fits len n long same = omega arith

  pub block-fits : (next n : ℕ) → next ≡ n + 1 → n ≡ all → next < blocks * 8 + 8
  block-fits next n more counted = omega arith

  pub row-fits : (b next n : ℕ) → b * 8 ≤ next → next ≡ n + 1 → n ≡ all → b < rows * 8 + 8
  row-fits b next n whole more counted = omega arith

-- the bytes of so many places
pub bytes-enough : (n bytes : ℕ) → bytes ≡ div_ceil n 8 → bytes ≡ (n + 7) / 8
bytes-enough n bytes is = omega arith

-- there are no more bytes than those of more places
pub few-bytes : (k g len s extra bytes : ℕ) → k ≡ g → g ≡ (s + 7) / 8 → len ≡ s → bytes ≡ div_ceil (len + extra) 8 → k ≤ bytes
few-bytes k g len s extra bytes a b c d = omega arith

-- there are no more blocks or rows than the places have whole ones
pub few-blocks : (n b len s extra : ℕ) → n ≡ b → len ≡ s → b * 8 ≤ s → n ≤ (len + extra) / 8
few-blocks n b len s extra a c le = omega arith

pub few-rows : (n b len s extra : ℕ) → n ≡ b → len ≡ s → b * 64 ≤ s → n ≤ (len + extra) / 64
few-rows n b len s extra a c le = omega arith

-- sections, flags, blocks and rows for so many places make room for them
pub room-made : (all extra len sections bytes k g gaps n b blocks m r rows : ℕ) → len ≡ all → len + extra ≤ sections
    → bytes ≡ div_ceil (len + extra) 8 → k ≤ bytes → g ≡ k → g + (bytes - k) ≤ gaps
    → n ≤ (len + extra) / 8 → b ≡ n → b + ((len + extra) / 8 - n) ≤ blocks
    → m ≤ (len + extra) / 64 → r ≡ m → r + ((len + extra) / 64 - m) ≤ rows
    → all + extra ≤ min (min sections (gaps * 8)) (min (blocks * 8 + 7) (rows * 64 + 63))
room-made all extra len sections bytes k g gaps n b blocks m r rows a made is few gk gm ln bn bm lr rn rm = omega arith

-- a piece takes a place at most
pub one-section-more : (s t : List Cuboid) (p : Cuboid) → t ≡ s ++ filter has_cells (p ∷ []) → length t ≤ length s + 1
one-section-more s t p e =
    omega (arith, ap length e, length-append s (filter has_cells (p ∷ [])), length-filter has_cells (p ∷ []), count_by-le-length has_cells (p ∷ []))

-- one element more is counted
pub counted-more : {X : Type 0} (s t : List X) (x : X) (n : ℕ) → length s ≡ n → t ≡ s ++ x ∷ [] → length t ≡ n + 1
counted-more s t x n so_far same = omega (arith, ap length same, length-append s (x ∷ []))
