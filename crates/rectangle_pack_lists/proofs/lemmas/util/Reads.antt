-- Indices, and what is written back.
use Rattle.rectangle_pack_sections.proofs.Std.{◌≡◌, ◌<◌, ℕ, List, [], ◌++◌, length, take, drop, arith}
use Rattle.rectangle_pack_sections.proofs.Std.{append-nil, length-drop, nil_from_length, take_all}

-- an index below a length that is counted otherwise
pub below-same : (i n m : ℕ) → i < n → m ≡ n → i < m
below-same i n m within same = omega arith

-- what is written back over a whole list
pub written_back : {X : Type 0} (old new : List X) (n : ℕ) → length new ≡ length old → n ≡ length old → take n (new ++ drop (length new) old) ≡ new
written_back old new n same all =
    let none : drop (length new) old ≡ [] = nil_from_length _ (omega (arith, length-drop (length new) old)) in
    rw (none, append-nil) (take_all n new (omega arith))
