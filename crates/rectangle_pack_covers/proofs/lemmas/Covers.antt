-- Faults of boxes that are to cover a bin.
use Rattle.rectangle_pack_sections.proofs.Std.{◌≡◌, ℕ, ◌+◌, ◌<◌, arith, ap, refl, sym, get_or-take, ◌∙◌, List, ◌∷◌, take, drop, length, length-take-le, get_or_default}
use Rattle.rectangle_pack_sections.proofs.Std.{All, Bool, true, Some, All-map, HoldsAt, AllPairs, get_or, get_or-map, length-map, rules, ◌++◌, subst, length-append, get_or_append_left, get_or-append_seam}
use Rattle.rectangle_pack_sections.specs.Bins.{whole}
use Rattle.rectangle_pack_sections.specs.Boxes.{Size, Cuboid, IsCellOf, IsInside}
use Rattle.rectangle_pack_sections.specs.Counting.{times_filled, AreAllApart}
use Rattle.rectangle_pack_sections.specs.Covering.{CoverBin}
use Rattle.rectangle_pack_sections.specs.CutTrees.{IsFromCuts}
use Rattle.rectangle_pack_sections.proofs.lemmas.util.Lists.{All-middle}
use Rattle.rectangle_pack_covers.specs.declared.covers.BinFault.{BinFault}
use Rattle.rectangle_pack_covers.specs.declared.covers.BinFault.TheVariants.{Outside, SharesCell, CellInNone, NotFromCuts}
use Rattle.rectangle_pack_sections.proofs.lemmas.cuts.Counting.{filled-append, filled_yes, filled_from_some}
use Rattle.rectangle_pack_overlaps.specs.declared.overlaps.Standing.{Standing}
use Rattle.rectangle_pack_overlaps.specs.Overlaps.{AreClear}
use Rattle.rectangle_pack_overlaps.proofs.lemmas.Places.{at_here, split_here}
use Rattle.rectangle_pack_covers.specs.Covers.{IsFirstOutside, AreFirstSharing, IsBinAnswer, in_one_bin}

pub IsFirstOutside-at : (size : Size) (boxes : List Cuboid) (i : ℕ) → i < length boxes → HoldsAt (λ b. ¬ IsInside size b) boxes i
    → All (IsInside size) (take i boxes) → IsFirstOutside size boxes i
IsFirstOutside-at size boxes i within outside before =
    let none : Cuboid = whole size in
    (at_here boxes i (get_or boxes i none) within (sym (get_or_default boxes i (get_or boxes i none) none within)), before, outside none)

-- a box alone in a bin
abbrev alone : Cuboid → Standing
alone b = record { bin = 0; section = b }

pub in_one_bin-known : (boxes : List Cuboid) → All (λ b. b.bin < 1) (in_one_bin boxes)
in_one_bin-known boxes = All-map (λ b. b.bin < 1) alone boxes (λ k d within. omega arith)

pub in_one_bin-apart : (boxes : List Cuboid) → AllPairs AreClear (in_one_bin boxes) → AreAllApart boxes
in_one_bin-apart boxes h = λ i j d below within.
    let clear = h i j (alone d) below (omega (arith, within, length-map boxes alone)) in
    let at_i : get_or (in_one_bin boxes) i (alone d) ≡ alone (get_or boxes i d) = get_or-map alone boxes i d (alone d) (omega arith) in
    let at_j : get_or (in_one_bin boxes) j (alone d) ≡ alone (get_or boxes j d) = get_or-map alone boxes j d (alone d) within in
    (rw (at_i, at_j) at clear) refl

-- boxes that cover a bin share no cells
pub CoverBin-apart : (boxes : List Cuboid) (size : Size) → CoverBin boxes size → AreAllApart boxes
CoverBin-apart boxes size cover = λ i j d below within. record {
  none = λ c a b.
      let one : Cuboid = get_or boxes i d in
      let other : Cuboid = get_or boxes j d in
      let in_bin : IsCellOf c (whole size) = let inside = cover.inside i d (omega arith) in search rules in
      let before : 0 < times_filled c (take j boxes) =
      filled_from_some c (take j boxes) (i, one, omega (arith, length-take-le j boxes (omega arith)), get_or-take j boxes i one (omega arith) ∙ get_or_default boxes i one d (omega arith), a) in
      let splits = split_here boxes j other within (sym (get_or_default boxes j other d within)) in
      omega (
        arith,
        cover.once c in_bin,
        ap (times_filled c) splits,
        filled-append c (take j boxes) (other ∷ drop (j + 1) boxes),
        filled_yes c other (drop (j + 1) boxes) b,
        before,
      );
}

in_one_bin-clear : (boxes : List Cuboid) → AreAllApart boxes → AllPairs AreClear (in_one_bin boxes)
in_one_bin-clear boxes h = λ i j d below within one_bin.
    let many : length (in_one_bin boxes) ≡ length boxes = length-map boxes alone in
    let apart = h i j d.section below (omega (arith, within, many)) in
    let at_i : get_or (in_one_bin boxes) i d ≡ alone (get_or boxes i d.section) = get_or-map alone boxes i d.section d (omega (arith, within, many)) in
    let at_j : get_or (in_one_bin boxes) j d ≡ alone (get_or boxes j d.section) = get_or-map alone boxes j d.section d (omega (arith, within, many)) in
    rw (at_i, at_j) apart

-- of pairs in a list, those of an element in the middle
pub before_one : {X : Type 0} (R : X → X → Type 0) (xs before : List X) (x : X) (after : List X) → xs ≡ before ++ x ∷ after → AllPairs R xs → All (λ y. R y x) before
before_one R xs before x after is h = λ k d within.
    let pairs : AllPairs R (before ++ x ∷ after) = subst (AllPairs R) is h in
    let pair = pairs k (length before) d within (omega (arith, length-append before (x ∷ after))) in
    rw (get_or_append_left before (x ∷ after) d k within, get_or-append_seam before x after d) at pair

-- boxes of which one is outside, or two share a cell, do not cover the bin
pub outside-no_cover : (size : Size) (boxes : List Cuboid) (index : ℕ) → IsFirstOutside size boxes index → ¬ CoverBin boxes size
outside-no_cover size boxes index (at, before, outside) = λ cover. outside (All-middle (IsInside size) boxes at.before at.after at.one at.splits cover.inside)

pub sharing-no_cover : (size : Size) (boxes : List Cuboid) (first second : ℕ) → AreFirstSharing size boxes first second → ¬ CoverBin boxes size
sharing-no_cover size boxes first second (inside, o) = λ cover.
    let later = o.later in
    let earlier = o.earlier in
    let clear = before_one AreClear (in_one_bin boxes) later.before later.one later.after later.splits (in_one_bin-clear boxes (CoverBin-apart boxes size cover)) in
    let apart = All-middle (λ b. AreClear b later.one) later.before earlier.before earlier.after earlier.one earlier.splits clear o.clash.one_bin in
    apart.none o.clash.shares.cell o.clash.shares.in_first o.clash.shares.in_second

-- what is answered as a fault is one: the boxes do not cover the bin, or they are not from cuts of it, where that is asked
pub IsBinAnswer-fault : (size : Size) (asked : Bool) (boxes : List Cuboid) (fault : BinFault) → IsBinAnswer size asked boxes (Some fault)
    → CoverBin boxes size → (asked ≡ true → IsFromCuts boxes (whole size)) → ⊥
IsBinAnswer-fault size asked boxes (Outside index) h cover cuts = outside-no_cover size boxes index h cover
IsBinAnswer-fault size asked boxes (SharesCell first second) h cover cuts = sharing-no_cover size boxes first second h cover
IsBinAnswer-fault size asked boxes CellInNone h cover cuts = h.1 cover
IsBinAnswer-fault size asked boxes NotFromCuts h cover cuts = h.2 (cuts h.1)
