-- What the pieces of a cut have in common with the section.
use Rattle.rectangle_pack_sections.proofs.Std.{◌≡◌, ℕ, ◌+◌, ◌-◌, ◌<◌, ◌≤◌, Bool, List, [], ◌∷◌, refl, arith, length, take, get_or, nat_tests, if◌then◌else◌}
use Rattle.rectangle_pack_sections.proofs.Std.{rules, All, Ordering, All-cons, All-from_recursion, All-map, All-weaker, All-take}
use Rattle.rectangle_pack_sections.specs.declared.axis.Axis.{Axis}
use Rattle.rectangle_pack_sections.specs.declared.axis.Axis.TheVariants.{X, Y, Z}
use Rattle.rectangle_pack_sections.specs.Boxes.{Size, Cuboid, IsPartOf, Holds, IsU32, FitsU32, extent, start}
use Rattle.rectangle_pack_sections.specs.Closures.{AreThreeSizes}
use Rattle.rectangle_pack_sections.specs.Cuts.{is_same, is_before, placed, piece_start, piece_extent, piece, pieces, orders, cuts, sizes_of}
use Rattle.rectangle_pack_sections.specs.Choice.{MayChoose}
use Rattle.rectangle_pack_sections.specs.Counting.{Tiles, HaveVolumeOf}
use Rattle.rectangle_pack_sections.proofs.lemmas.util.Lists.{All-middle}
use Rattle.rectangle_pack_sections.proofs.lemmas.cuts.CoverVolumes.{Tiles-volume}
use Rattle.rectangle_pack_sections.proofs.lemmas.cuts.TreesFill.{IsFromCuts-tiles}
use Rattle.rectangle_pack_sections.proofs.lemmas.cuts.PiecesAreLeaves.{chosen_from_cuts}

-- what holds of the pieces of each order holds of each of the six cuts
all_six : (P : List Cuboid → Type 0) (s : Cuboid) (m : Size) → ((order : List Axis) → P (pieces s m order)) → All P (cuts s m)
unfolding cuts
all_six P s m h = All-map P (pieces s m) orders (λ k d within. h (get_or orders k d))

-- and so the chosen cut
chosen_has : {R : List Cuboid → List Cuboid → Ordering → Type 0} (P : List Cuboid → Type 0) (s : Cuboid) (m : Size) (cut : List Cuboid)
    → ((order : List Axis) → P (pieces s m order)) → MayChoose R (cuts s m) cut → P cut
chosen_has P s m cut h choice = All-middle P (cuts s m) choice.before choice.after cut choice.listed (all_six P s m h)

-- the box and the pieces of the chosen cut are from cuts of the section, so they fill it
pub chosen_tiles : {R : List Cuboid → List Cuboid → Ordering → Type 0} (s : Cuboid) (m : Size) (cut : List Cuboid)
    → Holds s m → MayChoose R (cuts s m) cut → Tiles (placed s m ∷ cut) s
chosen_tiles s m cut h choice = IsFromCuts-tiles (placed s m ∷ cut) s (chosen_from_cuts s m h cut choice)

pub length-cuts : (s : Cuboid) (m : Size) → length (cuts s m) ≡ 6
unfolding cuts
length-cuts s m = refl

-- on an axis a piece starts at the start of the section or after it, and ends at its end or before it
stays : (first long size : ℕ) (same before : Bool) → size ≤ long
    → (first ≤ (if same then first + size else first))
    × ((if same then first + size else first) + (if same then long - size else if before then size else long) ≤ first + long)
stays first long size same before fits = grind (arith, nat_tests)

piece_part : (s : Cuboid) (m : Size) (order : List Axis) (a : Axis) → Holds s m → IsPartOf (piece s m order a) s
unfolding piece piece_start piece_extent start extent
piece_part s m order a h =
    let x = stays s.x s.whd.width m.width (is_same a X) (is_before order X a) h.wide in
    let y = stays s.y s.whd.height m.height (is_same a Y) (is_before order Y a) h.high in
    let z = stays s.z s.whd.depth m.depth (is_same a Z) (is_before order Z a) h.deep in
    search rules

order_part : (s : Cuboid) (m : Size) (order : List Axis) → Holds s m → All (λ b. IsPartOf b s) (pieces s m order)
unfolding pieces
order_part s m order h =
    All-from_recursion (λ b. IsPartOf b s) (pieces s m order) (piece_part s m order X h, (piece_part s m order Y h, (piece_part s m order Z h, tt)))

pub chosen_part : {R : List Cuboid → List Cuboid → Ordering → Type 0} (s : Cuboid) (m : Size) (cut : List Cuboid)
    → Holds s m → MayChoose R (cuts s m) cut → All (λ b. IsPartOf b s) cut
chosen_part s m cut h choice = chosen_has (All (λ b. IsPartOf b s)) s m cut (λ order. order_part s m order h) choice

-- so their volumes add up to the section's
pub chosen_volumes : {R : List Cuboid → List Cuboid → Ordering → Type 0} (s : Cuboid) (m : Size) (cut : List Cuboid)
    → Holds s m → MayChoose R (cuts s m) cut → HaveVolumeOf (placed s m ∷ cut) s
chosen_volumes s m cut h choice =
    let here : IsPartOf (placed s m) s = search rules in
    Tiles-volume (placed s m ∷ cut) s (All-cons (λ b. IsPartOf b s) (placed s m) cut here (chosen_part s m cut h choice)) (chosen_tiles s m cut h choice)

-- each cut of a section of 32 bits has three pieces, with sizes of 32 bits
cuts_three : (s : Cuboid) (m : Size) → FitsU32 s → Holds s m → All (λ cut. AreThreeSizes (sizes_of cut)) (cuts s m)
unfolding pieces
cuts_three s m fits h = all_six (λ cut. AreThreeSizes (sizes_of cut)) s m (λ order. record {
  three = refl;
  small = All-map IsU32 (λ b. b.whd) (pieces s m order) (All-weaker (λ b. IsPartOf b s) (λ b. IsU32 b.whd)
      (λ b part. record { wide = omega arith; high = omega arith; deep = omega arith }) (pieces s m order) (order_part s m order h));
})

pub next_three : {s : Cuboid} {m : Size} {all : List (List Cuboid)} (n : ℕ) → all ≡ cuts s m → FitsU32 s → Holds s m → n < 6
    → AreThreeSizes (sizes_of (get_or all n []))
next_three {s = s} {m = m} n is fits h below = rw is (cuts_three s m fits h n [] (omega (arith, length-cuts s m)))

-- and so the best among the first of them
pub best_three : {R : List Cuboid → List Cuboid → Ordering → Type 0} {s : Cuboid} {m : Size} {all : List (List Cuboid)} {best : List Cuboid} (n : ℕ)
    → all ≡ cuts s m → FitsU32 s → Holds s m → MayChoose R (take n all) best → AreThreeSizes (sizes_of best)
best_three {s = s} {m = m} {all = all} {best = best} n is fits h choice =
    let P : List Cuboid → Type 0 = λ cut. AreThreeSizes (sizes_of cut) in
    All-middle P (take n all) choice.before choice.after best choice.listed (All-take P n all (rw is (cuts_three s m fits h)))

pub length-chosen : {R : List Cuboid → List Cuboid → Ordering → Type 0} (s : Cuboid) (m : Size) (cut : List Cuboid)
    → MayChoose R (cuts s m) cut → length cut ≡ 3
unfolding pieces
length-chosen s m cut choice = chosen_has (λ p. length p ≡ 3) s m cut (λ order. refl) choice
