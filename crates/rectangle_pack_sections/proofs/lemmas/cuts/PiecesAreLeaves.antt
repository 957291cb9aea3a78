-- The placed box and the pieces of a cut are from cuts of the section.
use Rattle.rectangle_pack_sections.proofs.Std.{ℕ, ◌+◌, ◌-◌, ◌≡◌, ◌≢◌, ◌≤◌, List, [], ◌∷◌, ap, arith, All, Ordering, All-from_recursion, All-map}
use Rattle.rectangle_pack_sections.specs.declared.axis.Axis.{Axis}
use Rattle.rectangle_pack_sections.specs.declared.axis.Axis.TheVariants.{X, Y, Z}
use Rattle.rectangle_pack_sections.specs.Boxes.{Size, Cuboid, Holds, extent, start}
use Rattle.rectangle_pack_sections.specs.Cuts.{placed, piece_start, piece_extent, piece, pieces, orders, cuts}
use Rattle.rectangle_pack_sections.specs.Choice.{MayChoose}
use Rattle.rectangle_pack_sections.specs.CutTrees.{lower, upper, IsPlaceOf, times_in, IsFromCuts}
use Rattle.rectangle_pack_sections.proofs.lemmas.cuts.Axes.{end-is}
use Rattle.rectangle_pack_sections.proofs.lemmas.util.Lists.{All-middle}
use Rattle.rectangle_pack_sections.proofs.lemmas.cuts.Parts.{IsPlaceOf-lower_other}
use Rattle.rectangle_pack_sections.proofs.lemmas.cuts.Times.{times_in-cons}
use Rattle.rectangle_pack_sections.proofs.lemmas.cuts.SameBoxes.{IsFromCuts-same}
use Rattle.rectangle_pack_sections.proofs.lemmas.cuts.Trees.{IsFromCuts-leaf, IsFromCuts-cut}

below-size : (x m : ℕ) → (x + m) - x ≡ m
below-size x m = omega arith

above-size : (x n m : ℕ) → (x + n) - (x + m) ≡ n - m
above-size x n m = omega arith

holds_on : (s : Cuboid) (m : Size) → Holds s m → (a : Axis) → extent a m ≤ extent a s.whd
unfolding extent
holds_on s m h X = h.wide
holds_on s m h Y = h.high
holds_on s m h Z = h.deep

-- how often a box is one of four
abbrev times_of : Cuboid → Cuboid → Cuboid → Cuboid → Cuboid → ℕ
times_of x b c d e = times_in x (b ∷ []) + times_in x (c ∷ []) + times_in x (d ∷ []) + times_in x (e ∷ [])

times_in-four : (x b c d e : Cuboid) → times_in x (b ∷ c ∷ d ∷ e ∷ []) ≡ times_of x b c d e
times_in-four x b c d e = omega (arith, times_in-cons x b (c ∷ d ∷ e ∷ []), times_in-cons x c (d ∷ e ∷ []), times_in-cons x d (e ∷ []))

module _ (s : Cuboid) (m : Size) (h : Holds s m) where
  -- where the placed box ends
  abbrev cut_place : Axis → ℕ
  cut_place a = start a s + extent a m

  is_place : (a : Axis) → IsPlaceOf a (cut_place a) s
  is_place a = record { from = omega arith; to = omega (arith, end-is a s, holds_on s m h a) }

  -- cuts there on the three axes in this order leave the pieces and the placed box
  module _ (a e f : Axis) (ae : a ≢ e) (af : a ≢ f) (ef : e ≢ f) where
    abbrev order : List Axis
    order = a ∷ e ∷ f ∷ []

    -- what the first two cuts leave of the section below them
    abbrev once : Cuboid
    once = lower a (cut_place a) s

    abbrev twice : Cuboid
    twice = lower e (cut_place e) once

    cut_in_order :
        lower f (cut_place f) twice ∷ upper f (cut_place f) twice ∷ upper e (cut_place e) once ∷ upper a (cut_place a) s ∷ []
        ≡ placed s m ∷ piece s m order f ∷ piece s m order e ∷ piece s m order a ∷ []
        → ((x : Cuboid) → times_of x (placed s m) (piece s m order f) (piece s m order e) (piece s m order a)
        ≡ times_of x (placed s m) (piece s m order X) (piece s m order Y) (piece s m order Z))
        → IsFromCuts (placed s m ∷ pieces s m order) s
    unfolding pieces
    cut_in_order same all =
        let on_e : IsPlaceOf e (cut_place e) once = IsPlaceOf-lower_other a e (cut_place a) (cut_place e) s ae (is_place e) in
        let over : IsPlaceOf f (cut_place f) once = IsPlaceOf-lower_other a f (cut_place a) (cut_place f) s af (is_place f) in
        let on_f : IsPlaceOf f (cut_place f) twice = IsPlaceOf-lower_other e f (cut_place e) (cut_place f) once ef over in
        let third = IsFromCuts-cut f (cut_place f) twice (_ ∷ []) (_ ∷ []) on_f (IsFromCuts-leaf _) (IsFromCuts-leaf _) in
        let second = IsFromCuts-cut e (cut_place e) once (_ ∷ _ ∷ []) (_ ∷ []) on_e third (IsFromCuts-leaf _) in
        let first = IsFromCuts-cut a (cut_place a) s (_ ∷ _ ∷ _ ∷ []) (_ ∷ []) (is_place a) second (IsFromCuts-leaf _) in
        IsFromCuts-same _ _ (λ x cells. omega (
          arith,
          ap (times_in x) same,
          times_in-four x (placed s m) (piece s m order f) (piece s m order e) (piece s m order a),
          all x,
          times_in-four x (placed s m) (piece s m order X) (piece s m order Y) (piece s m order Z),
        )) first

  pub order_from_cuts : All (λ order. IsFromCuts (placed s m ∷ pieces s m order) s) orders
  unfolding start extent lower upper piece piece_start piece_extent
  order_from_cuts =
      let xyz = cut_in_order X Y Z (λ e. cc) (λ e. cc) (λ e. cc) (simp (below-size, above-size)) (λ x. omega arith) in
      let yxz = cut_in_order Y X Z (λ e. cc) (λ e. cc) (λ e. cc) (simp (below-size, above-size)) (λ x. omega arith) in
      let xzy = cut_in_order X Z Y (λ e. cc) (λ e. cc) (λ e. cc) (simp (below-size, above-size)) (λ x. omega arith) in
      let zxy = cut_in_order Z X Y (λ e. cc) (λ e. cc) (λ e. cc) (simp (below-size, above-size)) (λ x. omega arith) in
      let yzx = cut_in_order Y Z X (λ e. cc) (λ e. cc) (λ e. cc) (simp (below-size, above-size)) (λ x. omega arith) in
      let zyx = cut_in_order Z Y X (λ e. cc) (λ e. cc) (λ e. cc) (simp (below-size, above-size)) (λ x. omega arith) in
      All-from_recursion (λ order. IsFromCuts (placed s m ∷ pieces s m order) s) orders (xyz, (yxz, (xzy, (zxy, (yzx, (zyx, tt))))))

  -- and so the pieces of the chosen cut
  pub chosen_from_cuts : {R : List Cuboid → List Cuboid → Ordering → Type 0} (cut : List Cuboid)
      → MayChoose R (cuts s m) cut → IsFromCuts (placed s m ∷ cut) s
  unfolding cuts
  chosen_from_cuts cut choice =
      let P : List Cuboid → Type 0 = λ cut. IsFromCuts (placed s m ∷ cut) s in
      All-middle P (cuts s m) choice.before choice.after cut choice.listed (All-map P (pieces s m) orders order_from_cuts)
