-- Who shares a whole face with a box is known by a corner.
use Rattle.rectangle_pack_sections.proofs.Std.{arith, ℕ, ◌≡◌, ◌≢◌, ◌<◌, ◌⊎◌, ◌&&◌, inl, inr, Bool, true, List, length, get_or, get_or_default, Decides, and_parts, ap, sym, subst, ◌∙◌}
use Rattle.rectangle_pack_sections.specs.declared.axis.Axis.{Axis}
use Rattle.rectangle_pack_sections.specs.declared.axis.Axis.TheVariants.{X, Y, Z}
use Rattle.rectangle_pack_sections.specs.Boxes.{Cuboid, extent, start, end, has_cells}
use Rattle.rectangle_pack_sections.proofs.lemmas.cuts.Axes.{cases_axis, end-is, runs_on, has_cells-by}
use Rattle.rectangle_pack_lists.specs.declared.corners.Corner.{Corner}
use Rattle.rectangle_pack_lists.specs.declared.corners.Corner.TheVariants.{Near, Far}
use Rattle.std.proofs.lemmas.Bool.{and_from}
use Rattle.rectangle_pack_lists.specs.Joining.{SharesFace, join, entry}
use Rattle.rectangle_pack_lists.specs.private.Corners.{number_of, corner_number, neighbour_number, IsFull, IsBeside}
use Rattle.rectangle_pack_lists.proofs.lemmas.joining.Joins.{runs-join}

number-same : {x y z u v w : ℕ} → x ≡ u → y ≡ v → z ≡ w → number_of x y z ≡ number_of u v w
number-same p q r = cc

-- a box with cells shares no whole face with itself
pub shares_not_itself : (b : Cuboid) → has_cells b ≡ true → ¬ SharesFace b b
shares_not_itself b cells face = let run = runs_on b cells face.axis in elim face.meet [ inl e ↦ omega arith | inr e ↦ omega arith ]

-- the join of two boxes with cells has cells
pub join-has_cells : (b e : Cuboid) → has_cells b ≡ true → has_cells e ≡ true → has_cells (join b e) ≡ true
join-has_cells b e cells others = has_cells-by (join b e) (λ a. let r = runs-join a b e in let s = runs_on b cells a in omega arith)

-- where the first ends at the start of the other, their join starts as the first does and ends as the other does
join-met : (b e : Cuboid) (a : Axis) → end a b ≡ start a e
    → ((o : Axis) → o ≢ a → (start o b ≡ start o e) × (extent o b.whd ≡ extent o e.whd))
    → (o : Axis) → (start o (join b e) ≡ start o b) × (end o (join b e) ≡ end o e)
join-met b e a meet alike o =
    let r = runs-join o b e in let at_b = end-is o b in let at_e = end-is o e in
    elim (cases_axis o a) [
      | inl same ↦ let met : end o b ≡ start o e = rw same meet in (omega arith, omega arith)
      | inr other ↦ let k = alike o other in let p = k.0 in let q = k.1 in (omega arith, omega arith)
    ]

join-corner : (corner : Corner) (b e j : Cuboid) → ((o : Axis) → (start o j ≡ start o b) × (end o j ≡ end o e))
    → (corner_number corner j ≡ corner_number corner b) ⊎ (corner_number corner j ≡ corner_number corner e)
join-corner Near b e j runs = inl (number-same (runs X).0 (runs Y).0 (runs Z).0)
join-corner Far b e j runs = inr (number-same (runs X).1 (runs Y).1 (runs Z).1)

either_way : {P Q : Type 0} → P ⊎ Q → Q ⊎ P
either_way (inl p) = inr p
either_way (inr q) = inl q

-- each corner of the join of two that share a whole face is that corner of one of them
pub joined-corner : (corner : Corner) (b e : Cuboid) → SharesFace b e
    → (corner_number corner (join b e) ≡ corner_number corner b) ⊎ (corner_number corner (join b e) ≡ corner_number corner e)
joined-corner corner b e face = elim face.meet [
  | inl meet ↦ join-corner corner b e (join b e) (join-met b e face.axis meet face.alike)
  | inr meet ↦
      let back = join-met e b face.axis meet (λ o n. let k = face.alike o n in (sym k.0, sym k.1)) in
      let same : (o : Axis) → (start o (join b e) ≡ start o e) × (end o (join b e) ≡ end o b) =
      λ o. let k = back o in let r = runs-join o b e in let s = runs-join o e b in (omega arith, omega arith) in
      either_way (join-corner corner e b (join b e) same)
]

-- who shares a whole face with a box is at one of its faces
at_end : (a : Axis) (b e : Cuboid) → end a b ≡ start a e → ((o : Axis) → o ≢ a → (start o b ≡ start o e) × (extent o b.whd ≡ extent o e.whd))
    → corner_number Near e ≡ neighbour_number Near a b
at_end X b e meet alike = number-same (sym meet) (sym (alike Y (λ e. cc)).0) (sym (alike Z (λ e. cc)).0)
at_end Y b e meet alike = number-same (sym (alike X (λ e. cc)).0) (sym meet) (sym (alike Z (λ e. cc)).0)
at_end Z b e meet alike = number-same (sym (alike X (λ e. cc)).0) (sym (alike Y (λ e. cc)).0) (sym meet)

ends-alike : (o : Axis) (b e : Cuboid) → (start o b ≡ start o e) × (extent o b.whd ≡ extent o e.whd) → end o e ≡ end o b
ends-alike o b e alike = let p = alike.0 in let q = alike.1 in omega (arith, end-is o b, end-is o e)

at_start : (a : Axis) (b e : Cuboid) → end a e ≡ start a b → ((o : Axis) → o ≢ a → (start o b ≡ start o e) × (extent o b.whd ≡ extent o e.whd))
    → corner_number Far e ≡ neighbour_number Far a b
at_start X b e meet alike = number-same meet (ends-alike Y b e (alike Y (λ e. cc))) (ends-alike Z b e (alike Z (λ e. cc)))
at_start Y b e meet alike = number-same (ends-alike X b e (alike X (λ e. cc))) meet (ends-alike Z b e (alike Z (λ e. cc)))
at_start Z b e meet alike = number-same (ends-alike X b e (alike X (λ e. cc))) (ends-alike Y b e (alike Y (λ e. cc))) meet

-- on the axis of the face it has the near corner or the far one
abbrev pub HasCornerAt : Axis → Cuboid → Cuboid → Type 0
HasCornerAt a b e = (corner_number Near e ≡ neighbour_number Near a b) ⊎ (corner_number Far e ≡ neighbour_number Far a b)

pub face-corner : (b e : Cuboid) (face : SharesFace b e) → HasCornerAt face.axis b e
face-corner b e face = elim face.meet [
  | inl meet ↦ inl (at_end face.axis b e meet face.alike)
  | inr meet ↦ inr (at_start face.axis b e meet face.alike)
]

pub face-on_some : (b e : Cuboid) → SharesFace b e → (HasCornerAt X b e ⊎ HasCornerAt Y b e) ⊎ HasCornerAt Z b e
face-on_some b e face = by face.axis (face-corner b e face)
  where
    by : (a : Axis) → HasCornerAt a b e → (HasCornerAt X b e ⊎ HasCornerAt Y b e) ⊎ HasCornerAt Z b e
    by X at = inl (inl at)
    by Y at = inl (inr at)
    by Z at = inr at

-- the tests of cells and of a face decide whether a slot is beside another
pub beside-decides : (slots : List Cuboid) (slot other : ℕ) (cells faces : Bool) (b s : Cuboid) → IsFull slots slot → other < length slots
    → b ≡ get_or slots slot b → s ≡ get_or slots other s → cells ≡ has_cells s → Decides faces (SharesFace b s) → Decides (cells && faces) (IsBeside slots slot other)
beside-decides slots slot other cells faces b s at within is_b is_s are shares =
    let first : b ≡ entry slots slot = is_b ∙ get_or_default slots slot b _ at.within in
    let second : s ≡ entry slots other = is_s ∙ get_or_default slots other s _ within in
    let to : (cells && faces) ≡ true → IsBeside slots slot other = λ both.
    let (have, share) = and_parts cells faces both in
    let face : SharesFace (entry slots slot) (entry slots other) = rw (← first, ← second) (shares.0 share) in
    let has : has_cells (entry slots other) ≡ true = ap has_cells (sym second) ∙ sym are ∙ have in
    record {
      full = record { within = within; cells = has };
      differs = λ same. shares_not_itself (entry slots slot) at.cells (subst (λ k. SharesFace (entry slots slot) (entry slots k)) same face);
      shares = face;
    } in
    let from : IsBeside slots slot other → (cells && faces) ≡ true = λ beside.
    and_from cells faces (are ∙ ap has_cells second ∙ beside.full.cells) (shares.1 (rw (first, second) beside.shares)) in
    (to, from)
