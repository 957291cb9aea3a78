-- Where two boxes of a list from cuts have cells, some plane cuts none of them.
use Rattle.rectangle_pack_sections.proofs.Std.{ℕ, ◌+◌, ◌-◌, ◌<◌, ◌≤◌, ◌≡◌, true, false, List, [], ◌∷◌, ◌++◌, refl, ◌∙◌, subst, arith, inl, inr, le_antisymm}
use Rattle.rectangle_pack_sections.proofs.Std.{Any, count_by, cases_lt, All-append, All-weaker, count_by-le-length}
use Rattle.rectangle_pack_sections.specs.declared.axis.Axis.{Axis}
use Rattle.rectangle_pack_sections.specs.Boxes.{Cuboid, IsPartOf, is_cell_of, start, end, has_cells}
use Rattle.rectangle_pack_sections.specs.Counting.{times_filled}
use Rattle.rectangle_pack_sections.specs.CutTrees.{lower, upper, CutTree, Leaf, Cut, IsTreeOf, leaves, times_in, HaveSameBoxes, IsFromCuts}
use Rattle.rectangle_pack_plans.specs.CutPlans.{IsUncut, IsOpenPlane}
use Rattle.rectangle_pack_sections.proofs.lemmas.cuts.Boxes.{has_cells-from}
use Rattle.rectangle_pack_sections.proofs.lemmas.cuts.Counting.{count-append, count_yes}
use Rattle.rectangle_pack_sections.proofs.lemmas.cuts.Axes.{cell_at, IsAt, is_cell_at, lies_at, runs_on, stays_in, cells-part}
use Rattle.rectangle_pack_sections.proofs.lemmas.cuts.Parts.{end-lower, start-upper, upper-start, lower-end, lower-cells, lower-empty, upper-empty}
use Rattle.rectangle_pack_sections.proofs.lemmas.cuts.Times.{times_in-nil, times_in-append, which_passes, All-times_in, All-from_times_in, Contains-times_in}
use Rattle.rectangle_pack_sections.proofs.lemmas.cuts.SameBoxes.{count-same}
use Rattle.rectangle_pack_sections.proofs.lemmas.cuts.Trees.{leaves-part, leaf-part, no_leaf}
use Rattle.rectangle_pack_sections.proofs.lemmas.cuts.TreesFill.{filled-leaves}

-- the place before the end of a box on an axis
abbrev pub last_at : Cuboid → Axis → ℕ
last_at b a = end a b - 1

pub IsAt-last : (b : Cuboid) → has_cells b ≡ true → IsAt b (last_at b)
IsAt-last b cells a = let r = runs_on b cells a in (omega arith, omega arith)

-- the same boxes leave the same planes open
pub IsOpenPlane-same : (a : Axis) (place : ℕ) (whole : Cuboid) (bs es : List Cuboid)
    → HaveSameBoxes bs es → IsOpenPlane a place whole bs → IsOpenPlane a place whole es
IsOpenPlane-same a place whole bs es same h = record {
  after_start = h.after_start;
  before_end = h.before_end;
  uncut = All-from_times_in (λ b. has_cells b ≡ true → IsUncut a place b) es
      (λ b some cells. All-times_in (λ b. has_cells b ≡ true → IsUncut a place b) b bs h.uncut (omega (arith, some, same b cells)) cells);
}

-- an open plane of a box, at the end of one of the boxes with cells
record HasOpenPlane (b : Cuboid) (bs : List Cuboid) : Type 0 where
  pub axis : Axis
  pub ender : Cuboid
  pub stands : 0 < times_in ender bs
  pub cells : has_cells ender ≡ true
  pub is_open : IsOpenPlane axis (end axis ender) b bs

HasOpenPlane-same : (b : Cuboid) (bs es : List Cuboid) → HaveSameBoxes bs es → HasOpenPlane b bs → HasOpenPlane b es
HasOpenPlane-same b bs es same r = record {
  axis = r.axis;
  ender = r.ender;
  stands = omega (arith, same r.ender r.cells, r.stands);
  cells = r.cells;
  is_open = IsOpenPlane-same r.axis (end r.axis r.ender) b bs es same r.is_open;
}

-- a box without cells has no leaf with cells to count
none_counted : (t : CutTree) (b : Cuboid) → IsTreeOf t b → has_cells b ≡ false → count_by has_cells (leaves t b) ≡ 0
none_counted t b is empty = count-same has_cells (λ b h. h) (leaves t b) [] (λ e cells. omega (arith, no_leaf t b is empty e cells, times_in-nil e))

module _ (a : Axis) (p : ℕ) (l u : CutTree) (b : Cuboid) (is_l : IsTreeOf l (lower a p b)) (is_u : IsTreeOf u (upper a p b)) where
  -- a cut strictly inside is open, and the leaf with the last cell of the lower part ends there
  plane_at_cut : start a b < p → p < end a b → has_cells b ≡ true → HasOpenPlane b (leaves l (lower a p b) ++ leaves u (upper a p b))
  unfolding times_filled
  plane_at_cut lo hi cells =
      let part = lower a p b in
      let low = leaves l part in
      let high = leaves u (upper a p b) in
      let c = cell_at (last_at part) in
      let c_is : is_cell_of c part ≡ true = is_cell_at (last_at part) part (IsAt-last part (lower-cells a p b lo cells)) in
      let one : count_by (is_cell_of c) low ≡ 1 = filled-leaves c l part is_l ∙ count_yes (is_cell_of c) part [] c_is in
      let r = which_passes (is_cell_of c) low (omega arith) in
      let ended : end a part ≡ p = end-lower a p b (omega arith) in
      let Uncut : Cuboid → Type 0 = λ e. has_cells e ≡ true → IsUncut a p e in
      let ends : end a r.0 ≡ p = omega (arith, lies_at (last_at part) r.0 r.1 a, stays_in r.0 part (leaf-part l part is_l r.0 r.2) a, ended) in
      record {
        axis = a;
        ender = r.0;
        stands = omega (arith, r.2, times_in-append r.0 low high);
        cells = has_cells-from c r.0 r.1;
        is_open = rw ends (record {
          after_start = lo;
          before_end = hi;
          uncut = All-append Uncut low high
              (All-weaker (λ e. IsPartOf e part) Uncut (λ e h k. inl (omega (arith, stays_in e part h a, ended))) low (leaves-part l part is_l))
              (All-weaker (λ e. IsPartOf e (upper a p b)) Uncut (λ e h k. inr (omega (arith, stays_in e (upper a p b) h a, start-upper a p b)))
              high (leaves-part u (upper a p b) is_u));
        });
      }

open_plane_of : (t : CutTree) (b : Cuboid) → IsTreeOf t b → 2 ≤ count_by has_cells (leaves t b) → HasOpenPlane b (leaves t b)
unfolding leaves
open_plane_of Leaf b is two = absurd (omega (arith, count_by-le-length has_cells (b ∷ [])))
open_plane_of (Cut a p l u) b is two =
    let low = leaves l (lower a p b) in
    let high = leaves u (upper a p b) in
    let both : (e : Cuboid) → times_in e (low ++ high) ≡ times_in e low + times_in e high = λ e. times_in-append e low high in
    let sum : count_by has_cells (low ++ high) ≡ count_by has_cells low + count_by has_cells high = count-append has_cells low high in
    elim (cases_lt (start a b) p) [
      | inr ge ↦
          let empty = lower-empty a p b is.0 ge in
          let same : upper a p b ≡ b = rw (le_antisymm ge is.0.from) (upper-start a b) in
          let r = open_plane_of u (upper a p b) is.2 (omega (arith, sum, none_counted l (lower a p b) is.1 empty)) in
          HasOpenPlane-same b high (low ++ high) (λ e k. omega (arith, both e, no_leaf l (lower a p b) is.1 empty e k))
          (subst (λ z. HasOpenPlane z high) same r)
      | inl lo ↦ elim (cases_lt p (end a b)) [
        | inr ge ↦
            let empty = upper-empty a p b is.0 ge in
            let same : lower a p b ≡ b = rw (le_antisymm is.0.to ge) (lower-end a b) in
            let r = open_plane_of l (lower a p b) is.1 (omega (arith, sum, none_counted u (upper a p b) is.2 empty)) in
            HasOpenPlane-same b low (low ++ high) (λ e k. omega (arith, both e, no_leaf u (upper a p b) is.2 empty e k))
            (subst (λ z. HasOpenPlane z low) same r)
        | inl hi ↦
            let r = which_passes has_cells (low ++ high) (omega arith) in
            plane_at_cut a p l u b is.1 is.2 lo hi (cells-part r.0 b (leaf-part (Cut a p l u) b is r.0 r.2) r.1)
      ]
    ]

-- where two boxes have cells there is an open plane, at the end of one with cells
pub cuts_have_open_planes : (boxes : List Cuboid) (whole : Cuboid) → IsFromCuts boxes whole → 2 ≤ count_by has_cells boxes
    → (a : Axis) × (place : ℕ) × IsOpenPlane a place whole boxes × Any (λ b. (has_cells b ≡ true) × (end a b ≡ place)) boxes
cuts_have_open_planes boxes whole from two =
    let all = leaves from.tree whole in
    let many : 2 ≤ count_by has_cells all = omega (arith, count-same has_cells (λ b h. h) all boxes from.same) in
    let r = HasOpenPlane-same whole all boxes from.same (open_plane_of from.tree whole from.is_tree many) in
    let there = Contains-times_in r.ender boxes r.stands in
    (r.axis, end r.axis r.ender, r.is_open, (there.0, r.ender, there.1, there.2, (r.cells, refl)))
