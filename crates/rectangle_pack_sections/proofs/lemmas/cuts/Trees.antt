-- Trees of cuts, and the lists of boxes that are from them.
use Rattle.rectangle_pack_sections.proofs.Std.{ℕ, ◌+◌, ◌<◌, ◌≡◌, true, false, List, [], ◌∷◌, ◌++◌, refl, ap, ◌∙◌, arith, inl, inr, All, cases_lt, cases_Bool}
use Rattle.rectangle_pack_sections.proofs.Std.{both_ways, All-nil, All-cons, All-append, All-weaker}
use Rattle.rectangle_pack_sections.specs.declared.axis.Axis.{Axis}
use Rattle.rectangle_pack_sections.specs.Boxes.{Cuboid, IsPartOf, has_cells}
use Rattle.rectangle_pack_sections.specs.CutTrees.{lower, upper, IsPlaceOf, CutTree, Leaf, Cut, IsTreeOf, leaves, times_in, IsFromCuts}
use Rattle.rectangle_pack_sections.proofs.lemmas.cuts.Axes.{IsPartOf-refl, IsPartOf-trans, cells-part}
use Rattle.rectangle_pack_sections.proofs.lemmas.cuts.Parts.{lower-part, upper-part}
use Rattle.rectangle_pack_sections.proofs.lemmas.cuts.SameBoxes.{IsFromCuts-same}
use Rattle.rectangle_pack_sections.proofs.lemmas.cuts.Times.{cases_box, times_in-nil, times_in-cons, times_in-other, times_in-append, times_in-permutation}
use Rattle.rectangle_pack_sections.proofs.lemmas.cuts.Times.{All-times_in, in_front}

pub IsFromCuts-tree : (t : CutTree) (b : Cuboid) → IsTreeOf t b → IsFromCuts (leaves t b) b
IsFromCuts-tree t b is = record { tree = t; is_tree = is; same = λ e cells. refl }

pub IsFromCuts-leaf : (b : Cuboid) → IsFromCuts (b ∷ []) b
unfolding leaves
IsFromCuts-leaf b = record { tree = Leaf; is_tree = tt; same = λ e cells. refl }

-- a box without cells does not count, and no boxes are from cuts of it
pub times_in-empty : (e b : Cuboid) → has_cells e ≡ true → has_cells b ≡ false → times_in e (b ∷ []) ≡ 0
times_in-empty e b cells empty = times_in-other e b [] (λ p. both_ways _ empty (rw (← p) cells)) ∙ times_in-nil e

pub IsFromCuts-none : (b : Cuboid) → has_cells b ≡ false → IsFromCuts [] b
IsFromCuts-none b empty = IsFromCuts-same (b ∷ []) [] (λ e cells. omega (arith, times_in-empty e b cells empty, times_in-nil e)) (IsFromCuts-leaf b)

pub IsFromCuts-cut : (a : Axis) (p : ℕ) (b : Cuboid) (bs es : List Cuboid) → IsPlaceOf a p b
    → IsFromCuts bs (lower a p b) → IsFromCuts es (upper a p b) → IsFromCuts (bs ++ es) b
unfolding leaves
IsFromCuts-cut a p b bs es place l u = record {
  tree = Cut a p l.tree u.tree;
  is_tree = (place, l.is_tree, u.is_tree);
  same = λ e cells. omega (
    arith,
    times_in-append e (leaves l.tree (lower a p b)) (leaves u.tree (upper a p b)),
    l.same e cells,
    u.same e cells,
    times_in-append e bs es,
  );
}

All-part : (d b : Cuboid) → IsPartOf d b → (es : List Cuboid) → All (λ e. IsPartOf e d) es → All (λ e. IsPartOf e b) es
All-part d b part es = All-weaker (λ e. IsPartOf e d) (λ e. IsPartOf e b) (λ e h. IsPartOf-trans e d b h part) es

pub leaves-part : (t : CutTree) (b : Cuboid) → IsTreeOf t b → All (λ e. IsPartOf e b) (leaves t b)
unfolding leaves
leaves-part Leaf b is = All-cons (λ e. IsPartOf e b) b [] (IsPartOf-refl b) (All-nil (λ e. IsPartOf e b))
leaves-part (Cut a p l u) b is = All-append (λ e. IsPartOf e b) (leaves l (lower a p b)) (leaves u (upper a p b))
    (All-part (lower a p b) b (lower-part a p b is.0) (leaves l (lower a p b)) (leaves-part l (lower a p b) is.1))
    (All-part (upper a p b) b (upper-part a p b is.0) (leaves u (upper a p b)) (leaves-part u (upper a p b) is.2))

pub leaf-part : (t : CutTree) (b : Cuboid) → IsTreeOf t b → (e : Cuboid) → 0 < times_in e (leaves t b) → IsPartOf e b
leaf-part t b is e some = All-times_in (λ e. IsPartOf e b) e (leaves t b) (leaves-part t b is) some

pub IsFromCuts-part : {boxes : List Cuboid} {b : Cuboid} → IsFromCuts boxes b → (e : Cuboid) → has_cells e ≡ true → 0 < times_in e boxes → IsPartOf e b
IsFromCuts-part {b = b} from e cells some = leaf-part from.tree b from.is_tree e (omega (arith, from.same e cells))

-- a box without cells has no leaf with cells
pub no_leaf : (t : CutTree) (b : Cuboid) → IsTreeOf t b → has_cells b ≡ false → (e : Cuboid) → has_cells e ≡ true → times_in e (leaves t b) ≡ 0
no_leaf t b is empty e cells = elim (cases_lt 0 (times_in e (leaves t b))) [
  | inl lt ↦ absurd (both_ways _ empty (cells-part e b (leaf-part t b is e lt) cells))
  | inr ge ↦ omega arith
]

-- a list in which one box is replaced by others
replaced : (s : Cuboid) (parts old : List Cuboid) → 0 < times_in s old
    → (new : List Cuboid) × ((e : Cuboid) → times_in e new + times_in e (s ∷ []) ≡ times_in e old + times_in e parts)
replaced s parts old some =
    let r = in_front s old some in
    (parts ++ r.0, λ e. omega (arith, times_in-append e parts r.0, times_in-permutation e old (s ∷ r.0) r.1, times_in-cons e s r.0))

-- a leaf may be replaced by boxes that are from cuts of it
grafted : (t : CutTree) (b : Cuboid) → IsTreeOf t b → (s : Cuboid) (parts new : List Cuboid) → IsFromCuts parts s → 0 < times_in s (leaves t b)
    → ((e : Cuboid) → has_cells e ≡ true → times_in e new + times_in e (s ∷ []) ≡ times_in e (leaves t b) + times_in e parts) → IsFromCuts new b
unfolding leaves
grafted Leaf b is s parts new made some same = elim (cases_box s b) [
  | inl p ↦ IsFromCuts-same parts new (λ e k. omega (arith, same e k, ap (λ d. times_in e (d ∷ [])) p)) (rw (← p) made)
  | inr n ↦ absurd (omega (arith, times_in-other s b [] n, times_in-nil s))
]
grafted (Cut a p l u) b is s parts new made some same =
    let low = leaves l (lower a p b) in
    let high = leaves u (upper a p b) in
    let both = λ (e : Cuboid). times_in-append e low high in
    elim (cases_lt 0 (times_in s low)) [
      | inl lt ↦
          let r = replaced s parts low lt in
          let here = grafted l (lower a p b) is.1 s parts r.0 made lt (λ e k. r.1 e) in
          IsFromCuts-same (r.0 ++ high) new (λ e k. omega (arith, same e k, both e, r.1 e, times_in-append e r.0 high))
          (IsFromCuts-cut a p b r.0 high is.0 here (IsFromCuts-tree u (upper a p b) is.2))
      | inr ge ↦
          let gt : 0 < times_in s high = omega (arith, both s) in
          let r = replaced s parts high gt in
          let here = grafted u (upper a p b) is.2 s parts r.0 made gt (λ e k. r.1 e) in
          IsFromCuts-same (low ++ r.0) new (λ e k. omega (arith, same e k, both e, r.1 e, times_in-append e low r.0))
          (IsFromCuts-cut a p b low r.0 is.0 (IsFromCuts-tree l (lower a p b) is.1) here)
    ]

-- so may a box of a list that is from cuts
pub box_makes_way : {whole s : Cuboid} (old parts new : List Cuboid) → IsFromCuts old whole → IsFromCuts parts s → (has_cells s ≡ true → 0 < times_in s old)
    → ((e : Cuboid) → has_cells e ≡ true → times_in e new + times_in e (s ∷ []) ≡ times_in e old + times_in e parts) → IsFromCuts new whole
box_makes_way {whole} {s} old parts new from made stands same = elim (cases_Bool (has_cells s)) [
  | inl full ↦ grafted from.tree whole from.is_tree s parts new made (omega (arith, from.same s full, stands full))
      (λ e k. omega (arith, same e k, from.same e k))
  | inr empty ↦
      let none = no_leaf made.tree s made.is_tree empty in
      IsFromCuts-same old new (λ e cells. omega (arith, same e cells, made.same e cells, none e cells, times_in-empty e s cells empty)) from
]
