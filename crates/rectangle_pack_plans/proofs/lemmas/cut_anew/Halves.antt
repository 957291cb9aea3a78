-- Boxes that are all cut at a plane: what this leaves of them on either side is from cuts of the two parts.
use Rattle.rectangle_pack_sections.proofs.Std.{ℕ, ◌+◌, ◌≤◌, ◌≡◌, min, max, Bool, true, false, List, [], ◌∷◌, ◌++◌, map, refl, ap, sym, ◌∙◌, subst, arith, inl}
use Rattle.rectangle_pack_sections.proofs.Std.{inr}
use Rattle.rectangle_pack_sections.proofs.Std.{All, nat_le, count_by, cases_lt, cases_Bool, both_ways, le-leb, leb-true, map-append, All-map, All-weaker}
use Rattle.rectangle_pack_sections.proofs.Std.{All-head, All-tail, All-append}
use Rattle.rectangle_pack_sections.specs.declared.axis.Axis.{Axis}
use Rattle.rectangle_pack_sections.specs.Boxes.{Cuboid, start, end, has_cells}
use Rattle.rectangle_pack_sections.specs.CutTrees.{lower, upper, IsPlaceOf, CutTree, Leaf, Cut, IsTreeOf, leaves, is_same_box, times_in, HaveSameBoxes}
use Rattle.rectangle_pack_sections.specs.CutTrees.{IsFromCuts}
use Rattle.rectangle_pack_plans.specs.CutPlans.{IsUncut, lower_boxes, upper_boxes}
use Rattle.rectangle_pack_plans.specs.private.CuttingAnew.{CanBeCut}
use Rattle.rectangle_pack_sections.proofs.lemmas.cuts.Axes.{end-is, runs_on, cells-part}
use Rattle.rectangle_pack_sections.proofs.lemmas.cuts.Counting.{count_yes, count_no}
use Rattle.rectangle_pack_sections.proofs.lemmas.cuts.Parts.{end-lower, start-upper, lower-end, upper-start, lower-part, upper-part, lower-empty, upper-empty}
use Rattle.rectangle_pack_sections.proofs.lemmas.cuts.Times.{cases_box, times_in-nil, times_in-cons, times_in-same, times_in-other, times_in-append}
use Rattle.rectangle_pack_sections.proofs.lemmas.cuts.Times.{times_in-kept, times_in-dropped, All-times_in}
use Rattle.rectangle_pack_sections.proofs.lemmas.cuts.SameBoxes.{IsFromCuts-same, count-same}
use Rattle.rectangle_pack_sections.proofs.lemmas.cuts.Trees.{IsFromCuts-leaf, IsFromCuts-cut, box_makes_way}
use Rattle.rectangle_pack_plans.proofs.lemmas.cut_plan.Split.{open_planes_split_cuts}

-- a leaf makes way for boxes that are from cuts of it
pub IsFromCuts-for : {whole s : Cuboid} (xs ys parts : List Cuboid) → IsFromCuts (xs ++ s ∷ ys) whole → IsFromCuts parts s → IsFromCuts (xs ++ (parts ++ ys)) whole
IsFromCuts-for {whole} {s} xs ys parts from made =
    box_makes_way (xs ++ s ∷ ys) parts (xs ++ (parts ++ ys)) from made
    (λ cells. omega (arith, times_in-append s xs (s ∷ ys), times_in-same s ys))
    (λ e cells. omega (
      arith,
      times_in-append e xs (s ∷ ys),
      times_in-cons e s ys,
      times_in-append e xs (parts ++ ys),
      times_in-append e parts ys,
    ))

-- how often a box stands among the images of others
count-map : (q : Cuboid → Bool) (f : Cuboid → Cuboid) (bs : List Cuboid) → count_by q (map f bs) ≡ count_by (λ b. q (f b)) bs
count-map q f [] = refl
count-map q f (b ∷ bs) = elim (cases_Bool (q (f b))) [
  | inl y ↦ count_yes q (f b) (map f bs) y ∙ ap (λ n. 1 + n) (count-map q f bs) ∙ sym (count_yes (λ b. q (f b)) b bs y)
  | inr n ↦ count_no q (f b) (map f bs) n ∙ count-map q f bs ∙ sym (count_no (λ b. q (f b)) b bs n)
]

-- images of the same boxes are the same, where what has no cells has none
HaveSameBoxes-map : (f : Cuboid → Cuboid) → ((b : Cuboid) → has_cells (f b) ≡ true → has_cells b ≡ true) → (bs es : List Cuboid)
    → HaveSameBoxes bs es → HaveSameBoxes (map f bs) (map f es)
unfolding times_in
HaveSameBoxes-map f keeps bs es same = λ e cells.
    let is_one : (d : Cuboid) → is_same_box e d ≡ true → e ≡ d = λ d h. elim (cases_box e d) [
      | inl p ↦ p
      | inr n ↦ absurd (omega (arith, times_in-other e d [] n, times_in-nil e, count_yes (is_same_box e) d [] h))
    ] in
    let passes : (b : Cuboid) → is_same_box e (f b) ≡ true → has_cells b ≡ true = λ b h. keeps b (subst (λ d. has_cells d ≡ true) (is_one (f b) h) cells) in
    count-map (is_same_box e) f bs ∙ count-same (λ b. is_same_box e (f b)) passes bs es same ∙ sym (count-map (is_same_box e) f es)

map_same : (f : Cuboid → Cuboid) (bs : List Cuboid) → All (λ b. f b ≡ b) bs → map f bs ≡ bs
map_same f [] h = refl
map_same f (b ∷ bs) h = ap (λ d. d ∷ map f bs) (All-head (λ b. f b ≡ b) b bs h) ∙ ap (λ l. b ∷ l) (map_same f bs (All-tail (λ b. f b ≡ b) b bs h))

-- none of these boxes has cells
none_stands : (bs : List Cuboid) → All (λ b. has_cells b ≡ false) bs → (e : Cuboid) → has_cells e ≡ true → times_in e bs ≡ 0
none_stands bs empty e cells = elim (cases_lt 0 (times_in e bs)) [
  | inl some ↦ absurd (both_ways _ (All-times_in (λ b. has_cells b ≡ false) e bs empty some) cells)
  | inr none ↦ omega arith
]

module _ (a : Axis) (p : ℕ) where
  -- the place of a box that is next to the plane
  abbrev near : Cuboid → ℕ
  near b = min (max p (start a b)) (end a b)

  -- what is below the plane of a box, and what is above
  abbrev low : Cuboid → Cuboid
  low b = lower a (near b) b

  abbrev up : Cuboid → Cuboid
  up b = upper a (near b) b

  near_place : (b : Cuboid) → IsPlaceOf a (near b) b
  near_place b = record { from = omega (arith, end-is a b); to = omega arith }

  low_cells : (b : Cuboid) → has_cells (low b) ≡ true → has_cells b ≡ true
  low_cells b h = cells-part (low b) b (lower-part a (near b) b (near_place b)) h

  up_cells : (b : Cuboid) → has_cells (up b) ≡ true → has_cells b ≡ true
  up_cells b h = cells-part (up b) b (upper-part a (near b) b (near_place b)) h

  low_ends : (b : Cuboid) → has_cells (low b) ≡ true → end a (low b) ≤ p
  low_ends b h = elim (cases_lt p (start a b)) [
    | inl before ↦ absurd (both_ways _ (lower-empty a (near b) b (near_place b) (omega (arith, end-is a b))) h)
    | inr beyond ↦ omega (arith, end-lower a (near b) b (near_place b).from)
  ]

  up_starts : (b : Cuboid) → has_cells (up b) ≡ true → p ≤ start a (up b)
  up_starts b h = elim (cases_lt (end a b) p) [
    | inl before ↦ absurd (both_ways _ (upper-empty a (near b) b (near_place b) (omega (arith, end-is a b))) h)
    | inr beyond ↦ omega (arith, start-upper a (near b) b, end-is a b)
  ]

  -- a box on one side is kept there whole, and is not on the other
  low_is : (b : Cuboid) → end a b ≤ p → low b ≡ b
  low_is b h = let at : near b ≡ end a b = omega (arith, end-is a b) in ap (λ n. lower a n b) at ∙ lower-end a b

  up_is : (b : Cuboid) → p ≤ start a b → up b ≡ b
  up_is b h = let at : near b ≡ start a b = omega (arith, end-is a b) in ap (λ n. upper a n b) at ∙ upper-start a b

  low_none : (b : Cuboid) → p ≤ start a b → has_cells (low b) ≡ false
  low_none b h = lower-empty a (near b) b (near_place b) (omega arith)

  up_none : (b : Cuboid) → end a b ≤ p → has_cells (up b) ≡ false
  up_none b h = upper-empty a (near b) b (near_place b) (omega arith)

  -- the leaves of a tree, all cut
  leaves_cut : (t : CutTree) (b : Cuboid) → IsTreeOf t b → IsFromCuts (map low (leaves t b) ++ map up (leaves t b)) b
  unfolding leaves
  leaves_cut Leaf b is = IsFromCuts-cut a (near b) b (low b ∷ []) (up b ∷ []) (near_place b) (IsFromCuts-leaf (low b)) (IsFromCuts-leaf (up b))
  leaves_cut (Cut e q l u) b is =
      let L = leaves l (lower e q b) in
      let U = leaves u (upper e q b) in
      IsFromCuts-same ((map low L ++ map up L) ++ (map low U ++ map up U)) (map low (L ++ U) ++ map up (L ++ U))
      (λ x cells. rw (map-append low L U, map-append up L U) (omega (
        arith,
        times_in-append x (map low L ++ map up L) (map low U ++ map up U),
        times_in-append x (map low L) (map up L),
        times_in-append x (map low U) (map up U),
        times_in-append x (map low L ++ map low U) (map up L ++ map up U),
        times_in-append x (map low L) (map low U),
        times_in-append x (map up L) (map up U),
      )))
      (IsFromCuts-cut e q b (map low L ++ map up L) (map low U ++ map up U) is.0 (leaves_cut l (lower e q b) is.1) (leaves_cut u (upper e q b) is.2))

  boxes_cut : (bs : List Cuboid) (b : Cuboid) → IsFromCuts bs b → IsFromCuts (map low bs ++ map up bs) b
  boxes_cut bs b from =
      let L = leaves from.tree b in
      IsFromCuts-same (map low L ++ map up L) (map low bs ++ map up bs)
      (λ e cells. omega (
        arith,
        times_in-append e (map low L) (map up L),
        times_in-append e (map low bs) (map up bs),
        HaveSameBoxes-map low low_cells L bs from.same e cells,
        HaveSameBoxes-map up up_cells L bs from.same e cells,
      )) (leaves_cut from.tree b from.is_tree)

  -- of boxes on the two sides, those on one side
  module _ (xs ys : List Cuboid) (below : All (λ b. has_cells b ≡ true → end a b ≤ p) xs) (above : All (λ b. has_cells b ≡ true → p ≤ start a b) ys) where
    lower_same : HaveSameBoxes (lower_boxes a p (xs ++ ys)) xs
    lower_same = λ e cells. elim (cases_Bool (nat_le (end a e) p)) [
      | inl y ↦
          let none : times_in e ys ≡ 0 = elim (cases_lt 0 (times_in e ys)) [
            | inl some ↦ absurd (omega (arith, leb-true (end a e) p y, All-times_in (λ b. has_cells b ≡ true → p ≤ start a b) e ys above some cells, runs_on e cells a))
            | inr none ↦ omega arith
          ] in
          omega (arith, none, times_in-append e xs ys, times_in-kept (λ b. nat_le (end a b) p) e (xs ++ ys) y)
      | inr n ↦
          let none : times_in e xs ≡ 0 = elim (cases_lt 0 (times_in e xs)) [
            | inl some ↦ absurd (both_ways _ n (le-leb _ _ (All-times_in (λ b. has_cells b ≡ true → end a b ≤ p) e xs below some cells)))
            | inr none ↦ omega arith
          ] in
          omega (arith, none, times_in-dropped (λ b. nat_le (end a b) p) e (xs ++ ys) n)
    ]

    upper_same : HaveSameBoxes (upper_boxes a p (xs ++ ys)) ys
    upper_same = λ e cells. elim (cases_Bool (nat_le p (start a e))) [
      | inl y ↦
          let none : times_in e xs ≡ 0 = elim (cases_lt 0 (times_in e xs)) [
            | inl some ↦ absurd (omega (arith, leb-true p (start a e) y, All-times_in (λ b. has_cells b ≡ true → end a b ≤ p) e xs below some cells, runs_on e cells a))
            | inr none ↦ omega arith
          ] in
          omega (arith, none, times_in-append e xs ys, times_in-kept (λ b. nat_le p (start a b)) e (xs ++ ys) y)
      | inr n ↦
          let none : times_in e ys ≡ 0 = elim (cases_lt 0 (times_in e ys)) [
            | inl some ↦ absurd (both_ways _ n (le-leb _ _ (All-times_in (λ b. has_cells b ≡ true → p ≤ start a b) e ys above some cells)))
            | inr none ↦ omega arith
          ] in
          omega (arith, none, times_in-dropped (λ b. nat_le p (start a b)) e (xs ++ ys) n)
    ]

  lows : (bs : List Cuboid) → All (λ b. has_cells b ≡ true → end a b ≤ p) (map low bs)
  lows bs = All-map (λ b. has_cells b ≡ true → end a b ≤ p) low bs (λ i d lt. low_ends _)

  ups : (bs : List Cuboid) → All (λ b. has_cells b ≡ true → p ≤ start a b) (map up bs)
  ups bs = All-map (λ b. has_cells b ≡ true → p ≤ start a b) up bs (λ i d lt. up_starts _)

  boxes_halved : (bs : List Cuboid) (b : Cuboid) → IsFromCuts bs b → IsPlaceOf a p b
      → IsFromCuts (map low bs) (lower a p b) × IsFromCuts (map up bs) (upper a p b)
  boxes_halved bs b from place =
      let xs = map low bs in
      let ys = map up bs in
      let Uncut : Cuboid → Type 0 = λ e. has_cells e ≡ true → IsUncut a p e in
      let uncut : All Uncut (xs ++ ys) = All-append Uncut xs ys
      (All-weaker (λ e. has_cells e ≡ true → end a e ≤ p) Uncut (λ e h k. inl (h k)) xs (lows bs))
      (All-weaker (λ e. has_cells e ≡ true → p ≤ start a e) Uncut (λ e h k. inr (h k)) ys (ups bs)) in
      let r = open_planes_split_cuts a p (xs ++ ys) b (boxes_cut bs b from) place uncut in (
        IsFromCuts-same (lower_boxes a p (xs ++ ys)) xs (lower_same xs ys (lows bs) (ups bs)) r.0,
        IsFromCuts-same (upper_boxes a p (xs ++ ys)) ys (upper_same xs ys (lows bs) (ups bs)) r.1,
      )

  -- where cuts can part a box round boxes on both sides of a plane, they can part the lower part round those below it, and
  -- the upper part round those above it
  module _ (xs ys : List Cuboid) (b : Cuboid) (place : IsPlaceOf a p b) (below : All (λ d. end a d ≤ p) xs) (above : All (λ d. p ≤ start a d) ys) where
    pub CanBeCut-lower : CanBeCut (xs ++ ys) b → CanBeCut xs (lower a p b)
    CanBeCut-lower h =
        let all = h.0 ++ (xs ++ ys) in
        let kept : map low xs ≡ xs = map_same low xs (All-weaker (λ d. end a d ≤ p) (λ d. low d ≡ d) low_is xs below) in
        let gone : All (λ d. has_cells d ≡ false) (map low ys) = All-map (λ d. has_cells d ≡ false) low ys
        (All-weaker (λ d. p ≤ start a d) (λ d. has_cells (low d) ≡ false) low_none ys above) in
        let same : HaveSameBoxes (map low all) (map low h.0 ++ xs) = λ e cells. rw (map-append low h.0 (xs ++ ys), map-append low xs ys, kept) (omega (
          arith,
          times_in-append e (map low h.0) (xs ++ map low ys),
          times_in-append e xs (map low ys),
          times_in-append e (map low h.0) xs,
          none_stands (map low ys) gone e cells,
        )) in
        (map low h.0, IsFromCuts-same (map low all) (map low h.0 ++ xs) same (boxes_halved all b h.1 place).0)

    pub CanBeCut-upper : CanBeCut (xs ++ ys) b → CanBeCut ys (upper a p b)
    CanBeCut-upper h =
        let all = h.0 ++ (xs ++ ys) in
        let kept : map up ys ≡ ys = map_same up ys (All-weaker (λ d. p ≤ start a d) (λ d. up d ≡ d) up_is ys above) in
        let gone : All (λ d. has_cells d ≡ false) (map up xs) = All-map (λ d. has_cells d ≡ false) up xs
        (All-weaker (λ d. end a d ≤ p) (λ d. has_cells (up d) ≡ false) up_none xs below) in
        let same : HaveSameBoxes (map up all) (map up h.0 ++ ys) = λ e cells. rw (map-append up h.0 (xs ++ ys), map-append up xs ys, kept) (omega (
          arith,
          times_in-append e (map up h.0) (map up xs ++ ys),
          times_in-append e (map up xs) ys,
          times_in-append e (map up h.0) ys,
          none_stands (map up xs) gone e cells,
        )) in
        (map up h.0, IsFromCuts-same (map up all) (map up h.0 ++ ys) same (boxes_halved all b h.1 place).1)

-- the same boxes
pub CanBeCut-same : (xs ys : List Cuboid) (b : Cuboid) → HaveSameBoxes xs ys → CanBeCut xs b → CanBeCut ys b
CanBeCut-same xs ys b same h = (
  h.0,
  IsFromCuts-same (h.0 ++ xs) (h.0 ++ ys)
      (λ e cells. omega (arith, times_in-append e h.0 xs, times_in-append e h.0 ys, same e cells)) h.1,
)
