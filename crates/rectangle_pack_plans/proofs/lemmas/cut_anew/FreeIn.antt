-- The free sections of rooms.
use Rattle.rectangle_pack_sections.proofs.Std.{ℕ, ◌<◌, ◌≡◌, true, List, [], ◌∷◌, ◌++◌, zero, suc, length, refl, ap, sym, ◌∙◌, subst, arith, All, Any}
use Rattle.rectangle_pack_sections.proofs.Std.{Contains, All-filter, Option, Some, None, append-nil, append_assoc, length-filter}
use Rattle.rectangle_pack_sections.proofs.Std.{nat_le, All-permutation, IsPermutation, IsPermutation-trans, IsPermutation-append_left, IsPermutation-append_right, IsPermutation-append_comm}
use Rattle.rectangle_pack_sections.specs.declared.axis.Axis.{Axis}
use Rattle.rectangle_pack_plans.specs.declared.cut_anew.strips.FreeSection.{FreeSection}
use Rattle.rectangle_pack_sections.specs.Boxes.{Cuboid, IsPartOf, start, end, has_cells}
use Rattle.rectangle_pack_sections.specs.CutTrees.{times_in, HaveSameBoxes}
use Rattle.rectangle_pack_plans.specs.CutPlans.{lower_boxes, upper_boxes}
use Rattle.rectangle_pack_plans.specs.CuttingAnew.{AreBounds, IsFirstAxis, EndsSlab, EndsFirstSlab, AreFreeIn, OneBox, ManyBoxes, FirstSlab, LastSlab, AreFreeInSomeOrder}
use Rattle.rectangle_pack_plans.specs.private.CuttingAnew.{Filled, AreClosedWithin, AreFreeInAll}
use Rattle.rectangle_pack_sections.proofs.lemmas.cuts.Counting.{filter_all}
use Rattle.rectangle_pack_sections.proofs.lemmas.cuts.Times.{times_in-same, times_in-cons, Contains-times_in, All-times_in, All-from_times_in}
use Rattle.rectangle_pack_sections.proofs.lemmas.cuts.SameBoxes.{HaveSameBoxes-sym, HaveSameBoxes-permutation, HaveSameBoxes-filtered, count-same}
use Rattle.rectangle_pack_plans.proofs.lemmas.cut_plan.OpenPlanes.{IsOpenPlane-same}

-- a box that stands in a list is counted there
times_in-Contains : (b : Cuboid) (bs : List Cuboid) → Contains bs b → 0 < times_in b bs
times_in-Contains b [] (i, lt, at) = absurd (omega (arith, lt))
times_in-Contains b (e ∷ bs) (zero, lt, at) = rw at (omega (arith, times_in-same b bs))
times_in-Contains b (e ∷ bs) (suc i, lt, at) = omega (arith, times_in-cons b e bs, times_in-Contains b bs (i, omega (arith, lt), at))

-- two lists of boxes with cells that have the same boxes
pub record AreSame (bs es : List Cuboid) : Type 0 where
  pub same : HaveSameBoxes bs es
  pub cells : All (λ b. has_cells b ≡ true) bs
  pub other_cells : All (λ b. has_cells b ≡ true) es

pub AreSame-moved : (bs es : List Cuboid) → IsPermutation bs es → All (λ b. has_cells b ≡ true) bs → AreSame bs es
AreSame-moved bs es moved full = record {
  same = HaveSameBoxes-permutation bs es moved;
  cells = full;
  other_cells = All-permutation (λ b. has_cells b ≡ true) bs es moved full;
}

pub AreSame-sym : (bs es : List Cuboid) → AreSame bs es → AreSame es bs
AreSame-sym bs es h = record { same = HaveSameBoxes-sym bs es h.same; cells = h.other_cells; other_cells = h.cells }

AreSame-lower : (a : Axis) (p : ℕ) (bs es : List Cuboid) → AreSame bs es → AreSame (lower_boxes a p bs) (lower_boxes a p es)
AreSame-lower a p bs es h = record {
  same = HaveSameBoxes-filtered (λ b. nat_le (end a b) p) bs es h.same;
  cells = All-filter (λ b. nat_le (end a b) p) (λ b. has_cells b ≡ true) bs h.cells;
  other_cells = All-filter (λ b. nat_le (end a b) p) (λ b. has_cells b ≡ true) es h.other_cells;
}

AreSame-upper : (a : Axis) (p : ℕ) (bs es : List Cuboid) → AreSame bs es → AreSame (upper_boxes a p bs) (upper_boxes a p es)
AreSame-upper a p bs es h = record {
  same = HaveSameBoxes-filtered (λ b. nat_le p (start a b)) bs es h.same;
  cells = All-filter (λ b. nat_le p (start a b)) (λ b. has_cells b ≡ true) bs h.cells;
  other_cells = All-filter (λ b. nat_le p (start a b)) (λ b. has_cells b ≡ true) es h.other_cells;
}

module _ (bs es : List Cuboid) (h : AreSame bs es) where
  length-same : length es ≡ length bs
  length-same = omega (
    arith,
    count-same has_cells (λ b cells. cells) bs es h.same,
    length-filter has_cells bs,
    ap length (filter_all has_cells bs h.cells),
    length-filter has_cells es,
    ap length (filter_all has_cells es h.other_cells),
  )

  All-same_boxes : (P : Cuboid → Type 0) → All P bs → All P es
  All-same_boxes P all = All-from_times_in P es (λ b some.
      All-times_in P b bs all (omega (arith, some, h.same b (All-times_in (λ b. has_cells b ≡ true) b es h.other_cells some))))

  Any-same_boxes : (P : Cuboid → Type 0) → Any P bs → Any P es
  Any-same_boxes P (i, b, lt, at, p) =
      let here : 0 < times_in b bs = times_in-Contains b bs (i, lt, at) in
      let there : Contains es b = Contains-times_in b es
      (omega (arith, here, h.same b (All-times_in (λ b. has_cells b ≡ true) b bs h.cells here))) in
      (there.0, b, there.1, there.2, p)

  pub AreBounds-same : (bounds : Cuboid) → AreBounds bs bounds → AreBounds es bounds
  AreBounds-same bounds bound = record {
    inside = All-same_boxes (λ b. IsPartOf b bounds) bound.inside;
    starts = λ a. Any-same_boxes (λ b. start a b ≡ start a bounds) (bound.starts a);
    ends = λ a. Any-same_boxes (λ b. end a b ≡ end a bounds) (bound.ends a);
  }

  EndsSlab-same : (a : Axis) (place : ℕ) (room : Cuboid) → EndsSlab a place room bs → EndsSlab a place room es
  EndsSlab-same a place room ends = record {
    is_open = IsOpenPlane-same a place room bs es h.same ends.is_open;
    starts = Any-same_boxes (λ b. start a b ≡ place) ends.starts;
  }

pub AreClosedWithin-same : (closed : Option Axis) (bs es : List Cuboid) → AreSame bs es → AreClosedWithin closed bs → AreClosedWithin closed es
AreClosedWithin-same None bs es h closed = closed
AreClosedWithin-same (Some a) bs es h closed = λ bounds bound q is_open.
    let back = AreSame-sym bs es h in
    closed bounds (AreBounds-same es bs back bounds bound) q (IsOpenPlane-same a q bounds es bs back.same is_open)

IsFirstAxis-same : (a : Axis) (room : Cuboid) (bs es : List Cuboid) → AreSame bs es → IsFirstAxis a room bs → IsFirstAxis a room es
IsFirstAxis-same a room bs es h axis = record {
  place = axis.place;
  is_open = IsOpenPlane-same a axis.place room bs es h.same axis.is_open;
  first = λ e q before is_open. axis.first e q before (IsOpenPlane-same e q room es bs (HaveSameBoxes-sym bs es h.same) is_open);
}

EndsFirstSlab-same : (a : Axis) (place : ℕ) (room : Cuboid) (bs es : List Cuboid) → AreSame bs es → EndsFirstSlab a place room bs
    → EndsFirstSlab a place room es
EndsFirstSlab-same a place room bs es h ends = record {
  here = EndsSlab-same bs es h a place room ends.here;
  first = λ q before other. ends.first q before (EndsSlab-same es bs (AreSame-sym bs es h) a q room other);
}

-- the free sections hang on which boxes stand in the room, not on their order
pub AreFreeIn-same : {slabs : Option Axis} {room : Cuboid} {bs : List Cuboid} {free : List FreeSection} (es : List Cuboid) → AreSame bs es
    → AreFreeIn slabs room bs free → AreFreeIn slabs room es free
AreFreeIn-same {bs = bs} es h (OneBox bounds strips one bound round) = OneBox bounds strips (length-same bs es h ∙ one) (AreBounds-same bs es h bounds bound) round
AreFreeIn-same {bs = bs} es h (ManyBoxes bounds strips free a many bound round axis slabs) =
    ManyBoxes bounds strips free a (omega (arith, many, length-same bs es h)) (AreBounds-same bs es h bounds bound) round
    (IsFirstAxis-same a bounds bs es h axis) (AreFreeIn-same es h slabs)
AreFreeIn-same {room = room} {bs = bs} es h (FirstSlab {a = a} place below above ends low up) =
    FirstSlab place below above (EndsFirstSlab-same a place room bs es h ends)
    (AreFreeIn-same (lower_boxes a place es) (AreSame-lower a place bs es h) low)
    (AreFreeIn-same (upper_boxes a place es) (AreSame-upper a place bs es h) up)
AreFreeIn-same {room = room} {bs = bs} es h (LastSlab {a = a} none rest) =
    LastSlab (λ q ends. none q (EndsSlab-same es bs (AreSame-sym bs es h) a q room ends)) (AreFreeIn-same es h rest)

-- of one room
pub AreFreeInAll-one : (f : Filled) (free : List FreeSection) → AreFreeInAll (f ∷ []) free → AreFreeIn None f.section f.boxes free
AreFreeInAll-one f free (one, others, is, here, none) =
    subst (AreFreeIn None f.section f.boxes) (sym (is ∙ ap (λ l. one ++ l) none ∙ append-nil one)) here

pub one-AreFreeInAll : (f : Filled) (free : List FreeSection) → AreFreeIn None f.section f.boxes free → AreFreeInAll (f ∷ []) free
one-AreFreeInAll f free here = (free, [], sym (append-nil free), here, refl)

-- of rooms and more
pub AreFreeInAll-parts : (fs gs : List Filled) (free : List FreeSection) → AreFreeInAll (fs ++ gs) free
    → (first last : List FreeSection) × (free ≡ first ++ last) × AreFreeInAll fs first × AreFreeInAll gs last
AreFreeInAll-parts [] gs free h = ([], free, refl, refl, h)
AreFreeInAll-parts (f ∷ fs) gs free (one, others, is, here, rest) =
    let r = AreFreeInAll-parts fs gs others rest in
    (one ++ r.0, r.1, is ∙ ap (λ l. one ++ l) r.2 ∙ sym (append_assoc one r.0 r.1), (one, r.0, refl, here, r.3), r.4)

pub AreFreeInAll-both : (fs gs : List Filled) (first last : List FreeSection) → AreFreeInAll fs first → AreFreeInAll gs last → AreFreeInAll (fs ++ gs) (first ++ last)
AreFreeInAll-both [] gs first last none h = subst (λ l. AreFreeInAll gs (l ++ last)) (sym none) h
AreFreeInAll-both (f ∷ fs) gs first last (one, others, is, here, rest) h =
    (one, others ++ last, ap (λ l. l ++ last) is ∙ append_assoc one others last, here, AreFreeInAll-both fs gs others last rest h)

-- in another order
pub AreFreeInSomeOrder-moved : (whole : Cuboid) (boxes : List Cuboid) (free other : List FreeSection) → IsPermutation free other → AreFreeInSomeOrder whole boxes free
    → AreFreeInSomeOrder whole boxes other
AreFreeInSomeOrder-moved whole boxes free other moved (sections, are, perm) = (sections, are, IsPermutation-trans sections free other perm moved)

-- three lists, the last two in the other order
pub last_two_swapped : (xs ys zs : List FreeSection) → IsPermutation (xs ++ (ys ++ zs)) ((xs ++ zs) ++ ys)
last_two_swapped xs ys zs = subst (IsPermutation (xs ++ (ys ++ zs))) (sym (append_assoc xs zs ys))
    (IsPermutation-append_right xs (ys ++ zs) (zs ++ ys) (IsPermutation-append_comm ys zs))

-- a third of four lists moved before the second
pub moved_between : (ws xs ys zs : List FreeSection) → IsPermutation (ws ++ (xs ++ (ys ++ zs))) ((ws ++ ys) ++ (xs ++ zs))
moved_between ws xs ys zs = subst (λ l. IsPermutation l ((ws ++ ys) ++ (xs ++ zs)))
    (append_assoc (ws ++ xs) ys zs ∙ append_assoc ws xs (ys ++ zs))
    (subst (IsPermutation (((ws ++ xs) ++ ys) ++ zs)) (append_assoc (ws ++ ys) xs zs)
    (IsPermutation-append_left zs ((ws ++ xs) ++ ys) ((ws ++ ys) ++ xs)
    (subst (λ l. IsPermutation l ((ws ++ ys) ++ xs)) (sym (append_assoc ws xs ys)) (last_two_swapped ws xs ys))))
