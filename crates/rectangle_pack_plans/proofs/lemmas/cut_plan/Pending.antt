-- The parts of a box that are still to be planned, the next one first, whose boxes stand one part after another.
use Rattle.rectangle_pack_sections.proofs.Std.{ℕ, ◌+◌, ◌-◌, ◌<◌, ◌≤◌, ◌≡◌, true, List, [], ◌∷◌, ◌++◌, length, take, drop, refl, ap, sym, ◌∙◌, subst}
use Rattle.rectangle_pack_sections.proofs.Std.{append_assoc, sum_by, sum_by_push, reverse, arith, All, count_by, Option, None, Some, IsPermutation, length-take-le, length-drop, reverse-append}
use Rattle.rectangle_pack_sections.proofs.Std.{take_at, drop_at, drop-drop, drop-append-le, length-append, append-nil, take-append-drop, All-take, All-drop, count_by-le-length}
use Rattle.rectangle_pack_sections.proofs.Std.{length-filter, length_permutation, IsNonDecreasingBy-take, IsNonDecreasingBy-drop}
use Rattle.rectangle_pack_sections.proofs.Std.{All-permutation, sum_by-append, sum_by-IsPermutation}
use Rattle.std.proofs.lemmas.List.{reverse-reverse}
use Rattle.std.proofs.lemmas.List.Sorted.{IsPermutation-reverse}
use borrow.Rule.Slice.PartMut.{put_mid}
use Rattle.rectangle_pack_sections.specs.declared.axis.Axis.{Axis}
use Rattle.rectangle_pack_sections.specs.declared.axis.Axis.TheVariants.{X}
use Rattle.rectangle_pack_plans.specs.declared.cut_plan.Part.{Part}
use Rattle.rectangle_pack_plans.specs.declared.cut_plan.split.Split.{Split}
use Rattle.rectangle_pack_plans.specs.declared.cut_plan.CutStep.{CutStep}
use Rattle.rectangle_pack_plans.specs.declared.cut_plan.CutStep.TheVariants.{Cut as CutAt, Leaf as LeafHere}
use Rattle.rectangle_pack_sections.specs.Boxes.{Cuboid, start, has_cells}
use Rattle.rectangle_pack_sections.specs.Counting.{Tiles}
use Rattle.rectangle_pack_sections.specs.CutTrees.{CutTree, Leaf, Cut, lower, upper, IsFromCuts, IsPlaceOf, HaveSameBoxes}
use Rattle.rectangle_pack_plans.specs.CutPlans.{axis_rank, IsOpenPlane, IsFirstPlane, IsPlannedTree, steps_of, IsCutPlan}
use Rattle.rectangle_pack_plans.specs.private.CutPlans.{IsFilled, AreOrdered, AreClosed, IsSplit, lower_part, upper_part}
use Rattle.rectangle_pack_plans.specs.private.Pending.{IsPending, LeadOn, weight}
use Rattle.std.specs.Option.{option_to_list}
use Rattle.rectangle_pack_sections.proofs.lemmas.cuts.Counting.{filter_all}
use Rattle.rectangle_pack_plans.proofs.lemmas.cut_plan.FirstPlanes.{IsPlannedTree-same, planned_tree_has_leaves}
use Rattle.rectangle_pack_plans.proofs.lemmas.cut_plan.Filling.{FitsU32-part, IsFilled-same}
use Rattle.rectangle_pack_plans.proofs.lemmas.cut_plan.OpenPlanes.{cuts_have_open_planes}
use Rattle.rectangle_pack_plans.proofs.lemmas.cut_plan.Split.{IsPlaceOf-open, IsSide, lower_side, upper_side}
use Rattle.rectangle_pack_sections.proofs.lemmas.cuts.SameBoxes.{HaveSameBoxes-sym, HaveSameBoxes-permutation, IsFromCuts-same}

pub rank_below : (a : Axis) → axis_rank a < 3
unfolding axis_rank
rank_below X = omega arith
rank_below _ = omega arith

-- parts of a list in order
AreOrdered-take : (ordered : Option Axis) (n : ℕ) (es : List Cuboid) → AreOrdered ordered es → AreOrdered ordered (take n es)
AreOrdered-take None n es h = tt
AreOrdered-take (Some a) n es h = IsNonDecreasingBy-take (start a) n es h

AreOrdered-drop : (ordered : Option Axis) (n : ℕ) (es : List Cuboid) → AreOrdered ordered es → AreOrdered ordered (drop n es)
AreOrdered-drop None n es h = tt
AreOrdered-drop (Some a) n es h = IsNonDecreasingBy-drop (start a) n es h

module _ (boxes : List Cuboid) (whole : Cuboid) where
  -- a part in front of others
  LeadOn-cons : (p : Part) (ps : List Part) (es left : List Cuboid) (steps : List CutStep) → length es ≡ p.count → IsPending boxes whole p es
      → ((t : CutTree) → IsPlannedTree t p.whole es → LeadOn boxes whole ps left ((steps ++ option_to_list p.before) ++ steps_of t))
      → LeadOn boxes whole (p ∷ ps) (es ++ left) steps
  unfolding LeadOn
  LeadOn-cons p ps es left steps len pending goes_on =
      let now = steps ++ option_to_list p.before in
      let front : es ≡ take p.count (es ++ left) = sym (take_at es left p.count len) in
      let back : left ≡ drop p.count (es ++ left) = sym (drop_at es left p.count len) in (
        omega (arith, length-append es left),
        subst (IsPending boxes whole p) front pending,
        λ t is. subst (λ l. LeadOn boxes whole ps l (now ++ steps_of t)) back (goes_on t (subst (IsPlannedTree t p.whole) (sym front) is)),
      )

  -- what is known of the part in front
  record IsInFront (p : Part) (ps : List Part) (es left : List Cuboid) (steps : List CutStep) : Type 0 where
    pub pending : IsPending boxes whole p es
    pub goes_on : (t : CutTree) → IsPlannedTree t p.whole es → LeadOn boxes whole ps left ((steps ++ option_to_list p.before) ++ steps_of t)

  LeadOn-front : (p : Part) (ps : List Part) (es left : List Cuboid) (steps : List CutStep) → length es ≡ p.count
      → LeadOn boxes whole (p ∷ ps) (es ++ left) steps → IsInFront p ps es left steps
  unfolding LeadOn
  LeadOn-front p ps es left steps len h =
      let now = steps ++ option_to_list p.before in
      let front : take p.count (es ++ left) ≡ es = take_at es left p.count len in
      let back : drop p.count (es ++ left) ≡ left = drop_at es left p.count len in
      record {
        pending = subst (IsPending boxes whole p) front h.1;
        goes_on = λ t is. subst (λ l. LeadOn boxes whole ps l (now ++ steps_of t)) back (h.2 t (subst (IsPlannedTree t p.whole) (sym front) is));
      }

  -- at most one box
  pub LeadOn-leaf : (p : Part) (ps : List Part) (rest : List Cuboid) (steps : List CutStep) → p.count ≤ 1 → LeadOn boxes whole (p ∷ ps) rest steps
      → LeadOn boxes whole ps (drop p.count rest) ((steps ++ option_to_list p.before) ++ LeafHere ∷ [])
  unfolding LeadOn
  LeadOn-leaf p ps rest steps few h = h.2 Leaf (omega (arith, count_by-le-length has_cells (take p.count rest), length-take-le p.count rest h.0))

  -- the same part, with its boxes in another order, and the step before it taken or not
  pub LeadOn-turn : (p q : Part) (ps : List Part) (es fs left : List Cuboid) (steps more : List CutStep) → q.whole ≡ p.whole
      → length es ≡ p.count → length fs ≡ q.count → HaveSameBoxes es fs → All (λ e. has_cells e ≡ true) fs → AreOrdered q.ordered fs
      → more ++ option_to_list q.before ≡ steps ++ option_to_list p.before
      → LeadOn boxes whole (p ∷ ps) (es ++ left) steps → LeadOn boxes whole (q ∷ ps) (fs ++ left) more
  LeadOn-turn p q ps es fs left steps more part len long same cells ordered text h =
      let front = LeadOn-front p ps es left steps len h in
      let filled : IsFilled q.whole fs = rw part (IsFilled-same p.whole es fs same cells front.pending.filled) in
      let pending : IsPending boxes whole q fs =
      record { filled = filled; ordered = ordered; from_cuts = λ from. rw part (IsFromCuts-same es fs same (front.pending.from_cuts from)) } in
      LeadOn-cons q ps fs left more long pending (λ t is. subst (λ l. LeadOn boxes whole ps left (l ++ steps_of t)) (sym text)
      (front.goes_on t (IsPlannedTree-same t p.whole fs es (HaveSameBoxes-sym es fs same) (subst (λ w. IsPlannedTree t w fs) part is))))

  -- what stands behind the part in front may become other parts
  pub LeadOn-under : (p : Part) (ps qs : List Part) (es rest left : List Cuboid) (steps : List CutStep) → length es ≡ p.count
      → ((now : List CutStep) → LeadOn boxes whole ps rest now → LeadOn boxes whole qs left now)
      → LeadOn boxes whole (p ∷ ps) (es ++ rest) steps → LeadOn boxes whole (p ∷ qs) (es ++ left) steps
  LeadOn-under p ps qs es rest left steps len becomes h =
      let front = LeadOn-front p ps es rest steps len h in
      LeadOn-cons p qs es left steps len front.pending (λ t is. becomes ((steps ++ option_to_list p.before) ++ steps_of t) (front.goes_on t is))

  module _ (p : Part) (ps : List Part) (rest es : List Cuboid) (steps : List CutStep) (many : 2 ≤ length es) (len : length es ≡ p.count)
      (same : HaveSameBoxes (take p.count rest) es) (cells : All (λ e. has_cells e ≡ true) es) (leads : LeadOn boxes whole (p ∷ ps) rest steps) where
    pending : IsPending boxes whole p (take p.count rest)
    unfolding LeadOn
    pending = leads.1

    filled : IsFilled p.whole es
    filled = IsFilled-same p.whole (take p.count rest) es same cells pending.filled

    two : 2 ≤ count_by has_cells es
    two = omega (arith, length-filter has_cells es, ap length (filter_all has_cells es cells), many)

    from_cuts : IsFromCuts boxes whole → IsFromCuts es p.whole
    from_cuts from = IsFromCuts-same (take p.count rest) es same (pending.from_cuts from)

    -- a cut at the first open plane
    module _ (s : Split) (split : IsSplit p.whole es s) (turns : ℕ) where
      is_open : IsOpenPlane s.axis s.place p.whole es
      is_open = split.on_axis.is_open

      place : IsPlaceOf s.axis s.place p.whole
      place = IsPlaceOf-open is_open

      -- the part on a side of it, with the boxes there
      side_pending : (q : Part) (xs : List Cuboid) → IsSide p.whole es q.whole xs → All (λ e. has_cells e ≡ true) xs → AreOrdered q.ordered xs
          → IsPending boxes whole q xs
      side_pending q xs side kept ordered = record {
        filled = record { fits = FitsU32-part q.whole p.whole side.inside filled.fits; tiles = side.tiles; cells = kept };
        ordered = ordered;
        from_cuts = λ from. side.from_cuts (from_cuts from);
      }

      lower_pending : IsPending boxes whole (lower_part p s) (take s.below es)
      lower_pending = side_pending (lower_part p s) (take s.below es)
          (rw split.on_axis.front (lower_side s.axis s.place p.whole es place is_open.uncut filled.tiles))
          (All-take (λ e. has_cells e ≡ true) s.below es cells) (AreOrdered-take s.ordered s.below es split.ordered)

      upper_pending : IsPending boxes whole (upper_part p s turns) (drop s.below es)
      upper_pending = side_pending (upper_part p s turns) (drop s.below es)
          (rw split.on_axis.back (upper_side s.axis s.place p.whole es place is_open.uncut filled.tiles))
          (All-drop (λ e. has_cells e ≡ true) s.below es cells) (AreOrdered-drop s.ordered s.below es split.ordered)

      planned_cut : (t u : CutTree) → IsPlannedTree t (lower s.axis s.place p.whole) (take s.below es)
          → IsPlannedTree u (upper s.axis s.place p.whole) (drop s.below es) → IsPlannedTree (Cut s.axis s.place t u) p.whole (take p.count rest)
      planned_cut t u below above =
          let first : IsFirstPlane s.axis s.place p.whole es =
          record { is_open = is_open; least = split.on_axis.least; first = λ e q lt. split.first e lt q } in
          let here : IsPlannedTree (Cut s.axis s.place t u) p.whole es = (two, first, rw split.on_axis.front at below, rw split.on_axis.back at above) in
          IsPlannedTree-same (Cut s.axis s.place t u) p.whole es (take p.count rest) (HaveSameBoxes-sym (take p.count rest) es same) here

      -- the steps of a cut, as they come
      text : (t u : CutTree) → let now = steps ++ option_to_list p.before in
          now ++ steps_of (Cut s.axis s.place t u) ≡ (((now ++ CutAt s.axis s.place ∷ []) ++ steps_of t) ++ []) ++ steps_of u
      text t u =
          let now = steps ++ option_to_list p.before in
          sym (ap (λ l. l ++ steps_of u) (append-nil ((now ++ CutAt s.axis s.place ∷ []) ++ steps_of t)) ∙ simp append_assoc)

      pub LeadOn-cut : LeadOn boxes whole (lower_part p s ∷ upper_part p s turns ∷ ps) (es ++ drop p.count rest) (steps ++ option_to_list p.before)
      unfolding LeadOn
      LeadOn-cut =
          let left = drop p.count rest in
          let xs = take s.below es in
          let ys = drop s.below es in
          let now = steps ++ option_to_list p.before in
          let cut : length xs ≡ s.below = length-take-le s.below es (omega (arith, split.on_axis.some_above)) in
          subst (λ l. LeadOn boxes whole (lower_part p s ∷ upper_part p s turns ∷ ps) l now)
          (sym (append_assoc xs ys left) ∙ ap (λ l. l ++ left) (take-append-drop s.below es))
          (LeadOn-cons (lower_part p s) (upper_part p s turns ∷ ps) xs (ys ++ left) now cut lower_pending
          (λ t below. LeadOn-cons (upper_part p s turns) ps ys left ((now ++ CutAt s.axis s.place ∷ []) ++ steps_of t)
          (omega (arith, length-drop s.below es, len)) upper_pending
          (λ u above. subst (LeadOn boxes whole ps left) (text t u) (leads.2 (Cut s.axis s.place t u) (planned_cut t u below above)))))

pub LeadOn-start : (whole : Cuboid) (filling : List Cuboid) → IsFilled whole filling
    → LeadOn filling whole (record { whole = whole; count = length filling; ordered = None; before = None; turns = 0 } ∷ []) filling []
unfolding LeadOn
LeadOn-start whole filling filled =
    let p : Part = record { whole = whole; count = length filling; ordered = None; before = None; turns = 0 } in
    subst (λ l. LeadOn filling whole (p ∷ []) l []) (append-nil filling)
    (LeadOn-cons filling whole p [] filling [] [] refl (record { filled = filled; ordered = tt; from_cuts = λ from. from }) (λ t is. (t, is, refl)))

-- no part is left
pub LeadOn-end : (boxes : List Cuboid) (whole : Cuboid) (rest : List Cuboid) (steps : List CutStep)
    → Tiles boxes whole → LeadOn boxes whole [] rest steps → IsCutPlan boxes whole steps
unfolding LeadOn
LeadOn-end boxes whole rest steps tiles h =
    let right = planned_tree_has_leaves h.0 whole boxes tiles h.1 in
    record { from_cuts = record { tree = h.0; is_tree = right.0; same = right.1 }; planned = h.1; in_order = h.2 }

-- what is still to be planned weighs less once the last part is taken
pub weight-popped : (pending popped : List Part) (part : Part) → pending ≡ popped ++ part ∷ [] → sum_by weight popped < sum_by weight pending
weight-popped pending popped part is = omega (arith, ap (sum_by weight) is, sum_by_push weight popped part)

-- and less also where others stand in its place that weigh less
pub weight-parted : (pending popped more parts : List Part) (part : Part) → pending ≡ popped ++ part ∷ [] → more ≡ popped ++ reverse parts
    → sum_by weight parts < weight part → sum_by weight more < sum_by weight pending
weight-parted pending popped more parts part is pushed lighter =
    omega (
      arith,
      ap (sum_by weight) is,
      sum_by_push weight popped part,
      ap (sum_by weight) pushed,
      sum_by-append weight popped (reverse parts),
      sum_by-IsPermutation weight parts (reverse parts) (IsPermutation-reverse parts),
    )

module _ (boxes : List Cuboid) (whole : Cuboid) where
  pub LeadOn-same : (ps qs : List Part) (rest left : List Cuboid) (steps more : List CutStep)
      → ps ≡ qs → rest ≡ left → steps ≡ more → LeadOn boxes whole ps rest steps → LeadOn boxes whole qs left more
  LeadOn-same ps qs rest left steps more parts filling text h = rw (parts, filling, text) at h

  -- what is known of the next part; the parts are kept in reverse
  pub record IsNext (p : Part) (popped : List Part) (filling : List Cuboid) (done : ℕ) (steps : List CutStep) : Type 0 where
    pub leads : LeadOn boxes whole (p ∷ reverse popped) (drop done filling) steps
    pub within : done + p.count ≤ length filling
    pub pending : IsPending boxes whole p (take p.count (drop done filling))

  pub IsNext-popped : (items popped : List Part) (p : Part) (filling : List Cuboid) (done : ℕ) (steps : List CutStep)
      → done ≤ length filling → items ≡ popped ++ p ∷ [] → LeadOn boxes whole (reverse items) (drop done filling) steps
      → IsNext p popped filling done steps
  unfolding LeadOn
  IsNext-popped items popped p filling done steps within is h =
      let rest = drop done filling in
      let next : LeadOn boxes whole (p ∷ reverse popped) rest steps = rw (is, reverse-append popped (p ∷ [])) at h in
      record { leads = next; within = omega (arith, next.0, length-drop done filling); pending = next.1 }

-- one part is kept
pub only_is_next : (none items : List Part) (p : Part) → none ≡ [] → items ≡ none ++ p ∷ [] → p ∷ [] ≡ reverse items
only_is_next none items p empty is = sym (ap reverse (is ∙ ap (λ l. l ++ p ∷ []) empty))

-- the parts in the place of the last one, the first of them last
pub parts_are_next : (popped more parts : List Part) → more ≡ popped ++ reverse parts → parts ++ reverse popped ≡ reverse more
parts_are_next popped more parts pushed = sym (ap reverse pushed ∙ reverse-append popped (reverse parts) ∙ ap (λ l. l ++ reverse popped) (reverse-reverse parts))

-- no plane is open
pub closed_has_no_tree : (p : Cuboid) (bs es : List Cuboid) → IsFilled p bs → 2 ≤ length bs → IsPermutation bs es → AreClosed 3 p es → ¬ IsFromCuts bs p
closed_has_no_tree p bs es filled many moved closed from =
    let cells = All-permutation (λ e. has_cells e ≡ true) bs es moved filled.cells in
    let two : 2 ≤ count_by has_cells es =
    omega (arith, length-filter has_cells es, ap length (filter_all has_cells es cells), length_permutation bs es moved, many) in
    let plane = cuts_have_open_planes es p (IsFromCuts-same bs es (HaveSameBoxes-permutation bs es moved) from) two in
    closed plane.0 (rank_below plane.0) plane.1 plane.2

-- the boxes after those that are planned, once those of the next part are in another order
module _ (done n : ℕ) (filling es : List Cuboid) (within : done ≤ length filling) where
  pub rest_moved : es ++ drop n (drop done filling) ≡ drop done (put_mid done (done + n - done) filling es)
  rest_moved =
      let same : done + n - done ≡ n = omega arith in
      rw same (sym (drop_at (take done filling) (es ++ drop n (drop done filling)) done (length-take-le done filling within)))

  pub still_within : (planned : ℕ) → planned ≤ length es → done + planned ≤ length (put_mid done (done + n - done) filling es)
  still_within planned some = omega (
    arith,
    some,
    length-append (take done filling) (es ++ drop (done + n - done) (drop done filling)),
    length-append es (drop (done + n - done) (drop done filling)),
    length-take-le done filling within,
  )

  -- and once some of them are planned
  pub planned_moved : (planned : ℕ) → planned ≤ length es
      → drop planned es ++ drop n (drop done filling) ≡ drop (done + planned) (put_mid done (done + n - done) filling es)
  planned_moved planned some =
      sym (drop-append-le planned es (drop n (drop done filling)) some) ∙ ap (drop planned) rest_moved
      ∙ drop-drop planned done (put_mid done (done + n - done) filling es)
