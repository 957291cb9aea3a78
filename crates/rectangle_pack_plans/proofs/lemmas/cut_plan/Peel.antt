-- A part from which lower parts are cut off one after another.
use Rattle.rectangle_pack_sections.proofs.Std.{ℕ, ◌+◌, ◌-◌, ◌<◌, ◌≤◌, ◌≡◌, true, List, [], ◌∷◌, ◌++◌, length, take, drop, refl, ap, sym, ◌∙◌, subst, arith, All, None, Some}
use Rattle.rectangle_pack_sections.proofs.Std.{append_assoc, append-nil, drop-append-le, sum_by, sum_by-cons, sum_by_push, length-append, take_at, drop_at, take-append-drop, length-take-le, length-drop}
use Rattle.rectangle_pack_sections.proofs.Std.{All-drop, IsNonDecreasingBy, length-take, take_all, nil_from_length, reverse, IsPermutation, All-permutation, length_permutation}
use borrow.Rule.Slice.PartMut.{put_mid}
use Rattle.std.specs.Option.{option_to_list}
use Rattle.std.proofs.lemmas.List.Kept.{IsNonDecreasingBy-filter}
use Rattle.rectangle_pack_sections.specs.declared.axis.Axis.TheVariants.{X}
use Rattle.rectangle_pack_plans.specs.declared.cut_plan.Part.{Part}
use Rattle.rectangle_pack_plans.specs.declared.cut_plan.split.Split.{Split}
use Rattle.rectangle_pack_plans.specs.declared.cut_plan.CutStep.{CutStep}
use Rattle.rectangle_pack_plans.specs.declared.cut_plan.CutStep.TheVariants.{Leaf as LeafHere}
use Rattle.rectangle_pack_sections.specs.Boxes.{Cuboid, start, has_cells}
use Rattle.rectangle_pack_sections.specs.CutTrees.{upper, HaveSameBoxes}
use Rattle.rectangle_pack_plans.specs.private.CutPlans.{IsFilled, IsSplit, AreOrdered, is_left, left_in, along, AreInOrder, IsKeptSplit, IsKeptAbove, lower_part, upper_part}
use Rattle.rectangle_pack_plans.specs.private.Pending.{LeadOn, MayBe, IsPeeled, IsCutUp, weight}
use Rattle.rectangle_pack_sections.proofs.lemmas.cuts.SameBoxes.{HaveSameBoxes-permutation}
use Rattle.rectangle_pack_plans.proofs.lemmas.cut_plan.Orders.{length-same}
use Rattle.rectangle_pack_plans.proofs.lemmas.cut_plan.Pending.{LeadOn-turn, LeadOn-under, LeadOn-cut, LeadOn-leaf}

-- a part is the same as another, but for its boxes' order and for the step before it, which was taken
MayBe-turn : (p q : Part) (es fs : List Cuboid) (parts : List Part) (new : List Cuboid) → q.whole ≡ p.whole → q.before ≡ None → length es ≡ p.count
    → length fs ≡ q.count → HaveSameBoxes es fs → All (λ e. has_cells e ≡ true) fs → AreOrdered q.ordered fs → MayBe q fs parts new → MayBe p es parts new
MayBe-turn p q es fs parts new part none len long same cells ordered may = λ boxes whole ps left steps leads.
    let now = steps ++ option_to_list p.before in
    let text : now ++ option_to_list q.before ≡ now = rw none (append-nil now) in
    subst (LeadOn boxes whole (parts ++ ps) (new ++ left)) text
    (may boxes whole ps left now (LeadOn-turn boxes whole p q ps es fs left steps now part len long same cells ordered text leads))

-- a part that may stand for itself
MayBe-itself : (p q : Part) (es : List Cuboid) → q.whole ≡ p.whole → q.before ≡ None → length es ≡ p.count → q.count ≡ p.count
    → All (λ e. has_cells e ≡ true) es → AreOrdered q.ordered es → MayBe p es (q ∷ []) es
MayBe-itself p q es part none len count cells ordered = λ boxes whole ps left steps leads.
    let now = steps ++ option_to_list p.before in
    let text : now ++ option_to_list q.before ≡ now = rw none (append-nil now) in
    LeadOn-turn boxes whole p q ps es es left steps now part len (omega arith) (λ b k. refl) cells ordered text leads

-- a part that is cut once
pub IsPeeled-split : (p : Part) (old es : List Cuboid) (s : Split) (turns : ℕ) → p.count ≡ length old → 2 ≤ length old → IsFilled p.whole old → IsPermutation old es
    → IsSplit p.whole es s → IsPeeled p old es (lower_part p s ∷ upper_part p s turns ∷ [])
IsPeeled-split p old es s turns count many filled moved split =
    let same = HaveSameBoxes-permutation old es moved in
    let long = length_permutation old es moved in
    let cells = All-permutation (λ e. has_cells e ≡ true) old es moved filled.cells in
    record {
      may_be = λ boxes whole ps left steps leads.
          let now = steps ++ option_to_list p.before in
          let first : HaveSameBoxes (take p.count (old ++ left)) es = rw (take_at old left p.count (sym count)) same in
          subst (λ l. LeadOn boxes whole (lower_part p s ∷ upper_part p s turns ∷ ps) (es ++ l) now) (drop_at old left p.count (sym count))
          (LeadOn-cut boxes whole p ps (old ++ left) es steps (omega (arith, long, many)) (omega (arith, long, count)) first cells leads s split turns);
      lighter = omega (arith, count, long, split.on_axis.some_below, split.on_axis.some_above);
    }

-- the upper part is pushed alone
pub one_pushed : (before peeled one parts : List Part) (up : Part) → peeled ≡ before ++ reverse parts → parts ≡ [] → one ≡ peeled ++ up ∷ []
    → one ≡ before ++ reverse (up ∷ [])
one_pushed before peeled one parts up is none pushed =
    pushed ∙ ap (λ l. l ++ up ∷ []) (is ∙ ap (λ l. before ++ reverse l) none ∙ append-nil before)

-- two parts that are pushed, the upper one first
pub two_pushed : (before peeled one two parts : List Part) (lo up : Part) → peeled ≡ before ++ reverse parts → parts ≡ [] → one ≡ peeled ++ up ∷ []
    → two ≡ one ++ lo ∷ [] → two ≡ before ++ reverse (lo ∷ up ∷ [])
two_pushed before peeled one two parts lo up is none first second =
    second ∙ ap (λ l. l ++ lo ∷ []) (first ∙ ap (λ l. l ++ up ∷ []) (is ∙ ap (λ l. before ++ reverse l) none ∙ append-nil before))
    ∙ append_assoc before (up ∷ []) (lo ∷ [])

-- parts that stand for a part, and nothing is planned yet
pub IsCutUp-parts : (p : Part) (old es : List Cuboid) (parts : List Part) (text : List CutStep) → text ≡ [] → IsPeeled p old es parts
    → IsCutUp p old es parts 0 text
IsCutUp-parts p old es parts text none peeled = record {
  within = omega arith;
  goes_on = λ boxes whole ps left steps leads.
      let now = steps ++ option_to_list p.before in
      let same : now ++ text ≡ now = ap (λ l. now ++ l) none ∙ append-nil now in
      subst (LeadOn boxes whole (parts ++ ps) (es ++ left)) (sym same) (peeled.may_be boxes whole ps left steps leads);
  lighter = peeled.lighter;
}

-- the first of the parts is one box, and planned
pub IsCutUp-leaf : (p first : Part) (old es : List Cuboid) (parts : List Part) (text : List CutStep) → first.count ≡ 1 → 1 ≤ length es
    → text ≡ option_to_list first.before ++ LeafHere ∷ [] → IsPeeled p old es (first ∷ parts) → IsCutUp p old es parts 1 text
IsCutUp-leaf p first old es parts text one some is peeled = record {
  within = some;
  goes_on = λ boxes whole ps left steps leads.
      let now = steps ++ option_to_list p.before in
      let planned = LeadOn-leaf boxes whole first (parts ++ ps) (es ++ left) now (omega (arith, one)) (peeled.may_be boxes whole ps left steps leads) in
      let same : (now ++ option_to_list first.before) ++ LeafHere ∷ [] ≡ now ++ text =
      append_assoc now (option_to_list first.before) (LeafHere ∷ []) ∙ ap (λ l. now ++ l) (sym is) in
      let rest : drop first.count (es ++ left) ≡ drop 1 es ++ left = ap (λ n. drop n (es ++ left)) one ∙ drop-append-le 1 es left some in
      subst (LeadOn boxes whole (parts ++ ps) (drop 1 es ++ left)) same
      (subst (λ l. LeadOn boxes whole (parts ++ ps) l ((now ++ option_to_list first.before) ++ LeafHere ∷ [])) rest planned);
  lighter = omega (arith, peeled.lighter, sum_by-cons weight first parts);
}

-- what is known while lower parts are cut off: what is left of the part, its orders, and how many boxes stand in their place
pub record IsPeeling (part : Part) (old : List Cuboid) (pending : List Part) (rest : Part) (xs ys zs boxes : List Cuboid) (done : ℕ) (more : List Part) : Type 0 where
  pub ordered : AreInOrder rest.whole xs ys zs
  pub made : List Part
  pub pushed : more ≡ pending ++ made
  pub counted : done + rest.count ≡ length boxes
  pub left : length (left_in rest.whole xs) ≡ rest.count
  pub some : 0 < rest.count
  pub no_order : rest.ordered ≡ None
  pub no_step : rest.before ≡ None
  pub may_be : (parts : List Part) (new : List Cuboid) → MayBe rest (left_in rest.whole xs) parts new → MayBe part old (made ++ parts) (take done boxes ++ new)
  pub lighter : sum_by weight made + weight rest + length made ≤ weight part
  pub untouched : done ≡ 0 → (boxes ≡ old) × (made ≡ [])
  pub touched : 0 < done → 0 < length made

pub IsPeeling-start : (part rest : Part) (old xs ys zs : List Cuboid) (pending : List Part) → AreInOrder part.whole xs ys zs
    → HaveSameBoxes old (left_in part.whole xs) → length (left_in part.whole xs) ≡ length old → part.count ≡ length old → 0 < length old
    → rest.whole ≡ part.whole → rest.count ≡ part.count → rest.ordered ≡ None → rest.before ≡ None
    → IsPeeling part old pending rest xs ys zs old 0 pending
IsPeeling-start part rest old xs ys zs pending ordered same long count some whole counts no_order no_step = record {
  ordered = rw whole ordered;
  made = [];
  pushed = sym (append-nil pending);
  counted = omega arith;
  left = rw whole (omega arith);
  some = omega arith;
  no_order = no_order;
  no_step = no_step;
  may_be = λ parts new may. MayBe-turn part rest old (left_in rest.whole xs) parts new whole no_step (omega arith) (rw whole (omega arith)) (rw whole same)
      (rw whole ordered.filled.cells) (rw no_order tt) may;
  lighter = omega arith;
  untouched = λ none. (refl, refl);
  touched = λ some. omega arith;
}

module _ (part : Part) (old : List Cuboid) (pending : List Part) (rest : Part) (xs ys zs boxes : List Cuboid) (done : ℕ) (more : List Part)
    (h : IsPeeling part old pending rest xs ys zs boxes done more) where
  module _ (s : Split) (split : IsKeptSplit rest.whole xs ys zs s) where
    abbrev es : List Cuboid
    es = left_in rest.whole (along s.axis xs ys zs)

    pub length-along : length (left_in rest.whole (along s.axis xs ys zs)) ≡ rest.count
    length-along = omega (arith, length-same (left_in rest.whole xs) es (h.ordered.same s.axis) h.ordered.filled.cells (h.ordered.cells s.axis), h.left)

    pub fewer-below : s.below < rest.count
    fewer-below = omega (arith, length-along, split.on_axis.some_above)

    module _ (next : Part) (xs_left ys_left zs_left : List Cuboid) (kept : IsKeptAbove rest.whole s es xs_left ys_left zs_left) (whole : next.whole ≡ upper s.axis s.place rest.whole)
        (count : next.count ≡ rest.count - s.below) (no_order : next.ordered ≡ None) (no_step : next.before ≡ None) where
      abbrev tail : List Cuboid
      tail = drop s.below es

      length-tail : length tail ≡ next.count
      length-tail = omega (arith, length-drop s.below es, length-along, count)

      left_cells : All (λ b. has_cells b ≡ true) (left_in next.whole xs_left)
      left_cells = rw whole kept.ordered.filled.cells

      length-left : length (left_in next.whole xs_left) ≡ next.count
      length-left =
          let same : HaveSameBoxes tail (left_in next.whole xs_left) = rw whole kept.same in
          omega (arith, length-same tail (left_in next.whole xs_left) same (All-drop (λ b. has_cells b ≡ true) s.below es (h.ordered.cells s.axis)) left_cells, length-tail)

      cut_may_be : (parts : List Part) (new : List Cuboid) → MayBe next (left_in next.whole xs_left) parts new
          → MayBe rest (left_in rest.whole xs) (lower_part rest s ∷ parts) (take s.below es ++ new)
      cut_may_be parts new may = λ all all_whole ps left steps leads.
          let ls = left_in rest.whole xs in
          let now = steps ++ option_to_list rest.before in
          let front = take s.below es in
          let first : HaveSameBoxes (take rest.count (ls ++ left)) es = rw (take_at ls left rest.count h.left) (h.ordered.same s.axis) in
          let cut = LeadOn-cut all all_whole rest ps (ls ++ left) es steps (omega (arith, split.on_axis.some_below, split.on_axis.some_above)) length-along first
          (h.ordered.cells s.axis) leads s split 0 in
          let up = upper_part rest s 0 in
          let parted : es ++ drop rest.count (ls ++ left) ≡ front ++ (tail ++ left) =
          ap (λ l. es ++ l) (drop_at ls left rest.count h.left) ∙ ap (λ l. l ++ left) (sym (take-append-drop s.below es)) ∙ append_assoc front tail left in
          let here = subst (λ l. LeadOn all all_whole (lower_part rest s ∷ up ∷ ps) l now) parted cut in
          let goes_on : (text : List CutStep) → LeadOn all all_whole (up ∷ ps) (tail ++ left) text → LeadOn all all_whole (parts ++ ps) (new ++ left) text =
          λ text more_leads.
          let same : HaveSameBoxes tail (left_in next.whole xs_left) = rw whole kept.same in
          let nothing : text ++ option_to_list next.before ≡ text = rw no_step (append-nil text) in
          subst (LeadOn all all_whole (parts ++ ps) (new ++ left)) nothing
          (may all all_whole ps left text (LeadOn-turn all all_whole up next ps tail (left_in next.whole xs_left) left text text whole (omega (arith, length-tail, count))
          length-left same left_cells (rw no_order tt) (rw no_step refl) more_leads)) in
          subst (λ l. LeadOn all all_whole (lower_part rest s ∷ (parts ++ ps)) l now) (sym (append_assoc front new left))
          (LeadOn-under all all_whole (lower_part rest s) (up ∷ ps) (parts ++ ps) front (tail ++ left) (new ++ left) now
          (length-take-le s.below es (omega (arith, split.on_axis.some_above))) goes_on here)

      pub IsPeeling-cut : (place : List Cuboid) (pushed : List Part) → take (done + s.below) place ≡ take done boxes ++ take s.below es → length place ≡ length boxes
          → pushed ≡ more ++ lower_part rest s ∷ [] → IsPeeling part old pending next xs_left ys_left zs_left place (done + s.below) pushed
      IsPeeling-cut place pushed taken long push =
          let b = lower_part rest s in
          let less = fewer-below in
          record {
            ordered = rw whole kept.ordered;
            made = h.made ++ b ∷ [];
            pushed = push ∙ ap (λ l. l ++ b ∷ []) h.pushed ∙ append_assoc pending h.made (b ∷ []);
            counted = omega (arith, h.counted, count, long, less);
            left = length-left;
            some = omega (arith, count, less);
            no_order = no_order;
            no_step = no_step;
            may_be = λ parts new may.
                let all = h.may_be (b ∷ parts) (take s.below es ++ new) (cut_may_be parts new may) in
                let parts_are : h.made ++ (b ∷ parts) ≡ (h.made ++ b ∷ []) ++ parts = sym (append_assoc h.made (b ∷ []) parts) in
                let boxes_are : take done boxes ++ (take s.below es ++ new) ≡ take (done + s.below) place ++ new =
                sym (append_assoc (take done boxes) (take s.below es) new) ∙ ap (λ l. l ++ new) (sym taken) in
                subst (λ l. MayBe part old l (take (done + s.below) place ++ new)) parts_are (subst (MayBe part old (h.made ++ (b ∷ parts))) boxes_are all);
            lighter = omega (
              arith,
              h.lighter,
              sum_by_push weight h.made b,
              length-append h.made (b ∷ []),
              count,
              less,
              split.on_axis.some_below,
            );
            untouched = λ none. absurd (omega (arith, none, split.on_axis.some_below));
            touched = λ some. omega (arith, length-append h.made (b ∷ []));
          }

  -- what is left is put in its place
  pub IsPeeling-end : (last : Part) (place : List Cuboid) → 0 < done → last.whole ≡ rest.whole → last.count ≡ rest.count → last.ordered ≡ Some X → last.before ≡ rest.before
      → place ≡ take done boxes ++ left_in rest.whole xs → IsPeeled part old place (h.made ++ last ∷ [])
  IsPeeling-end last place some whole count order step is =
      let rises : IsNonDecreasingBy (start X) (left_in rest.whole xs) = IsNonDecreasingBy-filter (start X) (is_left rest.whole) xs (h.ordered.rising X (λ is. cc)) in
      record {
        may_be = rw is (h.may_be (last ∷ []) (left_in rest.whole xs)
            (MayBe-itself rest last (left_in rest.whole xs) whole (step ∙ h.no_step) h.left count h.ordered.filled.cells (rw order rises)));
        lighter = omega (arith, h.lighter, sum_by_push weight h.made last, count, h.touched some);
      }

-- boxes that are put in their place
module _ (done : ℕ) (boxes to : List Cuboid) where
  pub put_next : (below : ℕ) → done + below ≤ length boxes → length to ≡ below
      → (take (done + below) (put_mid done (done + below - done) boxes to) ≡ take done boxes ++ to)
      × (length (put_mid done (done + below - done) boxes to) ≡ length boxes)
  put_next below within long =
      let rest = drop (done + below - done) (drop done boxes) in
      let front = length-take-le done boxes (omega arith) in (
        ap (take (done + below)) (sym (append_assoc (take done boxes) to rest))
            ∙ take_at (take done boxes ++ to) rest (done + below) (omega (arith, length-append (take done boxes) to)),
        omega (
          arith,
          length-append (take done boxes) (to ++ rest),
          length-append to rest,
          length-drop (done + below - done) (drop done boxes),
          length-drop done boxes,
        ),
      )

  pub put_last : (ls : List Cuboid) → done + length ls ≡ length boxes → to ≡ take (length (take (length boxes - done) (drop done boxes))) ls
      → put_mid done (length boxes - done) boxes to ≡ take done boxes ++ ls
  put_last ls all is =
      let many : length (take (length boxes - done) (drop done boxes)) ≡ length ls =
      omega (arith, length-take (length boxes - done) (drop done boxes), length-drop done boxes) in
      let whole : to ≡ ls = is ∙ take_all (length (take (length boxes - done) (drop done boxes))) ls (omega arith) in
      let none : drop (length boxes - done) (drop done boxes) ≡ [] =
      nil_from_length (drop (length boxes - done) (drop done boxes)) (omega (arith, length-drop (length boxes - done) (drop done boxes), length-drop done boxes)) in
      ap (λ l. take done boxes ++ (to ++ l)) none ∙ ap (λ l. take done boxes ++ l) (append-nil to ∙ whole)
