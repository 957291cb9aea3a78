-- The rooms that are still to be cut up, in the order in which their boxes stand.
use Rattle.rectangle_pack_sections.proofs.Std.{ℕ, ◌+◌, ◌-◌, ◌<◌, ◌≤◌, ◌≡◌, true, List, [], ◌∷◌, ◌++◌, zero, suc, length, map, take, drop}
use Rattle.rectangle_pack_sections.proofs.Std.{get_or, refl, ap, sym, ◌∙◌, subst, arith}
use Rattle.rectangle_pack_sections.proofs.Std.{All, All-head, All-tail, All-nil, All-cons, All-append, All-map, All-weaker, IsPermutation, All-permutation, append-nil}
use Rattle.rectangle_pack_sections.proofs.Std.{append_assoc, map-append, length-append}
use Rattle.rectangle_pack_sections.proofs.Std.{length-drop, length-take-le, take_all, take-append-drop, take_at, drop_at, drop-drop, drop-take, take-take}
use Rattle.rectangle_pack_sections.proofs.Std.{sum_by, sum_by-cons, sum_by_push, sum_by-append, nil_from_length, length-map, count_by, Any}
use Rattle.rectangle_pack_sections.proofs.Std.{length-filter, length_permutation, None, IsPermutation-refl}
use Rattle.std.proofs.lemmas.Grind.{flat_map-append}
use borrow.Rule.Slice.PartMut.{put_mid}
use Rattle.rectangle_pack_sections.specs.Boxes.{Cuboid, FitsU32, IsPartOf, start, end, has_cells}
use Rattle.rectangle_pack_sections.specs.CutTrees.{IsFromCuts}
use Rattle.rectangle_pack_plans.specs.declared.cut_anew.slabs.Room.{Room}
use Rattle.rectangle_pack_plans.specs.declared.cut_anew.strips.FreeSection.{FreeSection}
use Rattle.rectangle_pack_plans.specs.CutPlans.{IsUncut}
use Rattle.rectangle_pack_plans.specs.private.CutPlans.{AreClosed}
use Rattle.rectangle_pack_plans.specs.CuttingAnew.{AreBounds, AreStripsRound, AreFreeIn, OneBox, ManyBoxes, AreFreeInSomeOrder, cut_from, sections_alone}
use Rattle.rectangle_pack_plans.specs.private.CuttingAnew.{CanBeCut, AreInRoom, AreStrips, Filled, counted, IsRoomOf, AreRoomsOf, AreFreeInAll, AreFirstSlabs}
use Rattle.rectangle_pack_sections.proofs.lemmas.util.Lists.{All-front, All-back}
use Rattle.rectangle_pack_sections.proofs.lemmas.cuts.Axes.{stays_in, is_part, cells-part, IsPartOf-refl, IsPartOf-trans}
use Rattle.rectangle_pack_sections.proofs.lemmas.cuts.Counting.{filter_all, count-append}
use Rattle.rectangle_pack_sections.proofs.lemmas.cuts.Parts.{box_alike}
use Rattle.rectangle_pack_sections.proofs.lemmas.cuts.SameBoxes.{HaveSameBoxes-permutation, IsFromCuts-same}
use Rattle.rectangle_pack_sections.proofs.lemmas.cuts.Times.{times_in-append, times_in-cons}
use Rattle.rectangle_pack_sections.proofs.lemmas.cuts.Trees.{IsFromCuts-leaf}
use Rattle.rectangle_pack_plans.proofs.lemmas.cut_plan.OpenPlanes.{cuts_have_open_planes}
use Rattle.rectangle_pack_plans.proofs.lemmas.cut_plan.Filling.{FitsU32-part}
use Rattle.rectangle_pack_plans.proofs.lemmas.cut_plan.Pending.{rank_below}
use Rattle.rectangle_pack_plans.proofs.lemmas.cut_anew.Halves.{IsFromCuts-for, CanBeCut-same}
use Rattle.rectangle_pack_plans.proofs.lemmas.cut_anew.FreeIn.{AreSame-moved, AreSame-sym, AreBounds-same, AreFreeIn-same, AreFreeInAll-one, one-AreFreeInAll, AreFreeInAll-parts, AreFreeInAll-both}
use Rattle.rectangle_pack_plans.proofs.lemmas.cut_anew.FreeIn.{AreFreeInSomeOrder-moved, last_two_swapped, moved_between}
use Rattle.rectangle_pack_plans.proofs.lemmas.cut_anew.Slabs.{sections_of, boxes_in, sections_of-push, boxes_in-push}

-- where no plane is open no straight cuts part a room round two boxes that bound it
pub closed_cannot_be_cut : (room : Cuboid) (boxes : List Cuboid) → All (λ b. has_cells b ≡ true) boxes → 2 ≤ length boxes → AreClosed 3 room boxes
    → ¬ CanBeCut boxes room
closed_cannot_be_cut room boxes cells many closed h =
    let all = h.0 ++ boxes in
    let two : 2 ≤ count_by has_cells all =
    omega (arith, count-append has_cells h.0 boxes, length-filter has_cells boxes, ap length (filter_all has_cells boxes cells), many) in
    let plane = cuts_have_open_planes all room h.1 two in
    let is_open = plane.2 in
    closed plane.0 (rank_below plane.0) plane.1 (record {
      after_start = is_open.after_start;
      before_end = is_open.before_end;
      uncut = All-back (λ b. has_cells b ≡ true → IsUncut plane.0 plane.1 b) h.0 boxes is_open.uncut;
    })

-- the boxes in another order
pub AreInRoom-permutation : (room : Cuboid) (bs es : List Cuboid) → IsPermutation bs es → AreInRoom room bs → AreInRoom room es
AreInRoom-permutation room bs es moved h = record {
  some = omega (arith, length_permutation bs es moved, h.some);
  inside = All-permutation (λ b. IsPartOf b room) bs es moved h.inside;
  cells = All-permutation (λ b. has_cells b ≡ true) bs es moved h.cells;
}

-- a number, at least one, less for two rooms than for both together
abbrev pub room_weight : Room → ℕ
room_weight r = suc (r.count + r.count - 2)

weights : (fs : List Filled) → All (λ (f : Filled). 0 < length f.boxes) fs → sum_by room_weight (map counted fs) + length fs ≡ length (boxes_in fs) + length (boxes_in fs)
weights [] some = refl
weights (f ∷ fs) some =
    let here = All-head (λ (f : Filled). 0 < length f.boxes) f fs some in
    let rest = weights fs (All-tail (λ (f : Filled). 0 < length f.boxes) f fs some) in
    omega (arith, rest, here, sum_by-cons room_weight (counted f) (map counted fs), length-append f.boxes (boxes_in fs))

pub rooms_weigh_less : (room : Cuboid) (boxes : List Cuboid) (fs : List Filled) (r : Room) → r.count ≡ length boxes → 2 ≤ length fs → AreRoomsOf room boxes fs
    → sum_by room_weight (map counted fs) < room_weight r
rooms_weigh_less room boxes fs r count many are =
    omega (
      arith,
      many,
      count,
      ap length are.filling,
      weights fs (All-weaker (IsRoomOf room boxes) (λ (f : Filled). 0 < length f.boxes) (λ f h. h.in_room.some) fs are.each),
    )

-- the free sections found so far, the rooms still to be cut up, and the boxes behind those in them, which are done, are from
-- cuts of the whole
pub record IsPartlyCut (whole : Cuboid) (boxes : List Cuboid) (free : List FreeSection) (rooms : List Room) (now : List Cuboid) (left : ℕ) : Type 0 where
  pub fs : List Filled
  pub rooms_are : rooms ≡ map counted fs
  pub within : left ≤ length now
  pub filling : boxes_in fs ≡ take left now
  pub each : All (IsRoomOf whole boxes) fs
  pub from_cuts : IsFromCuts (sections_alone free ++ (sections_of fs ++ drop left now)) whole
  pub cells : All (λ s. has_cells s ≡ true) (sections_alone free)
  pub inside : All (λ (f : FreeSection). IsPartOf f.room whole) free
  pub leads : (more : List FreeSection) → AreFreeInAll fs more → AreFreeInSomeOrder whole boxes (free ++ more)

-- a list whose image ends with one entry
one_image : (hs : List Filled) (r : Room) → map counted hs ≡ r ∷ [] → (g : Filled) × (hs ≡ g ∷ []) × (counted g ≡ r)
one_image [] r h = absurd (omega (arith, ap length h))
one_image (g ∷ []) r h = (g, refl, ap (λ l. get_or l 0 r) h)
one_image (g ∷ k ∷ hs) r h = absurd (omega (arith, ap length h, length-map hs counted))

last_image : (fs : List Filled) (rs : List Room) (r : Room) → map counted fs ≡ rs ++ r ∷ []
    → (gs : List Filled) × (g : Filled) × (fs ≡ gs ++ g ∷ []) × (map counted gs ≡ rs) × (counted g ≡ r)
last_image fs [] r is = let one = one_image fs r is in ([], one.0, one.1, refl, one.2)
last_image [] (x ∷ rs) r is = absurd (omega (arith, ap length is))
last_image (f ∷ fs) (x ∷ rs) r is =
    let k = last_image fs rs r (ap (drop 1) is) in
    (f ∷ k.0, k.1, ap (λ l. f ∷ l) k.2, ap (λ y. y ∷ map counted k.0) (ap (λ l. get_or l 0 x) is) ∙ ap (λ l. x ∷ l) k.3, k.4)

-- the last n boxes of those that are left
abbrev pub last_boxes : ℕ → ℕ → List Cuboid → List Cuboid
last_boxes left n now = take (left - (left - n)) (drop (left - n) now)

module _ (left n : ℕ) (now : List Cuboid) (enough : n ≤ left) (within : left ≤ length now) where
  same_count : left - (left - n) ≡ n
  same_count = omega arith

  pub last_boxes-long : length (last_boxes left n now) ≡ n
  last_boxes-long = length-take-le (left - (left - n)) (drop (left - n) now) (omega (arith, length-drop (left - n) now)) ∙ same_count

  behind : drop (left - (left - n)) (drop (left - n) now) ≡ drop left now
  behind = drop-drop (left - (left - n)) (left - n) now ∙ ap (λ k. drop k now) (omega arith)

  pub last_boxes-rest : drop (left - n) now ≡ last_boxes left n now ++ drop left now
  last_boxes-rest = sym (take-append-drop (left - (left - n)) (drop (left - n) now)) ∙ ap (λ l. last_boxes left n now ++ l) behind

  module _ (es : List Cuboid) (long : length es ≡ n) where
    put_is : put_mid (left - n) (left - (left - n)) now es ≡ (take (left - n) now ++ es) ++ drop left now
    put_is = ap (λ l. take (left - n) now ++ (es ++ l)) behind ∙ sym (append_assoc (take (left - n) now) es (drop left now))

    front_long : length (take (left - n) now ++ es) ≡ left
    front_long = omega (arith, length-append (take (left - n) now) es, length-take-le (left - n) now (omega (arith, within)), long)

    pub put-front : take left (put_mid (left - n) (left - (left - n)) now es) ≡ take (left - n) now ++ es
    put-front = ap (take left) put_is ∙ take_at (take (left - n) now ++ es) (drop left now) left front_long

    pub put-back : drop left (put_mid (left - n) (left - (left - n)) now es) ≡ drop left now
    put-back = ap (drop left) put_is ∙ drop_at (take (left - n) now ++ es) (drop left now) left front_long

    pub put-long : left ≤ length (put_mid (left - n) (left - (left - n)) now es)
    put-long = omega (arith, ap length put_is, length-append (take (left - n) now ++ es) (drop left now), front_long)

-- one box is its own bounds
any_one : (P : Cuboid → Type 0) (b : Cuboid) → Any P (b ∷ []) → P b
any_one P b (zero, x, lt, at, p) = subst P (sym at) p
any_one P b (suc i, x, lt, at, p) = absurd (omega (arith, lt))

one_is_bounds : (bs : List Cuboid) (bounds : Cuboid) → length bs ≡ 1 → AreBounds bs bounds → bs ≡ bounds ∷ []
one_is_bounds [] bounds one h = absurd (omega (arith, one))
one_is_bounds (b ∷ []) bounds one h = ap (λ d. d ∷ []) (box_alike b bounds (λ a.
    (any_one (λ d. start a d ≡ start a bounds) b (h.starts a), any_one (λ d. end a d ≡ end a bounds) b (h.ends a))))
one_is_bounds (b ∷ d ∷ bs) bounds one h = absurd (omega (arith, one))

-- sections without their rooms, with strips behind them
sections-cut : (free : List FreeSection) (room : Cuboid) (strips : List Cuboid)
    → sections_alone (free ++ cut_from room strips) ≡ sections_alone free ++ strips
sections-cut free room strips = map-append (λ (f : FreeSection). f.section) free (cut_from room strips) ∙ ap (λ l. sections_alone free ++ l) (back strips)
  where
    back : (ss : List Cuboid) → sections_alone (cut_from room ss) ≡ ss
    back [] = refl
    back (s ∷ ss) = ap (λ l. s ∷ l) (back ss)

module _ (whole : Cuboid) (boxes : List Cuboid) where
  -- what is known once the last room is taken out
  pub record IsTaken (free : List FreeSection) (popped : List Room) (r : Room) (now : List Cuboid) (left : ℕ) : Type 0 where
    pub gs : List Filled
    pub popped_are : popped ≡ map counted gs
    pub enough : r.count ≤ left
    pub within : left ≤ length now
    pub front : boxes_in gs ≡ take (left - r.count) now
    pub each : All (IsRoomOf whole boxes) gs
    pub here : IsRoomOf whole boxes (record { section = r.section; boxes = last_boxes left r.count now; closed = r.closed })
    pub from_cuts : IsFromCuts (sections_alone free ++ (sections_of gs ++ r.section ∷ drop left now)) whole
    pub cells : All (λ s. has_cells s ≡ true) (sections_alone free)
    pub inside : All (λ (f : FreeSection). IsPartOf f.room whole) free
    pub leads : (more here : List FreeSection) → AreFreeInAll gs more → AreFreeIn None r.section (last_boxes left r.count now) here
        → AreFreeInSomeOrder whole boxes (free ++ (more ++ here))

  pub IsTaken-popped : (free : List FreeSection) (rooms popped : List Room) (r : Room) (now : List Cuboid) (left : ℕ) → rooms ≡ popped ++ r ∷ []
      → IsPartlyCut whole boxes free rooms now left → IsTaken free popped r now left
  IsTaken-popped free rooms popped r now left is h =
      let k = last_image h.fs popped r (sym h.rooms_are ∙ is) in
      let gs = k.0 in
      let f = k.1 in
      let each = subst (All (IsRoomOf whole boxes)) k.2 h.each in
      let joined : boxes_in gs ++ f.boxes ≡ take left now = sym (boxes_in-push gs f) ∙ ap boxes_in (sym k.2) ∙ h.filling in
      let count : length f.boxes ≡ r.count = ap (λ (r : Room). r.count) k.4 in
      let long : length (boxes_in gs) + length f.boxes ≡ left = omega (arith, sym (length-append (boxes_in gs) f.boxes), ap length joined, length-take-le left now h.within) in
      let first : length (boxes_in gs) ≡ left - r.count = omega (arith, long, count) in
      let sum : left ≡ (left - r.count) + (left - (left - r.count)) = omega (arith, long, count) in
      let here : f.boxes ≡ last_boxes left r.count now =
      sym (drop_at (boxes_in gs) f.boxes (left - r.count) first) ∙ ap (drop (left - r.count)) (joined ∙ ap (λ n. take n now) sum)
      ∙ drop-take (left - r.count) (left - (left - r.count)) now in
      record {
        gs = gs;
        popped_are = sym k.3;
        enough = omega (arith, long, count);
        within = h.within;
        front = sym (take_at (boxes_in gs) f.boxes (left - r.count) first) ∙ ap (take (left - r.count)) joined ∙ take-take (left - r.count) left now (omega arith);
        each = All-front (IsRoomOf whole boxes) gs (f ∷ []) each;
        here = subst (λ l. IsRoomOf whole boxes (record { section = r.section; boxes = l; closed = r.closed })) here
            (subst (λ (r : Room). IsRoomOf whole boxes (record { section = r.section; boxes = f.boxes; closed = r.closed })) k.4
            (All-head (IsRoomOf whole boxes) f [] (All-back (IsRoomOf whole boxes) gs (f ∷ []) each)));
        from_cuts = subst (λ l. IsFromCuts (sections_alone free ++ l) whole) (
            ap (λ l. l ++ drop left now) (ap sections_of k.2 ∙ sections_of-push gs f)
            ∙ append_assoc (sections_of gs) (f.section ∷ []) (drop left now)
            ∙ ap (λ s. sections_of gs ++ s ∷ drop left now) (ap (λ (r : Room). r.section) k.4)
            ) h.from_cuts;
        cells = h.cells;
        inside = h.inside;
        leads = λ more one others is_free. h.leads (more ++ one) (subst (λ fs. AreFreeInAll fs (more ++ one)) (sym k.2)
            (AreFreeInAll-both gs (f ∷ []) more one others (one-AreFreeInAll f one
            (subst (λ b. AreFreeIn None b f.boxes one) (sym (ap (λ (r : Room). r.section) k.4))
            (subst (λ l. AreFreeIn None r.section l one) (sym here) is_free)))));
      }

  -- the whole, with all boxes
  pub IsPartlyCut-start : (free : List FreeSection) (rooms : List Room) → free ≡ [] → rooms ≡ record { section = whole; count = length boxes; closed = None } ∷ [] → AreInRoom whole boxes
      → IsPartlyCut whole boxes free rooms boxes (length boxes)
  IsPartlyCut-start free rooms none one filled =
      let all : Filled = record { section = whole; boxes = boxes; closed = None } in
      let rest : drop (length boxes) boxes ≡ [] = nil_from_length (drop (length boxes) boxes) (omega (arith, length-drop (length boxes) boxes)) in
      record {
        fs = all ∷ [];
        rooms_are = one;
        within = omega arith;
        filling = append-nil boxes ∙ sym (take_all (length boxes) boxes (omega arith));
        each = All-cons (IsRoomOf whole boxes) all [] (record { in_room = filled; within = IsPartOf-refl whole; kept = λ h. h; closed = tt }) (All-nil (IsRoomOf whole boxes));
        from_cuts = rw (none, rest) (IsFromCuts-leaf whole);
        cells = rw none (All-nil (λ s. has_cells s ≡ true));
        inside = rw none (All-nil (λ (f : FreeSection). IsPartOf f.room whole));
        leads = λ more h. subst (λ l. AreFreeInSomeOrder whole boxes (l ++ more)) (sym none) (more, AreFreeInAll-one all more h, IsPermutation-refl more);
      }

  -- no room is left
  pub IsPartlyCut-end : (free : List FreeSection) (rooms : List Room) (now : List Cuboid) (left : ℕ) → rooms ≡ [] → IsPermutation boxes now
      → IsPartlyCut whole boxes free rooms now left
      → IsFromCuts (sections_alone free ++ boxes) whole × All (λ s. has_cells s ≡ true) (sections_alone free)
      × All (λ (f : FreeSection). IsPartOf f.room whole) free × AreFreeInSomeOrder whole boxes free
  IsPartlyCut-end free rooms now left none moved h =
      let empty : h.fs ≡ [] = nil_from_length h.fs (omega (arith, length-map h.fs counted, ap length (sym h.rooms_are ∙ none))) in
      let zero : left ≡ 0 = omega (arith, length-take-le left now h.within, ap length (sym h.filling ∙ ap boxes_in empty)) in
      let F = sections_alone free in
      let from : IsFromCuts (F ++ now) whole =
      subst (λ l. IsFromCuts (F ++ l) whole) (ap (λ fs. sections_of fs ++ drop left now) empty ∙ ap (λ k. drop k now) zero) h.from_cuts in (
        IsFromCuts-same (F ++ now) (F ++ boxes)
            (λ e cells. omega (arith, times_in-append e F now, times_in-append e F boxes, HaveSameBoxes-permutation boxes now moved e cells)) from,
        h.cells,
        h.inside,
        subst (AreFreeInSomeOrder whole boxes) (append-nil free) (h.leads [] (subst (λ fs. AreFreeInAll fs []) (sym empty) refl)),
      )

  module _ (free : List FreeSection) (popped : List Room) (r : Room) (now : List Cuboid) (left : ℕ) (h : IsTaken free popped r now left)
      (bounds : Cuboid) (strips : List Cuboid) (bound : AreBounds (last_boxes left r.count now) bounds) (round : AreStripsRound bounds r.section strips)
      (cut : AreStrips r.section bounds strips) where
    abbrev bs : List Cuboid
    bs = last_boxes left r.count now

    abbrev F : List Cuboid
    F = sections_alone free

    abbrev more_free : List FreeSection
    more_free = free ++ cut_from r.section strips

    -- the sections with those that are cut off now
    alone : F ++ strips ≡ sections_alone more_free
    alone = sym (sections-cut free r.section strips)

    cells : All (λ s. has_cells s ≡ true) (sections_alone more_free)
    cells = subst (All (λ s. has_cells s ≡ true)) alone (All-append (λ s. has_cells s ≡ true) F strips h.cells cut.cells)

    inside : All (λ (f : FreeSection). IsPartOf f.room whole) more_free
    inside = All-append (λ (f : FreeSection). IsPartOf f.room whole) free (cut_from r.section strips) h.inside
        (All-map (λ (f : FreeSection). IsPartOf f.room whole) (λ s. record { section = s; room = r.section }) strips (λ k d lt. h.here.within))

    kept : CanBeCut boxes whole → CanBeCut bs bounds
    kept all = cut.kept bs bound.inside h.here.in_room.cells (h.here.kept all)

    -- the strips and the bounds in the place of the room
    cut_off : IsFromCuts (sections_alone more_free ++ (sections_of h.gs ++ bounds ∷ drop left now)) whole
    cut_off =
        let G = sections_of h.gs in
        let D = drop left now in
        let P = strips ++ bounds ∷ [] in
        subst (λ l. IsFromCuts (l ++ (G ++ bounds ∷ D)) whole) alone (IsFromCuts-same ((F ++ G) ++ (P ++ D)) ((F ++ strips) ++ (G ++ bounds ∷ D))
        (λ e k. omega (
          arith,
          times_in-append e (F ++ G) (P ++ D),
          times_in-append e F G,
          times_in-append e P D,
          times_in-append e strips (bounds ∷ []),
          times_in-append e (F ++ strips) (G ++ bounds ∷ D),
          times_in-append e F strips,
          times_in-append e G (bounds ∷ D),
          times_in-cons e bounds D,
        ))
        (IsFromCuts-for (F ++ G) D P (subst (λ l. IsFromCuts l whole) (sym (append_assoc F G (r.section ∷ D))) h.from_cuts) cut.from_cuts))

    -- one box is its bounds
    pub IsPartlyCut-one : r.count ≡ 1 → IsPartlyCut whole boxes more_free popped now (left - r.count)
    IsPartlyCut-one one = record {
      fs = h.gs;
      rooms_are = h.popped_are;
      within = omega (arith, h.within);
      filling = h.front;
      each = h.each;
      from_cuts = subst (λ l. IsFromCuts (sections_alone more_free ++ (sections_of h.gs ++ l)) whole)
          (ap (λ l. l ++ drop left now) (sym (one_is_bounds bs bounds (last_boxes-long left r.count now h.enough h.within ∙ one) bound))
          ∙ sym (last_boxes-rest left r.count now h.enough h.within)) cut_off;
      cells = cells;
      inside = inside;
      leads = λ more others. AreFreeInSomeOrder-moved whole boxes (free ++ (more ++ cut_from r.section strips)) (more_free ++ more) (last_two_swapped free more (cut_from r.section strips))
          (h.leads more (cut_from r.section strips) others (OneBox bounds strips (last_boxes-long left r.count now h.enough h.within ∙ one) bound round));
    }

    -- no straight cuts part the bounds
    pub cannot_be_cut : ¬ CanBeCut bs bounds → ¬ CanBeCut boxes whole
    cannot_be_cut none all = none (kept all)

    -- other rooms in the place of the bounds
    pub IsPartlyCut-more : (es : List Cuboid) (hs : List Filled) (rooms : List Room) → IsPermutation bs es → AreRoomsOf bounds es hs → AreFirstSlabs bounds es hs
        → 2 ≤ length es → rooms ≡ popped ++ map counted hs
        → IsPartlyCut whole boxes more_free rooms (put_mid (left - r.count) (left - (left - r.count)) now es) left
    IsPartlyCut-more es hs rooms moved are slabs many pushed =
        let long : length es ≡ r.count = length_permutation bs es moved ∙ last_boxes-long left r.count now h.enough h.within in
        let back = put-back left r.count now h.enough h.within es long in
        let D = drop left now in
        let G = sections_of h.gs in
        let H = sections_of hs in
        record {
          fs = h.gs ++ hs;
          rooms_are = pushed ∙ ap (λ l. l ++ map counted hs) h.popped_are ∙ sym (map-append counted h.gs hs);
          within = put-long left r.count now h.enough h.within es long;
          filling = flat_map-append (λ (f : Filled). f.boxes) h.gs hs ∙ ap (λ l. l ++ boxes_in hs) h.front ∙ ap (λ l. take (left - r.count) now ++ l) are.filling
              ∙ sym (put-front left r.count now h.enough h.within es long);
          each = All-append (IsRoomOf whole boxes) h.gs hs h.each (All-weaker (IsRoomOf bounds es) (IsRoomOf whole boxes) (λ f k. record {
            in_room = k.in_room;
            within = IsPartOf-trans f.section bounds whole k.within (IsPartOf-trans bounds r.section whole cut.within h.here.within);
            kept = λ all. k.kept (CanBeCut-same bs es bounds (HaveSameBoxes-permutation bs es moved) (kept all));
            closed = k.closed;
          }) hs are.each);
          from_cuts = subst (λ l. IsFromCuts (sections_alone more_free ++ l) whole)
              (sym (append_assoc G H D) ∙ ap (λ l. (G ++ H) ++ l) (sym back)
              ∙ ap (λ l. l ++ drop left (put_mid (left - r.count) (left - (left - r.count)) now es)) (sym (map-append (λ (f : Filled). f.section) h.gs hs)))
              (subst (λ l. IsFromCuts l whole) (append_assoc (sections_alone more_free) G (H ++ D))
              (IsFromCuts-for (sections_alone more_free ++ G) D H (subst (λ l. IsFromCuts l whole) (sym (append_assoc (sections_alone more_free) G (bounds ∷ D))) cut_off) are.from_cuts));
          cells = cells;
          inside = inside;
          leads = λ more all.
              let k = AreFreeInAll-parts h.gs hs more all in
              let C = cut_from r.section strips in
              let same = AreSame-moved bs es moved h.here.in_room.cells in
              let here : AreFreeIn None r.section es (C ++ k.1) =
              ManyBoxes bounds strips k.1 slabs.axis many (AreBounds-same bs es same bounds bound) round slabs.first (slabs.slabs k.1 k.4) in
              AreFreeInSomeOrder-moved whole boxes (free ++ (k.0 ++ (C ++ k.1))) (more_free ++ more)
              (subst (λ l. IsPermutation (free ++ (k.0 ++ (C ++ k.1))) (more_free ++ l)) (sym k.2) (moved_between free k.0 C k.1))
              (h.leads k.0 (C ++ k.1) k.3 (AreFreeIn-same bs (AreSame-sym bs es same) here));
        }

-- boxes that are put back where they stood
pub put_same : (a k : ℕ) (xs : List Cuboid) → put_mid a k xs (take k (drop a xs)) ≡ xs
put_same a k xs = ap (λ l. take a xs ++ l) (take-append-drop k (drop a xs)) ∙ take-append-drop a xs

pub IsPartlyCut-same : (whole : Cuboid) (boxes : List Cuboid) (free more : List FreeSection) (rooms : List Room) (now put : List Cuboid) (left : ℕ) → more ≡ free → put ≡ now
    → IsPartlyCut whole boxes free rooms now left → IsPartlyCut whole boxes more rooms put left
IsPartlyCut-same whole boxes free more rooms now put left found stands h = rw (found, stands) h

-- the bounds of boxes in a room are a part of it, and have cells
module _ (room bounds : Cuboid) (bs : List Cuboid) (filled : AreInRoom room bs) (bound : AreBounds bs bounds) where
  pub bounds_inside : IsPartOf bounds room
  bounds_inside = is_part bounds room (λ a.
      let s = bound.starts a in
      let e = bound.ends a in
      let first = stays_in s.1 room (subst (λ b. IsPartOf b room) s.3 (filled.inside s.0 s.1 s.2)) a in
      let last = stays_in e.1 room (subst (λ b. IsPartOf b room) e.3 (filled.inside e.0 e.1 e.2)) a in
      (omega (arith, first, s.4), omega (arith, last, e.4)))

  pub bounds_have_cells : has_cells bounds ≡ true
  bounds_have_cells = cells-part (get_or bs 0 bounds) bounds (bound.inside 0 bounds filled.some) (filled.cells 0 bounds filled.some)

  pub AreInRoom-bounds : AreInRoom bounds bs
  AreInRoom-bounds = record { some = filled.some; inside = bound.inside; cells = filled.cells }

pub boxes_fit : (whole room : Cuboid) (bs : List Cuboid) → FitsU32 whole → IsPartOf room whole → All (λ b. IsPartOf b room) bs → All FitsU32 bs
boxes_fit whole room bs fits part inside =
    All-weaker (λ b. IsPartOf b room) FitsU32 (λ b h. FitsU32-part b whole (IsPartOf-trans b room whole h part) fits) bs inside

-- the rooms weigh less once others that weigh less stand in the place of the last one
pub rooms_lighter : (items popped more : List Room) (hs : List Filled) (r : Room) → items ≡ popped ++ r ∷ [] → more ≡ popped ++ map counted hs
    → sum_by room_weight (map counted hs) < room_weight r → sum_by room_weight more < sum_by room_weight items
rooms_lighter items popped more hs r is pushed lighter = omega (
  arith,
  ap (sum_by room_weight) is,
  sum_by_push room_weight popped r,
  ap (sum_by room_weight) pushed,
  sum_by-append room_weight popped (map counted hs),
  lighter,
)
