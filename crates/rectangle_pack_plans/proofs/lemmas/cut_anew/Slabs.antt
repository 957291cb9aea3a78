-- The slabs of a room that is cut at each open plane of an axis, in the order of its boxes.
use Rattle.rectangle_pack_sections.proofs.Std.{ℕ, ◌+◌, ◌-◌, ◌<◌, ◌≤◌, ◌≡◌, max, true, List, [], ◌∷◌, ◌++◌, length, map, take, drop, get_or, refl, ap, sym, ◌∙◌}
use Rattle.rectangle_pack_sections.proofs.Std.{subst, arith, inl, inr, ◌⊎◌, Some, None, nat_le, le-leb, lt-leb}
use Rattle.rectangle_pack_sections.proofs.Std.{All, All-nil, All-cons, All-append, All-more, All-weaker, All-take, All-drop, All-contains}
use Rattle.rectangle_pack_sections.proofs.Std.{Contains, IsNonDecreasingBy, cases_lt}
use Rattle.rectangle_pack_sections.proofs.Std.{append-nil, append_assoc, map-append, length-append, length-drop, length-take-le, take_all, take-append-drop}
use Rattle.rectangle_pack_sections.proofs.Std.{take-take, drop-append-le}
use Rattle.rectangle_pack_sections.proofs.Std.{get_or-drop, get_or_default}
use Rattle.std.specs.List.{flat_map}
use Rattle.std.proofs.lemmas.Grind.{flat_map-append}
use Rattle.rectangle_pack_sections.specs.declared.axis.Axis.{Axis}
use Rattle.rectangle_pack_sections.specs.Boxes.{Cuboid, IsPartOf, extent, start, end, has_cells}
use Rattle.rectangle_pack_sections.specs.CutTrees.{lower, upper, IsPlaceOf, IsFromCuts}
use Rattle.rectangle_pack_plans.specs.declared.cut_anew.slabs.Room.{Room}
use Rattle.rectangle_pack_plans.specs.declared.cut_anew.strips.FreeSection.{FreeSection}
use Rattle.rectangle_pack_plans.specs.CutPlans.{IsUncut, IsOpenPlane, lower_boxes, upper_boxes}
use Rattle.rectangle_pack_plans.specs.private.CutPlans.{IsClosedBelow, IsClosedOn}
use Rattle.rectangle_pack_plans.specs.CuttingAnew.{AreBounds, EndsSlab, EndsFirstSlab, AreFreeIn, FirstSlab, LastSlab}
use Rattle.rectangle_pack_plans.specs.private.CuttingAnew.{CanBeCut, AreInRoom, AreClosedWithin, Filled, counted, IsRoomOf, AreRoomsOf, HasPlaneOn, AreFreeInAll, AreSlabsOn}
use Rattle.rectangle_pack_sections.proofs.lemmas.util.Lists.{All-front, All-back}
use Rattle.rectangle_pack_sections.proofs.lemmas.cuts.Axes.{stays_in, runs_on, end-is, IsPartOf-refl, IsPartOf-trans}
use Rattle.rectangle_pack_sections.proofs.lemmas.cuts.Parts.{start-upper, lower-part, upper-part}
use Rattle.rectangle_pack_sections.proofs.lemmas.cuts.Trees.{IsFromCuts-leaf, IsFromCuts-cut}
use Rattle.rectangle_pack_plans.proofs.lemmas.cut_plan.FirstOpen.{IsClosedBelow-more, filter_front, filter_back}
use Rattle.rectangle_pack_plans.proofs.lemmas.cut_anew.Halves.{IsFromCuts-for, CanBeCut-lower, CanBeCut-upper}
use Rattle.rectangle_pack_plans.proofs.lemmas.cut_anew.FreeIn.{AreFreeInAll-one, AreFreeInAll-parts}
use Rattle.rectangle_pack_plans.proofs.lemmas.cut_anew.Strips.{part_of_lower, part_of_upper}

abbrev pub sections_of : List Filled → List Cuboid
sections_of fs = map (λ (f : Filled). f.section) fs

abbrev pub boxes_in : List Filled → List Cuboid
boxes_in fs = flat_map (λ (f : Filled). f.boxes) fs

pub sections_of-push : (fs : List Filled) (f : Filled) → sections_of (fs ++ f ∷ []) ≡ sections_of fs ++ f.section ∷ []
sections_of-push fs f = map-append (λ (f : Filled). f.section) fs (f ∷ [])

pub boxes_in-push : (fs : List Filled) (f : Filled) → boxes_in (fs ++ f ∷ []) ≡ boxes_in fs ++ f.boxes
boxes_in-push fs f = flat_map-append (λ (f : Filled). f.boxes) fs (f ∷ []) ∙ ap (λ l. boxes_in fs ++ l) (append-nil f.boxes)

-- a slab is put at the end of the rooms
pub rooms_pushed : (old items new : List Room) (fs : List Filled) (f : Filled) (section : Cuboid) (count : ℕ) → items ≡ old ++ map counted fs
    → new ≡ items ++ record { section = section; count = count; closed = f.closed } ∷ [] → section ≡ f.section → count ≡ length f.boxes
    → new ≡ old ++ map counted (fs ++ f ∷ [])
rooms_pushed old items new fs f section count had pushed same long =
    let r : Room = record { section = section; count = count; closed = f.closed } in
    let is : r ≡ counted f = λ i. record { section = same i; count = long i; closed = f.closed } in
    pushed ∙ ap (λ l. l ++ r ∷ []) had ∙ append_assoc old (map counted fs) (r ∷ []) ∙ ap (λ x. old ++ (map counted fs ++ x ∷ [])) is
    ∙ ap (λ l. old ++ l) (sym (map-append counted fs (f ∷ [])))

-- boxes that end before a place below which no plane is open leave none open within their bounds
closed_within : (a : Axis) (reach : ℕ) (rest : Cuboid) (xs ys : List Cuboid) → IsClosedBelow a reach rest (xs ++ ys) → All (λ b. IsPartOf b rest) xs
    → All (λ b. end a b ≤ reach) xs → All (λ b. reach ≤ start a b) ys → AreClosedWithin (Some a) xs
closed_within a reach rest xs ys closed inside ended beyond bounds bound q is_open =
    let first = bound.starts a in
    let last = bound.ends a in
    let Uncut : Cuboid → Type 0 = λ b. has_cells b ≡ true → IsUncut a q b in
    let from : start a rest ≤ start a bounds =
    omega (arith, first.4, stays_in first.1 rest (subst (λ b. IsPartOf b rest) first.3 (inside first.0 first.1 first.2)) a) in
    let to : end a bounds ≤ end a rest =
    omega (arith, last.4, stays_in last.1 rest (subst (λ b. IsPartOf b rest) last.3 (inside last.0 last.1 last.2)) a) in
    let before : q < reach = omega (arith, is_open.before_end, last.4, ap (end a) last.3, ended last.0 last.1 last.2) in
    closed q before (record {
      after_start = omega (arith, from, is_open.after_start);
      before_end = omega (arith, to, is_open.before_end);
      uncut = All-append Uncut xs ys is_open.uncut (All-weaker (λ b. reach ≤ start a b) Uncut (λ b h cells. inr (omega (arith, h, before))) ys beyond);
    })

-- no plane is open on an axis on which a room has one cell
pub IsClosedOn-flat : (a : Axis) (room : Cuboid) (boxes : List Cuboid) → extent a room.whd ≤ 1 → IsClosedOn a room boxes
IsClosedOn-flat a room boxes thin q is_open = omega (arith, thin, end-is a room, is_open.after_start, is_open.before_end)

-- the first i boxes of a room were looked at: the slabs `fs` have the first `begun` of them, the rest of the room has the others
pub record IsSwept (a : Axis) (room : Cuboid) (boxes : List Cuboid) (i begun reach : ℕ) (rest : Cuboid) (fs : List Filled) : Type 0 where
  pub looked : i ≤ length boxes
  pub begun_before : begun ≤ i
  pub behind : 0 < i → begun < i
  pub none : begun ≡ 0 → fs ≡ []
  pub some : 0 < begun → 0 < length fs
  pub filling : boxes_in fs ≡ take begun boxes
  pub from_cuts : IsFromCuts (sections_of fs ++ rest ∷ []) room
  pub each : All (IsRoomOf room boxes) fs
  pub within : IsPartOf rest room
  pub inside : All (λ b. IsPartOf b rest) (drop begun boxes)
  pub kept : CanBeCut boxes room → CanBeCut (drop begun boxes) rest
  pub ended : All (λ b. end a b ≤ reach) (take i boxes)
  pub first : begun ≡ 0 → rest ≡ room
  pub closed : IsClosedBelow a reach rest (drop begun boxes)
  pub has_plane : 0 < begun → HasPlaneOn a room boxes
  pub slabs : (free left : List FreeSection) → AreFreeInAll fs free → AreFreeIn (Some a) rest (drop begun boxes) left → AreFreeIn (Some a) room boxes (free ++ left)

module _ (a : Axis) (room : Cuboid) (boxes : List Cuboid) (filled : AreInRoom room boxes) (bounds : AreBounds boxes room)
    (ordered : IsNonDecreasingBy (start a) boxes) where
  pub IsSwept-none : IsSwept a room boxes 0 0 (start a room) room []
  IsSwept-none = record {
    looked = omega arith;
    begun_before = omega arith;
    behind = λ some. some;
    none = λ e. refl;
    some = λ some. absurd (omega (arith, some));
    filling = refl;
    from_cuts = IsFromCuts-leaf room;
    each = All-nil (IsRoomOf room boxes);
    within = IsPartOf-refl room;
    inside = filled.inside;
    kept = λ h. h;
    ended = All-nil (λ b. end a b ≤ start a room);
    first = λ e. refl;
    closed = λ q lt is_open. omega (arith, lt, is_open.after_start);
    has_plane = λ some. absurd (omega (arith, some));
    slabs = λ free left none h. subst (λ l. AreFreeIn (Some a) room boxes (l ++ left)) (sym none) h;
  }

  -- the first box starts where the room does
  first_starts : (e : Cuboid) → 0 < length boxes → e ≡ get_or boxes 0 e → start a e ≤ start a room
  first_starts e some at =
      let r = bounds.starts a in
      omega (arith, r.4, ap (start a) r.3, ap (start a) at, ordered 0 r.0 e (omega arith) r.2, ap (start a) (get_or_default boxes r.0 r.1 e r.2))

  module _ (i begun reach : ℕ) (next rest : Cuboid) (fs : List Filled) (within : i < length boxes) (at : next ≡ get_or boxes i next)
      (h : IsSwept a room boxes i begun reach rest fs) where
    cells : has_cells next ≡ true
    cells = subst (λ b. has_cells b ≡ true) (sym at) (filled.cells i next within)

    more_ended : All (λ b. end a b ≤ max reach (end a next)) (take (i + 1) boxes)
    more_ended = All-more (λ b. end a b ≤ max reach (end a next)) boxes i next within
        (All-weaker (λ b. end a b ≤ reach) (λ b. end a b ≤ max reach (end a next)) (λ b k. omega arith) (take i boxes) h.ended)
        (omega (arith, ap (end a) at))

    -- the next box is one of those from an earlier place on
    next_left : {n : ℕ} → n ≤ i → Contains (drop n boxes) next
    next_left {n} early = (
      i - n,
      omega (arith, length-drop n boxes, within),
      get_or-drop n boxes (i - n) next ∙ ap (λ k. get_or boxes k next) (omega arith) ∙ sym at,
    )

    -- the next box belongs to the slab that is begun
    pub IsSwept-more : (0 < i → start a next < reach) → IsSwept a room boxes (i + 1) begun (max reach (end a next)) rest fs
    IsSwept-more before = record {
      looked = omega (arith, within);
      begun_before = omega (arith, h.begun_before);
      behind = λ some. omega (arith, h.begun_before);
      none = h.none;
      some = h.some;
      filling = h.filling;
      from_cuts = h.from_cuts;
      each = h.each;
      within = h.within;
      inside = h.inside;
      kept = h.kept;
      ended = more_ended;
      first = h.first;
      closed = IsClosedBelow-more a rest (drop begun boxes) reach next (next_left (omega (arith, h.begun_before))) cells
          (elim (cases_lt 0 i) [
            | inl some ↦ inr (before some)
            | inr none ↦ inl (rw (h.first (omega (arith, none, h.begun_before)))
                (first_starts next (omega arith) (at ∙ ap (λ k. get_or boxes k next) (omega arith))))
          ]) h.closed;
      has_plane = h.has_plane;
      slabs = h.slabs;
    }

    -- or it begins a new one
    module _ (some : 0 < i) (beyond : reach ≤ start a next) where
      abbrev place : ℕ
      place = start a next

      abbrev xs : List Cuboid
      xs = drop begun (take i boxes)

      abbrev ys : List Cuboid
      ys = drop i boxes

      long : length (take i boxes) ≡ i
      long = length-take-le i boxes (omega (arith, within))

      parted : xs ++ ys ≡ drop begun boxes
      parted = sym (drop-append-le begun (take i boxes) (drop i boxes) (omega (arith, long, h.begun_before))) ∙ ap (drop begun) (take-append-drop i boxes)

      front : take begun boxes ++ xs ≡ take i boxes
      front = ap (λ l. l ++ xs) (sym (take-take begun i boxes h.begun_before)) ∙ take-append-drop begun (take i boxes)

      next_inside : IsPartOf next rest
      next_inside = All-contains (λ b. IsPartOf b rest) (drop begun boxes) next h.inside (next_left (omega (arith, h.begun_before)))

      pub slab_place : IsPlaceOf a place rest
      slab_place = record { from = (stays_in next rest next_inside a).0; to = omega (arith, stays_in next rest next_inside a, end-is a next) }

      below : All (λ b. end a b ≤ place) xs
      below = All-drop (λ b. end a b ≤ place) begun (take i boxes)
          (All-weaker (λ b. end a b ≤ reach) (λ b. end a b ≤ place) (λ b k. omega arith) (take i boxes) h.ended)

      above : All (λ b. place ≤ start a b) ys
      above = λ k d lt.
          let there : i + k < length boxes = omega (arith, length-drop i boxes, lt) in
          omega (arith, ap (start a) (at ∙ get_or_default boxes i next d within), ordered i (i + k) d (omega arith) there, ap (start a) (get_or-drop i boxes k d))

      both_inside : All (λ b. IsPartOf b rest) (xs ++ ys)
      both_inside = subst (All (λ b. IsPartOf b rest)) (sym parted) h.inside

      -- what is known of the boxes on both sides of the place
      cells_before : All (λ b. has_cells b ≡ true) xs
      cells_before = All-drop (λ b. has_cells b ≡ true) begun (take i boxes) (All-take (λ b. has_cells b ≡ true) i boxes filled.cells)

      cells_behind : All (λ b. has_cells b ≡ true) ys
      cells_behind = All-drop (λ b. has_cells b ≡ true) i boxes filled.cells

      ended_before : All (λ b. end a b ≤ reach) xs
      ended_before = All-drop (λ b. end a b ≤ reach) begun (take i boxes) h.ended

      some_before : 0 < length xs
      some_before = omega (arith, length-drop begun (take i boxes), long, h.behind some)

      place_after : start a rest < place
      place_after =
          let inside = All-front (λ b. IsPartOf b rest) xs ys both_inside in
          let b = get_or xs 0 rest in
          omega (
            arith,
            stays_in b rest (inside 0 rest some_before) a,
            runs_on b (cells_before 0 rest some_before) a,
            ended_before 0 rest some_before,
            beyond,
          )

      -- the plane there is open, the first at which a box starts
      is_open : IsOpenPlane a place rest (xs ++ ys)
      is_open = record {
        after_start = place_after;
        before_end = omega (arith, stays_in next rest next_inside a, runs_on next cells a);
        uncut = All-append (λ b. has_cells b ≡ true → IsUncut a place b) xs ys
            (All-weaker (λ b. end a b ≤ place) (λ b. has_cells b ≡ true → IsUncut a place b) (λ b k full. inl k) xs below)
            (All-weaker (λ b. place ≤ start a b) (λ b. has_cells b ≡ true → IsUncut a place b) (λ b k full. inr k) ys above);
      }

      ends_slab : EndsFirstSlab a place rest (xs ++ ys)
      ends_slab =
          let there = subst (λ l. Contains l next) (sym parted) (next_left (omega (arith, h.begun_before))) in
          let Apart : Cuboid → Type 0 = λ b. (start a b < reach) ⊎ (place ≤ start a b) in
          let apart : All Apart (xs ++ ys) = All-append Apart xs ys
          (λ k d lt. inl (omega (arith, ended_before k d lt, runs_on (get_or xs k d) (cells_before k d lt) a)))
          (All-weaker (λ b. place ≤ start a b) Apart (λ b k. inr k) ys above) in
          record {
            here = record { is_open = is_open; starts = (there.0, next, there.1, there.2, refl) };
            first = λ q before ends.
                let r = ends.starts in
                elim (apart r.0 r.1 r.2) [
                  | inl reached ↦
                      subst (λ l. IsClosedBelow a reach rest l) (sym parted) h.closed q (omega (arith, reached, r.4, ap (start a) r.3)) ends.is_open
                  | inr behind ↦ absurd (omega (arith, behind, r.4, ap (start a) r.3, before))
                ];
          }

      boxes_below : lower_boxes a place (xs ++ ys) ≡ xs
      boxes_below = filter_front (λ b. nat_le (end a b) place) xs ys (λ k d lt. le-leb _ _ (below k d lt))
          (λ k d lt. lt-leb _ _ (omega (arith, above k d lt, runs_on (get_or ys k d) (cells_behind k d lt) a)))

      boxes_above : upper_boxes a place (xs ++ ys) ≡ ys
      boxes_above = filter_back (λ b. nat_le place (start a b)) xs ys
          (λ k d lt. lt-leb _ _ (omega (arith, below k d lt, runs_on (get_or xs k d) (cells_before k d lt) a)))
          (λ k d lt. le-leb _ _ (above k d lt))

      -- free sections of the slab and of what is above it
      slab_and_rest : (low up : List FreeSection) → AreFreeIn None (lower a place rest) xs low → AreFreeIn (Some a) (upper a place rest) ys up
          → AreFreeIn (Some a) rest (drop begun boxes) (low ++ up)
      slab_and_rest low up here left = subst (λ l. AreFreeIn (Some a) rest l (low ++ up)) parted
          (FirstSlab place low up ends_slab (subst (λ l. AreFreeIn None (lower a place rest) l low) (sym boxes_below) here)
          (subst (λ l. AreFreeIn (Some a) (upper a place rest) l up) (sym boxes_above) left))

      abbrev slab : Filled
      slab = record { section = lower a place rest; boxes = xs; closed = Some a }

      pub slab_has : counted slab ≡ record { section = lower a place rest; count = i - begun; closed = Some a }
      slab_has = ap (λ n. record { section = lower a place rest; count = n; closed = Some a }) (omega (arith, length-drop begun (take i boxes), long))

      slab_is : IsRoomOf room boxes slab
      slab_is = record {
        in_room = record {
          some = omega (arith, length-drop begun (take i boxes), long, h.behind some);
          inside = λ k d lt. part_of_lower a place rest slab_place _ (All-front (λ b. IsPartOf b rest) xs ys both_inside k d lt) (below k d lt);
          cells = All-drop (λ b. has_cells b ≡ true) begun (take i boxes) (All-take (λ b. has_cells b ≡ true) i boxes filled.cells);
        };
        within = IsPartOf-trans (lower a place rest) rest room (lower-part a place rest slab_place) h.within;
        kept = λ all. CanBeCut-lower a place xs ys rest slab_place below above (subst (λ l. CanBeCut l rest) (sym parted) (h.kept all));
        closed = closed_within a reach rest xs ys (subst (λ l. IsClosedBelow a reach rest l) (sym parted) h.closed)
            (All-front (λ b. IsPartOf b rest) xs ys both_inside) (All-drop (λ b. end a b ≤ reach) begun (take i boxes) h.ended)
            (All-weaker (λ b. place ≤ start a b) (λ b. reach ≤ start a b) (λ b k. omega (arith, k, beyond)) ys above);
      }

      pub IsSwept-slab : IsSwept a room boxes (i + 1) i (max reach (end a next)) (upper a place rest) (fs ++ slab ∷ [])
      IsSwept-slab = record {
        looked = omega (arith, within);
        begun_before = omega arith;
        behind = λ some. omega arith;
        none = λ e. absurd (omega (arith, e, some));
        some = λ s. omega (arith, length-append fs (slab ∷ []));
        filling = boxes_in-push fs slab ∙ ap (λ l. l ++ xs) h.filling ∙ front;
        from_cuts = rw (sections_of-push fs slab, append_assoc (sections_of fs) (lower a place rest ∷ []) (upper a place rest ∷ []))
            (IsFromCuts-for (sections_of fs) [] (lower a place rest ∷ upper a place rest ∷ []) h.from_cuts
            (IsFromCuts-cut a place rest (lower a place rest ∷ []) (upper a place rest ∷ []) slab_place (IsFromCuts-leaf _) (IsFromCuts-leaf _)));
        each = All-append (IsRoomOf room boxes) fs (slab ∷ []) h.each (All-cons (IsRoomOf room boxes) slab [] slab_is (All-nil (IsRoomOf room boxes)));
        within = IsPartOf-trans (upper a place rest) rest room (upper-part a place rest slab_place) h.within;
        inside = λ k d lt. part_of_upper a place rest slab_place _ (All-back (λ b. IsPartOf b rest) xs ys both_inside k d lt) (above k d lt);
        kept = λ all. CanBeCut-upper a place xs ys rest slab_place below above (subst (λ l. CanBeCut l rest) (sym parted) (h.kept all));
        ended = more_ended;
        first = λ e. absurd (omega (arith, e, some));
        closed = λ q lt. IsClosedBelow-more a (upper a place rest) ys place next (next_left (omega arith)) cells
            (inl (omega (arith, start-upper a place rest))) (λ q lt is_open. omega (arith, lt, is_open.after_start, start-upper a place rest))
            q (omega (arith, lt, beyond));
        has_plane = λ s. elim (cases_lt 0 begun) [
          | inl later ↦ h.has_plane later
          | inr none ↦
              let zero : begun ≡ 0 = omega (arith, none) in (
                place,
                subst (λ b. IsOpenPlane a place b boxes) (h.first zero)
                    (subst (λ n. IsOpenPlane a place rest (drop n boxes)) zero (subst (IsOpenPlane a place rest) parted is_open)),
              )
        ];
        slabs = λ free left all h_left.
            let r = AreFreeInAll-parts fs (slab ∷ []) free all in
            subst (AreFreeIn (Some a) room boxes) (sym (ap (λ l. l ++ left) r.2 ∙ append_assoc r.0 r.1 left))
            (h.slabs r.0 (r.1 ++ left) r.3 (slab_and_rest r.1 left (AreFreeInAll-one slab r.1 r.4) h_left));
      }

  module _ (i begun reach : ℕ) (rest : Cuboid) (fs : List Filled) (all : length boxes ≤ i) (h : IsSwept a room boxes i begun reach rest fs) where
    -- no plane is open
    all_ended : All (λ b. end a b ≤ reach) boxes
    all_ended = subst (All (λ b. end a b ≤ reach)) (take_all i boxes all) h.ended

    pub IsSwept-closed : begun ≡ 0 → IsClosedOn a room boxes
    IsSwept-closed e q is_open =
        let r = bounds.ends a in
        let closed : IsClosedBelow a reach room boxes = rw (← h.first e) (subst (λ n. IsClosedBelow a reach rest (drop n boxes)) e h.closed) in
        closed q (omega (arith, is_open.before_end, r.4, ap (end a) r.3, all_ended r.0 r.1 r.2)) is_open

    abbrev last : Filled
    last = record { section = rest; boxes = drop begun boxes; closed = Some a }

    -- what is left is the last slab
    left : begun < length boxes
    left = omega (arith, h.looked, h.behind (omega (arith, all, filled.some)))

    -- no slab ends in it
    none_ends : (q : ℕ) → ¬ EndsSlab a q rest (drop begun boxes)
    none_ends q ends =
        let r = ends.starts in
        let cells = All-drop (λ b. has_cells b ≡ true) begun boxes filled.cells r.0 r.1 r.2 in
        let ended = All-drop (λ b. end a b ≤ reach) begun boxes all_ended r.0 r.1 r.2 in
        h.closed q (omega (arith, r.4, ap (start a) r.3, ended, runs_on (get_or (drop begun boxes) r.0 r.1) cells a)) ends.is_open

    pub IsSwept-slabs : AreSlabsOn a room boxes (fs ++ last ∷ [])
    IsSwept-slabs free all =
        let r = AreFreeInAll-parts fs (last ∷ []) free all in
        subst (AreFreeIn (Some a) room boxes) (sym r.2) (h.slabs r.0 r.1 r.3 (LastSlab none_ends (AreFreeInAll-one last r.1 r.4)))

    pub IsSwept-all : 0 < begun → (2 ≤ length (fs ++ last ∷ [])) × AreRoomsOf room boxes (fs ++ last ∷ [])
    IsSwept-all some = (
      omega (arith, length-append fs (last ∷ []), h.some some),
      record {
        from_cuts = rw (sections_of-push fs last) h.from_cuts;
        filling = boxes_in-push fs last ∙ ap (λ l. l ++ drop begun boxes) h.filling ∙ take-append-drop begun boxes;
        each = All-append (IsRoomOf room boxes) fs (last ∷ []) h.each (All-cons (IsRoomOf room boxes) last [] (record {
          in_room = record {
            some = omega (arith, length-drop begun boxes, left);
            inside = h.inside;
            cells = All-drop (λ b. has_cells b ≡ true) begun boxes filled.cells;
          };
          within = h.within;
          kept = h.kept;
          closed = closed_within a reach rest (drop begun boxes) [] (subst (λ l. IsClosedBelow a reach rest l) (sym (append-nil (drop begun boxes))) h.closed)
              h.inside (All-drop (λ b. end a b ≤ reach) begun boxes all_ended) (All-nil (λ b. reach ≤ start a b));
        }) (All-nil (IsRoomOf room boxes)));
      },
    )

pub IsSwept-same : (a : Axis) (room : Cuboid) (boxes : List Cuboid) (i b c n m : ℕ) (d e : Cuboid) (fs : List Filled) → c ≡ b → m ≡ n → e ≡ d
    → IsSwept a room boxes i b n d fs → IsSwept a room boxes i c m e fs
IsSwept-same a room boxes i b c n m d e fs begun reach rest h = rw (begun, reach, rest) h
