-- The strips of a room beyond the bounds of its boxes.
use Rattle.rectangle_pack_sections.proofs.Std.{ℕ, ◌+◌, ◌*◌, ◌<◌, ◌≤◌, ◌≡◌, ◌≢◌, true, List, [], ◌∷◌, ◌++◌, refl, ap, sym, ◌∙◌, subst, arith, inl, inr}
use Rattle.rectangle_pack_sections.proofs.Std.{◌⊎◌}
use Rattle.rectangle_pack_sections.proofs.Std.{All, All-nil, All-cons, All-weaker, cases_lt, append-nil}
use Rattle.rectangle_pack_sections.specs.declared.axis.Axis.{Axis}
use Rattle.rectangle_pack_sections.specs.declared.axis.Axis.TheVariants.{X, Y, Z}
use Rattle.rectangle_pack_sections.specs.Boxes.{Cuboid, IsPartOf, extent, start, end, has_cells}
use Rattle.rectangle_pack_sections.specs.CutTrees.{lower, upper, IsPlaceOf, IsFromCuts}
use Rattle.rectangle_pack_plans.specs.declared.cut_anew.strips.Side.{Side}
use Rattle.rectangle_pack_plans.specs.declared.cut_anew.strips.Side.TheVariants.{Start, End}
use Rattle.rectangle_pack_plans.specs.declared.cut_anew.strips.Strip.{Strip}
use Rattle.rectangle_pack_plans.specs.CutPlans.{axis_rank}
use Rattle.rectangle_pack_plans.specs.CuttingAnew.{strip_beyond, rest_beyond, thickness, side_rank, IsThickest, AreStripsRound}
use Rattle.rectangle_pack_plans.specs.private.CuttingAnew.{CanBeCut, IsThicker, IsThickestOf}
use Rattle.rectangle_pack_plans.specs.private.CuttingAnew.{AreStrips}
use Rattle.rectangle_pack_sections.proofs.lemmas.cuts.Axes.{by_axis, end-is, runs_on, has_cells-by, stays_in, is_part, IsPartOf-refl, IsPartOf-trans, StaysIn}
use Rattle.rectangle_pack_sections.proofs.lemmas.cuts.Axes.{cells-part}
use Rattle.rectangle_pack_sections.proofs.lemmas.cuts.Parts.{start-lower, end-lower, start-upper, end-upper, lower_other, upper_other, lower-part, upper-part}
use Rattle.rectangle_pack_sections.proofs.lemmas.cuts.Parts.{lower-cells, box_alike}
use Rattle.rectangle_pack_sections.proofs.lemmas.cuts.Times.{times_in-cons}
use Rattle.rectangle_pack_sections.proofs.lemmas.cuts.SameBoxes.{IsFromCuts-same}
use Rattle.rectangle_pack_sections.proofs.lemmas.cuts.Trees.{IsFromCuts-leaf, IsFromCuts-cut}
use Rattle.rectangle_pack_plans.proofs.lemmas.cut_plan.FirstPlanes.{axis_by_rank}
use Rattle.rectangle_pack_plans.proofs.lemmas.cut_plan.Pending.{rank_below}
use Rattle.rectangle_pack_plans.proofs.lemmas.cut_anew.Halves.{IsFromCuts-for, CanBeCut-lower, CanBeCut-upper}

-- the three extents of a box, added up: less of a part that is shorter on an axis
abbrev pub girth : Cuboid → ℕ
girth b = b.whd.width + b.whd.height + b.whd.depth

girth-less : (d b : Cuboid) (a : Axis) → ((e : Axis) → StaysIn d b e) → (start a b < start a d) ⊎ (end a d < end a b) → girth d < girth b
unfolding start extent end
girth-less d b X part less = let x = part X in let y = part Y in let z = part Z in elim less [ inl l ↦ omega arith | inr l ↦ omega arith ]
girth-less d b Y part less = let x = part X in let y = part Y in let z = part Z in elim less [ inl l ↦ omega arith | inr l ↦ omega arith ]
girth-less d b Z part less = let x = part X in let y = part Y in let z = part Z in elim less [ inl l ↦ omega arith | inr l ↦ omega arith ]

-- the upper part has cells where the place is before the end
upper-cells : (a : Axis) (p : ℕ) (b : Cuboid) → p < end a b → has_cells b ≡ true → has_cells (upper a p b) ≡ true
upper-cells a p b hi cells = has_cells-by (upper a p b) (by_axis (λ e. start e (upper a p b) < end e (upper a p b)) a
    (omega (arith, start-upper a p b, end-upper a p b (omega arith)))
    (λ e n. omega (arith, runs_on b cells e, upper_other p b a e n)))

-- a part of a box on one side of a plane is a part of that side
module _ (a : Axis) (p : ℕ) (room : Cuboid) (on : IsPlaceOf a p room) (b : Cuboid) (part : IsPartOf b room) where
  pub part_of_upper : p ≤ start a b → IsPartOf b (upper a p room)
  part_of_upper h = is_part b (upper a p room) (by_axis (StaysIn b (upper a p room)) a
      (omega (arith, h, start-upper a p room), omega (arith, stays_in b room part a, end-upper a p room on.to))
      (λ e n. (omega (arith, stays_in b room part e, upper_other p room a e n), omega (arith, stays_in b room part e, upper_other p room a e n))))

  pub part_of_lower : end a b ≤ p → IsPartOf b (lower a p room)
  part_of_lower h = is_part b (lower a p room) (by_axis (StaysIn b (lower a p room)) a
      (omega (arith, stays_in b room part a, start-lower a p room), omega (arith, h, end-lower a p room on.from))
      (λ e n. (omega (arith, stays_in b room part e, lower_other p room a e n), omega (arith, stays_in b room part e, lower_other p room a e n))))

-- where the bounds start and end the room may be cut
IsPlaceOf-start : (a : Axis) (bounds room : Cuboid) → IsPartOf bounds room → IsPlaceOf a (start a bounds) room
IsPlaceOf-start a bounds room part = record { from = (stays_in bounds room part a).0; to = omega (arith, stays_in bounds room part a, end-is a bounds) }

IsPlaceOf-end : (a : Axis) (bounds room : Cuboid) → IsPartOf bounds room → IsPlaceOf a (end a bounds) room
IsPlaceOf-end a bounds room part = record { from = omega (arith, stays_in bounds room part a, end-is a bounds); to = (stays_in bounds room part a).1 }

pub IsPlaceOf-side : (a : Axis) (bounds room : Cuboid) → IsPartOf bounds room → IsPlaceOf a (start a bounds) room × IsPlaceOf a (end a bounds) room
IsPlaceOf-side a bounds room part = (IsPlaceOf-start a bounds room part, IsPlaceOf-end a bounds room part)

-- the strip of a room beyond bounds on a side, and the rest
module _ (room bounds : Cuboid) (part : IsPartOf bounds room) where
  pub strip-cuts : (s : Side) → IsFromCuts (strip_beyond s bounds room ∷ rest_beyond s bounds room ∷ []) room
  strip-cuts (Start a) = IsFromCuts-cut a (start a bounds) room (lower a (start a bounds) room ∷ []) (upper a (start a bounds) room ∷ [])
      (IsPlaceOf-start a bounds room part) (IsFromCuts-leaf _) (IsFromCuts-leaf _)
  strip-cuts (End a) =
      let l = lower a (end a bounds) room in
      let u = upper a (end a bounds) room in
      IsFromCuts-same (l ∷ u ∷ []) (u ∷ l ∷ []) (λ e cells. omega (arith, times_in-cons e l (u ∷ []), times_in-cons e u (l ∷ [])))
      (IsFromCuts-cut a (end a bounds) room (l ∷ []) (u ∷ []) (IsPlaceOf-end a bounds room part) (IsFromCuts-leaf l) (IsFromCuts-leaf u))

  pub rest-within : (s : Side) → IsPartOf (rest_beyond s bounds room) room
  rest-within (Start a) = upper-part a (start a bounds) room (IsPlaceOf-start a bounds room part)
  rest-within (End a) = lower-part a (end a bounds) room (IsPlaceOf-end a bounds room part)

  pub rest-holds : (s : Side) → IsPartOf bounds (rest_beyond s bounds room)
  rest-holds (Start a) = part_of_upper a (start a bounds) room (IsPlaceOf-start a bounds room part) bounds part (omega arith)
  rest-holds (End a) = part_of_lower a (end a bounds) room (IsPlaceOf-end a bounds room part) bounds part (omega arith)

  rest-kept : (s : Side) (boxes : List Cuboid) → All (λ b. IsPartOf b (rest_beyond s bounds room)) boxes → CanBeCut boxes room
      → CanBeCut boxes (rest_beyond s bounds room)
  rest-kept (Start a) boxes inside h =
      let p = start a bounds in
      let above : All (λ b. p ≤ start a b) boxes = λ i d lt. omega (arith, stays_in _ (upper a p room) (inside i d lt) a, start-upper a p room) in
      CanBeCut-upper a p [] boxes room (IsPlaceOf-start a bounds room part) (All-nil (λ b. end a b ≤ p)) above h
  rest-kept (End a) boxes inside h =
      let p = end a bounds in
      let on = IsPlaceOf-end a bounds room part in
      let below : All (λ b. end a b ≤ p) boxes = λ i d lt. omega (arith, stays_in _ (lower a p room) (inside i d lt) a, end-lower a p room on.from) in
      CanBeCut-lower a p boxes [] room on below (All-nil (λ b. p ≤ start a b)) (subst (λ l. CanBeCut l room) (sym (append-nil boxes)) h)

  strip-cells : (s : Side) → has_cells room ≡ true → 0 < thickness s bounds room → has_cells (strip_beyond s bounds room) ≡ true
  strip-cells (Start a) cells some = lower-cells a (start a bounds) room (omega (arith, some)) cells
  strip-cells (End a) cells some = upper-cells a (end a bounds) room (omega (arith, some)) cells

  pub rest-less : (s : Side) → 0 < thickness s bounds room → girth (rest_beyond s bounds room) < girth room
  rest-less (Start a) some = girth-less (rest_beyond (Start a) bounds room) room a (stays_in (rest_beyond (Start a) bounds room) room (rest-within (Start a)))
      (inl (omega (arith, some, start-upper a (start a bounds) room)))
  rest-less (End a) some = girth-less (rest_beyond (End a) bounds room) room a (stays_in (rest_beyond (End a) bounds room) room (rest-within (End a)))
      (inr (omega (arith, some, end-lower a (end a bounds) room (IsPlaceOf-end a bounds room part).from)))

  -- a room without a strip is its bounds
  no_strip : ((s : Side) → thickness s bounds room ≡ 0) → room ≡ bounds
  no_strip none = box_alike room bounds (λ a.
      let in_room = stays_in bounds room part a in
      (omega (arith, in_room, none (Start a)), omega (arith, in_room, none (End a))))

-- strips are from cuts of the room
AreStrips-none : (room : Cuboid) → AreStrips room room []
AreStrips-none room = record {
  from_cuts = IsFromCuts-leaf room;
  cells = All-nil (λ s. has_cells s ≡ true);
  within = IsPartOf-refl room;
  kept = λ boxes inside cells h. h;
}

pub AreStripsRound-strips : (bounds room : Cuboid) (strips : List Cuboid) → IsPartOf bounds room → has_cells bounds ≡ true
    → AreStripsRound bounds room strips → AreStrips room bounds strips
AreStripsRound-strips bounds room [] part cells same = subst (λ b. AreStrips room b []) same (AreStrips-none room)
AreStripsRound-strips bounds room (strip ∷ strips) part cells (side, most, is, more) =
    let rest = rest_beyond side bounds room in
    let holds = rest-holds room bounds part side in
    let within = rest-within room bounds part side in
    let last = AreStripsRound-strips bounds rest strips holds cells more in
    record {
      from_cuts = rw is (subst (λ l. IsFromCuts (strip_beyond side bounds room ∷ l) room) (append-nil (strips ++ bounds ∷ []))
          (IsFromCuts-for (strip_beyond side bounds room ∷ []) [] (strips ++ bounds ∷ []) (strip-cuts room bounds part side) last.from_cuts));
      cells = All-cons (λ s. has_cells s ≡ true) strip strips
          (rw is (strip-cells room bounds part side (cells-part bounds room part cells) most.some)) last.cells;
      within = part;
      kept = λ boxes inside full h. last.kept boxes inside full
          (rest-kept room bounds part side boxes (All-weaker (λ b. IsPartOf b bounds) (λ b. IsPartOf b rest) (λ b k. IsPartOf-trans b bounds rest k holds) boxes inside) h);
    }

-- the thickest of strips
module _ (bounds room : Cuboid) where
  pub IsThickestOf-axis : (a : Axis) (first second strip : Strip) → first ≡ record { side = Start a; thickness = thickness (Start a) bounds room }
      → second ≡ record { side = End a; thickness = thickness (End a) bounds room } → IsThicker first second strip
      → IsThickestOf (axis_rank a * 2) (axis_rank a * 2 + 2) bounds room strip
  IsThickestOf-axis a first second strip low high thicker = record {
    is = elim thicker [
      | inl t ↦ rw (t.0, low) refl
      | inr t ↦ rw (t.0, high) refl
    ];
    most = λ s. elim s as (λ s. axis_rank a * 2 ≤ side_rank s → side_rank s < axis_rank a * 2 + 2 → thickness s bounds room ≤ strip.thickness) [
      | Start e ↦ λ from to. rw (axis_by_rank e a (omega (arith, from, to))) (omega (arith, at_low, bigger))
      | End e ↦ λ from to. rw (axis_by_rank e a (omega (arith, from, to))) (omega (arith, at_high, bigger))
    ];
    first = λ s. elim s as (λ s. axis_rank a * 2 ≤ side_rank s → side_rank s < side_rank strip.side → thickness s bounds room < strip.thickness) [
      | Start e ↦ λ from before. elim thicker [
        | inl t ↦ absurd (omega (arith, from, before, ap (λ (k : Strip). side_rank k.side) (t.0 ∙ low)))
        | inr t ↦
            let same : e ≡ a = axis_by_rank e a (omega (arith, from, before, ap (λ (k : Strip). side_rank k.side) (t.0 ∙ high))) in
            rw same (omega (arith, t.1, at_low, ap (λ (k : Strip). k.thickness) t.0))
      ]
      | End e ↦ λ from before. absurd (elim thicker [
        | inl t ↦ omega (arith, from, before, ap (λ (k : Strip). side_rank k.side) (t.0 ∙ low))
        | inr t ↦ omega (arith, from, before, ap (λ (k : Strip). side_rank k.side) (t.0 ∙ high))
      ])
    ];
  }
    where
      at_low : first.thickness ≡ thickness (Start a) bounds room
      at_low = ap (λ (k : Strip). k.thickness) low

      at_high : second.thickness ≡ thickness (End a) bounds room
      at_high = ap (λ (k : Strip). k.thickness) high

      bigger : (first.thickness ≤ strip.thickness) × (second.thickness ≤ strip.thickness)
      bigger = elim thicker [
        | inl t ↦ (omega (arith, ap (λ (k : Strip). k.thickness) t.0), omega (arith, t.1, ap (λ (k : Strip). k.thickness) t.0))
        | inr t ↦ (omega (arith, t.1, ap (λ (k : Strip). k.thickness) t.0), omega (arith, ap (λ (k : Strip). k.thickness) t.0))
      ]

  IsThickestOf-both : (from mid to : ℕ) (first second strip : Strip) → IsThickestOf from mid bounds room first → IsThickestOf mid to bounds room second
      → IsThicker first second strip → IsThickestOf from to bounds room strip
  IsThickestOf-both from mid to first second strip low high (inl t) = record {
    is = rw (t.0) low.is;
    most = λ s lo hi. rw (t.0) (elim (cases_lt (side_rank s) mid) [
      | inl lt ↦ low.most s lo lt
      | inr ge ↦ omega (arith, high.most s ge hi, t.1)
    ]);
    first = rw (t.0) (λ s lo hi. low.first s lo hi);
  }
  IsThickestOf-both from mid to first second strip low high (inr t) = record {
    is = rw (t.0) high.is;
    most = λ s lo hi. rw (t.0) (elim (cases_lt (side_rank s) mid) [
      | inl lt ↦ omega (arith, low.most s lo lt, t.1)
      | inr ge ↦ high.most s ge hi
    ]);
    first = rw (t.0) (λ s lo hi. elim (cases_lt (side_rank s) mid) [
      | inl lt ↦ omega (arith, low.most s lo lt, t.1)
      | inr ge ↦ high.first s ge hi
    ]);
  }

  -- of all six sides, where the room goes beyond the bounds
  IsThickestOf-all : (strip : Strip) → IsPartOf bounds room → room ≢ bounds → IsThickestOf 0 6 bounds room strip → IsThickest strip.side bounds room
  IsThickestOf-all strip part beyond h =
      let below : (s : Side) → side_rank s < 6 = λ s. elim s as (λ s. side_rank s < 6) [
        | Start a ↦ omega (arith, rank_below a)
        | End a ↦ omega (arith, rank_below a)
      ] in
      let most : (s : Side) → thickness s bounds room ≤ thickness strip.side bounds room = λ s. omega (arith, h.most s (omega arith) (below s), h.is) in
      record {
        some = elim (cases_lt 0 (thickness strip.side bounds room)) [
          | inl some ↦ some
          | inr none ↦ absurd (beyond (no_strip room bounds part (λ s. omega (arith, none, most s))))
        ];
        most = most;
        first = λ s before. omega (arith, h.first s (omega arith) before, h.is);
      }

  -- the thickest on x, y and z
  pub thickest_on_axes : (x y z flat best : Strip) → IsPartOf bounds room → room ≢ bounds
      → IsThickestOf (axis_rank X * 2) (axis_rank X * 2 + 2) bounds room x → IsThickestOf (axis_rank Y * 2) (axis_rank Y * 2 + 2) bounds room y
      → IsThickestOf (axis_rank Z * 2) (axis_rank Z * 2 + 2) bounds room z → IsThicker x y flat → IsThicker flat z best → IsThickest best.side bounds room
  unfolding axis_rank
  thickest_on_axes x y z flat best part beyond on_x on_y on_z first last =
      IsThickestOf-all best part beyond (IsThickestOf-both 0 4 6 flat z best (IsThickestOf-both 0 2 4 x y flat on_x on_y first) on_z last)
