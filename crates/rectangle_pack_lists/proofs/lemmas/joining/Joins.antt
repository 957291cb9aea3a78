-- Joins of two sections, and what joining keeps.
use Rattle.rectangle_pack_sections.proofs.Std.{arith, eqb, [], ◌∷◌, ℕ, zero, suc, ◌≡◌, ◌≢◌, ◌+◌, ◌-◌, ◌<◌, ◌≤◌, ◌⊎◌, inl, inr, ⊎_elim, min, max, Bool, cond}
use Rattle.rectangle_pack_sections.proofs.Std.{◌&&◌, ◌||◌, Decides, List, length, get_or, set, take, drop, refl, ap, sym, ◌∙◌, length-set, lt-ltb, le-ltb, All}
use Rattle.rectangle_pack_sections.proofs.Std.{remove, cases_lt, Decides-and, Decides-at, Decides-or, Decides-eqb, Decides-like, get_or-set_other}
use Rattle.rectangle_pack_sections.proofs.Std.{get_or_default, length-remove, All-set, All-append, All-take, All-drop, sum_by-set, sum_by-remove}
use Rattle.rectangle_pack_sections.specs.declared.axis.Axis.{Axis}
use Rattle.rectangle_pack_sections.specs.declared.axis.Axis.TheVariants.{X, Y, Z}
use Rattle.rectangle_pack_sections.specs.declared.span.Span.{Span}
use Rattle.rectangle_pack_sections.specs.Boxes.{Size, Cuboid, Cell, IsInside, FitsU32, is_cell_of, extent, start, end}
use Rattle.rectangle_pack_sections.specs.Counting.{times_filled}
use Rattle.rectangle_pack_sections.specs.CutTrees.{lower, upper, IsPlaceOf}
use Rattle.rectangle_pack_sections.specs.Keeping.{KeepCells}
use Rattle.rectangle_pack_sections.specs.Bins.{IsSound}
use Rattle.rectangle_pack_sections.specs.private.Spans.{span_of, spans_of, SpansTouch}
use Rattle.rectangle_pack_lists.specs.Joining.{SharesFace, join_start, join_extent, join, entry, IsFirstNeighbour, joined_list, joined_index, IsJoined, PastEnd}
use Rattle.rectangle_pack_lists.specs.Joining.{Alone, Joins, IsSweptBelow}
use Rattle.rectangle_pack_sections.proofs.lemmas.cuts.Axes.{end-is}
use Rattle.rectangle_pack_sections.proofs.lemmas.cuts.Counting.{KeepCells-from_counts}
use Rattle.rectangle_pack_sections.proofs.lemmas.cuts.TreesFill.{filled-parts}
use Rattle.rectangle_pack_sections.proofs.lemmas.cuts.Parts.{start-lower, end-lower, start-upper, end-upper, RunAlike, box_alike, box_alike_on, lower_other}
use Rattle.rectangle_pack_sections.proofs.lemmas.cuts.Parts.{upper_other}

-- two that share a whole face do so in either order
pub SharesFace-symmetric : (a b : Cuboid) → SharesFace a b → SharesFace b a
SharesFace-symmetric a b f = record {
  axis = f.axis;
  meet = ⊎_elim (λ p. inr p) (λ p. inl p) f.meet;
  alike = λ o n. let k = f.alike o n in (sym k.0, sym k.1);
}

pub runs-join : (a : Axis) (b e : Cuboid) → (start a (join b e) ≡ min (start a b) (start a e)) × (end a (join b e) ≡ max (end a b) (end a e))
unfolding start extent end join join_start join_extent
runs-join X b e = (refl, omega arith)
runs-join _ b e = (refl, omega arith)

join-symmetric : (b e : Cuboid) → join b e ≡ join e b
join-symmetric b e = box_alike (join b e) (join e b) (λ a. let r = runs-join a b e in let s = runs-join a e b in (omega arith, omega arith))

-- two that share a whole face on the axis a, where o and p are the others: the spans on a touch, and those on the others are the same
abbrev FaceOn : Axis → Axis → Axis → Cuboid → Cuboid → Type 0
FaceOn a o p b e = SpansTouch (span_of a b) (span_of a e) × (span_of o b ≡ span_of o e) × (span_of p b ≡ span_of p e)

alike_on : (o : Axis) (b e : Cuboid) → span_of o b ≡ span_of o e → (start o b ≡ start o e) × (extent o b.whd ≡ extent o e.whd)
alike_on o b e same = (ap (λ (s : Span). s.start) same, ap (λ (s : Span). s.length) same)

SharesFace-from : (b e : Cuboid) → (FaceOn X Y Z b e ⊎ FaceOn Y X Z b e) ⊎ FaceOn Z X Y b e → SharesFace b e
unfolding end
SharesFace-from b e (inl (inl k)) =
    record { axis = X; meet = k.0; alike = elim [ X ↦ λ n. absurd (n refl) | Y ↦ λ n. alike_on Y b e k.1 | Z ↦ λ n. alike_on Z b e k.2 ] }
SharesFace-from b e (inl (inr k)) =
    record { axis = Y; meet = k.0; alike = elim [ X ↦ λ n. alike_on X b e k.1 | Y ↦ λ n. absurd (n refl) | Z ↦ λ n. alike_on Z b e k.2 ] }
SharesFace-from b e (inr k) =
    record { axis = Z; meet = k.0; alike = elim [ X ↦ λ n. alike_on X b e k.1 | Y ↦ λ n. alike_on Y b e k.2 | Z ↦ λ n. absurd (n refl) ] }

SharesFace-to : (b e : Cuboid) → SharesFace b e → (FaceOn X Y Z b e ⊎ FaceOn Y X Z b e) ⊎ FaceOn Z X Y b e
unfolding end
SharesFace-to b e f = by f.axis f.meet (λ o n. let k = f.alike o n in λ i. record { start = k.0 i; length = k.1 i })
  where
    by : (a : Axis) → SpansTouch (span_of a b) (span_of a e) → ((o : Axis) → o ≢ a → span_of o b ≡ span_of o e)
        → (FaceOn X Y Z b e ⊎ FaceOn Y X Z b e) ⊎ FaceOn Z X Y b e
    by X meet alike = inl (inl (meet, alike Y (λ e. cc), alike Z (λ e. cc)))
    by Y meet alike = inl (inr (meet, alike X (λ e. cc), alike Z (λ e. cc)))
    by Z meet alike = inr (meet, alike X (λ e. cc), alike Y (λ e. cc))

-- the test that two spans are one
abbrev is_one : Span → Span → Bool
is_one s t = eqb s.start t.start && eqb s.length t.length

is_one-decides : (s t : Span) (r : Bool) → r ≡ is_one s t → Decides r (s ≡ t)
is_one-decides s t r is = Decides-at r (is_one s t) is (Decides-like (is_one s t)
    (λ h i. record { start = h.0 i; length = h.1 i }) (λ e. (ap (λ (s : Span). s.start) e, ap (λ (s : Span). s.length) e))
    (Decides-and _ _ (Decides-eqb s.start t.start) (Decides-eqb s.length t.length)))

-- tests of the spans on each axis decide whether two share a whole face
pub face-decides : (b e : Cuboid) (s t : Span × Span × Span) (same_x same_y same_z meet_x meet_y meet_z : Bool) → s ≡ spans_of b → t ≡ spans_of e
    → same_x ≡ is_one s.0 t.0 → same_y ≡ is_one s.1 t.1 → same_z ≡ is_one s.2 t.2
    → Decides meet_x (SpansTouch s.0 t.0) → Decides meet_y (SpansTouch s.1 t.1) → Decides meet_z (SpansTouch s.2 t.2)
    → Decides (((meet_x && same_y && same_z) || (meet_y && same_x && same_z)) || (meet_z && same_x && same_y)) (SharesFace b e)
face-decides b e s t same_x same_y same_z meet_x meet_y meet_z is_s is_t is_x is_y is_z mx my mz =
    let sx = is_one-decides s.0 t.0 same_x is_x in
    let sy = is_one-decides s.1 t.1 same_y is_y in
    let sz = is_one-decides s.2 t.2 same_z is_z in
    let one = Decides-or _ _ (Decides-or _ _ (three mx sy sz) (three my sx sz)) (three mz sx sy) in
    Decides-like _ (SharesFace-from b e) (SharesFace-to b e) (rw (is_s, is_t) at one)
  where
    three : {P Q R : Type 0} {p q r : Bool} → Decides p P → Decides q Q → Decides r R → Decides (p && q && r) (P × Q × R)
    three {p = p} {q = q} {r = r} x y z =
        Decides-like (p && q && r) (λ h. (h.0.0, h.0.1, h.1)) (λ h. ((h.0, h.1), h.2)) (Decides-and (p && q) r (Decides-and p q x y) z)

-- where the first ends at the start of the other, the two are the parts of their join, and fill it
filled-met : (c : Cell) (b e : Cuboid) (a : Axis) → end a b ≡ start a e
    → ((o : Axis) → o ≢ a → (start o b ≡ start o e) × (extent o b.whd ≡ extent o e.whd))
    → times_filled c (join b e ∷ []) ≡ times_filled c (b ∷ []) + times_filled c (e ∷ [])
filled-met c b e a meet alike =
    let p = end a b in
    let j = join b e in
    let r = runs-join a b e in let at_b = end-is a b in let at_e = end-is a e in
    let place : IsPlaceOf a p j = record { from = omega arith; to = omega arith } in
    let same : (o : Axis) → a ≢ o → RunAlike j b o × RunAlike j e o = λ o n.
    let r = runs-join o b e in let k = alike o (λ q. n (sym q)) in let at_b = end-is o b in let at_e = end-is o e in
    ((omega arith, omega arith), (omega arith, omega arith)) in
    let low : lower a p j ≡ b = box_alike_on a (lower a p j) b (omega (arith, start-lower a p j), end-lower a p j place.from)
    (λ o n. let l = lower_other p j a o n in let s = same o n in (omega arith, omega arith)) in
    let high : upper a p j ≡ e = box_alike_on a (upper a p j) e (omega (arith, start-upper a p j), omega (arith, end-upper a p j place.to))
    (λ o n. let u = upper_other p j a o n in let s = same o n in (omega arith, omega arith)) in
    sym (rw (low, high) at (filled-parts c a p j place))

-- a cell of the join is a cell of exactly one of the two
join-cells : (c : Cell) (b e : Cuboid) → SharesFace b e → times_filled c (join b e ∷ []) ≡ times_filled c (b ∷ []) + times_filled c (e ∷ [])
unfolding SharesFace-symmetric
join-cells c b e f = elim f.meet [
  | inl q ↦ filled-met c b e f.axis q f.alike
  | inr q ↦ rw (join-symmetric b e) (omega (arith, filled-met c e b f.axis q (SharesFace-symmetric b e f).alike))
]

-- one join leaves each cell in as many entries
joined_list-cells : (c : Cell) (sections : List Cuboid) (idx j : ℕ) → idx < length sections → j < length sections → j ≢ idx
    → SharesFace (entry sections idx) (entry sections j) → times_filled c (joined_list sections idx j) ≡ times_filled c sections
unfolding times_filled joined_list
joined_list-cells c sections idx j at within other shares =
    let none : Cuboid = record { x = 0; y = 0; z = 0; whd = record { width = 0; height = 0; depth = 0 } } in
    let b = join (entry sections idx) (entry sections j) in
    let f : Cuboid → ℕ = λ e. cond (is_cell_of c e) 1 0 in
    let long : j < length (set sections idx b) = omega (arith, length-set sections idx b) in
    omega (
      arith,
      sum_by-set f sections idx b none at,
      sum_by-remove f (set sections idx b) j none long,
      ap f (get_or-set_other sections idx j b none other),
      join-cells c (entry sections idx) (entry sections j) shares,
    )

-- and so do joins in a row
pub IsJoined-cells : (c : Cell) {old new : List Cuboid} {idx lo hi : ℕ} → IsJoined idx lo hi old new → times_filled c new ≡ times_filled c old
IsJoined-cells c (PastEnd past) = refl
IsJoined-cells c (Alone at none) = refl
IsJoined-cells c (Joins {old = old} {idx = idx} at j first next) =
    let near = first.is_one in
    IsJoined-cells c next ∙ joined_list-cells c old idx j at near.within near.other near.shares

pub IsSwept-cells : (c : Cell) (n : ℕ) (old new : List Cuboid) → IsSweptBelow n old new → times_filled c new ≡ times_filled c old
IsSwept-cells c zero old new swept = ap (times_filled c) swept
IsSwept-cells c (suc n) old new swept = IsSwept-cells c n swept.0 new swept.2 ∙ IsJoined-cells c swept.1

pub length-joined_list : (sections : List Cuboid) (idx j : ℕ) → j < length sections → length (joined_list sections idx j) + 1 ≡ length sections
unfolding joined_list
length-joined_list sections idx j within =
    let b = join (entry sections idx) (entry sections j) in
    length-remove (set sections idx b) j (omega (arith, length-set sections idx b)) ∙ length-set sections idx b

pub IsJoined-shorter : {old new : List Cuboid} {idx lo hi : ℕ} → IsJoined idx lo hi old new → length new ≤ length old
IsJoined-shorter (PastEnd past) = omega arith
IsJoined-shorter (Alone at none) = omega arith
IsJoined-shorter (Joins {old = old} {idx = idx} at j first next) =
    let shorter = IsJoined-shorter next in
    omega (arith, length-joined_list old idx j first.is_one.within)

pub IsSwept-shorter : (n : ℕ) (old new : List Cuboid) → IsSweptBelow n old new → length new ≤ length old
IsSwept-shorter zero old new swept = rw swept (omega arith)
IsSwept-shorter (suc n) old new swept = let a = IsSwept-shorter n swept.0 new swept.2 in let b = IsJoined-shorter swept.1 in omega arith

pub join-inside : (size : Size) (b e : Cuboid) → IsInside size b → IsInside size e → IsInside size (join b e)
unfolding start extent end join join_start join_extent
join-inside size b e h k = record { within_x = omega arith; within_y = omega arith; within_z = omega arith }

All-remove : {X : Type 0} (P : X → Type 0) (xs : List X) (i : ℕ) → All P xs → All P (remove xs i)
All-remove P xs i h = All-append P (take i xs) (drop (suc i) xs) (All-take P i xs h) (All-drop P (suc i) xs h)

-- what joins of two keep, joins in a row keep of all
module _ (P : Cuboid → Type 0) (keeps : (b e : Cuboid) → P b → P e → P (join b e)) where
  joined_list-keeps : (sections : List Cuboid) (idx j : ℕ) → idx < length sections → j < length sections
      → All P sections → All P (joined_list sections idx j)
  unfolding joined_list
  joined_list-keeps sections idx j at within all =
      let whole : Cuboid = join (entry sections idx) (entry sections j) in
      All-remove P (set sections idx whole) j (All-set P sections idx whole (keeps _ _ (all idx _ at) (all j _ within)) all)

  pub IsJoined-keeps : {old new : List Cuboid} {idx lo hi : ℕ} → IsJoined idx lo hi old new → All P old → All P new
  IsJoined-keeps (PastEnd past) all = all
  IsJoined-keeps (Alone at none) all = all
  IsJoined-keeps (Joins {old = old} {idx = idx} at j first next) all = IsJoined-keeps next (joined_list-keeps old idx j at first.is_one.within all)

  pub IsSwept-keeps : (n : ℕ) (old new : List Cuboid) → IsSweptBelow n old new → All P old → All P new
  IsSwept-keeps zero old new swept all = rw swept all
  IsSwept-keeps (suc n) old new swept all = IsSwept-keeps n swept.0 new swept.2 (IsJoined-keeps swept.1 all)

-- joining keeps the cells of sections that are apart, and a sound list sound
pub IsJoined-KeepCells : {old new : List Cuboid} {idx lo hi : ℕ} (size : Size) → IsSound size old → IsJoined idx lo hi old new → KeepCells old new
IsJoined-KeepCells size sound joined = KeepCells-from_counts _ _ sound.apart (λ c. IsJoined-cells c joined)

pub IsJoined-sound : {old new : List Cuboid} {idx lo hi : ℕ} (size : Size) → IsSound size old → IsJoined idx lo hi old new → IsSound size new
IsJoined-sound size sound joined = record {
  inside = IsJoined-keeps (IsInside size) (join-inside size) joined sound.inside;
  apart = (IsJoined-KeepCells size sound joined).apart;
}

pub IsSwept-KeepCells : (size : Size) (n : ℕ) (old new : List Cuboid) → IsSound size old → IsSweptBelow n old new → KeepCells old new
IsSwept-KeepCells size n old new sound swept = KeepCells-from_counts old new sound.apart (λ c. IsSwept-cells c n old new swept)

pub IsSwept-sound : (size : Size) (n : ℕ) (old new : List Cuboid) → IsSound size old → IsSweptBelow n old new → IsSound size new
IsSwept-sound size n old new sound swept = record {
  inside = IsSwept-keeps (IsInside size) (join-inside size) n old new swept sound.inside;
  apart = (IsSwept-KeepCells size n old new sound swept).apart;
}

pub joined_index-at : (idx j : ℕ) → ((j < idx) × (joined_index idx j ≡ idx - 1)) ⊎ ((idx ≤ j) × (joined_index idx j ≡ idx))
unfolding joined_index
joined_index-at idx j = elim (cases_lt j idx) [ inl lt ↦ inl (lt, rw (lt-ltb j idx lt) refl) | inr ge ↦ inr (ge, rw (le-ltb j idx ge) refl) ]

-- one turn: the first neighbour j is joined, and the rest of the joins is what all of them are
pub one_join : (sections after : List Cuboid) (idx lo hi j hi' idx' : ℕ) (a b whole : Cuboid)
    → All FitsU32 sections → idx < length sections → IsFirstNeighbour sections idx lo hi j
    → a ≡ get_or sections idx a → b ≡ get_or sections j b → whole ≡ join a b → FitsU32 whole → after ≡ remove (set sections idx whole) j
    → hi' ≡ min hi (length sections) - 1 → idx' ≡ joined_index idx j
    → All FitsU32 after × (idx' < length after) × ((new : List Cuboid) → IsJoined idx' lo hi' after new → IsJoined idx lo hi sections new)
unfolding joined_list
one_join sections after idx lo hi j hi' idx' a b whole fit at first is_a is_b is_whole fits is_after until is_idx =
    let within : j < length sections = first.is_one.within in
    let is_join : whole ≡ join (entry sections idx) (entry sections j) =
    is_whole ∙ ap (λ x. join x b) (is_a ∙ get_or_default sections idx a _ at) ∙ ap (join (entry sections idx)) (is_b ∙ get_or_default sections j b _ within) in
    let same : after ≡ joined_list sections idx j = is_after ∙ ap (λ w. remove (set sections idx w) j) is_join in
    let shorter = length-joined_list sections idx j within in
    let other = first.is_one.other in
    let index = joined_index-at idx j in (
      rw is_after (All-remove FitsU32 (set sections idx whole) j (All-set FitsU32 sections idx whole fits fit)),
      rw (same, is_idx) (omega arith),
      λ new rest. Joins at j first (rw (← same, ← is_idx, ← until) rest),
    )
