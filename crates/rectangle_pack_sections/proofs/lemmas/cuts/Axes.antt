-- Boxes and cells, axis by axis.
use Rattle.rectangle_pack_sections.proofs.Std.{ℕ, zero, suc, ◌≡◌, ◌≢◌, ◌+◌, ◌<◌, ◌≤◌, ◌⊎◌, inl, inr, true, refl, subst, rules, arith, nat_tests}
use Rattle.rectangle_pack_sections.specs.declared.axis.Axis.{Axis}
use Rattle.rectangle_pack_sections.specs.declared.axis.Axis.TheVariants.{X, Y, Z}
use Rattle.rectangle_pack_sections.specs.Boxes.{Cuboid, Cell, IsPartOf, is_cell_of, extent, start, end, has_cells}
use Rattle.rectangle_pack_sections.proofs.lemmas.cuts.Boxes.{is_cell_of-true, is_cell_of-from}

pub cases_axis : (a b : Axis) → (a ≡ b) ⊎ (a ≢ b)
cases_axis X X = inl refl
cases_axis Y Y = inl refl
cases_axis Z Z = inl refl
cases_axis _ _ = inr (λ e. cc)

-- what holds of each axis and each other one holds of any two that differ
pub by_other : (P : Axis → Axis → Type 0) → P X Y → P X Z → P Y X → P Y Z → P Z X → P Z Y → (a e : Axis) → a ≢ e → P a e
by_other P xy xz yx yz zx zy X Y n = xy
by_other P xy xz yx yz zx zy X Z n = xz
by_other P xy xz yx yz zx zy Y X n = yx
by_other P xy xz yx yz zx zy Y Z n = yz
by_other P xy xz yx yz zx zy Z X n = zx
by_other P xy xz yx yz zx zy Z Y n = zy
by_other P xy xz yx yz zx zy _ _ n = absurd (n refl)

-- what holds of 0, 1 and 2 holds below 3
pub below_3 : (P : ℕ → Type 0) → P 0 → P 1 → P 2 → (n : ℕ) → n < 3 → P n
below_3 P at_0 at_1 at_2 zero below = at_0
below_3 P at_0 at_1 at_2 (suc zero) below = at_1
below_3 P at_0 at_1 at_2 (suc (suc zero)) below = at_2
below_3 P at_0 at_1 at_2 (suc (suc (suc n))) below = absurd (omega arith)

-- what holds of one axis and of each other one holds of every axis
pub by_axis : (P : Axis → Type 0) (a : Axis) → P a → ((e : Axis) → a ≢ e → P e) → (e : Axis) → P e
by_axis P a here others e = elim (cases_axis a e) [ inl same ↦ subst P same here | inr other ↦ others e other ]

pub end-is : (a : Axis) (b : Cuboid) → end a b ≡ start a b + extent a b.whd
unfolding end
end-is a b = refl

-- the place of a cell on an axis
abbrev pub coordinate : Axis → Cell → ℕ
coordinate X c = c.i
coordinate Y c = c.j
coordinate Z c = c.k

abbrev pub LiesIn : Cell → Cuboid → Axis → Type 0
LiesIn c b a = (start a b ≤ coordinate a c) × (coordinate a c < end a b)

pub lies_in : (c : Cell) (b : Cuboid) → is_cell_of c b ≡ true → (a : Axis) → LiesIn c b a
unfolding start extent end
lies_in c b t X = let h = is_cell_of-true c b t in (h.from_x, h.below_x)
lies_in c b t Y = let h = is_cell_of-true c b t in (h.from_y, h.below_y)
lies_in c b t Z = let h = is_cell_of-true c b t in (h.from_z, h.below_z)

pub is_cell : (c : Cell) (b : Cuboid) → ((a : Axis) → LiesIn c b a) → is_cell_of c b ≡ true
unfolding start extent end
is_cell c b h = let x = h X in let y = h Y in let z = h Z in is_cell_of-from c b (search rules)

pub cell_at : (f : Axis → ℕ) → Cell
cell_at f = record { i = f X; j = f Y; k = f Z }

coordinate-cell_at : (f : Axis → ℕ) (a : Axis) → coordinate a (cell_at f) ≡ f a
unfolding cell_at
coordinate-cell_at f X = refl
coordinate-cell_at f _ = refl

-- it is in a box where each place is in the box's span on the axis
abbrev pub IsAt : Cuboid → (Axis → ℕ) → Type 0
IsAt b f = (a : Axis) → (start a b ≤ f a) × (f a < end a b)

pub is_cell_at : (f : Axis → ℕ) (b : Cuboid) → IsAt b f → is_cell_of (cell_at f) b ≡ true
is_cell_at f b h = is_cell (cell_at f) b (λ a. rw (coordinate-cell_at f a) (h a))

pub lies_at : (f : Axis → ℕ) (b : Cuboid) → is_cell_of (cell_at f) b ≡ true → IsAt b f
lies_at f b t a = rw (coordinate-cell_at f a) at (lies_in (cell_at f) b t a)

-- a box has cells where it ends after its start on each axis
pub runs_on : (b : Cuboid) → has_cells b ≡ true → (a : Axis) → start a b < end a b
unfolding start extent end
runs_on b h X = grind (arith, nat_tests)
runs_on b h _ = grind (arith, nat_tests)

pub has_cells-by : (b : Cuboid) → ((a : Axis) → start a b < end a b) → has_cells b ≡ true
unfolding start extent end
has_cells-by b h = let x = h X in let y = h Y in let z = h Z in grind (arith, nat_tests)

-- a part starts no earlier and ends no later on each axis
abbrev pub StaysIn : Cuboid → Cuboid → Axis → Type 0
StaysIn b whole a = (start a whole ≤ start a b) × (end a b ≤ end a whole)

pub stays_in : (b whole : Cuboid) → IsPartOf b whole → (a : Axis) → StaysIn b whole a
unfolding start extent end
stays_in b whole h X = (h.from_x, h.to_x)
stays_in b whole h Y = (h.from_y, h.to_y)
stays_in b whole h Z = (h.from_z, h.to_z)

pub is_part : (b whole : Cuboid) → ((a : Axis) → StaysIn b whole a) → IsPartOf b whole
unfolding start extent end
is_part b whole h = let x = h X in let y = h Y in let z = h Z in search rules

pub IsPartOf-refl : (b : Cuboid) → IsPartOf b b
IsPartOf-refl b = is_part b b (λ a. (omega arith, omega arith))

pub IsPartOf-trans : (b mid whole : Cuboid) → IsPartOf b mid → IsPartOf mid whole → IsPartOf b whole
IsPartOf-trans b mid whole h k = is_part b whole (λ a. let p = stays_in b mid h a in let q = stays_in mid whole k a in (omega arith, omega arith))

-- a cell of a part is one of the box
pub cell-part : (c : Cell) (b whole : Cuboid) → IsPartOf b whole → is_cell_of c b ≡ true → is_cell_of c whole ≡ true
cell-part c b whole part t = is_cell c whole (λ a. let p = stays_in b whole part a in let l = lies_in c b t a in (omega arith, omega arith))

pub cells-part : (b whole : Cuboid) → IsPartOf b whole → has_cells b ≡ true → has_cells whole ≡ true
cells-part b whole part cells = has_cells-by whole (λ a. let p = stays_in b whole part a in let r = runs_on b cells a in omega arith)
