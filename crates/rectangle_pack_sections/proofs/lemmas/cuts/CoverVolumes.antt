-- Boxes that cover a bin, or fill a box, have its volume: the cells are counted box by box.
use Rattle.rectangle_pack_sections.proofs.Std.{rules, arith, ◌≡◌, ℕ, zero, suc, ◌+◌, ◌*◌, ◌-◌, ◌<◌, ◌≤◌, Bool, true, false, ◌&&◌, List, [], ◌∷◌, cond, refl}
use Rattle.rectangle_pack_sections.proofs.Std.{sym, ◌∙◌, min, inl, inr, cases_lt, All, All-head, All-tail, All-weaker, sum_by-cons, nat_tests}
use Rattle.rectangle_pack_sections.specs.Boxes.{Size, Cuboid, Cell, IsCellOf, IsInside, IsPartOf, is_within, is_cell_of, volume_of}
use Rattle.rectangle_pack_sections.specs.Bins.{whole}
use Rattle.rectangle_pack_sections.specs.Counting.{times_filled, total_volume, Tiles, HaveVolumeOf, AreAllApart}
use Rattle.rectangle_pack_sections.specs.Covering.{CoverBin}
use Rattle.rectangle_pack_sections.proofs.lemmas.cuts.Counting.{filled-cons, filled-nil, filled_yes, counts_from_apart}

-- f 0 + f 1 + .. + f (n - 1)
abbrev sum_to : ℕ → (ℕ → ℕ) → ℕ
sum_to zero f = 0
sum_to (suc n) f = sum_to n f + f n

sum_to-add : (n : ℕ) (f g : ℕ → ℕ) → sum_to n (λ i. f i + g i) ≡ sum_to n f + sum_to n g
sum_to-add zero f g = refl
sum_to-add (suc n) f g = omega (arith, sum_to-add n f g)

sum_to-same : (n : ℕ) (f g : ℕ → ℕ) → ((i : ℕ) → i < n → f i ≡ g i) → sum_to n f ≡ sum_to n g
sum_to-same zero f g same = refl
sum_to-same (suc n) f g same = omega (arith, sum_to-same n f g (λ i lt. same i (omega arith)), same n (omega arith))

sum_to-times : (n : ℕ) (f : ℕ → ℕ) (m : ℕ) → sum_to n (λ i. f i * m) ≡ sum_to n f * m
sum_to-times zero f m = omega arith
sum_to-times (suc n) f m = omega (arith, sum_to-times n f m)

times-sum_to : (n m : ℕ) (f : ℕ → ℕ) → sum_to n (λ i. m * f i) ≡ m * sum_to n f
times-sum_to zero m f = omega arith
times-sum_to (suc n) m f = omega (arith, times-sum_to n m f)

-- 1 at the places of a span, 0 at all others
abbrev pub mark : ℕ → ℕ → ℕ → ℕ
mark first long place = cond (is_within first long place) 1 0

-- a span has as many places as it is long
marks-below : (n first long : ℕ) → sum_to n (mark first long) ≡ min n (first + long) - first
marks-below zero first long = omega arith
marks-below (suc n) first long = let before = marks-below n first long in grind (arith, nat_tests, before)

marks : (n first long : ℕ) → first + long ≤ n → sum_to n (mark first long) ≡ long
marks n first long inside = omega (arith, marks-below n first long)

sum_to-below : (n : ℕ) (f g : ℕ → ℕ) → ((i : ℕ) → i < n → f i ≤ g i) → sum_to n f ≤ sum_to n g
sum_to-below zero f g below = omega arith
sum_to-below (suc n) f g below = omega (arith, sum_to-below n f g (λ i lt. below i (omega arith)), below n (omega arith))

-- sums are equal, of which none of the terms is more, only where each of them is
sum_to-tight : (n : ℕ) (f g : ℕ → ℕ) → ((i : ℕ) → i < n → f i ≤ g i) → sum_to n f ≡ sum_to n g → (i : ℕ) → i < n → f i ≡ g i
sum_to-tight zero f g below same i lt = absurd (omega arith)
sum_to-tight (suc n) f g below same i lt =
    let earlier : (j : ℕ) → j < n → f j ≤ g j = λ j less. below j (omega arith) in
    let most = sum_to-below n f g earlier in
    let last = below n (omega arith) in
    elim (cases_lt i n) [
      | inl less ↦ sum_to-tight n f g earlier (omega (arith, same, most, last)) i less
      | inr more ↦ let e : i ≡ n = omega arith in rw e (omega (arith, same, most, last))
    ]

-- the sum over all cells of a size
abbrev over_cells : Size → (Cell → ℕ) → ℕ
over_cells s f = sum_to s.width (λ i. sum_to s.height (λ j. sum_to s.depth (λ k. f (record { i = i; j = j; k = k }))))

over-same : (s : Size) (f g : Cell → ℕ) → ((c : Cell) → IsCellOf c (whole s) → f c ≡ g c) → over_cells s f ≡ over_cells s g
over-same s f g same =
    sum_to-same s.width _ _ (λ i in_x.
    sum_to-same s.height _ _ (λ j in_y.
    sum_to-same s.depth _ _ (λ k in_z.
    same (record { i = i; j = j; k = k })
    (search rules))))

over-tight : (s : Size) (f g : Cell → ℕ) → ((c : Cell) → f c ≤ g c) → over_cells s f ≡ over_cells s g
    → (c : Cell) → IsCellOf c (whole s) → f c ≡ g c
over-tight s f g below same c in_bin =
    let line : (Cell → ℕ) → ℕ → ℕ → ℕ = λ h i j. sum_to s.depth (λ k. h (record { i = i; j = j; k = k })) in
    let plane : (Cell → ℕ) → ℕ → ℕ = λ h i. sum_to s.height (line h i) in
    let lines : (i j : ℕ) → line f i j ≤ line g i j = λ i j. sum_to-below s.depth _ _ (λ k lt. below (record { i = i; j = j; k = k })) in
    let planes : (i : ℕ) → plane f i ≤ plane g i = λ i. sum_to-below s.height _ _ (λ j lt. lines i j) in
    let on_plane = sum_to-tight s.width (plane f) (plane g) (λ i lt. planes i) same c.i (search rules) in
    let on_line = sum_to-tight s.height (line f c.i) (line g c.i) (λ j lt. lines c.i j) on_plane c.j (search rules) in
    sum_to-tight s.depth (λ k. f (record { i = c.i; j = c.j; k = k })) (λ k. g (record { i = c.i; j = c.j; k = k }))
    (λ k lt. below (record { i = c.i; j = c.j; k = k })) on_line c.k (search rules)

over-add : (s : Size) (f g : Cell → ℕ) → over_cells s (λ c. f c + g c) ≡ over_cells s f + over_cells s g
over-add s f g = simp sum_to-add

-- a product of a number for each axis
over-product : (s : Size) (f g h : ℕ → ℕ) → over_cells s (λ c. f c.i * g c.j * h c.k) ≡ sum_to s.width f * sum_to s.height g * sum_to s.depth h
over-product s f g h = simp (times-sum_to, sum_to-times)

all_three : (p q r : Bool) → cond {A = ℕ} (p && q && r) 1 0 ≡ cond p 1 0 * cond q 1 0 * cond r 1 0
all_three true true r = omega arith
all_three true false r = omega arith
all_three false q r = omega arith

pub filled-marks : (c : Cell) (b : Cuboid)
    → times_filled c (b ∷ []) ≡ mark b.x b.whd.width c.i * mark b.y b.whd.height c.j * mark b.z b.whd.depth c.k
unfolding times_filled is_cell_of
filled-marks c b = omega (arith, all_three (is_within b.x b.whd.width c.i) (is_within b.y b.whd.height c.j) (is_within b.z b.whd.depth c.k))

-- a box inside the bin has as many cells as its volume says
filled-box : (s : Size) (b : Cuboid) → IsInside s b → over_cells s (λ c. times_filled c (b ∷ [])) ≡ volume_of b.whd
filled-box s b inside =
    over-same s _ _ (λ c in_bin. filled-marks c b)
    ∙ over-product s (mark b.x b.whd.width) (mark b.y b.whd.height) (mark b.z b.whd.depth)
    ∙ rw (marks s.width b.x b.whd.width inside.within_x, marks s.height b.y b.whd.height inside.within_y, marks s.depth b.z b.whd.depth inside.within_z) refl

filled-boxes : (s : Size) (boxes : List Cuboid) → All (IsInside s) boxes → over_cells s (λ c. times_filled c boxes) ≡ total_volume boxes
filled-boxes s [] inside = over-same s _ (λ c. 0) (λ c in_bin. filled-nil c) ∙ omega (arith, over-add s (λ c. 0) (λ c. 0))
filled-boxes s (b ∷ bs) inside =
    over-same s _ (λ c. times_filled c (b ∷ []) + times_filled c bs) (λ c in_bin. filled-cons c b bs)
    ∙ over-add s (λ c. times_filled c (b ∷ [])) (λ c. times_filled c bs)
    ∙ omega (
      arith,
      filled-box s b (All-head (IsInside s) b bs inside),
      filled-boxes s bs (All-tail (IsInside s) b bs inside),
      sum_by-cons (λ (e : Cuboid). volume_of e.whd) b bs,
    )

pub CoverBin-volume : (boxes : List Cuboid) (s : Size) → CoverBin boxes s → total_volume boxes ≡ volume_of s
CoverBin-volume boxes s cover =
    let same : (c : Cell) → IsCellOf c (whole s) → times_filled c boxes ≡ times_filled c (whole s ∷ []) = λ c h.
    omega (arith, cover.once c h, filled_yes c (whole s) [] h, filled-nil c) in
    sym (filled-boxes s boxes cover.inside) ∙ over-same s (λ c. times_filled c boxes) (λ c. times_filled c (whole s ∷ [])) same
    ∙ filled-box s (whole s) (search rules)

-- boxes inside a bin that share no cell cover it where they have its volume
pub CoverBin-from_volume : (boxes : List Cuboid) (s : Size) → All (IsInside s) boxes → AreAllApart boxes → total_volume boxes ≡ volume_of s
    → CoverBin boxes s
CoverBin-from_volume boxes s inside apart volume =
    let most : (c : Cell) → times_filled c boxes ≤ 1 = λ c. counts_from_apart c boxes apart in
    let ones : over_cells s (λ c. 1) ≡ volume_of s =
    over-same s (λ c. 1) (λ c. times_filled c (whole s ∷ [])) (λ c h. omega (arith, filled_yes c (whole s) [] h, filled-nil c))
    ∙ filled-box s (whole s) (search rules) in
    record {
      inside = inside;
      once = λ c h. over-tight s (λ c. times_filled c boxes) (λ c. 1) most (filled-boxes s boxes inside ∙ volume ∙ sym ones) c h;
    }

pub Tiles-volume : (boxes : List Cuboid) (b : Cuboid) → All (λ e. IsPartOf e b) boxes → Tiles boxes b → HaveVolumeOf boxes b
Tiles-volume boxes b parts tiles =
    let s : Size = record { width = b.x + b.whd.width; height = b.y + b.whd.height; depth = b.z + b.whd.depth } in
    let inside : (e : Cuboid) → IsPartOf e b → IsInside s e = λ e part. search rules in
    sym (filled-boxes s boxes (All-weaker (λ e. IsPartOf e b) (IsInside s) inside boxes parts))
    ∙ over-same s (λ c. times_filled c boxes) (λ c. times_filled c (b ∷ [])) (λ c in_bin. tiles.same c)
    ∙ filled-box s b (search rules)
