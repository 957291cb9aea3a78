-- A box that is a part of a section, and the pieces of the section round it.
use Rattle.rectangle_pack_sections.proofs.Std.{◌≡◌, ℕ, suc, ◌+◌, ◌-◌, ◌<◌, ◌≤◌, true, List, [], ◌∷◌, ◌++◌, length, take, drop, remove, get_or, filter, ap, sym, arith}
use Rattle.rectangle_pack_sections.proofs.Std.{subst, All, AllWithin, ◌∙◌, refl, get_or-append_seam, remove-append_right, length-append, append_assoc, filter-append, All-append, All-weaker, split_at, get_or-take, length-take-le, filter_passes}
use Rattle.rectangle_pack_sections.specs.declared.axis.Axis.{Axis}
use Rattle.rectangle_pack_sections.specs.declared.axis.Axis.TheVariants.{X, Y, Z}
use Rattle.rectangle_pack_sections.specs.Boxes.{Size, Cuboid, Cell, IsInside, IsPartOf, extent, start, end, has_cells}
use Rattle.rectangle_pack_sections.specs.Bins.{Bin, IsSound}
use Rattle.rectangle_pack_sections.specs.Counting.{times_filled}
use Rattle.rectangle_pack_sections.specs.CutTrees.{lower, upper, IsPlaceOf, times_in, IsFromCuts}
use Rattle.rectangle_pack_sections.proofs.lemmas.util.Lists.{All-middle, All-without}
use Rattle.rectangle_pack_sections.proofs.lemmas.cuts.Counting.{filled-append, filled-cons, filled-filter, apart_from_counts, counts_from_apart}
use Rattle.rectangle_pack_sections.proofs.lemmas.cuts.Parts.{start-lower, end-lower, lower-lower}
use Rattle.rectangle_pack_sections.proofs.lemmas.cuts.Times.{times_in-cons, times_in-filter, All-times_in, All-from_times_in}
use Rattle.rectangle_pack_sections.proofs.lemmas.cuts.SameBoxes.{IsFromCuts-same}
use Rattle.rectangle_pack_sections.proofs.lemmas.cuts.Trees.{IsFromCuts-leaf, IsFromCuts-cut, IsFromCuts-part}
use Rattle.rectangle_pack_sections.proofs.lemmas.cuts.TreesFill.{IsFromCuts-tiles}
use Rattle.rectangle_pack_bins.specs.PlacedAt.{IsPlacedAt, pieces_round}
use Rattle.rectangle_pack_bins.specs.private.Indices.{IsFirstAroundAt}

-- two cuts on one axis, and cuts of what is between them
between : (a : Axis) (p q : ℕ) (w : Cuboid) (inner : List Cuboid) → start a w ≤ p → p ≤ q → q ≤ end a w
    → IsFromCuts inner (upper a p (lower a q w)) → IsFromCuts (lower a p w ∷ inner ++ upper a q w ∷ []) w
between a p q w inner from rises to made =
    let high : IsPlaceOf a q w = record { from = omega arith; to = to } in
    let low : IsPlaceOf a p (lower a q w) = record { from = omega (arith, start-lower a q w); to = omega (arith, end-lower a q w (omega arith)) } in
    let first : IsFromCuts (lower a p w ∷ []) (lower a p (lower a q w)) = rw (lower-lower a p q w) (IsFromCuts-leaf (lower a p w)) in
    IsFromCuts-cut a q w (lower a p w ∷ inner) (upper a q w ∷ []) high
    (IsFromCuts-cut a p (lower a q w) (lower a p w ∷ []) inner low first made) (IsFromCuts-leaf (upper a q w))

-- how often a box is one of seven
times_in-seven : (x b c d e f g h : Cuboid) → times_in x (b ∷ c ∷ d ∷ e ∷ f ∷ g ∷ h ∷ [])
    ≡ times_in x (b ∷ []) + times_in x (c ∷ []) + times_in x (d ∷ []) + times_in x (e ∷ []) + times_in x (f ∷ []) + times_in x (g ∷ []) + times_in x (h ∷ [])
times_in-seven x b c d e f g h = omega (
  arith,
  times_in-cons x b (c ∷ d ∷ e ∷ f ∷ g ∷ h ∷ []),
  times_in-cons x c (d ∷ e ∷ f ∷ g ∷ h ∷ []),
  times_in-cons x d (e ∷ f ∷ g ∷ h ∷ []),
  times_in-cons x e (f ∷ g ∷ h ∷ []),
  times_in-cons x f (g ∷ h ∷ []),
  times_in-cons x g (h ∷ []),
)

reordered : {whole : Cuboid} (left below front box behind above right : Cuboid)
    → IsFromCuts (left ∷ below ∷ front ∷ box ∷ behind ∷ above ∷ right ∷ []) whole
    → IsFromCuts (box ∷ left ∷ right ∷ below ∷ above ∷ front ∷ behind ∷ []) whole
reordered left below front box behind above right = IsFromCuts-same _ _ (λ x cells. omega (
  arith,
  times_in-seven x left below front box behind above right,
  times_in-seven x box left right below above front behind,
))

between-size : (first start long : ℕ) → first ≤ start → (first + ((start + long) - first)) - start ≡ long
between-size first start long from = omega arith

module _ (s b : Cuboid) (part : IsPartOf b s) where
  -- what two cuts on x leave of the section: as wide as the box; and what two cuts on y leave of that
  abbrev column : Cuboid
  column = record s { x = b.x; whd = record s.whd { width = b.whd.width } }

  abbrev row : Cuboid
  row = record s { x = b.x; y = b.y; whd = record s.whd { width = b.whd.width; height = b.whd.height } }

  -- the box and the pieces of the section round it are from cuts of it
  pub round_from_cuts : IsFromCuts (b ∷ pieces_round s b) s
  unfolding start extent end lower upper
  round_from_cuts =
      let on_x : upper X b.x (lower X (b.x + b.whd.width) s) ≡ column =
      ap (λ n. record s { x = b.x; whd = record s.whd { width = n } }) (between-size s.x b.x b.whd.width part.from_x) in
      let on_y : upper Y b.y (lower Y (b.y + b.whd.height) column) ≡ row =
      ap (λ n. record column { y = b.y; whd = record column.whd { height = n } }) (between-size s.y b.y b.whd.height part.from_y) in
      let on_z : upper Z b.z (lower Z (b.z + b.whd.depth) row) ≡ b =
      ap (λ n. record row { z = b.z; whd = record row.whd { depth = n } }) (between-size s.z b.z b.whd.depth part.from_z) in
      let inmost = lower Z b.z row ∷ b ∷ upper Z (b.z + b.whd.depth) row ∷ [] in
      let inner = lower Y b.y column ∷ inmost ++ upper Y (b.y + b.whd.height) column ∷ [] in
      let third : IsFromCuts inmost row = between Z b.z (b.z + b.whd.depth) row (b ∷ []) part.from_z (omega arith) part.to_z
      (subst (λ w. IsFromCuts (b ∷ []) w) (sym on_z) (IsFromCuts-leaf b)) in
      let second : IsFromCuts inner column = between Y b.y (b.y + b.whd.height) column inmost part.from_y (omega arith) part.to_y
      (subst (λ w. IsFromCuts inmost w) (sym on_y) third) in
      reordered _ _ _ b _ _ _ (between X b.x (b.x + b.whd.width) s inner part.from_x (omega arith) part.to_x
      (subst (λ w. IsFromCuts inner w) (sym on_x) second))

  -- those with cells
  abbrev pub left : List Cuboid
  left = filter has_cells (pieces_round s b)

  pub parts_round : All (λ e. IsPartOf e s) left
  parts_round = All-from_times_in (λ e. IsPartOf e s) left (λ e some.
      let cells : has_cells e ≡ true = All-times_in (λ e. has_cells e ≡ true) e left (filter_passes has_cells (pieces_round s b)) some in
      IsFromCuts-part round_from_cuts e cells
      (omega (arith, times_in-filter has_cells e (pieces_round s b), times_in-cons e b (pieces_round s b))))

  module _ (before after : List Cuboid) where
    -- a list in which the section makes way for them fills each cell as often as before, with the box
    pub filled-round : (c : Cell) → times_filled c (b ∷ (before ++ after ++ left)) ≡ times_filled c (before ++ s ∷ after)
    filled-round c = omega (
      arith,
      filled-cons c b (before ++ after ++ left),
      filled-append c (before ++ after) left,
      filled-append c before after,
      filled-append c before (s ∷ after),
      filled-cons c s after,
      filled-filter c (pieces_round s b),
      filled-cons c b (pieces_round s b),
      (IsFromCuts-tiles (b ∷ pieces_round s b) s round_from_cuts).same c,
    )

    -- what passes from a section to its parts holds of all in it
    pub All-round : (P : Cuboid → Type 0) → ((e : Cuboid) → IsPartOf e s → P s → P e) → All P (before ++ s ∷ after) → All P (before ++ after ++ left)
    All-round P passes all =
        let here : P s = All-middle P (before ++ s ∷ after) before after s refl all in
        All-append P (before ++ after) left (All-without P before s after all)
        (All-weaker (λ e. IsPartOf e s) P (λ e p. passes e p here) left parts_round)

    -- and it stays sound
    pub IsSound-round : (size : Size) → IsSound size (before ++ s ∷ after) → IsSound size (before ++ after ++ left)
    IsSound-round size sound = record {
      inside = All-round (IsInside size)
          (λ e p inside. record { within_x = omega arith; within_y = omega arith; within_z = omega arith }) sound.inside;
      apart = apart_from_counts (before ++ after ++ left)
          (λ c. omega (arith, filled-round c, filled-cons c b (before ++ after ++ left), counts_from_apart c (before ++ s ∷ after) sound.apart));
    }

-- the first section that the box is a part of, by its index
pub first_around_at : (sections : List Cuboid) (box : Cuboid) (i : ℕ) (first : Cuboid) → i < length sections → first ≡ get_or sections i first
    → IsPartOf box first → AllWithin (λ s. ¬ IsPartOf box s) sections 0 i → IsFirstAroundAt sections box i
first_around_at sections box i first within read around not_before = (
  first,
  record {
    before = take i sections;
    after = drop (suc i) sections;
    splits = subst (λ (t : Cuboid). sections ≡ take i sections ++ t ∷ drop (suc i) sections) (sym read) (split_at sections i first within);
    around = around;
    not_before = λ k d short.
        let long = length-take-le i sections (omega arith) in
        rw (get_or-take i sections k d (omega (arith, long))) (not_before k d (omega arith) (omega (arith, long)));
  },
  length-take-le i sections (omega arith),
)

-- the section there, and the list without it
pub read_first : (sections : List Cuboid) (box : Cuboid) (i : ℕ) (at : IsFirstAroundAt sections box i) (d : Cuboid) → get_or sections i d ≡ at.0
read_first sections box i (first, at, is) d =
    ap (λ l. get_or l i d) at.splits ∙ rw (← is) (get_or-append_seam at.before first at.after d)

pub removed_first : (sections : List Cuboid) (box : Cuboid) (i : ℕ) (at : IsFirstAroundAt sections box i) → remove sections i ≡ at.1.before ++ at.1.after
removed_first sections box i (first, at, is) =
    let none : length at.before - length at.before ≡ 0 = omega arith in
    ap (λ l. remove l i) at.splits
    ∙ rw (← is) (remove-append_right at.before (first ∷ at.after) (length at.before) (length at.before) refl (omega arith)
    ∙ ap (λ k. at.before ++ remove (first ∷ at.after) k) none)

-- the list without the section, and then the pieces that have cells, in two parts
pub pushed_round : (sections : List Cuboid) (box : Cuboid) (i : ℕ) (at : IsFirstAroundAt sections box i) (section : Cuboid) → section ≡ at.0
    → (first last : List Cuboid) → first ++ last ≡ pieces_round section box
    → (kept some all : List Cuboid) → kept ≡ remove sections i → some ≡ kept ++ filter has_cells first → all ≡ some ++ filter has_cells last
    → all ≡ at.1.before ++ at.1.after ++ filter has_cells (pieces_round at.0 box)
pushed_round sections box i at section read first last are kept some all is_kept is_some is_all =
    let rest = at.1.before ++ at.1.after in
    is_all
    ∙ ap (λ l. l ++ filter has_cells last) (is_some ∙ ap (λ l. l ++ filter has_cells first) (is_kept ∙ removed_first sections box i at))
    ∙ append_assoc rest (filter has_cells first) (filter has_cells last)
    ∙ ap (λ l. rest ++ l) (sym (filter-append has_cells first last) ∙ ap (filter has_cells) (are ∙ ap (λ s. pieces_round s box) read))

-- a placing at a corner fills each cell as often as before
pub filled-placed : (c : Cell) (old : Bin) (box : Cuboid) (new : Bin) → IsPlacedAt old box true new
    → times_filled c (box ∷ new.sections) ≡ times_filled c old.sections
filled-placed c old box new (first, at, is) =
    ap (λ (b : Bin). times_filled c (box ∷ b.sections)) is ∙ filled-round first box at.around at.before at.after c ∙ ap (times_filled c) (sym at.splits)
