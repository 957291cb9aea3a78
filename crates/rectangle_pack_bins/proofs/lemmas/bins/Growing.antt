-- Bins that grow: the old bin and the new part are the two parts of one straight cut.
use Rattle.rectangle_pack_sections.proofs.Std.{ℕ, ◌≡◌, false, List, [], ◌∷◌, ◌++◌, refl, ap, rules, arith, inl, inr, All}
use Rattle.rectangle_pack_sections.proofs.Std.{filter, count_by, cases_lt, cases_Bool, both_ways, All-weaker, All-nil, All-cons, All-append}
use Rattle.rectangle_pack_sections.specs.declared.axis.Axis.{Axis}
use Rattle.rectangle_pack_sections.specs.declared.axis.Axis.TheVariants.{X, Y, Z}
use Rattle.rectangle_pack_sections.specs.Boxes.{Size, Cuboid, IsInside, IsPartOf, AreApart, is_cell_of, extent, start, end, has_cells}
use Rattle.rectangle_pack_sections.specs.Bins.{Bin, IsSound, whole}
use Rattle.rectangle_pack_sections.specs.Counting.{times_filled, Tiles}
use Rattle.rectangle_pack_sections.specs.Covering.{CoverBin}
use Rattle.rectangle_pack_sections.specs.CutTrees.{lower, upper, IsPlaceOf, IsFromCuts}
use Rattle.rectangle_pack_bins.specs.GrownBins.{grown, new_part}
use Rattle.rectangle_pack_sections.proofs.lemmas.util.Lists.{All-front, All-back}
use Rattle.rectangle_pack_sections.proofs.lemmas.cuts.Axes.{cell-part}
use Rattle.rectangle_pack_sections.proofs.lemmas.cuts.Boxes.{is_cell_of-true}
use Rattle.rectangle_pack_sections.proofs.lemmas.cuts.Counting.{count_yes, count_no, filled-append, filled-filter, filled-nil, filled_yes}
use Rattle.rectangle_pack_sections.proofs.lemmas.cuts.Times.{box_ext, times_in-append, times_in-kept, which_passes, All-times_in}
use Rattle.rectangle_pack_sections.proofs.lemmas.cuts.SameBoxes.{IsFromCuts-same}
use Rattle.rectangle_pack_sections.proofs.lemmas.cuts.Trees.{IsFromCuts-leaf, IsFromCuts-cut}
use Rattle.rectangle_pack_sections.proofs.lemmas.cuts.TreesFill.{filled-parts}
use Rattle.rectangle_pack_bins.proofs.lemmas.bins.SoundBins.{IsSound-push}

-- the old end is a place of the grown bin
old_end_is_place : (a : Axis) (by : ℕ) (size : Size) → IsPlaceOf a (extent a size) (whole (grown a by size))
unfolding start extent end grown
old_end_is_place X by size = record { from = omega arith; to = omega arith }
old_end_is_place Y by size = record { from = omega arith; to = omega arith }
old_end_is_place Z by size = record { from = omega arith; to = omega arith }

-- and the part below it is the old bin
lower_is_old : (a : Axis) (by : ℕ) (size : Size) → lower a (extent a size) (whole (grown a by size)) ≡ whole size
unfolding extent lower grown
lower_is_old X by size = box_ext (lower X size.width (whole (grown X by size))) (whole size) refl refl refl (omega arith) refl refl
lower_is_old Y by size = box_ext (lower Y size.height (whole (grown Y by size))) (whole size) refl refl refl refl (omega arith) refl
lower_is_old Z by size = box_ext (lower Z size.depth (whole (grown Z by size))) (whole size) refl refl refl refl refl (omega arith)

IsInside-grown : (a : Axis) (by : ℕ) (size : Size) (b : Cuboid) → IsInside size b → IsInside (grown a by size) b
unfolding grown
IsInside-grown X by size b h = record { within_x = omega (arith, h.within_x); within_y = h.within_y; within_z = h.within_z }
IsInside-grown Y by size b h = record { within_x = h.within_x; within_y = omega (arith, h.within_y); within_z = h.within_z }
IsInside-grown Z by size b h = record { within_x = h.within_x; within_y = h.within_y; within_z = omega (arith, h.within_z) }

new_part_inside : (a : Axis) (by : ℕ) (size : Size) → IsInside (grown a by size) (new_part a by size)
unfolding extent upper grown
new_part_inside X by size = record { within_x = omega arith; within_y = omega arith; within_z = omega arith }
new_part_inside Y by size = record { within_x = omega arith; within_y = omega arith; within_z = omega arith }
new_part_inside Z by size = record { within_x = omega arith; within_y = omega arith; within_z = omega arith }

new_part_apart : (a : Axis) (by : ℕ) (size : Size) (b : Cuboid) → IsInside size b → AreApart b (new_part a by size)
unfolding extent upper grown
new_part_apart X by size b h = record { none = λ c p q. omega (arith, h.within_x, p.below_x, q.from_x) }
new_part_apart Y by size b h = record { none = λ c p q. omega (arith, h.within_y, p.below_y, q.from_y) }
new_part_apart Z by size b h = record { none = λ c p q. omega (arith, h.within_z, p.below_z, q.from_z) }

-- a sound list is sound in the grown bin, also with the new part at its end
pub IsSound-grown : (a : Axis) (by : ℕ) (size : Size) (sections : List Cuboid) → IsSound size sections → IsSound (grown a by size) sections
IsSound-grown a by size sections sound = record {
  inside = All-weaker (IsInside size) (IsInside (grown a by size)) (IsInside-grown a by size) sections sound.inside;
  apart = sound.apart;
}

pub IsSound-new_part : (a : Axis) (by : ℕ) (size : Size) (sections : List Cuboid) → IsSound size sections
    → IsSound (grown a by size) (sections ++ new_part a by size ∷ [])
IsSound-new_part a by size sections sound =
    let bin : Bin = record { size = grown a by size; sections = sections; coalesced = false } in
    IsSound-push bin (new_part a by size) (IsSound-grown a by size sections sound) (record {
      inside = new_part_inside a by size;
      apart = All-weaker (IsInside size) (λ s. AreApart s (new_part a by size)) (new_part_apart a by size) sections sound.inside;
    })

-- boxes that cover a bin fill no cell outside it
CoverBin-tiles : (boxes : List Cuboid) (size : Size) → CoverBin boxes size → Tiles boxes (whole size)
unfolding times_filled
CoverBin-tiles boxes size cover = record {
  same = λ c. elim (cases_Bool (is_cell_of c (whole size))) [
    | inl t ↦ omega (arith, cover.once c (is_cell_of-true c (whole size) t), count_yes (is_cell_of c) (whole size) [] t)
    | inr f ↦ elim (cases_lt 0 (count_by (is_cell_of c) boxes)) [
      | inr none ↦ omega (arith, count_no (is_cell_of c) (whole size) [] f)
      | inl some ↦
          let b = which_passes (is_cell_of c) boxes some in
          let inside = All-times_in (IsInside size) b.0 boxes cover.inside b.2 in
          let part : IsPartOf b.0 (whole size) = search rules in
          absurd (both_ways _ f (cell-part c b.0 (whole size) part b.1))
    ]
  ];
}

-- a list of one box, without it where it has no cells
All-with_cells : (P : Cuboid → Type 0) (b : Cuboid) → P b → All P (filter has_cells (b ∷ []))
All-with_cells P b h = elim (cases_Bool (has_cells b)) [
  | inl t ↦ rw t (All-cons P b [] h (All-nil P))
  | inr f ↦ rw f (All-nil P)
]

-- boxes that cover a bin cover the grown one with the new part
pub CoverBin-grown : (a : Axis) (by : ℕ) (size : Size) (before after : List Cuboid) → CoverBin (before ++ after) size
    → CoverBin ((before ++ filter has_cells (new_part a by size ∷ [])) ++ after) (grown a by size)
CoverBin-grown a by size before after cover =
    let part = new_part a by size in
    let new = filter has_cells (part ∷ []) in
    let P : Cuboid → Type 0 = IsInside (grown a by size) in
    let old : All P (before ++ after) = All-weaker (IsInside size) P (IsInside-grown a by size) (before ++ after) cover.inside in
    record {
      inside = All-append P (before ++ new) after
          (All-append P before new (All-front P before after old) (All-with_cells P part (new_part_inside a by size)))
          (All-back P before after old);
      once = λ c in_bin. omega (
        arith,
        filled-append c (before ++ new) after,
        filled-append c before new,
        filled-filter c (part ∷ []),
        filled-append c before after,
        (CoverBin-tiles (before ++ after) size cover).same c,
        ap (λ b. times_filled c (b ∷ [])) (lower_is_old a by size),
        filled-parts c a (extent a size) (whole (grown a by size)) (old_end_is_place a by size),
        filled_yes c (whole (grown a by size)) [] in_bin,
        filled-nil c,
      );
    }

-- boxes that are from cuts of a bin are, with the new part, from cuts of the grown one: the first cut is at the old end
pub IsFromCuts-grown : (a : Axis) (by : ℕ) (size : Size) (before after : List Cuboid) → IsFromCuts (before ++ after) (whole size)
    → IsFromCuts ((before ++ filter has_cells (new_part a by size ∷ [])) ++ after) (whole (grown a by size))
IsFromCuts-grown a by size before after from =
    let part = new_part a by size in
    let new = filter has_cells (part ∷ []) in
    let all = whole (grown a by size) in
    let below : IsFromCuts (before ++ after) (lower a (extent a size) all) = rw (lower_is_old a by size) from in
    IsFromCuts-same ((before ++ after) ++ part ∷ []) ((before ++ new) ++ after)
    (λ e cells. omega (
      arith,
      times_in-append e (before ++ after) (part ∷ []),
      times_in-append e before after,
      times_in-append e (before ++ new) after,
      times_in-append e before new,
      times_in-kept has_cells e (part ∷ []) cells,
    ))
    (IsFromCuts-cut a (extent a size) all (before ++ after) (part ∷ []) (old_end_is_place a by size) below (IsFromCuts-leaf part))
