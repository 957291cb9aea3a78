-- Boxes in the sizes in which they stand: what holds of packings that turn none holds of these.
use Rattle.rectangle_pack_c.proofs.Std.{◌≡◌, ℕ, ◌+◌, ◌<◌, Bool, true, false, cond, List, [], ◌∷◌, length, get_or, refl, ap, sym, ◌∙◌}
use Rattle.rectangle_pack_c.proofs.Std.{arith, Option, Some, None, zero, suc, option_map, All, AllZip, Contains, unwrap_or, map, filter, slice_get}
use Rattle.rectangle_pack_c.proofs.Std.{nat_cmp, is_eq, lookup, is_at, enumerate_from, All-head, All-tail, slice_get-map, slice_get-get_or, Equal}
use Rattle.rectangle_pack.specs.declared.Turns.{Turns}
use Rattle.rectangle_pack.specs.declared.grouped_rects_to_place.Group.{Group}
use Rattle.rectangle_pack.specs.declared.pack.Placement.{Placement}
use Rattle.rectangle_pack.specs.Boxes.{Size}
use Rattle.rectangle_pack.specs.Groups.{Collection}
use Rattle.rectangle_pack.specs.NeededLaws.{AreWaysOf}
use Rattle.rectangle_pack.specs.Placed.{ArePlacedWhole}
use Rattle.rectangle_pack_bounds.specs.Turning.{ways}
use Rattle.rectangle_pack_packing.specs.Told.{in_sizes}
use Rattle.rectangle_pack.proofs.lemmas.bound.Arranged.{as_it_is}
use Rattle.rectangle_pack_c.specs.declared.RpBox.{RpBox}
use Rattle.rectangle_pack_c.specs.declared.collection.RpCollection.{RpCollection}
use Rattle.rectangle_pack_c.specs.declared.collection.RpExclusion.{RpExclusion}
use Rattle.rectangle_pack_c.specs.Arguments.{box_size}
use Rattle.rectangle_pack_c.specs.Collections.{IsCollected, all_boxes, group_of, group_order, unless_empty}
use Rattle.rectangle_pack_c.specs.Searching.{MayStand}
use Rattle.rectangle_pack_c.specs.Turning.{AreTurnsOf, turns_at}
use Rattle.rectangle_pack_c.proofs.CollectedLemmas.{AreHeld, collected_held, lookup_numbered}
use Rattle.rectangle_pack_c.proofs.PlacedLemmas.{no_box}

-- box i in the size that stands under its index, or in its own where none stands there
abbrev pub laid_box : List (ℕ × Size) → ℕ → RpBox → RpBox
laid_box sizes i b =
    let s : Size = unwrap_or (lookup (is_at (nat_cmp i)) sizes) (box_size b) in
    record { width = s.width; height = s.height; depth = s.depth; group = b.group }

-- boxes with the indices n, n + 1 and so on, each so
abbrev pub laid_boxes : List (ℕ × Size) → ℕ → List RpBox → List RpBox
laid_boxes sizes n [] = []
laid_boxes sizes n (b ∷ bs) = laid_box sizes n b ∷ laid_boxes sizes (n + 1) bs

-- their sizes, by their indices
abbrev pub sizes_laid : List (ℕ × Size) → List RpBox → List (ℕ × Size)
sizes_laid sizes boxes = enumerate_from 0 (map box_size (laid_boxes sizes 0 boxes))

pub from_zero : (i : ℕ) → i ≡ 0 + i
from_zero i = omega arith

pub laid_length : (sizes : List (ℕ × Size)) (n : ℕ) (bs : List RpBox) → length (laid_boxes sizes n bs) ≡ length bs
laid_length sizes n [] = refl
laid_length sizes n (b ∷ bs) = ap suc (laid_length sizes (n + 1) bs)

pub laid_at : (sizes : List (ℕ × Size)) (n : ℕ) (bs : List RpBox) (k i : ℕ) (b : RpBox) → i ≡ n + k → slice_get bs k ≡ Some b
    → slice_get (laid_boxes sizes n bs) k ≡ Some (laid_box sizes i b)
laid_at sizes n [] k i b e at = absurd cc
laid_at sizes n (c ∷ bs) zero i b e at =
    let same : i ≡ n = omega (arith, e) in let is : Some c ≡ Some b = at in let one : c ≡ b = cc in rw (same, one) refl
laid_at sizes n (c ∷ bs) (suc k) i b e at = laid_at sizes (n + 1) bs k i b (omega (arith, e)) at

-- a group has the same indices
abbrev is_in : Group ℕ ℕ → ℕ × RpBox → Bool
is_in group e = is_eq (group_order group (group_of e.0 e.1))

same_indices : (sizes : List (ℕ × Size)) (group : Group ℕ ℕ) (n : ℕ) (bs : List RpBox)
    → map (λ (e : ℕ × RpBox). e.0) (filter (is_in group) (enumerate_from n (laid_boxes sizes n bs)))
    ≡ map (λ (e : ℕ × RpBox). e.0) (filter (is_in group) (enumerate_from n bs))
same_indices sizes group n [] = refl
same_indices sizes group n (b ∷ bs) = by (is_in group (n, b)) (same_indices sizes group (n + 1) bs)
  where
    laid : List (ℕ × RpBox)
    laid = filter (is_in group) (enumerate_from (n + 1) (laid_boxes sizes (n + 1) bs))

    own : List (ℕ × RpBox)
    own = filter (is_in group) (enumerate_from (n + 1) bs)

    by : (t : Bool) → map (λ (e : ℕ × RpBox). e.0) laid ≡ map (λ (e : ℕ × RpBox). e.0) own
        → map (λ (e : ℕ × RpBox). e.0) (cond t ((n, laid_box sizes n b) ∷ laid) laid) ≡ map (λ (e : ℕ × RpBox). e.0) (cond t ((n, b) ∷ own) own)
    by true ih = ap (λ l. n ∷ l) ih
    by false ih = ih

module _ (sizes : List (ℕ × Size)) (boxes : List RpBox) (exclusions : List RpExclusion) (all : Collection ℕ ℕ) (collected : IsCollected boxes exclusions all) where
  abbrev pub laid : List RpBox
  laid = laid_boxes sizes 0 boxes

  abbrev pub all_laid : Collection ℕ ℕ
  all_laid = in_sizes all (sizes_laid sizes boxes)

  -- they are the collection in these sizes
  pub laid_collected : IsCollected laid exclusions all_laid
  laid_collected = record {
    sizes = refl;
    groups = λ group. collected.groups group ∙ ap unless_empty (sym (same_indices sizes group 0 boxes));
    ascend = collected.ascend;
    excluded = collected.excluded;
  }

  held : AreHeld (λ i. get_or boxes i no_box) (length boxes) all
  held = collected_held boxes exclusions no_box all collected

  laid_here : (i : ℕ) (b : RpBox) → slice_get boxes i ≡ Some b → slice_get laid i ≡ Some (laid_box sizes i b)
  laid_here i b at = laid_at sizes 0 boxes i i b (from_zero i) at

  -- where a size stands under an index, the box has it
  sized : (i : ℕ) → i < length boxes → (s : Size) → lookup (is_at (nat_cmp i)) sizes ≡ Some s → lookup (is_at (nat_cmp i)) (sizes_laid sizes boxes) ≡ Some s
  sized i low s is =
      let b = get_or boxes i no_box in
      lookup_numbered 0 (map box_size laid) i i (from_zero i) ∙ slice_get-map box_size laid i
      ∙ ap (option_map box_size) (laid_here i b (slice_get-get_or boxes i no_box low))
      ∙ ap (λ (o : Option Size). Some (unwrap_or o (box_size b))) is

  abbrev Stood : List (ℕ × Size) → ℕ → Placement ℕ ℕ → Type 0
  Stood found id p = (nat_cmp id p.id ≡ Equal) × (lookup (is_at (nat_cmp id)) found ≡ Some p.location.whd)

  each_laid : (k : Group ℕ ℕ) (ids : List ℕ) (ps : List (Placement ℕ ℕ)) → All (λ i. (i < length boxes) × (group_of i (get_or boxes i no_box) ≡ k)) ids
      → AllZip (Stood sizes) ids ps → AllZip (Stood (sizes_laid sizes boxes)) ids ps
  each_laid k [] [] low h = h
  each_laid k [] (p ∷ ps) low h = h
  each_laid k (i ∷ ids) [] low h = h
  each_laid k (i ∷ ids) (p ∷ ps) low h =
      let Member : ℕ → Type 0 = λ i. (i < length boxes) × (group_of i (get_or boxes i no_box) ≡ k) in
      ((h.0.0, sized i (All-head Member i ids low).0 p.location.whd h.0.1), each_laid k ids ps (All-tail Member i ids low) h.1)

  -- what is placed whole in these sizes
  pub laid_whole : (homes : List (Group ℕ ℕ × ℕ)) (ps : List (Placement ℕ ℕ)) → ArePlacedWhole nat_cmp nat_cmp group_order sizes all.groups homes ps
      → ArePlacedWhole nat_cmp nat_cmp group_order (sizes_laid sizes boxes) all.groups homes ps
  laid_whole [] ps h = h
  laid_whole (home ∷ homes) ps (ids, first, later, listed, placed, rest, joined) = (
    ids,
    first,
    later,
    listed,
    record { each = each_laid home.0 ids first (held.members home.0 ids listed) placed.each; together = placed.together },
    laid_whole homes later rest,
    joined,
  )

-- each box stands in a size in which it may stand
module _ (c : RpCollection) (all : Collection ℕ ℕ) (collected : IsCollected (all_boxes c) c.exclusions.now all) (numbers : List ℕ) (turns : List (ℕ × Turns))
    (turns_are : AreTurnsOf c numbers turns) (sizes : List (ℕ × Size)) (are : AreWaysOf nat_cmp all turns sizes) where
  pub laid_way : (i : ℕ) (b : RpBox) → i < length (all_boxes c) → slice_get (all_boxes c) i ≡ Some b → MayStand c numbers i b (box_size (laid_box sizes i b))
  laid_way i b low at = by (lookup (is_at (nat_cmp i)) sizes) refl
    where
      size_is : lookup (is_at (nat_cmp i)) all.sizes ≡ Some (box_size b)
      size_is =
          rw collected.sizes
          (lookup_numbered 0 (map box_size (all_boxes c)) i i (from_zero i) ∙ slice_get-map box_size (all_boxes c) i ∙ ap (option_map box_size) at)

      by : (o : Option Size) → lookup (is_at (nat_cmp i)) sizes ≡ o
          → Contains (ways (record { whd = box_size b; turns = turns_at c numbers i })) (unwrap_or o (box_size b))
      by None is =
          let t = turns_at c numbers i in as_it_is t.about_x t.about_y t.about_z (box_size b)
      by (Some s) is = rw (size_is, turns_are i low) at (are i s is)
