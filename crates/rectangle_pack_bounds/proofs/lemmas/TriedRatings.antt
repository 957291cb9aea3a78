-- Each rating that is tried can be used on its axis, and so is dual feasible there.
use Rattle.rectangle_pack_bounds.proofs.Std.{arith, ◌≡◌, ℕ, ◌-◌, ◌*◌, ◌<◌, ◌≤◌, false, List, [], ◌∷◌, ◌++◌, length, map, inl}
use Rattle.rectangle_pack_bounds.proofs.Std.{inr, le-leb, cases_lt, cases_Bool, both_ways, All, All-cons, All-nil}
use Rattle.rectangle_pack_bounds.proofs.Std.{All-append, All-map, All-drop, All-weaker, All-contains_itself, Contains}
use Rattle.rectangle_pack_bounds.proofs.Std.{get_or, list_all-from_AllPass, nat_le}
use Rattle.rectangle_pack_bounds.specs.declared.rating.Rating.{Rating}
use Rattle.rectangle_pack_bounds.specs.declared.rating.Rating.TheVariants.{Rounded, InParts, InPieces}
use Rattle.rectangle_pack_sections.specs.Boxes.{Size}
use Rattle.rectangle_pack_bounds.specs.DualFeasible.{IsDualFeasible, AreDualFeasible}
use Rattle.rectangle_pack_bounds.specs.Ratings.{IsUsable, rate_by, scale_by, Ratings, rates_by, scales_by, last_of, are_full}
use Rattle.rectangle_pack_bounds.specs.Ratings.{Effort, AreTried}
use Rattle.rectangle_pack_bounds.proofs.lemmas.Families.{rounded_feasible, in_parts_feasible, in_pieces_feasible}

pub rating_feasible : (r : Rating) (along : ℕ) → IsUsable r along → IsDualFeasible along (rate_by r along) (scale_by r along)
rating_feasible (Rounded least) along h = rounded_feasible along least h
rating_feasible (InParts parts) along h = in_parts_feasible along parts h
rating_feasible (InPieces piece) along h = in_pieces_feasible along piece h

pub ratings_feasible : (r : Ratings) (bin : Size) → IsUsable r.of_width bin.width → IsUsable r.of_height bin.height
    → IsUsable r.of_depth bin.depth → AreDualFeasible bin (rates_by r bin) (scales_by r bin)
ratings_feasible r bin wide high deep = record {
  width = rating_feasible r.of_width bin.width wide;
  height = rating_feasible r.of_height bin.height high;
  depth = rating_feasible r.of_depth bin.depth deep;
}

-- where some length is not full, the axis is not empty
some_not_full : (along : ℕ) (lengths : List ℕ) → are_full along lengths ≡ false → 0 < along
some_not_full along lengths some = elim (cases_lt 0 along) [
  | inl pos ↦ pos
  | inr empty ↦
      absurd (both_ways _ some (list_all-from_AllPass (nat_le along) lengths
      (λ k d lt. le-leb along (get_or lengths k d) (omega arith))))
]

module _ (effort : Effort) (along : ℕ) (lengths : List ℕ) (ratings : List Rating)
    (tried : AreTried effort along lengths ratings) where
  abbrev pub AreUsable : List Rating → Type 0
  AreUsable rs = All (λ r. IsUsable r along) rs

  -- lengths that are not empty, and at most half of the axis
  abbrev AreShort : List ℕ → Type 0
  AreShort ns = All (λ n. (0 < n) × (2 * n ≤ along)) ns

  all_short : AreShort tried.rising
  all_short =
      All-weaker (Contains tried.rising) (λ n. (0 < n) × (2 * n ≤ along))
      (λ n h. let found = (tried.listed n).0 h in (found.1, found.2)) tried.rising (All-contains_itself tried.rising)

  last_short : (most : ℕ) → AreShort (last_of most tried.rising)
  last_short most = All-drop (λ n. (0 < n) × (2 * n ≤ along)) (length tried.rising - most) tried.rising all_short

  as_it_is : IsUsable (Rounded 0) along
  as_it_is = omega arith

  parts_usable : 0 < along → AreUsable (map InParts effort.parts)
  parts_usable pos = All-map (λ r. IsUsable r along) InParts effort.parts (λ k d lt. pos)

  rounded_usable : (ns : List ℕ) → AreShort ns → AreUsable (map Rounded ns)
  rounded_usable ns short =
      All-map (λ r. IsUsable r along) Rounded ns
      (All-weaker (λ n. (0 < n) × (2 * n ≤ along)) (λ n. 2 * n ≤ along) (λ n h. h.1) ns short)

  pieces_usable : (ns : List ℕ) → AreShort ns → AreUsable (map InPieces ns)
  pieces_usable ns short =
      All-map (λ r. IsUsable r along) InPieces ns
      (All-weaker (λ n. (0 < n) × (2 * n ≤ along)) (λ n. 0 < n) (λ n h. h.0) ns short)

  several_usable : are_full along lengths ≡ false → AreUsable (Rounded 0 ∷ map InParts effort.parts
      ++ map Rounded (last_of effort.rounded tried.rising) ++ map InPieces (last_of effort.pieces tried.rising))
  several_usable some =
      let at : List ℕ = last_of effort.rounded tried.rising in
      let in_pieces : List ℕ = last_of effort.pieces tried.rising in
      let parts = parts_usable (some_not_full along lengths some) in
      let first = All-cons (λ r. IsUsable r along) (Rounded 0) (map InParts effort.parts) as_it_is parts in
      let more = All-append (λ r. IsUsable r along) (Rounded 0 ∷ map InParts effort.parts) (map Rounded at) first
      (rounded_usable at (last_short effort.rounded)) in
      All-append (λ r. IsUsable r along) (Rounded 0 ∷ map InParts effort.parts ++ map Rounded at) (map InPieces in_pieces)
      more
      (pieces_usable in_pieces (last_short effort.pieces))

  pub tried_usable : AreUsable ratings
  tried_usable = rw tried.are (elim (cases_Bool (are_full along lengths)) [
    | inl full ↦ rw full (All-cons (λ r. IsUsable r along) (Rounded 0) [] as_it_is (All-nil (λ r. IsUsable r along)))
    | inr some ↦ rw some (several_usable some)
  ])
