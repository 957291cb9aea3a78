-- The best of a list that has one heuristic.
use Rattle.rectangle_pack_sections.proofs.Std.{◌≡◌, ℕ, List, [], ◌∷◌, ◌++◌, length, get_or, refl, sym, subst, arith, All-nil, All-cons, Ordering, Result, Ok, Err}
use Rattle.rectangle_pack_sections.specs.declared.box_size_heuristics.named.Heuristic.{Heuristic}
use Rattle.rectangle_pack_sections.specs.Bins.{Bin}
use Rattle.rectangle_pack_sections.specs.declared.group.Group.{Group}
use Rattle.rectangle_pack_sections.specs.Groups.{Collection}
use Rattle.rectangle_pack_lists.specs.declared.free_list.End.TheVariants.{Undo}
use Rattle.rectangle_pack_packing.specs.declared.answer.RectanglePackOk.{RectanglePackOk}
use Rattle.rectangle_pack_packing.specs.declared.answer.RectanglePackError.{RectanglePackError}
use Rattle.rectangle_pack_packing.specs.declared.answer.RectanglePackError.TheVariants.{NotEnoughBinSpace, OutOfMemory}
use Rattle.rectangle_pack_packing.specs.declared.uses.Use.{Use}
use Rattle.rectangle_pack_packing.specs.Best.{use_of, named_rules, PacksWith, IsRefusedWith, IsBestOf, IsBestAnswer}
use Rattle.rectangle_pack_packing.specs.private.Ends.{IsUndoneAnswer}
use Rattle.rectangle_pack_packing.specs.Placed.{placements_of}

-- a list of one entry is its first alone
pub one-entry : {X : Type 0} (xs : List X) (d : X) → length xs ≡ 1 → xs ≡ get_or xs 0 d ∷ []
one-entry [] d one = absurd (omega (arith, one))
one-entry (x ∷ []) d one = refl
one-entry (x ∷ y ∷ xs) d one = absurd (omega (arith, one))

-- and nothing else is in it
only-entry : {X : Type 0} (before after : List X) (x y : X) → y ∷ [] ≡ before ++ x ∷ after → x ≡ y
only-entry [] after x y is = cc
only-entry (z ∷ []) after x y is = absurd cc
only-entry (z ∷ w ∷ before) after x y is = absurd cc

module _ {Id B G : Type 0} (group_cmp : Group G Id → Group G Id → Ordering) (cmp : Id → Id → Ordering) (bin_cmp : B → B → Ordering)
    (all : Collection Id G) (old : List (B × Bin)) (heuristic : Heuristic) where
  -- where a packing with it is done, it is the best
  pub alone-best : (made : Use) → PacksWith group_cmp cmp bin_cmp all old heuristic made
      → IsBestOf group_cmp cmp bin_cmp all old (heuristic ∷ []) heuristic made
  alone-best made done =
      record { done = done; before = []; after = []; listed = refl; worse = All-nil _; no_better = All-nil _ }

  -- and no other is
  pub best-alone : (best : Heuristic) (made : Use) → IsBestOf group_cmp cmp bin_cmp all old (heuristic ∷ []) best made → best ≡ heuristic
  best-alone best made b = only-entry b.before b.after best heuristic b.listed

  -- so what a packing with it answers, where it is undone if it is refused, is the answer for the list
  module _ (A : Type 0) (new : List (B × Bin)) (before after : ℕ) where
    pub alone-packed : (ok : RectanglePackOk Id B A) → IsUndoneAnswer group_cmp (named_rules cmp bin_cmp heuristic) Undo all old before (Ok ok) new after
        → IsBestAnswer group_cmp cmp bin_cmp all old (heuristic ∷ []) (Ok (heuristic, ok)) new
    alone-packed ok (packed, counted) = (
      packed,
      alone-best (use_of bin_cmp (placements_of ok) old)
          (record { placements = placements_of ok; new = new; done = packed.done; use_is = refl }),
    )

    pub alone-failed : (error : RectanglePackError)
        → IsUndoneAnswer {A = A} group_cmp (named_rules cmp bin_cmp heuristic) Undo all old before (Err error) new after
        → IsBestAnswer group_cmp cmp bin_cmp all old {A = A} (heuristic ∷ []) (Err error) new
    alone-failed NotEnoughBinSpace (left, refused, counted, same) =
        (All-cons (IsRefusedWith group_cmp cmp bin_cmp all old) heuristic [] (record { left = left; refused = refused }) (All-nil _), same)
    alone-failed OutOfMemory (same, counted) = same

-- and a list of one has the answer of its entry
pub alone-listed : {Id B G A : Type 0} (group_cmp : Group G Id → Group G Id → Ordering) (cmp : Id → Id → Ordering) (bin_cmp : B → B → Ordering)
    (all : Collection Id G) (old : List (B × Bin)) (heuristics : List Heuristic) (d : Heuristic) → length heuristics ≡ 1
    → (answer : Result (Heuristic × RectanglePackOk Id B A) RectanglePackError) (new : List (B × Bin))
    → IsBestAnswer group_cmp cmp bin_cmp all old (get_or heuristics 0 d ∷ []) answer new → IsBestAnswer group_cmp cmp bin_cmp all old heuristics answer new
alone-listed group_cmp cmp bin_cmp all old heuristics d one answer new h =
    subst (λ hs. IsBestAnswer group_cmp cmp bin_cmp all old hs answer new) (sym (one-entry heuristics d one)) h
