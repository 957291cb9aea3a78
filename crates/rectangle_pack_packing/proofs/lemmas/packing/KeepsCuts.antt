-- What is from cuts stays from cuts, while no sections are joined.
use Rattle.rectangle_pack_sections.proofs.Std.{◌≡◌, ◌+◌, Bool, false, List, [], ◌∷◌, ◌++◌, ap, arith, append_assoc, IsPermutation, IsPermutation-append_left}
use Rattle.rectangle_pack_sections.specs.Boxes.{Cuboid}
use Rattle.rectangle_pack_sections.specs.Closures.{Answers}
use Rattle.rectangle_pack_sections.specs.Cuts.{placed}
use Rattle.rectangle_pack_sections.specs.CutTrees.{times_in, HaveSameBoxes, IsFromCuts}
use Rattle.rectangle_pack_sections.proofs.lemmas.cuts.PiecesAreLeaves.{chosen_from_cuts}
use Rattle.rectangle_pack_sections.proofs.lemmas.cuts.Trees.{box_makes_way, times_in-empty}
use Rattle.rectangle_pack_packing.proofs.lemmas.packing.Frame.{IsFrame, IsLoose, IsFrame-loose, KeptBySteps, IsRecut, IsLoose-recut, KeptBySteps-recut}
use Rattle.rectangle_pack_sections.proofs.lemmas.cuts.SameBoxes.{HaveSameBoxes-permutation, IsFromCuts-same}
use Rattle.rectangle_pack_lists.proofs.lemmas.trial.Steps.{HaveSameBoxes-left}
use Rattle.rectangle_pack_sections.proofs.lemmas.cuts.Times.{times_in-nil, times_in-cons, times_in-append, times_in-same}

-- beside any boxes, what is from cuts with the old boxes is so with the new ones
pub record KeepsCuts (old new : List Cuboid) : Type 0 where
  pub kept : (beside : List Cuboid) (whole : Cuboid) → IsFromCuts (old ++ beside) whole → IsFromCuts (new ++ beside) whole

IsLoose-cuts : IsLoose KeepsCuts
IsLoose-cuts = record {
  moves = λ xs ys moved. record {
    kept = λ beside whole from.
        let all : IsPermutation (xs ++ beside) (ys ++ beside) = IsPermutation-append_left beside xs ys moved in
        IsFromCuts-same (xs ++ beside) (ys ++ beside) (HaveSameBoxes-permutation (xs ++ beside) (ys ++ beside) all) from;
  };
  next = λ a b d first next. record { kept = λ beside whole from. next.kept beside whole (first.kept beside whole from) };
  behind = λ a b z h. record {
    kept = λ beside whole from.
        let moved : IsFromCuts (a ++ (z ++ beside)) whole = rw append_assoc at from in
        rw append_assoc (h.kept (z ++ beside) whole moved);
  };
  drops = λ box xs empty. record {
    kept = λ beside whole from.
        let none : HaveSameBoxes (box ∷ (xs ++ beside)) (xs ++ beside) = λ e cells.
        omega (arith, times_in-cons e box (xs ++ beside), times_in-empty e box cells empty) in
        IsFromCuts-same (box ∷ (xs ++ beside)) (xs ++ beside) none from;
  };
}

-- an entry in the middle
times_in-middle : (b : Cuboid) (before : List Cuboid) (e : Cuboid) (after : List Cuboid)
    → times_in b (before ++ e ∷ after) ≡ times_in b (before ++ after) + times_in b (e ∷ [])
times_in-middle b before e after =
    omega (arith, times_in-append b before (e ∷ after), times_in-cons b e after, times_in-append b before after)

-- a step replaces a section by the placed box and the section's pieces
KeptBySteps-cuts : (may : Answers) → KeptBySteps may KeepsCuts
KeptBySteps-cuts may = record {
  step = λ sections m l next n step. record {
    kept = λ beside whole from.
        let s = step.section in
        let rest = step.before ++ step.after in
        let old : (e : Cuboid) → times_in e (sections ++ beside) ≡ times_in e rest + times_in e (s ∷ []) + times_in e beside = λ e.
        omega (arith, times_in-append e sections beside, ap (times_in e) step.splits, times_in-middle e step.before s step.after) in
        box_makes_way {s = s} (sections ++ beside) (placed s m ∷ step.cut) ((next ++ l ∷ []) ++ beside) from
        (chosen_from_cuts s m step.held step.cut step.allowed)
        (λ cells. omega (arith, old s, times_in-same s [], times_in-nil s))
        (λ e cells. omega (
          arith,
          old e,
          times_in-append e (next ++ l ∷ []) beside,
          times_in-append e next (l ∷ []),
          ap (times_in e) step.next_is,
          times_in-append e rest step.left,
          HaveSameBoxes-left {MayRate = may.rate} step.cut step.left step.are_left e cells,
          ap (λ (b : Cuboid). times_in e (b ∷ [])) step.location_is,
          times_in-cons e (placed s m) step.cut,
        ));
  };
}

-- what a change of a bin's boxes keeps in a session: the cells, and, where the bin does not count as coalesced, the cuts
abbrev pub KeepsBoxes : Bool → List Cuboid → List Cuboid → Type 0
KeepsBoxes coalesced old new = IsRecut old new × (coalesced ≡ false → KeepsCuts old new)

pub IsFrame-boxes : (coalesced : Bool) → IsFrame (KeepsBoxes coalesced)
IsFrame-boxes coalesced = IsFrame-loose {R = KeepsBoxes coalesced} (record {
  moves = λ xs ys moved. (IsLoose-recut.moves xs ys moved, λ not_so. IsLoose-cuts.moves xs ys moved);
  next = λ a b d first next. (IsLoose-recut.next a b d first.0 next.0, λ not_so. IsLoose-cuts.next a b d (first.1 not_so) (next.1 not_so));
  behind = λ a b z h. (IsLoose-recut.behind a b z h.0, λ not_so. IsLoose-cuts.behind a b z (h.1 not_so));
  drops = λ box xs empty. (IsLoose-recut.drops box xs empty, λ not_so. IsLoose-cuts.drops box xs empty);
})

pub KeptBySteps-boxes : (may : Answers) (coalesced : Bool) → KeptBySteps may (KeepsBoxes coalesced)
KeptBySteps-boxes may coalesced = record {
  step = λ sections m l next n step. (
    (KeptBySteps-recut may).step sections m l next n step,
    λ not_so. (KeptBySteps-cuts may).step sections m l next n step,
  );
}
