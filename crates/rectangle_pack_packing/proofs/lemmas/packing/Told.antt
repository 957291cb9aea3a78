-- What steps of a packing as it is told keep. Each is a packing of one group into one bin (`alone`), so they keep what a packing keeps.
use Rattle.rectangle_pack_sections.proofs.Std.{◌≡◌, ◌+◌, List, [], ◌∷◌, ◌++◌, refl, ◌∙◌, ap, append-nil, Some, IsSome, All, All-nil, All-append, All-weaker}
use Rattle.rectangle_pack_sections.proofs.Std.{Ordering, IsTotalOrder, lookup, keys_of, is_at, is_some}
use Rattle.rectangle_pack_sections.specs.declared.box_size_heuristics.named.Heuristic.{Heuristic}
use Rattle.rectangle_pack_sections.specs.declared.group.Group.{Group}
use Rattle.rectangle_pack_sections.specs.Bins.{Bin}
use Rattle.rectangle_pack_sections.specs.Boxes.{Cuboid}
use Rattle.rectangle_pack_sections.specs.Groups.{Collection}
use Rattle.rectangle_pack_packing.specs.declared.answer.Placement.{Placement}
use Rattle.rectangle_pack_packing.specs.declared.pack.told.Step.{Step}
use Rattle.rectangle_pack_packing.specs.Best.{named_rules}
use Rattle.rectangle_pack_packing.specs.KeptBins.{KeepsEachBin, locations_in}
use Rattle.rectangle_pack_packing.specs.Packing.{Stage, excludes_by}
use Rattle.rectangle_pack_packing.specs.Told.{IsStepDone, AreStepsDone}
use Rattle.rectangle_pack_packing.specs.ToldLaws.{home_of}
use Rattle.rectangle_pack_sections.proofs.lemmas.cuts.Counting.{KeepCells-from_counts}
use Rattle.rectangle_pack_sections.proofs.lemmas.util.Maps.{is_some-keys, none_of}
use Rattle.rectangle_pack_packing.proofs.lemmas.packing.Frame.{IsFrame, IsFrame-recut, KeptBySteps, KeptBySteps-recut, IsChanged, IsChanged-next, changed-all}
use Rattle.rectangle_pack_packing.proofs.lemmas.packing.Placed.{keys-placed, known-placed}
use Rattle.rectangle_pack_packing.proofs.lemmas.packing.StepsDone.{alone}

module _ {Id B G : Type 0} (group_cmp : Group G Id → Group G Id → Ordering) (cmp : Id → Id → Ordering) (bin_cmp : B → B → Ordering)
    (all : Collection Id G) where
  abbrev after_step : Step Id G B → Stage (Group G Id) B → List (B × Bin) → Stage (Group G Id) B
  after_step step old next = record { bins = next; homes = home_of step ∷ old.homes }

  -- no bin comes or goes
  keys-step : (step : Step Id G B) (old : Stage (Group G Id) B) (placements : List (Placement Id B)) (new : List (B × Bin))
      → IsStepDone group_cmp cmp bin_cmp all step old placements new → keys_of new ≡ keys_of old.bins
  keys-step step old placements new done =
      keys-placed (named_rules cmp bin_cmp step.heuristic) (excludes_by group_cmp bin_cmp all.partners) (step.bin ∷ []) ((step.group, done.members) ∷ [])
      old placements (after_step step old new) (done.tests + 0) (alone group_cmp cmp bin_cmp all step old placements new done)

  pub keys-told : (steps : List (Step Id G B)) (old : Stage (Group G Id) B) (placements : List (Placement Id B)) (new : Stage (Group G Id) B)
      → AreStepsDone group_cmp cmp bin_cmp all steps old placements new → keys_of new.bins ≡ keys_of old.bins
  keys-told [] old placements new h = ap (λ (s : Stage (Group G Id) B). keys_of s.bins) h.1
  keys-told (step ∷ steps) old placements new (first, next, later, done, rest, joined) =
      keys-told steps (after_step step old next) later new rest ∙ keys-step step old first next done

  -- each bin that a placement names is there
  pub known-told : IsTotalOrder bin_cmp → (steps : List (Step Id G B)) (old : Stage (Group G Id) B) (placements : List (Placement Id B))
      (new : Stage (Group G Id) B) → AreStepsDone group_cmp cmp bin_cmp all steps old placements new
      → All (λ p. IsSome (lookup (is_at (bin_cmp p.bin)) new.bins)) placements
  known-told o [] old placements new h = rw h.0 (All-nil (λ (p : Placement Id B). IsSome (lookup (is_at (bin_cmp p.bin)) new.bins)))
  known-told o (step ∷ steps) old placements new (first, next, later, done, rest, joined) =
      let There : List (B × Bin) → Placement Id B → Type 0 = λ bins p. IsSome (lookup (is_at (bin_cmp p.bin)) bins) in
      let here : All (There next) first =
      known-placed (named_rules cmp bin_cmp step.heuristic) (excludes_by group_cmp bin_cmp all.partners) o (step.bin ∷ [])
      ((step.group, done.members) ∷ []) old first (after_step step old next) (done.tests + 0) (alone group_cmp cmp bin_cmp all step old first next done) in
      rw joined (All-append (There new.bins) first later
      (All-weaker (There next) (There new.bins)
      (λ p there. is_some-keys (is_at (bin_cmp p.bin)) new.bins next (keys-told steps (after_step step old next) later new rest) ∙ there) first here)
      (known-told o steps (after_step step old next) later new rest))

  -- what steps of trials keep, whatever their heuristics, these keep in each bin
  pub changed-told : {R : List Cuboid → List Cuboid → Type 0} → IsFrame R → IsTotalOrder bin_cmp
      → ((h : Heuristic) → KeptBySteps (named_rules cmp bin_cmp h).may R)
      → (steps : List (Step Id G B)) (old : Stage (Group G Id) B) (placements : List (Placement Id B)) (new : Stage (Group G Id) B)
      → AreStepsDone group_cmp cmp bin_cmp all steps old placements new
      → (q : B) (before : Bin) → lookup (is_at (bin_cmp q)) old.bins ≡ Some before → IsChanged R bin_cmp placements new.bins q before
  changed-told frame o kept [] old placements new h q before was =
      rw (h.0, h.1) (record { after = before; found = was; kept = refl; framed = rw (append-nil before.sections) (frame.same before.sections) })
  changed-told frame o kept (step ∷ steps) old placements new (first, next, later, done, rest, joined) q before was =
      let head = changed-all frame (named_rules cmp bin_cmp step.heuristic) o (kept step.heuristic) (excludes_by group_cmp bin_cmp all.partners)
      (step.bin ∷ []) ((step.group, done.members) ∷ []) old first (after_step step old next) (done.tests + 0) (alone group_cmp cmp bin_cmp all step old first next done)
      q before was in
      let tail = changed-told frame o kept steps (after_step step old next) later new rest q head.after head.found in
      IsChanged-next frame bin_cmp first later placements next new.bins q before head tail joined

  -- so they keep cells
  pub KeepsEachBin-told : IsTotalOrder bin_cmp → (steps : List (Step Id G B)) (old : Stage (Group G Id) B) (placements : List (Placement Id B))
      (new : Stage (Group G Id) B) → AreStepsDone group_cmp cmp bin_cmp all steps old placements new
      → KeepsEachBin bin_cmp old.bins placements new.bins
  KeepsEachBin-told o steps old placements new h = record {
    each = λ q before was apart.
        let changed = changed-told IsFrame-recut o (λ heuristic. KeptBySteps-recut _) steps old placements new h q before was in (
          changed.after,
          changed.found,
          ap (λ (b : Bin). b.size) changed.kept,
          KeepCells-from_counts before.sections (changed.after.sections ++ locations_in bin_cmp placements q) apart changed.framed.cells,
        );
    absent = λ q none. none_of _ (is_some-keys (is_at (bin_cmp q)) new.bins old.bins (keys-told steps old placements new h) ∙ ap is_some none);
  }
