-- A packing keeps the cells of each bin.
use Rattle.rectangle_pack_sections.proofs.Std.{ℕ, List, ◌++◌, ap, ◌∙◌, Bool, is_some, IsTotalOrder, is_at}
use Rattle.rectangle_pack_packing.specs.declared.answer.Placement.{Placement}
use Rattle.rectangle_pack_sections.specs.Bins.{Bin}
use Rattle.rectangle_pack_packing.specs.KeptBins.{KeepsEachBin, locations_in}
use Rattle.rectangle_pack_packing.specs.Packing.{Rules, Members, Stage, AreAllPlaced}
use Rattle.rectangle_pack_sections.proofs.lemmas.cuts.Counting.{KeepCells-from_counts}
use Rattle.rectangle_pack_packing.proofs.lemmas.packing.Frame.{IsFrame-recut, KeptBySteps-recut, changed-all}
use Rattle.rectangle_pack_sections.proofs.lemmas.util.Maps.{none_of}
use Rattle.rectangle_pack_sections.proofs.lemmas.util.Maps.{is_some-keys}
use Rattle.rectangle_pack_packing.proofs.lemmas.packing.Placed.{keys-placed}

pub KeepsEachBin-placed : {Id B K : Type 0} (rules : Rules Id B) → IsTotalOrder rules.bin_cmp
    → (excludes : List (K × B) → K → B → Bool) (order : List B) (gs : List (K × Members Id)) (old : Stage K B) (placements : List (Placement Id B))
    (new : Stage K B) (tests : ℕ)
    → AreAllPlaced rules excludes order gs old placements new tests → KeepsEachBin rules.bin_cmp old.bins placements new.bins
KeepsEachBin-placed rules o excludes order gs old placements new n h = record {
  each = λ q before was apart.
      let changed = changed-all IsFrame-recut rules o (KeptBySteps-recut rules.may) excludes order gs old placements new n h q before was in (
        changed.after,
        changed.found,
        ap (λ (b : Bin). b.size) changed.kept,
        KeepCells-from_counts before.sections (changed.after.sections ++ locations_in rules.bin_cmp placements q) apart changed.framed.cells,
      );
  absent = λ q none. none_of _
      (is_some-keys (is_at (rules.bin_cmp q)) new.bins old.bins (keys-placed rules excludes order gs old placements new n h) ∙ ap is_some none);
}
