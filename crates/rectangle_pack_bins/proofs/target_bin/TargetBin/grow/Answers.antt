use Rattle.rectangle_pack_bins.proofs.lemmas.bins.Growing.{IsSound-grown, IsSound-new_part}
use Rattle.rectangle_pack_bins.proofs.target_bin.TargetBin.grow.Goals as goal
use Rattle.rectangle_pack_bins.proofs.target_bin.TargetBin.grow.Goals.{then-has_cells+in_ok-push, else-has_cells}

pub invariant_of-self-2 : goal.invariant_of-self-2
invariant_of-self-2 g c =
    rw c.grown-self-inside.ensures
    (elim c.if-has_cells.branch [
      | then-has_cells+in_ok-push w ↦ rw (w.self-inside-is, w.in_ok-push.ensures.items, c.new_part-part.ensures)
          (IsSound-new_part c.args.axis c.args.by c.self.inside.max_size _ c.self.invariant)
      | else-has_cells w ↦ rw w.self-inside-is (IsSound-grown c.args.axis c.args.by c.self.inside.max_size _ c.self.invariant)
    ])
