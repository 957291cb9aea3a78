use Rattle.rectangle_pack_bins.proofs.lemmas.bins.SoundBins.{IsSound-remove}
use Rattle.rectangle_pack_bins.proofs.target_bin.TargetBin.remove_filled_section.Goals as goal

pub invariant_of-self : goal.invariant_of-self
invariant_of-self g c =
    rw c.remove.ensures.items
    (IsSound-remove c.self.inside.max_size c.self.inside.available_bin_sections.items _ (rw (← c.self.view_is) at c.requires) c.self.invariant)
