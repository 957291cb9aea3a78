use Rattle.rectangle_pack_sections.proofs.Std.{subst, sym}
use Rattle.rectangle_pack_sections.specs.Bins.{IsAccepted}
use Rattle.rectangle_pack_bins.proofs.lemmas.bins.SoundBins.{IsSound-push}
use Rattle.rectangle_pack_bins.proofs.target_bin.TargetBin.push_available_bin_section_unchecked.Goals as goal

pub invariant_of-self-2 : goal.invariant_of-self-2
invariant_of-self-2 g c =
    let accepted = subst (λ held. IsAccepted held.bin c.args.bin_section) (sym c.self.view_is) c.requires in
    rw c.in_ok-push.ensures.items (IsSound-push _ c.args.bin_section c.self.invariant accepted)
