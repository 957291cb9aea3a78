use Rattle.rectangle_pack_sections.proofs.Std.{subst, sym, All, filter}
use Rattle.rectangle_pack_sections.specs.Boxes.{has_cells}
use Rattle.rectangle_pack_sections.specs.Bins.{IsAccepted}
use Rattle.rectangle_pack_bins.proofs.lemmas.bins.SoundBins.{IsSound-append}
use Rattle.rectangle_pack_bins.proofs.target_bin.TargetBin.add_new_sections.Goals as goal

pub invariant_of-self-2 : goal.invariant_of-self-2
invariant_of-self-2 g c =
    let new = filter has_cells c.args.sections in
    let accepted = subst (λ held. All (IsAccepted held.bin) new) (sym c.self.view_is) c.requires.accepted in
    rw (c.push_pieces.ensures.items, c.reserve.ensures.items) (IsSound-append _ new c.self.invariant accepted c.requires.apart)
