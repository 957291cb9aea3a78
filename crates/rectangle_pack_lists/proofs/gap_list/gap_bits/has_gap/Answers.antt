use Rattle.std.proofs.lemmas.Nat.Bits.{shr_and_one}
use Rattle.rectangle_pack_sections.proofs.Std.{◌∙◌, ap, sym, eqb, false}
use Rattle.rectangle_pack_lists.proofs.lemmas.trial.GapBits.{get_or-bits_of}
use Rattle.rectangle_pack_lists.proofs.gap_list.gap_bits.has_gap.Goals as goal

pub returns : goal.returns
returns c =
    ap (λ n. eqb n 1) (shr_and_one c.args.bits c.args.place) ∙ sym (get_or-bits_of c.args.bits c.args.place false c.requires)
