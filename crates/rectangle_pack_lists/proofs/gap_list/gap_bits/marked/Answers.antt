use Rattle.std.proofs.Common.{w8}
use Rattle.std.proofs.lemmas.Nat.Bits.{bit_at_set_same, bit_at_set_other, bit_at_clear_same, bit_at_clear_other}
use Rattle.rectangle_pack_sections.proofs.Std.{◌∙◌, ap, sym, eqb}
use Rattle.rectangle_pack_lists.proofs.lemmas.trial.GapBits.{set-bits_of}
use Rattle.rectangle_pack_lists.proofs.gap_list.gap_bits.marked.Goals as goal

pub returns-then-is_gap : goal.returns-then-is_gap
returns-then-is_gap c =
    let bits = c.args.bits in
    let place = c.args.place in
    set-bits_of bits _ place c.args.is_gap c.requires
    (ap (λ n. eqb n 1) (bit_at_set_same w8 bits place c.requires) ∙ sym c.if-is_gap.true)
    (λ j below other. bit_at_set_other w8 bits place c.requires j other)

pub returns-else-is_gap : goal.returns-else-is_gap
returns-else-is_gap c =
    let bits = c.args.bits in
    let place = c.args.place in
    set-bits_of bits _ place c.args.is_gap c.requires
    (ap (λ n. eqb n 1) (bit_at_clear_same w8 bits place c.requires) ∙ sym c.if-is_gap.false)
    (λ j below other. bit_at_clear_other w8 bits place c.requires j below other)
