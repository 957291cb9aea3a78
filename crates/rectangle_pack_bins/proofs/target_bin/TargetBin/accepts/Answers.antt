use Rattle.rectangle_pack_sections.proofs.Std.{ap, rules}
use Rattle.rectangle_pack_bins.proofs.lemmas.bins.SoundBins.{accepts_by}
use Rattle.rectangle_pack_bins.proofs.target_bin.TargetBin.accepts.Goals as goal

pub returns-then-is_inside : goal.returns-then-is_inside
returns-then-is_inside g c =
    let bin = ap (λ held. held.bin) c.self.view_is in
    rw (← bin) (accepts_by _ c.args.section.now c.first_sharing.result c.is_none.result c.is_none.ensures (search rules) (search rules) (search rules))
