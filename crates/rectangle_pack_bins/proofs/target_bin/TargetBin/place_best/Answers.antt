use Rattle.rectangle_pack_bins.proofs.lemmas.bins.BestFits.{filled-placed_best}
use Rattle.rectangle_pack_bins.proofs.target_bin.TargetBin.place_best.Goals as goal

pub returns-clause-filled : goal.returns-clause-filled
returns-clause-filled g c = λ cell.
    filled-placed_best _ cell c.args.self.now.bin c.args.size c.in_ok-cut_best.field-0 c.cut_best.new.bin.bin c.in_ok-cut_best.ensures.ok
