use Rattle.rectangle_pack_bins.proofs.lemmas.bins.RoundABox.{filled-placed}
use Rattle.rectangle_pack_bins.proofs.target_bin.TargetBin.place_at.Goals as goal

pub returns-clause-filled : goal.returns-clause-filled
returns-clause-filled g c = λ placed cell. filled-placed cell c.args.self.now.bin c.args.location c.cut_round.new.bin.bin c.in_ok-cut_round.ensures.ok
