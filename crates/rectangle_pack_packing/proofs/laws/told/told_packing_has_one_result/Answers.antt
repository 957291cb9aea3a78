use Rattle.rectangle_pack_packing.proofs.lemmas.best.OneTelling.{one_telling}
use Rattle.rectangle_pack_packing.proofs.laws.told.told_packing_has_one_result.Goals as goal

pub returns : goal.returns
returns g c = λ all steps bins. one_telling _ _ _ g.met.Id.Ord.total g.met.BinId.Ord.total all steps bins
