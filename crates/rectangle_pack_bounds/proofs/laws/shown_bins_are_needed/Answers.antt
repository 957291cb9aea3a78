use Rattle.rectangle_pack_bounds.proofs.Std.{map-id, arith}
use Rattle.rectangle_pack_bounds.proofs.lemmas.ShownBins.{shown_is_met}
use Rattle.rectangle_pack_bounds.proofs.laws.shown_bins_are_needed.Goals as goal

pub returns-clause-met : goal.returns-clause-met
returns-clause-met g c = shown_is_met g.BinId.Ord.cmp g.met.BinId.Ord.total

pub returns-clause-needed : goal.returns-clause-needed
returns-clause-needed g c = λ bins boxes least shown puts arranged.
    shown_is_met g.BinId.Ord.cmp g.met.BinId.Ord.total (λ b. b) boxes bins puts 0 least (rw map-id shown) arranged
    (omega arith)
