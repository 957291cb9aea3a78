use Rattle.rectangle_pack_packing.proofs.lemmas.bins.SummaryTrees.{IsStretch-half}
use Rattle.rectangle_pack_packing.proofs.bins_at_work.summary_tree.Stretch.first_half.Goals as goal

pub returns-clause-first : goal.returns-clause-first
returns-clause-first c = λ place at. IsStretch-half place c.args.self.node c.args.self.width c.requires.wide at
