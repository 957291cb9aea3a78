use Rattle.rectangle_pack_sections.proofs.Std.{is_at, ◌∙◌, [], get_or, refl, arith}
use Rattle.rectangle_pack_sections.specs.Bins.{bins_of}
use Rattle.rectangle_pack_bins.proofs.lemmas.bins.Maps.{is_some-bins_of}
use Rattle.rectangle_pack_lists.specs.declared.free_list.End.TheVariants.{Keep, Undo}
use Rattle.rectangle_pack_packing.proofs.lemmas.bins.BinsAtWork.{AreSummed-unknown, checked_in-none}
use Rattle.rectangle_pack_packing.proofs.bins_at_work.BinsAtWork.new.Goals as goal

pub invariant_of-result : goal.invariant_of-result
invariant_of-result g c = (
  record {
    found = λ k d low. is_some-bins_of (is_at (g.B.Ord.cmp (get_or c.args.order.now k d).1)) c.args.bins.entries ∙ c.requires.found k d low;
    distinct = c.requires.distinct;
    within = rw c.new.ensures.items (omega arith);
  },
  AreSummed-unknown g.B.Ord.cmp c.args.order.now _ c.new-2.result c.new-2.ensures,
)

pub returns-clause-now : goal.returns-clause-now
returns-clause-now g c = rw c.new.ensures.items (checked_in-none g.B.Ord.cmp Keep c.args.order.now [] (bins_of c.args.bins.entries) refl)

pub returns-clause-start : goal.returns-clause-start
returns-clause-start g c = rw c.new.ensures.items (checked_in-none g.B.Ord.cmp Undo c.args.order.now [] (bins_of c.args.bins.entries) refl)
