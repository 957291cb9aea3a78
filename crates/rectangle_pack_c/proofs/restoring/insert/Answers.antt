use Rattle.rectangle_pack_c.proofs.Std.{nat_cmp}
use Rattle.rectangle_pack.proofs.lemmas.session.Keeps.{bins_of-insert_entry}
use Rattle.rectangle_pack_c.proofs.restoring.insert.Goals as goal

pub returns : goal.returns
returns c = rw c.in_ok-insert.ensures.entries (bins_of-insert_entry nat_cmp c.args.bins.now.entries c.args.id c.args.made)
