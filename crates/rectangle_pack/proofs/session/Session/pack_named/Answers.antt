use Rattle.rectangle_pack.proofs.lemmas.session.Best.{alone-kept, alone-refused}
use Rattle.rectangle_pack.proofs.session.Session.pack_named.Goals as goal

pub returns-in_err-packed-clause-packed : goal.returns-in_err-packed-clause-packed
returns-in_err-packed-clause-packed g c =
    alone-refused _ g.Id.Ord.cmp g.BinId.Ord.cmp c.args.groups.now c.args.heuristic c.args.self.now _ c.from_residual.result c.in_err-packed.field-0.0
    c.from_residual.ensures.1 c.in_err-packed.ensures.packed

pub returns-clause-packed : goal.returns-clause-packed
returns-clause-packed g c =
    alone-kept _ g.Id.Ord.cmp g.BinId.Ord.cmp c.args.groups.now c.args.heuristic c.args.self.now _ c.in_ok-packed.packed c.in_ok-packed.ensures.packed
