use Rattle.std.proofs.lemmas.Result.{err_from_is_err_and}
use Rattle.rectangle_pack_sections.specs.Bins.{bins_of}
use Rattle.rectangle_pack_packing.proofs.lemmas.best.Alone.{alone-packed, alone-failed}
use Rattle.rectangle_pack_packing.proofs.pack.best.pack_named.Goals as goal

pub returns-clause-answer : goal.returns-clause-answer
returns-clause-answer g c =
    alone-packed _ g.Id.Ord.cmp g.BinId.Ord.cmp c.args.rects_to_place.now (bins_of c.args.target_bins.now.entries) c.args.heuristic
    _ (bins_of c.pack_by.new.target_bins.entries) _ _ c.in_ok-packed.packed c.in_ok-packed.ensures.answer

pub returns-in_err-packed-clause-answer : goal.returns-in_err-packed-clause-answer
returns-in_err-packed-clause-answer g c =
    let failed = err_from_is_err_and c.from_residual.result c.from_residual.ensures.1 in
    rw (failed.1, failed.2) (alone-failed _ g.Id.Ord.cmp g.BinId.Ord.cmp c.args.rects_to_place.now (bins_of c.args.target_bins.now.entries) c.args.heuristic
    g.row.A.Denot (bins_of c.pack_by.new.target_bins.entries) _ _ c.in_err-packed.field-0.0 c.in_err-packed.ensures.answer)
