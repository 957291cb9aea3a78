use Rattle.rectangle_pack_sections.specs.Closures.{answers}
use Rattle.rectangle_pack_packing.specs.Packing.{rules_by}
use Rattle.rectangle_pack_packing.proofs.lemmas.packing.Ends.{kept-answer}
use Rattle.rectangle_pack_packing.proofs.pack.pack_rects_counted.Goals as goal

pub returns-clause-answer : goal.returns-clause-answer
returns-clause-answer g c =
    kept-answer _ (rules_by g.Id.Ord.cmp g.BinId.Ord.cmp (answers g.H.Fn g.C.Fn c.args.box_size_heuristic.now c.args.more_suitable_containers_fn.now))
    c.args.rects_to_place.now _ _ c.args.tests.now _ c.pack_by.result c.pack_by.ensures.answer
