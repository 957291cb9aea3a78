use Rattle.rectangle_pack_sections.proofs.Std.{◌≡◌, List, ap, sym, ◌∙◌, map, is_at, list_any, take, take_all, arith}
use Rattle.rectangle_pack_packing.specs.declared.answer.Placement.{Placement}
use Rattle.rectangle_pack_packing.proofs.lemmas.packing.Orders.{map-take_more}
use Rattle.rectangle_pack.proofs.lemmas.bound.Sets.{as_many, in-more, to}
use Rattle.rectangle_pack.proofs.bound.reading.bins_used.Goals as goal

pub loop-placement-preserved : goal.loop-placement-preserved
loop-placement-preserved g c = λ id.
    let bin : Placement g.row.Id.Denot g.row.BinId.Denot → g.row.BinId.Denot = λ p. p.bin in
    let i = c.loop-placement.placement-index in
    let placements = c.args.placements.now in
    in-more g.met.BinId.Ord.total c.loop-placement.used.keys c.insert.new.self.keys c.placement-item.result.bin (map bin (take i placements))
    (λ other. c.in_ok-insert.ensures.updates.0 (to other)) c.loop-placement.invariant id
    ∙ ap (λ (l : List g.row.BinId.Denot). list_any (is_at (g.BinId.Ord.cmp id)) l)
    (sym (map-take_more bin placements i c.placement-item.result c.loop-placement-test.true c.placement-item.is))

pub returns : goal.returns
returns g c =
    let bin : Placement g.row.Id.Denot g.row.BinId.Denot → g.row.BinId.Denot = λ p. p.bin in
    let placements = c.args.placements.now in
    let all : take c.loop-placement.placement-index placements ≡ placements =
    take_all c.loop-placement.placement-index placements (omega (arith, c.loop-placement-test.false)) in
    c.len.ensures.len
    ∙ as_many g.met.BinId.Ord.total c.loop-placement.used.keys (map bin placements) c.len.ensures.ordered
    (λ id. c.loop-placement.invariant id ∙ ap (λ ps. list_any (is_at (g.BinId.Ord.cmp id)) (map bin ps)) all)
