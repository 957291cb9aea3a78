use Rattle.rectangle_pack_c.proofs.Std.{get_or, get_or_default, lookup, is_at, nat_cmp}
use Rattle.rectangle_pack_c.specs.declared.searching.RpCost.{RpCost}
use Rattle.rectangle_pack_c.proofs.CostLemmas.{costs_more, costs_same, none_there, some_there}
use Rattle.rectangle_pack_c.proofs.finding.costs_in.Goals as goal
use Rattle.rectangle_pack_c.proofs.finding.costs_in.Goals.{then-is_none+in_ok-insert, else-is_none}

pub loop-cost-preserved : goal.loop-cost-preserved
loop-cost-preserved c =
    let costs = c.args.costs.now in
    let i = c.loop-cost.cost-index in
    let one : RpCost = get_or costs i (record { bin = 0; cost = 0 }) in
    let is = get_or_default costs i one (record { bin = 0; cost = 0 }) c.loop-cost-test.true in
    let old = c.loop-cost.map.entries in
    let found = lookup (is_at (nat_cmp one.bin)) old in
    elim c.if-is_none.branch [
      | then-is_none+in_ok-insert w ↦
          rw w.map-is (costs_more costs i one c.loop-cost-test.true is old c.loop-cost.invariant
          (none_there c.get.result found c.is_none.result c.get.ensures.value c.is_none.ensures w.if-is_none.true) w.insert.new.self.entries
          w.in_ok-insert.ensures.updates.0)
      | else-is_none w ↦
          let (v, there) = some_there c.get.result found c.is_none.result c.get.ensures.value c.is_none.ensures w.if-is_none.false in
          rw w.map-is (costs_same costs i one c.loop-cost-test.true is old c.loop-cost.invariant v there)
    ]
