use Rattle.rectangle_pack_c.proofs.TurningLemmas.{turns_more, turns_none}
use Rattle.rectangle_pack_c.proofs.turning.turns_in.Goals as goal
use Rattle.rectangle_pack_c.proofs.turning.turns_in.Goals.{then-number-ne0+in_ok-insert, else-number-ne0}

pub loop-index-preserved : goal.loop-index-preserved
loop-index-preserved c =
    let all = c.args.collection.now in
    let number = c.turns_number-number in
    elim c.if-number-ne0.branch [
      | then-number-ne0+in_ok-insert w ↦
          rw w.map-is (turns_more all c.args.turns.now c.loop-index.index number.result number.ensures c.loop-index.map.entries w.insert.new.self.entries
          w.turns_of.result w.turns_of.ensures w.in_ok-insert.ensures.updates.0 c.loop-index.invariant)
      | else-number-ne0 w ↦
          rw w.map-is (turns_none all c.args.turns.now c.loop-index.index number.result number.ensures c.loop-index.map.entries w.if-number-ne0.false
          c.loop-index.invariant)
    ]
