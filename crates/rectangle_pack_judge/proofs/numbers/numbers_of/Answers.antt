use Rattle.rectangle_pack_sections.proofs.Std.{rules, sym, ◌∙◌}
use Rattle.rectangle_pack_sections.proofs.lemmas.util.Maps.{none_of}
use Rattle.rectangle_pack_judge.proofs.lemmas.Numbers.{AreNumbers-known, AreNumbers-more}
use Rattle.rectangle_pack_judge.proofs.numbers.numbers_of.Goals.{then-not-contains_key+in_ok-insert, else-not-contains_key}
use Rattle.rectangle_pack_judge.proofs.numbers.numbers_of.Goals as goal

pub loop-entry-preserved : goal.loop-entry-preserved
loop-entry-preserved g c =
    let next = c.entry-item.result in
    let entries = c.args.entries.now in
    let i = c.loop-entry.entry-index in
    let numbers = c.loop-entry.numbers.entries in
    elim c.if-not-contains_key.branch [
      | then-not-contains_key+in_ok-insert w ↦ rw w.numbers-is
          (AreNumbers-more entries numbers i next c.loop-entry-test.true c.entry-item.is w.insert.new.self.entries (rw w.len-next.ensures.len at w.in_ok-insert.ensures.entries)
          (search (rules, w.in_ok-insert.ensures.len)) (none_of _ (sym c.contains_key.ensures ∙ search rules)) c.loop-entry.invariant)
      | else-not-contains_key w ↦ rw w.numbers-is
          (AreNumbers-known entries numbers i next c.loop-entry-test.true c.entry-item.is (sym c.contains_key.ensures ∙ search rules) c.loop-entry.invariant)
    ]
