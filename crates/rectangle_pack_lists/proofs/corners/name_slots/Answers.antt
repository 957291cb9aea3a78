use Rattle.rectangle_pack_sections.proofs.Std.{rules, arith, ◌<◌, OnTrue_from, answers_always}
use Rattle.std.proofs.Common.{ltb}
use Rattle.std.proofs.lemmas.List.Sorted.{Contains-permutation}
use Rattle.rectangle_pack_lists.specs.private.Corners.{AreNamed}
use Rattle.rectangle_pack_lists.proofs.lemmas.joining.Names.{named-more, Rise-tested}
use Rattle.rectangle_pack_lists.proofs.corners.name_slots.Goals as goal

pub loop-slot-preserved : goal.loop-slot-preserved
loop-slot-preserved g c =
    let before = c.loop-slot.invariant in
    record {
      named = named-more c.args.corner c.args.sections.now c.loop-slot.names.items _ c.loop-slot.slot _ _ before.named c.loop-slot-test.true
          c.index-sections-slot.is c.corner_number-number.ensures c.push_reserved.ensures.items;
      count = omega (arith, before.count, c.push_reserved.ensures.len);
      room = omega (arith, before.room, c.push_reserved.ensures.capacity);
    }

pub returns : goal.returns
returns g c =
    let names = c.sort_unstable_by_key.new.self.items in
    OnTrue_from c.is_sorted_by.result (AreNamed c.args.corner c.args.sections.now names) (λ sorted. record {
      rise = Rise-tested names c.is_sorted_by.result
          (rw c.deref.ensures.value at (c.is_sorted_by.ensures.cases (λ a b. ltb a.corner b.corner) (answers_always _ _ _ (λ f a r h called. search rules)))) sorted;
      all = λ slot there.
          let within = there.within in
          let below : slot < c.loop-slot.slot = omega (arith, c.loop-slot-test.false) in
          Contains-permutation _ _ _ c.sort_unstable_by_key.ensures.permutation (c.loop-slot.invariant.named slot below);
    })
