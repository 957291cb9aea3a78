use Rattle.std.proofs.Common.{le_of_lt}
use Rattle.rectangle_pack_sections.proofs.Std.{◌≡◌, ◌<◌, ◌≤◌, ◌++◌, ◌∷◌, [], List, length, get_or}
use Rattle.rectangle_pack_sections.proofs.Std.{refl, sym, ap, ◌∙◌, arith, is_some, is_at, length-append}
use Rattle.rectangle_pack_sections.proofs.Std.{keys-set_value, Some}
use Rattle.rectangle_pack_sections.specs.Bins.{bins_of}
use Rattle.rectangle_pack_sections.proofs.lemmas.util.Maps.{is_some-option_map}
use Rattle.rectangle_pack_bins.proofs.lemmas.bins.Maps.{bins_of-written}
use Rattle.rectangle_pack_packing.proofs.lemmas.bins.BinsAtWork.{CanCheckIn-written, checked_in-none, left_of-in_use, checked_in-last, checked_in-place, is_in_map}
use Rattle.rectangle_pack_packing.proofs.bins_at_work.BinsAtWork.end.Goals as goal

-- the id of the last bin is in the order
next_in_order : {X Y : Type 0} (out rest : List X) (last : X) (order : List Y)
    → out ≡ rest ++ last ∷ [] → length out ≤ length order → length rest < length order
next_in_order out rest last order is within =
    omega (arith, within, ap length is, length-append rest (last ∷ []))

pub unwrap-requires : goal.unwrap-requires
unwrap-requires g c =
    let rest = c.pop.new.self.items in
    let order = c.self.inside.order.now in
    let can = c.loop-held.invariant.can in
    sym (is_some-option_map _ c.get_mut.result) ∙ ap is_some c.get_mut.ensures.value
    ∙ is_in_map g.B.Ord.cmp order c.loop-held.out.items c.loop-held.bins.entries (length rest) c.index-order-len.result can
    (next_in_order _ rest c.in-Some.held order c.in-Some.ensures.items can.within) (rw (← c.len.ensures ∙ c.pop.new.self.ok.0) c.index-order-len.is)

pub loop-held-preserved : goal.loop-held-preserved
loop-held-preserved g c =
    let order = c.self.inside.order.now in
    let rest = c.pop.new.self.items in
    let es = bins_of c.loop-held.bins.entries in
    let kept = c.loop-held.invariant in
    let next = next_in_order _ rest c.in-Some.held order c.in-Some.ensures.items kept.can.within in
    let items = rw c.in_default-held.is at c.in-Some.ensures.items in
    record {
      same = sym (checked_in-place g.B.Ord.cmp c.args.end order rest es) ∙ rw (← items) kept.same;
      can = CanCheckIn-written rest es refl (le_of_lt next) kept.can;
    }

pub loop-held-preserved-in-Some-held : goal.loop-held-preserved-in-Some-held
loop-held-preserved-in-Some-held g c =
    let o = c.index-order-len.result in
    let order = c.self.inside.order.now in
    let rest = c.pop.new.self.items in
    let es = c.loop-held.bins.entries in
    let kept = c.loop-held.invariant in
    let is : o ≡ get_or order (length rest) o = rw (← c.len.ensures ∙ c.pop.new.self.ok.0) c.index-order-len.is in
    let next = next_in_order _ rest c.in-Some.held order c.in-Some.ensures.items kept.can.within in
    let items = rw c.in-Some-held.is at c.in-Some.ensures.items in
    let test = is_at (g.B.Ord.cmp o.1) in
    let written = bins_of-written test es _ c.end.result _ (c.get_mut.follows.holds c.end.result).0 c.end.ensures in
    record {
      same = rw written (checked_in-last g.B.Ord.cmp c.args.end order rest (bins_of es) (Some c.in-Some-held.bin) o next is ∙ rw (← items) kept.same);
      can = rw written (CanCheckIn-written rest _ (keys-set_value test (bins_of es) _) (le_of_lt next) kept.can);
    }

pub returns : goal.returns
returns g c =
    let order = c.self.inside.order.now in
    let none : length c.loop-held.out.items ≡ 0 = omega (arith, c.in_default.ensures.cases.0, c.loop-held.out.ok.0) in
    rw (← c.self.view_is)
    (sym (checked_in-none g.B.Ord.cmp c.args.end order c.loop-held.out.items (bins_of c.loop-held.bins.entries) none)
    ∙ c.loop-held.invariant.same ∙ sym (left_of-in_use g.B.Ord.cmp c.args.end order c.self.inside.out.items (bins_of c.self.inside.bins.entries)))
