use Rattle.rectangle_pack_sections.proofs.Std.{◌≡◌, ◌<◌, ◌∙◌, ap, sym, refl, arith, get_or, length, lookup, is_at, is_some, None, Some, set, set_value}
use Rattle.rectangle_pack_sections.proofs.Std.{option_copied_mut, keys-set_value, length-set, length-append, get_or_default, keys_of, ◌∷◌, []}
use Rattle.rectangle_pack_sections.specs.Bins.{bins_of}
use Rattle.rectangle_pack_sections.proofs.lemmas.util.Maps.{is_some-option_map, none_of}
use Rattle.rectangle_pack_lists.specs.declared.free_list.End.{End}
use Rattle.rectangle_pack_lists.specs.declared.free_list.End.TheVariants.{Keep}
use Rattle.rectangle_pack_bins.proofs.lemmas.bins.Maps.{bins_of-written, found-bins_of}
use Rattle.rectangle_pack_packing.specs.private.BinsAtWork.{checked_in, left_of}
use Rattle.rectangle_pack_packing.proofs.lemmas.bins.BinsAtWork.{parts, left_of-in_use, checked_in-place, CanCheckIn-written, checked_in-out, is_in_map}
use Rattle.rectangle_pack_packing.proofs.bins_at_work.BinsAtWork.check_out.Given.{Over}
use Rattle.rectangle_pack_packing.proofs.bins_at_work.BinsAtWork.check_out.Goals.{After-with}
use Rattle.rectangle_pack_packing.proofs.bins_at_work.BinsAtWork.check_out.Goals.at as goal_at
use Rattle.rectangle_pack_packing.proofs.bins_at_work.BinsAtWork.check_out.Goals as goal

pub loop-self-init : goal.loop-self-init
loop-self-init g c = record {
  left = λ end. sym (left_of-in_use g.B.Ord.cmp end c.self.inside.order.now c.self.inside.out.items (bins_of c.self.inside.bins.entries)) ∙ ap (left_of end) c.self.view_is;
  order = (parts c.self.view_is).2;
  can = c.self.invariant.0;
  summed = rw (← (parts c.self.view_is).0) c.self.invariant.1;
}

pub loop-self-preserved : goal.loop-self-preserved
loop-self-preserved g c =
    let kept = c.loop-self.invariant in
    let out = c.loop-self.self-inside.out in
    let low : c.args.index < length c.loop-self.self-inside.order.now = rw kept.order c.requires in
    record {
      left = λ end. rw c.in_ok-push.ensures.items (checked_in-place g.B.Ord.cmp end c.loop-self.self-inside.order.now out.items (bins_of c.loop-self.self-inside.bins.entries) ∙ kept.left end);
      order = kept.order;
      can = CanCheckIn-written c.push.new.self.items _ refl
          (omega (arith, low, c.loop-self-test.true, c.len.ensures, out.ok.0, ap length c.in_ok-push.ensures.items, length-append out.items (None ∷ []))) kept.can;
      summed = kept.summed;
    }

pub unwrap-bin-requires : goal.unwrap-bin-requires
unwrap-bin-requires g c =
    sym (is_some-option_map _ c.get_mut.result) ∙ ap is_some c.get_mut.ensures.value ∙ is_in_map g.B.Ord.cmp c.loop-self.self-inside.order.now
    c.loop-self.self-inside.out.items c.loop-self.self-inside.bins.entries c.args.index c.index-order-index.result c.loop-self.invariant.can
    (rw c.loop-self.invariant.order c.requires) c.index-order-index.is

-- the bins in the map, with the one that stands in
standing : (g : Over) (c : After-with g)
    → bins_of (c.get_mut.follows.lender c.replace-bin.new.dest).entries
    ≡ set_value (is_at (g.B.Ord.cmp c.index-order-index.result.1)) (bins_of c.loop-self.self-inside.bins.entries) c.replace-bin.new.dest.bin
standing g c =
    bins_of-written (is_at (g.B.Ord.cmp c.index-order-index.result.1)) c.loop-self.self-inside.bins.entries _ c.replace-bin.new.dest _
    (c.get_mut.follows.holds c.replace-bin.new.dest).0 refl

-- with all bins checked in, the map stays
same : (g : Over) (c : After-with g) (end : End)
    → checked_in g.B.Ord.cmp end c.loop-self.self-inside.order.now (set c.loop-self.self-inside.out.items c.args.index (Some c.with.result))
    (bins_of (c.get_mut.follows.lender c.replace-bin.new.dest).entries)
    ≡ left_of end c.args.self.now
same g c end =
    let o = c.index-order-index.result in
    let out = c.loop-self.self-inside.out in
    let es = c.loop-self.self-inside.bins.entries in
    let test = is_at (g.B.Ord.cmp o.1) in
    let held = c.unwrap-bin.result.now in
    let low : c.args.index < length out.items = omega (arith, c.loop-self-test.false, c.len.ensures, out.ok.0) in
    let none : get_or out.items c.args.index None ≡ None =
    get_or_default out.items c.args.index None c.index.result.now low ∙ sym c.index.ensures ∙ none_of c.index.result.now (sym c.if-is_some.ensures) in
    let found : lookup test es ≡ Some held = sym c.get_mut.ensures.value ∙ ap option_copied_mut c.unwrap-bin.ensures in
    rw (standing g c, c.with.ensures, c.replace-bin.ensures.value)
    (checked_in-out g.met.B.Ord.total c.loop-self.self-inside.order.now out.items (bins_of es) c.args.index o c.loop-self.invariant.can
    (rw c.loop-self.invariant.order c.requires) c.index-order-index.is end held.bin c.replace-bin.new.dest.bin low none
    (found-bins_of test es (bins_of es) held refl found) ∙ c.loop-self.invariant.left end)

pub invariant_of-self-2 : goal.invariant_of-self-2
invariant_of-self-2 g c =
    let at = (goal_at.invariant_of-self-2 g c).After-with in
    let out = c.loop-self.self-inside.out.items in (
      CanCheckIn-written _ _ (ap keys_of (standing g at) ∙ keys-set_value (is_at (g.B.Ord.cmp c.index-order-index.result.1)) (bins_of c.loop-self.self-inside.bins.entries) c.replace-bin.new.dest.bin)
          (rw (length-set out c.args.index (Some c.with.result)) c.loop-self.invariant.can.within) c.loop-self.invariant.can,
      rw (same g at Keep) c.loop-self.invariant.summed,
    )

pub returns-clause-left : goal.returns-clause-left
returns-clause-left g c = λ end.
    left_of-in_use g.B.Ord.cmp end c.loop-self.self-inside.order.now (set c.loop-self.self-inside.out.items c.args.index (Some c.with.result))
    (bins_of (c.get_mut.follows.lender c.replace-bin.new.dest).entries) ∙ same g (goal_at.returns-clause-left g c).After-with end
