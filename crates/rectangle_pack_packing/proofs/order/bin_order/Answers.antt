use Rattle.rectangle_pack_sections.proofs.Std.{◌≡◌, ℕ, List, subst, sym, ◌∙◌, true, map, IsSome, lookup, keys_of, IsDistinct, eq_by_cmp, IsDistinct-from_sorted}
use Rattle.rectangle_pack_sections.proofs.Std.{is_at, All-permutation, Equal-is, deref_pair, Equal, map_push, iter_end}
use Rattle.rectangle_pack_packing.specs.Orders.{IsBinOrder}
use Rattle.rectangle_pack_sections.specs.Bins.{bins_of, Held}
use Rattle.rectangle_pack_packing.specs.Packing.{rules_by}
use Rattle.rectangle_pack_packing.proofs.lemmas.packing.FitTests.{order-differs}
use Rattle.rectangle_pack_bins.proofs.lemmas.bins.Maps.{keys-bins}
use Rattle.rectangle_pack_packing.proofs.lemmas.packing.Orders.{AllZip-more, AllZip-map_left, found-zip}
use Rattle.rectangle_pack_packing.proofs.order.bin_order.Goals as goal

pub loop-id-preserved : goal.loop-id-preserved
loop-id-preserved g c =
    let same : g.B.PartialEq.eq c.in-Some.id.now c.in_ok-clone.field-0 ≡ true = c.requires.bin_ids _ _ c.in_ok-clone.ensures.cases in
    let equal : g.B.Ord.cmp c.in-Some.id.now c.in_ok-clone.field-0 ≡ Equal = (Equal-is _).0 (sym (g.met.B.Ord.matches_eq _ _) ∙ same) in
    rw (map_push deref_pair c.loop-id.yielded (c.in-Some.id, c.in-Some.bin), c.in_ok-push.ensures.items)
    (AllZip-more _ (map deref_pair c.loop-id.yielded) c.loop-id.order.items (deref_pair (c.in-Some.id, c.in-Some.bin))
    (c.rate.result, c.in_ok-clone.field-0) c.loop-id.invariant (equal, rw (← c.max_size.ensures) c.rate.ensures))

pub returns : goal.returns
returns g c =
    let cmp = g.B.Ord.cmp in
    let may = g.R.Policy.may c.args.policy.now in
    let bins = c.args.bins.now.entries in
    let e : map deref_pair c.loop-id.yielded ≡ bins =
    (iter_end deref_pair _ _ _ _ _ _ c.into_iter-id-iterator.ensures.into_iter_gives.0 c.loop-id.yielded_by c.in-None.is c.next.ensures.steps).0 in
    let order : IsBinOrder may.rate cmp (bins_of bins) _ = record {
      unsorted = c.loop-id.order.items;
      each = rw (← e) (AllZip-map_left _ (λ (x : g.row.B.Denot × Held). (x.0, x.1.bin)) (map deref_pair c.loop-id.yielded) c.loop-id.order.items
          c.loop-id.invariant);
      permutation = c.sort_unstable.ensures.permutation;
      rising = c.sort_unstable.ensures.sorted;
    } in
    let distinct : IsDistinct (eq_by_cmp cmp) (keys_of (bins_of bins)) =
    subst (λ (ks : List g.row.B.Denot). IsDistinct (eq_by_cmp cmp) ks) (sym (keys-bins bins))
    (IsDistinct-from_sorted cmp (keys_of bins) c.len.ensures.ordered) in
    record {
      order = order;
      found = All-permutation (λ (o : ℕ × g.row.B.Denot). IsSome (lookup (is_at (cmp o.1)) bins)) c.loop-id.order.items _ c.sort_unstable.ensures.permutation
          (found-zip g.met.B.Ord.total (λ (o : ℕ × g.row.B.Denot). o.1) _ (λ b o r. r.0) bins c.loop-id.order.items (rw e at c.loop-id.invariant));
      ids = order-differs (rules_by cmp cmp may) g.met.B.Ord.total (bins_of bins) _ distinct order;
      distinct = distinct;
    }
