use Rattle.std.proofs.Common.{◌≡◌, ℕ, ◌/◌, ◌&&◌, rules, tests, map, filter, nat_lt, nat_le, Contains}
use Rattle.std.proofs.lemmas.Iterator.{YieldsList-from_slice, YieldsList-from_map, items_from_collect}
use Rattle.std.proofs.lemmas.Iterator.Consumers.{YieldsList-at, YieldsList-from_filter}
use Rattle.std.proofs.lemmas.List.Filters.{dedup_is}
use Rattle.std.proofs.lemmas.List.Kept.{Contains-dedup_nat, Contains-from_dedup}
use Rattle.std.proofs.lemmas.List.Sorted.{Contains-permutation, IsPermutation-sym}
use Rattle.std.proofs.lemmas.Map.Keys.{IsStrictlyIncreasing-dedup}
use Rattle.rectangle_pack_sections.specs.Boxes.{extent}
use Rattle.rectangle_pack_bounds.proofs.lemmas.Items.{Contains-filter, Contains-from_filter, passes-from_filter}
use Rattle.rectangle_pack_bounds.proofs.lemmas.Halves.{above_none, to_half, passes_to_half}
use Rattle.rectangle_pack_bounds.proofs.ratings_along.lengths_to_half.Goals as goal

pub returns-clause-once : goal.returns-clause-once
returns-clause-once g c =
    rw (dedup_is _ _ _ c.dedup.ensures.filtered) (IsStrictlyIncreasing-dedup _ c.sort_unstable.ensures.sorted)

pub returns-clause-listed : goal.returns-clause-listed
returns-clause-listed g c =
    let axis = c.args.axis in
    let along = extent axis c.args.bin in
    let lengths = map (extent axis) c.args.sizes.now in
    let kept = λ (l : ℕ). nat_lt 0 l && nat_le l (along / 2) in
    let all = items_from_collect c.collect.result c.collect.ensures.ran (YieldsList-from_filter _ kept (YieldsList-at c.filter.ensures.source
    (YieldsList-from_map _ (extent axis) (YieldsList-at c.map.ensures.source (YieldsList-from_slice c.args.sizes.now cc)) c.map.ensures.closure (λ x r q k. search (rules, tests))))
    c.filter.ensures.closure (λ x r q k. search (rules, tests))) in
    let some : c.in_ok-lengths.lengths.items ≡ filter kept lengths = rw c.in_ok-lengths.was at all in
    let is = dedup_is _ _ _ c.dedup.ensures.filtered in
    let moved = c.sort_unstable.ensures.permutation in
    λ l. (
      λ h.
          let before : Contains (filter kept lengths) l = rw (← some) (Contains-permutation _ _ l (IsPermutation-sym _ _ moved) (Contains-from_dedup _ _ l (rw is at h))) in
          let passes = passes-from_filter kept lengths l before in
          (Contains-from_filter kept lengths l before, above_none along l passes, to_half along l passes),
      λ h. rw is (Contains-dedup_nat _ l (Contains-permutation _ _ l moved (rw some (Contains-filter kept lengths l (passes_to_half along l h.1 h.2) h.0)))),
    )
