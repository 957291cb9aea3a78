-- The names of the standard library that the proofs cite, passed on from one place. Declares nothing.
pub use Rattle.std.proofs.Common.{◌≡◌, arith, sym, ◌∙◌, refl, ap, List, [], length, ◌∷◌, ℕ, ◌++◌, take, ◌+◌, ◌<◌, true, ◌≤◌, All, subst, Some, false, Bool, map}
pub use Rattle.std.proofs.Common.{Ordering, rules, get_or, ◌-◌, Equal, None, inl, inr, cond, Option, filter, length-append, suc, drop, is_eq, IsPermutation}
pub use Rattle.std.proofs.Common.{append-nil, IsSome, append_assoc, option_map, ◌≢◌, Greater, vec_len, Ok, zero, Contains, Less, is_some, reverse, sum, ◌⊎◌}
pub use Rattle.std.proofs.Common.{AllPairs, IsSomeAnd, Vec, count_by, ◌*◌, vec_capacity, Err, IfSome, Result, length-drop, set, sum_by, take_all, unwrap_or}
pub use Rattle.std.proofs.Common.{◌↔◌, MatchBool, nat_cmp, nat_le, ◌&&◌, Bor, length-set, length-take-le, max, remove, take-append-drop, ◌/◌, ◌||◌, Any, IsTrue}
pub use Rattle.std.proofs.Common.{MatchOption, add-one, drop-drop, eqb-true, get_or-drop, get_or-set_other, leb-true, map-id, min, nat_lt, not, slice_range}
pub use Rattle.std.proofs.Common.{IfNone, IfOk, IsSorted, OnErr, eq-eqb, eqb, if◌then◌else◌, is_lt, le-leb, le_antisymm, lt-ltb, lt_of_mul-lt-mul_right}
pub use Rattle.std.proofs.Common.{option_copied, slice_index_or, take-suc, zip, ⊎_elim, ◌==◌, BTreeMap, Decides, HoldsAt, IsErrAnd, OnOk, drop-cons}
pub use Rattle.std.proofs.Common.{drop-set-lt, drop_at, get_or-set_same, get_or-take, is_err, le-ltb, leb, leb-false, length-take, mul-le-mul_left}
pub use Rattle.std.proofs.Common.{mul-le-mul_right, nat_eq, ne_eqb, set-set, take-add, take_at, ◌^◌}
pub use Rattle.std.specs.Prelude.{⊤}
pub use Rattle.std.specs.BTreeMap.{is_at, insert_entry, get, IsOrdered}
pub use Rattle.std.specs.Bool.{OnTrue}
pub use Rattle.std.specs.Cmp.{IsTotalOrder, Equal-is, on_total, tied_back}
pub use Rattle.std.specs.Iterator.{Yields}
pub use Rattle.std.specs.List.{AllZip, IsDistinct, list_any, AllByRecursion, AllWithin, each_same}
pub use Rattle.std.specs.List.Sorted.{IsStrictlySortedBy, IsNonDecreasingBy, IsBinarySearchResult, IsSearchInRange}
pub use Rattle.std.specs.Map.{lookup, keys_of, set_value, values_of, remove_entry}
pub use Rattle.std.specs.Map.Iter.{deref_pair, TakesFirst}
pub use Rattle.std.specs.Option.{option_copied_mut}
pub use Rattle.std.specs.Ordering.{ordering_reverse, eq_by_cmp, match_ordering, ordering_then, ordering_index}
pub use Rattle.std.specs.Result.{result_ok}
pub use Rattle.std.specs.Vec.Iter.{into_iter_len}
pub use Rattle.std.specs.declared.alloc.AllocError.{AllocError}
pub use Rattle.std.proofs.Math.Bool.{or-false, or_comm, and-or_distrib_right, and_comm, or-true, or_assoc, or_self}
pub use Rattle.std.proofs.Math.Path.{fun_ext}
pub use Rattle.std.proofs.Math.Seq.{split_at, get_or-append_seam, take-append_seam, drop-append_seam, take-length, set-append_seam}
pub use Rattle.std.proofs.lemmas.Bool.{cases_lt, cases_Bool, both_ways, false_from_ne_true, cases_order, lt-leb, OnTrue_from, and_parts, cases_eq, or_parts}
pub use Rattle.std.proofs.lemmas.Bool.Decides.{nat_tests, Decides-and, Decides-at, Decides-eqb, Decides-like, Decides-or}
pub use Rattle.std.proofs.lemmas.Cmp.{tied_itself, eq_by_cmp_equiv, nat_cmp_total, then_total, back_total, ranked}
pub use Rattle.std.proofs.lemmas.Iterator.Adapters.{YieldsList-from_vec}
pub use Rattle.std.proofs.lemmas.Iterator.Consumers.{YieldsList-end}
pub use Rattle.std.proofs.lemmas.List.{take_more, get_or_default, length-map, map-append, reverse-append, get_or-map, map_push, nil_from_length, set-get_or}
pub use Rattle.std.proofs.lemmas.List.{take_rest, drop-append-le, drop-set-add, drop-take, get_or-reverse, get_or_append_left, length-reverse, take-append-le}
pub use Rattle.std.proofs.lemmas.List.{take-map, take-set-le, take-take}
pub use Rattle.std.proofs.lemmas.List.Edits.{get_or-remove_above, get_or-remove_below, length-remove, remove-append_right}
pub use Rattle.std.proofs.lemmas.List.Elements.{All-weaker, All-tail, All-head, All-nil, All-append, All-cons, All-push, All-contains, All-from_recursion}
pub use Rattle.std.proofs.lemmas.List.Elements.{filter-append, All-contains_itself, All-take, filter_passes, All-drop, All-map, Contains-append_left}
pub use Rattle.std.proofs.lemmas.List.Elements.{All-filter, All-more, All-same, All-set, Contains-append_right, recursion_from_All}
pub use Rattle.std.proofs.lemmas.List.Filters.{sum_by-filter_both}
pub use Rattle.std.proofs.lemmas.List.Folds.{list_any-append, list_any_at, list_any_more, list_any_none}
pub use Rattle.std.proofs.lemmas.List.Kept.{AllPairs-cons}
pub use Rattle.std.proofs.lemmas.List.Quantifiers.{all_pairs_push, all_pairs_remove}
pub use Rattle.std.proofs.lemmas.List.Sorted.{All-permutation, sum_by-IsPermutation, IsPermutation-map, IsPermutation-trans, length_permutation}
pub use Rattle.std.proofs.lemmas.List.Sorted.{IsPermutation-append_right, IsPermutation-middle, IsPermutation-refl, IsPermutation-sym, answers_always}
pub use Rattle.std.proofs.lemmas.List.Sorted.{IsNonDecreasingBy-drop, IsNonDecreasingBy-from_sort_by_key, IsNonDecreasingBy-take, IsPermutation-append}
pub use Rattle.std.proofs.lemmas.List.Sorted.{IsPermutation-append_comm, IsPermutation-append_left, IsPermutation-cons, IsPermutation-remove, ranks_by}
pub use Rattle.std.proofs.lemmas.List.Sorted.{sorted_far}
pub use Rattle.std.proofs.lemmas.List.Sums.{sum_by-cons, count_by-le-length, length-filter, sum_by-append, sum_by_push, count_by_more_no, count_by_more_yes}
pub use Rattle.std.proofs.lemmas.List.Sums.{get_or-le-sum_by, sum-map, sum_by-le, sum_by-remove, sum_by-set, sum_by-take-le}
pub use Rattle.std.proofs.lemmas.Map.{keys-set_value, lookup-none, lookup-set_value}
pub use Rattle.std.proofs.lemmas.Map.Entries.{none_below_head, btree_map_get_place, filter_from_retain_pairs}
pub use Rattle.std.proofs.lemmas.Map.Iter.{iter_end, rest_so_far, rest_more}
pub use Rattle.std.proofs.lemmas.Map.Keys.{IsDistinct-from_sorted, IsDistinct-head, IsDistinct-tail, IsDistinct-IsPermutation, sorted_tail, IsDistinct-cons}
pub use Rattle.std.proofs.lemmas.Map.Keys.{Less-from_sorted}
pub use Rattle.std.proofs.lemmas.Map.Made.{keys_of-map_values, lookup-map_values, is_some-lookup}
pub use Rattle.std.proofs.lemmas.Map.Steps.{set_value_same}
pub use Rattle.std.proofs.lemmas.Map.Views.{IfSome-lookup_from_All, All-values_from_lookup, All-after_first, All-turn, All-values-insert_entry}
pub use Rattle.std.proofs.lemmas.Map.Views.{All-values-set_value}
pub use Rattle.std.proofs.lemmas.Option.{slice_get-get_or}
pub use Rattle.std.proofs.lemmas.Result.{on_ok_weaker, on_err_weaker, IfOk-from_err}
pub use Rattle.std.proofs.lemmas.Slice.Zip.{AllZip-long, AllZip-map}
