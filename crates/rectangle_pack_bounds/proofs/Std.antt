-- The names of the standard library that the proofs cite, passed on from one place. Declares nothing.
pub use Rattle.std.proofs.Common.{◌≡◌, arith, ◌∙◌, refl, ap, List, [], ◌∷◌, length, ℕ, zero, suc, ◌+◌, ◌-◌, ◌*◌, ◌/◌, ◌%◌}
pub use Rattle.std.proofs.Common.{◌<◌, ◌≤◌, Bool, true, false, cond, ◌&&◌, All, AllPairs, Contains, sum, sum_by, map, inl}
pub use Rattle.std.proofs.Common.{inr, leb, get_or, nat_eq, nat_le, le-leb, mul-le-mul_left, filter, take, max}
pub use Rattle.std.proofs.Common.{lt_of_mul-lt-mul_right, min, Ordering, Option, Some, None, Equal, IsSorted, IsPermutation}
pub use Rattle.std.proofs.Common.{nat_cmp, drop, length-drop, length-take-le, get_or-take, get_or-drop}
pub use Rattle.std.proofs.Common.{IsSomeAnd, ◌||◌, IfSome, ◌++◌, map-id}
pub use Rattle.std.proofs.Math.Nat.{div-add-mod, div-add-mod', zero-div}
pub use Rattle.std.proofs.lemmas.Bool.{cases_lt, cases_Bool, lt-leb, both_ways}
pub use Rattle.std.proofs.lemmas.Bool.Decides.{nat_tests}
pub use Rattle.std.proofs.lemmas.Cmp.{eq_by_cmp_equiv}
pub use Rattle.std.proofs.lemmas.Grind.{div_ceil_times}
pub use Rattle.std.proofs.lemmas.List.{get_or_default, nil_from_length, length-map}
pub use Rattle.std.proofs.lemmas.List.Elements.{All-head, All-tail, All-weaker, All-cons, All-nil, All-contains, All-map}
pub use Rattle.std.proofs.lemmas.List.Elements.{All-append, All-drop, All-contains_itself}
pub use Rattle.std.proofs.lemmas.List.Folds.{list_any_at, Any-from_list_any}
pub use Rattle.std.proofs.lemmas.List.Kept.{AllPairs-cons}
pub use Rattle.std.proofs.lemmas.List.Sorted.{sum_by-IsPermutation, IsNonDecreasingBy-from_sort, length_permutation}
pub use Rattle.std.proofs.lemmas.List.Sorted.{All-permutation, IsPermutation-sym}
pub use Rattle.std.proofs.lemmas.List.Sums.{sum_by-cons, sum_by-take-drop, get_or-le-sum_by, sum_by-le}
pub use Rattle.std.proofs.lemmas.List.Sums.{list_all-from_AllPass}
pub use Rattle.std.proofs.lemmas.Map.Entries.{length-values_of}
pub use Rattle.std.proofs.lemmas.Map.Views.{IfSome-lookup_from_All}
pub use Rattle.std.proofs.lemmas.Nat.{le-div, same_from_place, mod_below}
pub use Rattle.std.specs.BTreeMap.{is_at}
pub use Rattle.std.specs.Cmp.{IsTotalOrder, IsEquivalence, Equal-is}
pub use Rattle.std.specs.Int.{div_ceil}
pub use Rattle.std.specs.List.{list_any, list_all}
pub use Rattle.std.specs.Map.{lookup, values_of}
pub use Rattle.std.specs.Ordering.{eq_by_cmp}
