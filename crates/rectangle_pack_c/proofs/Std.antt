-- The names of the standard library that the proofs cite, passed on from one place. Declares nothing.
pub use Rattle.std.proofs.Common.{refl, ◌≡◌, [], List, sym, ◌∷◌, subst, ap, ◌++◌, Some, ℕ, ◌∙◌, ◌<◌, arith, get_or, length, nat_cmp, ◌≢◌, AllPairs, map}
pub use Rattle.std.proofs.Common.{slice_get, All, Equal, None, false, Bool, Contains, Ordering, take, true, ◌+◌, IsSome, Option, cond, filter, inl, inr}
pub use Rattle.std.proofs.Common.{is_eq, option_map, suc, ◌==◌, ◌⊎◌, IsPermutation, IsSomeAnd, zero, ◌≤◌, Global, Greater, Less, MatchBool, append-nil}
pub use Rattle.std.proofs.Common.{below_more, drop, get_or-set_other, get_or-set_same, length-append, length-set, length-take, lit<, set, take_all, unwrap_or}
pub use Rattle.std.proofs.Common.{◌-◌, ◌*◌, ◌^◌, ◌||◌, ◌&&◌, not, nat_le, nat_lt, Result, MatchOption, rules, append_assoc}
pub use Rattle.std.proofs.BoxSteps.Steps.{box_in, box_out}
pub use Rattle.std.proofs.ResultValues.{and_tt}
pub use Rattle.std.proofs.VecSteps.Shapes.{after}
pub use Rattle.std.proofs.alloc.Calls.{Goes-blank, handle_tells, Al}
pub use Rattle.std.proofs.raw_atomic.Walks.{proved_at, leaves}
pub use Rattle.std.specs.BTreeMap.{is_at, insert_entry}
pub use Rattle.std.specs.Box.Ownership.{box_owns}
pub use Rattle.std.specs.Cmp.{nat_cmp_is, Equal-is, IsTotalOrder}
pub use Rattle.std.specs.List.{AllZip, IsDistinct, enumerate_from, list_any}
pub use Rattle.std.specs.List.Sorted.{IsStrictlySortedBy}
pub use Rattle.std.specs.Map.{keys_of, lookup, values_of}
pub use Rattle.std.specs.Ordering.{eq_by_cmp}
pub use Rattle.std.specs.declared.alloc.Allocator.{Ghosts}
pub use Rattle.std.specs.declared.vec.Vec.{Vec}
pub use Rattle.std.proofs.Math.Seq.{drop-append_seam}
pub use Rattle.std.proofs.Math.Bool.{or-false, or_comm}
pub use Rattle.std.proofs.lemmas.Bool.Decides.{nat_tests}
pub use Rattle.std.proofs.lemmas.Cmp.{nat_cmp_total}
pub use Rattle.std.proofs.lemmas.List.{length-take-le, get_or_default, length-map, map-append, take_more}
pub use Rattle.std.proofs.lemmas.List.Elements.{All-contains, All-cons, All-head, All-nil, All-weaker, Contains-append_right, Contains-get_or, All-tail}
pub use Rattle.std.proofs.lemmas.List.Elements.{All-from_recursion, Contains-append_cases, Contains-append_left, filter-append}
pub use Rattle.std.proofs.lemmas.List.FromFn.{get_or-enumerate_from, length-enumerate_from}
pub use Rattle.std.proofs.lemmas.List.Folds.{list_any-append, list_any_at}
pub use Rattle.std.proofs.lemmas.List.Kept.{AllPairs-cons}
pub use Rattle.std.proofs.lemmas.List.Sorted.{Contains-permutation, IsPermutation-map}
pub use Rattle.std.proofs.lemmas.Map.Keys.{IsDistinct-IsPermutation, IsDistinct-from_sorted, IsDistinct-head, IsDistinct-tail}
pub use Rattle.std.proofs.lemmas.Map.Lookups.{exact_unsigned}
pub use Rattle.std.proofs.lemmas.Option.{get_or_from_slice_get, slice_get-map, slice_get-get_or, slice_get_within}
pub use Rattle.std.proofs.lemmas.Result.{err_from_is_err_and}
