use Rattle.rectangle_pack_sections.proofs.Std.{◌≡◌, ℕ, ◌+◌, cases_lt, inl, inr, List, length, map, get_or, refl, false, All, MatchOption, Result, Ok, Err, result_ok, is_at, Ordering, IsTotalOrder, arith, rules}
use Rattle.rectangle_pack_sections.proofs.Std.{IsStrictlySortedBy, IsBinarySearchResult, IsSearchInRange}
use Rattle.std.proofs.lemmas.List.Sorted.{searchable_from_sorted}
use Rattle.std.proofs.lemmas.Fn.{always_returns_same}
use Rattle.rectangle_pack_packing.specs.private.ToldOnItsWay.{IsIndexOf}
use Rattle.rectangle_pack_packing.proofs.lemmas.packing.Orders.{rise-names}
use Rattle.rectangle_pack_packing.proofs.pack.told.telling.index_of.Goals as goal

-- what a search among ids that rise finds
found_in : {B : Type 0} {cmp : B → B → Ordering} → IsTotalOrder cmp → (ids : List (ℕ × B)) (bin : B) (r : Result ℕ ℕ)
    → IsStrictlySortedBy cmp (map (λ i. i.1) ids) → IsSearchInRange r (length ids) → IsBinarySearchResult (λ i. cmp i.1 bin) ids r
    → MatchOption (result_ok r) (All (λ i. is_at (cmp bin) i.1 ≡ false) ids) (IsIndexOf cmp ids bin)
found_in o ids bin (Ok at) rising within equal = record { within = within; here = λ i is. rw (o.antisymm bin i.1, is) (rw (equal i) refl) }
found_in {B} {cmp} o ids bin (Err at) rising within parted =
    let rise = rise-names cmp (λ (i : ℕ × B). i.1) ids (map (λ i. i.1) ids) refl rising in
    let halves = parted (searchable_from_sorted o (λ i. i.1) ids bin
    (λ k d low more. rw (o.antisymm (get_or ids (k + 1) d).1 (get_or ids k d).1, rise k (k + 1) d (omega arith) more) refl)) in
    λ k d below. elim (cases_lt k at) [
      | inl lt ↦ rw (o.antisymm bin (get_or ids k d).1, halves.0 k d (omega arith) lt) refl
      | inr le ↦ rw (o.antisymm bin (get_or ids k d).1, halves.1 k d le below) refl
    ]

pub returns : goal.returns
returns g c =
    let by_id = c.binary_search_by.ensures.position (λ (i : ℕ × g.row.B.Denot). g.B.Ord.cmp i.1 c.args.bin.now)
    (always_returns_same _ _ _ (λ a r f called. search rules)) in
    rw c.ok.ensures.value (found_in g.met.B.Ord.total c.args.ids.now c.args.bin.now _ c.requires c.binary_search_by.ensures.bound by_id)
