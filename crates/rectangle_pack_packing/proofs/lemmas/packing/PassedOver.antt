-- Bins that a group passes over: they do not take it.
use Rattle.rectangle_pack_sections.proofs.Std.{◌≡◌, ◌≤◌, ◌+◌, ◌-◌, ℕ, List, [], ◌∷◌, ◌++◌, take, drop, map, sum, refl, sym, ap, ◌∙◌, arith, inl}
use Rattle.rectangle_pack_sections.proofs.Std.{Bor, take-add, map-append, sum_by-append, Some, Ordering}
use Rattle.std.specs.List.{slice_get}
use Rattle.rectangle_pack_sections.specs.Boxes.{Size}
use Rattle.rectangle_pack_sections.specs.Bins.{Bin}
use Rattle.rectangle_pack_lists.specs.Numbers.{saturated}
use Rattle.rectangle_pack_packing.specs.Packing.{Rules, Members, DoesNotTake, IsStuckIn}
use Rattle.rectangle_pack_packing.specs.private.Excluded.{are_in}
use Rattle.rectangle_pack_packing.proofs.lemmas.packing.Turns.{ArePassed, WerePassed, DoesNotTake-stuck}
use Rattle.rectangle_pack_sections.proofs.lemmas.util.Zips.{AllZip-append, AllZip-weaker}
use Rattle.rectangle_pack_packing.specs.private.BinsAtWork.{BinHoldsNone, BinsHoldNone}
use Rattle.rectangle_pack_packing.specs.private.PassedOver.{IsPassedOver, ArePassedOver}

begins : (ms : List Size) (first : Size) → slice_get ms 0 ≡ Some first → (others : List Size) × (ms ≡ first ∷ others)
begins [] first e = absurd cc
begins (m ∷ ms) first e = (ms, cc)

-- bins no section of which holds the first of some members are passed over, where none is excluded
pub ArePassedOver-held : {B : Type 0} (cmp : B → B → Ordering) (excluded : List (Bor B)) (bins : List (B × Bin)) (members : List Size) (first : Size)
    (ids : List B) (tests : ℕ) → excluded ≡ [] → slice_get members 0 ≡ Some first → BinsHoldNone cmp bins first ids tests
    → ArePassedOver cmp excluded bins members ids tests
ArePassedOver-held cmp excluded bins members first ids tests none is held =
    let (others, members_are) = begins members first is in
    record {
      counts = held.counts;
      each = AllZip-weaker (BinHoldsNone cmp bins first) (IsPassedOver cmp excluded bins members)
          (λ id count one. record { allowed = rw none refl; first = first; others = others; members_are = members_are; none = one }) ids held.counts held.each;
      tests_are = held.tests_are;
    }

module _ {Id B : Type 0} (rules : Rules Id B) (excluded : List (Bor B)) (bins : List (B × Bin)) (group : Members Id) where
  -- a bin that is passed over does not take the group
  DoesNotTake-over : (id : B) (count : ℕ) → IsPassedOver rules.bin_cmp excluded bins group.sizes id count
      → DoesNotTake rules (are_in rules.bin_cmp excluded) bins group id count
  DoesNotTake-over id count over =
      let stuck : IsStuckIn rules bins group id count = rw (over.none.found, over.members_are) (inl (over.none.none, over.none.tests_are)) in
      DoesNotTake-stuck rules (are_in rules.bin_cmp excluded) bins group id bins count over.allowed refl stuck

  -- bins of the order that do not take the group, and those after them that are passed over
  both-over : (first second : List (ℕ × B)) (tests before mid after : ℕ)
      → WerePassed rules (are_in rules.bin_cmp excluded) first group bins before mid
      → ArePassedOver rules.bin_cmp excluded bins group.sizes (map (λ o. o.1) second) tests → after ≡ saturated (mid + tests)
      → ArePassed rules (are_in rules.bin_cmp excluded) (first ++ second) group bins before after
  both-over first second tests before mid after passed over added = (
    passed.0 ++ over.counts,
    rw (map-append (λ (o : ℕ × B). o.1) first second)
        (AllZip-append _ _ passed.0 _ over.counts passed.1 (AllZip-weaker _ _ DoesNotTake-over (map (λ o. o.1) second) over.counts over.each)),
    rw over.tests_are at added ∙ passed.2 (sum over.counts)
        ∙ ap (λ n. saturated (before + n)) (sym (sum_by-append (λ x. x) passed.0 over.counts)),
  )

  -- so far, and up to a later index
  pub ArePassed-over : (old : List (B × Bin)) (order here : List (ℕ × B)) (from to tests before mid after : ℕ) → bins ≡ old → here ≡ order → from ≤ to
      → WerePassed rules (are_in rules.bin_cmp excluded) (take from order) group old before mid
      → ArePassedOver rules.bin_cmp excluded bins group.sizes (map (λ o. o.1) (take (to - from) (drop from here))) tests → after ≡ saturated (mid + tests)
      → ArePassed rules (are_in rules.bin_cmp excluded) (take to order) group old before after
  ArePassed-over old order here from to tests before mid after same alike le passed over added =
      let whole : from + (to - from) ≡ to = omega arith in
      let parts : take from order ++ take (to - from) (drop from order) ≡ take to order =
      sym (take-add from (to - from) order) ∙ ap (λ n. take n order) whole in
      rw (← parts, ← same) (both-over (take from order) (take (to - from) (drop from order)) tests before mid after (rw (← same) at passed) (rw alike at over)
      added)
