use Rattle.rectangle_pack_sections.proofs.Std.{◌≡◌, ℕ, zero, suc, ◌+◌, ◌<◌, arith, length, get_or, List, [], ◌∷◌, sym, ap, refl, ◌∙◌, true, map, keys_of, is_at, list_any, AllZip, Ordering, Equal, Equal-is, IsTotalOrder}
use Rattle.rectangle_pack_sections.proofs.Std.{is_some-lookup, IsStrictlySortedBy, Less-from_sorted, deref_pair, map_push, iter_end}
use Rattle.std.proofs.lemmas.Map.Keys.{sorted_from_all_adjacent}
use Rattle.rectangle_pack_sections.proofs.lemmas.util.Maps.{congr_right}
use Rattle.rectangle_pack_bins.proofs.lemmas.bins.Maps.{is_some-bins_of}
use Rattle.rectangle_pack_packing.proofs.lemmas.packing.Orders.{AllZip-more, found-zip}
use Rattle.rectangle_pack_packing.proofs.pack.told.telling.ids_of.Goals as goal

-- ids that equal the keys of a map, one after another
abbrev AreItsKeys : {B X : Type 0} → (B → B → Ordering) → List (B × X) → List (ℕ × B) → Type 0
AreItsKeys cmp es ids = AllZip (λ e i. cmp e.0 i.1 ≡ Equal) es ids

module _ {B X : Type 0} {cmp : B → B → Ordering} (o : IsTotalOrder cmp) where
  -- there are as many
  as_many : (es : List (B × X)) (ids : List (ℕ × B)) → AreItsKeys cmp es ids → length (keys_of es) ≡ length (map (λ i. i.1) ids)
  as_many [] [] h = refl
  as_many [] (i ∷ ids) h = absurd h
  as_many (e ∷ es) [] h = absurd h
  as_many (e ∷ es) (i ∷ ids) h = ap suc (as_many es ids h.1)

  -- those at one index are equal
  same_at : (es : List (B × X)) (ids : List (ℕ × B)) (k : ℕ) (d f : B) → AreItsKeys cmp es ids → k < length (map (λ i. i.1) ids)
      → cmp (get_or (keys_of es) k d) (get_or (map (λ i. i.1) ids) k f) ≡ Equal
  same_at [] [] k d f h below = absurd (omega (arith, below))
  same_at [] (i ∷ ids) k d f h below = absurd h
  same_at (e ∷ es) [] k d f h below = absurd h
  same_at (e ∷ es) (i ∷ ids) zero d f h below = h.0
  same_at (e ∷ es) (i ∷ ids) (suc k) d f h below = same_at es ids k d f h.1 (omega (arith, below))

  -- where the keys rise the ids do
  rise-alike : (es : List (B × X)) (ids : List (ℕ × B)) → AreItsKeys cmp es ids → IsStrictlySortedBy cmp (keys_of es)
      → IsStrictlySortedBy cmp (map (λ i. i.1) ids)
  rise-alike [] [] h up = up
  rise-alike [] (i ∷ ids) h up = absurd h
  rise-alike (e ∷ es) [] h up = absurd h
  rise-alike (e ∷ es) (i ∷ ids) h up =
      sorted_from_all_adjacent o (map (λ j. j.1) (i ∷ ids)) i.1
      (λ k below.
      let many = as_many (e ∷ es) (i ∷ ids) h in
      sym (o.congr _ _ _ (same_at (e ∷ es) (i ∷ ids) k e.0 i.1 h (omega (arith, below))))
      ∙ sym (congr_right o _ _ _ (same_at (e ∷ es) (i ∷ ids) (k + 1) e.0 i.1 h below))
      ∙ Less-from_sorted cmp (keys_of (e ∷ es)) k (k + 1) e.0 up (omega arith) (omega (arith, below, many)))

  -- an id is among both or none
  any-alike : (id : B) (es : List (B × X)) (ids : List (ℕ × B)) → AreItsKeys cmp es ids
      → list_any (is_at (cmp id)) (keys_of es) ≡ list_any (λ i. is_at (cmp id) i.1) ids
  any-alike id [] [] h = refl
  any-alike id [] (i ∷ ids) h = absurd h
  any-alike id (e ∷ es) [] h = absurd h
  any-alike id (e ∷ es) (i ∷ ids) h = rw (congr_right o e.0 i.1 id h.0, any-alike id es ids h.1) refl

pub loop-id-preserved : goal.loop-id-preserved
loop-id-preserved g c =
    let same : g.B.PartialEq.eq c.in-Some.id.now c.in_ok-clone.field-0 ≡ true = c.requires.bin_ids _ _ c.in_ok-clone.ensures.cases in
    let equal : g.B.Ord.cmp c.in-Some.id.now c.in_ok-clone.field-0 ≡ Equal = (Equal-is _).0 (sym (g.met.B.Ord.matches_eq _ _) ∙ same) in
    rw (map_push deref_pair c.loop-id.yielded (c.in-Some.id, c.in-Some.field-0-1), c.in_ok-push.ensures.items)
    (AllZip-more _ (map deref_pair c.loop-id.yielded) c.loop-id.ids.items (deref_pair (c.in-Some.id, c.in-Some.field-0-1))
    (0, c.in_ok-clone.field-0) c.loop-id.invariant equal)

pub returns : goal.returns
returns g c =
    let bins = c.args.bins.now.entries in
    let e : map deref_pair c.loop-id.yielded ≡ bins =
    (iter_end deref_pair _ _ _ _ _ _ c.into_iter-id-iterator.ensures.into_iter_gives.0 c.loop-id.yielded_by c.in-None.is c.next.ensures.steps).0 in
    let each : AreItsKeys g.B.Ord.cmp bins c.loop-id.ids.items = rw e at c.loop-id.invariant in
    record {
      found = found-zip g.met.B.Ord.total (λ (o : ℕ × g.row.B.Denot). o.1) _ (λ b o r. r) bins c.loop-id.ids.items each;
      rising = rise-alike g.met.B.Ord.total bins c.loop-id.ids.items each c.len.ensures.ordered;
      all = λ id. is_some-bins_of _ bins ∙ is_some-lookup _ bins ∙ any-alike g.met.B.Ord.total id bins c.loop-id.ids.items each;
    }
