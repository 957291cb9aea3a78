-- Groups that exclude each other in pairs need a bin each.
use Rattle.rectangle_pack_sections.proofs.Std.{◌≡◌, ◌≤◌, ◌<◌, ℕ, List, [], ◌∷◌, ◌++◌, length, get_or, get_or_default, refl, sym, ◌∙◌, ap, subst, arith, Bool, true, false, cond, not, ◌&&◌, ◌||◌}
use Rattle.rectangle_pack_sections.proofs.Std.{All, All-nil, All-cons, All-head, All-tail, All-push, AllPairs, AllPairs-cons, AllZip, Contains, Contains-append_left, Contains-append_right}
use Rattle.rectangle_pack_sections.proofs.Std.{Ordering, Equal, IsTotalOrder, Equal-is, is_eq, is_at, eq_by_cmp, eq_by_cmp_equiv, tied_itself, keys_of, values_of, unwrap_or, map, list_any}
use Rattle.rectangle_pack_sections.proofs.Std.{and_parts, or_comm, or-true, append-nil, append_assoc, list_any_at, MatchBool, inl, inr, cases_order, length-map, get_or-map, IsPermutation}
use Rattle.std.proofs.lemmas.List.Sorted.{Contains-permutation}
use Rattle.std.specs.List.{list_all}
use Rattle.std.specs.Set.{is_member}
use Rattle.std.proofs.lemmas.Map.Keys.{IsDistinct-from_apart}
use Rattle.std.proofs.lemmas.Map.Made.{length-le_from_is_member}
use Rattle.rectangle_pack_sections.specs.Exclusions.{listed_at, is_listed, are_excluded}
use Rattle.rectangle_pack_bounds.specs.Arrangements.{Put, bins_used, different}
use Rattle.rectangle_pack.specs.Needed.{entries, are_two_excluded, joins, AreTakenApart, AreGroupsApart}
use Rattle.rectangle_pack_sections.proofs.lemmas.groups.Excluded.{list_any-alike}
use Rattle.rectangle_pack_sections.proofs.lemmas.util.Maps.{lookup-equal, congr_right, is_at-back}
use Rattle.rectangle_pack_sections.proofs.lemmas.util.Lists.{AllPairs-head, AllPairs-tail}
use Rattle.rectangle_pack_sections.proofs.lemmas.util.Zips.{length-zip}
use Rattle.rectangle_pack.proofs.lemmas.bound.InBins.{AllPairs-alike}

module _ {K : Type 0} {cmp : K → K → Ordering} (o : IsTotalOrder cmp) where
  equal_of : (a b : K) → is_at (cmp a) b ≡ true → cmp a b ≡ Equal
  equal_of a b h = (Equal-is (cmp a b)).0 h

  -- what is among ids is among those that differ
  different_has : (q : K) (ids : List K) → is_member (eq_by_cmp cmp) ids q ≡ true → is_member (eq_by_cmp cmp) (different cmp ids) q ≡ true
  different_has q [] h = h
  different_has q (id ∷ ids) h = by (is_at (cmp q) id) refl (list_any (is_at (cmp id)) ids) refl h (different_has q ids)
    where
      by : (here : Bool) → is_at (cmp q) id ≡ here → (again : Bool) → list_any (is_at (cmp id)) ids ≡ again
          → (here || list_any (is_at (cmp q)) ids) ≡ true
          → (list_any (is_at (cmp q)) ids ≡ true → list_any (is_at (cmp q)) (different cmp ids) ≡ true)
          → list_any (is_at (cmp q)) (cond again (different cmp ids) (id ∷ different cmp ids)) ≡ true
      by true e true f some rest =
          let alike : list_any (is_at (cmp q)) ids ≡ list_any (is_at (cmp id)) ids =
          list_any-alike (is_at (cmp q)) (is_at (cmp id)) (λ z. ap is_eq (o.congr q id z (equal_of q id e))) ids in
          rest (alike ∙ f)
      by true e false f some rest = rw e refl
      by false e true f some rest = rest some
      by false e false f some rest = rw e (rest some)

  -- ids of which each is among others are as a whole
  all_among : (q : K) (ids others : List K) → All (λ id. list_any (is_at (cmp id)) others ≡ true) ids → list_any (is_at (cmp q)) ids ≡ true
      → list_any (is_at (cmp q)) others ≡ true
  all_among q [] others h some = absurd (let no : false ≡ true = some in cc)
  all_among q (id ∷ ids) others h some =
      let Among : K → Type 0 = λ x. list_any (is_at (cmp x)) others ≡ true in
      by (is_at (cmp q) id) refl some (All-head Among id ids h) (all_among q ids others (All-tail Among id ids h))
    where
      by : (here : Bool) → is_at (cmp q) id ≡ here → (here || list_any (is_at (cmp q)) ids) ≡ true → list_any (is_at (cmp id)) others ≡ true
          → (list_any (is_at (cmp q)) ids ≡ true → list_any (is_at (cmp q)) others ≡ true) → list_any (is_at (cmp q)) others ≡ true
      by true e any here rest =
          list_any-alike (is_at (cmp q)) (is_at (cmp id)) (λ z. ap is_eq (o.congr q id z (equal_of q id e))) others ∙ here
      by false e any here rest = rest any

  -- ids that differ in pairs, each among others, are at most as many as those of the others that differ
  pub as_many_differ : (ids others : List K) → AllPairs (λ a b. is_at (cmp a) b ≡ false) ids → All (λ id. list_any (is_at (cmp id)) others ≡ true) ids
      → length ids ≤ length (different cmp others)
  as_many_differ ids others apart among =
      length-le_from_is_member (eq_by_cmp_equiv o) ids (different cmp others) (IsDistinct-from_apart (eq_by_cmp cmp) ids apart)
      (λ q some. different_has q others (all_among q ids others among some))

module _ {K : Type 0} {cmp : K → K → Ordering} (o : IsTotalOrder cmp) (partners : List (K × List K)) where
  Two : K → K → Bool
  Two a b = are_two_excluded cmp partners a b

  -- two groups that are excluded are so in either order
  pub two-back : (a b : K) → are_two_excluded cmp partners a b ≡ are_two_excluded cmp partners b a
  two-back a b =
      ap (λ t. not t && are_excluded cmp partners a b) (is_at-back o a b)
      ∙ ap (λ t. not (is_at (cmp b) a) && t) (or_comm (is_listed cmp partners a b) (is_listed cmp partners b a))

  listed-equal : (a b x y : K) → cmp a x ≡ Equal → cmp b y ≡ Equal → is_listed cmp partners a b ≡ is_listed cmp partners x y
  listed-equal a b x y first second =
      list_any-alike (is_at (cmp b)) (is_at (cmp y)) (λ z. ap is_eq (o.congr b y z second)) (listed_at cmp partners a)
      ∙ ap (λ found. list_any (is_at (cmp y)) (unwrap_or found [])) (lookup-equal o a x first partners)

  -- and so are those that equal them
  pub two-equal : (a b x y : K) → cmp a x ≡ Equal → cmp b y ≡ Equal → are_two_excluded cmp partners a b ≡ are_two_excluded cmp partners x y
  two-equal a b x y first second =
      let same : is_at (cmp a) b ≡ is_at (cmp x) y = ap is_eq (o.congr a x b first ∙ congr_right o b y x second) in
      ap (λ t. not t && are_excluded cmp partners a b) same
      ∙ ap (λ t. not (is_at (cmp x) y) && t)
      (ap (λ t. t || is_listed cmp partners b a) (listed-equal a b x y first second)
      ∙ ap (λ t. is_listed cmp partners x y || t) (listed-equal b a y x second first))

  -- no group is two
  pub not_two : (a : K) → are_two_excluded cmp partners a a ≡ false
  not_two a = rw (tied_itself o a) refl

  -- names that are there, and exclude each other in pairs
  pub record AreGood (names taken : List K) : Type 0 where
    pub there : All (λ name. list_any (is_at (cmp name)) names ≡ true) taken
    pub pairs : AllPairs (λ a b. are_two_excluded cmp partners b a ≡ true) taken

  all_true : (name : K) (xs : List K) → list_all (are_two_excluded cmp partners name) xs ≡ true → All (λ x. are_two_excluded cmp partners name x ≡ true) xs
  all_true name [] h = All-nil (λ (x : K). are_two_excluded cmp partners name x ≡ true)
  all_true name (x ∷ xs) h =
      let parts = and_parts (are_two_excluded cmp partners name x) (list_all (are_two_excluded cmp partners name) xs) h in
      All-cons (λ (y : K). are_two_excluded cmp partners name y ≡ true) x xs parts.0 (all_true name xs parts.1)

  pairs-push : (name : K) (xs : List K) → AllPairs (λ a b. are_two_excluded cmp partners b a ≡ true) xs
      → All (λ x. are_two_excluded cmp partners name x ≡ true) xs → AllPairs (λ a b. are_two_excluded cmp partners b a ≡ true) (xs ++ name ∷ [])
  pairs-push name [] pairs h = λ i j d before within. absurd (omega arith)
  pairs-push name (x ∷ xs) pairs h =
      let R : K → K → Type 0 = λ a b. are_two_excluded cmp partners b a ≡ true in
      let P : K → Type 0 = λ y. are_two_excluded cmp partners name y ≡ true in
      AllPairs-cons R x (xs ++ name ∷ []) (All-push (R x) xs name (AllPairs-head R x xs pairs) (All-head P x xs h))
      (pairs-push name xs (AllPairs-tail R x xs pairs) (All-tail P x xs h))

  -- a name that joins good ones
  good-more : (names taken : List K) (name : K) → AreGood names taken → joins cmp partners names taken name ≡ true → AreGood names (taken ++ name ∷ [])
  good-more names taken name good joined =
      let parts = and_parts (list_any (is_at (cmp name)) names) (list_all (are_two_excluded cmp partners name) taken) joined in record {
        there = All-push (λ (x : K). list_any (is_at (cmp x)) names ≡ true) taken name good.there parts.0;
        pairs = pairs-push name taken good.pairs (all_true name taken parts.1);
      }

  -- those that are taken stay good
  taken_good : (names before candidates taken : List K) → AreTakenApart cmp partners names before candidates taken → AreGood names before
      → AreGood names (before ++ taken)
  taken_good names before [] taken h good = rw (h, append-nil before) good
  taken_good names before (name ∷ candidates) taken h good =
      by (joins cmp partners names before name) refl h (λ later. taken_good names (before ++ name ∷ []) candidates later)
      (λ rest. taken_good names before candidates taken rest good)
    where
      by : (b : Bool) → joins cmp partners names before name ≡ b
          → MatchBool b ((later : List K) × (taken ≡ name ∷ later) × AreTakenApart cmp partners names (before ++ name ∷ []) candidates later)
          (AreTakenApart cmp partners names before candidates taken)
          → ((later : List K) → AreTakenApart cmp partners names (before ++ name ∷ []) candidates later → AreGood names (before ++ name ∷ [])
          → AreGood names ((before ++ name ∷ []) ++ later))
          → (AreTakenApart cmp partners names before candidates taken → AreGood names (before ++ taken)) → AreGood names (before ++ taken)
      by true e (later, is, rest) joined left =
          rw is (subst (λ (l : List K). AreGood names l) (append_assoc before (name ∷ []) later) (joined later rest (good-more names before name good e)))
      by false e rest joined left = left rest

  in_middle : (before after : List K) (x : K) → list_any (is_at (cmp x)) (before ++ x ∷ after) ≡ true
  in_middle [] after x = rw (tied_itself o x) refl
  in_middle (y ∷ before) after x = ap (λ t. is_at (cmp x) y || t) (in_middle before after x) ∙ or-true (is_at (cmp x) y)

  -- groups that are apart are groups of these names, and exclude each other in pairs
  pub apart_good : (names apart : List K) → AreGroupsApart cmp partners names apart → AreGood names apart
  apart_good [] apart none =
      rw none (record { there = λ k d within. absurd (omega arith); pairs = λ i j d before within. absurd (omega arith) })
  apart_good (name ∷ names) apart (first, others, most, taken, is) =
      let all : List K = name ∷ names in
      let there : list_any (is_at (cmp first)) all ≡ true =
      ap (list_any (is_at (cmp first))) most.names_are ∙ in_middle most.before most.after first in
      rw is (taken_good all (first ∷ []) (listed_at cmp partners first) others taken (record {
        there = All-cons (λ (x : K). list_any (is_at (cmp x)) all ≡ true) first [] there (All-nil (λ (x : K). list_any (is_at (cmp x)) all ≡ true));
        pairs = λ i j d before within. absurd (omega arith);
      }))

module _ {Id B K : Type 0} {cmp : K → K → Ordering} (o : IsTotalOrder cmp) {bin_cmp : B → B → Ordering} (bin_o : IsTotalOrder bin_cmp)
    (partners : List (K × List K)) (groups : List (K × List Id)) where
  -- each group that is there has an entry
  entry_of : (name : K) (gs : List (K × List Id)) → All (λ ids. 0 < length ids) (values_of gs) → list_any (is_at (cmp name)) (keys_of gs) ≡ true
      → (entry : K × Id) × Contains (entries gs) entry × (is_at (cmp name) entry.0 ≡ true)
  entry_of name [] some there = absurd (let no : false ≡ true = there in cc)
  entry_of name (g ∷ gs) some there =
      by (is_at (cmp name) g.0) refl there (entry_of name gs (All-tail (λ (ids : List Id). 0 < length ids) g.1 (values_of gs) some))
    where
      Found : Type 0
      Found = (entry : K × Id) × Contains (entries (g ∷ gs)) entry × (is_at (cmp name) entry.0 ≡ true)

      here : (ids : List Id) → 0 < length ids → g.1 ≡ ids → is_at (cmp name) g.0 ≡ true → Found
      here [] some is e = absurd (omega (arith, some))
      here (id ∷ ids) some is e =
          let front : Contains (map (λ i. (g.0, i)) g.1) (g.0, id) = rw is (0, omega arith, refl) in
          ((g.0, id), Contains-append_left (map (λ i. (g.0, i)) g.1) (entries gs) (g.0, id) front, e)

      by : (b : Bool) → is_at (cmp name) g.0 ≡ b → (b || list_any (is_at (cmp name)) (keys_of gs)) ≡ true
          → (list_any (is_at (cmp name)) (keys_of gs) ≡ true → (entry : K × Id) × Contains (entries gs) entry × (is_at (cmp name) entry.0 ≡ true)) → Found
      by true e any rest = here g.1 (All-head (λ (ids : List Id). 0 < length ids) g.1 (values_of gs) some) refl e
      by false e any rest =
          let (entry, has, at) = rest any in
          (entry, Contains-append_right (map (λ i. (g.0, i)) g.1) (entries gs) entry has, at)

  module _ (puts : List (Put (K × Id) B)) (each_once : IsPermutation (entries groups) (map (λ put. put.of) puts))
      (excluded_apart : AllPairs (λ a b. are_two_excluded cmp partners a.of.0 b.of.0 ≡ true → is_at (bin_cmp a.bin) b.bin ≡ false) puts)
      (some : All (λ ids. 0 < length ids) (values_of groups)) where
    -- a bin with a box of a group of this name
    abbrev HasBin : K → B → Type 0
    HasBin name bin =
        (k : ℕ) × (put : Put (K × Id) B) × (k < length puts) × (put ≡ get_or puts k put) × (is_at (cmp name) put.of.0 ≡ true) × (put.bin ≡ bin)

    bin_of : (name : K) → list_any (is_at (cmp name)) (keys_of groups) ≡ true → (bin : B) × HasBin name bin
    bin_of name there =
        let (entry, has, at) = entry_of name groups some there in
        let (k, within, is) = Contains-permutation (entries groups) (map (λ put. put.of) puts) entry each_once has in
        let long : k < length puts = rw (length-map puts (λ (put : Put (K × Id) B). put.of)) at within in
        (first_put k long entry is at)
      where
        first_put : (k : ℕ) → k < length puts → (entry : K × Id) → get_or (map (λ put. put.of) puts) k entry ≡ entry → is_at (cmp name) entry.0 ≡ true
            → (bin : B) × HasBin name bin
        first_put k long entry is at = by puts refl
          where
            by : (ps : List (Put (K × Id) B)) → puts ≡ ps → (bin : B) × HasBin name bin
            by [] e = absurd (omega (arith, long, ap length e))
            by (p ∷ ps) e =
                let put : Put (K × Id) B = get_or puts k p in
                let of_is : put.of ≡ entry = sym (get_or-map (λ (q : Put (K × Id) B). q.of) puts k p entry long) ∙ is in
                (put.bin, (k, put, long, get_or_default puts k p put long, rw of_is at, refl))

    bins_of_names : (names : List K) → All (λ name. list_any (is_at (cmp name)) (keys_of groups) ≡ true) names
        → (bins : List B) × AllZip HasBin names bins
    bins_of_names [] h = ([], tt)
    bins_of_names (name ∷ names) h =
        let There : K → Type 0 = λ x. list_any (is_at (cmp x)) (keys_of groups) ≡ true in
        let (bin, has) = bin_of name (All-head There name names h) in
        let (bins, rest) = bins_of_names names (All-tail There name names h) in
        (bin ∷ bins, (has, rest))

    -- puts of two groups that are excluded are in different bins
    bins_differ : (x y : K) (v w : B) → HasBin x v → HasBin y w → are_two_excluded cmp partners y x ≡ true → is_at (bin_cmp v) w ≡ false
    bins_differ x y v w (i, p, i_in, p_is, p_at, p_bin) (j, q, j_in, q_is, q_at, q_bin) two =
        let equal : (a b : K) → is_at (cmp a) b ≡ true → cmp a b ≡ Equal = λ a b h. (Equal-is (cmp a b)).0 h in
        let pq : are_two_excluded cmp partners p.of.0 q.of.0 ≡ true =
        sym (two-equal o partners x y p.of.0 q.of.0 (equal x p.of.0 p_at) (equal y q.of.0 q_at)) ∙ two-back o partners x y ∙ two in
        rw (← p_bin, ← q_bin)
        (elim (cases_order i j) [
          | inl same ↦
              let one : p ≡ q = p_is ∙ ap (λ k. get_or puts k p) same ∙ get_or_default puts j p q j_in ∙ sym q_is in
              absurd (let no : true ≡ false = sym pq ∙ ap (λ r. are_two_excluded cmp partners r.of.0 q.of.0) one ∙ not_two o partners q.of.0 in cc)
          | inr apart ↦ elim apart [
            | inl before ↦
                let at : get_or puts j p ≡ q = get_or_default puts j p q j_in ∙ sym q_is in
                let Differ : Put (K × Id) B → Put (K × Id) B → Type 0 = λ a b.
                are_two_excluded cmp partners a.of.0 b.of.0 ≡ true → is_at (bin_cmp a.bin) b.bin ≡ false in
                let both : Differ p q = subst (λ a. Differ a q) (sym p_is) (subst (λ b. Differ (get_or puts i p) b) at (excluded_apart i j p before j_in)) in
                both pq
            | inr after ↦
                let at : get_or puts i q ≡ p = get_or_default puts i q p i_in ∙ sym p_is in
                let Differ : Put (K × Id) B → Put (K × Id) B → Type 0 = λ a b.
                are_two_excluded cmp partners a.of.0 b.of.0 ≡ true → is_at (bin_cmp a.bin) b.bin ≡ false in
                let both : Differ q p = subst (λ a. Differ a p) (sym q_is) (subst (λ b. Differ (get_or puts j q) b) at (excluded_apart j i q after i_in)) in
                is_at-back bin_o p.bin q.bin ∙ both (two-back o partners q.of.0 p.of.0 ∙ pq)
          ]
        ])

    -- a bin with a box is among those that are used
    bin_used : (name : K) (bin : B) → HasBin name bin → list_any (is_at (bin_cmp bin)) (map (λ put. put.bin) puts) ≡ true
    bin_used name bin (k, put, within, is, at, in_bin) =
        let f : Put (K × Id) B → B = λ p. p.bin in
        let long : k < length (map f puts) = rw (length-map puts f) within in
        let there : get_or (map f puts) k bin ≡ bin = get_or-map f puts k put bin within ∙ ap f (sym is) ∙ in_bin in
        list_any_at (is_at (bin_cmp bin)) (map f puts) k bin long (rw there (ap is_eq (tied_itself bin_o bin)))

    used_along : (names : List K) (bins : List B) → AllZip HasBin names bins
        → All (λ bin. list_any (is_at (bin_cmp bin)) (map (λ put. put.bin) puts) ≡ true) bins
    used_along [] [] z = All-nil (λ (bin : B). list_any (is_at (bin_cmp bin)) (map (λ put. put.bin) puts) ≡ true)
    used_along [] (bin ∷ bins) z = absurd z
    used_along (name ∷ names) [] z = absurd z
    used_along (name ∷ names) (bin ∷ bins) z =
        All-cons (λ (b : B). list_any (is_at (bin_cmp b)) (map (λ put. put.bin) puts) ≡ true) bin bins (bin_used name bin z.0) (used_along names bins z.1)

    -- so the groups that are apart need as many bins
    pub apart_used : (apart : List K) → AreGroupsApart cmp partners (keys_of groups) apart → length apart ≤ bins_used bin_cmp puts
    apart_used apart h =
        let good = apart_good o partners (keys_of groups) apart h in
        let (bins, zipped) = bins_of_names apart good.there in
        let differ : AllPairs (λ v w. is_at (bin_cmp v) w ≡ false) bins =
        AllPairs-alike HasBin (λ a b. are_two_excluded cmp partners b a ≡ true) (λ v w. is_at (bin_cmp v) w ≡ false)
        (λ x y v w xv yw two. bins_differ x y v w xv yw two) apart bins zipped good.pairs in
        omega (arith, length-zip HasBin apart bins zipped, as_many_differ bin_o bins (map (λ put. put.bin) puts) differ (used_along apart bins zipped))
