-- Boxes that stand in a session: each is inside its bin, and no two in one bin share a cell.
use Rattle.rectangle_pack_c.proofs.Std.{◌≡◌, ◌≢◌, ◌⊎◌, inl, inr, ℕ, ◌+◌, Bool, true, false, cond, List, [], ◌∷◌, ◌++◌, refl, ap, sym, ◌∙◌, subst, arith}
use Rattle.rectangle_pack_c.proofs.Std.{Option, Some, None, AllPairs, Contains, map, filter, slice_get, option_map, nat_cmp, lookup, is_at}
use Rattle.rectangle_pack_c.proofs.Std.{All-contains, AllPairs-cons, All-nil, Contains-append_right, slice_get-map}
use Rattle.rectangle_pack_sections.proofs.lemmas.util.Lists.{AllPairs-head, AllPairs-tail}
use Rattle.rectangle_pack_covers.proofs.lemmas.Covers.{CoverBin-apart}
use Rattle.rectangle_pack.specs.declared.pack.Placement.{Placement}
use Rattle.rectangle_pack.specs.declared.session.command.Outstanding.{Outstanding}
use Rattle.rectangle_pack.specs.Bins.{Bin, new_bin, whole}
use Rattle.rectangle_pack.specs.Boxes.{Cuboid, IsInside, AreApart}
use Rattle.rectangle_pack.specs.Session.{State, IsSession, boxes_of, outstanding_in}
use Rattle.rectangle_pack_packing.specs.KeptBins.{KeepsEachBin}
use Rattle.rectangle_pack_c.specs.declared.RpBin.{RpBin}
use Rattle.rectangle_pack_c.specs.Arguments.{bin_size, new_bins}
use Rattle.rectangle_pack_c.proofs.CollectedLemmas.{lookup_numbered}
use Rattle.rectangle_pack_c.proofs.OrderLemmas.{nat_same}
use Rattle.rectangle_pack_c.proofs.WholeLemmas.{none_in, in_cases, in_kept, pairs_none}

-- pairs of the right part
pairs_right : {X : Type 0} (R : X → X → Type 0) (xs ys : List X) → AllPairs R (xs ++ ys) → AllPairs R ys
pairs_right R [] ys h = h
pairs_right R (x ∷ xs) ys h = pairs_right R xs ys (AllPairs-tail R x (xs ++ ys) h)

-- two entries that are kept are one, or a pair in one order or the other
pairs_kept : {X Y : Type 0} (R : Y → Y → Type 0) (f : X → Y) (test : X → Bool) (xs : List X) → AllPairs R (map f (filter test xs))
    → (x y : X) → Contains xs x → Contains xs y → test x ≡ true → test y ≡ true → (x ≡ y) ⊎ (R (f x) (f y) ⊎ R (f y) (f x))
pairs_kept R f test [] h x y in_x in_y is_x is_y = absurd (none_in x in_x)
pairs_kept {X} R f test (z ∷ zs) h x y in_x in_y is_x is_y =
    by (test z) refl h (in_cases z zs x in_x) (in_cases z zs y in_y) (λ rest a b. pairs_kept R f test zs rest x y a b is_x is_y)
  where
    first : AllPairs R (f z ∷ map f (filter test zs)) → (w : X) → Contains zs w → test w ≡ true → R (f z) (f w)
    first pairs w inside is =
        All-contains (R (f z)) (map f (filter test zs)) (f w) (AllPairs-head R (f z) (map f (filter test zs)) pairs) (in_kept f test zs w inside is)

    by : (t : Bool) → test z ≡ t → AllPairs R (map f (cond t (z ∷ filter test zs) (filter test zs))) → (z ≡ x) ⊎ Contains zs x → (z ≡ y) ⊎ Contains zs y
        → (AllPairs R (map f (filter test zs)) → Contains zs x → Contains zs y → (x ≡ y) ⊎ (R (f x) (f y) ⊎ R (f y) (f x)))
        → (x ≡ y) ⊎ (R (f x) (f y) ⊎ R (f y) (f x))
    by t is pairs (inl e) (inl g) ih = inl (sym e ∙ g)
    by true is pairs (inl e) (inr b) ih = inr (inl (subst (λ w. R (f w) (f y)) e (first pairs y b is_y)))
    by true is pairs (inr a) (inl g) ih = inr (inr (subst (λ w. R (f w) (f x)) g (first pairs x a is_x)))
    by true is pairs (inr a) (inr b) ih = ih (AllPairs-tail R (f z) (map f (filter test zs)) pairs) a b
    by false is pairs (inl e) (inr b) ih = absurd (let passes : test z ≡ true = rw e is_x in cc)
    by false is pairs (inr a) (inl g) ih = absurd (let passes : test z ≡ true = rw g is_y in cc)
    by false is pairs (inr a) (inr b) ih = ih pairs a b

at_home : (a b : ℕ) → a ≡ b → is_at (nat_cmp a) b ≡ true
at_home a b e = subst (λ m. is_at (nat_cmp a) m ≡ true) e (nat_same a)

module _ (state : State ℕ ℕ) (always : IsSession nat_cmp state) where
  abbrev place : Outstanding ℕ ℕ → Cuboid
  place r = r.location

  -- a box is inside its bin
  pub stand_inside : (r : Outstanding ℕ ℕ) → Contains state.outstanding r → (bin : Bin) → lookup (is_at (nat_cmp r.bin)) state.bins ≡ Some bin
      → IsInside bin.size r.location
  stand_inside r inside bin is =
      let here = λ (o : Outstanding ℕ ℕ). is_at (nat_cmp o.bin) r.bin in
      All-contains (IsInside bin.size) (boxes_of nat_cmp state.outstanding r.bin bin) r.location (always.covered r.bin bin is).inside
      (Contains-append_right bin.sections (outstanding_in nat_cmp state.outstanding r.bin) r.location
      (in_kept place here state.outstanding r inside (at_home r.bin r.bin refl)))

  -- two boxes in one bin share no cell
  pub stand_apart : (r s : Outstanding ℕ ℕ) → Contains state.outstanding r → Contains state.outstanding s → r.number ≢ s.number → r.bin ≡ s.bin
      → (bin : Bin) → lookup (is_at (nat_cmp r.bin)) state.bins ≡ Some bin → AreApart r.location s.location
  stand_apart r s in_r in_s differ same bin is =
      let here = λ (o : Outstanding ℕ ℕ). is_at (nat_cmp o.bin) r.bin in
      by (pairs_kept AreApart place here state.outstanding
      (pairs_right AreApart bin.sections (outstanding_in nat_cmp state.outstanding r.bin)
      (CoverBin-apart (boxes_of nat_cmp state.outstanding r.bin bin) bin.size (always.covered r.bin bin is)))
      r s in_r in_s (at_home r.bin r.bin refl) (at_home s.bin r.bin (sym same)))
    where
      by : (r ≡ s) ⊎ (AreApart r.location s.location ⊎ AreApart s.location r.location) → AreApart r.location s.location
      by (inl e) = absurd (differ (ap (λ (o : Outstanding ℕ ℕ). o.number) e))
      by (inr (inl apart)) = apart
      by (inr (inr apart)) = record { none = λ c a b. apart.none c b a }

-- the bins of a session that began with these, and whose cells are kept
module _ (bins : List RpBin) (placements : List (Placement ℕ ℕ)) (new : List (ℕ × Bin)) (keeps : KeepsEachBin nat_cmp (new_bins bins) placements new) where
  pub record IsKeptAs (k : ℕ) (after : Bin) : Type 0 where
    pub bin : RpBin
    pub at : slice_get bins k ≡ Some bin
    pub size : after.size ≡ bin_size bin

  -- a bin that is there is one of them, in its size
  pub kept_bin : (k : ℕ) (after : Bin) → lookup (is_at (nat_cmp k)) new ≡ Some after → IsKeptAs k after
  kept_bin k after is = by (slice_get bins k) refl
    where
      begun : RpBin → Bin
      begun b = new_bin (bin_size b)

      was : lookup (is_at (nat_cmp k)) (new_bins bins) ≡ option_map begun (slice_get bins k)
      was = lookup_numbered 0 (map begun bins) k k (let e : k ≡ 0 + k = omega arith in e) ∙ slice_get-map begun bins k

      by : (o : Option RpBin) → slice_get bins k ≡ o → IsKeptAs k after
      by None at =
          let none : lookup (is_at (nat_cmp k)) new ≡ None = keeps.absent k (was ∙ ap (option_map begun) at) in
          absurd (let both : Some after ≡ None = sym is ∙ none in cc)
      by (Some b) at =
          let (found, there, size, cells) = keeps.each k (begun b) (was ∙ ap (option_map begun) at)
          (AllPairs-cons AreApart (whole (bin_size b)) [] (All-nil (AreApart (whole (bin_size b)))) (pairs_none AreApart)) in
          let both : Some found ≡ Some after = sym there ∙ is in
          let same : found ≡ after = cc in
          record { bin = b; at = at; size = ap (λ (x : Bin). x.size) (sym same) ∙ size }
