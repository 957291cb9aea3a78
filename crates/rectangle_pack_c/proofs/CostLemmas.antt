-- What bins cost, as far as a loop has come.
use Rattle.rectangle_pack_c.proofs.Std.{◌≡◌, ◌≢◌, ℕ, ◌+◌, ◌<◌, Bool, true, false, cond, List, [], ◌∷◌, ◌++◌, refl, ap, sym, ◌∙◌, subst, length}
use Rattle.rectangle_pack_c.proofs.Std.{Option, Some, None, option_map, not, map, take, get_or, lookup, is_at, nat_cmp, exact_unsigned, Equal-is, map-append}
use Rattle.std.proofs.Common.{Bor}
use Rattle.std.specs.Option.{is_some}
use Rattle.std.proofs.lemmas.List.{take_more}
use Rattle.rectangle_pack_c.specs.declared.searching.RpCost.{RpCost}
use Rattle.rectangle_pack_c.specs.Searching.{AreCostsOf, cost_pair}
use Rattle.rectangle_pack_c.proofs.OrderLemmas.{nat_same, nat_other}

-- a look-up in a list with one more entry behind it: what was found, or the entry, if it has the key
abbrev with_last : {X : Type 0} → ℕ → ℕ × X → Option X → Option X
with_last k e (Some v) = Some v
with_last k e None = cond (is_at (nat_cmp k) e.0) (Some e.1) None

lookup_last : {X : Type 0} (k : ℕ) (xs : List (ℕ × X)) (e : ℕ × X) → lookup (is_at (nat_cmp k)) (xs ++ e ∷ []) ≡ with_last k e (lookup (is_at (nat_cmp k)) xs)
lookup_last k [] e = refl
lookup_last {X} k (x ∷ xs) e = by (is_at (nat_cmp k) x.0) (lookup_last k xs e)
  where
    by : (t : Bool) → lookup (is_at (nat_cmp k)) (xs ++ e ∷ []) ≡ with_last k e (lookup (is_at (nat_cmp k)) xs)
        → cond t (Some x.1) (lookup (is_at (nat_cmp k)) (xs ++ e ∷ [])) ≡ with_last k e (cond t (Some x.1) (lookup (is_at (nat_cmp k)) xs))
    by true ih = refl
    by false ih = ih

-- what a look-up says of whether there is an entry
pub none_there : (found : Option (Bor ℕ)) (o : Option ℕ) (t : Bool) → option_map (λ x. x.now) found ≡ o → is_some found ≡ not t → t ≡ true → o ≡ None
none_there None o t is test e = sym is
none_there (Some x) o t is test e = absurd (let no : true ≡ not true = rw e at test in cc)

pub some_there : (found : Option (Bor ℕ)) (o : Option ℕ) (t : Bool) → option_map (λ x. x.now) found ≡ o → is_some found ≡ not t → t ≡ false
    → (v : ℕ) × (o ≡ Some v)
some_there None o t is test e = absurd (let no : false ≡ not false = rw e at test in cc)
some_there (Some x) o t is test e = (x.now, sym is)

module _ (listed : List RpCost) (i : ℕ) (c : RpCost) (low : i < length listed) (is : get_or listed i c ≡ c) (old : List (ℕ × ℕ))
    (h : AreCostsOf (take i listed) old) where
  next : (k : ℕ) → lookup (is_at (nat_cmp k)) (map cost_pair (take (i + 1) listed)) ≡ with_last k (cost_pair c) (lookup (is_at (nat_cmp k)) old)
  next k =
      let longer : take (i + 1) listed ≡ take i listed ++ c ∷ [] = take_more listed i c low ∙ ap (λ x. take i listed ++ x ∷ []) is in
      ap (λ xs. lookup (is_at (nat_cmp k)) (map cost_pair xs)) longer
      ∙ ap (lookup (is_at (nat_cmp k))) (map-append cost_pair (take i listed) (c ∷ []))
      ∙ lookup_last k (map cost_pair (take i listed)) (cost_pair c) ∙ ap (with_last k (cost_pair c)) (sym (h k))

  -- the bin of the entry is not there yet
  pub costs_more : lookup (is_at (nat_cmp c.bin)) old ≡ None → (new : List (ℕ × ℕ))
      → ((k : ℕ) → lookup (is_at (nat_cmp k)) new ≡ cond (is_at (nat_cmp c.bin) k) (Some c.cost) (lookup (is_at (nat_cmp k)) old))
      → AreCostsOf (take (i + 1) listed) new
  costs_more none new updates k = by (is_at (nat_cmp c.bin) k) refl ∙ sym (next k)
    where
      by : (t : Bool) → is_at (nat_cmp c.bin) k ≡ t → lookup (is_at (nat_cmp k)) new ≡ with_last k (cost_pair c) (lookup (is_at (nat_cmp k)) old)
      by true e =
          let same : c.bin ≡ k = exact_unsigned c.bin k ((Equal-is _).0 e) in
          let absent : lookup (is_at (nat_cmp k)) old ≡ None = subst (λ m. lookup (is_at (nat_cmp m)) old ≡ None) same none in
          let yes : is_at (nat_cmp k) c.bin ≡ true = subst (λ m. is_at (nat_cmp m) c.bin ≡ true) same (nat_same c.bin) in
          updates k ∙ ap (λ t. cond t (Some c.cost) (lookup (is_at (nat_cmp k)) old)) e
          ∙ sym (ap (with_last k (cost_pair c)) absent ∙ ap (λ t. cond t (Some c.cost) None) yes)
      by false e = updates k ∙ ap (λ t. cond t (Some c.cost) (lookup (is_at (nat_cmp k)) old)) e ∙ other (lookup (is_at (nat_cmp k)) old)
        where
          differ : k ≢ c.bin
          differ same = let yes : is_at (nat_cmp c.bin) k ≡ true = rw same (nat_same c.bin) in cc

          other : (o : Option ℕ) → o ≡ with_last k (cost_pair c) o
          other (Some v) = refl
          other None = sym (ap (λ t. cond t (Some c.cost) None) (nat_other k c.bin differ))

  -- it is there already
  pub costs_same : (v : ℕ) → lookup (is_at (nat_cmp c.bin)) old ≡ Some v → AreCostsOf (take (i + 1) listed) old
  costs_same v there k = by (is_at (nat_cmp k) c.bin) refl (lookup (is_at (nat_cmp k)) old) refl ∙ sym (next k)
    where
      by : (t : Bool) → is_at (nat_cmp k) c.bin ≡ t → (o : Option ℕ) → lookup (is_at (nat_cmp k)) old ≡ o
          → lookup (is_at (nat_cmp k)) old ≡ with_last k (cost_pair c) (lookup (is_at (nat_cmp k)) old)
      by t e (Some w) is = is ∙ sym (ap (with_last k (cost_pair c)) is)
      by true e None is = let same : k ≡ c.bin = exact_unsigned k c.bin ((Equal-is _).0 e) in
          let absent : lookup (is_at (nat_cmp c.bin)) old ≡ None = subst (λ m. lookup (is_at (nat_cmp m)) old ≡ None) same is in
          absurd (let both : Some v ≡ None = sym there ∙ absent in cc)
      by false e None is = is ∙ sym (ap (with_last k (cost_pair c)) is ∙ ap (λ t. cond t (Some c.cost) None) e)
