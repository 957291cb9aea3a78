-- Orders of numbers and of groups, where equal is the same.
use Rattle.rectangle_pack_c.proofs.Std.{◌≡◌, ◌≢◌, ℕ, ◌<◌, Bool, true, false, refl, ap, sym, Ordering, Less, Equal, Greater, IsTotalOrder, Equal-is, nat_cmp_is}
use Rattle.rectangle_pack_c.proofs.Std.{nat_cmp, is_eq, nat_cmp_total, exact_unsigned}
use Rattle.rectangle_pack.specs.declared.grouped_rects_to_place.Group.{Group}
use Rattle.rectangle_pack.specs.declared.grouped_rects_to_place.Group.TheVariants.{Ungrouped, Grouped}
use Rattle.rectangle_pack_sections.proofs.lemmas.groups.GroupOrder.{groups_total}
use Rattle.rectangle_pack_c.specs.Collections.{group_order}

pub nat_greater : (a b : ℕ) → b < a → nat_cmp a b ≡ Greater
nat_greater a b h = sym (nat_cmp_is a b Greater h)

pub nat_same : (a : ℕ) → is_eq (nat_cmp a a) ≡ true
nat_same a = ap is_eq (sym (nat_cmp_is a a Equal refl))

pub nat_other : (a b : ℕ) → a ≢ b → is_eq (nat_cmp a b) ≡ false
nat_other a b h = by (nat_cmp a b) refl
  where
    by : (r : Ordering) → nat_cmp a b ≡ r → is_eq r ≡ false
    by Less e = refl
    by Equal e = absurd (h (exact_unsigned a b e))
    by Greater e = refl

pub group_order_total : IsTotalOrder group_order
group_order_total = groups_total group_order nat_cmp nat_cmp nat_cmp_total nat_cmp_total (λ a b. refl) (λ a b. refl) (λ a b. refl) (λ a b. refl)

-- groups that compare equal are the same
pub exact_group : (a b : Group ℕ ℕ) → is_eq (group_order a b) ≡ true → a ≡ b
exact_group (Ungrouped a) (Ungrouped b) e = ap (λ n. Ungrouped n) (exact_unsigned a b ((Equal-is _).0 e))
exact_group (Ungrouped a) (Grouped b) e = absurd cc
exact_group (Grouped a) (Ungrouped b) e = absurd cc
exact_group (Grouped a) (Grouped b) e = ap (λ n. Grouped n) (exact_unsigned a b ((Equal-is _).0 e))

pub group_same : (a : Group ℕ ℕ) → is_eq (group_order a a) ≡ true
group_same (Ungrouped a) = nat_same a
group_same (Grouped a) = nat_same a

pub group_swap : (a b : Group ℕ ℕ) → is_eq (group_order a b) ≡ is_eq (group_order b a)
group_swap a b = by (is_eq (group_order a b)) (is_eq (group_order b a)) refl refl
  where
    by : (s t : Bool) → is_eq (group_order a b) ≡ s → is_eq (group_order b a) ≡ t → s ≡ t
    by true true e f = refl
    by true false e f = absurd (let yes : is_eq (group_order b a) ≡ true = rw (exact_group a b e) (group_same b) in cc)
    by false true e f = absurd (let yes : is_eq (group_order a b) ≡ true = rw (exact_group b a f) (group_same a) in cc)
    by false false e f = refl
