-- The order of groups is total, and a claim on two groups follows from its cases.
use Rattle.rectangle_pack_sections.proofs.Std.{◌≡◌, refl, fun_ext, Ordering, Less, Equal, Greater, ordering_reverse, IsTotalOrder}
use Rattle.rectangle_pack_sections.specs.Groups.{order_of_groups}
use Rattle.rectangle_pack_sections.specs.declared.group.Group.{Group}
use Rattle.rectangle_pack_sections.specs.declared.group.Group.TheVariants.{Ungrouped, Grouped}

module _ {Id G : Type 0} (R : Group G Id → Group G Id → Ordering) (P : Id → Id → Ordering) (Q : G → G → Ordering) (p : IsTotalOrder P) (q : IsTotalOrder Q)
    (alone : (a b : Id) → R (Ungrouped a) (Ungrouped b) ≡ P a b) (before : (a : Id) (b : G) → R (Ungrouped a) (Grouped b) ≡ Less)
    (behind : (a : G) (b : Id) → R (Grouped a) (Ungrouped b) ≡ Greater) (named : (a b : G) → R (Grouped a) (Grouped b) ≡ Q a b) where
  antisymm : (x y : Group G Id) → R x y ≡ ordering_reverse (R y x)
  antisymm (Ungrouped a) (Ungrouped b) = rw (alone a b, alone b a) (p.antisymm a b)
  antisymm (Ungrouped a) (Grouped b) = rw (before a b, behind b a) refl
  antisymm (Grouped a) (Ungrouped b) = rw (behind a b, before b a) refl
  antisymm (Grouped a) (Grouped b) = rw (named a b, named b a) (q.antisymm a b)

  trans : (x y z : Group G Id) → R x y ≡ Less → R y z ≡ Less → R x z ≡ Less
  trans (Ungrouped a) (Ungrouped b) (Ungrouped c) h k = rw (alone a c) (p.trans a b c (rw (alone a b) at h) (rw (alone b c) at k))
  trans (Ungrouped a) (Ungrouped b) (Grouped c) h k = before a c
  trans (Ungrouped a) (Grouped b) (Ungrouped c) h k = absurd (let e = behind b c in cc)
  trans (Ungrouped a) (Grouped b) (Grouped c) h k = before a c
  trans (Grouped a) (Ungrouped b) z h k = absurd (let e = behind a b in cc)
  trans (Grouped a) (Grouped b) (Ungrouped c) h k = absurd (let e = behind b c in cc)
  trans (Grouped a) (Grouped b) (Grouped c) h k = rw (named a c) (q.trans a b c (rw (named a b) at h) (rw (named b c) at k))

  congr : (x y z : Group G Id) → R x y ≡ Equal → R x z ≡ R y z
  congr (Ungrouped a) (Ungrouped b) (Ungrouped c) h = rw (alone a c, alone b c) (p.congr a b c (rw (alone a b) at h))
  congr (Ungrouped a) (Ungrouped b) (Grouped c) h = rw (before a c, before b c) refl
  congr (Ungrouped a) (Grouped b) z h = absurd (let e = before a b in cc)
  congr (Grouped a) (Ungrouped b) z h = absurd (let e = behind a b in cc)
  congr (Grouped a) (Grouped b) (Ungrouped c) h = rw (behind a c, behind b c) refl
  congr (Grouped a) (Grouped b) (Grouped c) h = rw (named a c, named b c) (q.congr a b c (rw (named a b) at h))

  -- a total order of ids, before a total order of names, is a total order of groups
  pub groups_total : IsTotalOrder R
  groups_total = record { antisymm = antisymm; trans = trans; congr = congr }

-- what holds of two groups by the four cases
pub groups_by_variants : {Id G : Type 0} (P : Group G Id → Group G Id → Type 0)
    → ((a b : Id) → P (Ungrouped a) (Ungrouped b)) → ((a : Id) (b : G) → P (Ungrouped a) (Grouped b))
    → ((a : G) (b : Id) → P (Grouped a) (Ungrouped b)) → ((a b : G) → P (Grouped a) (Grouped b)) → (a b : Group G Id) → P a b
groups_by_variants P alone before behind named (Ungrouped a) (Ungrouped b) = alone a b
groups_by_variants P alone before behind named (Ungrouped a) (Grouped b) = before a b
groups_by_variants P alone before behind named (Grouped a) (Ungrouped b) = behind a b
groups_by_variants P alone before behind named (Grouped a) (Grouped b) = named a b

-- an order that compares groups as `order_of_groups` does is that order
pub same_order : {Id G : Type 0} (P : Id → Id → Ordering) (Q : G → G → Ordering) (R : Group G Id → Group G Id → Ordering)
    → ((a b : Id) → R (Ungrouped a) (Ungrouped b) ≡ P a b) → ((a : Id) (b : G) → R (Ungrouped a) (Grouped b) ≡ Less)
    → ((a : G) (b : Id) → R (Grouped a) (Ungrouped b) ≡ Greater) → ((a b : G) → R (Grouped a) (Grouped b) ≡ Q a b) → R ≡ order_of_groups P Q
same_order P Q R alone before behind named =
    fun_ext (λ a. fun_ext (λ b. groups_by_variants (λ x y. R x y ≡ order_of_groups P Q x y) alone before behind named a b))
