-- Look-ups and writes in maps that agree.
use Rattle.rectangle_pack_sections.proofs.Std.{◌≡◌, Bool, true, false, cond, List, [], ◌∷◌, refl, ◌∙◌, sym, ap, Option, Some, None}
use Rattle.rectangle_pack_sections.proofs.Std.{ordering_reverse, is_eq, Ordering, Less, Equal, Greater, IsTotalOrder}
use Rattle.rectangle_pack_sections.proofs.Std.{Equal-is, lookup, set_value, keys_of, is_at}
use Rattle.rectangle_pack_sections.specs.Alike.{AreMapsAlike}
use Rattle.rectangle_pack_sections.proofs.lemmas.util.Maps.{congr_right}
use Rattle.rectangle_pack_sections.proofs.Std.{All, IsStrictlySortedBy, tied_itself, lookup-none, none_below_head, sorted_tail, All-after_first, All-head}
use Rattle.rectangle_pack_sections.proofs.Std.{All-tail}

-- both are there with values that are alike, or none is
abbrev pub AreOptionsAlike : {X : Type 0} → (X → X → Type 0) → Option X → Option X → Type 0
AreOptionsAlike Alike None None = Unit {0}
AreOptionsAlike Alike None (Some y) = ⊥
AreOptionsAlike Alike (Some x) None = ⊥
AreOptionsAlike Alike (Some x) (Some y) = Alike x y

same_from_options : {X : Type 0} (a b : Option X) → AreOptionsAlike (λ x y. x ≡ y) a b → a ≡ b
same_from_options None None h = refl
same_from_options None (Some y) h = absurd h
same_from_options (Some x) None h = absurd h
same_from_options (Some x) (Some y) h = ap (λ x. Some x) h

-- what is alike to a value that is there, is there
pub found-alike : {X : Type 0} (Alike : X → X → Type 0) (x : X) (a b : Option X) → a ≡ Some x → AreOptionsAlike Alike a b → (y : X) × (b ≡ Some y) × Alike x y
found-alike Alike x None b found h = absurd cc
found-alike Alike x (Some z) None found h = absurd h
found-alike Alike x (Some z) (Some y) found h = let same : z ≡ x = cc in (y, refl, rw (← same) h)

same_test : {K : Type 0} {cmp : K → K → Ordering} → IsTotalOrder cmp → (x y e f : K) → cmp x y ≡ Equal → cmp e f ≡ Equal → is_eq (cmp x e) ≡ is_eq (cmp y f)
same_test o x y e f h k = ap is_eq (o.congr x y e h ∙ congr_right o e f y k)

module _ {K X : Type 0} {cmp : K → K → Ordering} (o : IsTotalOrder cmp) where
  -- look-ups in maps that agree find values that are alike
  pub lookup-alike : (Alike : X → X → Type 0) (x y : K) → cmp x y ≡ Equal → (es fs : List (K × X)) → AreMapsAlike cmp Alike es fs
      → AreOptionsAlike Alike (lookup (is_at (cmp x)) es) (lookup (is_at (cmp y)) fs)
  lookup-alike Alike x y h [] [] m = tt
  lookup-alike Alike x y h [] (f ∷ fs) m = absurd m
  lookup-alike Alike x y h (e ∷ es) [] m = absurd m
  lookup-alike Alike x y h (e ∷ es) (f ∷ fs) m = rw (same_test o x y e.0 f.0 h m.0.0) (at (is_eq (cmp y f.0)) (lookup-alike Alike x y h es fs m.1))
    where
      at : (b : Bool) → AreOptionsAlike Alike (lookup (is_at (cmp x)) es) (lookup (is_at (cmp y)) fs)
          → AreOptionsAlike Alike (cond b (Some e.1) (lookup (is_at (cmp x)) es)) (cond b (Some f.1) (lookup (is_at (cmp y)) fs))
      at true i = m.0.1
      at false i = i

  -- and the same values where they are the same
  pub lookup-same : (x y : K) → cmp x y ≡ Equal → (es fs : List (K × X)) → AreMapsAlike cmp (λ a b. a ≡ b) es fs
      → lookup (is_at (cmp x)) es ≡ lookup (is_at (cmp y)) fs
  lookup-same x y h es fs m = same_from_options _ _ (lookup-alike (λ a b. a ≡ b) x y h es fs m)

  -- maps agree after writes that are alike
  pub set_value-alike : (Alike : X → X → Type 0) (x y : K) (v w : X) → Alike v w → cmp x y ≡ Equal → (es fs : List (K × X)) → AreMapsAlike cmp Alike es fs
      → AreMapsAlike cmp Alike (set_value (is_at (cmp x)) es v) (set_value (is_at (cmp y)) fs w)
  set_value-alike Alike x y v w a h [] [] m = tt
  set_value-alike Alike x y v w a h [] (f ∷ fs) m = absurd m
  set_value-alike Alike x y v w a h (e ∷ es) [] m = absurd m
  set_value-alike Alike x y v w a h (e ∷ es) (f ∷ fs) m = rw (same_test o x y e.0 f.0 h m.0.0)
      (at (is_eq (cmp y f.0)) (set_value-alike Alike x y v w a h es fs m.1))
    where
      at : (b : Bool) → AreMapsAlike cmp Alike (set_value (is_at (cmp x)) es v) (set_value (is_at (cmp y)) fs w)
          → AreMapsAlike cmp Alike (cond b ((e.0, v) ∷ es) (e ∷ set_value (is_at (cmp x)) es v)) (cond b ((f.0, w) ∷ fs) (f ∷ set_value (is_at (cmp y)) fs w))
      at true i = ((m.0.0, a), m.1)
      at false i = (m.0, i)

module _ {K X : Type 0} (cmp : K → K → Ordering) (o : IsTotalOrder cmp) (Alike : X → X → Type 0) where
  -- a key that is not after the first is not among the others
  not_later : (q : K) (e : K × X) (es : List (K × X)) → IsStrictlySortedBy cmp (keys_of (e ∷ es)) → cmp q e.0 ≡ Equal → lookup (is_at (cmp q)) es ≡ None
  not_later q e es up same = none es (All-after_first cmp e.0 (keys_of es) up)
    where
      none : (fs : List (K × X)) → All (λ k. cmp e.0 k ≡ Less) (keys_of fs) → lookup (is_at (cmp q)) fs ≡ None
      none [] h = refl
      none (f ∷ fs) h = rw (
        o.congr q e.0 f.0 same,
        All-head
            (λ k. cmp e.0 k ≡ Less) f.0 (keys_of fs) h,
        none fs (All-tail (λ k. cmp e.0 k ≡ Less) f.0 (keys_of fs) h),
      ) refl

  absent : (q : K) (e : K × X) (es : List (K × X)) → IsStrictlySortedBy cmp (keys_of (e ∷ es)) → cmp q e.0 ≡ Less → lookup (is_at (cmp q)) (e ∷ es) ≡ None
  absent q e es up less = lookup-none (is_at (cmp q)) (e ∷ es) (none_below_head o q e es up less)

  found_first : (q : K) (e : K × X) (es : List (K × X)) → cmp q e.0 ≡ Equal → lookup (is_at (cmp q)) (e ∷ es) ≡ Some e.1
  found_first q e es same = rw same refl

  -- maps in which look-ups find values that are alike agree
  pub maps_alike : (xs ys : List (K × X)) → IsStrictlySortedBy cmp (keys_of xs) → IsStrictlySortedBy cmp (keys_of ys)
      → ((q : K) → AreOptionsAlike Alike (lookup (is_at (cmp q)) xs) (lookup (is_at (cmp q)) ys)) → AreMapsAlike cmp Alike xs ys
  maps_alike [] [] up down each = tt
  maps_alike [] (y ∷ ys) up down each = absurd (rw (found_first y.0 y ys (tied_itself o y.0)) at (each y.0))
  maps_alike (x ∷ xs) [] up down each = absurd (rw (found_first x.0 x xs (tied_itself o x.0)) at (each x.0))
  maps_alike (x ∷ xs) (y ∷ ys) up down each = by (cmp x.0 y.0) refl
      (λ h. maps_alike xs ys (sorted_tail cmp x.0 (keys_of xs) up) (sorted_tail cmp y.0 (keys_of ys) down) h)
    where
      by : (r : Ordering) → cmp x.0 y.0 ≡ r → (((q : K) → AreOptionsAlike Alike (lookup (is_at (cmp q)) xs) (lookup (is_at (cmp q)) ys))
          → AreMapsAlike cmp Alike xs ys) → AreMapsAlike cmp Alike (x ∷ xs) (y ∷ ys)
      by Less e rest = absurd (rw (found_first x.0 x xs (tied_itself o x.0), absent x.0 y ys down e) at (each x.0))
      by Greater e rest =
          let less : cmp y.0 x.0 ≡ Less = o.antisymm y.0 x.0 ∙ ap ordering_reverse e in
          absurd (rw (absent y.0 x xs up less, found_first y.0 y ys (tied_itself o y.0)) at (each y.0))
      by Equal e rest =
          let here : Alike x.1 y.1 = rw (found_first x.0 x xs (tied_itself o x.0), found_first x.0 y ys e) at (each x.0) in
          ((e, here), rest (λ q. later q (is_eq (cmp q x.0)) refl))
        where
          later : (q : K) (b : Bool) → is_eq (cmp q x.0) ≡ b → AreOptionsAlike Alike (lookup (is_at (cmp q)) xs) (lookup (is_at (cmp q)) ys)
          later q true hit =
              let same : cmp q x.0 ≡ Equal = (Equal-is _).0 hit in
              rw (not_later q x xs up same, not_later q y ys down (sym (congr_right o x.0 y.0 q e) ∙ same)) tt
          later q false miss =
              let other : is_eq (cmp q y.0) ≡ false = ap is_eq (sym (congr_right o x.0 y.0 q e)) ∙ miss in
              rw (miss, other) at (each q)
