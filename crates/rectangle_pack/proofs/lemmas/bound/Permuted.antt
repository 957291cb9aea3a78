-- The parts of a list in another order.
use Rattle.rectangle_pack_sections.proofs.Std.{◌≡◌, ℕ, ◌+◌, ◌-◌, ◌<◌, Bool, true, false, List, [], ◌∷◌, ◌++◌, length, take, drop, set, get_or, refl, sym, ap, ◌∙◌, arith}
use Rattle.rectangle_pack_sections.proofs.Std.{append_assoc, length-append, IsPermutation, IsPermutation-trans, IsPermutation-refl, IsPermutation-append_left}
use Rattle.rectangle_pack_sections.proofs.Std.{IsPermutation-append_right, IsPermutation-append_comm, take-append-drop, length-drop, length-take-le, get_or-drop, set-get_or}
use Rattle.std.proofs.Common.{flat_map, swap, ltb}
use Rattle.std.proofs.lemmas.Bool.{ltb-true, ltb-false}
use Rattle.std.proofs.lemmas.List.{drop_more, set_at, set_comm}
use Rattle.std.proofs.lemmas.List.Concat.{flat_map-append}
use Rattle.std.proofs.lemmas.List.Edits.{swap_is}
use Rattle.std.proofs.lemmas.List.Sorted.{IsPermutation-keeps}

-- of four parts the first and the third in each other's place
three_parts : {B : Type 0} (p q r t : List B) → IsPermutation (p ++ (q ++ (r ++ t))) (r ++ (q ++ (p ++ t)))
three_parts p q r t =
    let one : IsPermutation (p ++ (q ++ r)) ((q ++ r) ++ p) = IsPermutation-append_comm p (q ++ r) in
    let two : IsPermutation ((q ++ r) ++ p) ((r ++ q) ++ p) = IsPermutation-append_left p _ _ (IsPermutation-append_comm q r) in
    let both = IsPermutation-append_left t _ _ (IsPermutation-trans _ _ _ one two) in
    rw (append_assoc p (q ++ r) t, append_assoc q r t) at (rw (append_assoc (r ++ q) p t, append_assoc r q (p ++ t)) at both)

-- the parts of a list with two elements in each other's place
flat_map-swap_less : {X B : Type 0} (f : X → List B) (l : List X) (i j : ℕ) (d : X) → i < j → j < length l
    → IsPermutation (flat_map f l) (flat_map f (swap l i j))
flat_map-swap_less f l i j d a b =
    let x = get_or l i d in
    let y = get_or l j d in
    let front = take i l in
    let r = drop (i + 1) l in
    let long_front : length front ≡ i = length-take-le i l (omega (arith, a, b)) in
    let whole : l ≡ front ++ x ∷ r = sym (rw (sym (drop_more l i d (omega (arith, a, b)))) (take-append-drop i l)) in
    let long_r : length r ≡ length l - (i + 1) = length-drop (i + 1) l in
    let m = take (j - i - 1) r in
    let back = drop (j - i) r in
    let in_r : j - i - 1 < length r = omega (arith, a, b, long_r) in
    let there : i + 1 + (j - i - 1) ≡ j = omega (arith, a) in
    let at_j : get_or r (j - i - 1) d ≡ y = rw (get_or-drop (i + 1) l (j - i - 1) d, there) refl in
    let long_m : length m ≡ j - i - 1 = length-take-le (j - i - 1) r (omega (arith, in_r)) in
    let past : j - i - 1 + 1 ≡ j - i = omega (arith, a) in
    let r_is : r ≡ m ++ y ∷ back = sym (rw (drop_more r (j - i - 1) d in_r, at_j, past) at (take-append-drop (j - i - 1) r)) in
    let once : set l i y ≡ (front ++ y ∷ m) ++ y ∷ back =
    ap (λ v. set v i y) whole ∙ set_at front x r y i long_front ∙ ap (λ v. front ++ y ∷ v) r_is ∙ sym (append_assoc front (y ∷ m) (y ∷ back)) in
    let long_y : length (front ++ y ∷ m) ≡ j = omega (arith, length-append front (y ∷ m), long_front, long_m, a) in
    let twice : set (set l i y) j x ≡ (front ++ y ∷ m) ++ x ∷ back =
    ap (λ v. set v j x) once ∙ set_at (front ++ y ∷ m) y back x j long_y in
    let swapped : swap l i j ≡ (front ++ y ∷ m) ++ x ∷ back = sym (swap_is l i j d (omega (arith, a, b)) b) ∙ twice in
    let old : flat_map f l ≡ flat_map f front ++ (f x ++ (flat_map f m ++ (f y ++ flat_map f back))) =
    ap (flat_map f) (whole ∙ ap (λ v. front ++ x ∷ v) r_is) ∙ flat_map-append f front (x ∷ m ++ y ∷ back)
    ∙ ap (λ v. flat_map f front ++ (f x ++ v)) (flat_map-append f m (y ∷ back)) in
    let new : flat_map f (swap l i j) ≡ flat_map f front ++ (f y ++ (flat_map f m ++ (f x ++ flat_map f back))) =
    ap (flat_map f) swapped ∙ flat_map-append f (front ++ y ∷ m) (x ∷ back)
    ∙ ap (λ v. v ++ (f x ++ flat_map f back)) (flat_map-append f front (y ∷ m))
    ∙ append_assoc (flat_map f front) (f y ++ flat_map f m) (f x ++ flat_map f back)
    ∙ ap (λ v. flat_map f front ++ v) (append_assoc (f y) (flat_map f m) (f x ++ flat_map f back)) in
    rw (old, new) (IsPermutation-append_right (flat_map f front) _ _ (three_parts (f x) (flat_map f m) (f y) (flat_map f back)))

flat_map-swap : {X B : Type 0} (f : X → List B) (l : List X) (i j : ℕ) → i < length l → j < length l
    → IsPermutation (flat_map f l) (flat_map f (swap l i j))
flat_map-swap f [] i j a b = absurd (omega (arith, a))
flat_map-swap {X} f (d ∷ ls) i j a b = by (ltb i j) refl
  where
    l : List X
    l = d ∷ ls

    not_before : ltb i j ≡ false → (v : Bool) → ltb j i ≡ v → IsPermutation (flat_map f l) (flat_map f (swap l i j))
    not_before e true after =
        let less = ltb-true _ _ after in
        let same : swap l j i ≡ swap l i j = sym (swap_is l j i d b a) ∙ set_comm l j i _ _ (λ z. absurd (omega (arith, z, less))) ∙ swap_is l i j d a b in
        rw (sym same) (flat_map-swap_less f l j i d less a)
    not_before e false other =
        let same : i ≡ j = omega (arith, ltb-false _ _ e, ltb-false _ _ other) in
        let still : swap l i j ≡ l = rw same (sym (swap_is l j j d b b) ∙ rw (set-get_or l j d) (set-get_or l j d)) in
        rw still (IsPermutation-refl _)

    by : (v : Bool) → ltb i j ≡ v → IsPermutation (flat_map f l) (flat_map f (swap l i j))
    by true e = flat_map-swap_less f l i j d (ltb-true _ _ e) b
    by false e = not_before e (ltb j i) refl

-- the parts of a list in another order are the parts of it in that order
pub IsPermutation-flat_map : {X B : Type 0} (f : X → List B) (xs ys : List X) → IsPermutation xs ys → IsPermutation (flat_map f xs) (flat_map f ys)
IsPermutation-flat_map f xs ys moved =
    IsPermutation-keeps xs (λ l. IsPermutation (flat_map f xs) (flat_map f l)) (IsPermutation-refl _)
    (λ l i j a b h. IsPermutation-trans _ _ _ h (flat_map-swap f l i j a b)) ys moved
