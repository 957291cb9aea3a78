-- Lists of which some items at the front are gone.
use Rattle.rectangle_pack_sections.proofs.Std.{◌≡◌, ℕ, ◌+◌, ◌-◌, ◌<◌, ◌≤◌, List, [], ◌++◌, length, take, drop, suc, remove, ap, sym, ◌∙◌, arith, length-take, length-drop, length-append}
use Rattle.rectangle_pack_sections.proofs.Std.{drop_at, drop-drop, append_assoc, append-nil, Vec, vec_len}
use Rattle.std.proofs.lemmas.List.{take-take, drop-take, drop-append-le, with_items_is, take_rest, nil_from_length}
use Rattle.std.specs.Vec.{with_items}

module _ {X : Type 0} where
  -- once the last item of a stretch at the beginning is moved to the front, what follows it is the list without it
  remove-turned : (xs : List X) (i : ℕ) → i < length xs
      → drop 1 ((drop i (take (suc i) xs) ++ take i (take (suc i) xs)) ++ drop (suc i) xs) ≡ remove xs i
  remove-turned xs i within =
      let front = drop i (take (suc i) xs) in
      let back = take i (take (suc i) xs) in
      let one : length front ≡ 1 = omega (arith, length-drop i (take (suc i) xs), length-take (suc i) xs, within) in
      ap (drop 1) (append_assoc front back (drop (suc i) xs)) ∙ drop_at front (back ++ drop (suc i) xs) 1 one
      ∙ ap (λ ys. ys ++ drop (suc i) xs) (take-take i (suc i) xs (omega arith))

  -- the same with the numbers and lists that a rotation names
  pub rest-turned : (xs ys : List X) (i k n : ℕ) → i < length xs → k ≡ suc i → n ≡ i → ys ≡ drop n (take k xs) ++ take n (take k xs)
      → drop 1 (ys ++ drop k xs) ≡ remove xs i
  rest-turned xs ys i k n within k_is n_is turned = rw (turned, k_is, n_is) (remove-turned xs i within)

  -- an item behind those that are gone is removed: so it is of what is left
  pub remove-behind : (all : List X) (gone i : ℕ) → gone ≤ length all → drop gone (remove all (gone + i)) ≡ remove (drop gone all) i
  remove-behind all gone i within =
      let same : suc (gone + i) ≡ gone + suc i = omega arith in
      drop-append-le gone (take (gone + i) all) (drop (suc (gone + i)) all) (omega (arith, length-take (gone + i) all, within))
      ∙ ap (λ xs. xs ++ drop (suc (gone + i)) all) (drop-take gone i all)
      ∙ ap (λ xs. take i (drop gone all) ++ xs) (ap (λ n. drop n all) same ∙ sym (drop-drop (suc i) gone all))

  -- a list of which the part behind those that are gone was written anew
  abbrev pub written : List X → ℕ → List X → List X
  written xs gone part = take gone xs ++ (part ++ drop (length xs - gone) (drop gone xs))

  length-written : (xs : List X) (gone : ℕ) (part : List X) → gone ≤ length xs → length part ≡ length (take (length xs - gone) (drop gone xs))
      → length (written xs gone part) ≡ length xs
  length-written xs gone part within long =
      let end = drop (length xs - gone) (drop gone xs) in
      omega (
        arith,
        length-append (take gone xs) (part ++ end),
        length-append part end,
        length-take gone xs,
        length-take (length xs - gone) (drop gone xs),
        length-drop gone xs,
        length-drop (length xs - gone) (drop gone xs),
        within,
        long,
      )

  -- one more is gone: the first of that part
  rest-written : (xs : List X) (gone : ℕ) (part : List X) → gone ≤ length xs → drop (gone + 1) (written xs gone part) ≡ drop 1 part
  rest-written xs gone part within =
      let end = drop (length xs - gone) (drop gone xs) in
      let none : end ≡ [] = nil_from_length end (omega (arith, length-drop (length xs - gone) (drop gone xs), length-drop gone xs)) in
      let front : length (take gone xs) ≡ gone = omega (arith, length-take gone xs, within) in
      sym (drop-drop 1 gone (written xs gone part)) ∙ ap (drop 1) (drop_at (take gone xs) (part ++ end) gone front ∙ ap (λ zs. part ++ zs) none ∙ append-nil part)

  -- an item near the front is moved behind those that are gone, and is one of them: so it is out of what is left
  pub remove-turned_behind : {A : Type 0} (all : Vec X A) (xs part : List X) (gone i : ℕ) → xs ≡ all.items → gone ≤ length all.items
      → length part ≡ length (take (length xs - gone) (drop gone xs)) → drop 1 part ≡ remove (take (length xs - gone) (drop gone xs)) i
      → drop (gone + 1) (with_items all (written xs gone part)).items ≡ remove (drop gone all.items) i
  remove-turned_behind all xs part gone i same within long turned =
      let inside : gone ≤ length xs = rw same within in
      let whole : length (written xs gone part) ≡ vec_len all = length-written xs gone part inside long ∙ ap length same ∙ sym all.ok.0 in
      ap (drop (gone + 1)) (with_items_is all (written xs gone part) whole) ∙ rest-written xs gone part inside ∙ turned
      ∙ ap (λ ys. remove ys i) (take_rest xs gone ∙ ap (drop gone) same)
