-- One pass over a list that keeps a best.
use Rattle.rectangle_pack_sections.proofs.Std.{◌≡◌, ◌≢◌, List, [], ◌∷◌, ◌++◌, refl, append_assoc, inl, inr, length, length-append, arith, not, true, false}
use Rattle.rectangle_pack_sections.proofs.Std.{get_or, Contains, ordering_reverse, ordering_index, Contains-append_left, All-contains_itself, All-nil, All-push}
use Rattle.rectangle_pack_sections.proofs.Std.{◌==◌, get_or-append_seam, Ordering, Less, Greater}
use Rattle.rectangle_pack_sections.specs.Choice.{MayChoose, IsTotalPreorderOn}

-- an answer that is not Greater, as the code tests it
pub not_greater : (r : Ordering) → not (ordering_index r == 2) ≡ true → r ≢ Greater
not_greater r h is = let no_more : false ≡ true = rw is at h in cc

pub is_greater : (r : Ordering) → not (ordering_index r == 2) ≡ false → r ≡ Greater
is_greater Greater h = refl
is_greater _ h = cc

pub Contains-middle : {X : Type 0} (xs : List X) (y : X) (ys : List X) → Contains (xs ++ y ∷ ys) y
Contains-middle xs y ys = (length xs, simp length-append (omega arith), get_or-append_seam xs y ys y)

module _ {A : Type 0} (R : A → A → Ordering → Type 0) where
  preorder-left : (xs ys : List A) (compare : A → A → Ordering) → IsTotalPreorderOn R (xs ++ ys) compare → IsTotalPreorderOn R xs compare
  preorder-left xs ys compare o = record {
    only = λ x y r i j. o.only x y r (Contains-append_left xs ys x i) (Contains-append_left xs ys y j);
    swapped = λ x y i j. o.swapped x y (Contains-append_left xs ys x i) (Contains-append_left xs ys y j);
    transitive = λ x y z i j k. o.transitive x y z (Contains-append_left xs ys x i) (Contains-append_left xs ys y j) (Contains-append_left xs ys z k);
  }

  not_over_itself : (r : Ordering) → r ≡ ordering_reverse r → r ≢ Greater
  not_over_itself r h is = let turned : Greater ≡ Less = rw is at h in cc

  -- a pass over one element ends there
  pub pass_start : (x : A) → MayChoose R (x ∷ []) x
  pass_start x = record {
    before = [];
    after = [];
    listed = refl;
    beats_later = All-nil _;
    replaces = inl refl;
    greatest = λ compare o. All-push (λ other. compare other x ≢ Greater) [] x (All-nil _)
        (not_over_itself (compare x x) (o.swapped x x (Contains-middle [] x []) (Contains-middle [] x [])));
  }

  -- the best stays where it beats the next
  pub pass_keeps : (xs : List A) (best next : A) → MayChoose R xs best → R best next Greater → MayChoose R (xs ++ next ∷ []) best
  pass_keeps xs best next p greater = record {
    before = p.before;
    after = p.after ++ next ∷ [];
    listed = rw p.listed (append_assoc p.before (best ∷ p.after) (next ∷ []));
    beats_later = All-push (λ x. R best x Greater) p.after next p.beats_later greater;
    replaces = p.replaces;
    greatest = λ compare o. All-push (λ other. compare other best ≢ Greater) xs next (p.greatest compare (preorder-left xs (next ∷ []) compare o))
        (let here : Contains xs best = rw p.listed (Contains-middle p.before best p.after) in
        let i = Contains-append_left xs (next ∷ []) best here in
        let j = Contains-middle xs next [] in
        let a = o.only best next Greater i j greater in
        let b = o.swapped best next i j in
        rw (b, ← a) (λ e. cc));
  }

  -- else the next becomes the best
  pub pass_moves : (xs : List A) (best next : A) (r : Ordering) → MayChoose R xs best → R best next r → r ≢ Greater → MayChoose R (xs ++ next ∷ []) next
  pass_moves xs best next r p answer is_not = record {
    before = xs;
    after = [];
    listed = refl;
    beats_later = All-nil _;
    replaces = inr (let m : Contains xs best = rw p.listed (Contains-middle p.before best p.after) in (m.0, best, m.1, m.2, (r, answer, is_not)));
    greatest = λ compare o.
        (let here : Contains xs best = rw p.listed (Contains-middle p.before best p.after) in
        let i = Contains-append_left xs (next ∷ []) best here in
        let j = Contains-middle xs next [] in
        let under : compare best next ≢ Greater = rw (← o.only best next r i j answer) is_not in
        let below = p.greatest compare (preorder-left xs (next ∷ []) compare o) in
        All-push (λ other. compare other next ≢ Greater) xs next
        (λ k d lt.
        let there = Contains-append_left xs (next ∷ []) (get_or xs k d) (All-contains_itself xs k d lt) in
        o.transitive (get_or xs k d) best next there i j (below k d lt) under)
        (not_over_itself (compare next next) (o.swapped next next j j)));
  }
