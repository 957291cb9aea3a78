-- Parts of lists, and pairs of their elements.
use Rattle.rectangle_pack_sections.proofs.Std.{◌≡◌, List, [], ◌∷◌, ◌++◌, get_or, arith, subst, All, All-append, All-cons, All-head, All-nil, All-tail, suc}
use Rattle.rectangle_pack_sections.proofs.Std.{AllPairs, AllPairs-cons, zero, Bool, true, filter, inl, inr, cases_Bool, both_ways}

-- the parts of two joined lists
pub All-front : {X : Type 0} (P : X → Type 0) (xs ys : List X) → All P (xs ++ ys) → All P xs
All-front P [] ys h = All-nil P
All-front P (x ∷ xs) ys h = All-cons P x xs (All-head P x (xs ++ ys) h) (All-front P xs ys (All-tail P x (xs ++ ys) h))

pub All-back : {X : Type 0} (P : X → Type 0) (xs ys : List X) → All P (xs ++ ys) → All P ys
All-back P [] ys h = h
All-back P (x ∷ xs) ys h = All-back P xs ys (All-tail P x (xs ++ ys) h)

-- and an element in the middle
pub All-middle : {X : Type 0} (P : X → Type 0) (xs before after : List X) (x : X) → xs ≡ before ++ x ∷ after → All P xs → P x
All-middle P xs before after x e h = All-head P x after (All-back P before (x ∷ after) (subst (All P) e h))

-- and the elements beside it
pub All-without : {X : Type 0} (P : X → Type 0) (before : List X) (x : X) (after : List X) → All P (before ++ x ∷ after) → All P (before ++ after)
All-without P before x after h = All-append P before after (All-front P before (x ∷ after) h) (All-tail P x after (All-back P before (x ∷ after) h))

pub AllPairs-head : {X : Type 0} (R : X → X → Type 0) (x : X) (xs : List X) → AllPairs R (x ∷ xs) → All (R x) xs
AllPairs-head R x xs h k d within = h zero (suc k) d (omega arith) (omega arith)

pub AllPairs-tail : {X : Type 0} (R : X → X → Type 0) (x : X) (xs : List X) → AllPairs R (x ∷ xs) → AllPairs R xs
AllPairs-tail R x xs h i j d below within = h (suc i) (suc j) d (omega arith) (omega arith)

pub AllPairs-append : {X : Type 0} (R : X → X → Type 0) (xs ys : List X) → AllPairs R xs → AllPairs R ys
    → All (λ y. All (λ x. R x y) xs) ys → AllPairs R (xs ++ ys)
AllPairs-append R [] ys p q across = q
AllPairs-append R (x ∷ xs) ys p q across =
    AllPairs-cons R x (xs ++ ys)
    (All-append (R x) xs ys (AllPairs-head R x xs p) (λ k d lt. All-head (λ x. R x (get_or ys k d)) x xs (across k d lt)))
    (AllPairs-append R xs ys (AllPairs-tail R x xs p) q (λ k d lt. All-tail (λ x. R x (get_or ys k d)) x xs (across k d lt)))

-- what holds of each that is kept holds of each that passes
pub All-unfilter : {X : Type 0} (test : X → Bool) (P : X → Type 0) (xs : List X) → All P (filter test xs) → All (λ x. test x ≡ true → P x) xs
All-unfilter test P [] h = All-nil (λ x. test x ≡ true → P x)
All-unfilter test P (x ∷ xs) h = elim (cases_Bool (test x)) [
  | inl on ↦
      let kept = rw on at h in
      All-cons (λ x. test x ≡ true → P x) x xs (λ e. All-head P x (filter test xs) kept)
      (All-unfilter test P xs (All-tail P x (filter test xs) kept))
  | inr off ↦
      All-cons (λ x. test x ≡ true → P x) x xs (λ e. absurd (both_ways _ off e)) (All-unfilter test P xs (rw off at h))
]
