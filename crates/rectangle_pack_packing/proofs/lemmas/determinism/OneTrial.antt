-- Where the closures are functions and the comparison is a total preorder on the cuts, a step and a trial have one result.
use Rattle.rectangle_pack_sections.proofs.Std.{◌≡◌, ◌≢◌, ℕ, List, [], ◌∷◌, ◌++◌, refl, sym, ◌∙◌, ap, subst, arith, ◌⊎◌, inl, inr, All, Contains, map, filter}
use Rattle.rectangle_pack_sections.proofs.Std.{AllZip, AllZip-map, zip, Ordering, Greater, All-head, All-tail, All-contains, All-weaker}
use Rattle.rectangle_pack_sections.specs.Closures.{Answers}
use Rattle.rectangle_pack_sections.specs.Boxes.{Size, Cuboid, IsPartOf, Holds, has_cells}
use Rattle.rectangle_pack_sections.specs.Bins.{Bin}
use Rattle.rectangle_pack_sections.specs.Cuts.{placed, cuts, sizes_of}
use Rattle.rectangle_pack_sections.specs.Choice.{IsFunction, IsTotalPreorderOn, MayChoose, IsAllowedCut}
use Rattle.rectangle_pack_lists.specs.Steps.{AreRanked, AreLeft, IsStep, IsDone, IsStuck}
use Rattle.rectangle_pack_packing.specs.Results.{MayBeCut, MayBeRated, ClosuresDecide}
use Rattle.rectangle_pack_sections.proofs.lemmas.util.Lists.{All-middle}
use Rattle.rectangle_pack_sections.proofs.lemmas.cuts.Pieces.{chosen_part}
use Rattle.rectangle_pack_sections.proofs.lemmas.cuts.BestOfAPass.{Contains-middle}
use Rattle.rectangle_pack_lists.proofs.lemmas.trial.FallingRates.{ranked_once}
use Rattle.rectangle_pack_sections.proofs.lemmas.cuts.Axes.{IsPartOf-trans}
use Rattle.rectangle_pack_lists.proofs.lemmas.trial.Steps.{IsStep-keeps}
use Rattle.rectangle_pack_sections.proofs.lemmas.util.Zips.{AllZip-beside, AllZip-weaker}

-- a list is split once at the last element of a kind
pub record SameSplit {X : Type 0} (b1 : List X) (x1 : X) (a1 b2 : List X) (x2 : X) (a2 : List X) : Type 0 where
  pub before : b1 ≡ b2
  pub at : x1 ≡ x2
  pub after : a1 ≡ a2

pub split_last : {X : Type 0} (P : X → Type 0) (b1 : List X) (x1 : X) (a1 b2 : List X) (x2 : X) (a2 : List X) → b1 ++ x1 ∷ a1 ≡ b2 ++ x2 ∷ a2
    → P x1 → P x2 → All (λ x. ¬ P x) a1 → All (λ x. ¬ P x) a2 → SameSplit b1 x1 a1 b2 x2 a2
split_last P [] x1 a1 [] x2 a2 e p q n m = record { before = refl; at = cc; after = cc }
split_last P [] x1 a1 (y ∷ b2) x2 a2 e p q n m = absurd (All-middle (λ x. ¬ P x) a1 b2 a2 x2 (cc) n q)
split_last P (y ∷ b1) x1 a1 [] x2 a2 e p q n m = absurd (All-middle (λ x. ¬ P x) a2 b1 a1 x1 (cc) m p)
split_last P (y ∷ b1) x1 a1 (z ∷ b2) x2 a2 e p q n m =
    let s = split_last P b1 x1 a1 b2 x2 a2 (cc) p q n m in
    record { before = (let h : y ≡ z = cc in let t = s.before in cc); at = s.at; after = s.after }

-- and has one first element of a kind
pub split_first : {X : Type 0} (P : X → Type 0) (b1 : List X) (x1 : X) (a1 b2 : List X) (x2 : X) (a2 : List X) → b1 ++ x1 ∷ a1 ≡ b2 ++ x2 ∷ a2
    → All P b1 → All P b2 → ¬ P x1 → ¬ P x2 → x1 ≡ x2
split_first P [] x1 a1 [] x2 a2 e p q n m = cc
split_first P [] x1 a1 (y ∷ b2) x2 a2 e p q n m = absurd (n (subst P (let h : y ≡ x1 = cc in h) (All-head P y b2 q)))
split_first P (y ∷ b1) x1 a1 [] x2 a2 e p q n m = absurd (m (subst P (let h : y ≡ x2 = cc in h) (All-head P y b1 p)))
split_first P (y ∷ b1) x1 a1 (z ∷ b2) x2 a2 e p q n m = split_first P b1 x1 a1 b2 x2 a2 (cc) (All-tail P y b1 p) (All-tail P z b2 q) n m

-- of two elements of a list one is after the other, or they are one
either_after : {X : Type 0} (P Q : X → Type 0) (b1 : List X) (x1 : X) (a1 b2 : List X) (x2 : X) (a2 : List X) → b1 ++ x1 ∷ a1 ≡ b2 ++ x2 ∷ a2
    → All P a1 → All Q a2 → (x1 ≡ x2) ⊎ (P x2 ⊎ Q x1)
either_after P Q [] x1 a1 [] x2 a2 e p q = inl cc
either_after P Q [] x1 a1 (y ∷ b2) x2 a2 e p q = inr (inl (All-middle P a1 b2 a2 x2 (cc) p))
either_after P Q (y ∷ b1) x1 a1 [] x2 a2 e p q = inr (inr (All-middle Q a2 b1 a1 x1 (cc) q))
either_after P Q (y ∷ b1) x1 a1 (z ∷ b2) x2 a2 e p q = either_after P Q b1 x1 a1 b2 x2 a2 (cc) p q

-- a total preorder has one greatest element that is chosen
pub one_choice : {A : Type 0} (R : A → A → Ordering → Type 0) (xs : List A) (c d : A) (compare : A → A → Ordering) → IsTotalPreorderOn R xs compare
    → MayChoose R xs c → MayChoose R xs d → c ≡ d
one_choice {A} R xs c d compare o p q =
    let e : p.before ++ c ∷ p.after ≡ q.before ++ d ∷ q.after = sym p.listed ∙ q.listed in
    let has_c = subst (λ (ys : List A). Contains ys c) (sym p.listed) (Contains-middle p.before c p.after) in
    let has_d = subst (λ (ys : List A). Contains ys d) (sym q.listed) (Contains-middle q.before d q.after) in
    let by : (c ≡ d) ⊎ (R c d Greater ⊎ R d c Greater) = either_after (λ x. R c x Greater)
    (λ x. R d x Greater) p.before c p.after q.before d q.after e p.beats_later q.beats_later in
    elim by [
      | inl same ↦ same
      | inr (inl beats) ↦ absurd
          (All-contains (λ other. compare other d ≢ Greater) xs c (q.greatest compare o) has_c (sym (o.only c d Greater has_c has_d beats)))
      | inr (inr beats) ↦ absurd
          (All-contains (λ other. compare other c ≢ Greater) xs d (p.greatest compare o) has_d (sym (o.only d c Greater has_d has_c beats)))
    ]

-- what two steps, or two trials, from one list share
pub record Same {X : Type 0} (placed1 : X) (left1 : List Cuboid) (placed2 : X) (left2 : List Cuboid) : Type 0 where
  pub placed : placed1 ≡ placed2
  pub left : left1 ≡ left2

-- a function has one list of answers on sizes that are met
pub one_rates : {IsMet : Size → Type 0} {MayRate : Size → ℕ → Type 0} (f : IsFunction (λ size answer. IsMet size × MayRate size answer)) (cut : List Cuboid)
    (rates : List ℕ) → All (λ b. IsMet b.whd) cut → AllZip (λ piece rate. MayRate piece.whd rate) cut rates → rates ≡ map (λ b. f.rate b.whd) cut
one_rates {IsMet} {MayRate} f cut rates u h = AllZip-map (λ b. f.rate b.whd) cut rates
    (AllZip-weaker (λ b r. IsMet b.whd × MayRate b.whd r) (λ b r. r ≡ f.rate b.whd) (λ b r k. f.only b.whd r k) cut rates
    (AllZip-beside (λ b. IsMet b.whd) (λ b r. MayRate b.whd r) cut rates u h))

-- so one list of pieces is left of a cut
pub one_left : {IsMet : Size → Type 0} {MayRate : Size → ℕ → Type 0} (f : IsFunction (λ size answer. IsMet size × MayRate size answer))
    (cut left1 left2 : List Cuboid) → All (λ b. IsMet b.whd) cut → AreLeft MayRate cut left1 → AreLeft MayRate cut left2 → left1 ≡ left2
one_left {IsMet} {MayRate} f cut left1 left2 u p q =
    let e : p.rates ≡ q.rates = one_rates {IsMet = IsMet} {MayRate = MayRate} f cut p.rates u p.rated
    ∙ sym (one_rates {IsMet = IsMet} {MayRate = MayRate} f cut q.rates u q.rated) in
    let same : p.ranked ≡ q.ranked = ranked_once (zip p.rates cut) p.ranked q.ranked p.are_ranked
    (subst (λ (rates : List ℕ). AreRanked (zip rates cut) q.ranked) (sym e) q.are_ranked) in
    p.are ∙ ap (λ (ranked : List (ℕ × Cuboid)). filter has_cells (map (λ p. p.1) ranked)) same ∙ sym q.are

-- a part of what may be cut may be cut
pub MayBeCut-part : (bins : List Bin) (b s : Cuboid) → IsPartOf b s → MayBeCut bins s → MayBeCut bins b
MayBeCut-part bins b s part (i, bin, lt, at, (j, free, below, is, inside)) = (i, bin, lt, at, (j, free, below, is, IsPartOf-trans b s free part inside))

-- and its size may be rated
pub MayBeRated-part : (boxes : List Size) (bins : List Bin) (b : Cuboid) → MayBeCut bins b → MayBeRated boxes bins b.whd
MayBeRated-part boxes bins b (i, bin, lt, at, (j, free, below, is, part)) =
    inr (i, bin, lt, at, inr (j, free, below, is, record { wide = omega arith; high = omega arith; deep = omega arith }))

module _ (boxes : List Size) (bins : List Bin) (may : Answers) (decide : ClosuresDecide boxes bins may) where
  one_cut : (s1 s2 : Cuboid) (m : Size) (cut1 cut2 : List Cuboid) → s1 ≡ s2 → MayBeCut bins s1 → Contains boxes m → Holds s1 m
      → IsAllowedCut may.prefer s1 m cut1 → IsAllowedCut may.prefer s2 m cut2 → cut1 ≡ cut2
  one_cut s1 s2 m cut1 cut2 e met box held p q =
      one_choice (λ a b. may.prefer (sizes_of a) (sizes_of b)) (cuts s1 m) cut1 cut2 (decide.prefers.compare s1 m)
      (decide.prefers.preorder s1 m (met, box) held) p (subst (λ (s : Cuboid). IsAllowedCut may.prefer s m cut2) (sym e) q)

  pub one_step : (sections : List Cuboid) (m : Size) (l1 l2 : Cuboid) (n1 n2 : List Cuboid) (t1 t2 : ℕ) → All (MayBeCut bins) sections → Contains boxes m
      → IsStep may sections m l1 n1 t1 → IsStep may sections m l2 n2 t2 → Same l1 n1 l2 n2
  one_step sections m l1 l2 n1 n2 t1 t2 u box p q =
      let s = split_last (λ s. Holds s m) p.before p.section p.after q.before q.section q.after (sym p.splits ∙ q.splits) p.held q.held p.newest q.newest in
      let met : MayBeCut bins p.section = All-middle (MayBeCut bins) sections p.before p.after p.section p.splits u in
      let c = one_cut p.section q.section m p.cut q.cut s.at met box p.held p.allowed q.allowed in
      let rated = All-weaker (λ b. IsPartOf b p.section) (λ b. MayBeRated boxes bins b.whd)
      (λ b part. MayBeRated-part boxes bins b (MayBeCut-part bins b p.section part met)) p.cut (chosen_part p.section m p.cut p.held p.allowed) in
      let left = one_left {IsMet = MayBeRated boxes bins} {MayRate = may.rate} decide.rates p.cut p.left q.left rated p.are_left
      (subst (λ (cut : List Cuboid). AreLeft may.rate cut q.left) (sym c) q.are_left) in
      record {
        placed = p.location_is ∙ ap (λ s. placed s m) s.at ∙ sym q.location_is;
        left = (let a = p.next_is in let b = q.next_is in let e = s.before in let g = s.after in cc);
      }

  pub one_trial : (sections : List Cuboid) (ms : List Size) (ls1 ls2 last1 last2 : List Cuboid) (t1 t2 : ℕ)
      → All (MayBeCut bins) sections → All (Contains boxes) ms
      → IsDone may sections ms ls1 last1 t1 → IsDone may sections ms ls2 last2 t2 → Same ls1 last1 ls2 last2
  one_trial sections [] ls1 ls2 last1 last2 t1 t2 u among p q = record { placed = p.0 ∙ sym q.0; left = p.1 ∙ sym q.1 }
  one_trial sections (m ∷ ms) [] ls2 last1 last2 t1 t2 u among p q = absurd p
  one_trial sections (m ∷ ms) (l1 ∷ ls1) [] last1 last2 t1 t2 u among p q = absurd q
  one_trial sections (m ∷ ms) (l1 ∷ ls1) (l2 ∷ ls2) last1 last2 t1 t2 u among (n1, i1, j1, s1, d1, e1) (n2, i2, j2, s2, d2, e2) =
      let s = one_step sections m l1 l2 n1 n2 i1 i2 u (All-head (Contains boxes) m ms among) s1 s2 in
      let t = one_trial n1 ms ls1 ls2 last1 last2 j1 j2 (IsStep-keeps may (MayBeCut bins) sections m l1 n1 i1 (MayBeCut-part bins) s1 u)
      (All-tail (Contains boxes) m ms among) d1 (subst (λ (n : List Cuboid). IsDone may n ms ls2 last2 j2) (sym s.left) d2) in
      record { placed = (let a = s.placed in let b = t.placed in cc); left = t.left }

  -- a trial is not both done and stuck
  pub not_done_and_stuck : (sections : List Cuboid) (ms : List Size) (ls last : List Cuboid) (t1 t2 : ℕ) → All (MayBeCut bins) sections
      → All (Contains boxes) ms → IsDone may sections ms ls last t1 → IsStuck may sections ms t2 → ⊥
  not_done_and_stuck sections [] ls last t1 t2 u among d s = s
  not_done_and_stuck sections (m ∷ ms) [] last t1 t2 u among d s = d
  not_done_and_stuck sections (m ∷ ms) (l ∷ ls) last t1 t2 u among (n, i, j, step, d, e) (inl (none, count)) =
      All-middle (λ s. ¬ Holds s m) sections step.before step.after step.section step.splits none step.held
  not_done_and_stuck sections (m ∷ ms) (l ∷ ls) last t1 t2 u among (n, i, j, step, d, e) (inr (l2, n2, i2, j2, step2, s, e2)) =
      let same = one_step sections m l l2 n n2 i i2 u (All-head (Contains boxes) m ms among) step step2 in
      not_done_and_stuck n ms ls last j j2 (IsStep-keeps may (MayBeCut bins) sections m l n i (MayBeCut-part bins) step u)
      (All-tail (Contains boxes) m ms among) d (subst (λ (x : List Cuboid). IsStuck may x ms j2) (sym same.left) s)
