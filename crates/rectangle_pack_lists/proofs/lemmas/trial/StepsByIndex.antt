-- Steps by index, and the members of a trial one after another.
use Rattle.rectangle_pack_sections.proofs.Std.{◌≡◌, ℕ, suc, ◌+◌, ◌-◌, ◌<◌, List, [], ◌∷◌, ◌++◌, length, get_or, take, drop, arith, refl, ap, sym}
use Rattle.rectangle_pack_sections.proofs.Std.{subst, length-drop, add-one, inl, inr, All, remove, map, filter}
use Rattle.rectangle_pack_sections.proofs.Std.{AllWithin, HoldsAt, split_at, get_or-drop, take_more, ◌∙◌, Result, Ok, Err}
use Rattle.std.proofs.Common.{IsErr}
use Rattle.rectangle_pack_sections.specs.Closures.{Answers}
use Rattle.rectangle_pack_sections.specs.Boxes.{Size, Cuboid, Holds, has_cells}
use Rattle.rectangle_pack_sections.specs.Cuts.{placed}
use Rattle.rectangle_pack_sections.specs.Choice.{IsAllowedCut}
use Rattle.rectangle_pack_lists.specs.declared.trial.Trial.{Trial}
use Rattle.rectangle_pack_lists.specs.private.FreeLists.{IsTried}
use Rattle.rectangle_pack_lists.specs.Steps.{IsStep, IsDone, IsStuck, AreLeft, AreRanked}

All-from_within_end : {X : Type 0} (P : X → Type 0) (xs : List X) (low : ℕ) → AllWithin P xs low (length xs) → All P (drop low xs)
All-from_within_end P xs low h k d within =
    let n = length-drop low xs in
    subst P (sym (get_or-drop low xs k d)) (h (low + k) d (omega arith) (omega arith))

pub IsStep-at : (may : Answers) (sections : List Cuboid) (member : Size) (i : ℕ) (s : Cuboid)
    (cut left next : List Cuboid) → i < length sections → s ≡ get_or sections i s
    → HoldsAt (λ t. Holds t member) sections i
    → AllWithin (λ t. ¬ Holds t member) sections (i + 1) (length sections)
    → IsAllowedCut may.prefer s member cut → AreLeft may.rate cut left → next ≡ remove sections i ++ left
    → IsStep may sections member (placed s member) next (length sections - i)
IsStep-at may sections member i s cut left next within read held newest allowed are_left same = record {
  before = take i sections;
  section = s;
  after = drop (suc i) sections;
  splits = subst (λ (t : Cuboid). sections ≡ take i sections ++ t ∷ drop (suc i) sections) (sym read) (split_at sections i s within);
  held = subst (λ (t : Cuboid). Holds t member) (sym read) (held s);
  newest = subst (λ (n : ℕ). All (λ t. ¬ Holds t member) (drop n sections)) (add-one i) (All-from_within_end (λ t. ¬ Holds t member) sections (i + 1) newest);
  location_is = refl;
  cut = cut;
  allowed = allowed;
  left = left;
  are_left = are_left;
  next_is = same;
  tests_are = let n = length-drop (suc i) sections in omega arith;
}

-- one more member is placed
IsDone-push : (may : Answers) (sections : List Cuboid) (ms : List Size) (ls mid : List Cuboid) (n : ℕ) (m : Size) (l : Cuboid) (next : List Cuboid) (one : ℕ)
    → IsDone may sections ms ls mid n → IsStep may mid m l next one → IsDone may sections (ms ++ m ∷ []) (ls ++ l ∷ []) next (n + one)
IsDone-push may sections [] [] mid n m l next one done step =
    (next, one, 0, subst (λ (s : List Cuboid). IsStep may s m l next one) done.1 step, (refl, refl, refl), (let e = done.2 in omega arith))
IsDone-push may sections [] (l' ∷ ls) mid n m l next one done step = absurd (let e = done.0 in cc)
IsDone-push may sections (m' ∷ ms) [] mid n m l next one done step = absurd done
IsDone-push may sections (m' ∷ ms) (l' ∷ ls) mid n m l next one (s, first, rest, head, tail, count) step =
    (s, first, rest + one, head, IsDone-push may s ms ls mid rest m l next one tail step, omega arith)

-- the next member finds no section
IsStuck-after : (may : Answers) (sections : List Cuboid) (ms : List Size) (ls mid : List Cuboid) (n : ℕ) (m : Size) (others : List Size)
    → IsDone may sections ms ls mid n → All (λ t. ¬ Holds t m) mid → IsStuck may sections (ms ++ m ∷ others) (n + length mid)
IsStuck-after may sections [] ls mid n m others done none =
    inl (subst (λ (s : List Cuboid). All (λ t. ¬ Holds t m) s) done.1 none, (let e = ap length done.1 in let z = done.2 in omega arith))
IsStuck-after may sections (m' ∷ ms) [] mid n m others done none = absurd done
IsStuck-after may sections (m' ∷ ms) (l' ∷ ls) mid n m others (s, first, rest, head, tail, count) none =
    inr (l', s, first, rest + length mid, head, IsStuck-after may s ms ls mid rest m others tail none, omega arith)

-- the step of the loop over the members
pub IsDone-more : (may : Answers) (sections : List Cuboid) (ms : List Size) (i : ℕ) (m : Size) (ls mid : List Cuboid) (n : ℕ)
    (l : Cuboid) (ls' next : List Cuboid) (one : ℕ)
    → i < length ms → m ≡ get_or ms i m → IsDone may sections (take i ms) ls mid n → IsStep may mid m l next one → ls' ≡ ls ++ l ∷ []
    → IsDone may sections (take (i + 1) ms) ls' next (n + one)
IsDone-more may sections ms i m ls mid n l ls' next one within read done step same =
    rw (same, take_more ms i m within, ← read) (IsDone-push may sections (take i ms) ls mid n m l next one done step)

pub IsStuck-at : (may : Answers) (sections : List Cuboid) (ms : List Size) (i : ℕ) (m : Size) (ls mid : List Cuboid) (n : ℕ)
    → i < length ms → m ≡ get_or ms i m → IsDone may sections (take i ms) ls mid n → All (λ t. ¬ Holds t m) mid
    → IsStuck may sections ms (n + length mid)
IsStuck-at may sections ms i m ls mid n within read done none =
    rw (split_at ms i m within, ← read) (IsStuck-after may sections (take i ms) ls mid n m (drop (suc i) ms) done none)

-- a list of three, by its elements
pub three_of : {X : Type 0} (xs : List X) (a b c : X) → length xs ≡ 3 → a ≡ get_or xs 0 a → b ≡ get_or xs 1 b → c ≡ get_or xs 2 c → xs ≡ a ∷ b ∷ c ∷ []
three_of [] a b c n x y z = absurd (omega arith)
three_of (p ∷ []) a b c n x y z = absurd (omega arith)
three_of (p ∷ q ∷ []) a b c n x y z = absurd (omega arith)
three_of (p ∷ q ∷ r ∷ []) a b c n x y z = rw (x, y, z) refl
three_of (p ∷ q ∷ r ∷ s ∷ xs) a b c n x y z = absurd (omega arith)

-- what is left of a cut, for rates of its three pieces
pub AreLeft-three : (MayRate : Size → ℕ → Type 0) (cut : List Cuboid) (a b c : Cuboid) (i j k : ℕ) (ranked : List (ℕ × Cuboid))
    → cut ≡ a ∷ b ∷ c ∷ [] → MayRate a.whd i → MayRate b.whd j → MayRate c.whd k → AreRanked ((i, a) ∷ (j, b) ∷ (k, c) ∷ []) ranked
    → AreLeft MayRate cut (filter has_cells (map (λ p. p.1) ranked))
AreLeft-three MayRate cut a b c i j k ranked same x y z are_ranked = rw same (record {
  rates = i ∷ j ∷ k ∷ [];
  rated = (x, (y, (z, tt)));
  ranked = ranked;
  are_ranked = are_ranked;
  are = refl;
})

-- a trial that is refused memory before its first step leaves the list
pub IsTried-refused : {E : Type 0} (may : Answers) (sections : List Cuboid) (ms : List Size) (i : ℕ) (ls last : List Cuboid) (n : ℕ)
    (r : Result Trial E) (locations now : List Cuboid)
    → IsErr r → i ≡ 0 → IsDone may sections (take i ms) ls last n → now ≡ last → IsTried may sections ms r locations now
IsTried-refused may sections ms i ls last n (Ok trial) locations now error first steps same = absurd cc
IsTried-refused may sections ms i ls last n (Err e) locations now error first steps same =
    let none : IsDone may sections [] ls last n = rw first at steps in
    same ∙ none.1

-- a trial for which memory is refused leaves the sections
pub IsTried-undone : {E : Type 0} (may : Answers) (sections : List Cuboid) (ms : List Size) (r : Result Trial E) (locations now : List Cuboid)
    → IsErr r → now ≡ sections → IsTried may sections ms r locations now
IsTried-undone may sections ms (Ok trial) locations now error same = absurd cc
IsTried-undone may sections ms (Err e) locations now error same = same
