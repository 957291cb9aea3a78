-- One turn of the loops over bins and over groups.
use Rattle.rectangle_pack_sections.proofs.Std.{◌≡◌, ℕ, ◌+◌, ◌<◌, Bool, true, false, List, [], ◌∷◌, ◌++◌, length, take, get_or, map, sum, refl, sym, ◌∙◌, ap, arith}
use Rattle.rectangle_pack_sections.proofs.Std.{AllZip, Bor, Option, Result, subst, sum_by_push, append-nil}
use Rattle.rectangle_pack_sections.specs.Bins.{Bin}
use Rattle.rectangle_pack_lists.specs.Numbers.{saturated}
use Rattle.rectangle_pack_packing.specs.declared.answer.Placement.{Placement}
use Rattle.rectangle_pack_packing.specs.Fitting.{AreTaken}
use Rattle.rectangle_pack_packing.specs.Packing.{Rules, Members, Stage, IsStuckIn, DoesNotTake, IsPlaced, IsRefused}
use Rattle.rectangle_pack_packing.specs.private.OnItsWay.{OnItsWay, IsGroupTried}
use Rattle.rectangle_pack_packing.proofs.lemmas.packing.Orders.{AllZip-next, map-take_more}
use Rattle.rectangle_pack_packing.proofs.lemmas.packing.Groups.{AreTaken-placed, AreTaken-left}

-- none added to a count that tests were added to before
pub saturated-none : (before mid : ℕ) → mid ≡ saturated before → mid ≡ saturated (mid + 0)
saturated-none before mid h = omega (arith, h)

-- a count that tests were added to twice
pub saturated-add : (t s u a b : ℕ) → s ≡ saturated (t + a) → u ≡ saturated (s + b) → u ≡ saturated (t + (a + b))
saturated-add t s u a b first second = omega arith

-- the same from none on
pub saturated-sum : (s u a b : ℕ) → s ≡ saturated a → u ≡ saturated (s + b) → u ≡ saturated (a + b)
saturated-sum s u a b first second = omega arith

-- what is added later is added with them
pub saturated-later : (t s a : ℕ) → s ≡ saturated (t + a) → (later : ℕ) → saturated (s + later) ≡ saturated (t + (a + later))
saturated-later t s a first later = omega arith

module _ {Id B : Type 0} (rules : Rules Id B) (excluded : B → Bool) (bins : List (B × Bin)) (group : Members Id) (id : B) where
  -- a bin that is excluded does not take a group, and no test is made
  pub DoesNotTake-excluded : excluded id ≡ true → DoesNotTake rules excluded bins group id 0
  DoesNotTake-excluded e = rw e refl

  -- nor does one in which its trial is stuck
  pub DoesNotTake-stuck : (same : List (B × Bin)) (count : ℕ) → excluded id ≡ false → same ≡ bins → IsStuckIn rules same group id count
      → DoesNotTake rules excluded bins group id count
  DoesNotTake-stuck same count e alike stuck = rw (e, ← alike) stuck

module _ {Id B : Type 0} (rules : Rules Id B) where
  -- the bins of a beginning of an order do not take a group; their tests were added
  abbrev pub ArePassed : (B → Bool) → List (ℕ × B) → Members Id → List (B × Bin) → ℕ → ℕ → Type 0
  ArePassed excluded order group bins before after =
      (counts : List ℕ) × AllZip (DoesNotTake rules excluded bins group) (map (λ o. o.1) order) counts × (after ≡ saturated (before + sum counts))

  -- nor do these, and their tests were added as far as later ones show it: a count that is past the greatest one, to which none was added, stays too
  abbrev pub WerePassed : (B → Bool) → List (ℕ × B) → Members Id → List (B × Bin) → ℕ → ℕ → Type 0
  WerePassed excluded order group bins before after =
      (counts : List ℕ) × AllZip (DoesNotTake rules excluded bins group) (map (λ o. o.1) order) counts
      × ((later : ℕ) → saturated (after + later) ≡ saturated (before + (sum counts + later)))

  -- nor does the next bin
  pub ArePassed-more : (excluded : B → Bool) (order : List (ℕ × B)) (i : ℕ) (o : ℕ × B) (group : Members Id) (bins : List (B × Bin))
      (count before mid after : ℕ) → i < length order → o ≡ get_or order i o → ArePassed excluded (take i order) group bins before mid
      → DoesNotTake rules excluded bins group o.1 count → after ≡ saturated (mid + count)
      → WerePassed excluded (take (i + 1) order) group bins before after
  ArePassed-more excluded order i o group bins count before mid after within is passed stuck added =
      let all : after ≡ saturated (before + sum (passed.0 ++ count ∷ [])) =
      saturated-add before mid after (sum passed.0) count passed.2 added ∙ ap (λ n. saturated (before + n)) (sym (sum_by_push (λ x. x) passed.0 count)) in (
        passed.0 ++ count ∷ [],
        AllZip-next (DoesNotTake rules excluded bins group) (λ x. x.1) order passed.0 i o count within is passed.1 stuck,
        saturated-later before after (sum (passed.0 ++ count ∷ [])) all,
      )

  module _ {K G : Type 0} (excludes : List (K × B) → K → B → Bool) (f : G → K × Members Id) (groups : List G) (i : ℕ) (g : G)
      (order names : List B) (old : Stage K B) (mid : List (B × Bin)) (homes : List (K × B)) (next : List (B × Bin)) where
    -- the next group of an order is placed too
    pub AreTaken-turn : (before added after : List (Placement Id B)) (left : List K) (tests one : ℕ)
        → i < length groups → g ≡ get_or groups i g → order ≡ names
        → AreTaken rules excludes names (map f (take i groups)) old before left (record { bins = mid; homes = homes }) tests
        → (p : IsPlaced rules (excludes homes (f g).0) order (f g).1 mid added next one) → after ≡ before ++ added
        → AreTaken rules excludes names (map f (take (i + 1) groups)) old after left (record { bins = next; homes = ((f g).0, p.here) ∷ homes }) (tests + one)
    AreTaken-turn before added after left tests one within is same done p joined =
        let begun = subst (λ (ns : List B). AreTaken rules excludes ns (map f (take i groups)) old before left (record { bins = mid; homes = homes }) tests)
        (sym same) done in
        rw (map-take_more f groups i g within is)
        (subst (λ (ns : List B). AreTaken rules excludes ns (map f (take i groups) ++ f g ∷ []) old after left
        (record { bins = next; homes = ((f g).0, p.here) ∷ homes }) (tests + one)) same
        (rw joined (AreTaken-placed rules excludes order (map f (take i groups)) (f g) old mid homes next before added left tests one begun p)))

    -- or it is left
    pub AreTaken-turn_left : (before after : List (Placement Id B)) (left more : List K) (tests one : ℕ)
        → i < length groups → g ≡ get_or groups i g → order ≡ names
        → AreTaken rules excludes names (map f (take i groups)) old before left (record { bins = mid; homes = homes }) tests
        → IsRefused rules (excludes homes (f g).0) order (f g).1 mid one → next ≡ mid → after ≡ before ++ [] → more ≡ left ++ (f g).0 ∷ []
        → AreTaken rules excludes names (map f (take (i + 1) groups)) old after more (record { bins = next; homes = homes }) (tests + one)
    AreTaken-turn_left before after left more tests one within is same done refused stays none added =
        let begun = subst (λ (ns : List B). AreTaken rules excludes ns (map f (take i groups)) old before left (record { bins = mid; homes = homes }) tests)
        (sym same) done in
        rw (map-take_more f groups i g within is)
        (subst (λ (ns : List B). AreTaken rules excludes ns (map f (take i groups) ++ f g ∷ []) old after more
        (record { bins = next; homes = homes }) (tests + one)) same
        (rw (stays, none, append-nil before, added)
        (AreTaken-left rules excludes order (map f (take i groups)) (f g) old mid homes before left tests one begun refused)))

-- a group is tried alike by an equal policy, with equal excluded bins and members
pub tried-alike : {Id B R E : Type 0} (rules : R → Rules Id B) (p q : R) (read excluded : B → Bool) (given own : Members Id) (old new : OnItsWay Id B R)
    (result : Result (Option (Bor B)) E) → p ≡ q → read ≡ excluded → given ≡ own → IsGroupTried (rules p) read given old result new
    → IsGroupTried (rules q) excluded own old result new
tried-alike rules p q read excluded given own old new result policy same alike h = rw (← policy, ← same, ← alike) h
