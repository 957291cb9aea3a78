-- Groups that are left, each at its turn.
use Rattle.rectangle_pack_sections.proofs.Std.{◌≡◌, ℕ, ◌+◌, List, [], ◌∷◌, ◌++◌, inl, inr, refl, ap, Bool, All, All-nil, All-cons, All-weaker}
use Rattle.rectangle_pack_packing.specs.declared.answer.Placement.{Placement}
use Rattle.rectangle_pack_packing.specs.Fitting.{AreTaken}
use Rattle.rectangle_pack_packing.specs.Packing.{Rules, Members, Stage, IsRefused}

module _ {Id B K : Type 0} (rules : Rules Id B) (excludes : List (K × B) → K → B → Bool) (order : List B) where
  -- a group that is left: the groups before it are placed or left, it is refused in the bins as these left them, and those after it are placed or left
  pub record IsLeftAt (groups : List (K × Members Id)) (old new : Stage K B) (group : K) : Type 0 where
    pub before : List (K × Members Id)
    pub members : Members Id
    pub after : List (K × Members Id)
    pub groups_are : groups ≡ before ++ (group, members) ∷ after
    pub placements : List (Placement Id B)
    pub passed : List K
    pub turn : Stage K B
    pub tests : ℕ
    pub taken : AreTaken rules excludes order before old placements passed turn tests
    pub count : ℕ
    pub refused : IsRefused rules (excludes turn.homes group) order members turn.bins count
    pub later : List (Placement Id B)
    pub others : List K
    pub rest_tests : ℕ
    pub rest : AreTaken rules excludes order after turn later others new rest_tests

  pub left_at : (gs : List (K × Members Id)) (old : Stage K B) (placements : List (Placement Id B)) (left : List K) (new : Stage K B) (tests : ℕ)
      → AreTaken rules excludes order gs old placements left new tests → All (IsLeftAt gs old new) left
  left_at [] old placements left new n (nothing, none, same, count) = rw none (All-nil (IsLeftAt [] old new))
  left_at (g ∷ gs) old placements left new n (inl (first, next, one, later, others, placed, taken, joined, count)) =
      let stage : Stage K B = record { bins = next; homes = (g.0, placed.here) ∷ old.homes } in
      All-weaker (IsLeftAt gs stage new) (IsLeftAt (g ∷ gs) old new) (λ k at. record {
        before = g ∷ at.before;
        members = at.members;
        after = at.after;
        groups_are = ap (λ hs. g ∷ hs) at.groups_are;
        placements = first ++ at.placements;
        passed = at.passed;
        turn = at.turn;
        tests = one + at.tests;
        taken = inl (first, next, one, at.placements, at.tests, placed, at.taken, refl, refl);
        count = at.count;
        refused = at.refused;
        later = at.later;
        others = at.others;
        rest_tests = at.rest_tests;
        rest = at.rest;
      }) left (left_at gs stage later left new others taken)
  left_at (g ∷ gs) old placements left new n (inr (one, rest, others, refused, taken, named, count)) =
      let here : IsLeftAt (g ∷ gs) old new g.0 = record {
        before = [];
        members = g.1;
        after = gs;
        groups_are = refl;
        placements = [];
        passed = [];
        turn = old;
        tests = 0;
        taken = (refl, refl, refl, refl);
        count = one;
        refused = refused;
        later = placements;
        others = rest;
        rest_tests = others;
        rest = taken;
      } in
      rw named (All-cons (IsLeftAt (g ∷ gs) old new) g.0 rest here (All-weaker (IsLeftAt gs old new) (IsLeftAt (g ∷ gs) old new) (λ k at. record {
        before = g ∷ at.before;
        members = at.members;
        after = at.after;
        groups_are = ap (λ hs. g ∷ hs) at.groups_are;
        placements = at.placements;
        passed = g.0 ∷ at.passed;
        turn = at.turn;
        tests = one + at.tests;
        taken = inr (one, at.passed, at.tests, refused, at.taken, refl, refl);
        count = at.count;
        refused = at.refused;
        later = at.later;
        others = at.others;
        rest_tests = at.rest_tests;
        rest = at.rest;
      }) rest (left_at gs old placements rest new others taken)))
