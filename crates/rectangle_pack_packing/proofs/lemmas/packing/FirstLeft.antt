-- A packing is refused at the first group that is left.
use Rattle.rectangle_pack_sections.proofs.Std.{◌≡◌, ℕ, ◌+◌, Bool, List, [], ◌∷◌, ◌++◌, refl, sym, ◌∙◌, ap, arith, length, append_assoc, inl, inr}
use Rattle.rectangle_pack_packing.specs.declared.answer.Placement.{Placement}
use Rattle.rectangle_pack_packing.specs.Fitting.{AreTaken}
use Rattle.rectangle_pack_packing.specs.Packing.{Rules, Members, Stage, IsRefused, AreAllPlaced}

module _ {Id B K : Type 0} (rules : Rules Id B) (excludes : List (K × B) → K → B → Bool) (order : List B) where
  -- the groups before the first that is left are all placed, and it is refused as they left the bins
  pub record IsFirstLeft (groups : List (K × Members Id)) (old : Stage K B) (placements : List (Placement Id B)) (name : K) : Type 0 where
    pub beginning : List (K × Members Id)
    pub next : K × Members Id
    pub after : List (K × Members Id)
    pub groups_are : groups ≡ beginning ++ next ∷ after
    pub name_is : next.0 ≡ name
    pub first : List (Placement Id B)
    pub turn : Stage K B
    pub tests : ℕ
    pub placed : AreAllPlaced rules excludes order beginning old first turn tests
    pub count : ℕ
    pub refused : IsRefused rules (excludes turn.homes next.0) order next.1 turn.bins count
    pub later : List (Placement Id B)
    pub placements_are : placements ≡ first ++ later

  pub first_left : (gs : List (K × Members Id)) (old : Stage K B) (placements : List (Placement Id B)) (name : K) (left : List K) (new : Stage K B)
      (tests : ℕ) → AreTaken rules excludes order gs old placements (name ∷ left) new tests → IsFirstLeft gs old placements name
  first_left [] old placements name left new n h = absurd (omega (arith, ap length h.1))
  first_left (g ∷ gs) old placements name left new n (inl (first, next, one, later, others, placed, rest, joined, count)) =
      let stage : Stage K B = record { bins = next; homes = (g.0, placed.here) ∷ old.homes } in
      let ih = first_left gs stage later name left new others rest in
      record {
        beginning = g ∷ ih.beginning;
        next = ih.next;
        after = ih.after;
        groups_are = ap (λ hs. g ∷ hs) ih.groups_are;
        name_is = ih.name_is;
        first = first ++ ih.first;
        turn = ih.turn;
        tests = one + ih.tests;
        placed = (first, next, one, ih.first, ih.tests, placed, ih.placed, refl, refl);
        count = ih.count;
        refused = ih.refused;
        later = ih.later;
        placements_are = joined ∙ ap (λ ps. first ++ ps) ih.placements_are ∙ sym (append_assoc first ih.first ih.later);
      }
  first_left (g ∷ gs) old placements name left new n (inr (one, names, others, refused, rest, is, count)) = record {
    beginning = [];
    next = g;
    after = gs;
    groups_are = refl;
    name_is = (let e = is in cc);
    first = [];
    turn = old;
    tests = 0;
    placed = (refl, refl, refl);
    count = one;
    refused = refused;
    later = placements;
    placements_are = refl;
  }
