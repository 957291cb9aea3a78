use Rattle.rectangle_pack_sections.proofs.Std.{◌≡◌, List, [], ◌∷◌, length, eqb-true, sym, ◌∙◌, refl, arith}
use Rattle.rectangle_pack_packing.proofs.lemmas.packing.Placed.{AreLastPlacements-nothing}
use Rattle.rectangle_pack_packing.proofs.pack.told.pack_rects_told.Goals as goal

-- a list without elements
none_long : {X : Type 0} (xs : List X) → length xs ≡ 0 → xs ≡ []
none_long [] none = refl
none_long (x ∷ xs) none = absurd (omega (arith, none))

pub returns-then-is_empty-clause-answer : goal.returns-then-is_empty-clause-answer
returns-then-is_empty-clause-answer g c =
    let none = none_long c.args.steps.now (eqb-true _ 0 (sym c.is_empty.ensures ∙ c.if-is_empty.true)) in
    let placed = c.answer_of.ensures.placements ∙ c.new-then-is_empty.ensures.items in (
      rw none (record { homes = []; done = (placed, refl) }),
      AreLastPlacements-nothing g.Id.Ord.cmp g.BinId.Ord.cmp _ _ c.new.result.entries c.new.ensures.ordered placed c.answer_of.ensures.locations
          c.new.ensures.empty,
    )
