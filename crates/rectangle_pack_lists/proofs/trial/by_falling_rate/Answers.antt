use Rattle.rectangle_pack_sections.proofs.Std.{[], ◌∷◌, arith, refl, ◌∙◌}
use Rattle.rectangle_pack_lists.proofs.lemmas.trial.FallingRates.{AreRanked-three, first_swapped, last_swapped}
use Rattle.rectangle_pack_lists.proofs.trial.by_falling_rate.Goals as goal

pub returns-then-b-c : goal.returns-then-b-c
returns-then-b-c c =
    let r = c.args.right in
    let a = c.args.above in
    let b = c.args.behind in
    (r ∷ a ∷ b ∷ [], AreRanked-three _ r a b (omega arith) (omega arith) (λ rate. refl), refl)

pub returns-then-a-c : goal.returns-then-a-c
returns-then-a-c c =
    let r = c.args.right in
    let a = c.args.above in
    let b = c.args.behind in
    (r ∷ b ∷ a ∷ [], AreRanked-three _ r b a (omega arith) (omega arith) (λ rate. last_swapped rate r b a (omega arith)), refl)

pub returns-else-a-c : goal.returns-else-a-c
returns-else-a-c c =
    let r = c.args.right in
    let a = c.args.above in
    let b = c.args.behind in (
      b ∷ r ∷ a ∷ [],
      AreRanked-three _ b r a (omega arith) (omega arith) (λ rate. first_swapped rate b r a (omega arith) ∙ last_swapped rate r b a (omega arith)),
      refl,
    )

pub returns-then-a-c-2 : goal.returns-then-a-c-2
returns-then-a-c-2 c =
    let r = c.args.right in
    let a = c.args.above in
    let b = c.args.behind in
    (a ∷ r ∷ b ∷ [], AreRanked-three _ a r b (omega arith) (omega arith) (λ rate. first_swapped rate a r b (omega arith)), refl)

pub returns-then-b-c-2 : goal.returns-then-b-c-2
returns-then-b-c-2 c =
    let r = c.args.right in
    let a = c.args.above in
    let b = c.args.behind in (
      a ∷ b ∷ r ∷ [],
      AreRanked-three _ a b r (omega arith) (omega arith) (λ rate. last_swapped rate a b r (omega arith) ∙ first_swapped rate a r b (omega arith)),
      refl,
    )

pub returns-else-b-c-2 : goal.returns-else-b-c-2
returns-else-b-c-2 c =
    let r = c.args.right in
    let a = c.args.above in
    let b = c.args.behind in (
      b ∷ a ∷ r ∷ [],
      AreRanked-three _ b a r (omega arith) (omega arith)
          (λ rate. first_swapped rate b a r (omega arith) ∙ last_swapped rate a b r (omega arith) ∙ first_swapped rate a r b (omega arith)),
      refl,
    )
