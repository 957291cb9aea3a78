use Rattle.rectangle_pack_sections.proofs.Std.{[], ◌∷◌, ◌++◌, ◌∙◌, ap, sym, refl, subst, arith, append-nil, append_assoc, length_permutation, IsPermutation}
use Rattle.std.specs.Option.{option_to_list}
use Rattle.rectangle_pack_plans.specs.declared.cut_plan.Part.{Part}
use Rattle.rectangle_pack_plans.specs.declared.cut_plan.CutStep.TheVariants.{Leaf as LeafHere}
use Rattle.rectangle_pack_plans.specs.private.CutPlans.{lower_part, upper_part}
use Rattle.rectangle_pack_plans.proofs.lemmas.cut_plan.Pending.{closed_has_no_tree}
use Rattle.rectangle_pack_plans.proofs.lemmas.cut_plan.Peel.{IsPeeled-split, IsCutUp-parts, IsCutUp-leaf, one_pushed, two_pushed}
use Rattle.rectangle_pack_plans.proofs.cut_plan.cut_up.Goals as goal

pub returns-in_default : goal.returns-in_default
returns-in_default g c =
    let kept = rw c.if-branch.false at (c.in_ok-peel.ensures {u = tt}).2 in
    let moved = subst (λ l. IsPermutation l c.first_split.new.boxes) kept.0 c.first_split.ensures.permutation in
    closed_has_no_tree _ _ _ c.requires.filled c.requires.many moved c.in_default.ensures.split

pub returns-then-branch : goal.returns-then-branch
returns-then-branch g c =
    let peeled = c.in_ok-peel.ensures {u = tt} in
    (peeled.0, [], peeled.1, sym (append-nil c.args.plan.now.items), IsCutUp-parts _ _ _ _ _ refl (rw c.if-branch.true at peeled.2))

pub returns-then-below-eq1 : goal.returns-then-below-eq1
returns-then-below-eq1 g c =
    let peeled = c.in_ok-peel.ensures {u = tt} in
    let kept = rw c.if-branch.false at peeled.2 in
    let part = c.args.part.now in
    let split = c.in-Some.split in
    let lo = lower_part part split in
    let up = upper_part part split c.cut-below.result.1.turns in
    let moved = subst (λ l. IsPermutation l c.first_split.new.boxes) kept.0 c.first_split.ensures.permutation in
    let first = ap (λ (p : Part). c.args.plan.now.items ++ option_to_list p.before) c.cut-below.ensures.lower in (
      up ∷ [],
      option_to_list lo.before ++ LeafHere ∷ [],
      one_pushed _ _ _ _ up peeled.1 kept.1 ((c.in_ok-push.ensures {u = tt}).items ∙ ap (λ (p : Part). c.peel.new.pending.items ++ p ∷ []) c.cut-below.ensures.upper),
      c.in_ok-push_leaf.ensures {u = tt} ∙ ap (λ l. l ++ LeafHere ∷ []) first
          ∙ append_assoc c.args.plan.now.items (option_to_list lo.before) (LeafHere ∷ []),
      IsCutUp-leaf part lo _ _ (up ∷ []) _ (sym (ap (λ (p : Part). p.count) c.cut-below.ensures.lower) ∙ c.if-below-eq1.true)
          (omega (arith, length_permutation _ _ moved, c.requires.many)) refl
          (IsPeeled-split part _ _ split _ c.requires.count c.requires.many c.requires.filled moved (c.in-Some.ensures {u = tt}).split),
    )

pub returns : goal.returns
returns g c =
    let peeled = c.in_ok-peel.ensures {u = tt} in
    let kept = rw c.if-branch.false at peeled.2 in
    let part = c.args.part.now in
    let split = c.in-Some.split in
    let lo = lower_part part split in
    let up = upper_part part split c.cut-below.result.1.turns in
    let moved = subst (λ l. IsPermutation l c.first_split.new.boxes) kept.0 c.first_split.ensures.permutation in (
      lo ∷ up ∷ [],
      [],
      two_pushed _ _ _ _ _ lo up peeled.1 kept.1 ((c.in_ok-push.ensures {u = tt}).items ∙ ap (λ (p : Part). c.peel.new.pending.items ++ p ∷ []) c.cut-below.ensures.upper)
          ((c.in_ok-push-2.ensures {u = tt}).items ∙ ap (λ (p : Part). c.push.new.self.items ++ p ∷ []) c.cut-below.ensures.lower),
      sym (append-nil c.args.plan.now.items),
      IsCutUp-parts _ _ _ _ _ refl
          (IsPeeled-split part _ _ split _ c.requires.count c.requires.many c.requires.filled moved (c.in-Some.ensures {u = tt}).split),
    )
