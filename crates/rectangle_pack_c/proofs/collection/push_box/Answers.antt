use Rattle.rectangle_pack_c.proofs.Std.{refl, subst, IsStrictlySortedBy, keys_of}
use Rattle.rectangle_pack_c.proofs.LoopLemmas.{pushed}
use Rattle.rectangle_pack_sections.proofs.lemmas.groups.GroupOrder.{same_order}
use Rattle.rectangle_pack_c.proofs.collection.push_box.Goals as goal

pub returns-clause-pushed : goal.returns-clause-pushed
returns-clause-pushed c =
    let named = c.in_ok-groups_of in
    pushed _ c.args.index c.args.rect.now c.args.rects.now c.push_rect.new.self named.field-0 c.new-size.result named.ensures
    c.in_ok-push_rect.ensures.ok c.new-size.ensures (same_order _ _ _ (λ a b. refl) (λ a b. refl) (λ a b. refl) (λ a b. refl))

pub returns-clause-ascend : goal.returns-clause-ascend
returns-clause-ascend c =
    subst (λ cmp. IsStrictlySortedBy cmp (keys_of c.push_rect.new.self.groups))
    (same_order _ _ _ (λ a b. refl) (λ a b. refl) (λ a b. refl) (λ a b. refl)) c.groups-ascend.ensures.ascend
