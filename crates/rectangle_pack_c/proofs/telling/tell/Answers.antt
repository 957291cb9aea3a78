use Rattle.rectangle_pack_c.proofs.Std.{refl}
use Rattle.rectangle_pack_sections.proofs.lemmas.groups.GroupOrder.{same_order}
use Rattle.rectangle_pack_c.proofs.ToldLemmas.{told_ordered, told_promise_ordered}
use Rattle.rectangle_pack_c.proofs.telling.tell.Goals as goal

pub returns-clause-packed : goal.returns-clause-packed
returns-clause-packed c =
    told_ordered _ (same_order _ _ _ (λ a b. refl) (λ a b. refl) (λ a b. refl) (λ a b. refl)) c.args.rects.now c.args.steps.now c.args.session.now
    c.pack_told.new.self c.pack_told.result c.pack_told.ensures.packed

pub returns-clause-promise : goal.returns-clause-promise
returns-clause-promise c =
    told_promise_ordered _ (same_order _ _ _ (λ a b. refl) (λ a b. refl) (λ a b. refl) (λ a b. refl)) c.args.rects.now c.args.steps.now c.args.session.now
    c.pack_told.new.self c.pack_told.result c.pack_told.ensures.promise
