use Rattle.rectangle_pack_c.proofs.Std.{refl}
use Rattle.rectangle_pack_sections.proofs.lemmas.groups.GroupOrder.{same_order}
use Rattle.rectangle_pack_c.proofs.SearchedLemmas.{promise_ordered, searched_ordered}
use Rattle.rectangle_pack_c.proofs.finding.find.Goals as goal

pub returns-in-Some-clause-packed : goal.returns-in-Some-clause-packed
returns-in-Some-clause-packed c =
    searched_ordered _ (same_order _ _ _ (λ a b. refl) (λ a b. refl) (λ a b. refl) (λ a b. refl)) c.args.rects.now c.args.options.now.turns.now.entries
    c.args.options.now.may_leave c.args.options.now.costs.now.entries c.args.session.now c.pack_found.new.self c.pack_found.result c.pack_found.ensures.packed

pub returns-in-Some-clause-promise : goal.returns-in-Some-clause-promise
returns-in-Some-clause-promise c =
    promise_ordered _ (same_order _ _ _ (λ a b. refl) (λ a b. refl) (λ a b. refl) (λ a b. refl)) c.args.rects.now c.args.options.now.turns.now.entries
    c.args.options.now.may_leave c.args.options.now.costs.now.entries c.args.session.now c.pack_found.new.self c.pack_found.result c.pack_found.ensures.promise

pub returns-in-None-clause-packed : goal.returns-in-None-clause-packed
returns-in-None-clause-packed c =
    searched_ordered _ (same_order _ _ _ (λ a b. refl) (λ a b. refl) (λ a b. refl) (λ a b. refl)) c.args.rects.now c.args.options.now.turns.now.entries
    c.args.options.now.may_leave c.args.options.now.costs.now.entries c.args.session.now c.pack_searched.new.self c.pack_searched.result
    c.pack_searched.ensures.packed

pub returns-in-None-clause-promise : goal.returns-in-None-clause-promise
returns-in-None-clause-promise c =
    promise_ordered _ (same_order _ _ _ (λ a b. refl) (λ a b. refl) (λ a b. refl) (λ a b. refl)) c.args.rects.now c.args.options.now.turns.now.entries
    c.args.options.now.may_leave c.args.options.now.costs.now.entries c.args.session.now c.pack_searched.new.self c.pack_searched.result
    c.pack_searched.ensures.promise
