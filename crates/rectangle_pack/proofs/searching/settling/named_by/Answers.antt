use Rattle.rectangle_pack_sections.proofs.Std.{refl}
use Rattle.rectangle_pack_sections.proofs.lemmas.groups.GroupOrder.{groups_total}
use Rattle.rectangle_pack.proofs.lemmas.bound.Sets.{to}
use Rattle.rectangle_pack.proofs.lemmas.searching.NotNamed.{named-more}
use Rattle.rectangle_pack.proofs.searching.settling.named_by.Goals as goal

pub loop-step-preserved : goal.loop-step-preserved
loop-step-preserved g c = λ name.
    let groups = groups_total _ g.Id.Ord.cmp g.GroupId.Ord.cmp g.met.Id.Ord.total g.met.GroupId.Ord.total (λ a b. refl) (λ a b. refl) (λ a b. refl) (λ a b. refl) in
    named-more groups c.args.steps.now c.loop-step.step-index c.step-item.result c.loop-step.names.keys c.insert.new.self.keys c.loop-step-test.true
    c.step-item.is (λ q. c.in_ok-insert.ensures.updates.0 (to q)) c.loop-step.invariant name
