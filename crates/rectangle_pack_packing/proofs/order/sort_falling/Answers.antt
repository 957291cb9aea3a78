use Rattle.rectangle_pack_sections.proofs.Std.{◌≡◌, ℕ, ◌+◌, ◌<◌, arith, get_or, rules, Less, nat_cmp, IsPermutation-map, answers_always}
use Rattle.rectangle_pack_packing.specs.declared.order.OrderedGroup.{OrderedGroup}
use Rattle.rectangle_pack_packing.specs.Orders.{falling_then}
use Rattle.rectangle_pack_packing.proofs.lemmas.packing.Orders.{IsSorted-map, any_two-permutation, less-nat_cmp, not_less-then, rise-alike}
use Rattle.rectangle_pack_packing.proofs.order.sort_falling.Goals as goal

pub returns-clause-permutation : goal.returns-clause-permutation
returns-clause-permutation g c = IsPermutation-map _ _ _ c.sort_unstable_by_key.ensures.permutation

pub returns-clause-falling : goal.returns-clause-falling
returns-clause-falling g c =
    let Group : Type 0 = OrderedGroup g.row.K.Denot g.row.Id.Denot g.row.A.Denot in
    let cmp = g.K.Ord.cmp in
    let old = c.args.order.now.items in
    let new = c.sort_unstable_by_key.new.self.items in
    let key : Group → ℕ × g.row.K.Denot = λ o. (o.key.0, o.name.now) in
    let sorted = c.sort_unstable_by_key.ensures.sorted (λ (o : Group). (o.key, o.start)) (answers_always _ _ _ (λ f a r h k. search rules)) in
    let alike = any_two-permutation (λ (o p : Group). cmp o.name.now p.name.now ≡ Less → o.start < p.start) old new c.sort_unstable_by_key.ensures.permutation
    (rise-alike g.met.K.Ord.total (λ (o : Group). o.name.now) (λ o. o.start) old c.requires.rising) in
    IsSorted-map (falling_then cmp) key new
    (λ k d low up.
    let one = get_or new (k + 1) d in
    let other = get_or new k d in
    not_less-then (nat_cmp other.key.0 one.key.0) (nat_cmp one.start other.start) (cmp one.name.now other.name.now) (sorted k d low up)
    (λ less. less-nat_cmp one.start other.start (alike (k + 1) d up k d (omega arith) less)))
