use Rattle.rectangle_pack_sections.proofs.Std.{List, Bor, subst, map, deref_pair, keys_of}
use Rattle.rectangle_pack.specs.Needed.{HasMostListed}
use Rattle.rectangle_pack.proofs.lemmas.bound.Taken.{most-next, names-push}
use Rattle.rectangle_pack.proofs.bound.apart.most_listed.Goals as goal

pub loop-name-preserved-in-Some-most : goal.loop-name-preserved-in-Some-most
loop-name-preserved-in-Some-most g c =
    let seen = map deref_pair c.loop-name.yielded in
    let x : Bor g.row.K.Denot × Bor g.row.V.Denot = (c.in-Some.name, c.in-Some.field-0-1) in
    let before = rw c.in-Some-most.is at c.loop-name.invariant in
    subst (λ (ks : List g.row.K.Denot). HasMostListed g.K.Ord.cmp c.args.exclusions.now ks c.with_more.result.now) (names-push c.loop-name.yielded x)
    (most-next g.K.Ord.cmp c.args.exclusions.now (keys_of seen) c.in-Some-most.best.now c.in-Some.name.now c.with_more.result.now before c.with_more.ensures)
