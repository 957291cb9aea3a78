use Rattle.rectangle_pack_sections.proofs.Std.{◌≡◌, ◌++◌, ◌∷◌, [], ap, sym, ◌∙◌, arith, map, Bor, Vec, deref_pair, map_push, iter_end, rest_so_far, rest_more}
use Rattle.rectangle_pack_groups.proofs.lemmas.multimap.Vectors.{entries_in, entries_in-cons, entries_in-append}
use Rattle.rectangle_pack_groups.proofs.grouped_rects_to_place.multimap.number_after.Goals as goal

pub loop-list-preserved : goal.loop-list-preserved
loop-list-preserved g c =
    let seen = map deref_pair c.loop-list.yielded in
    let x : Bor g.row.K.Denot × Bor (Vec g.row.X.Denot g.row.A.Denot) = (c.in-Some.field-0-0, c.in-Some.list) in
    omega (
      arith,
      ap entries_in (map_push deref_pair c.loop-list.yielded x),
      entries_in-append seen (deref_pair x ∷ []),
      entries_in-cons (deref_pair x) [],
      c.loop-list.invariant,
      c.len.ensures,
      c.in_ok-number.ensures,
    )

pub returns-in_err-number : goal.returns-in_err-number
returns-in_err-number g c =
    let seen = map deref_pair c.loop-list.yielded in
    let x : Bor g.row.K.Denot × Bor (Vec g.row.X.Denot g.row.A.Denot) = (c.in-Some.field-0-0, c.in-Some.list) in
    let all : c.args.lists.now.entries ≡ seen ++ deref_pair x ∷ c.next.new.self =
    sym c.into_iter-list-iterator.ensures.into_iter_gives.0 ∙ rest_so_far deref_pair c.loop-list.yielded _ _ c.loop-list.yielded_by
    ∙ ap (λ l. seen ++ l) (rest_more deref_pair _ _ _ x c.in-Some.is c.next.ensures.steps) in
    rw c.from_residual.ensures (omega (
      arith,
      ap entries_in all,
      entries_in-append seen (deref_pair x ∷ c.next.new.self),
      entries_in-cons (deref_pair x) c.next.new.self,
      c.loop-list.invariant,
      c.len.ensures,
      c.in_err-number.ensures,
    ))

pub returns : goal.returns
returns g c =
    let all = iter_end deref_pair _ _ _ _ _ _ c.into_iter-list-iterator.ensures.into_iter_gives.0 c.loop-list.yielded_by c.in-None.is c.next.ensures.steps in
    rw (← all.0) c.loop-list.invariant
