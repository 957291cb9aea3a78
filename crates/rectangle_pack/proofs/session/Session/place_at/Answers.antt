use Rattle.rectangle_pack_sections.proofs.Std.{◌∷◌, [], ◌++◌, refl, ap, sym, ◌∙◌, rules, arith, is_at}
use Rattle.rectangle_pack_sections.specs.Bins.{bins_of}
use Rattle.rectangle_pack.specs.declared.session.command.Outstanding.{Outstanding}
use Rattle.rectangle_pack.proofs.lemmas.session.Keeps.{Some-bins_of, None-bins_of}
use Rattle.rectangle_pack.proofs.lemmas.session.PlacingAt.{placed-pushed, placing_at-refused}
use Rattle.rectangle_pack.proofs.session.Session.place_at.Goals as goal

pub returns-in_default-clause-placed : goal.returns-in_default-clause-placed
returns-in_default-clause-placed g c =
    rw (← c.self.view_is) (None-bins_of (is_at (g.BinId.Ord.cmp c.args.bin)) c.self.inside.bins.entries (search rules), refl)

pub returns-in_default-checked_add-clause-placed : goal.returns-in_default-checked_add-clause-placed
returns-in_default-checked_add-clause-placed g c =
    let found = Some-bins_of (is_at (g.BinId.Ord.cmp c.args.bin)) c.self.inside.bins.entries c.in-Some.target.now (sym c.in-Some.ensures.value) in
    rw (← c.self.view_is) (rw found refl, omega (arith, c.in_default-checked_add.ensures), refl)

pub returns-in_default-first_around-clause-placed : goal.returns-in_default-first_around-clause-placed
returns-in_default-first_around-clause-placed g c =
    let found = Some-bins_of (is_at (g.BinId.Ord.cmp c.args.bin)) c.self.inside.bins.entries c.in-Some.target.now (sym c.in-Some.ensures.value) in
    rw (← c.self.view_is) (omega (arith, c.in-Some-checked_add.ensures), c.in-Some.target.now.bin, found, (c.in_default-first_around.ensures.none, refl), refl)

pub returns-in_err-reserve-clause-placed : goal.returns-in_err-reserve-clause-placed
returns-in_err-reserve-clause-placed g c =
    let found = Some-bins_of (is_at (g.BinId.Ord.cmp c.args.bin)) c.self.inside.bins.entries c.in-Some.target.now (sym c.in-Some.ensures.value) in
    rw (← c.self.view_is) (placing_at-refused g.BinId.Ord.cmp c.args.bin c.args.id c.args.location _ _ _ _ c.self.inside.next c.in-Some-first_around.index
    c.in-Some.target.now.bin c.from_residual.result c.from_residual.ensures.1 (omega (arith, c.in-Some-checked_add.ensures)) found c.in-Some-first_around.ensures.some refl
    c.in_err-reserve.ensures.items)

pub returns-in_err-cut_in-clause-placed : goal.returns-in_err-cut_in-clause-placed
returns-in_err-cut_in-clause-placed g c =
    let found = Some-bins_of (is_at (g.BinId.Ord.cmp c.args.bin)) c.self.inside.bins.entries c.in-Some.target.now (sym c.in-Some.ensures.value) in
    rw (← c.self.view_is) (placing_at-refused g.BinId.Ord.cmp c.args.bin c.args.id c.args.location _ _ _ _ c.self.inside.next c.in-Some-first_around.index
    c.in-Some.target.now.bin c.from_residual-in_err-cut_in.result c.from_residual-in_err-cut_in.ensures.1 (omega (arith, c.in-Some-checked_add.ensures)) found
    c.in-Some-first_around.ensures.some c.in_err-cut_in.ensures.err c.in_ok-reserve.ensures.items)

pub invariant_of-self-2 : goal.invariant_of-self-2
invariant_of-self-2 g c =
    let r : Outstanding g.row.Id.Denot g.row.BinId.Denot = record {
      number = c.self.inside.next;
      id = c.args.id;
      bin = c.args.bin;
      location = c.args.location;
    } in
    (placed-pushed g.met.BinId.Ord.total r (bins_of c.self.inside.bins.entries) _ c.self.inside.outstanding.items _ c.self.inside.next c.in-Some-checked_add.next
    (omega (arith, c.in-Some-checked_add.ensures)) (omega (arith, c.in-Some-checked_add.ensures)) c.in_ok-cut_in.ensures.ok
    (c.push_reserved.ensures.items ∙ ap (λ items. items ++ r ∷ []) c.in_ok-reserve.ensures.items) refl c.self.invariant).1

pub returns-clause-always : goal.returns-clause-always
returns-clause-always g c = invariant_of-self-2 g c

pub returns-clause-placed : goal.returns-clause-placed
returns-clause-placed g c =
    let r : Outstanding g.row.Id.Denot g.row.BinId.Denot = record {
      number = c.self.inside.next;
      id = c.args.id;
      bin = c.args.bin;
      location = c.args.location;
    } in
    rw (← c.self.view_is) (placed-pushed g.met.BinId.Ord.total r (bins_of c.self.inside.bins.entries) _ c.self.inside.outstanding.items _ c.self.inside.next
    c.in-Some-checked_add.next (omega (arith, c.in-Some-checked_add.ensures)) (omega (arith, c.in-Some-checked_add.ensures)) c.in_ok-cut_in.ensures.ok
    (c.push_reserved.ensures.items ∙ ap (λ items. items ++ r ∷ []) c.in_ok-reserve.ensures.items) refl c.self.invariant).0
