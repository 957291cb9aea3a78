use Rattle.rectangle_pack_sections.proofs.Std.{◌∙◌, ◌≤◌, sym, refl, arith, length}
use Rattle.rectangle_pack_sections.proofs.lemmas.groups.GroupOrder.{groups_total}
use Rattle.rectangle_pack_sections.specs.Bins.{bins_of}
use Rattle.rectangle_pack_sections.specs.Groups.{entries_of}
use Rattle.rectangle_pack_packing.specs.Fitting.{names_left}
use Rattle.rectangle_pack_packing.specs.Placed.{placements_of}
use Rattle.rectangle_pack.proofs.lemmas.session.Packing.{next-entries, next-fits}
use Rattle.rectangle_pack.proofs.lemmas.session.Searched.{IsSession-found, found_few, kept_promised, no_bin_takes, searched_kept, searched_refused}
use Rattle.rectangle_pack.proofs.session.Session.pack_found.Given.{Over}
use Rattle.rectangle_pack.proofs.session.Session.pack_found.Goals.{After-into_placements-placements}
use Rattle.rectangle_pack.proofs.session.Session.pack_found.Goals.at as goal_at
use Rattle.rectangle_pack.proofs.session.Session.pack_found.Goals as goal

-- at most as many placements are made as the groups have entries
few : (g : Over) (c : After-into_placements-placements g) → length c.into_placements-placements.result.items ≤ entries_of c.args.groups.now
few g c =
    let found = rw c.in-Ok.is at c.pack_rects_found.ensures.answer in
    rw c.into_placements-placements.ensures (found_few (groups_total _ g.Id.Ord.cmp g.GroupId.Ord.cmp g.met.Id.Ord.total g.met.GroupId.Ord.total (λ a b. refl) (λ a b. refl) (λ a b. refl) (λ a b. refl))
    g.Id.Ord.cmp g.met.BinId.Ord.total c.args.groups.now c.args.options.now.turns.now.entries c.args.options.now.may_leave
    c.args.options.now.costs.now.entries (bins_of c.self.inside.bins.entries) (bins_of c.pack_rects_found.new.target_bins.entries)
    (placements_of c.in-Ok.found.packed) (names_left c.in-Ok.found.left) found.0)

pub number_all-requires-clause-room : goal.number_all-requires-clause-room
number_all-requires-clause-room g c =
    let at = (goal_at.number_all-requires-clause-room g c).After-into_placements-placements in
    omega (arith, few g at, next-entries c.args.groups.now _ c.groups.ensures.entries c.self.inside.next c.in-Some.next c.in-Some.ensures, c.in_ok-reserve.ensures.ok)

pub number_all-requires-clause-fits : goal.number_all-requires-clause-fits
number_all-requires-clause-fits g c =
    let at = (goal_at.number_all-requires-clause-fits g c).After-into_placements-placements in
    omega (arith, few g at, next-entries c.args.groups.now _ c.groups.ensures.entries c.self.inside.next c.in-Some.next c.in-Some.ensures)

pub overflow_add-self : goal.overflow_add-self
overflow_add-self g c =
    let at = (goal_at.overflow_add-self g c).After-into_placements-placements in
    omega (arith, few g at, next-entries c.args.groups.now _ c.groups.ensures.entries c.self.inside.next c.in-Some.next c.in-Some.ensures)

pub returns-in-Err-NotEnoughBinSpace-clause-packed : goal.returns-in-Err-NotEnoughBinSpace-clause-packed
returns-in-Err-NotEnoughBinSpace-clause-packed g c =
    let none = rw c.in-Err-NotEnoughBinSpace.field-0-is at c.in-Err-NotEnoughBinSpace.ensures.answer in
    searched_refused (groups_total _ g.Id.Ord.cmp g.GroupId.Ord.cmp g.met.Id.Ord.total g.met.GroupId.Ord.total (λ a b. refl) (λ a b. refl) (λ a b. refl) (λ a b. refl))
    g.Id.Ord.cmp g.met.BinId.Ord.total c.args.groups.now c.args.options.now.turns.now.entries c.args.options.now.may_leave
    c.args.options.now.costs.now.entries g.row.A.Denot (bins_of c.self.inside.bins.entries) (bins_of c.pack_rects_found.new.target_bins.entries)
    c.self.inside.outstanding.items c.reserve.new.self.items c.self.inside.next c.args.self.now c.self.view_is
    (next-fits c.args.groups.now _ c.groups.ensures.entries c.self.inside.next c.in-Some.next c.in-Some.ensures (omega arith))
    c.in_ok-reserve.ensures.items none.0 none.1 none.2

pub returns-in-Err-NotEnoughBinSpace-clause-promise : goal.returns-in-Err-NotEnoughBinSpace-clause-promise
returns-in-Err-NotEnoughBinSpace-clause-promise g c =
    let none = returns-in-Err-NotEnoughBinSpace-clause-packed g c in
    no_bin_takes (groups_total _ g.Id.Ord.cmp g.GroupId.Ord.cmp g.met.Id.Ord.total g.met.GroupId.Ord.total (λ a b. refl) (λ a b. refl) (λ a b. refl) (λ a b. refl))
    g.Id.Ord.cmp g.met.BinId.Ord.total c.args.groups.now c.args.options.now.turns.now.entries c.args.options.now.may_leave
    c.args.options.now.costs.now.entries c.args.self.now none.0 none.2

pub invariant_of-self-2 : goal.invariant_of-self-2
invariant_of-self-2 g c =
    let found = rw c.in-Ok.is at c.pack_rects_found.ensures.answer in
    IsSession-found (groups_total _ g.Id.Ord.cmp g.GroupId.Ord.cmp g.met.Id.Ord.total g.met.GroupId.Ord.total (λ a b. refl) (λ a b. refl) (λ a b. refl) (λ a b. refl))
    g.Id.Ord.cmp g.met.BinId.Ord.total c.args.groups.now c.args.options.now.turns.now.entries c.args.options.now.may_leave
    c.args.options.now.costs.now.entries (bins_of c.self.inside.bins.entries) _ (placements_of c.in-Ok.found.packed) (names_left c.in-Ok.found.left)
    c.self.inside.outstanding.items _ c.self.inside.next _ found.0
    (c.number_all.ensures ∙ rw (c.in_ok-reserve.ensures.items, c.into_placements-placements.ensures) refl)
    (rw (sym c.into_placements-placements.ensures) (omega arith)) c.self.invariant

pub returns-clause-packed : goal.returns-clause-packed
returns-clause-packed g c =
    let found = rw c.in-Ok.is at c.pack_rects_found.ensures.answer in
    searched_kept (groups_total _ g.Id.Ord.cmp g.GroupId.Ord.cmp g.met.Id.Ord.total g.met.GroupId.Ord.total (λ a b. refl) (λ a b. refl) (λ a b. refl) (λ a b. refl))
    g.Id.Ord.cmp g.met.BinId.Ord.total c.args.groups.now c.args.options.now.turns.now.entries c.args.options.now.may_leave
    c.args.options.now.costs.now.entries (bins_of c.self.inside.bins.entries) _ c.self.inside.outstanding.items _ c.self.inside.next _ c.args.self.now
    c.self.view_is
    (next-fits c.args.groups.now _ c.groups.ensures.entries c.self.inside.next c.in-Some.next c.in-Some.ensures (omega arith))
    (placements_of c.in-Ok.found.packed) _ found.0 found.2 refl
    (rw (sym c.into_placements-placements.ensures) (omega arith))
    (c.number_all.ensures ∙ rw (c.in_ok-reserve.ensures.items, c.into_placements-placements.ensures) refl)
    (rw (sym c.into_placements-placements.ensures) (omega arith))

pub returns-clause-promise : goal.returns-clause-promise
returns-clause-promise g c =
    let kept = returns-clause-packed g c in
    kept_promised (groups_total _ g.Id.Ord.cmp g.GroupId.Ord.cmp g.met.Id.Ord.total g.met.GroupId.Ord.total (λ a b. refl) (λ a b. refl) (λ a b. refl) (λ a b. refl))
    g.Id.Ord.cmp g.met.BinId.Ord.total c.args.groups.now c.args.options.now.turns.now.entries c.args.options.now.may_leave
    c.args.options.now.costs.now.entries c.args.self.now _ _ kept.1

pub returns-clause-always : goal.returns-clause-always
returns-clause-always g c = invariant_of-self-2 g c
