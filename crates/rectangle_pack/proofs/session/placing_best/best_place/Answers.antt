use Rattle.rectangle_pack_sections.proofs.Std.{sym, subst, Option, Some, IfSome, Bor, option_map, is_at}
use Rattle.rectangle_pack_sections.specs.Bins.{bins_of}
use Rattle.rectangle_pack.specs.PlacingBest.{HasNoPlace, IsThere}
use Rattle.rectangle_pack.specs.private.BestPlaces.{IsBestPlace}
use Rattle.rectangle_pack.proofs.lemmas.session.Keeps.{Some-bins_of, None-bins_of}
use Rattle.rectangle_pack.proofs.lemmas.session.PlacingBest.{place-named, seen_all-found, found-absent}
use Rattle.rectangle_pack.proofs.session.placing_best.best_place.Goals as goal

pub returns-in_err-bin-in-Some-clause-none : goal.returns-in_err-bin-in-Some-clause-none
returns-in_err-bin-in-Some-clause-none g c =
    let cmp = g.B.Ord.cmp in
    let bins = bins_of c.args.bins.now.entries in
    let there : IsThere cmp (Some c.in-Some.name.now) bins =
    subst (λ (n : Option (Bor g.row.B.Denot)). IsThere cmp (option_map (λ b. b.now) n) bins) c.in-Some.is c.requires in
    absurd (found-absent cmp c.in-Some.name.now bins there
    (None-bins_of (is_at (cmp c.in-Some.name.now)) c.args.bins.now.entries (sym c.in_err-bin-in-Some.ensures.value)))

pub returns-in_err-index-in-Some-clause-none : goal.returns-in_err-index-in-Some-clause-none
returns-in_err-index-in-Some-clause-none g c =
    let cmp = g.B.Ord.cmp in
    let bins = bins_of c.args.bins.now.entries in
    let held = c.in_ok-bin-in-Some.target.now in
    let found = Some-bins_of (is_at (cmp c.in-Some.name.now)) c.args.bins.now.entries held (sym c.in_ok-bin-in-Some.ensures.value) in
    let none : HasNoPlace cmp (Some c.in-Some.name.now) c.args.size.now bins = (held.bin, found, c.in_err-index-in-Some.ensures.none) in
    rw c.from_residual-in_err-index-in-Some.ensures
    (subst (λ (n : Option (Bor g.row.B.Denot)). HasNoPlace cmp (option_map (λ b. b.now) n) c.args.size.now bins) (sym c.in-Some.is) none)

pub returns-in_ok-index-in-Some-clause-some : goal.returns-in_ok-index-in-Some-clause-some
returns-in_ok-index-in-Some-clause-some g c =
    let cmp = g.B.Ord.cmp in
    let bins = bins_of c.args.bins.now.entries in
    let held = c.in_ok-bin-in-Some.target.now in
    let key = c.in_ok-bin-in-Some.bin.now in
    let found = Some-bins_of (is_at (cmp c.in-Some.name.now)) c.args.bins.now.entries held (sym c.in_ok-bin-in-Some.ensures.value) in
    subst (λ (n : Option (Bor g.row.B.Denot)). IsBestPlace cmp (option_map (λ b. b.now) n) c.args.size.now bins key c.in_ok-index-in-Some.index) (sym c.in-Some.is)
    (place-named cmp g.met.B.Ord.total c.args.size.now bins c.in-Some.name.now key held.bin c.in_ok-index-in-Some.index c.in_ok-index-in-Some.rest
    c.in_ok-bin-in-Some.ensures.same_key found c.in_ok-index-in-Some.ensures.some)

pub returns-in-None-clause-some : goal.returns-in-None-clause-some
returns-in-None-clause-some g c =
    let cmp = g.B.Ord.cmp in
    let bins = bins_of c.args.bins.now.entries in
    subst (λ (n : Option (Bor g.row.B.Denot)). IfSome c.best_of_all.result (λ b. IsBestPlace cmp (option_map (λ b. b.now) n) c.args.size.now bins b.bin.now b.index))
    (sym c.in-None.is) (seen_all-found cmp g.met.B.Ord.total c.args.size.now bins c.best_of_all.result c.best_of_all.ensures.some)
