use Rattle.std.specs.Bool.{OnTrue, OnFalse}
use Rattle.rectangle_pack_sections.proofs.Std.{sym, subst, Option, Bor, option_map}
use Rattle.rectangle_pack_sections.specs.Bins.{bins_of}
use Rattle.rectangle_pack.specs.PlacingBest.{IsThere, IsUnknown}
use Rattle.rectangle_pack.proofs.lemmas.session.PlacingBest.{named-there}
use Rattle.rectangle_pack.proofs.session.placing_best.is_there.Goals as goal

pub returns-in-Some-clause-yes : goal.returns-in-Some-clause-yes
returns-in-Some-clause-yes g c =
    let bins = c.args.bins.now.entries in
    subst (λ (n : Option (Bor g.row.B.Denot)). OnTrue c.contains_key.result (IsThere g.B.Ord.cmp (option_map (λ b. b.now) n) (bins_of bins))) (sym c.in-Some.is)
    (named-there g.B.Ord.cmp c.in-Some.name.now bins c.contains_key.result c.contains_key.ensures).0

pub returns-in-Some-clause-no : goal.returns-in-Some-clause-no
returns-in-Some-clause-no g c =
    let bins = c.args.bins.now.entries in
    subst (λ (n : Option (Bor g.row.B.Denot)). OnFalse c.contains_key.result (IsUnknown g.B.Ord.cmp (option_map (λ b. b.now) n) (bins_of bins))) (sym c.in-Some.is)
    (named-there g.B.Ord.cmp c.in-Some.name.now bins c.contains_key.result c.contains_key.ensures).1
