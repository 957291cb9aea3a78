use Rattle.rectangle_pack_sections.proofs.Std.{◌∷◌, ap, arith, length, length-map, Bor}
use Rattle.rectangle_pack.proofs.lemmas.bound.Taken.{are_apart}
use Rattle.rectangle_pack.proofs.bound.apart.number_apart.Goals as goal

pub returns : goal.returns
returns g c =
    let now : Bor g.row.K.Denot → g.row.K.Denot = λ r. r.now in
    let (others, taken, is) = c.in_ok-take_joining.ensures in
    let most = rw c.in-Some.is at c.most_listed.ensures in (
      c.in-Some.first.now ∷ others,
      are_apart g.K.Ord.cmp c.args.exclusions.now _ c.in-Some.first.now others most taken,
      omega (arith, c.len.ensures, ap length is, length-map c.take_joining.new.taken.items now),
    )
