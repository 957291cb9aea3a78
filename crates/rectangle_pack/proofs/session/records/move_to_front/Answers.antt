use Rattle.rectangle_pack_sections.proofs.Std.{◌+◌, arith, length-take}
use Rattle.rectangle_pack.proofs.lemmas.session.Records.{rest-turned}
use Rattle.rectangle_pack.proofs.session.records.move_to_front.Goals as goal

pub returns-clause-rest : goal.returns-clause-rest
returns-clause-rest g c =
    let xs = c.args.items.now in
    let i = c.args.index in
    rest-turned xs c.rotate_right.new.self i (i + 1) _ c.requires (omega arith) (omega (arith, length-take (i + 1) xs, c.requires)) c.rotate_right.ensures.after
