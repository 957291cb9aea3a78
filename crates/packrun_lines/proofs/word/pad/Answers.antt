use Rattle.std.proofs.Common.{◌++◌, drop, length, replicate, ap, ◌∙◌}
use Rattle.packrun_lines.proofs.lemmas.Names.{append-padded}
use Rattle.packrun_lines.proofs.word.pad.Goals as goal

pub returns : goal.returns
returns c =
    let name = c.args.name.now in
    ap (λ l. l ++ drop (length name) (replicate 14 0)) c.copy_from_slice.ensures.after ∙ append-padded 14 name c.requires
