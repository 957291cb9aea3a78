use Rattle.rectangle_pack_sections.proofs.Std.{sym, ap, ◌∙◌, ◌++◌, ◌∷◌, [], get_or}
use Rattle.rectangle_pack_c.specs.declared.judging.RpEntry.{RpEntry}
use Rattle.rectangle_pack_c.specs.Judging.{entry_of}
use Rattle.rectangle_pack_c.proofs.JudgingLemmas.{entries_of-more}
use Rattle.rectangle_pack_c.proofs.judging.entries_of.Goals as goal

pub loop-i-preserved : goal.loop-i-preserved
loop-i-preserved c =
    let none : RpEntry = record { rect = record { width = 0; height = 0; depth = 0; group = 0 }; turns = 0 } in
    let pushed = rw (c.group_at-group.ensures, c.size_of.ensures, c.turns_of.ensures) at c.in_ok-push.ensures.items in
    pushed ∙ ap (λ l. l ++ entry_of c.loop-i.i (get_or c.args.entries.now c.loop-i.i none) ∷ []) c.loop-i.invariant
    ∙ sym (entries_of-more c.args.entries.now c.loop-i.i none c.loop-i-test.true)
