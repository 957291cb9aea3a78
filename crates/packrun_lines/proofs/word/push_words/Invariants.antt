use Rattle.std.proofs.Common.{◌≡◌, ◌++◌}
use Rattle.packrun_lines.specs.private.Commands.{words_left}
use Rattle.packrun_lines.proofs.word.push_words.Given as goal

abbrev pub invariant-loop-name : goal.invariant-loop-name
invariant-loop-name g l = l.words.items ++ words_left l.name-iterator ≡ l.initial.words.items ++ words_left l.initial.names
