use Rattle.std.specs.Str.Iter.{split_ascii_whitespace_text}
use Rattle.packrun_lines.proofs.lemmas.Words.{IsNextWord-of_step}
use Rattle.packrun_lines.proofs.command.next_word.Goals as goal

pub returns : goal.returns
returns c = IsNextWord-of_step (split_ascii_whitespace_text c.args.words.now) (split_ascii_whitespace_text c.next.new.self) c.next.result c.next.ensures.steps
