use Rattle.std.proofs.Common.{IsTrue, take}
use Rattle.std.specs.List.{list_all}
use Rattle.em_log.specs.Lawful.{is_word}
use Rattle.em_log.proofs.ask.words_are_typed.Given as goal

abbrev pub invariant-loop-word : goal.invariant-loop-word
invariant-loop-word l = IsTrue (list_all is_word (take l.word-index l.words))
