use Rattle.std.proofs.Common.{IsTrue, take}
use Rattle.std.specs.List.{list_all}
use Rattle.em_log.specs.Lawful.{is_word}
use Rattle.em_log.proofs.ask.notes_are_typed.Given as goal

abbrev pub invariant-loop-note : goal.invariant-loop-note
invariant-loop-note l = IsTrue (list_all (λ n. is_word n.word) (take l.note-index l.notes))
