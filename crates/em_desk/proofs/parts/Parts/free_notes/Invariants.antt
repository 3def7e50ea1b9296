use Rattle.std.proofs.Common.{◌≡◌, drop}
use Rattle.em_desk.specs.Notes.{freed_acts}
use Rattle.em_desk.specs.Standing.{Standing}
use Rattle.em_desk.proofs.parts.Parts.free_notes.Given as goal

abbrev pub invariant-loop-note : goal.invariant-loop-note
invariant-loop-note l =
    record {
      stands : Standing l.self l.core.0 (freed_acts (drop l.note-index l.notes));
      past : l.self.history.past ≡ l.fn.self.history.past;
      declarations : l.self.declarations ≡ l.fn.self.declarations;
      limits : l.self.limits ≡ l.fn.self.limits;
    }
