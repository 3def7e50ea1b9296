use Rattle.std.proofs.Common.{◌≡◌, map, take}
use Rattle.em_body.specs.Environments.{env_of}
use Rattle.em_body.proofs.AsksOf.{note_by}
use Rattle.em_body.proofs.asks.notes_of.Given as goal

abbrev pub invariant-loop-note : goal.invariant-loop-note
invariant-loop-note l = l.all ≡ map (note_by (env_of l.v)) (take l.note-index l.notes)
