use Rattle.std.proofs.Common.{◌∙◌, ap, map}
use Rattle.std.proofs.lemmas.List.{take_all}
use Rattle.em_body.specs.Environments.{env_of}
use Rattle.em_body.proofs.AsksOf.{note_by, map-notes}
use Rattle.em_body.proofs.asks.notes_of.Goals as goal

pub returns : goal.returns
returns c =
    c.loop-note.invariant
    ∙ ap (λ ns. map (note_by (env_of c.args.v.now)) ns) (take_all c.loop-note.note-index c.args.notes.now c.loop-note-test.false)
    ∙ map-notes (env_of c.args.v.now) c.args.notes.now
