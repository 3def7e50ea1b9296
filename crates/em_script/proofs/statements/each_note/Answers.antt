use Rattle.std.proofs.Common.{◌≡◌, ◌<◌, length, false, sym}
use Rattle.std.proofs.lemmas.Result.{err_from_is_err_and}
use Rattle.em_script.specs.Form.{is_over}
use Rattle.em_script.specs.Names.{reading}
use Rattle.em_script.specs.Statements.{note}
use Rattle.em_script.proofs.NoteTokens.{note-takes}
use Rattle.em_script.proofs.Repeats.{up_to_end-more, up_to_end-none, up_to_end-done}
use Rattle.em_script.proofs.Follows.{stops-by}
use Rattle.em_script.proofs.statements.each_note.Goals as goal

pub returns-in_err-note : goal.returns-in_err-note
returns-in_err-note c =
    let p = err_from_is_err_and c.from_residual.result c.from_residual.ensures.1 in
    let on : is_over c.notes.line ≡ false = sym c.notes-test.ensures in
    rw (p.1, p.2) (stops-by c.in_err-note.field-0.0 ((note (reading c.args.names.now)).read c.notes.line) _ c.in_err-note.ensures (λ none. up_to_end-none (note (reading c.args.names.now)) c.notes.notes c.notes.line _ on none c.notes.invariant.so_far))

pub notes-smaller : goal.notes-smaller
notes-smaller c =
    let less : length c.note.new.line.tokens < length c.notes.line.tokens = (note-takes (reading c.args.names.now)) c.notes.line c.in_ok-note.field-0 c.note.new.line c.in_ok-note.ensures in
    less

pub notes-preserved : goal.notes-preserved
notes-preserved c =
    let on : is_over c.notes.line ≡ false = sym c.notes-test.ensures in
    record { so_far = rw c.in_ok-push.ensures.ok (up_to_end-more (note (reading c.args.names.now)) (note-takes (reading c.args.names.now)) c.notes.notes c.notes.line c.in_ok-note.field-0 c.note.new.line _ on c.in_ok-note.ensures c.notes.invariant.so_far) }

pub returns : goal.returns
returns c = let t = c.notes-test.false in let u = c.notes-test.ensures in up_to_end-done (note (reading c.args.names.now)) c.notes.notes c.notes.line _ (sym c.notes-test.ensures) c.notes.invariant.so_far
