use Rattle.std.proofs.Common.{◌≡◌, ◌∙◌, ◌+◌, ◌==◌, ℕ, suc, Bool, true, false, List, take, ap, sym, subst, arith}
use Rattle.std.specs.List.{list_any}
use Rattle.em_log.specs.declared.ids.Note.{Note}
use Rattle.em_desk.proofs.HandedNotes.{SoFar, so-far-next, refused-twice, refused-by-rule}
use Rattle.em_desk.proofs.notes.refusal.Goals as goal

-- whether the note stands among those before it
named : (ns : List Note) (i before w : ℕ) (r b : Bool) → before ≡ i → r ≡ list_any (λ n. n.word == w) (take before ns) → r ≡ b → list_any (λ n. n.word == w) (take i ns) ≡ b
named ns i before w r b at is told = ap (λ (m : ℕ). list_any (λ n. n.word == w) (take m ns)) (sym at) ∙ (sym is ∙ told)

pub returns-then-names : goal.returns-then-names
returns-then-names c = λ s stands.
    refused-twice s c.args.core.0 c.args.place c.loop-note.note-index c.args.notes.now _ (c.loop-note.invariant.1 s stands) c.loop-note-test.true
    (named c.args.notes.now c.loop-note.note-index c.loop-note.before _ c.names.result true c.loop-note.invariant.0 c.names.ensures c.if-names.true)

pub returns-in-Err : goal.returns-in-Err
returns-in-Err c = λ s stands.
    refused-by-rule s c.args.core.0 c.args.place c.loop-note.note-index c.args.notes.now _ c.in-Err.fault (c.loop-note.invariant.1 s stands) c.loop-note-test.true
    (named c.args.notes.now c.loop-note.note-index c.loop-note.before _ c.names.result false c.loop-note.invariant.0 c.names.ensures c.if-names.false)
    (c.in-Err.ensures.answer s stands)

pub loop-note-preserved : goal.loop-note-preserved
loop-note-preserved c =
    let one : suc c.loop-note.note-index ≡ c.loop-note.note-index + 1 = omega arith in (
      ap (λ (n : ℕ). n + 1) c.loop-note.invariant.0,
      λ s stands.
          subst (SoFar s c.args.core.0 c.args.place c.args.notes.now) one
          (so-far-next s c.args.core.0 c.args.place c.loop-note.note-index c.args.notes.now _ (c.loop-note.invariant.1 s stands) c.loop-note-test.true
          (named c.args.notes.now c.loop-note.note-index c.loop-note.before _ c.names.result false c.loop-note.invariant.0 c.names.ensures c.if-names.false)
          (c.in_default.ensures.answer s stands)),
    )
