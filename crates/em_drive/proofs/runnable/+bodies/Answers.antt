use Rattle.std.proofs.Common.{refl, ap, sym, ◌∙◌}
use Rattle.em_body.specs.Everywhere.{everywhere, everywhere_in}
use Rattle.em_drive.specs.Runnable as runnable
use Rattle.em_drive.proofs.Everywhere.{everywhere-if, everywhere-repeat}
use Rattle.em_drive.proofs.runnable.+bodies.Goals as goal

pub is_runnable_statement-returns-then-first : goal.is_runnable_statement-returns-then-first
is_runnable_statement-returns-then-first t c =
    let p = runnable.is_runnable_statement in
    let a = sym (ap (everywhere_in p) c.as_slice.ensures) ∙ (sym c.is_runnable_body-first.ensures ∙ c.if-first.true) in
    let b = c.is_runnable_body-second.ensures ∙ ap (everywhere_in p) c.as_slice-in-If.ensures in
    b ∙ sym (ap (everywhere p) c.in-If.is ∙ (everywhere-if p c.in-If.test c.in-If.yes c.in-If.no c.in-If.has_else ∙ rw a refl))

pub is_runnable_statement-returns-else-first : goal.is_runnable_statement-returns-else-first
is_runnable_statement-returns-else-first t c =
    let p = runnable.is_runnable_statement in
    let a = sym (ap (everywhere_in p) c.as_slice.ensures) ∙ (sym c.is_runnable_body-first.ensures ∙ c.if-first.false) in
    c.if-first.false ∙ sym (ap (everywhere p) c.in-If.is ∙ (everywhere-if p c.in-If.test c.in-If.yes c.in-If.no c.in-If.has_else ∙ rw a refl))

pub is_runnable_statement-returns-in-Repeat : goal.is_runnable_statement-returns-in-Repeat
is_runnable_statement-returns-in-Repeat t c =
    let p = runnable.is_runnable_statement in
    c.is_runnable_body.ensures ∙ (ap (everywhere_in p) c.as_slice-in-Repeat.ensures
    ∙ sym (ap (everywhere p) c.in-Repeat.is ∙ everywhere-repeat p c.in-Repeat.times c.in-Repeat.block))
