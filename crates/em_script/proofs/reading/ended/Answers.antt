use Rattle.std.proofs.Common.{Ok, Err, cond, ap, sym, ◌∙◌}
use Rattle.em_script.specs.State.{state_of}
use Rattle.em_script.specs.Reading.{is_done}
use Rattle.em_script.proofs.Finding.{found-end, not-done}
use Rattle.em_script.proofs.reading.ended.Goals as goal

pub returns-in-Ok : goal.returns-in-Ok
returns-in-Ok c =
    let s = state_of c.args.draft in
    found-end c.args.number s ∙ ap (λ p. cond (is_done p) (Ok s.graph) (Err (c.args.number, 11))) c.in-Done.is ∙ ap (λ g. Ok g) (sym c.in-Ok.ensures)

pub returns-in_default : goal.returns-in_default
returns-in_default c =
    let s = state_of c.args.draft in
    let e = found-end c.args.number s ∙ ap (λ b. cond b (Ok s.graph) (Err (c.args.number, 11))) (not-done c.args.draft.phase c.in_default.not-Done) in
    rw (c.refused.ensures) e
