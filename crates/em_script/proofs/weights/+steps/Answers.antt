use Rattle.std.proofs.Common.{◌≡◌, ◌*◌, min, max, take, ap, sym, ◌∙◌, arith}
use Rattle.em_log.specs.Weights.{steps, steps_of}
use Rattle.em_script.proofs.Weighing.{min-sum, min-max, min-more, min-product, steps-if, steps-repeat, steps_of-more}
use Rattle.em_script.proofs.weights.+steps.Goals as goal

pub steps-returns-in-If : goal.steps-returns-in-If
steps-returns-in-If t c =
    let e = c.args.error in
    let yes = steps_of e c.in-If.yes in
    let no = steps_of e c.in-If.no in
    let a : c.steps_of.result ≡ min yes 65537 = c.steps_of.ensures ∙ ap (λ b. min (steps_of e b) 65537) c.as_slice.ensures in
    let b : c.steps_of-in-If.result ≡ min no 65537 = c.steps_of-in-If.ensures ∙ ap (λ b. min (steps_of e b) 65537) c.as_slice-in-If.ensures in
    let m : c.max-most.result ≡ min (max yes no) 65537 = c.max-most.ensures ∙ rw (a, b) (min-max yes no 65537) in
    c.sum.ensures ∙ rw m (min-more (max yes no) 65537)
    ∙ ap (λ m. min m 65537) (sym (ap (steps e) c.in-If.is ∙ steps-if e c.in-If.test c.in-If.yes c.in-If.no c.in-If.has_else))

pub steps-returns-in-Repeat : goal.steps-returns-in-Repeat
steps-returns-in-Repeat t c =
    let e = c.args.error in
    let all = steps_of e c.in-Repeat.block in
    let a : c.steps_of-in-Repeat.result ≡ min all 65537 = c.steps_of-in-Repeat.ensures ∙ ap (λ b. min (steps_of e b) 65537) c.as_slice-in-Repeat.ensures in
    let m : c.product.result ≡ min (c.in-Repeat.times * all) 65537 = c.product.ensures ∙ rw a (min-product c.in-Repeat.times all 65537) in
    c.sum-in-Repeat.ensures ∙ rw m (min-more (c.in-Repeat.times * all) 65537)
    ∙ ap (λ m. min m 65537) (sym (ap (steps e) c.in-Repeat.is ∙ steps-repeat e c.in-Repeat.times c.in-Repeat.block))

pub steps_of-loop-statement-preserved : goal.steps_of-loop-statement-preserved
steps_of-loop-statement-preserved t c =
    let e = c.args.error in
    let i = c.loop-statement.statement-index in
    let s = c.statement-item.result in
    let so_far = steps_of e (take i c.args.block.now) in
    let more = steps_of-more e c.args.block.now i s (omega arith) c.statement-item.is in
    c.sum-total.ensures ∙ rw (c.loop-statement.invariant, c.steps.ensures) (min-sum so_far (steps e s) 65537) ∙ ap (λ m. min m 65537) (sym more)
