use Rattle.std.proofs.Common.{◌≡◌, min, take, ap, sym, ◌∙◌, arith}
use Rattle.em_log.specs.Weights.{weight, weight_of}
use Rattle.em_script.proofs.Weighing.{min-sum, min-max, min-product, weight-if, weight-repeat, weight_of-more}
use Rattle.em_script.proofs.weights.+weights.Goals as goal

pub weight-returns-in-If : goal.weight-returns-in-If
weight-returns-in-If t c =
    let e = c.args.error in
    let yes = weight_of e c.in-If.yes in
    let no = weight_of e c.in-If.no in
    let a : c.weight_of-first.result ≡ min yes 257 = c.weight_of-first.ensures ∙ ap (λ b. min (weight_of e b) 257) c.as_slice.ensures in
    let b : c.weight_of-second.result ≡ min no 257 = c.weight_of-second.ensures ∙ ap (λ b. min (weight_of e b) 257) c.as_slice-in-If.ensures in
    c.max.ensures ∙ rw (a, b) (min-max yes no 257)
    ∙ ap (λ m. min m 257) (sym (ap (weight e) c.in-If.is ∙ weight-if e c.in-If.test c.in-If.yes c.in-If.no c.in-If.has_else))

pub weight-returns-in-Repeat : goal.weight-returns-in-Repeat
weight-returns-in-Repeat t c =
    let e = c.args.error in
    let all = weight_of e c.in-Repeat.block in
    let a : c.weight_of.result ≡ min all 257 = c.weight_of.ensures ∙ ap (λ b. min (weight_of e b) 257) c.as_slice-in-Repeat.ensures in
    c.product.ensures ∙ rw a (min-product c.in-Repeat.times all 257)
    ∙ ap (λ m. min m 257) (sym (ap (weight e) c.in-Repeat.is ∙ weight-repeat e c.in-Repeat.times c.in-Repeat.block))

pub weight_of-loop-statement-preserved : goal.weight_of-loop-statement-preserved
weight_of-loop-statement-preserved t c =
    let e = c.args.error in
    let i = c.loop-statement.statement-index in
    let s = c.statement-item.result in
    let so_far = weight_of e (take i c.args.block.now) in
    let more = weight_of-more e c.args.block.now i s (omega arith) c.statement-item.is in
    c.sum-total.ensures ∙ rw (c.loop-statement.invariant, c.weight.ensures) (min-sum so_far (weight e s) 257) ∙ ap (λ m. min m 257) (sym more)
