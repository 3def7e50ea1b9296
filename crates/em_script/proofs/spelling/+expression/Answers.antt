-- Each operand has fewer tokens, and the tokens of an expression are those of its parts in order.
use Rattle.std.proofs.Common.{◌≡◌, ◌++◌, ◌∷◌, ◌+◌, ◌<◌, [], arith, ap, sym, ◌∙◌}
use Rattle.std.specs.Prelude.{codes}
use Rattle.em_log.specs.WellFormed.{tokens}
use Rattle.em_script.specs.Expressions.{expression}
use Rattle.em_script.specs.Lines.{spaced}
use Rattle.em_script.proofs.Answers.{on_ok}
use Rattle.em_script.proofs.Spacing.{spaced_then}
use Rattle.em_script.proofs.ExpressionTokens.{some_tokens, words-Word, words-Cell, tokens-Word, tokens-Cell, words-Add, tokens-Add, words-Sub, tokens-Sub, words-Mul, tokens-Mul, words-And, tokens-And, words-Or, tokens-Or, words-Xor, tokens-Xor, words-Shr, tokens-Shr, words-Lt, tokens-Lt, words-Eq, tokens-Eq}
use Rattle.em_script.proofs.spelling.+expression.Goals as goal

pub expression-expression-requires : goal.expression-expression-requires
expression-expression-requires t c =
    let h : tokens c.args.expr.now ≡ t = c.decreases in
    let i = ap tokens c.in-Word.is ∙ tokens-Word c.in-Word.operand in
    let k = ap tokens c.get.ensures in
    let less : tokens c.get.result.now < t = omega arith in
    (less, tt)

pub expression-returns-in_ok-word-in-Word : goal.expression-returns-in_ok-word-in-Word
expression-returns-in_ok-word-in-Word t c =
    let operand = expression.write c.get.result.now in
    let is = ap expression.write c.in-Word.is ∙ words-Word c.in-Word.operand ∙ ap (λ e. codes "word" ∷ expression.write e) (sym c.get.ensures) in
    let both = spaced_then c.args.text.now c.word-in-Word.new.self c.expression.new.text (codes "word" ∷ []) operand c.in_ok-word-in-Word.ensures in
    on_ok c.expression.result (λ more. both more ∙ sym (ap (λ ts. c.args.text.now ++ spaced ts) is)) c.expression.ensures

pub expression-expression-requires-in-Cell : goal.expression-expression-requires-in-Cell
expression-expression-requires-in-Cell t c =
    let h : tokens c.args.expr.now ≡ t = c.decreases in
    let i = ap tokens c.in-Cell.is ∙ tokens-Cell c.in-Cell.operand in
    let k = ap tokens c.get-in-Cell.ensures in
    let less : tokens c.get-in-Cell.result.now < t = omega arith in
    (less, tt)

pub expression-returns-in_ok-word-in-Cell : goal.expression-returns-in_ok-word-in-Cell
expression-returns-in_ok-word-in-Cell t c =
    let operand = expression.write c.get-in-Cell.result.now in
    let is = ap expression.write c.in-Cell.is ∙ words-Cell c.in-Cell.operand ∙ ap (λ e. codes "cell" ∷ expression.write e) (sym c.get-in-Cell.ensures) in
    let both = spaced_then c.args.text.now c.word-in-Cell.new.self c.expression-in-Cell.new.text (codes "cell" ∷ []) operand c.in_ok-word-in-Cell.ensures in
    on_ok c.expression-in-Cell.result (λ more. both more ∙ sym (ap (λ ts. c.args.text.now ++ spaced ts) is)) c.expression-in-Cell.ensures

pub expression-operation-requires : goal.expression-operation-requires
expression-operation-requires t c =
    let h : tokens c.args.expr.now ≡ t = c.decreases in
    let i = ap tokens c.in-Add.is ∙ tokens-Add c.in-Add.first c.in-Add.second in
    let k = ap tokens c.get-in-Add.ensures in
    let l = ap tokens c.get-in-Add-2.ensures in
    let less : tokens c.get-in-Add.result.now + tokens c.get-in-Add-2.result.now < t = omega arith in
    (less, tt)

pub expression-returns-in-Add : goal.expression-returns-in-Add
expression-returns-in-Add t c =
    let is = ap expression.write c.in-Add.is ∙ words-Add c.in-Add.first c.in-Add.second in
    let same = ap (λ e. codes "add" ∷ (expression.write e ++ expression.write c.in-Add.second)) c.get-in-Add.ensures in
    let same_too = ap (λ e. codes "add" ∷ (expression.write c.get-in-Add.result.now ++ expression.write e)) c.get-in-Add-2.ensures in
    on_ok c.operation.result (λ wrote. wrote ∙ ap (λ ts. c.args.text.now ++ spaced ts) (same_too ∙ same ∙ sym is)) c.operation.ensures

pub expression-operation-requires-in-Sub : goal.expression-operation-requires-in-Sub
expression-operation-requires-in-Sub t c =
    let h : tokens c.args.expr.now ≡ t = c.decreases in
    let i = ap tokens c.in-Sub.is ∙ tokens-Sub c.in-Sub.first c.in-Sub.second in
    let k = ap tokens c.get-in-Sub.ensures in
    let l = ap tokens c.get-in-Sub-2.ensures in
    let less : tokens c.get-in-Sub.result.now + tokens c.get-in-Sub-2.result.now < t = omega arith in
    (less, tt)

pub expression-returns-in-Sub : goal.expression-returns-in-Sub
expression-returns-in-Sub t c =
    let is = ap expression.write c.in-Sub.is ∙ words-Sub c.in-Sub.first c.in-Sub.second in
    let same = ap (λ e. codes "sub" ∷ (expression.write e ++ expression.write c.in-Sub.second)) c.get-in-Sub.ensures in
    let same_too = ap (λ e. codes "sub" ∷ (expression.write c.get-in-Sub.result.now ++ expression.write e)) c.get-in-Sub-2.ensures in
    on_ok c.operation-in-Sub.result (λ wrote. wrote ∙ ap (λ ts. c.args.text.now ++ spaced ts) (same_too ∙ same ∙ sym is)) c.operation-in-Sub.ensures

pub expression-operation-requires-in-Mul : goal.expression-operation-requires-in-Mul
expression-operation-requires-in-Mul t c =
    let h : tokens c.args.expr.now ≡ t = c.decreases in
    let i = ap tokens c.in-Mul.is ∙ tokens-Mul c.in-Mul.first c.in-Mul.second in
    let k = ap tokens c.get-in-Mul.ensures in
    let l = ap tokens c.get-in-Mul-2.ensures in
    let less : tokens c.get-in-Mul.result.now + tokens c.get-in-Mul-2.result.now < t = omega arith in
    (less, tt)

pub expression-returns-in-Mul : goal.expression-returns-in-Mul
expression-returns-in-Mul t c =
    let is = ap expression.write c.in-Mul.is ∙ words-Mul c.in-Mul.first c.in-Mul.second in
    let same = ap (λ e. codes "mul" ∷ (expression.write e ++ expression.write c.in-Mul.second)) c.get-in-Mul.ensures in
    let same_too = ap (λ e. codes "mul" ∷ (expression.write c.get-in-Mul.result.now ++ expression.write e)) c.get-in-Mul-2.ensures in
    on_ok c.operation-in-Mul.result (λ wrote. wrote ∙ ap (λ ts. c.args.text.now ++ spaced ts) (same_too ∙ same ∙ sym is)) c.operation-in-Mul.ensures

pub expression-operation-requires-in-And : goal.expression-operation-requires-in-And
expression-operation-requires-in-And t c =
    let h : tokens c.args.expr.now ≡ t = c.decreases in
    let i = ap tokens c.in-And.is ∙ tokens-And c.in-And.first c.in-And.second in
    let k = ap tokens c.get-in-And.ensures in
    let l = ap tokens c.get-in-And-2.ensures in
    let less : tokens c.get-in-And.result.now + tokens c.get-in-And-2.result.now < t = omega arith in
    (less, tt)

pub expression-returns-in-And : goal.expression-returns-in-And
expression-returns-in-And t c =
    let is = ap expression.write c.in-And.is ∙ words-And c.in-And.first c.in-And.second in
    let same = ap (λ e. codes "and" ∷ (expression.write e ++ expression.write c.in-And.second)) c.get-in-And.ensures in
    let same_too = ap (λ e. codes "and" ∷ (expression.write c.get-in-And.result.now ++ expression.write e)) c.get-in-And-2.ensures in
    on_ok c.operation-in-And.result (λ wrote. wrote ∙ ap (λ ts. c.args.text.now ++ spaced ts) (same_too ∙ same ∙ sym is)) c.operation-in-And.ensures

pub expression-operation-requires-in-Or : goal.expression-operation-requires-in-Or
expression-operation-requires-in-Or t c =
    let h : tokens c.args.expr.now ≡ t = c.decreases in
    let i = ap tokens c.in-Or.is ∙ tokens-Or c.in-Or.first c.in-Or.second in
    let k = ap tokens c.get-in-Or.ensures in
    let l = ap tokens c.get-in-Or-2.ensures in
    let less : tokens c.get-in-Or.result.now + tokens c.get-in-Or-2.result.now < t = omega arith in
    (less, tt)

pub expression-returns-in-Or : goal.expression-returns-in-Or
expression-returns-in-Or t c =
    let is = ap expression.write c.in-Or.is ∙ words-Or c.in-Or.first c.in-Or.second in
    let same = ap (λ e. codes "or" ∷ (expression.write e ++ expression.write c.in-Or.second)) c.get-in-Or.ensures in
    let same_too = ap (λ e. codes "or" ∷ (expression.write c.get-in-Or.result.now ++ expression.write e)) c.get-in-Or-2.ensures in
    on_ok c.operation-in-Or.result (λ wrote. wrote ∙ ap (λ ts. c.args.text.now ++ spaced ts) (same_too ∙ same ∙ sym is)) c.operation-in-Or.ensures

pub expression-operation-requires-in-Xor : goal.expression-operation-requires-in-Xor
expression-operation-requires-in-Xor t c =
    let h : tokens c.args.expr.now ≡ t = c.decreases in
    let i = ap tokens c.in-Xor.is ∙ tokens-Xor c.in-Xor.first c.in-Xor.second in
    let k = ap tokens c.get-in-Xor.ensures in
    let l = ap tokens c.get-in-Xor-2.ensures in
    let less : tokens c.get-in-Xor.result.now + tokens c.get-in-Xor-2.result.now < t = omega arith in
    (less, tt)

pub expression-returns-in-Xor : goal.expression-returns-in-Xor
expression-returns-in-Xor t c =
    let is = ap expression.write c.in-Xor.is ∙ words-Xor c.in-Xor.first c.in-Xor.second in
    let same = ap (λ e. codes "xor" ∷ (expression.write e ++ expression.write c.in-Xor.second)) c.get-in-Xor.ensures in
    let same_too = ap (λ e. codes "xor" ∷ (expression.write c.get-in-Xor.result.now ++ expression.write e)) c.get-in-Xor-2.ensures in
    on_ok c.operation-in-Xor.result (λ wrote. wrote ∙ ap (λ ts. c.args.text.now ++ spaced ts) (same_too ∙ same ∙ sym is)) c.operation-in-Xor.ensures

pub expression-operation-requires-in-Shr : goal.expression-operation-requires-in-Shr
expression-operation-requires-in-Shr t c =
    let h : tokens c.args.expr.now ≡ t = c.decreases in
    let i = ap tokens c.in-Shr.is ∙ tokens-Shr c.in-Shr.first c.in-Shr.second in
    let k = ap tokens c.get-in-Shr.ensures in
    let l = ap tokens c.get-in-Shr-2.ensures in
    let less : tokens c.get-in-Shr.result.now + tokens c.get-in-Shr-2.result.now < t = omega arith in
    (less, tt)

pub expression-returns-in-Shr : goal.expression-returns-in-Shr
expression-returns-in-Shr t c =
    let is = ap expression.write c.in-Shr.is ∙ words-Shr c.in-Shr.first c.in-Shr.second in
    let same = ap (λ e. codes "shr" ∷ (expression.write e ++ expression.write c.in-Shr.second)) c.get-in-Shr.ensures in
    let same_too = ap (λ e. codes "shr" ∷ (expression.write c.get-in-Shr.result.now ++ expression.write e)) c.get-in-Shr-2.ensures in
    on_ok c.operation-in-Shr.result (λ wrote. wrote ∙ ap (λ ts. c.args.text.now ++ spaced ts) (same_too ∙ same ∙ sym is)) c.operation-in-Shr.ensures

pub expression-operation-requires-in-Lt : goal.expression-operation-requires-in-Lt
expression-operation-requires-in-Lt t c =
    let h : tokens c.args.expr.now ≡ t = c.decreases in
    let i = ap tokens c.in-Lt.is ∙ tokens-Lt c.in-Lt.first c.in-Lt.second in
    let k = ap tokens c.get-in-Lt.ensures in
    let l = ap tokens c.get-in-Lt-2.ensures in
    let less : tokens c.get-in-Lt.result.now + tokens c.get-in-Lt-2.result.now < t = omega arith in
    (less, tt)

pub expression-returns-in-Lt : goal.expression-returns-in-Lt
expression-returns-in-Lt t c =
    let is = ap expression.write c.in-Lt.is ∙ words-Lt c.in-Lt.first c.in-Lt.second in
    let same = ap (λ e. codes "lt" ∷ (expression.write e ++ expression.write c.in-Lt.second)) c.get-in-Lt.ensures in
    let same_too = ap (λ e. codes "lt" ∷ (expression.write c.get-in-Lt.result.now ++ expression.write e)) c.get-in-Lt-2.ensures in
    on_ok c.operation-in-Lt.result (λ wrote. wrote ∙ ap (λ ts. c.args.text.now ++ spaced ts) (same_too ∙ same ∙ sym is)) c.operation-in-Lt.ensures

pub expression-operation-requires-in-Eq : goal.expression-operation-requires-in-Eq
expression-operation-requires-in-Eq t c =
    let h : tokens c.args.expr.now ≡ t = c.decreases in
    let i = ap tokens c.in-Eq.is ∙ tokens-Eq c.in-Eq.first c.in-Eq.second in
    let k = ap tokens c.get-in-Eq.ensures in
    let l = ap tokens c.get-in-Eq-2.ensures in
    let less : tokens c.get-in-Eq.result.now + tokens c.get-in-Eq-2.result.now < t = omega arith in
    (less, tt)

pub expression-returns-in-Eq : goal.expression-returns-in-Eq
expression-returns-in-Eq t c =
    let is = ap expression.write c.in-Eq.is ∙ words-Eq c.in-Eq.first c.in-Eq.second in
    let same = ap (λ e. codes "eq" ∷ (expression.write e ++ expression.write c.in-Eq.second)) c.get-in-Eq.ensures in
    let same_too = ap (λ e. codes "eq" ∷ (expression.write c.get-in-Eq.result.now ++ expression.write e)) c.get-in-Eq-2.ensures in
    on_ok c.operation-in-Eq.result (λ wrote. wrote ∙ ap (λ ts. c.args.text.now ++ spaced ts) (same_too ∙ same ∙ sym is)) c.operation-in-Eq.ensures

pub operation-expression-requires : goal.operation-expression-requires
operation-expression-requires t c =
    let h : tokens c.args.first.now + tokens c.args.second.now ≡ t = c.requires.1.0 in
    let some = some_tokens c.args.second.now in
    let less : tokens c.args.first.now < t = omega arith in
    (less, tt)

pub operation-expression-requires-2 : goal.operation-expression-requires-2
operation-expression-requires-2 t c =
    let h : tokens c.args.first.now + tokens c.args.second.now ≡ t = c.requires.1.0 in
    let some = some_tokens c.args.first.now in
    let less : tokens c.args.second.now < t = omega arith in
    (less, tt)

pub operation-returns : goal.operation-returns
operation-returns t c =
    let first = expression.write c.args.first.now in
    let second = expression.write c.args.second.now in
    let front = spaced_then c.args.text.now c.word.new.self c.expression.new.text (c.args.word.now ∷ []) first c.in_ok-word.ensures c.in_ok-expression.ensures in
    on_ok c.expression-2.result (λ more. spaced_then c.args.text.now c.expression.new.text c.expression-2.new.text (c.args.word.now ∷ first) second front more) c.expression-2.ensures
