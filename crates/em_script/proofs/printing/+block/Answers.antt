use Rattle.std.proofs.Common.{◌≡◌, ◌∷◌, ◌++◌, [], append-nil, ap, sym, ◌∙◌}
use Rattle.std.specs.Prelude.{codes, decimal}
use Rattle.em_script.specs.declared.line.Line.TheVariants as lines
use Rattle.em_script.specs.Lines.{spaced}
use Rattle.em_script.specs.Spelling.{block_lines, else_lines, statement_lines, text_of}
use Rattle.em_script.proofs.Answers.{on_ok}
use Rattle.em_script.proofs.Blocks.{statement_lines-If, statement_lines-Repeat, statement_lines-plain, if_ended, else_written, else_not_written}
use Rattle.em_script.proofs.Printed.{block_written, line_ended}
use Rattle.em_script.proofs.Spacing.{joined_begin}
use Rattle.em_script.proofs.printing.+block.Goals as goal
use Rattle.em_script.proofs.printing.+block.Goals.{statement_lines-then-has_else+in_ok-alone-in-If+in_ok-block_lines-in-If-2, statement_lines-else-has_else}

pub statement_lines-returns-after-has_else : goal.statement_lines-returns-after-has_else
statement_lines-returns-after-has_else t c =
    let g = c.args.config.now in
    let old = c.args.text.now in
    let e = c.in-If.test in
    let is = ap statement_lines c.in-If.is ∙ statement_lines-If c.in-If.test c.in-If.yes c.in-If.no c.in-If.has_else in
    let begun = if_ended g old c.with_value.new.text c.end.new.self e c.in_ok-with_value-in-If.ensures c.in_ok-end-in-If.ensures in
    let first = c.in_ok-block_lines-in-If.ensures ∙ ap (λ b. c.end.new.self ++ text_of g (block_lines b)) c.as_slice.ensures in
    let second : c.if-has_else.text ≡ c.block_lines.new.text ++ text_of g (else_lines c.in-If.has_else (block_lines c.in-If.no)) =
    elim c.if-has_else.branch [
      | statement_lines-then-has_else+in_ok-alone-in-If+in_ok-block_lines-in-If-2 w ↦
          let more = w.in_ok-block_lines-in-If-2.ensures ∙ ap (λ b. w.alone.new.text ++ text_of g (block_lines b)) w.as_slice-then-has_else.ensures in
          rw (w.if-has_else.true, w.text-is) (else_written g c.block_lines.new.text w.alone.new.text w.block_lines-then-has_else.new.text c.in-If.no w.in_ok-alone-in-If.ensures more)
      | statement_lines-else-has_else w ↦
          rw w.if-has_else.false (else_not_written g c.block_lines.new.text c.if-has_else.text c.in-If.no w.text-is)
    ] in
    on_ok c.alone-in-If.result
    (λ last. block_written g old c.end.new.self c.block_lines.new.text c.if-has_else.text c.alone-in-If.new.text (lines.If e) (block_lines c.in-If.yes) (else_lines c.in-If.has_else (block_lines c.in-If.no)) begun first second last ∙ ap (λ ls. old ++ text_of g ls) (sym is))
    c.alone-in-If.ensures

pub statement_lines-returns-in_ok-block_lines-in-Repeat :
    goal.statement_lines-returns-in_ok-block_lines-in-Repeat
statement_lines-returns-in_ok-block_lines-in-Repeat t c =
    let g = c.args.config.now in
    let old = c.args.text.now in
    let n = c.in-Repeat.times in
    let is = ap statement_lines c.in-Repeat.is ∙ statement_lines-Repeat c.in-Repeat.times c.in-Repeat.block in
    let number = c.in_ok-number-in-Repeat.ensures ∙ ap (λ k. c.begin.new.self ++ spaced (decimal k ∷ [])) c.from.ensures in
    let tokens = joined_begin old c.begin.new.self c.number.new.self (codes "repeat") (decimal c.in-Repeat.times ∷ []) c.in_ok-begin-in-Repeat.ensures number in
    let begun = line_ended g old c.number.new.self c.end-in-Repeat.new.self (lines.Repeat n) tokens c.in_ok-end-in-Repeat.ensures in
    let block = c.in_ok-block_lines-in-Repeat.ensures ∙ ap (λ b. c.end-in-Repeat.new.self ++ text_of g (block_lines b)) c.as_slice-in-Repeat.ensures in
    let none = sym (append-nil c.block_lines-in-Repeat.new.text) in
    on_ok c.alone-in-Repeat.result
    (λ last. block_written g old c.end-in-Repeat.new.self c.block_lines-in-Repeat.new.text c.block_lines-in-Repeat.new.text c.alone-in-Repeat.new.text (lines.Repeat n) (block_lines c.in-Repeat.block) [] begun block none last ∙ ap (λ ls. old ++ text_of g ls) (sym is))
    c.alone-in-Repeat.ensures

pub statement_lines-returns-in_ok-statement-in_default :
    goal.statement_lines-returns-in_ok-statement-in_default
statement_lines-returns-in_ok-statement-in_default t c =
    let g = c.args.config.now in
    let old = c.args.text.now in
    let is = statement_lines-plain c.args.each.now c.in_default.not-If c.in_default.not-Repeat in
    on_ok c.end-in_default.result
    (λ end. line_ended g old c.statement.new.text c.end-in_default.new.self (lines.Statement c.args.each.now) c.in_ok-statement-in_default.ensures end ∙ ap (λ ls. old ++ text_of g ls) (sym is))
    c.end-in_default.ensures
