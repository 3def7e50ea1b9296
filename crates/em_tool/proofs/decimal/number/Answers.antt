use Rattle.std.proofs.Common.{◌≡◌, IfSome, arith, subst, sym, ap, ◌∙◌, length, get_or}
use Rattle.std.specs.Fmt.{decimal}
use Rattle.std.specs.Result.{result_ok}
use Rattle.std.proofs.lemmas.Fmt.{decimal_nonempty, parse-decimal}
use Rattle.std.proofs.lemmas.Bool.Decides.{nat_tests}
use Rattle.em_tool.proofs.Numerals.{decimal-zero, decimal-plain, parsed-result}
use Rattle.em_tool.proofs.decimal.number.Goals as goal
use Rattle.em_tool.proofs.decimal.number.Goals.{then-first-eq48+else-bytes-gt1, else-first-eq48}

pub returns-then-is_empty-clause-read : goal.returns-then-is_empty-clause-read
returns-then-is_empty-clause-read c n small spelled =
    let same : length c.as_bytes-bytes.result.now ≡ length (decimal n) = ap length (c.as_bytes-bytes.ensures.value ∙ spelled) in
    let some = decimal_nonempty n small in
    let none : length c.as_bytes-bytes.result.now ≡ 0 = grind (arith, nat_tests) in
    absurd (omega arith)

pub returns-then-first-eq43-clause-read : goal.returns-then-first-eq43-clause-read
returns-then-first-eq43-clause-read c n small spelled =
    absurd (decimal-plain n small (sym (ap (λ bs. get_or bs 0 0) (c.as_bytes-bytes.ensures.value ∙ spelled)) ∙ c.if-first-eq43.true))

pub returns-then-bytes-gt1-clause-read : goal.returns-then-bytes-gt1-clause-read
returns-then-bytes-gt1-clause-read c n small spelled =
    let same = c.as_bytes-bytes.ensures.value ∙ spelled in
    let one = decimal-zero n small (sym (ap (λ bs. get_or bs 0 0) same) ∙ c.if-first-eq48.true) in
    let long = ap length same in
    absurd (omega arith)

pub returns-clause-spelled : goal.returns-clause-spelled
returns-clause-spelled c =
    let bytes = c.as_bytes-bytes.result.now in
    let zero_alone : get_or bytes 0 0 ≡ 48 → length bytes ≡ 1 =
    λ starts. elim c.if-first-eq48.branch [ then-first-eq48+else-bytes-gt1 w ↦ grind (arith, nat_tests) | else-first-eq48 w ↦ absurd (w.if-first-eq48.false starts) ] in
    subst (λ o. IfSome o (λ n. c.args.text.now ≡ decimal n)) (sym c.ok.ensures.value)
    (parsed-result _ bytes c.args.text.now c.parse.result c.as_bytes-bytes.ensures.value c.parse.ensures.value.0 c.if-first-eq43.false zero_alone)

pub returns-clause-read : goal.returns-clause-read
returns-clause-read c n small spelled =
    c.ok.ensures.value ∙ ap result_ok (parse-decimal 64 n c.args.text.now c.parse.result small small spelled c.parse.ensures.value.0)
