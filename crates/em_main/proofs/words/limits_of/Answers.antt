use Rattle.std.proofs.Common.{◌≡◌, ◌∷◌, [], Some, Bool, true, false, not, arith, refl, sym, ap, ◌∙◌}
use lib.Dec.{eqb}
use lib.Pointwise.{pointwise}
use Rattle.std.specs.Prelude.{codes}
use Rattle.std.specs.Fmt.{decimal}
use Rattle.std.proofs.lemmas.Fmt.{decimal_digit, decimal_injective}
use Rattle.std.specs.Cmp.Lexicographic.{same_text}
use Rattle.em_main.proofs.InTurns.{same-limits}
use Rattle.em_main.proofs.words.limits_of.Goals as goal

not_false : (b : Bool) → false ≡ not b → true ≡ b
not_false true e = refl
not_false false e = absurd (cc (e))

pub returns-then-ne-2-clause-known : goal.returns-then-ne-2-clause-known
returns-then-ne-2-clause-known c l is =
    let third : c.args.burst.now ≡ decimal l.burst = cc (is.words) in
    let burst : c.args.burst.now ≡ 49 ∷ [] = third ∙ ap decimal is.burst ∙ decimal_digit 1 (omega arith) in
    absurd (cc (c.if-ne-2.ensures ∙ ap (λ b. not (pointwise eqb b (49 ∷ []))) burst))

pub returns-clause-is_run : goal.returns-clause-is_run
returns-clause-is_run c =
    let name : c.args.name.now ≡ codes "run" = same_text _ _ (not_false _ c.if-ne.ensures) in
    let one : c.args.burst.now ≡ 49 ∷ [] = same_text _ _ (not_false _ c.if-ne-2.ensures) in
    let burst : c.args.burst.now ≡ decimal 1 = one ∙ sym (decimal_digit 1 (omega arith)) in
    let limit = c.in-Some.ensures.spelled in
    record { words = cc; at_least = omega arith; at_most = omega arith; burst = refl }

pub returns-clause-known : goal.returns-clause-known
returns-clause-known c l is =
    let second : c.args.limit.now ≡ decimal l.receives = cc (is.words) in
    let receives : c.in-Some.receives ≡ l.receives =
    decimal_injective c.in-Some.receives l.receives c.in-Some.ensures.fits (let most = is.at_most in omega arith) (sym c.in-Some.ensures.spelled ∙ second) in
    ap Some (same-limits c.in-Some.receives l receives (sym is.burst))
