use Rattle.std.proofs.Common.{◌≡◌, ◌∷◌, [], Some, Bool, true, false, not, arith, refl, sym, ap, ◌∙◌, subst}
use lib.Dec.{eqb}
use lib.Pointwise.{pointwise}
use Rattle.std.specs.Prelude.{codes}
use Rattle.std.specs.Fmt.{decimal}
use Rattle.std.proofs.lemmas.Fmt.{decimal_digit, decimal_injective}
use Rattle.std.specs.Cmp.Lexicographic.{same_text}
use Rattle.em_tool.specs.Words.{IsOrder}
use Rattle.em_tool.specs.Decimal.{spelled}
use Rattle.em_tool.proofs.Orders.{AreNumbers-order, solo-equals}
use Rattle.em_tool.proofs.words.solo_of.Goals as goal

not_false : (b : Bool) → false ≡ not b → true ≡ b
not_false true e = refl
not_false false e = absurd (cc (e))

pub returns-then-ne-2-clause-known : goal.returns-then-ne-2-clause-known
returns-then-ne-2-clause-known c solo is =
    let third : c.args.burst.now ≡ decimal solo.limits.burst = cc (is.words) in
    let burst : c.args.burst.now ≡ 49 ∷ [] = third ∙ ap decimal is.burst ∙ decimal_digit 1 (omega arith) in
    absurd (cc (c.if-ne-2.ensures ∙ ap (λ b. not (pointwise eqb b (49 ∷ []))) burst))

pub returns-in_default-2-clause-known : goal.returns-in_default-2-clause-known
returns-in_default-2-clause-known c solo is =
    let fourth : c.args.order.now ≡ spelled 44 solo.order = cc (is.words) in
    let found = c.in_ok-numbers.ensures.read solo.order (AreNumbers-order solo.order is.order) fourth in
    absurd (cc (found, c.in_default-2.is))

pub returns-in_default-3-clause-known : goal.returns-in_default-3-clause-known
returns-in_default-3-clause-known c solo is =
    let fourth : c.args.order.now ≡ spelled 44 solo.order = cc (is.words) in
    let found = c.in_ok-numbers.ensures.read solo.order (AreNumbers-order solo.order is.order) fourth in
    let same : solo.order ≡ c.as_slice.result.now = cc (found, c.in-Some-2.is, c.as_slice.ensures) in
    let known = c.in_ok-order.ensures.known (subst IsOrder same is.order) in
    absurd (cc (known, c.in_default-3.is))

pub returns-clause-is_solo : goal.returns-clause-is_solo
returns-clause-is_solo c =
    let name : c.args.name.now ≡ codes "solo" = same_text _ _ (not_false _ c.if-ne.ensures) in
    let one : c.args.burst.now ≡ 49 ∷ [] = same_text _ _ (not_false _ c.if-ne-2.ensures) in
    let burst : c.args.burst.now ≡ decimal 1 = one ∙ sym (decimal_digit 1 (omega arith)) in
    let limit = c.in-Some.ensures.spelled in
    let numbers = rw c.in-Some-2.is at c.in_ok-numbers.ensures.spelled in
    let order = rw c.in-Some-3.is at c.in_ok-order.ensures.order in
    let joined : c.args.order.now ≡ spelled 44 c.in-Some-3.order = numbers.1 ∙ ap (spelled 44) (sym (order.0 ∙ c.as_slice.ensures)) in
    record {
      words = cc;
      at_least = omega arith;
      at_most = omega arith;
      burst = refl;
      order = order.1;
    }

pub returns-clause-known : goal.returns-clause-known
returns-clause-known c solo is =
    let second : c.args.limit.now ≡ decimal solo.limits.receives = cc (is.words) in
    let fourth : c.args.order.now ≡ spelled 44 solo.order = cc (is.words) in
    let found = c.in_ok-numbers.ensures.read solo.order (AreNumbers-order solo.order is.order) fourth in
    let same : solo.order ≡ c.as_slice.result.now = cc (found, c.in-Some-2.is, c.as_slice.ensures) in
    let known = c.in_ok-order.ensures.known (subst IsOrder same is.order) in
    let order : c.in-Some-3.order ≡ solo.order = cc (known, c.in-Some-3.is, same) in
    let receives : c.in-Some.receives ≡ solo.limits.receives =
    decimal_injective c.in-Some.receives solo.limits.receives c.in-Some.ensures.fits (let most = is.at_most in omega arith) (sym c.in-Some.ensures.spelled ∙ second) in
    ap Some (solo-equals c.in-Some.receives c.in-Some-3.order solo receives (sym is.burst) order)
