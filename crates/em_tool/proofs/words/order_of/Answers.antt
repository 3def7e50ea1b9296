use Rattle.std.proofs.Common.{◌≡◌, ◌∷◌, ◌++◌, [], take, get_or, Some, arith, sym, ap, ◌∙◌, subst, below_more, take_all}
use Rattle.std.proofs.lemmas.List.{take_more}
use Rattle.em_tool.specs.Words.{IsOrder}
use Rattle.em_tool.proofs.words.order_of.Goals as goal

pub returns-then-contains-clause-known : goal.returns-then-contains-clause-known
returns-then-contains-clause-known c is = absurd (is.different c.loop-i.i c.loop-i-test.true (c.contains.ensures.0 c.if-contains.true))

pub loop-i-preserved : goal.loop-i-preserved
loop-i-preserved c =
    let i = c.loop-i.i in
    let numbers = c.args.numbers.now in
    record {
      order = c.in_ok-push.ensures.ok ∙ ap (λ l. l ++ get_or numbers i 0 ∷ []) c.loop-i.invariant.order ∙ sym (take_more numbers i 0 c.loop-i-test.true);
      cores = below_more _ _ c.loop-i.invariant.cores c.if-n-ge64.false;
      different = below_more _ _ c.loop-i.invariant.different (λ stands. absurd (cc (c.contains.ensures.1 stands, c.if-contains.false)));
    }

pub returns-clause-order : goal.returns-clause-order
returns-clause-order c =
    let numbers = c.args.numbers.now in
    let some = c.requires in
    let whole : take c.loop-i.i numbers ≡ numbers = take_all c.loop-i.i numbers c.loop-i-test.false in
    let same = c.loop-i.invariant.order ∙ whole in
    let is : IsOrder numbers = record {
      some = some;
      most = c.if-numbers-gt64.false;
      cores = λ k below. c.loop-i.invariant.cores k (omega arith);
      different = λ k below. c.loop-i.invariant.different k (omega arith);
    } in (same, subst IsOrder (sym same) is)

pub returns-clause-known : goal.returns-clause-known
returns-clause-known c is = ap Some (c.loop-i.invariant.order ∙ take_all c.loop-i.i c.args.numbers.now c.loop-i-test.false)
