use Rattle.std.proofs.Common.{◌≡◌, ◌∷◌, Some, rules, arith, sym, ap, ◌∙◌, subst, length, length-append}
use Rattle.em_tool.specs.Decimal.{AreNumbers, spelled}
use Rattle.em_tool.proofs.Cutting.{cut-some}
use Rattle.em_tool.proofs.Numbers.{Reads, Reads-start, Reads-step, Reads-stuck, Reads-stuck_last, Reads-last, Reads-unique}
use Rattle.em_tool.proofs.decimal.numbers.Goals as goal

pub loop-first-init : goal.loop-first-init
loop-first-init c = record { text = search rules; reads = subst (λ done. Reads c.args.separator c.args.text.now done c.args.text.now) (sym c.new-numbers.ensures) (Reads-start _ _) }

pub returns-in_default-clause-read : goal.returns-in_default-clause-read
returns-in_default-clause-read c ns are is =
    absurd (Reads-stuck _ _ _ _ _ _ ns c.requires c.loop-first.invariant.reads (sym c.in-Some.ensures) (λ n small e. absurd (cc (c.in_default.ensures.read n small e))) are is)

pub loop-first-smaller : goal.loop-first-smaller
loop-first-smaller c =
    let split = ap length (cut-some c.args.separator c.loop-first.rest.now c.in-Some.first.now c.in-Some.after.now (sym c.in-Some.ensures)).0 in
    omega (arith, length-append c.in-Some.first.now (c.args.separator ∷ c.in-Some.after.now))

pub loop-first-preserved : goal.loop-first-preserved
loop-first-preserved c =
    let found = sym c.in-Some.ensures in
    let split = (cut-some c.args.separator c.loop-first.rest.now c.in-Some.first.now c.in-Some.after.now found).0 in
    record {
      text = search rules;
      reads = subst (λ done. Reads c.args.separator c.args.text.now done c.in-Some.after.now) (sym c.in_ok-push-in-Some.ensures.ok)
          (Reads-step _ c.in-Some-number.n _ _ _ _ _ c.requires c.in-Some-number.ensures.fits c.loop-first.invariant.reads split found c.in-Some-number.ensures.spelled);
    }

pub returns-in_default-number-clause-read : goal.returns-in_default-number-clause-read
returns-in_default-number-clause-read c ns are is =
    absurd (Reads-stuck_last _ _ _ _ ns c.requires c.loop-first.invariant.reads (sym c.in-None.ensures) (λ n small e. absurd (cc (c.in_default-number.ensures.read n small e))) are is)

pub returns-in-None-clause-spelled : goal.returns-in-None-clause-spelled
returns-in-None-clause-spelled c =
    subst (λ done. AreNumbers done × (c.args.text.now ≡ spelled c.args.separator done)) (sym c.in_ok-push-in-None.ensures.ok)
    (Reads-last _ c.in-Some-number-2.n _ _ _ c.in-Some-number-2.ensures.fits c.loop-first.invariant.reads c.in-Some-number-2.ensures.spelled)

pub returns-in-None-clause-read : goal.returns-in-None-clause-read
returns-in-None-clause-read c ns are is =
    ap Some (c.in_ok-push-in-None.ensures.ok
    ∙ Reads-unique _ c.in-Some-number-2.n _ _ _ ns c.requires c.in-Some-number-2.ensures.fits c.loop-first.invariant.reads (sym c.in-None.ensures) c.in-Some-number-2.ensures.spelled are is)
