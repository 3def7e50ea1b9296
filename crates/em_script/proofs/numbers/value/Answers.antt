use Rattle.std.proofs.Common.{arith}
use Rattle.em_script.proofs.Digits.{value_from_large}
use Rattle.em_script.proofs.numbers.value.Goals as goal

pub returns-in-None : goal.returns-in-None
returns-in-None c =
    let ds = c.args.digits.now in
    let i = c.loop-digit.digit-index in
    omega (arith, c.loop-digit.invariant, value_from_large c.loop-digit.number ds i (omega arith) c.in-None.ensures)
