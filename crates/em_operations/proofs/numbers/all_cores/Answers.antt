use Rattle.std.proofs.Common.{ℕ, zero, suc, ◌≤◌, arith}
use Rattle.em_log.specs.Declarations.{all_cores}
use Rattle.em_operations.proofs.numbers.all_cores.Goals as goal

small : (n : ℕ) → n ≤ 8 → all_cores n ≤ 255
small zero le = omega arith
small (suc zero) le = omega arith
small (suc (suc zero)) le = omega arith
small (suc (suc (suc zero))) le = omega arith
small (suc (suc (suc (suc zero)))) le = omega arith
small (suc (suc (suc (suc (suc zero))))) le = omega arith
small (suc (suc (suc (suc (suc (suc zero)))))) le = omega arith
small (suc (suc (suc (suc (suc (suc (suc zero))))))) le = omega arith
small (suc (suc (suc (suc (suc (suc (suc (suc zero)))))))) le = omega arith
small (suc (suc (suc (suc (suc (suc (suc (suc (suc n))))))))) le = absurd (omega (arith, le))

pub overflow_mul-mask : goal.overflow_mul-mask
overflow_mul-mask c =
    let le = small c.loop.counter (let lt = c.loop-test.true in let few = c.requires in omega (arith, lt, few)) in
    let is = c.loop.invariant in
    omega (arith, le, is)

pub overflow_add-mask : goal.overflow_add-mask
overflow_add-mask c =
    let le = small c.loop.counter (let lt = c.loop-test.true in let few = c.requires in omega (arith, lt, few)) in
    let is = c.loop.invariant in
    omega (arith, le, is)
