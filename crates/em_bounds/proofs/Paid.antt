-- Every history of allowed entries is paid for.
use Rattle.std.proofs.Common.{suc, ◌+◌, ◌*◌, ◌≤◌, [], ◌∷◌, length, arith}
use Rattle.em_log.specs.declared.declarations.Declarations.{Declarations}
use Rattle.em_log.specs.declared.entry.What.{What}
use Rattle.em_log.specs.declared.fault.Call.{Call}
use Rattle.em_log.specs.declared.ids.Limits.{Limits}
use Rattle.em_log.specs.History.{Past}
use Rattle.em_log.specs.Lawful.{AllAllowed}
use Rattle.em_bounds.specs.Paid.{pays, paid, IsPaid}
use Rattle.em_bounds.proofs.Payments.{total, begun_contexts, ended_contexts, contexts-paid, takes_made, takes_undone, takes-paid, operations_begun, globals_done, globals-paid, operations_done, dones-paid, applies, notifications, notifications-paid}
use Rattle.em_bounds.proofs.Outputs.{loosened, handed_count, loose-paid}

-- each entry is paid by itself, or by one of six others
one-paid : (w : What) → suc (begun_contexts w + takes_made w + 2 * operations_begun w + applies w + handed_count w)
    ≤ pays w + ended_contexts w + takes_undone w + globals_done w + operations_done w + notifications w + loosened w
one-paid (What.Fault Call.Note f s) = omega arith
one-paid w = omega arith

sums : (past : Past) → length past + total begun_contexts past + total takes_made past + 2 * total operations_begun past + total applies past + total handed_count past
    ≤ paid past + total ended_contexts past + total takes_undone past + total globals_done past + total operations_done past + total notifications past + total loosened past
sums [] = omega arith
sums (e ∷ past) = let here = one-paid e.what in let older = sums past in omega (arith, here, older)

pub is-paid : (k : Declarations) (l : Limits) (past : Past) → AllAllowed k l past → IsPaid k past
is-paid k l past all =
    let sum = sums past in
    let a = contexts-paid k l past all in
    let b = takes-paid k l past all in
    let c = globals-paid k l past all in
    let d = dones-paid k l past all in
    let e = notifications-paid k l past all in
    let f = loose-paid k l past all in
    omega (arith, sum, a, b, c, d, e, f)
