-- An entry that does not touch a part adds no step of it.
use Rattle.std.proofs.Common.{◌≡◌, ℕ, false, List, Some, None, refl}
use Rattle.em_log.specs.declared.declarations.Declarations.{Declarations}
use Rattle.em_log.specs.declared.entry.What.{What}
use Rattle.em_log.specs.History.{Past}
use Rattle.em_atomic.specs.Steps.{AtomicStep}
use Rattle.em_order.specs.Steps.{OrderStep}
use Rattle.em_egroups.specs.Steps.{EgroupStep}
use Rattle.em_context_parts.specs.AtomicSteps.{atomic_after, touches_atomics}
use Rattle.em_context_parts.specs.EgroupSteps.{egroup_after, touches_egroups}
use Rattle.em_context_parts.specs.OrderSteps.{order_after, touches_orders}

pub atomics-untouched : (k : Declarations) (past : Past) (c : ℕ) (w : What) (steps : List AtomicStep) → touches_atomics w ≡ false
    → atomic_after k past c w steps ≡ steps
atomics-untouched k past c (What.Take q n t) steps is = absurd cc
atomics-untouched k past c (What.Untake q n) steps is = absurd cc
atomics-untouched k past c (What.End lost cells) steps is = absurd cc
atomics-untouched k past c (What.EndAtomic rest cells) steps is = absurd cc
atomics-untouched k past c w steps is = refl

pub orders-untouched : (past : Past) (c : ℕ) (w : What) (steps : List OrderStep) → touches_orders w ≡ false → order_after past c w steps ≡ steps
orders-untouched past c (What.Take q n (Some t)) steps is = absurd cc
orders-untouched past c (What.Take q n None) steps is = refl
orders-untouched past c (What.Send h q t s) steps is = absurd cc
orders-untouched past c What.EndOrdered steps is = absurd cc
orders-untouched past c (What.End lost cells) steps is = absurd cc
orders-untouched past c w steps is = refl

pub egroups-untouched : (past : Past) (c : ℕ) (w : What) (steps : List EgroupStep) → touches_egroups w ≡ false → egroup_after past c w steps ≡ steps
egroups-untouched past c (What.Apply g a n notes) steps is = absurd cc
egroups-untouched past c (What.Send h q t (Some s)) steps is = absurd cc
egroups-untouched past c (What.Send h q t None) steps is = refl
egroups-untouched past c (What.Increment g n) steps is = absurd cc
egroups-untouched past c What.EndGroup steps is = absurd cc
egroups-untouched past c (What.End lost cells) steps is = absurd cc
egroups-untouched past c (What.Abort g) steps is = absurd cc
egroups-untouched past c w steps is = refl
