-- Bounds of what open contexts have left, and of what a history needs.
use Rattle.std.proofs.Common.{◌≡◌, ◌≢◌, ℕ, ◌*◌, ◌<◌, ◌≤◌, ◌==◌, [], Option, Some, None, refl, sym, arith, if◌then◌else◌}
use Rattle.std.proofs.lemmas.Nat.{mul-le}
use Rattle.em_log.specs.declared.declarations.Declarations.{Declarations}
use Rattle.em_log.specs.declared.entry.What.{What}
use Rattle.em_log.specs.declared.ids.Limits.{Limits}
use Rattle.em_log.specs.History.{Past}
use Rattle.em_log.specs.Bounds.{core_limit, operation_limit}
use Rattle.em_log.specs.Lawful.{Lawful}
use Rattle.em_log.specs.Operations.{operations}
use Rattle.em_log.specs.Allowance.{allowance, left}
use Rattle.em_log.specs.Contexts.{context}
use Rattle.em_laws.proofs.Cores.{Compared, Same, Other, compared}
use Rattle.em_bounds.specs.Room.{left_if, left_open, lefts, needed}
use Rattle.em_bounds.specs.Bound.{AllAfforded, operation_need, history_limit}
use Rattle.em_bounds.proofs.Bound.{needed-bounded}
use Rattle.em_bounds.proofs.Receives.{promised-within, operations-within}
use Rattle.em_bounds.proofs.Sums.{sum-most, sum-one}

left-most : (k : Declarations) (past : Past) (c : ℕ) → left_open k past c ≤ allowance
left-most k past c = by_context (context past c)
  where
    by_context : (o : Option What) → left_if o (left k past c) ≤ allowance
    by_context None = omega arith
    by_context (Some b) = omega arith

-- no core has more left than an allowance
pub lefts-most : (k : Declarations) (past : Past) → lefts k past ≤ k.cores * allowance
lefts-most k past = sum-most (left_open k past) allowance k.cores (left-most k past)

-- with no history nothing is left
pub lefts-none : (k : Declarations) → lefts k [] ≡ 0
lefts-none k = let most = sum-most (left_open k []) 0 k.cores (λ c. omega arith) in omega (arith, most)

-- what one core has left is a part of it
pub lefts-has : (k : Declarations) (past : Past) (c : ℕ) → c < k.cores → left_open k past c ≤ lefts k past
lefts-has k past c lt =
    let sum = sum-one (left_open k past) (λ d. if c == d then 0 else left_open k past d) c k.cores lt (λ d ne. by_test d ne (compared c d)) in
    let own = none (compared c c) in
    omega (arith, sum, own)
  where
    by_test : (d : ℕ) → d ≢ c → Compared c d → (if c == d then 0 else left_open k past d) ≡ left_open k past d
    by_test d ne (Same t e) = absurd (ne (sym e))
    by_test d ne (Other f e) = rw f refl

    none : Compared c c → (if c == c then 0 else left_open k past c) ≡ 0
    none (Same t e) = rw t refl
    none (Other f ne) = absurd (ne refl)

-- what a history needs between asks, each of which was afforded, is no more than its greatest length
pub needed-most : (k : Declarations) (l : Limits) (past : Past) → 1 ≤ l.burst → Lawful k l past → AllAfforded k past → needed k past ≤ history_limit k l
needed-most k l past burst lawful afforded =
    let need = needed-bounded k l past burst lawful afforded in
    let receives = promised-within k l past lawful.each in
    let numbers = operations-within k l past lawful.each in
    let product = mul-le (operation_need k.cores) (operations past) (operation_need k.cores) operation_limit (omega arith) numbers in
    omega (arith, need, receives, product)

-- which is less than there are handles
pub limit-most : (k : Declarations) (l : Limits) → k.cores ≤ core_limit → l.receives ≤ 10000 → history_limit k l < 4294967295
limit-most k l cores receives = omega (arith, cores, receives)
