-- How long a history can become.
use Rattle.std.proofs.Common.{◌≡◌, ℕ, ◌+◌, ◌*◌, ◌≤◌, [], ◌∷◌, length, refl, ap, arith}
use Rattle.std.proofs.lemmas.Nat.{mul-le}
use Rattle.em_log.specs.declared.declarations.Declarations.{Declarations}
use Rattle.em_log.specs.declared.entry.Body.{Body}
use Rattle.em_log.specs.declared.entry.What.{What}
use Rattle.em_log.specs.declared.ids.Limits.{Limits}
use Rattle.em_log.specs.History.{Past}
use Rattle.em_log.specs.Contexts.{context}
use Rattle.em_log.specs.Operations.{operations}
use Rattle.em_log.specs.Places.{started, started_after}
use Rattle.em_log.specs.Bounds.{operation_limit}
use Rattle.em_log.specs.Lawful.{AllAllowed, Lawful, due}
use Rattle.em_moments.proofs.Moments.{Moment, EntersBoot, EntersStep, allowed-moment}
use Rattle.em_moments.proofs.Steps.{Owes, OwesAck, OwesGlobalStart, OwesLocalStart, OwesLocalStop, OwesGlobalStop}
use Rattle.em_bounds.specs.Room.{needed}
use Rattle.em_bounds.specs.Bound.{AllAfforded, context_need, local_need, receive_need, operation_need, most_needed, history_limit}
use Rattle.em_bounds.proofs.Sums.{count-le}
use Rattle.em_bounds.proofs.Payments.{total, takes_made, globals_done, globals-paid, begun-total}
use Rattle.em_bounds.proofs.Paid.{is-paid}
use Rattle.em_bounds.proofs.Receives.{promised-within, operations-within}
use Rattle.em_bounds.proofs.Balances.{due_total, is_step, steps_entered, steps_answered, steps-balanced, receives_started, takes-balanced}
use Rattle.em_bounds.proofs.Acknowledgements.{acks, acks-within}
use Rattle.em_bounds.proofs.Needs.{needs, needed-within}

-- what is needed, by the kinds of entries

boots : What → ℕ
boots (What.Enter Body.Boot) = 1
boots w = 0

needs-parts : (w : What) → needs w ≡ context_need * (boots w + receives_started w + steps_entered w) + 2 * takes_made w + acks w
unfolding boots
needs-parts (What.Enter Body.Boot) = omega arith
needs-parts (What.Enter (Body.GlobalStart op)) = omega arith
needs-parts (What.Enter (Body.LocalStart op)) = omega arith
needs-parts (What.Enter (Body.LocalStop op)) = omega arith
needs-parts (What.Enter (Body.GlobalStop op)) = omega arith
needs-parts w = omega arith

needs-total : (past : Past) → total needs past ≡ context_need * (total boots past + total receives_started past + total steps_entered past) + 2 * total takes_made past + total acks past
needs-total [] = omega arith
needs-total (e ∷ past) = let here = needs-parts e.what in let rest = needs-total past in omega (arith, here, rest)

no-boot-step : (k : Declarations) (past : Past) (c : ℕ) → Owes k past c (What.Enter Body.Boot) → Body.Boot ≡ Body.GlobalStart (record { 0 = 0 })
no-boot-step k past c (OwesAck n o g m is job un e) = absurd (cc e)
no-boot-step k past c (OwesGlobalStart n o x is job un by e) = absurd (cc e)
no-boot-step k past c (OwesLocalStart n o x is job done un e) = absurd (cc e)
no-boot-step k past c (OwesLocalStop n o x is job done un e) = absurd (cc e)
no-boot-step k past c (OwesGlobalStop n o x is job done at last e) = absurd (cc e)

boot-first : (k : Declarations) (l : Limits) (past : Past) (c : ℕ) (w : What) → Moment k l past c w → total boots past ≤ 1 → boots w + total boots past ≤ 1
unfolding boots
boot-first k l past c (What.Enter Body.Boot) (EntersBoot empty core e) was = let none : total boots past ≡ 0 = ap (total boots) empty in omega (arith, none)
boot-first k l past c (What.Enter Body.Boot) (EntersStep between owed owes) was = absurd (let e = no-boot-step k past c owes in cc e)
boot-first k l past c (What.Enter (Body.GlobalStart op)) m was = omega (arith, was)
boot-first k l past c (What.Enter (Body.LocalStart op)) m was = omega (arith, was)
boot-first k l past c (What.Enter (Body.LocalStop op)) m was = omega (arith, was)
boot-first k l past c (What.Enter (Body.GlobalStop op)) m was = omega (arith, was)
boot-first k l past c w m was = omega (arith, was)

one-boot : (k : Declarations) (l : Limits) (past : Past) → AllAllowed k l past → total boots past ≤ 1
one-boot k l [] all = omega arith
one-boot k l (e ∷ past) all = boot-first k l past e.core.0 e.what (allowed-moment k l past e all.1 all.0) (one-boot k l past all.1)

started-total : (past : Past) → total receives_started past ≡ started past
started-total [] = refl
started-total (e ∷ past) = by_what e.what (started-total past)
  where
    by_what : (w : What) → total receives_started past ≡ started past → receives_started w + total receives_started past ≡ started_after w (started past)
    by_what (What.Start q x s) h = omega (arith, h)
    by_what w h = omega (arith, h)

answered-total : (past : Past) → total steps_answered past ≡ total acks past + total globals_done past
answered-total [] = refl
answered-total (e ∷ past) = let rest = answered-total past in let here = by_what e.what in omega (arith, rest, here)
  where
    by_what : (w : What) → steps_answered w ≡ acks w + globals_done w
    by_what (What.Ack op) = refl
    by_what (What.GlobalDone op ok) = refl
    by_what w = refl

-- all together

bounded : (cores started operations A : ℕ) → A ≤ operations * cores
    → context_need * (1 + cores) + receive_need * started + context_need * operations + local_need * A ≤ most_needed cores started operations
bounded cores started operations A few = omega (arith, few)

pub needed-bounded : (k : Declarations) (l : Limits) (past : Past) → 1 ≤ l.burst → Lawful k l past → AllAfforded k past
    → needed k past ≤ most_needed k.cores (started past) (operations past)
needed-bounded k l past burst lawful afforded =
    let all = lawful.each in
    let need = needed-within k l past all afforded in
    let parts = needs-total past in
    let boot = one-boot k l past all in
    let starts = started-total past in
    let steps = steps-balanced k l past all in
    let steps_due : due_total steps_answered (due k past) ≡ 0 = ap (due_total steps_answered) lawful.whole in
    let takes = takes-balanced k l past burst all in
    let takes_due : due_total receives_started (due k past) ≡ 0 = ap (due_total receives_started) lawful.whole in
    let answered = answered-total past in
    let globals = globals-paid k l past all in
    let begun = begun-total past in
    let opened = count-le (λ c. is_step (context past c)) k.cores in
    let last = bounded k.cores (started past) (operations past) (total acks past) (acks-within k l past all) in
    omega (arith, need, parts, boot, starts, steps, steps_due, takes, takes_due, answered, globals, begun, opened, last)

pub history-bounded : (k : Declarations) (l : Limits) (past : Past) → 1 ≤ l.burst → Lawful k l past → AllAfforded k past → length past ≤ history_limit k l
history-bounded k l past burst lawful afforded =
    let paid_for = is-paid k l past lawful.each in
    let need = needed-bounded k l past burst lawful afforded in
    let receives = promised-within k l past lawful.each in
    let numbers = operations-within k l past lawful.each in
    let product = mul-le (operation_need k.cores) (operations past) (operation_need k.cores) operation_limit (omega arith) numbers in
    omega (arith, paid_for, need, receives, product)
