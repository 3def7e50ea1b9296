-- At the opening, the ordered queues stand for no steps.
use Rattle.std.proofs.Common.{◌≡◌, ℕ, zero, suc, ◌*◌, ◌≤◌, false, List, [], ◌∷◌, length, All, get_or, replicate, Some, arith, refl, ap, ◌∙◌, ⊎_elim}
use Rattle.std.proofs.Math.ListN.{get_or-eq_default}
use Rattle.std.proofs.lemmas.Bool.{cases_lt}
use Rattle.std.specs.Option.{option_map}
use Rattle.std.proofs.lemmas.List.Sums.{sum_by-cons}
use Rattle.std.proofs.lemmas.List.Folds.{sum_by-replicate}
use Rattle.em_log.specs.Order.{Ticket}
use Rattle.em_order.specs.declared.item_list.Item.{Item}
use Rattle.em_order.specs.declared.tickets.CoreOrder.{CoreOrder}
use Rattle.em_order.specs.declared.tickets.QueueOrder.{QueueOrder}
use Rattle.em_order.specs.State.{OrderState, core_in, ticket_in, ticket_of, queue_at, is_nil, idle, undrawn}
use Rattle.em_order.specs.Stands.{Stands}
use Rattle.em_order.specs.Whole.{IsWhole, held_total, rest_total, node_total}
use Rattle.em_order.proofs.Readings.{none_some}

all_same : {X : Type 0} (n i : ℕ) (x : X) → get_or (replicate n x) i x ≡ x
all_same zero i x = refl
all_same (suc n) zero x = refl
all_same (suc n) (suc i) x = all_same n i x

-- the nodes

nodes-total : (nodes : List (List Item)) → All (λ r. length r ≡ 1) nodes → node_total nodes ≡ length nodes
nodes-total [] all = refl
nodes-total (r ∷ rs) all =
    let here : length r ≡ 1 = all 0 [] (omega arith) in
    let rest = nodes-total rs (λ k d lt. all (suc k) d (omega arith)) in
    sum_by-cons length r rs ∙ omega (arith, here, rest)

nodes-single : (nodes : List (List Item)) (i : ℕ) → All (λ r. length r ≡ 1) nodes → length (get_or nodes i []) ≤ 1
nodes-single nodes i all =
    ⊎_elim (λ lt. let one : length (get_or nodes i []) ≡ 1 = all i [] lt in omega arith)
    (λ ge. let none : length (get_or nodes i []) ≡ 0 = ap length (get_or-eq_default nodes [] ge) in omega arith) (cases_lt i (length nodes))

not_nil : (l : List Item) → length l ≡ 1 → is_nil l ≡ false
not_nil [] e = absurd (omega arith)
not_nil (x ∷ xs) e = refl

-- the whole

module _ {cores : List CoreOrder} {queues : List QueueOrder} {due : List Item} (nodes : List (List Item)) (n m : ℕ)
    (cores_are : cores ≡ replicate n idle) (queues_are : queues ≡ replicate m undrawn) (due_is : due ≡ [])
    (single : All (λ r. length r ≡ 1) nodes) where
  abbrev opened : OrderState
  opened = record { cores = cores; queues = queues; nodes = nodes; due = due }

  idle_at : (c : ℕ) → core_in cores c ≡ idle
  idle_at c = ap (λ l. core_in l c) cores_are ∙ all_same n c idle

  undrawn_at : (q : ℕ) → queue_at opened q ≡ undrawn
  undrawn_at q = ap (λ l. get_or l q undrawn) queues_are ∙ all_same m q undrawn

  no_ticket : {P : Type 0} (c : ℕ) (t : Ticket) → ticket_in cores c ≡ Some t → P
  no_ticket c t e = none_some (ap (λ (o : CoreOrder). option_map ticket_of o.ticket) (idle_at c)) e

  pub opened-stands : Stands opened []
  opened-stands = record {
    drawn_is = λ q. ap (λ (o : QueueOrder). o.drawn) (undrawn_at q);
    tickets = λ c. ap (λ (o : CoreOrder). option_map ticket_of o.ticket) (idle_at c);
    open_drawn = λ c q n e. no_ticket c _ e;
    open_not_ended = λ c q n e. no_ticket c _ e;
    one_core = λ c d t e f. no_ticket c t e;
    not_ended_open = λ q n lt f. absurd (omega arith);
    ended_drawn = λ q n t. absurd (cc t);
    unsent = λ q n le. refl;
    held_is = λ c q n e. no_ticket c _ e;
    idle_is = λ c e. ap (λ (o : CoreOrder). o.held) (idle_at c);
    rest_is = λ q. ap (λ (o : QueueOrder). o.rest) (undrawn_at q);
    due_is = due_is;
    held_back = λ i lt. not_nil (get_or nodes i []) (single i [] lt);
  }

  pub opened-whole : length nodes ≤ 4096 → IsWhole cores queues nodes due
  opened-whole few = record {
    named = λ c t e. no_ticket c t e;
    single = λ i. nodes-single nodes i single;
    enough =
        let held : held_total cores ≡ n * 0 = ap held_total cores_are ∙ sum_by-replicate (λ (c : CoreOrder). length c.held) n idle in
        let rest : rest_total queues ≡ m * 0 = ap rest_total queues_are ∙ sum_by-replicate (λ (q : QueueOrder). length q.rest) m undrawn in
        let none : length due ≡ 0 = ap length due_is in
        let all = nodes-total nodes single in omega arith;
    few = few;
  }
