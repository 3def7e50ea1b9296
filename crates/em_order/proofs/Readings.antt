-- What can be read off the ordered queues, where they stand for a list of steps.
use Rattle.std.proofs.Common.{◌≡◌, ◌≢◌, ℕ, ◌<◌, ◌≤◌, ◌==◌, ◌&&◌, Bool, true, false, List, length, set, Option, Some, None, arith, refl, ap, sym, ◌∙◌, subst, ⊎_elim}
use Rattle.std.specs.Option.{option_map}
use Rattle.std.proofs.lemmas.Bool.{cases_eq, cases_lt, cases_Bool, eq-eqb, ne_eqb}
use Rattle.std.proofs.lemmas.List.{get_or-set_same, get_or-set_other}
use Rattle.em_log.specs.History.{has}
use Rattle.em_log.specs.Order.{Ticket, is_ticket}
use Rattle.em_order.specs.declared.tickets.CoreOrder.{CoreOrder}
use Rattle.em_order.specs.Steps.{OrderStep}
use Rattle.em_order.specs.Tickets.{drawn, ended, released}
use Rattle.em_order.specs.State.{OrderState, core_in, ticket_in, ticket_at, ticket_of, idle}
use Rattle.em_order.specs.Stands.{Stands}
use Rattle.em_order.specs.Changes.{LeastOpen}
use Rattle.em_order.proofs.Runs.{IsRun, run_from-run}

-- a ticket of queue q
abbrev pub ticket : ℕ → ℕ → Ticket
ticket q n = record { queue = q; number = n }

pub same_ticket : {s t : Ticket} → ◌≡◌ {A = Option Ticket} (Some s) (Some t) → s ≡ t
same_ticket e = cc e

pub both : {s t : Ticket} {o : Option Ticket} → o ≡ Some s → o ≡ Some t → s ≡ t
both a b = same_ticket (sym a ∙ b)

pub none_some : {t : Ticket} {o : Option Ticket} {P : Type 0} → o ≡ None → o ≡ Some t → P
none_some {t} a b = let e : ◌≡◌ {A = Option Ticket} None (Some t) = sym a ∙ b in absurd (cc e)

pub true_false : {b : Bool} {P : Type 0} → b ≡ true → b ≡ false → P
true_false a b = let e : true ≡ false = sym a ∙ b in absurd (cc e)

-- cores

module _ (cores : List CoreOrder) (c : ℕ) (x : CoreOrder) where
  pub core-same : c < length cores → core_in (set cores c x) c ≡ x
  core-same lt = get_or-set_same cores c x idle lt

  pub core-other : (d : ℕ) → d ≢ c → core_in (set cores c x) d ≡ core_in cores d
  core-other d ne = get_or-set_other cores c d x idle ne

  -- a core whose ticket stays
  pub ticket-stays : c < length cores → x.ticket ≡ (core_in cores c).ticket → (d : ℕ) → ticket_in (set cores c x) d ≡ ticket_in cores d
  ticket-stays lt same d =
      ⊎_elim
      (λ e. subst (λ j. ticket_in (set cores c x) j ≡ ticket_in cores j) (sym e)
      (ap (λ (o : CoreOrder). option_map ticket_of o.ticket) (core-same lt) ∙ ap (option_map ticket_of) same))
      (λ ne. ap (λ (o : CoreOrder). option_map ticket_of o.ticket) (core-other d ne))
      (cases_eq d c)

-- tickets

pub is_ticket-same : (q n : ℕ) → is_ticket q n (Some (ticket q n)) ≡ true
is_ticket-same q n = (λ i. eq-eqb q q refl i && eq-eqb n n refl i)

pub is_ticket-queue : (q n r m : ℕ) → q ≢ r → is_ticket r m (Some (ticket q n)) ≡ false
is_ticket-queue q n r m ne = ap (λ b. b && (n == m)) (ne_eqb q r ne)

pub is_ticket-number : (q n r m : ℕ) → n ≢ m → is_ticket r m (Some (ticket q n)) ≡ false
is_ticket-number q n r m ne = ap (λ b. (q == r) && b) (ne_eqb n m ne) ∙ no (q == r)
  where
    no : (b : Bool) → (b && false) ≡ false
    no true = refl
    no false = refl

module _ {v : OrderState} {s : List OrderStep} (stands : Stands v s) where
  pub run : (q : ℕ) → IsRun (drawn s q) 0 (released s q) (ended s q)
  run q = run_from-run (drawn s q) 0 (ended s q)

  pub released-drawn : (q : ℕ) → released s q ≤ drawn s q
  released-drawn q = (run q).most

  pub not_drawn-not_ended : (q n : ℕ) → drawn s q ≤ n → has (ended s q) n ≡ false
  not_drawn-not_ended q n le =
      ⊎_elim (λ t. let lt = stands.ended_drawn q n t in absurd (omega arith)) (λ f. f) (cases_Bool (has (ended s q) n))

  -- the first one that has not ended
  pub first-not_ended : (q : ℕ) → has (ended s q) (released s q) ≡ false
  first-not_ended q =
      ⊎_elim (λ lt. subst (λ k. has (ended s q) k ≡ false) (omega arith) ((run q).stops lt))
      (λ ge. not_drawn-not_ended q (released s q) ge) (cases_lt (released s q) (drawn s q))

  -- no released ticket is open
  pub released-below : (c q n : ℕ) → ticket_at v c ≡ Some (ticket q n) → released s q ≤ n
  released-below c q n e =
      ⊎_elim
      (λ lt. true_false {b = has (ended s q) n} ((run q).all n (omega arith) (omega arith)) (stands.open_not_ended c q n e))
      (λ le. le) (cases_lt n (released s q))

  -- the least open one is the first that has not ended
  pub least-released : (c q n m : ℕ) → ticket_at v c ≡ Some (ticket q n) → LeastOpen v.cores q n m → released s q ≡ m
  least-released c q n m e l =
      let t = l.there c e in
      let le = released-below t.0 q m t.1 in
      let lt = stands.open_drawn t.0 q m t.1 in
      ⊎_elim
      (λ less.
      let o = stands.not_ended_open q (released s q) (omega arith) (first-not_ended q) in
      let least = l.least o.0 (released s q) o.1 in absurd (omega arith))
      (λ ge. omega arith) (cases_lt (released s q) m)

  -- a drawn ticket that has not ended is no less than the least open one from there on
  pub ended-between : (q from m : ℕ) → m ≤ drawn s q → ((c n : ℕ) → ticket_at v c ≡ Some (ticket q n) → from ≤ n → m ≤ n)
      → (k : ℕ) → from ≤ k → k < m → has (ended s q) k ≡ true
  ended-between q from m le least k ge lt =
      ⊎_elim (λ t. t)
      (λ f. let o = stands.not_ended_open q k (omega arith) f in let most = least o.0 k o.1 ge in absurd (omega arith))
      (cases_Bool (has (ended s q) k))
