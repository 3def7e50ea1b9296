-- The least open ticket of a queue, as far as the cores were looked at.
use Rattle.std.proofs.Common.{◌≡◌, ℕ, zero, suc, ◌<◌, ◌≤◌, Bool, true, false, ◌==◌, ◌&&◌, nat_le, List, [], ◌∷◌, length, MatchOption, ◌⊎◌, Option, Some, None, if◌then◌else◌, arith, refl, ap, sym, ◌∙◌, subst, ⊎_elim}
use Rattle.std.specs.Option.{option_map}
use Rattle.std.proofs.lemmas.Bool.{cases_lt, ltb-true, ltb-false, leb-true, leb-false, eqb-true, eqb-false}
use Rattle.em_log.specs.Order.{Ticket}
use Rattle.em_order.specs.declared.tickets.CoreOrder.{CoreOrder}
use Rattle.em_order.specs.declared.tickets.Open.{Open}
use Rattle.em_order.specs.declared.tickets.Ticket.{Ticket as TicketRecord}
use Rattle.em_order.specs.State.{core_in, ticket_in, ticket_of}
use Rattle.em_order.specs.Changes.{comes_before, lesser_open, NoneOpen, IsNextOpen}

pub record IsNextBelow (cores : List CoreOrder) (q from k : ℕ) (next : Option Open) : Type 0 where
  pub found : (o : Open) → next ≡ Some o → (ticket_in cores o.core ≡ Some (record { queue = q; number = o.number })) × (from ≤ o.number)
  pub least : (d n : ℕ) → d < k → ticket_in cores d ≡ Some (record { queue = q; number = n }) → from ≤ n
      → (o : Open) × (next ≡ Some o) × (o.number ≤ n)

pub next-none : (cores : List CoreOrder) (q from : ℕ) → IsNextBelow cores q from 0 None
next-none cores q from = record {
  found = λ o e. absurd (cc e);
  least = λ d n lt e le. absurd (omega arith);
}

module _ (cores : List CoreOrder) (q from k : ℕ) (found : Option Open) (was : IsNextBelow cores q from k found) where
  split : (d : ℕ) → d < suc k → (d < k) ⊎ (d ≡ k)
  split d lt = grind arith

  -- where core k has no ticket that counts, all stays
  stays : ((n : ℕ) → ticket_in cores k ≡ Some (record { queue = q; number = n }) → from ≤ n → (o : Open) × (found ≡ Some o) × (o.number ≤ n))
      → IsNextBelow cores q from (suc k) found
  stays none_here = record {
    found = was.found;
    least = λ d n lt e le.
        ⊎_elim (λ below. was.least d n below e le) (λ here. none_here n (subst (λ j. ticket_in cores j ≡ Some (record { queue = q; number = n })) here e) le)
        (split d lt);
  }

  -- the ticket is the one that is found at core k
  same : (t : TicketRecord) (n : ℕ) → ticket_in cores k ≡ Some (ticket_of t) → ticket_in cores k ≡ Some (record { queue = q; number = n })
      → ticket_of t ≡ record { queue = q; number = n }
  same t n is e = let both : ◌≡◌ {A = Option Ticket} (Some (ticket_of t)) (Some (record { queue = q; number = n })) = sym is ∙ e in cc both

  open_of : ℕ → Open
  open_of n = record { core = k; number = n }

  before : (n : ℕ) (next : Option Open) (o : Open) → next ≡ Some o → comes_before n next ≡ true → n < o.number
  before n None o e t = absurd (cc e)
  before n (Some p) o e t = let one : p ≡ o = cc e in subst (λ (x : Open). n < x.number) one (ltb-true n p.number t)

  not_before : (n : ℕ) (next : Option Open) → comes_before n next ≡ false → (o : Open) × (next ≡ Some o) × (o.number ≤ n)
  not_before n None f = absurd (cc f)
  not_before n (Some p) f = (p, refl, ltb-false n p.number f)

  takes : (t : TicketRecord) → ticket_in cores k ≡ Some (ticket_of t) → t.queue.0 ≡ q → from ≤ t.number → comes_before t.number found ≡ true
      → IsNextBelow cores q from (suc k) (Some (record { core = k; number = t.number }))
  takes t is queue from_le first = record {
    found = λ o e.
        let one : ◌≡◌ {A = Open} (record { core = k; number = t.number }) o = cc e in
        subst (λ (x : Open). (ticket_in cores x.core ≡ Some (record { queue = q; number = x.number })) × (from ≤ x.number)) one
        (is ∙ (λ i. Some (record { queue = queue i; number = t.number })), from_le);
    least = λ d n lt e le. (
      record { core = k; number = t.number },
      refl,
      ⊎_elim
          (λ below. let w = was.least d n below e le in let less = before t.number found w.0 w.1 first in let most = w.2 in omega arith)
          (λ here. let one = same t n is (subst (λ j. ticket_in cores j ≡ Some (record { queue = q; number = n })) here e) in
          let number : t.number ≡ n = ap (λ (x : Ticket). x.number) one in omega arith)
          (split d lt),
    );
  }

  by_test : (t : TicketRecord) → ticket_in cores k ≡ Some (ticket_of t)
      → (a : Bool) → (t.queue.0 == q) ≡ a → (b : Bool) → nat_le from t.number ≡ b → (c : Bool) → comes_before t.number found ≡ c
      → IsNextBelow cores q from (suc k) (if a && (b && c) then Some (record { core = k; number = t.number }) else found)
  by_test t is true ea true eb true ec = takes t is (eqb-true _ _ ea) (leb-true _ _ eb) ec
  by_test t is true ea true eb false ec =
      stays (λ n e le. let one = same t n is e in let w = not_before t.number found ec in
      let number : t.number ≡ n = ap (λ (x : Ticket). x.number) one in
      let most = w.2 in (w.0, w.1, omega arith))
  by_test t is true ea false eb c ec =
      stays (λ n e le. let one = same t n is e in let number : t.number ≡ n = ap (λ (x : Ticket). x.number) one in
      let less = leb-false from t.number eb in absurd (omega arith))
  by_test t is false ea b eb c ec =
      stays (λ n e le. let one = same t n is e in absurd (eqb-false _ _ ea (ap (λ (x : Ticket). x.queue) one)))

  by_ticket : (x : Option TicketRecord) → (core_in cores k).ticket ≡ x → IsNextBelow cores q from (suc k) (lesser_open q from k x found)
  by_ticket None e = stays (λ n some le. absurd (let none : ticket_in cores k ≡ None = ap (option_map ticket_of) e in let both : ◌≡◌ {A = Option Ticket} None (Some (record { queue = q; number = n })) = sym none ∙ some in cc both))
  by_ticket (Some t) e = by_test t (ap (option_map ticket_of) e) _ refl _ refl _ refl

  pub next-more : IsNextBelow cores q from (suc k) (lesser_open q from k (core_in cores k).ticket found)
  next-more = by_ticket _ refl

-- past the last core

pub ticket-within : (cores : List CoreOrder) (d : ℕ) (t : Ticket) → ticket_in cores d ≡ Some t → d < length cores
ticket-within [] d t e = absurd (cc e)
ticket-within (x ∷ xs) zero t e = omega arith
ticket-within (x ∷ xs) (suc d) t e = let lt = ticket-within xs d t e in omega arith

pub next-all : (cores : List CoreOrder) (q from : ℕ) (next : Option Open) → IsNextBelow cores q from (length cores) next
    → MatchOption next (NoneOpen cores q from) (λ o. IsNextOpen cores q from o.core o.number)
next-all cores q from None is =
    λ c n e. ⊎_elim (λ lt. lt) (λ le. let w = is.least c n (ticket-within cores c _ e) e le in absurd (let both : ◌≡◌ {A = Option Open} None (Some w.0) = w.1 in cc both)) (cases_lt n from)
next-all cores q from (Some o) is = record {
  is_open = (is.found o refl).0;
  from_there = (is.found o refl).1;
  least = λ d n e le.
      let w = is.least d n (ticket-within cores d _ e) e le in
      let one : o ≡ w.0 = let both : ◌≡◌ {A = Option Open} (Some o) (Some w.0) = w.1 in cc both in
      subst (λ (x : Open). x.number ≤ n) (sym one) w.2;
}
