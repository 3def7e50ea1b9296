-- After a draw, the ordered queues stand for one step more.
use Rattle.std.proofs.Common.{◌≡◌, ◌≢◌, ℕ, suc, ◌<◌, ◌≤◌, false, List, ◌∷◌, length, Some, None, if◌then◌else◌, arith, refl, ap, sym, ◌∙◌, subst, ⊎_elim}
use Rattle.std.specs.Option.{option_map}
use Rattle.std.proofs.lemmas.Bool.{cases_eq, cases_lt, eq-eqb, ne_eqb}
use Rattle.std.proofs.lemmas.List.{get_or-set_same, get_or-set_other}
use Rattle.em_log.specs.History.{has}
use Rattle.em_log.specs.Order.{Ticket}
use Rattle.em_order.specs.declared.tickets.CoreOrder.{CoreOrder}
use Rattle.em_order.specs.declared.tickets.QueueOrder.{QueueOrder}
use Rattle.em_order.specs.Steps.{OrderStep, Drawn}
use Rattle.em_order.specs.Tickets.{drawn, open_ticket, ended, released}
use Rattle.em_order.specs.Sends.{sent_under}
use Rattle.em_order.specs.State.{OrderState, ticket_at, ticket_of, held_at, drawn_at, rest_at, queue_at, undrawn}
use Rattle.em_order.specs.Stands.{Stands, gathered, held_up}
use Rattle.em_order.specs.Changes.{drawn_by}
use Rattle.em_order.proofs.Runs.{run_from-is}
use Rattle.em_order.proofs.HeldUp.{after-open}
use Rattle.em_order.proofs.Readings.{ticket, both, none_some, core-same, core-other, run, released-drawn, not_drawn-not_ended, first-not_ended}

module _ {v : OrderState} {s : List OrderStep} (stands : Stands v s) (q c : ℕ) (in_queues : q < length v.queues) (in_cores : c < length v.cores)
    (idle : ticket_at v c ≡ None) where
  abbrev next : ℕ
  next = drawn s q

  drawn-same : drawn (Drawn q c ∷ s) q ≡ suc (drawn s q)
  drawn-same = ap (λ b. if b then suc (drawn s q) else drawn s q) (eq-eqb q q refl)

  drawn-other : (r : ℕ) → r ≢ q → drawn (Drawn q c ∷ s) r ≡ drawn s r
  drawn-other r ne = ap (λ b. if b then suc (drawn s r) else drawn s r) (ne_eqb q r (λ e. ne (sym e)))

  drawn-more : (r : ℕ) → drawn s r ≤ drawn (Drawn q c ∷ s) r
  drawn-more r =
      ⊎_elim (λ e. let now = subst (λ k. drawn (Drawn q c ∷ s) k ≡ suc (drawn s k)) (sym e) drawn-same in omega arith)
      (λ ne. let now = drawn-other r ne in omega arith) (cases_eq r q)

  released-same : (r : ℕ) → released (Drawn q c ∷ s) r ≡ released s r
  released-same r =
      let more = drawn-more r in
      let most = released-drawn stands r in
      run_from-is (drawn (Drawn q c ∷ s) r) 0 (released s r) (ended s r) (record {
        most = omega arith;
        all = (run stands r).all;
        stops = λ lt. subst (λ k. has (ended s r) k ≡ false) (omega arith) (first-not_ended stands r);
      })

  held-same : (r m : ℕ) → held_up (Drawn q c ∷ s) r m ≡ held_up s r m
  held-same r m = ap (λ k. gathered k (has (ended s r)) (sent_under s r) m) (released-same r)

  abbrev core : CoreOrder
  core = record { ticket = Some (record { queue = record { 0 = q }; number = drawn_at v q }); held = rest_at v q }

  abbrev queue : QueueOrder
  queue = record { drawn = suc (drawn_at v q); rest = held_at v c }

  now_at : (d : ℕ) → d ≢ c → ticket_at (drawn_by v q c) d ≡ ticket_at v d
  now_at d ne = ap (λ (o : CoreOrder). option_map ticket_of o.ticket) (core-other v.cores c core d ne)

  now_here : ticket_at (drawn_by v q c) c ≡ Some (ticket q next)
  now_here =
      ap (λ (o : CoreOrder). option_map ticket_of o.ticket) (core-same v.cores c core in_cores) ∙ ap (λ n. Some (ticket q n)) (stands.drawn_is q)

  -- an open ticket is the new one, or was open before
  by_core : (P : ℕ → Ticket → Type 0) (d : ℕ) (t : Ticket) → ticket_at (drawn_by v q c) d ≡ Some t → P c (ticket q next)
      → (d ≢ c → ticket_at v d ≡ Some t → P d t) → P d t
  by_core P d t is new old =
      ⊎_elim
      (λ same.
      let one : ticket q next ≡ t = both now_here (subst (λ k. ticket_at (drawn_by v q c) k ≡ Some t) same is) in
      subst (λ u. P d u) one (subst (λ k. P k (ticket q next)) (sym same) new))
      (λ ne. old ne (sym (now_at d ne) ∙ is)) (cases_eq d c)

  queue-here : queue_at (drawn_by v q c) q ≡ queue
  queue-here = get_or-set_same v.queues q queue undrawn in_queues

  queue-other : (r : ℕ) → r ≢ q → queue_at (drawn_by v q c) r ≡ queue_at v r
  queue-other r ne = get_or-set_other v.queues q r queue undrawn ne

  the_drawn : (r : ℕ) → drawn_at (drawn_by v q c) r ≡ drawn (Drawn q c ∷ s) r
  the_drawn r =
      ⊎_elim
      (λ e. subst (λ k. drawn_at (drawn_by v q c) k ≡ drawn (Drawn q c ∷ s) k) (sym e)
      (ap (λ (o : QueueOrder). o.drawn) queue-here ∙ (ap (λ n. suc n) (stands.drawn_is q) ∙ sym drawn-same)))
      (λ ne. ap (λ (o : QueueOrder). o.drawn) (queue-other r ne) ∙ (stands.drawn_is r ∙ sym (drawn-other r ne)))
      (cases_eq r q)

  the_tickets : (d : ℕ) → ticket_at (drawn_by v q c) d ≡ open_ticket (Drawn q c ∷ s) d
  the_tickets d =
      ⊎_elim
      (λ e. subst (λ k. ticket_at (drawn_by v q c) k ≡ open_ticket (Drawn q c ∷ s) k) (sym e)
      (now_here ∙ sym (ap (λ b. if b then Some (ticket q next) else open_ticket s c) (eq-eqb c c refl))))
      (λ ne. now_at d ne ∙ (stands.tickets d
      ∙ sym (ap (λ b. if b then Some (ticket q next) else open_ticket s d) (ne_eqb c d (λ e. ne (sym e))))))
      (cases_eq d c)

  fresh : (d : ℕ) → ticket_at v d ≡ Some (ticket q next) → ⊥
  fresh d is = let lt = stands.open_drawn d q next is in omega arith

  the_one_core : (d e : ℕ) (t : Ticket) → ticket_at (drawn_by v q c) d ≡ Some t → ticket_at (drawn_by v q c) e ≡ Some t → d ≡ e
  the_one_core d e t a b =
      ⊎_elim
      (λ d_is. ⊎_elim (λ e_is. d_is ∙ sym e_is)
      (λ ne. let one : ticket q next ≡ t = both now_here (subst (λ k. ticket_at (drawn_by v q c) k ≡ Some t) d_is a) in
      absurd (fresh e (sym (now_at e ne) ∙ (b ∙ ap Some (sym one))))) (cases_eq e c))
      (λ d_not. ⊎_elim
      (λ e_is. let one : ticket q next ≡ t = both now_here (subst (λ k. ticket_at (drawn_by v q c) k ≡ Some t) e_is b) in
      absurd (fresh d (sym (now_at d d_not) ∙ (a ∙ ap Some (sym one)))))
      (λ e_not. stands.one_core d e t (sym (now_at d d_not) ∙ a) (sym (now_at e e_not) ∙ b)) (cases_eq e c))
      (cases_eq d c)

  the_open : (r n : ℕ) → n < drawn (Drawn q c ∷ s) r → has (ended s r) n ≡ false
      → (d : ℕ) × (ticket_at (drawn_by v q c) d ≡ Some (ticket r n))
  the_open r n lt f = ⊎_elim older newer (cases_lt n (drawn s r))
    where
      older : n < drawn s r → (d : ℕ) × (ticket_at (drawn_by v q c) d ≡ Some (ticket r n))
      older less =
          let o = stands.not_ended_open r n less f in
          (o.0, now_at o.0 (λ e. none_some (ap (ticket_at v) e ∙ idle) o.1) ∙ o.1)

      newer : drawn s r ≤ n → (d : ℕ) × (ticket_at (drawn_by v q c) d ≡ Some (ticket r n))
      newer ge =
          ⊎_elim
          (λ e.
          let now = subst (λ k. drawn (Drawn q c ∷ s) k ≡ suc (drawn s k)) (sym e) drawn-same in
          let many = ap (drawn s) e in
          let number : drawn s q ≡ n = omega arith in
          (c, now_here ∙ (λ i. Some (record { queue = sym e i; number = number i }))))
          (λ ne. let now = drawn-other r ne in absurd (omega arith)) (cases_eq r q)

  the_rest : (r : ℕ) → rest_at (drawn_by v q c) r ≡ held_up (Drawn q c ∷ s) r (drawn (Drawn q c ∷ s) r)
  the_rest r =
      ⊎_elim
      (λ e. subst (λ k. rest_at (drawn_by v q c) k ≡ held_up (Drawn q c ∷ s) k (drawn (Drawn q c ∷ s) k)) (sym e)
      (ap (λ (o : QueueOrder). o.rest) queue-here
      ∙ (stands.idle_is c idle
      ∙ sym (ap (held_up (Drawn q c ∷ s) q) drawn-same
      ∙ (held-same q (suc next)
      ∙ (after-open (released s q) (has (ended s q)) (sent_under s q) next (let most = released-drawn stands q in omega arith)
      (not_drawn-not_ended stands q next (omega arith))
      ∙ stands.unsent q (suc next) (omega arith)))))))
      (λ ne. ap (λ (o : QueueOrder). o.rest) (queue-other r ne)
      ∙ (stands.rest_is r ∙ sym (ap (held_up (Drawn q c ∷ s) r) (drawn-other r ne) ∙ held-same r (drawn s r))))
      (cases_eq r q)

  pub drawn-stands : Stands (drawn_by v q c) (Drawn q c ∷ s)
  drawn-stands = record {
    drawn_is = the_drawn;
    tickets = the_tickets;
    open_drawn = λ d r n is.
        by_core (λ d t. t.number < drawn (Drawn q c ∷ s) t.queue) d (ticket r n) is (let now = drawn-same in omega arith)
        (λ ne old. let lt = stands.open_drawn d r n old in let more = drawn-more r in omega arith);
    open_not_ended = λ d r n is.
        by_core (λ d t. has (ended s t.queue) t.number ≡ false) d (ticket r n) is (not_drawn-not_ended stands q next (omega arith))
        (λ ne old. stands.open_not_ended d r n old);
    one_core = the_one_core;
    not_ended_open = the_open;
    ended_drawn = λ r n t. let lt = stands.ended_drawn r n t in let more = drawn-more r in omega arith;
    unsent = λ r n le. stands.unsent r n (let more = drawn-more r in omega arith);
    held_is = λ d r n is.
        by_core (λ d t. held_at (drawn_by v q c) d ≡ held_up (Drawn q c ∷ s) t.queue t.number) d (ticket r n) is
        (ap (λ (o : CoreOrder). o.held) (core-same v.cores c core in_cores) ∙ (stands.rest_is q ∙ sym (held-same q next)))
        (λ ne old. ap (λ (o : CoreOrder). o.held) (core-other v.cores c core d ne) ∙ (stands.held_is d r n old ∙ sym (held-same r n)));
    idle_is = λ d none.
        ⊎_elim (λ e. none_some (subst (λ k. ticket_at (drawn_by v q c) k ≡ None) e none) now_here)
        (λ ne. ap (λ (o : CoreOrder). o.held) (core-other v.cores c core d ne) ∙ stands.idle_is d (sym (now_at d ne) ∙ none)) (cases_eq d c);
    rest_is = the_rest;
    due_is = stands.due_is;
    held_back = stands.held_back;
  }
