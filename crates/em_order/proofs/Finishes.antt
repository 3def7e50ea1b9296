-- After the end of a ticket, the ordered queues stand for one step more.
use Rattle.std.proofs.Common.{◌≡◌, ◌≢◌, ℕ, suc, ◌<◌, ◌==◌, Bool, true, false, List, [], ◌∷◌, ◌++◌, length, get_or, set, Option, Some, None, IfSome, MatchOption, if◌then◌else◌, arith, refl, ap, sym, ◌∙◌, subst, ⊎_elim}
use Rattle.std.specs.Option.{option_map}
use Rattle.std.proofs.lemmas.Bool.{cases_eq, cases_lt, eq-eqb, ne_eqb, eqb-true, eqb-false}
use Rattle.std.proofs.lemmas.List.{get_or-set_same, get_or-set_other, length-set}
use Rattle.em_log.specs.History.{has}
use Rattle.em_log.specs.Order.{Ticket}
use Rattle.em_order.specs.declared.tickets.CoreOrder.{CoreOrder}
use Rattle.em_order.specs.declared.tickets.Open.{Open}
use Rattle.em_order.specs.declared.tickets.QueueOrder.{QueueOrder}
use Rattle.em_order.specs.Steps.{OrderStep, Finished}
use Rattle.em_order.specs.Tickets.{drawn, open_ticket, ended, released}
use Rattle.em_order.specs.State.{OrderState, core_in, ticket_in, ticket_at, ticket_of, held_at, drawn_at, rest_at, queue_at, is_nil, idle, undrawn}
use Rattle.em_order.specs.Stands.{Stands, held_up}
use Rattle.em_order.specs.Changes.{NoneOpen, IsNextOpen, LeastOpen, ended_by, kept, due_with}
use Rattle.em_order.proofs.Readings.{ticket, both, none_some, core-same, core-other, released-below, not_drawn-not_ended, least-released, ended-between}
use Rattle.em_order.proofs.TicketEnds.{IsEnd, over-same, over-other, over-queue, held-queue, held-below, held-next, held-above, due-now}
use Rattle.em_order.proofs.NextOpen.{ticket-within}

-- what the end of ticket n at core c does to the values, m being the next open ticket or the next one to be drawn
record Ends (v w : OrderState) (s : List OrderStep) (c q m : ℕ) (leads : Bool) : Type 0 where
  here : ticket_at w c ≡ None
  others : (d : ℕ) → d ≢ c → ticket_at w d ≡ ticket_at v d
  counts : (r : ℕ) → drawn_at w r ≡ drawn_at v r
  empty : held_at w c ≡ []
  same : (d : ℕ) → d ≢ c → ticket_at v d ≢ Some (ticket q m) → held_at w d ≡ held_at v d
  next : (d : ℕ) → ticket_at v d ≡ Some (ticket q m) → held_at w d ≡ kept leads (held_at v c) (held_at v d)
  other_rests : (r : ℕ) → r ≢ q → rest_at w r ≡ rest_at v r
  last : m ≡ drawn s q → rest_at w q ≡ kept leads (held_at v c) (rest_at v q)
  not_last : m < drawn s q → rest_at w q ≡ rest_at v q
  released : w.due ≡ due_with leads v.due (held_at v c ++ held_up s q m)
  nodes : w.nodes ≡ v.nodes

module _ {v : OrderState} {s : List OrderStep} (stands : Stands v s) (c q n m : ℕ) (leads : Bool) (e : ticket_at v c ≡ Some (ticket q n))
    (end : IsEnd s q n m leads) where
  module _ {w : OrderState} (ends : Ends v w s c q m leads) where
    abbrev now : List OrderStep
    now = Finished c ∷ s

    -- an open ticket is one of another core, which had it before
    apart : (d : ℕ) (t : Ticket) → ticket_at w d ≡ Some t → d ≢ c
    apart d t is same = none_some (subst (λ k. ticket_at w k ≡ None) (sym same) ends.here) is

    before : (d : ℕ) (t : Ticket) → ticket_at w d ≡ Some t → ticket_at v d ≡ Some t
    before d t is = sym (ends.others d (apart d t is)) ∙ is

    other_ticket : (d r k : ℕ) → d ≢ c → ticket_at v d ≡ Some (ticket r k) → r ≡ q → k ≢ n
    other_ticket d r k ne is queue number =
        ne (stands.one_core d c (ticket q n) (is ∙ (λ i. Some (record { queue = queue i; number = number i }))) e)

    the_tickets : (d : ℕ) → ticket_at w d ≡ open_ticket now d
    the_tickets d =
        ⊎_elim
        (λ same. subst (λ k. ticket_at w k ≡ open_ticket now k) (sym same)
        (ends.here ∙ sym (ap (λ b. if b then None else open_ticket s c) (eq-eqb c c refl))))
        (λ ne. ends.others d ne
        ∙ (stands.tickets d ∙ sym (ap (λ b. if b then None else open_ticket s d) (ne_eqb c d (λ e. ne (sym e))))))
        (cases_eq d c)

    not_ended : (d r k : ℕ) → d ≢ c → ticket_at v d ≡ Some (ticket r k) → has (ended now r) k ≡ false
    not_ended d r k ne is =
        ⊎_elim
        (λ queue. subst (λ j. has (ended now j) k ≡ false) (sym queue)
        (over-other stands c q n m leads e end k (other_ticket d r k ne is queue)
        ∙ stands.open_not_ended d q k (subst (λ j. ticket_at v d ≡ Some (ticket j k)) queue is)))
        (λ queue. over-queue stands c q n m leads e end r k queue ∙ stands.open_not_ended d r k is)
        (cases_eq r q)

    was_not_ended : (r k : ℕ) → has (ended now r) k ≡ false → (has (ended s r) k ≡ false) × (ticket r k ≢ ticket q n)
    was_not_ended r k f =
        ⊎_elim
        (λ queue.
        let f' = subst (λ j. has (ended now j) k ≡ false) queue f in
        ⊎_elim
        (λ number.
        let no : true ≡ false = sym (over-same stands c q n m leads e end) ∙ subst (λ j. has (ended now q) j ≡ false) number f' in absurd (cc no))
        (λ number. (
          subst (λ j. has (ended s j) k ≡ false) (sym queue) (sym (over-other stands c q n m leads e end k number) ∙ f'),
          λ one. number (ap (λ (t : Ticket). t.number) one),
        ))
        (cases_eq k n))
        (λ queue. (sym (over-queue stands c q n m leads e end r k queue) ∙ f, λ one. queue (ap (λ (t : Ticket). t.queue) one)))
        (cases_eq r q)

    the_open : (r k : ℕ) → k < drawn s r → has (ended now r) k ≡ false → (d : ℕ) × (ticket_at w d ≡ Some (ticket r k))
    the_open r k lt f =
        let was = was_not_ended r k f in
        let o = stands.not_ended_open r k lt was.0 in
        (o.0, ends.others o.0 (λ same. was.1 (both o.1 (ap (ticket_at v) same ∙ e))) ∙ o.1)

    ended_before : (r k : ℕ) → has (ended now r) k ≡ true → k < drawn s r
    ended_before r k t =
        ⊎_elim
        (λ queue. ⊎_elim
        (λ number. let lt = stands.open_drawn c q n e in let many = ap (drawn s) queue in omega arith)
        (λ number.
        stands.ended_drawn r k
        (subst (λ j. has (ended s j) k ≡ true) (sym queue)
        (sym (over-other stands c q n m leads e end k number) ∙ subst (λ j. has (ended now j) k ≡ true) queue t)))
        (cases_eq k n))
        (λ queue. stands.ended_drawn r k (sym (over-queue stands c q n m leads e end r k queue) ∙ t))
        (cases_eq r q)

    held_c : held_at v c ≡ held_up s q n
    held_c = stands.held_is c q n e

    the_held : (d k : ℕ) → d ≢ c → ticket_at v d ≡ Some (ticket q k) → held_at w d ≡ held_up now q k
    the_held d k ne is =
        ⊎_elim
        (λ number. subst (λ j. held_at w d ≡ held_up now q j) (sym number)
        (let here = subst (λ j. ticket_at v d ≡ Some (ticket q j)) number is in
        ends.next d here ∙ ((λ i. kept leads (held_c i) (stands.held_is d q m here i)) ∙ sym (held-next stands c q n m leads e end))))
        (λ number.
        ends.same d ne (λ here. number (ap (λ (t : Ticket). t.number) (both is here))) ∙ (stands.held_is d q k is ∙ sym (kept_there number)))
        (cases_eq k m)
      where
        kept_there : k ≢ m → held_up now q k ≡ held_up s q k
        kept_there number =
            ⊎_elim
            (λ less. held-below stands c q n m leads e end k less (released-below stands d q k is))
            (λ ge.
            let gt : n < k = let no = other_ticket d q k ne is refl in grind (arith, ge, no) in
            held-above stands c q n m leads e end k
            (⊎_elim (λ less. between gt less) (λ ge. grind (arith, ge, number)) (cases_lt k m)))
            (cases_lt k n)
          where
            between : n < k → k < m → m < k
            between gt lt =
                let no : true ≡ false = sym (end.between k gt lt) ∙ stands.open_not_ended d q k is in absurd (cc no)

    the_rest : (r : ℕ) → rest_at w r ≡ held_up now r (drawn s r)
    the_rest r =
        ⊎_elim
        (λ queue. subst (λ j. rest_at w j ≡ held_up now j (drawn s j)) (sym queue)
        (⊎_elim
        (λ same. ends.last same
        ∙ ((λ i. kept leads (held_c i) ((stands.rest_is q ∙ ap (held_up s q) (sym same)) i))
        ∙ (sym (held-next stands c q n m leads e end) ∙ ap (held_up now q) same)))
        (λ ne.
        let lt : m < drawn s q = let most = end.most in grind (arith, most, ne) in
        ends.not_last lt ∙ (stands.rest_is q ∙ sym (held-above stands c q n m leads e end (drawn s q) lt)))
        (cases_eq m (drawn s q))))
        (λ queue. ends.other_rests r queue ∙ (stands.rest_is r ∙ sym (held-queue stands c q n m leads e end r (drawn s r) queue)))
        (cases_eq r q)

    finished : Stands w now
    finished = record {
      drawn_is = λ r. ends.counts r ∙ stands.drawn_is r;
      tickets = the_tickets;
      open_drawn = λ d r k is. stands.open_drawn d r k (before d (ticket r k) is);
      open_not_ended = λ d r k is. not_ended d r k (apart d (ticket r k) is) (before d (ticket r k) is);
      one_core = λ d g t a b. stands.one_core d g t (before d t a) (before g t b);
      not_ended_open = the_open;
      ended_drawn = ended_before;
      unsent = stands.unsent;
      held_is = λ d r k is.
          let ne = apart d (ticket r k) is in
          let was = before d (ticket r k) is in
          ⊎_elim
          (λ queue. subst (λ j. held_at w d ≡ held_up now j k) (sym queue) (the_held d k ne (subst (λ j. ticket_at v d ≡ Some (ticket j k)) queue was)))
          (λ queue. ends.same d ne (λ here. queue (ap (λ (t : Ticket). t.queue) (both was here)))
          ∙ (stands.held_is d r k was ∙ sym (held-queue stands c q n m leads e end r k queue)))
          (cases_eq r q);
      idle_is = λ d none.
          ⊎_elim
          (λ same. subst (λ k. held_at w k ≡ []) (sym same) ends.empty)
          (λ ne. let was = sym (ends.others d ne) ∙ none in ends.same d ne (λ here. none_some was here) ∙ stands.idle_is d was)
          (cases_eq d c);
      rest_is = the_rest;
      due_is = ends.released
          ∙ ((λ i. due_with leads (stands.due_is i) (held_c i ++ held_up s q m)) ∙ sym (due-now stands c q n m leads e end));
      held_back = λ i lt.
          ap (λ nodes. is_nil (get_or nodes i [])) ends.nodes ∙ stands.held_back i (subst (λ nodes. i < length nodes) ends.nodes lt);
    }

  within : c < length v.cores
  within = ticket-within v.cores c (ticket q n) e

  abbrev without : List CoreOrder
  without = set v.cores c idle

  without-here : core_in without c ≡ idle
  without-here = core-same v.cores c idle within

  without-other : (d : ℕ) → d ≢ c → core_in without d ≡ core_in v.cores d
  without-other d ne = core-other v.cores c idle d ne

  -- no later ticket of the queue is open

  module _ (all : m ≡ drawn s q) (known : q < length v.queues) where
    abbrev queue : QueueOrder
    queue = record (queue_at v q) { rest = kept leads (held_at v c) (rest_at v q) }

    queue-here : queue_at (ended_by v c q None leads) q ≡ queue
    queue-here = get_or-set_same v.queues q queue undrawn known

    queue-other : (r : ℕ) → r ≢ q → queue_at (ended_by v c q None leads) r ≡ queue_at v r
    queue-other r ne = get_or-set_other v.queues q r queue undrawn ne

    pub last-stands : Stands (ended_by v c q None leads) (Finished c ∷ s)
    last-stands = finished (record {
      here = ap (λ (o : CoreOrder). option_map ticket_of o.ticket) without-here;
      others = λ d ne. ap (λ (o : CoreOrder). option_map ticket_of o.ticket) (without-other d ne);
      counts = λ r.
          ⊎_elim (λ same. subst (λ k. drawn_at (ended_by v c q None leads) k ≡ drawn_at v k) (sym same) (ap (λ (o : QueueOrder). o.drawn) queue-here))
          (λ ne. ap (λ (o : QueueOrder). o.drawn) (queue-other r ne)) (cases_eq r q);
      empty = ap (λ (o : CoreOrder). o.held) without-here;
      same = λ d ne no. ap (λ (o : CoreOrder). o.held) (without-other d ne);
      next = λ d is. let lt = stands.open_drawn d q m is in absurd (omega arith);
      other_rests = λ r ne. ap (λ (o : QueueOrder). o.rest) (queue-other r ne);
      last = λ same. ap (λ (o : QueueOrder). o.rest) queue-here;
      not_last = λ lt. absurd (omega arith);
      released = ap (λ l. due_with leads v.due (held_at v c ++ l)) (stands.rest_is q ∙ ap (held_up s q) (sym all));
      nodes = refl;
    })

  -- the next open ticket is that of core g

  module _ (g : ℕ) (g_is : ticket_at v g ≡ Some (ticket q m)) where
    abbrev core : CoreOrder
    core = record (core_in v.cores g) { held = kept leads (held_at v c) (held_at v g) }

    g_apart : g ≢ c
    g_apart same =
        let number = ap (λ (t : Ticket). t.number) (both g_is (ap (ticket_at v) same ∙ e)) in
        let later = end.later in absurd (omega arith)

    g_within : g < length without
    g_within = subst (λ k. g < k) (sym (length-set v.cores c idle)) (ticket-within v.cores g (ticket q m) g_is)

    g-here : core_in (set without g core) g ≡ core
    g-here = core-same without g core g_within

    g-other : (d : ℕ) → d ≢ g → core_in (set without g core) d ≡ core_in without d
    g-other d ne = core-other without g core d ne

    c-here : core_in (set without g core) c ≡ idle
    c-here = g-other c (λ same. g_apart (sym same)) ∙ without-here

    pub next-stands : Stands (ended_by v c q (Some g) leads) (Finished c ∷ s)
    next-stands = finished (record {
      here = ap (λ (o : CoreOrder). option_map ticket_of o.ticket) c-here;
      others = λ d ne.
          ⊎_elim
          (λ same. subst (λ k. ticket_at (ended_by v c q (Some g) leads) k ≡ ticket_at v k) (sym same)
          (ap (λ (o : CoreOrder). option_map ticket_of o.ticket) g-here))
          (λ apart. ap (λ (o : CoreOrder). option_map ticket_of o.ticket) (g-other d apart ∙ without-other d ne)) (cases_eq d g);
      counts = λ r. refl;
      empty = ap (λ (o : CoreOrder). o.held) c-here;
      same = λ d ne no.
          ap (λ (o : CoreOrder). o.held)
          (g-other d (λ same. no (ap (ticket_at v) same ∙ g_is)) ∙ without-other d ne);
      next = λ d is.
          let one = stands.one_core d g (ticket q m) is g_is in
          subst (λ k. held_at (ended_by v c q (Some g) leads) k ≡ kept leads (held_at v c) (held_at v k)) (sym one)
          (ap (λ (o : CoreOrder). o.held) g-here);
      other_rests = λ r ne. refl;
      last = λ same. let lt = stands.open_drawn g q m g_is in absurd (omega arith);
      not_last = λ lt. refl;
      released = ap (λ l. due_with leads v.due (held_at v c ++ l)) (stands.held_is g q m g_is);
      nodes = refl;
    })

-- where no later ticket is open, and where one is

pub next-from : {now cores : List CoreOrder} → now ≡ cores → (q from : ℕ) (next : Option Open)
    → MatchOption next (NoneOpen now q from) (λ o. IsNextOpen now q from o.core o.number)
    → MatchOption next (NoneOpen cores q from) (λ o. IsNextOpen cores q from o.core o.number)
next-from e q from next is = subst (λ cores. MatchOption next (NoneOpen cores q from) (λ o. IsNextOpen cores q from o.core o.number)) e is

pub next-apart : (cores : List CoreOrder) (c q n from : ℕ) (next : Option Open) → ticket_in cores c ≡ Some (ticket q n) → n < from
    → MatchOption next (NoneOpen cores q from) (λ o. IsNextOpen cores q from o.core o.number)
    → IfSome next (λ o. (o.core < length cores) × (o.core ≢ c))
next-apart cores c q n from None e lt is = tt
next-apart cores c q n from (Some o) e lt is = (
  ticket-within cores o.core (ticket q o.number) is.is_open,
  λ same.
      let number = ap (λ (t : Ticket). t.number) (both is.is_open (ap (ticket_in cores) same ∙ e)) in
      let there = is.from_there in absurd (omega arith),
)

pub finished-stands : {v : OrderState} {s : List OrderStep} → Stands v s → (c q n least from : ℕ) (next : Option Open) (leads : Bool)
    → ticket_at v c ≡ Some (ticket q n) → q < length v.queues → LeastOpen v.cores q n least → from ≡ suc n
    → MatchOption next (NoneOpen v.cores q from) (λ o. IsNextOpen v.cores q from o.core o.number) → leads ≡ (least == n)
    → Stands (ended_by v c q (option_map (λ (o : Open). o.core) next) leads) (Finished c ∷ s)
finished-stands {v} {s} stands c q n least from next leads e known l from_is is leads_is = by_next next is
  where
    the_first : leads ≡ true → released s q ≡ n
    the_first t = least-released stands c q n least e l ∙ eqb-true least n (sym leads_is ∙ t)

    not_the_first : leads ≡ false → released s q < n
    not_the_first f =
        let ne : least ≢ n = eqb-false least n (sym leads_is ∙ f) in
        let most = l.least c n e in
        let least_is = least-released stands c q n least e l in
        let lt : least < n = grind (arith, ne, most) in omega arith

    by_next : (next : Option Open) → MatchOption next (NoneOpen v.cores q from) (λ o. IsNextOpen v.cores q from o.core o.number)
        → Stands (ended_by v c q (option_map (λ (o : Open). o.core) next) leads) (Finished c ∷ s)
    by_next None none =
        last-stands stands c q n (drawn s q) leads e
        (record {
          later = stands.open_drawn c q n e;
          most = omega arith;
          between = λ k gt lt.
              ended-between stands q from (drawn s q) (omega arith)
              (λ d j at ge. let less = none d j at in absurd (omega arith)) k (omega arith) lt;
          stops = not_drawn-not_ended stands q (drawn s q) (omega arith);
          first = the_first;
          not_first = not_the_first;
        })
        refl known
    by_next (Some o) next =
        next-stands stands c q n o.number leads e
        (record {
          later = let there = next.from_there in omega arith;
          most = let lt = stands.open_drawn o.core q o.number next.is_open in omega arith;
          between = λ k gt lt.
              ended-between stands q from o.number (let lt = stands.open_drawn o.core q o.number next.is_open in omega arith)
              next.least k (omega arith) lt;
          stops = stands.open_not_ended o.core q o.number next.is_open;
          first = the_first;
          not_first = not_the_first;
        })
        o.core next.is_open
