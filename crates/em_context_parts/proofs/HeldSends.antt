-- What is held back by the steps of a history was sent under a ticket that does not enter yet.
use Rattle.std.proofs.Common.{◌≡◌, ℕ, zero, suc, ◌+◌, ◌-◌, ◌≤◌, ◌<◌, ◌==◌, ◌||◌, Bool, true, false, List, [], ◌∷◌, ◌++◌, map, length, take, drop, Option, Some, None, if◌then◌else◌, arith, refl, ap, sym, ◌∙◌, subst}
use Rattle.std.specs.Prelude.{nat_le}
use Rattle.std.specs.List.{list_any}
use Rattle.std.proofs.lemmas.Bool.{eq-eqb, false_from_ne_true}
use Rattle.std.proofs.lemmas.List.{take-map}
use Rattle.std.proofs.Math.Seq.{take-length}
use Rattle.em_log.specs.declared.declarations.Declarations.{Declarations}
use Rattle.em_log.specs.declared.entry.What.{What}
use Rattle.em_log.specs.declared.ids.Handle.{Handle}
use Rattle.em_log.specs.declared.ids.Limits.{Limits}
use Rattle.em_log.specs.declared.ids.QueueId.{QueueId}
use Rattle.em_log.specs.declared.ids.Stamp.{Stamp}
use Rattle.em_log.specs.History.{Past, entry_by, index_of}
use Rattle.em_log.specs.Declarations.{numbers_from}
use Rattle.em_log.specs.Handles.{Spending, spending}
use Rattle.em_log.specs.Order.{Ticket, Sent as LogSent, takes, with_number, ended, run_from, is_ticket, ticket_of_send, sends_under, sends_under_all}
use Rattle.em_log.specs.Order as log
use Rattle.em_log.specs.Lawful.{AllAllowed}
use Rattle.em_moments.proofs.Moments.{Moment, allowed-moment}
use Rattle.em_moments.proofs.Asked.{and-true}
use Rattle.em_laws.proofs.Cores.{Compared, Same, Other, compared, eqb-eq}
use Rattle.em_laws.proofs.Spent.{usable, spending-kept, spends-now}
use Rattle.em_laws.proofs.Tickets.{nat-le-is, nat-le-false, take-released}
use Rattle.em_arrivals.proofs.Lists.{AllSent, all-append, all-map}
use Rattle.em_order.specs.declared.item_list.Item.{Item}
use Rattle.em_order.specs.Steps.{OrderStep, Sent, Finished}
use Rattle.em_order.specs.Tickets.{open_ticket}
use Rattle.em_order.specs.Sends.{enters, due, begins_with, is_held_back}
use Rattle.em_context_parts.specs.OrderSteps.{item_of, released_steps, finished_steps, let_in_count, order_after, order_steps}
use Rattle.em_context_parts.specs.OrderAlike.{IsWaitingForOrder}
use Rattle.em_context_parts.proofs.Lists.{any-left, any-right}
use Rattle.em_context_parts.proofs.OpenTickets.{IsFitting, AreFitting}
use Rattle.em_context_parts.proofs.Tickets.{same-open, same-released}
use Rattle.em_context_parts.proofs.LetIn.{IsOrdered, open-ordered, finished-due, releases-due}

-- lists

any-range : (p : LogSent → Bool) (past : Past) (q m a n : ℕ) → list_any p (sends_under past q m) ≡ true → a ≤ m → m < a + n
    → list_any p (sends_under_all past q (numbers_from a n)) ≡ true
any-range p past q m a zero h low high = absurd (omega arith)
any-range p past q m a (suc n) h low high = by_test (compared a m) (any-range p past q m (suc a) n h)
  where
    by_test : Compared a m → (suc a ≤ m → m < suc a + n → list_any p (sends_under_all past q (numbers_from (suc a) n)) ≡ true)
        → list_any p (sends_under past q a ++ sends_under_all past q (numbers_from (suc a) n)) ≡ true
    by_test (Same t e) later = any-left p (sends_under past q a) _ (ap (λ j. list_any p (sends_under past q j)) e ∙ h)
    by_test (Other f apart) later = any-right p (sends_under past q a) _ (later (omega (arith, apart)) (omega arith))

any-map : (i : ℕ) (ss : List LogSent) → list_any (λ (x : Item). x.index == i) (map item_of ss) ≡ list_any (λ (s : LogSent). index_of s.handle == i) ss
any-map i [] = refl
any-map i (s ∷ ss) = ap (λ b. (index_of s.handle == i) || b) (any-map i ss)

-- what may enter is released, item by item

one-more : (i n : ℕ) (xs : List Item) → list_any (λ (x : Item). x.index == i) (take n xs) ≡ false → begins_with i (drop n xs) ≡ false
    → list_any (λ (x : Item). x.index == i) (take (suc n) xs) ≡ false
one-more i zero [] none first = refl
one-more i zero (x ∷ xs) none first = rw first refl
one-more i (suc n) [] none first = refl
one-more i (suc n) (x ∷ xs) none first = by_test (x.index == i) none (λ later. one-more i n xs later first)
  where
    by_test : (b : Bool) → (b || list_any (λ (x : Item). x.index == i) (take n xs)) ≡ false
        → (list_any (λ (x : Item). x.index == i) (take n xs) ≡ false → list_any (λ (x : Item). x.index == i) (take (suc n) xs) ≡ false)
        → (b || list_any (λ (x : Item). x.index == i) (take (suc n) xs)) ≡ false
    by_test true none later = absurd cc
    by_test false none later = later none

-- the event of index i stays held back while others are released
record StaysBack (n : ℕ) (steps : List OrderStep) (i : ℕ) : Type 0 where
  pub was : is_held_back steps i ≡ true
  pub others : list_any (λ (x : Item). x.index == i) (take n (due steps)) ≡ false

stays-back : (n : ℕ) (steps : List OrderStep) (i : ℕ) → is_held_back (released_steps n steps) i ≡ true → StaysBack n steps i
stays-back zero steps i h = record { was = h; others = refl }
stays-back (suc n) steps i h = by_first (begins_with i (due (released_steps n steps))) refl h (stays-back n steps i)
  where
    by_first : (b : Bool) → begins_with i (due (released_steps n steps)) ≡ b → (if b then false else is_held_back (released_steps n steps) i) ≡ true
        → (is_held_back (released_steps n steps) i ≡ true → StaysBack n steps i) → StaysBack (suc n) steps i
    by_first true is h later = absurd cc
    by_first false is h later =
        let o = later h in
        record { was = o.was; others = one-more i n (due steps) o.others (ap (begins_with i) (sym (releases-due n steps)) ∙ is) }

-- a send under a ticket that does not enter yet

abbrev has_index : ℕ → LogSent → Bool
has_index i s = index_of s.handle == i

record HeldIn (past : Past) (i : ℕ) : Type 0 where
  pub ticket : Ticket
  pub before : log.enters past (Some ticket) ≡ false
  pub there : list_any (has_index i) (sends_under past ticket.queue ticket.number) ≡ true

under-grows : (past : Past) (d : ℕ) (w : What) (p : LogSent → Bool) (q m : ℕ) → list_any p (sends_under past q m) ≡ true
    → list_any p (sends_under (entry_by d w ∷ past) q m) ≡ true
under-grows past d (What.Send h r t s) p q m is = by_ticket (is_ticket q m (ticket_of_send past d t))
  where
    by_ticket : (b : Bool) → list_any p (if b then sends_under past q m ++ record { queue = r.0; core = d; handle = h.0; stamp = s } ∷ [] else sends_under past q m) ≡ true
    by_ticket true = any-left p (sends_under past q m) _ is
    by_ticket false = is
under-grows past d w p q m is = is

held-on : (past : Past) (d : ℕ) (w : What) (i : ℕ) (h : HeldIn past i) → log.enters (entry_by d w ∷ past) (Some h.ticket) ≡ false → HeldIn (entry_by d w ∷ past) i
held-on past d w i h still =
    record { ticket = h.ticket; before = still; there = under-grows past d w (has_index i) h.ticket.queue h.ticket.number h.there }

-- a held send that may enter is let in
lets-in : (past now : Past) (o : Option Ticket) (p : LogSent → Bool) (t : Ticket)
    → ((q : ℕ) → log.released now q ≡ run_from (takes past q) 0 (with_number q o (ended past q)))
    → list_any p (sends_under past t.queue t.number) ≡ true → log.enters past (Some t) ≡ false → log.enters now (Some t) ≡ true
    → list_any p (log.let_in past now o) ≡ true
lets-in past now None p t is there before after = absurd (cc (before, after, ap (nat_le t.number) (is t.queue)))
lets-in past now (Some u) p t is there before after = by_queue (compared u.queue t.queue)
  where
    by_queue : Compared u.queue t.queue → list_any p (log.let_in past now (Some u)) ≡ true
    by_queue (Same v e) =
        let gt = nat-le-false t.number (log.released past t.queue) before in
        let le = nat-le-is t.number (log.released now t.queue) after in
        let here = ap (log.released past) e in
        let now_here = ap (log.released now) e in
        any-range p past u.queue t.number (suc (log.released past u.queue)) (log.released now u.queue - log.released past u.queue)
        (subst (λ (q : ℕ). list_any p (sends_under past q t.number) ≡ true) (sym e) there) (omega (arith, gt, here)) (omega (arith, gt, le, here, now_here))
    by_queue (Other f apart) =
        let same : log.released now t.queue ≡ log.released past t.queue = is t.queue ∙ (rw f refl) in
        absurd (cc (before, after, ap (nat_le t.number) same))

pub same-enters : (k : Declarations) (past : Past) → AreFitting k past → (o : Option Ticket) → IsOrdered k o → enters (order_steps past) o ≡ log.enters past o
same-enters k past fit None ordered = refl
same-enters k past fit (Some t) ordered = ap (nat_le t.number) (same-released k past fit t.queue ordered)

module _ (k : Declarations) (l : Limits) (past : Past) (all : AllAllowed k l past) (fit : AreFitting k past)
    (was : (i : ℕ) → is_held_back (order_steps past) i ≡ true → HeldIn past i) (c i : ℕ) where
  abbrev steps : List OrderStep
  steps = order_steps past

  -- the end of a ticket
  end-held : (w : What) → ((q : ℕ) → log.released (entry_by c w ∷ past) q ≡ run_from (takes past q) 0 (with_number q (log.open_ticket past c) (ended past q)))
      → (o : Option Ticket) → log.open_ticket past c ≡ o → is_held_back (finished_steps c o (let_in_count past c w) steps) i ≡ true → HeldIn (entry_by c w ∷ past) i
  end-held w is None none h =
      let o = was i h in
      let same : log.released (entry_by c w ∷ past) o.ticket.queue ≡ log.released past o.ticket.queue =
      is o.ticket.queue ∙ ap (λ v. run_from (takes past o.ticket.queue) 0 (with_number o.ticket.queue v (ended past o.ticket.queue))) none in
      held-on past c w i o (ap (nat_le o.ticket.number) same ∙ o.before)
  end-held w is (Some t) some h =
      let back = stays-back (let_in_count past c w) (Finished c ∷ steps) i h in
      let o = was i back.was in
      held-on past c w i o (false_from_ne_true (log.enters (entry_by c w ∷ past) (Some o.ticket)) (λ after.
      let there = lets-in past (entry_by c w ∷ past) (log.open_ticket past c) (has_index i) o.ticket is o.there o.before after in
      cc (there, none_there back.others)))
    where
      ls : List LogSent
      ls = log.let_in past (entry_by c w ∷ past) (log.open_ticket past c)

      all_due : take (let_in_count past c w) (due (Finished c ∷ steps)) ≡ map item_of ls
      all_due =
          ap (take (length ls)) (finished-due k past (entry_by c w ∷ past) fit c is)
          ∙ (take-map item_of (length ls) ls ∙ ap (map item_of) (take-length ls))

      none_there : list_any (λ (x : Item). x.index == i) (take (let_in_count past c w) (due (Finished c ∷ steps))) ≡ false
          → list_any (has_index i) ls ≡ false
      none_there h = sym (any-map i ls) ∙ (ap (list_any (λ (x : Item). x.index == i)) (sym all_due) ∙ h)

  -- a send
  send-held : (h : Handle) (q : QueueId) (n : Option ℕ) (s : Option Stamp) → ticket_of_send past c n ≡ log.open_ticket past c
      → is_held_back (Sent c (record { index = index_of h.0; queue = q; core = record { 0 = c } }) ∷ steps) i ≡ true
      → HeldIn (entry_by c (What.Send h q n s) ∷ past) i
  send-held h q n s fits is = by_enters (enters steps (open_ticket steps c)) refl is
    where
      now : Past
      now = entry_by c (What.Send h q n s) ∷ past

      older : is_held_back steps i ≡ true → HeldIn now i
      older back = let o = was i back in held-on past c (What.Send h q n s) i o o.before

      under : (o : Option Ticket) → log.open_ticket past c ≡ o → log.enters past o ≡ false → (index_of h.0 == i) ≡ true → HeldIn now i
      under None none off own = absurd (cc off)
      under (Some t) some off own = record {
        ticket = t;
        before = off;
        there = rw (fits, some, eq-eqb t.queue t.queue refl, eq-eqb t.number t.number refl)
            (any-right (has_index i) (sends_under past t.queue t.number) _ (rw own refl));
      }

      by_index : (b : Bool) → (index_of h.0 == i) ≡ b → (b || is_held_back steps i) ≡ true → log.enters past (log.open_ticket past c) ≡ false → HeldIn now i
      by_index true own is off = under (log.open_ticket past c) refl off own
      by_index false own is off = older is

      by_enters : (b : Bool) → enters steps (open_ticket steps c) ≡ b → (if b then is_held_back steps i else ((index_of h.0 == i) || is_held_back steps i)) ≡ true
          → HeldIn now i
      by_enters true on is = older is
      by_enters false off is =
          by_index (index_of h.0 == i) refl is
          (sym (same-enters k past fit (log.open_ticket past c) (open-ordered k past fit c)) ∙ (ap (enters steps) (sym (same-open k past fit c)) ∙ off))

  next-held : (w : What) → Moment k l past c w → IsFitting k past c w → is_held_back (order_after past c w steps) i ≡ true → HeldIn (entry_by c w ∷ past) i
  next-held (What.Take q n (Some t)) m fits h =
      let o = was i h in
      held-on past c (What.Take q n (Some t)) i o (ap (nat_le o.ticket.number) (take-released k l past c q n (Some t) o.ticket.queue all) ∙ o.before)
  next-held (What.Take q n None) m fits h =
      let o = was i h in
      held-on past c (What.Take q n None) i o (ap (nat_le o.ticket.number) (take-released k l past c q n None o.ticket.queue all) ∙ o.before)
  next-held (What.Send f q n s) m fits h = send-held f q n s fits h
  next-held What.EndOrdered m fits h = end-held What.EndOrdered (λ q. refl) (log.open_ticket past c) refl h
  next-held (What.End lost cells) m fits h = end-held (What.End lost cells) (λ q. refl) (log.open_ticket past c) refl h
  next-held w m fits h = let o = was i h in held-on past c w i o o.before

held-in : (k : Declarations) (l : Limits) (past : Past) → AllAllowed k l past → AreFitting k past → (i : ℕ) → is_held_back (order_steps past) i ≡ true → HeldIn past i
held-in k l [] all fit i h = absurd cc
held-in k l (e ∷ past) all fit i h =
    next-held k l past all.1 fit.1 (held-in k l past all.1 fit.1) e.core.0 i e.what (allowed-moment k l past e all.1 all.0) fit.0 h

-- what was sent under a ticket

record SentAs (past : Past) (q m : ℕ) (s : LogSent) : Type 0 where
  pub how : Spending
  pub number : Option ℕ
  pub spent : spending past s.handle ≡ Some how
  pub what : how.what ≡ What.Send (record { 0 = s.handle }) (record { 0 = s.queue }) number s.stamp
  pub ticket : ticket_of_send how.before how.core number ≡ Some (record { queue = q; number = m })

as-kept : (past : Past) (d : ℕ) (w : What) (q m : ℕ) (ss : List LogSent) → AllSent (SentAs past q m) ss → AllSent (SentAs (entry_by d w ∷ past) q m) ss
as-kept past d w q m ss a =
    all-map (SentAs past q m) (SentAs (entry_by d w ∷ past) q m) ss (λ s o. record {
      how = o.how;
      number = o.number;
      spent = spending-kept past d w s.handle o.how o.spent;
      what = o.what;
      ticket = o.ticket;
    }) a

ticket-is : (q m : ℕ) (o : Option Ticket) → is_ticket q m o ≡ true → o ≡ Some (record { queue = q; number = m })
ticket-is q m None is = absurd cc
ticket-is q m (Some t) is =
    let both = and-true (t.queue == q) (t.number == m) is in
    ap (λ (i : ℕ). Some (record { queue = i; number = t.number })) (eqb-eq t.queue q both.0)
    ∙ ap (λ (i : ℕ). Some (record { queue = q; number = i })) (eqb-eq t.number m both.1)

next-as : (k : Declarations) (l : Limits) (past : Past) (d : ℕ) (w : What) (q m : ℕ) → Moment k l past d w → AllSent (SentAs past q m) (sends_under past q m)
    → AllSent (SentAs (entry_by d w ∷ past) q m) (sends_under (entry_by d w ∷ past) q m)
next-as k l past d (What.Send h r n s) q m mo older = by_ticket (is_ticket q m (ticket_of_send past d n)) refl
  where
    now : Past
    now = entry_by d (What.Send h r n s) ∷ past

    sent : LogSent
    sent = record { queue = r.0; core = d; handle = h.0; stamp = s }

    by_ticket : (b : Bool) → is_ticket q m (ticket_of_send past d n) ≡ b → AllSent (SentAs now q m) (if b then sends_under past q m ++ sent ∷ [] else sends_under past q m)
    by_ticket false is = as-kept past d (What.Send h r n s) q m (sends_under past q m) older
    by_ticket true is =
        let free = usable past d h.0 mo.rule in
        all-append (SentAs now q m) (sends_under past q m) (sent ∷ []) (as-kept past d (What.Send h r n s) q m (sends_under past q m) older) (
          record {
            how = record { before = past; core = d; what = What.Send h r n s };
            number = n;
            spent = spends-now past d (What.Send h r n s) h.0 free.unspent (rw (eq-eqb h.0 h.0 refl) refl);
            what = refl;
            ticket = ticket-is q m (ticket_of_send past d n) is;
          },
          tt,
        )
next-as k l past d w q m mo older = as-kept past d w q m (sends_under past q m) older

all-as : (k : Declarations) (l : Limits) (past : Past) → AllAllowed k l past → (q m : ℕ) → AllSent (SentAs past q m) (sends_under past q m)
all-as k l [] all q m = tt
all-as k l (e ∷ past) all q m = next-as k l past e.core.0 e.what q m (allowed-moment k l past e all.1 all.0) (all-as k l past all.1 q m)

waiting-as : (past : Past) (t : Ticket) (i : ℕ) (ss : List LogSent) → log.enters past (Some t) ≡ false → AllSent (SentAs past t.queue t.number) ss
    → list_any (has_index i) ss ≡ true → IsWaitingForOrder past i
waiting-as past t i [] before a there = absurd cc
waiting-as past t i (s ∷ ss) before a there = by_index (compared (index_of s.handle) i) there (waiting-as past t i ss before a.1)
  where
    by_index : Compared (index_of s.handle) i → ((index_of s.handle == i) || list_any (has_index i) ss) ≡ true
        → (list_any (has_index i) ss ≡ true → IsWaitingForOrder past i) → IsWaitingForOrder past i
    by_index (Same v e) there later = record {
      handle = record { 0 = s.handle };
      how = a.0.how;
      queue = record { 0 = s.queue };
      number = a.0.number;
      stamp = s.stamp;
      index = e;
      spent = a.0.spent;
      what = a.0.what;
      held = ap (log.enters past) a.0.ticket ∙ before;
    }
    by_index (Other f apart) there later = later (rw f at there)

pub held-waits : (k : Declarations) (l : Limits) (past : Past) → AllAllowed k l past → AreFitting k past → (i : ℕ) → is_held_back (order_steps past) i ≡ true
    → IsWaitingForOrder past i
held-waits k l past all fit i h =
    let o = held-in k l past all fit i h in waiting-as past o.ticket i (sends_under past o.ticket.queue o.ticket.number) o.before
    (all-as k l past all o.ticket.queue o.ticket.number) o.there
