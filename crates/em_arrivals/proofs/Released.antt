-- What the end of a ticket lets in was sent under a ticket of the same queue, and was held back.
use Rattle.std.proofs.Common.{◌≡◌, ℕ, zero, suc, ◌+◌, ◌-◌, ◌≤◌, ◌<◌, ◌==◌, Bool, true, false, [], ◌∷◌, ◌++◌, Option, Some, None, refl, sym, ◌∙◌, subst, ap, if◌then◌else◌, arith}
use Rattle.std.specs.Prelude.{nat_le}
use Rattle.std.proofs.lemmas.Bool.{false_from_ne_true, eq-eqb}
use Rattle.em_log.specs.declared.declarations.Declarations.{Declarations}
use Rattle.em_log.specs.declared.entry.What.{What}
use Rattle.em_log.specs.declared.ids.Handle.{Handle}
use Rattle.em_log.specs.declared.ids.QueueId.{QueueId}
use Rattle.em_log.specs.declared.ids.Stamp.{Stamp}
use Rattle.em_log.specs.declared.ids.Limits.{Limits}
use Rattle.em_log.specs.History.{Past, entry_by}
use Rattle.em_log.specs.Declarations.{numbers_from}
use Rattle.em_log.specs.Handles.{Spending, spending}
use Rattle.em_log.specs.Order.{Ticket, Sent, released, ticket_of_send, enters, is_ticket, sends_under, sends_under_all, let_in}
use Rattle.em_log.specs.Lawful.{AllAllowed}
use Rattle.em_moments.proofs.Asked.{and-true}
use Rattle.em_moments.proofs.Moments.{Moment, allowed-moment}
use Rattle.em_laws.proofs.Cores.{eqb-eq}
use Rattle.em_laws.proofs.Spent.{usable, spending-kept, spends-now}
use Rattle.em_laws.proofs.Tickets.{nat-le-true, nat-le-is, nat-le-false}
use Rattle.em_arrivals.proofs.Lists.{AllSent, all-append, all-map}

pub record SentUnder (past : Past) (q m : ℕ) (s : Sent) : Type 0 where
  pub how : Spending
  pub handle : Handle
  pub to : QueueId
  pub number : Option ℕ
  pub stamp : Option Stamp
  pub spent : spending past s.handle ≡ Some how
  pub what : how.what ≡ What.Send handle to number stamp
  pub queue : to.0 ≡ s.queue
  pub ticket : ticket_of_send how.before how.core number ≡ Some (record { queue = q; number = m })

under-kept : (past : Past) (d : ℕ) (w : What) (q m : ℕ) (s : Sent) → SentUnder past q m s → SentUnder (entry_by d w ∷ past) q m s
under-kept past d w q m s u = record {
  how = u.how;
  handle = u.handle;
  to = u.to;
  number = u.number;
  stamp = u.stamp;
  spent = spending-kept past d w s.handle u.how u.spent;
  what = u.what;
  queue = u.queue;
  ticket = u.ticket;
}

ticket-is : (q m : ℕ) (o : Option Ticket) → is_ticket q m o ≡ true → o ≡ Some (record { queue = q; number = m })
ticket-is q m None is = absurd cc
ticket-is q m (Some t) is =
    let both = and-true (t.queue == q) (t.number == m) is in
    let one : t.queue ≡ q = eqb-eq t.queue q both.0 in
    let two : t.number ≡ m = eqb-eq t.number m both.1 in
    ap (λ (i : ℕ). Some (record { queue = i; number = t.number })) one ∙ ap (λ (i : ℕ). Some (record { queue = q; number = i })) two

under-next : (k : Declarations) (l : Limits) (past : Past) (d : ℕ) (w : What) (q m : ℕ) → Moment k l past d w → AllSent (SentUnder past q m) (sends_under past q m)
    → AllSent (SentUnder (entry_by d w ∷ past) q m) (sends_under (entry_by d w ∷ past) q m)
under-next k l past d (What.Send f r t st) q m mo older = by_ticket (is_ticket q m (ticket_of_send past d t)) refl
  where
    now : Past
    now = entry_by d (What.Send f r t st) ∷ past

    rec : Sent
    rec = record { queue = r.0; core = d; handle = f.0; stamp = st }

    kept : AllSent (SentUnder now q m) (sends_under past q m)
    kept = all-map (SentUnder past q m) (SentUnder now q m) (sends_under past q m) (λ s u. under-kept past d (What.Send f r t st) q m s u) older

    by_ticket : (b : Bool) → is_ticket q m (ticket_of_send past d t) ≡ b → AllSent (SentUnder now q m) (if b then sends_under past q m ++ rec ∷ [] else sends_under past q m)
    by_ticket false is = kept
    by_ticket true is =
        let free = usable past d f.0 mo.rule in
        all-append (SentUnder now q m) (sends_under past q m) (rec ∷ []) kept (
          record {
            how = record { before = past; core = d; what = What.Send f r t st };
            handle = f;
            to = r;
            number = t;
            stamp = st;
            spent = spends-now past d (What.Send f r t st) f.0 free.unspent (rw (eq-eqb f.0 f.0 refl) refl);
            what = refl;
            queue = refl;
            ticket = ticket-is q m (ticket_of_send past d t) is;
          },
          tt,
        )
under-next k l past d w q m mo older = all-map (SentUnder past q m) (SentUnder (entry_by d w ∷ past) q m) (sends_under past q m) (λ s u. under-kept past d w q m s u) older

under-all : (k : Declarations) (l : Limits) (past : Past) → AllAllowed k l past → (q m : ℕ) → AllSent (SentUnder past q m) (sends_under past q m)
under-all k l [] all q m = tt
under-all k l (e ∷ past) all q m = under-next k l past e.core.0 e.what q m (allowed-moment k l past e all.1 all.0) (under-all k l past all.1 q m)

-- it was held back, and enters now
pub record LetIn (past now : Past) (s : Sent) : Type 0 where
  pub source : ℕ
  pub number : ℕ
  pub sent : SentUnder past source number s
  pub before : enters past (Some (record { queue = source; number = number })) ≡ false
  pub after : enters now (Some (record { queue = source; number = number })) ≡ true

let-in-range : (k : Declarations) (l : Limits) (past now : Past) (q a n : ℕ) → AllAllowed k l past → released past q < a → a + n ≤ suc (released now q)
    → AllSent (LetIn past now) (sends_under_all past q (numbers_from a n))
let-in-range k l past now q a zero all low high = tt
let-in-range k l past now q a (suc n) all low high =
    all-append (LetIn past now) (sends_under past q a) (sends_under_all past q (numbers_from (suc a) n))
    (all-map (SentUnder past q a) (LetIn past now) (sends_under past q a) (λ s u. record {
      source = q;
      number = a;
      sent = u;
      before = false_from_ne_true _ (λ on. let le = nat-le-is a (released past q) on in omega (arith, le, low));
      after = nat-le-true a (released now q) (omega (arith, high));
    }) (under-all k l past all q a))
    (let-in-range k l past now q (suc a) n all (omega (arith, low)) (omega (arith, high)))

pub let-in-all : (k : Declarations) (l : Limits) (past now : Past) (o : Option Ticket) → AllAllowed k l past → AllSent (LetIn past now) (let_in past now o)
let-in-all k l past now None all = tt
let-in-all k l past now (Some t) all = by_grown (nat_le (released past t.queue) (released now t.queue)) refl
  where
    by_grown : (b : Bool) → nat_le (released past t.queue) (released now t.queue) ≡ b → AllSent (LetIn past now) (let_in past now (Some t))
    by_grown true is =
        let le = nat-le-is (released past t.queue) (released now t.queue) is in
        let-in-range k l past now t.queue (suc (released past t.queue)) (released now t.queue - released past t.queue) all (omega arith) (omega (arith, le))
    by_grown false is =
        let none : released now t.queue - released past t.queue ≡ 0 =
        let gt = nat-le-false (released past t.queue) (released now t.queue) is in omega (arith, gt) in
        subst (λ n. AllSent (LetIn past now) (sends_under_all past t.queue (numbers_from (suc (released past t.queue)) n))) (sym none) tt
