-- How many leading tickets have ended never falls, and what was sent under a ticket.
use Rattle.std.proofs.Common.{◌≡◌, ◌≢◌, ◌⊎◌, inl, inr, ℕ, zero, suc, ◌+◌, ◌-◌, ◌≤◌, ◌<◌, ◌==◌, Bool, true, false, List, [], ◌∷◌, ◌++◌, Option, Some, None, refl, sym, ◌∙◌, subst, ap, if◌then◌else◌, arith}
use Rattle.std.specs.Prelude.{nat_le}
use Rattle.std.specs.Option.{option_map}
use Rattle.std.proofs.lemmas.Bool.{eq-eqb, false_from_ne_true}
use Rattle.std.proofs.lemmas.Bool.Decides.{leb_tells}
use Rattle.em_log.specs.declared.declarations.Declarations.{Declarations}
use Rattle.em_log.specs.declared.entry.What.{What}
use Rattle.em_log.specs.declared.ids.Stamp.{Stamp}
use Rattle.em_log.specs.declared.ids.Handle.{Handle}
use Rattle.em_log.specs.declared.ids.QueueId.{QueueId}
use Rattle.em_log.specs.declared.ids.Limits.{Limits}
use Rattle.em_log.specs.History.{Past, entry_by, has}
use Rattle.em_log.specs.Declarations.{kind_of, is_ordered, numbers_from}
use Rattle.em_log.specs.Handles.{Spending, spending, rule}
use Rattle.em_log.specs.Order.{Ticket, Sent, takes_after, takes, ticket_after, open_ticket, with_number, ended_after, ended, run_from, released, ticket_of_send, enters, is_ticket, sends_after, sends_under, sends_under_all, let_in}
use Rattle.em_log.specs.Lawful.{AllAllowed}
use Rattle.em_moments.proofs.Moments.{Moment, SendMoment, allowed-moment}
use Rattle.em_laws.proofs.Cores.{Compared, Same, Other, compared, none-some, some-inj}
use Rattle.em_laws.proofs.Acks.{has-cons}
use Rattle.em_laws.proofs.Counts.{times, times-append}
use Rattle.em_laws.proofs.Spent.{usable, spending-kept, spends-now, spends-other}

-- released

run-grows : (n m t : ℕ) (ts us : List ℕ) → n ≤ m → ((x : ℕ) → has ts x ≡ true → has us x ≡ true) → run_from n t ts ≤ run_from m t us
run-grows zero m t ts us le more = omega arith
run-grows (suc n) zero t ts us le more = absurd (omega arith)
run-grows (suc n) (suc m) t ts us le more = by_test (has ts t) refl (run-grows n m (suc t) ts us (omega arith) more)
  where
    by_test : (b : Bool) → has ts t ≡ b → run_from n (suc t) ts ≤ run_from m (suc t) us → (if b then suc (run_from n (suc t) ts) else 0) ≤ (if has us t then suc (run_from m (suc t) us) else 0)
    by_test false is rest = omega arith
    by_test true is rest = rw (more t is) (omega arith)

with-grows : (q : ℕ) (o : Option Ticket) (ts : List ℕ) (x : ℕ) → has ts x ≡ true → has (with_number q o ts) x ≡ true
with-grows q None ts x h = h
with-grows q (Some t) ts x h = by_queue (t.queue == q)
  where
    by_queue : (b : Bool) → has (if b then t.number ∷ ts else ts) x ≡ true
    by_queue true = has-cons t.number ts x h
    by_queue false = h

ended-grows : (past : Past) (q d : ℕ) (w : What) (ts : List ℕ) (x : ℕ) → has ts x ≡ true → has (ended_after past q d w ts) x ≡ true
ended-grows past q d What.EndOrdered ts x h = with-grows q (open_ticket past d) ts x h
ended-grows past q d (What.End lost cells) ts x h = with-grows q (open_ticket past d) ts x h
ended-grows past q d w ts x h = h

takes-grow : (q : ℕ) (w : What) (n : ℕ) → n ≤ takes_after q w n
takes-grow q (What.Take r m t) n = by_test (r.0 == q)
  where
    by_test : (b : Bool) → n ≤ (if b then suc n else n)
    by_test true = omega arith
    by_test false = omega arith
takes-grow q w n = omega arith

-- it never falls
pub released-grows : (past : Past) (d : ℕ) (w : What) (q : ℕ) → released past q ≤ released (entry_by d w ∷ past) q
released-grows past d w q =
    run-grows (takes past q) (takes (entry_by d w ∷ past) q) 0 (ended past q) (ended (entry_by d w ∷ past) q) (takes-grow q w (takes past q))
    (ended-grows past q d w (ended past q))

pub nat-le-true : (m n : ℕ) → m ≤ n → nat_le m n ≡ true
nat-le-true m n h = by_test (leb_tells m n)
  where
    by_test : ((nat_le m n ≡ true) × (m ≤ n)) ⊎ ((nat_le m n ≡ false) × (n < m)) → nat_le m n ≡ true
    by_test (inl p) = p.0
    by_test (inr p) = absurd (let lt = p.1 in omega (arith, h, lt))

pub nat-le-is : (m n : ℕ) → nat_le m n ≡ true → m ≤ n
nat-le-is m n h = by_test (leb_tells m n)
  where
    by_test : ((nat_le m n ≡ true) × (m ≤ n)) ⊎ ((nat_le m n ≡ false) × (n < m)) → m ≤ n
    by_test (inl p) = p.1
    by_test (inr p) = absurd (cc (h, p.0))

-- what enters by now enters later
pub enters-grow : (past : Past) (d : ℕ) (w : What) (o : Option Ticket) → enters past o ≡ true → enters (entry_by d w ∷ past) o ≡ true
enters-grow past d w None h = refl
enters-grow past d w (Some t) h =
    let le = nat-le-is t.number (released past t.queue) h in
    let more = released-grows past d w t.queue in nat-le-true _ _ (omega (arith, le, more))

-- tickets are drawn before they end

record Drawn (past : Past) : Type 0 where
  opened : (c : ℕ) (t : Ticket) → open_ticket past c ≡ Some t → t.number < takes past t.queue
  ended : (q n : ℕ) → has (ended past q) n ≡ true → n < takes past q

own-opened : (k : Declarations) (l : Limits) (past : Past) (c : ℕ) (w : What) (t : Ticket) → Moment k l past c w → Drawn past
    → ticket_after w (open_ticket past c) ≡ Some t → t.number < takes (entry_by c w ∷ past) t.queue
own-opened k l past c (What.Take q n o) t m was h = by_kind (is_ordered (kind_of k q.0)) (ap (option_map (λ i. record { queue = q.0; number = i })) (sym m.ticket) ∙ h)
  where
    by_kind : (b : Bool) → option_map (λ i. record { queue = q.0; number = i }) (if b then Some (takes past q.0) else None) ≡ Some t → t.number < (if q.0 == t.queue then suc (takes past t.queue) else takes past t.queue)
    by_kind false h = absurd cc
    by_kind true h =
        let same : record { queue = q.0; number = takes past q.0 } ≡ t = some-inj _ _ h in
        subst (λ (v : Ticket). v.number < (if q.0 == v.queue then suc (takes past v.queue) else takes past v.queue)) same (rw (eq-eqb q.0 q.0 refl) (omega arith))
own-opened k l past c What.EndOrdered t m was h = absurd (none-some t h)
own-opened k l past c (What.End lost cells) t m was h = absurd (none-some t h)
own-opened k l past c w t m was h = was.opened c t h

next-opened : (k : Declarations) (l : Limits) (past : Past) (d : ℕ) (w : What) → Moment k l past d w → Drawn past
    → (c : ℕ) (t : Ticket) → open_ticket (entry_by d w ∷ past) c ≡ Some t → t.number < takes (entry_by d w ∷ past) t.queue
next-opened k l past d w m was c t h = by_test (compared d c)
  where
    by_test : Compared d c → t.number < takes (entry_by d w ∷ past) t.queue
    by_test (Same u e) = own-opened k l past c w t (subst (λ n. Moment k l past n w) e m) was (rw u at h)
    by_test (Other f e) =
        let older = was.opened c t (rw f at h) in
        let more = takes-grow t.queue w (takes past t.queue) in omega (arith, older, more)

with-drawn : (past : Past) (q n : ℕ) (o : Option Ticket) → Drawn past → ((t : Ticket) → o ≡ Some t → t.number < takes past t.queue)
    → has (with_number q o (Rattle.em_log.specs.Order.ended past q)) n ≡ true → n < takes past q
with-drawn past q n None was opened h = was.ended q n h
with-drawn past q n (Some t) was opened h = by_queue (compared t.queue q) (compared t.number n)
  where
    by_queue : Compared t.queue q → Compared t.number n → n < takes past q
    by_queue (Same u e) (Same v f) = let lt = opened t refl in let same = ap (takes past) e in omega (arith, lt, same, f)
    by_queue (Same u e) (Other v f) = was.ended q n (rw (u, v) at h)
    by_queue (Other u e) c = was.ended q n (rw u at h)

next-ended : (past : Past) (d : ℕ) (w : What) → Drawn past → (q n : ℕ) → has (ended (entry_by d w ∷ past) q) n ≡ true → n < takes (entry_by d w ∷ past) q
next-ended past d What.EndOrdered was q n h = with-drawn past q n (open_ticket past d) was (was.opened d) h
next-ended past d (What.End lost cells) was q n h = with-drawn past q n (open_ticket past d) was (was.opened d) h
next-ended past d (What.Take r m t) was q n h =
    let older = was.ended q n h in
    let more = takes-grow q (What.Take r m t) (takes past q) in omega (arith, older, more)
next-ended past d w was q n h = was.ended q n h

drawn : (k : Declarations) (l : Limits) (past : Past) → AllAllowed k l past → Drawn past
drawn k l [] all = record { opened = λ c t h. absurd (none-some t h); ended = λ q n h. absurd cc }
drawn k l (e ∷ past) all =
    let was = drawn k l past all.1 in
    record { opened = next-opened k l past e.core.0 e.what (allowed-moment k l past e all.1 all.0) was; ended = next-ended past e.core.0 e.what was }

run-last : (n t : ℕ) (ts : List ℕ) → has ts (t + n) ≡ false → run_from (suc n) t ts ≡ run_from n t ts
run-last zero t ts none =
    let here : has ts t ≡ false = subst (λ i. has ts i ≡ false) (omega arith) none in rw here refl
run-last (suc n) t ts none =
    let later : run_from (suc n) (suc t) ts ≡ run_from n (suc t) ts = run-last n (suc t) ts (subst (λ i. has ts i ≡ false) (omega arith) none) in
    ap (λ i. if has ts t then suc i else 0) later

-- a take ends no ticket
pub take-released : (k : Declarations) (l : Limits) (past : Past) (d : ℕ) (r : QueueId) (n : ℕ) (t : Option ℕ) (q : ℕ) → AllAllowed k l past
    → released (entry_by d (What.Take r n t) ∷ past) q ≡ released past q
take-released k l past d r n t q all = by_test (r.0 == q)
  where
    by_test : (b : Bool) → run_from (if b then suc (takes past q) else takes past q) 0 (ended past q) ≡ run_from (takes past q) 0 (ended past q)
    by_test true = run-last (takes past q) 0 (ended past q) (false_from_ne_true _ (λ h. let lt = (drawn k l past all).ended q (0 + takes past q) h in omega (arith, lt)))
    by_test false = refl

-- sends under tickets

abbrev ticket_in : Past → ℕ → What → Option Ticket
ticket_in before d (What.Send h q t s) = ticket_of_send before d t
ticket_in before d w = None

-- the ticket under which a handle was sent, if it was
abbrev pub sent_ticket : Option Spending → Option Ticket
sent_ticket None = None
sent_ticket (Some s) = ticket_in s.before s.core s.what

-- under a ticket a handle was sent at most once, and only under its own
pub record Under (past : Past) (h s m : ℕ) : Type 0 where
  pub once : times h (sends_under past s m) ≤ 1
  pub other : is_ticket s m (sent_ticket (spending past h)) ≡ false → times h (sends_under past s m) ≡ 0

under-send : (k : Declarations) (l : Limits) (past : Past) (d : ℕ) (f : Handle) (q : QueueId) (t : Option ℕ) (st : Option Stamp) (h s m : ℕ) → SendMoment k past d f.0 q.0 t st
    → Under past h s m → Under (entry_by d (What.Send f q t st) ∷ past) h s m
under-send k l past d f q t st h s i m was = by_test (compared f.0 h) (is_ticket s i (ticket_of_send past d t)) refl
  where
    now : Past
    now = entry_by d (What.Send f q t st) ∷ past

    rec : Sent
    rec = record { queue = q.0; core = d; handle = f.0; stamp = st }

    by_test : Compared f.0 h → (b : Bool) → is_ticket s i (ticket_of_send past d t) ≡ b → Under now h s i
    by_test (Same u e) b is =
        let free = usable past d h (ap (rule past d) (sym e) ∙ m.rule) in
        let none : times h (sends_under past s i) ≡ 0 = was.other (rw free.unspent refl) in
        let spent = spends-now past d (What.Send f q t st) h free.unspent (rw u refl) in
        by_ticket b is none spent u
      where
        by_ticket : (b : Bool) → is_ticket s i (ticket_of_send past d t) ≡ b → times h (sends_under past s i) ≡ 0
            → spending now h ≡ Some (record { before = past; core = d; what = What.Send f q t st }) → (f.0 == h) ≡ true → Under now h s i
        by_ticket true is none spent u =
            let whole : times h (sends_under now s i) ≡ times h (sends_under past s i) + 1 = rw is (times-append h (sends_under past s i) (rec ∷ []) ∙ (rw u refl)) in
            record { once = omega (arith, whole, none); other = λ no_ticket. absurd (cc (rw spent at no_ticket, is)) }
        by_ticket false is none spent u =
            let whole : times h (sends_under now s i) ≡ times h (sends_under past s i) = rw is refl in
            record { once = omega (arith, whole, none); other = λ no_ticket. whole ∙ none }
    by_test (Other u e) true is =
        let whole : times h (sends_under now s i) ≡ times h (sends_under past s i) + 0 = rw is (times-append h (sends_under past s i) (rec ∷ []) ∙ (rw u refl)) in
        let same : spending now h ≡ spending past h = spends-other past d (What.Send f q t st) h (rw u refl) in
        let once = was.once in
        record { once = omega (arith, whole, once); other = λ no_ticket. let none = was.other (rw same at no_ticket) in omega (arith, whole, none) }
    by_test (Other u e) false is =
        let whole : times h (sends_under now s i) ≡ times h (sends_under past s i) = rw is refl in
        let same : spending now h ≡ spending past h = spends-other past d (What.Send f q t st) h (rw u refl) in
        let once = was.once in
        record { once = omega (arith, whole, once); other = λ no_ticket. whole ∙ was.other (rw same at no_ticket) }

under-other : (past : Past) (d : ℕ) (w : What) (h s m : ℕ) → Under past h s m → is_ticket s m (sent_ticket (spending (entry_by d w ∷ past) h)) ≡ false
    → times h (sends_under past s m) ≡ 0
under-other past d w h s m was no_ticket = by_spent (spending past h) refl
  where
    by_spent : (o : Option Spending) → spending past h ≡ o → times h (sends_under past s m) ≡ 0
    by_spent None is = was.other (rw is refl)
    by_spent (Some p) is = was.other (rw is (rw (spending-kept past d w h p is) at no_ticket))

next-under : (k : Declarations) (l : Limits) (past : Past) (d : ℕ) (w : What) (h s m : ℕ) → Moment k l past d w → Under past h s m → Under (entry_by d w ∷ past) h s m
next-under k l past d (What.Send f q t st) h s i m was = under-send k l past d f q t st h s i m was
next-under k l past d w h s i m was = record { once = was.once; other = under-other past d w h s i was }

pub under : (k : Declarations) (l : Limits) (past : Past) → AllAllowed k l past → (h s m : ℕ) → Under past h s m
under k l [] all h s m = record { once = omega arith; other = λ no_ticket. refl }
under k l (e ∷ past) all h s m = next-under k l past e.core.0 e.what h s m (allowed-moment k l past e all.1 all.0) (under k l past all.1 h s m)

-- what the end of a ticket lets in

range-none : (past : Past) (h s a n : ℕ) → ((m : ℕ) → a ≤ m → m < a + n → times h (sends_under past s m) ≡ 0) → times h (sends_under_all past s (numbers_from a n)) ≡ 0
range-none past h s a zero none = refl
range-none past h s a (suc n) none =
    let here = none a (omega arith) (omega arith) in
    let later = range-none past h s (suc a) n (λ m low high. none m (omega arith) (omega arith)) in
    let whole = times-append h (sends_under past s a) (sends_under_all past s (numbers_from (suc a) n)) in omega (arith, here, later, whole)

range-once : (past : Past) (h s i a n : ℕ) → ((m : ℕ) → m ≢ i → times h (sends_under past s m) ≡ 0) → times h (sends_under past s i) ≤ 1
    → times h (sends_under_all past s (numbers_from a n)) ≤ 1
range-once past h s i a zero others once = omega arith
range-once past h s i a (suc n) others once = by_test (compared a i) (range-once past h s i (suc a) n others once)
  where
    whole : times h (sends_under past s a ++ sends_under_all past s (numbers_from (suc a) n)) ≡ times h (sends_under past s a) + times h (sends_under_all past s (numbers_from (suc a) n))
    whole = times-append h (sends_under past s a) (sends_under_all past s (numbers_from (suc a) n))

    by_test : Compared a i → times h (sends_under_all past s (numbers_from (suc a) n)) ≤ 1 → times h (sends_under past s a ++ sends_under_all past s (numbers_from (suc a) n)) ≤ 1
    by_test (Same _ e) later =
        let none = range-none past h s (suc a) n (λ m low high. others m (λ f. omega (arith, e, f, low))) in
        let here : times h (sends_under past s a) ≤ 1 = subst (λ m. times h (sends_under past s m) ≤ 1) (sym e) once in omega (arith, whole, none, here)
    by_test (Other _ ne) later = let here = others a ne in omega (arith, whole, here, later)

other-ticket : (s m : ℕ) (t : Ticket) → ((t.queue ≡ s) → t.number ≡ m → ⊥) → is_ticket s m (Some t) ≡ false
other-ticket s m t ne = by_test (compared t.queue s) (compared t.number m)
  where
    by_test : Compared t.queue s → Compared t.number m → is_ticket s m (Some t) ≡ false
    by_test (Same u e) (Same v f) = absurd (ne e f)
    by_test (Same u e) (Other v f) = rw (u, v) refl
    by_test (Other u e) c = rw u refl

pub nat-le-false : (m n : ℕ) → nat_le m n ≡ false → n < m
nat-le-false m n h = by_test (leb_tells m n)
  where
    by_test : ((nat_le m n ≡ true) × (m ≤ n)) ⊎ ((nat_le m n ≡ false) × (n < m)) → n < m
    by_test (inl p) = absurd (cc (h, p.0))
    by_test (inr p) = p.1

-- a handle that was not sent under a ticket is not let in
pub let-in-none : (k : Declarations) (l : Limits) (past now : Past) (o : Option Ticket) (h : ℕ) → AllAllowed k l past → sent_ticket (spending past h) ≡ None → times h (let_in past now o) ≡ 0
let-in-none k l past now None h all is = refl
let-in-none k l past now (Some t) h all is =
    range-none past h t.queue (suc (released past t.queue)) (released now t.queue - released past t.queue) (λ m low high. (under k l past all h t.queue m).other (rw is refl))

abbrev pub one_if : Bool → ℕ
one_if true = 1
one_if false = 0

-- a handle that was sent under a ticket is let in as it becomes one that enters
pub let-in-gain : (k : Declarations) (l : Limits) (past : Past) (d : ℕ) (w : What) (o : Option Ticket) (h : ℕ) (t : Ticket) → AllAllowed k l past → sent_ticket (spending past h) ≡ Some t
    → times h (let_in past (entry_by d w ∷ past) o) + one_if (enters past (Some t)) ≤ one_if (enters (entry_by d w ∷ past) (Some t))
let-in-gain k l past d w None h t all is = by_test (enters past (Some t)) refl
  where
    by_test : (b : Bool) → enters past (Some t) ≡ b → 0 + one_if b ≤ one_if (enters (entry_by d w ∷ past) (Some t))
    by_test true at = rw (enters-grow past d w (Some t) at) (omega arith)
    by_test false at = omega arith
let-in-gain k l past d w (Some u) h t all is = by_queue (compared t.queue u.queue)
  where
    now : Past
    now = entry_by d w ∷ past

    count : ℕ
    count = times h (sends_under_all past u.queue (numbers_from (suc (released past u.queue)) (released now u.queue - released past u.queue)))

    zero_at : (m : ℕ) → (t.queue ≡ u.queue → t.number ≡ m → ⊥) → times h (sends_under past u.queue m) ≡ 0
    zero_at m ne = (under k l past all h u.queue m).other (rw is (other-ticket u.queue m t ne))

    none : ((m : ℕ) → suc (released past u.queue) ≤ m → m < suc (released past u.queue) + (released now u.queue - released past u.queue) → t.queue ≡ u.queue → t.number ≡ m → ⊥) → count ≡ 0
    none ne = range-none past h u.queue (suc (released past u.queue)) (released now u.queue - released past u.queue) (λ m low high. zero_at m (ne m low high))

    grown : count ≡ 0 → (b : Bool) → enters past (Some t) ≡ b → count + one_if b ≤ one_if (enters now (Some t))
    grown nothing true at = rw (enters-grow past d w (Some t) at) (omega (arith, nothing))
    grown nothing false at = omega (arith, nothing)

    by_enters : t.queue ≡ u.queue → (a : Bool) → enters past (Some t) ≡ a → (b : Bool) → enters now (Some t) ≡ b → count + one_if a ≤ one_if b
    by_enters same true before b after =
        let le = nat-le-is t.number (released past t.queue) before in
        let here = ap (released past) same in
        let nothing = none (λ m low high e f. omega (arith, le, here, low, f)) in
        let on : b ≡ true = sym after ∙ enters-grow past d w (Some t) before in
        rw on (omega (arith, nothing))
    by_enters same false before true after =
        let once = range-once past h u.queue t.number (suc (released past u.queue)) (released now u.queue - released past u.queue)
        (λ m ne. zero_at m (λ e f. ne (sym f))) (under k l past all h u.queue t.number).once in
        omega (arith, once)
    by_enters same false before false after =
        let gt = nat-le-false t.number (released now t.queue) after in
        let here = ap (released now) same in
        let more = released-grows past d w u.queue in
        let nothing = none (λ m low high e f. omega (arith, gt, here, more, high, f)) in
        omega (arith, nothing)

    by_queue : Compared t.queue u.queue → count + one_if (enters past (Some t)) ≤ one_if (enters now (Some t))
    by_queue (Same _ e) = by_enters e (enters past (Some t)) refl (enters now (Some t)) refl
    by_queue (Other _ ne) = grown (none (λ m low high e f. ne e)) (enters past (Some t)) refl
