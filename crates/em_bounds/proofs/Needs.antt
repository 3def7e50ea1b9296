-- What each entry adds to the room that is needed.
use Rattle.std.proofs.Common.{◌≡◌, ℕ, suc, ◌+◌, ◌≤◌, ◌<◌, ◌==◌, Bool, true, false, List, [], ◌∷◌, length, Option, Some, None, refl, sym, ◌∙◌, subst, ap, arith}
use Rattle.std.proofs.lemmas.Bool.{eq-eqb}
use Rattle.em_log.specs.declared.declarations.Declarations.{Declarations}
use Rattle.em_log.specs.declared.ask.Ask.{Ask}
use Rattle.em_log.specs.declared.entry.Body.{Body}
use Rattle.em_log.specs.declared.entry.Entry.{Entry}
use Rattle.em_log.specs.declared.entry.What.{What}
use Rattle.em_log.specs.declared.fault.Call.{Call}
use Rattle.em_log.specs.declared.fault.Fault.{Fault}
use Rattle.em_log.specs.declared.ids.Cells.{Cells}
use Rattle.em_log.specs.declared.ids.Limits.{Limits}
use Rattle.em_log.specs.History.{Past, entry_by}
use Rattle.em_log.specs.Declarations.{below}
use Rattle.em_log.specs.Contexts.{context, context_after}
use Rattle.em_log.specs.Operations.{op_id}
use Rattle.em_log.specs.Eligible.{take_size, ticket_drawn}
use Rattle.em_log.specs.Leads.{refusal, call_of, own, refused_or, lead}
use Rattle.em_log.specs.Legal.{Lead, lead_here, leads, leads_after}
use Rattle.em_log.specs.Lawful.{AllAllowed, Allowed, IsNext, Begins, Boots, Steps, Takes, Starts, Untakes, Asks, due}
use Rattle.em_log.specs.Allowance.{allowance, cost_of_lead, left}
use Rattle.em_moments.proofs.Asked.{asks-open}
use Rattle.em_moments.proofs.Choices.{between-parts, choice-ready}
use Rattle.em_moments.proofs.Follows.{AllDue, Follows, FirstStart, Outs, NoteLost, AcksStart, AcksStop, GlobalStarts, GlobalStops, ChangeDone, StartDone, StartFailed, StopDone, Notifies}
use Rattle.em_moments.proofs.Inversion.{due-follows}
use Rattle.em_moments.proofs.Steps.{Owes, OwesAck, OwesGlobalStart, OwesLocalStart, OwesLocalStop, OwesGlobalStop, step-owes}
use Rattle.em_laws.proofs.Cores.{Compared, Same, Other, compared, if-own}
use Rattle.em_bounds.specs.Paid.{pays}
use Rattle.em_bounds.specs.Room.{left_open, needed}
use Rattle.em_bounds.specs.Bound.{IsAfforded, AllAfforded, context_need}
use Rattle.em_bounds.proofs.Sums.{sum-same, sum-most}
use Rattle.em_bounds.proofs.Payments.{total}
use Rattle.em_bounds.proofs.Room.{other-left, lefts-more, needed-lead, needed-end}

abbrev pub needs : What → ℕ
needs (What.Enter b) = context_need
needs (What.Start q e s) = context_need
needs (What.Take q n t) = 2
needs (What.Ack op) = 1
needs w = 0

-- an entry that begins or ends no context
record LeavesOpen (w : What) : Type 0 where
  stays : (o : Option What) → context_after w o ≡ o
  leads : (k : Declarations) (past : Past) (b : What) (ls : List Lead) → leads_after k past (Some b) w ls ≡ lead_here (due k past) past w ls

-- an entry that begins no context leaves what is left, where something is due or the context is closed
left-due : (k : Declarations) (past : Past) (c : ℕ) (w : What) (d : Entry) (ds : List Entry) → LeavesOpen w → due k past ≡ d ∷ ds
    → (e : ℕ) → left_open k (entry_by c w ∷ past) e ≡ left_open k past e
left-due k past c w d ds p is e = by_core (compared c e)
  where
    by_context : (o : Option What) → context past e ≡ o → (c == e) ≡ true → left_open k (entry_by c w ∷ past) e ≡ left_open k past e
    by_context None at t = rw (t, at, p.stays None) refl
    by_context (Some b) at t = rw (t, at, p.stays (Some b), p.leads k past b (leads k past e), is) refl

    by_core : Compared c e → left_open k (entry_by c w ∷ past) e ≡ left_open k past e
    by_core (Same t same) = by_context (context past e) refl t
    by_core (Other f ne) = rw f refl

left-closed : (k : Declarations) (past : Past) (c : ℕ) (w : What) → context_after w None ≡ None → context past c ≡ None
    → (e : ℕ) → left_open k (entry_by c w ∷ past) e ≡ left_open k past e
left-closed k past c w stays closed e = by_core (compared c e)
  where
    by_core : Compared c e → left_open k (entry_by c w ∷ past) e ≡ left_open k past e
    by_core (Same t same) =
        let at : context past e ≡ None = ap (context past) (sym same) ∙ closed in rw (t, at, stays) refl
    by_core (Other f ne) = rw f refl

needed-same : (k : Declarations) (past : Past) (c : ℕ) (w : What) → ((e : ℕ) → left_open k (entry_by c w ∷ past) e ≡ left_open k past e)
    → needed k (entry_by c w ∷ past) ≡ needed k past + pays w
needed-same k past c w same =
    let sum = sum-same (left_open k past) (left_open k (entry_by c w ∷ past)) (below k.cores) same in omega (arith, sum)

-- a context that begins has its whole allowance
needed-new : (k : Declarations) (past : Past) (c : ℕ) (w : What) → c < k.cores → context past c ≡ None → context_after w None ≡ Some w → pays w ≡ 2
    → leads k (entry_by c w ∷ past) c ≡ [] → needed k (entry_by c w ∷ past) ≡ needed k past + context_need
needed-new k past c w lt closed opens pay none =
    let now : Past = entry_by c w ∷ past in
    let own : (c == c) ≡ true = eq-eqb c c refl in
    let at : context now c ≡ Some w = rw (own, closed) opens in
    let whole : left_open k now c ≡ allowance = rw (at, none) refl in
    let before : left_open k past c ≡ 0 = rw closed refl in
    let sum = lefts-more k past now c allowance lt (other-left k past c w) (omega (arith, whole, before)) in
    omega (arith, sum, pay)

-- the entry of an ask that ends no context

abbrev is_asked : What → Bool
is_asked (What.Enter b) = false
is_asked (What.Start q e s) = false
is_asked (What.End lost cells) = false
is_asked (What.Take q n t) = false
is_asked w = true

asked-leaves : (w : What) → is_asked w ≡ true → LeavesOpen w
asked-leaves (What.Enter b) h = absurd cc
asked-leaves (What.Start q e s) h = absurd cc
asked-leaves (What.End lost cells) h = absurd cc
asked-leaves (What.Take q n t) h = absurd cc
asked-leaves w h = record { stays = λ o. refl; leads = λ k past b ls. refl }

fault-pays : (asked : Call) (f : Fault) (s : _) → pays (What.Fault asked f s) ≤ 1
fault-pays Call.Note f s = omega arith
fault-pays asked f s = omega arith

asked-pays : (w : What) → is_asked w ≡ true → pays w ≤ cost_of_lead w
asked-pays (What.Enter b) h = absurd cc
asked-pays (What.Start q e s) h = absurd cc
asked-pays (What.End lost cells) h = absurd cc
asked-pays (What.Take q n t) h = absurd cc
asked-pays (What.Fault asked f s) h = fault-pays asked f s
asked-pays w h = omega arith

data LeadKind (w : What) : Type 0 where
  LeadStays : is_asked w ≡ true → LeadKind w
  LeadEnds : (lost : ℕ) (cells : Option Cells) → w ≡ What.End lost cells → LeadKind w

refused-kind : (k : Declarations) (past : Past) (c : ℕ) (asked : Call) (o : Option Fault) (w : What) → LeadKind w → LeadKind (refused_or k past c asked o w)
refused-kind k past c asked None w own = own
refused-kind k past c asked (Some f) w own = LeadStays refl

own-kind : (k : Declarations) (past : Past) (c : ℕ) (a : Ask) → LeadKind (own k past c a)
own-kind k past c (Ask.End cells) = LeadEnds _ cells refl
own-kind k past c a = LeadStays refl

lead-kind : (k : Declarations) (past : Past) (c : ℕ) (a : Ask) → LeadKind (lead k past c a)
lead-kind k past c a = refused-kind k past c (call_of a) (refusal k past c a) (own k past c a) (own-kind k past c a)

-- each entry

AddsNeed : Declarations → Past → ℕ → What → Type 0
AddsNeed k past c w = needed k (entry_by c w ∷ past) ≤ needed k past + needs w

adds-same : (k : Declarations) (past : Past) (c : ℕ) (w : What) → ((e : ℕ) → left_open k (entry_by c w ∷ past) e ≡ left_open k past e) → pays w ≤ needs w → AddsNeed k past c w
unfolding AddsNeed
adds-same k past c w same pay = let need = needed-same k past c w same in omega (arith, need, pay)

adds-new : (k : Declarations) (past : Past) (c : ℕ) (w : What) → c < k.cores → context past c ≡ None → context_after w None ≡ Some w → pays w ≡ 2
    → leads k (entry_by c w ∷ past) c ≡ [] → needs w ≡ context_need → AddsNeed k past c w
unfolding AddsNeed
adds-new k past c w lt closed opens pay none all = let need = needed-new k past c w lt closed opens pay none in omega (arith, need, all)

adds-enter : (k : Declarations) (past : Past) (c : ℕ) (b : Body) → c < k.cores → context past c ≡ None → AddsNeed k past c (What.Enter b)
adds-enter k past c b lt closed = adds-new k past c (What.Enter b) lt closed refl refl (if-own c _ _) refl

adds-start : (k : Declarations) (past : Past) (c : ℕ) (q : _) (e : _) (s : _) → c < k.cores → context past c ≡ None → AddsNeed k past c (What.Start q e s)
adds-start k past c q e s lt closed = adds-new k past c (What.Start q e s) lt closed refl refl (if-own c _ _) refl

adds-step : (k : Declarations) (past : Past) (c : ℕ) (w : What) → c < k.cores → context past c ≡ None → Owes k past c w → AddsNeed k past c w
adds-step k past c w lt closed (OwesAck n o g m is job un e) = subst (AddsNeed k past c) (sym e) (adds-same k past c (What.Ack (op_id n)) (left-closed k past c (What.Ack (op_id n)) refl closed) (omega arith))
adds-step k past c w lt closed (OwesGlobalStart n o x is job un by e) = subst (AddsNeed k past c) (sym e) (adds-enter k past c _ lt closed)
adds-step k past c w lt closed (OwesLocalStart n o x is job done un e) = subst (AddsNeed k past c) (sym e) (adds-enter k past c _ lt closed)
adds-step k past c w lt closed (OwesLocalStop n o x is job done un e) = subst (AddsNeed k past c) (sym e) (adds-enter k past c _ lt closed)
adds-step k past c w lt closed (OwesGlobalStop n o x is job done at last e) = subst (AddsNeed k past c) (sym e) (adds-enter k past c _ lt closed)

adds-asked : (k : Declarations) (past : Past) (c : ℕ) (b w : What) → c < k.cores → due k past ≡ [] → context past c ≡ Some b → cost_of_lead w ≤ left k past c → LeadKind w
    → AddsNeed k past c w
unfolding AddsNeed
adds-asked k past c b w lt none is enough (LeadStays asked) =
    let p = asked-leaves w asked in
    let less = needed-lead k past c b w lt none is p.stays (p.leads k past b) enough (asked-pays w asked) in omega (arith, less)
adds-asked k past c b w lt none is enough (LeadEnds lost cells e) =
    let less = needed-end k past c w lt (rw e refl) (λ o. rw e refl) in omega (arith, less)

adds-begins : (k : Declarations) (l : Limits) (past : Past) (c : ℕ) (w : What) → c < k.cores → due k past ≡ [] → IsAfforded k past (entry_by c w) → Begins k l past c w
    → AddsNeed k past c w
adds-begins k l past c w lt none afforded (Boots empty core is) = subst (AddsNeed k past c) (sym is) (adds-enter k past c Body.Boot lt (ap (λ (h : Past). context h c) empty))
adds-begins k l past c w lt none afforded (Steps between owed) = adds-step k past c w lt (between-parts k past c between).closed (step-owes k past c w owed)
adds-begins k l past c w lt none afforded (Takes q choice is) =
    subst (AddsNeed k past c) (sym is) (adds-same k past c taking (left-closed k past c taking refl (choice-ready k l past c q choice).between.closed) (omega arith))
  where
    taking : What
    taking = What.Take (record { 0 = q }) (take_size k l past c q) (ticket_drawn k past q)
adds-begins k l past c w lt none afforded (Starts q x xs closed queue taken is) = subst (AddsNeed k past c) (sym is) (adds-start k past c _ _ _ lt closed)
adds-begins k l past c w lt none afforded (Untakes q x xs closed queue taken is) =
    subst (AddsNeed k past c) (sym is) (adds-same k past c giving_back (left-closed k past c giving_back refl closed) (omega arith))
  where
    giving_back : What
    giving_back = What.Untake (record { 0 = q }) (suc (length xs))
adds-begins k l past c w lt none afforded (Asks a may is) =
    let open_context = asks-open k past c a may in
    adds-asked k past c open_context.0 w lt none open_context.1 (afforded open_context.0 open_context.1 none) (subst LeadKind (sym is) (lead-kind k past c a))

adds-due : (k : Declarations) (past : Past) (c : ℕ) (w : What) (d : Entry) (ds : List Entry) → due k past ≡ d ∷ ds → is_asked w ≡ true → pays w ≤ needs w → AddsNeed k past c w
adds-due k past c w d ds is asked pay = adds-same k past c w (left-due k past c w d ds (asked-leaves w asked) is) pay

adds-follows : (k : Declarations) (past : Past) (c : ℕ) (w : What) (d : Entry) (ds : List Entry) → c < k.cores → due k past ≡ d ∷ ds → Follows k past c w → AddsNeed k past c w
adds-follows k past c w d ds lt is (FirstStart before q n t x xs was closed queue taken e) = subst (AddsNeed k past c) (sym e) (adds-start k past c _ _ _ lt closed)
adds-follows k past c w d ds lt is (Outs q kind words at e) = subst (AddsNeed k past c) (sym e) (adds-due k past c _ d ds is refl (omega arith))
adds-follows k past c w d ds lt is (NoteLost n e) = subst (AddsNeed k past c) (sym e) (adds-due k past c _ d ds is refl (omega arith))
adds-follows k past c w d ds lt is (AcksStart before lost cells op was at e) = subst (AddsNeed k past c) (sym e) (adds-due k past c _ d ds is refl (omega arith))
adds-follows k past c w d ds lt is (AcksStop before lost cells op was at e) = subst (AddsNeed k past c) (sym e) (adds-due k past c _ d ds is refl (omega arith))
adds-follows k past c w d ds lt is (GlobalStarts before lost cells op was at e) = subst (AddsNeed k past c) (sym e) (adds-due k past c _ d ds is refl (omega arith))
adds-follows k past c w d ds lt is (GlobalStops before lost cells op was at e) = subst (AddsNeed k past c) (sym e) (adds-due k past c _ d ds is refl (omega arith))
adds-follows k past c w d ds lt is (ChangeDone before op was owed all e) = subst (AddsNeed k past c) (sym e) (adds-due k past c _ d ds is refl (omega arith))
adds-follows k past c w d ds lt is (StartDone before lost cells op was at all e) = subst (AddsNeed k past c) (sym e) (adds-due k past c _ d ds is refl (omega arith))
adds-follows k past c w d ds lt is (StartFailed before lost cells op was at e) = subst (AddsNeed k past c) (sym e) (adds-due k past c _ d ds is refl (omega arith))
adds-follows k past c w d ds lt is (StopDone before lost cells op was at e) = subst (AddsNeed k past c) (sym e) (adds-due k past c _ d ds is refl (omega arith))
adds-follows k past c w d ds lt is (Notifies s now zero e) = subst (AddsNeed k past c) (sym e) (adds-due k past c _ d ds is refl (omega arith))

adds-next : (k : Declarations) (l : Limits) (past : Past) (e : Entry) → AllAllowed k l past → Allowed k l past e → IsAfforded k past e → AddsNeed k past e.core.0 e.what
adds-next k l past e all allowed afforded = by_due (due k past) refl (due-follows k l past all) allowed.next
  where
    by_due : (ds : List Entry) → due k past ≡ ds → AllDue k past ds → IsNext k l past ds e → AddsNeed k past e.core.0 e.what
    by_due [] is follow next = adds-begins k l past e.core.0 e.what allowed.core is afforded next
    by_due (d ∷ ds) is follow next =
        adds-follows k past e.core.0 e.what d ds allowed.core is (subst (λ (x : Entry). Follows k past x.core.0 x.what) (sym next) follow.0)

none-needed : (k : Declarations) → needed k [] ≡ 0
none-needed k = let none = sum-most (left_open k []) 0 k.cores (λ c. omega arith) in omega (arith, none)

pub needed-within : (k : Declarations) (l : Limits) (past : Past) → AllAllowed k l past → AllAfforded k past → needed k past ≤ total needs past
unfolding AddsNeed
needed-within k l [] all afforded = let none = none-needed k in omega (arith, none)
needed-within k l (e ∷ past) all afforded =
    let older = needed-within k l past all.1 afforded.1 in
    let adds = adds-next k l past e all.1 all.0 afforded.0 in omega (arith, older, adds)
