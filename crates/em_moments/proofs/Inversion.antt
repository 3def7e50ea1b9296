-- How each entry of a lawful history came, with the facts of its moment.
use Rattle.std.proofs.Common.{◌≡◌, ℕ, suc, true, List, [], ◌∷◌, length, Some, None, sym, subst}
use Rattle.em_log.specs.declared.declarations.Declarations.{Declarations}
use Rattle.em_log.specs.declared.entry.Entry.{Entry}
use Rattle.em_log.specs.declared.entry.What.{What}
use Rattle.em_log.specs.declared.entry.Body.{Body}
use Rattle.em_log.specs.declared.ids.Limits.{Limits}
use Rattle.em_log.specs.History.{Past}
use Rattle.em_log.specs.Contexts.{context, take_queue}
use Rattle.em_log.specs.Operations.{step}
use Rattle.em_log.specs.Arrivals.{Item}
use Rattle.em_log.specs.Places.{taken}
use Rattle.em_log.specs.Eligible.{is_choice, take_size, ticket_drawn}
use Rattle.em_log.specs.Tails.{start_of, tail}
use Rattle.em_log.specs.Lawful.{due, due_after, Begins, Boots, Steps, Takes, Starts, Untakes, Asks, IsNext, Allowed, AllAllowed}
use Rattle.em_moments.proofs.Asked.{Asked, lead-asked}
use Rattle.em_moments.proofs.Steps.{Owes, step-owes}
use Rattle.em_moments.proofs.Choices.{IsBetween, between-parts, IsReady, choice-ready}
use Rattle.em_moments.proofs.Follows.{Follows, FirstStart, AllDue, tail-follows}

-- how an entry of core c came after past: it begins a block, or it follows in the ask under way. A start is told
-- alike in both cases
pub data Came (k : Declarations) (l : Limits) (past : Past) (c : ℕ) (w : What) : Type 0 where
  ByBoot : past ≡ [] → c ≡ 0 → w ≡ What.Enter Body.Boot → Came k l past c w
  ByStep : IsBetween k past c → step k past c ≡ Some w → Owes k past c w → Came k l past c w
  ByTake : (q : ℕ) → is_choice k l past c q ≡ true → IsReady k past c q
      → w ≡ What.Take (record { 0 = q }) (take_size k l past c q) (ticket_drawn k past q) → Came k l past c w
  ByStart : (q : ℕ) (x : Item) (xs : List Item) → context past c ≡ None → take_queue past c ≡ Some q → taken k past c ≡ x ∷ xs
      → w ≡ start_of past q x → Came k l past c w
  ByUntake : (q : ℕ) (x : Item) (xs : List Item) → context past c ≡ None → take_queue past c ≡ Some q → taken k past c ≡ x ∷ xs
      → w ≡ What.Untake (record { 0 = q }) (suc (length xs)) → Came k l past c w
  ByAsk : Asked k past c w → Came k l past c w
  ByTail : Follows k past c w → Came k l past c w

begins-came : (k : Declarations) (l : Limits) (past : Past) (c : ℕ) (w : What) → Begins k l past c w → Came k l past c w
begins-came k l past c w (Boots none core is) = ByBoot none core is
begins-came k l past c w (Steps between owed) = ByStep (between-parts k past c between) owed (step-owes k past c w owed)
begins-came k l past c w (Takes q choice is) = ByTake q choice (choice-ready k l past c q choice) is
begins-came k l past c w (Starts q x xs closed queue taken is) = ByStart q x xs closed queue taken is
begins-came k l past c w (Untakes q x xs closed queue taken is) = ByUntake q x xs closed queue taken is
begins-came k l past c w (Asks a may is) = ByAsk (lead-asked k past c a w may is)

follows-came : (k : Declarations) (l : Limits) (past : Past) (c : ℕ) (w : What) → Follows k past c w → Came k l past c w
follows-came k l past c w (FirstStart before q n t x xs was closed queue taken is) = ByStart q.0 x xs closed queue taken is
follows-came k l past c w f = ByTail f

allowed-due : (k : Declarations) (l : Limits) (past : Past) (e : Entry) (ds : List Entry) → AllDue k past ds → IsNext k l past ds e
    → AllDue k (e ∷ past) (due_after ds (tail k past e))
allowed-due k l past e [] follow next = tail-follows k l past e next
allowed-due k l past e (d ∷ ds) follow next = subst (λ v. AllDue k (v ∷ past) ds) (sym next) follow.1

-- what is due follows
pub due-follows : (k : Declarations) (l : Limits) (past : Past) → AllAllowed k l past → AllDue k past (due k past)
due-follows k l [] all = tt
due-follows k l (e ∷ past) all = allowed-due k l past e (due k past) (due-follows k l past all.1) all.0.next

next-came : (k : Declarations) (l : Limits) (past : Past) (e : Entry) (ds : List Entry) → AllDue k past ds → IsNext k l past ds e
    → Came k l past e.core.0 e.what
next-came k l past e [] follow next = begins-came k l past e.core.0 e.what next
next-came k l past e (d ∷ ds) follow next = subst (λ v. Came k l past v.core.0 v.what) (sym next) (follows-came k l past d.core.0 d.what follow.0)

-- how an allowed entry came
pub allowed-came : (k : Declarations) (l : Limits) (past : Past) (e : Entry) → AllAllowed k l past → Allowed k l past e
    → Came k l past e.core.0 e.what
allowed-came k l past e all allowed = next-came k l past e (due k past) (due-follows k l past all) allowed.next
