-- No entry is allowed after a history that has ended.
use Rattle.std.proofs.Common.{◌≡◌, ◌⊎◌, inl, inr, ℕ, zero, suc, ◌+◌, ◌<◌, ◌≤◌, ◌==◌, Bool, true, false, not, ◌&&◌, ◌||◌, nat_lt, List, [], ◌∷◌, length, Option, Some, None, refl, sym, ap, ◌∙◌, subst, arith, is_some, is_none, slice_get, if◌then◌else◌, eqb-true, ltb-true}
use Rattle.std.specs.List.{list_all, list_any}
use Rattle.std.specs.Option.{option_and_then, option_map}
use Rattle.std.proofs.lemmas.Option.{slice_get_within}
use Rattle.em_log.specs.declared.declarations.Declarations.{Declarations}
use Rattle.em_log.specs.declared.declarations.QueueShape.{QueueShape}
use Rattle.em_log.specs.declared.entry.Entry.{Entry}
use Rattle.em_log.specs.declared.entry.What.{What}
use Rattle.em_log.specs.declared.ids.EndKind.{EndKind}
use Rattle.em_log.specs.declared.ids.Limits.{Limits}
use Rattle.em_log.specs.Answers.{end_of}
use Rattle.em_log.specs.Contexts.{boot_ended, context}
use Rattle.em_log.specs.Declarations.{below, numbers_from, object_of}
use Rattle.em_log.specs.Eligible.{eligible, is_at_limit, is_best, is_between, is_choice, is_idle, is_quiet, is_wanted, ready}
use Rattle.em_log.specs.History.{Past, onto}
use Rattle.em_log.specs.Lawful.{due, may_ask, Begins, Boots, Steps, Takes, Starts, Untakes, Asks, IsNext, Allowed, AllAllowed, Lawful}
use Rattle.em_log.specs.Operations.{all_done, pending, step}
use Rattle.em_log.specs.Places.{promised, started}
use Rattle.em_moments.proofs.Asked.{and-true, is_none-none}
use Rattle.em_moments.proofs.Choices.{IsBetween, IsReady, between-parts, ready-parts}
use Rattle.em_laws.proofs.Acks.{all-below}
use Rattle.em_laws.proofs.Cores.{none-some}
use Rattle.em_cores.proofs.Onto.{allowed-before}
use Rattle.em_operation_parts.proofs.IdleCores.{no-step}

-- numbers

any-from : (f : ℕ → Bool) (a n j : ℕ) → a ≤ j → j < a + n → f j ≡ true → list_any f (numbers_from a n) ≡ true
any-from f a zero j low high is = absurd (omega (arith, low, high))
any-from f a (suc n) j low high is = by_test (f a) refl (any-from f (suc a) n j)
  where
    by_test : (b : Bool) → f a ≡ b → (suc a ≤ j → j < suc a + n → f j ≡ true → list_any f (numbers_from (suc a) n) ≡ true) → (b || list_any f (numbers_from (suc a) n)) ≡ true
    by_test true at later = refl
    by_test false at later = later (past_first (λ same. cc (ap f same ∙ is, at))) (omega (arith, high)) is
      where
        past_first : (a ≡ j → ⊥) → suc a ≤ j
        past_first apart = omega (arith, low, apart)

any-below : (f : ℕ → Bool) (n j : ℕ) → j < n → f j ≡ true → list_any f (below n) ≡ true
any-below f n j lt is = any-from f 0 n j (omega arith) (omega (arith, lt)) is

-- a queue with an object is declared
declared-at : (k : Declarations) (q x : ℕ) → object_of k q ≡ Some x → q < length k.queues
declared-at k q x is = by_queue (slice_get k.queues q) refl is
  where
    by_queue : (o : Option QueueShape) → slice_get k.queues q ≡ o → option_and_then (λ (d : QueueShape). option_map (λ x. x.0) d.eo) o ≡ Some x → q < length k.queues
    by_queue None at none = absurd cc
    by_queue (Some d) at some = slice_get_within k.queues q d at

-- a history that has ended

-- what holds of it: nothing goes on, and no queue would be served within the limit
record HasEnded (k : Declarations) (l : Limits) (past : Past) : Type 0 where
  idle : is_idle k past ≡ true
  over : (is_wanted k past ≡ false) ⊎ (started past ≡ l.receives)

has-ended : (k : Declarations) (l : Limits) (past : Past) (end : EndKind) → end_of k l past ≡ Some end → HasEnded k l past
has-ended k l past end ended = by_tests (is_idle k past) (is_wanted k past) (started past == l.receives) refl refl refl ended
  where
    by_tests : (i w r : Bool) → is_idle k past ≡ i → is_wanted k past ≡ w → (started past == l.receives) ≡ r
        → (if i && not w then Some EndKind.Quiet else if i && r && w then Some EndKind.Limit else None) ≡ Some end → HasEnded k l past
    by_tests false w r idle wanted reached e = absurd cc
    by_tests true false r idle wanted reached e = record { idle = idle; over = inl wanted }
    by_tests true true false idle wanted reached e = absurd cc
    by_tests true true true idle wanted reached e = record { idle = idle; over = inr (eqb-true (started past) l.receives reached) }

module _ (k : Declarations) (l : Limits) (past : Past) (lawful : Lawful k l past) (h : HasEnded k l past) where
  idle-parts : (boot_ended past && list_all (is_between k past) (below k.cores) ≡ true) × (all_done past ≡ true)
  idle-parts = and-true (boot_ended past && list_all (is_between k past) (below k.cores)) (all_done past) h.idle

  between : (c : ℕ) → c < k.cores → IsBetween k past c
  between c lt =
      between-parts k past c (all-below (is_between k past) c k.cores (and-true (boot_ended past) (list_all (is_between k past) (below k.cores)) idle-parts.0).1 lt)

  booted : boot_ended past ≡ true
  booted = (and-true (boot_ended past) (list_all (is_between k past) (below k.cores)) idle-parts.0).0

  served-none : (c q : ℕ) → c < k.cores → is_choice k l past c q ≡ true → ⊥
  served-none c q lt choice =
      let can = and-true (ready k past c q) (nat_lt (promised k past) l.receives) (and-true (eligible k l past c q) (is_best k l past c q) choice).0 in
      by_over h.over can.0 (ltb-true (promised k past) l.receives can.1)
    where
      by_over : (is_wanted k past ≡ false) ⊎ (started past ≡ l.receives) → ready k past c q ≡ true → promised k past < l.receives → ⊥
      by_over (inr all) on fits = absurd (omega (arith, all, fits))
      by_over (inl none) on fits =
          let parts = ready-parts k past c q on in
          let inner = any-below (ready k past c) (length k.queues) q (declared-at k q parts.runs.0 parts.runs.1.0) on in
          cc (any-below (λ d. list_any (ready k past d) (below (length k.queues))) k.cores c lt inner, none)

  begins-none : (c : ℕ) (w : What) → c < k.cores → Begins k l past c w → ⊥
  begins-none c w lt (Boots none core is) = cc (ap boot_ended none, booted)
  begins-none c w lt (Steps on owed) =
      none-some w (sym (no-step k l past lawful c lt (is_none-none (pending past (λ job. true)) idle-parts.1)) ∙ owed)
  begins-none c w lt (Takes q choice is) = served-none c q lt choice
  begins-none c w lt (Starts q x xs closed queue taken is) = let none = (between c lt).untaken in cc (none, taken)
  begins-none c w lt (Untakes q x xs closed queue taken is) = let none = (between c lt).untaken in cc (none, taken)
  begins-none c w lt (Asks a may is) =
      let some = (and-true (is_some (context past c)) _ (and-true _ _ may).0).0 in
      let none = ap (λ (o : Option What). is_some o) (between c lt).closed in
      cc (some, none)

  next-none : (e : Entry) → Allowed k l past e → ⊥
  next-none e allowed =
      begins-none e.core.0 e.what allowed.core (subst (λ (ds : List Entry). IsNext k l past ds e) lawful.whole allowed.next)

-- what goes on from a history that has ended is that history
pub ended-whole : (k : Declarations) (l : Limits) (es : List Entry) (past : Past) (end : EndKind) → Lawful k l past → AllAllowed k l (onto es past)
    → end_of k l past ≡ Some end → onto es past ≡ past
ended-whole k l [] past end lawful all ended = refl
ended-whole k l (e ∷ es) past end lawful all ended =
    absurd (next-none k l past lawful (has-ended k l past end ended) e (allowed-before k l es (e ∷ past) all).0)
