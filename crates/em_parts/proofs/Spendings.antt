-- The spendings of a history are those of its steps of the pools, and so is the rule of a word.
use Rattle.std.proofs.Common.{◌≡◌, ℕ, ◌==◌, Bool, true, false, [], ◌∷◌, List, length, Option, Some, None, refl, sym, ◌∙◌, ap, if◌then◌else◌}
use Rattle.std.specs.Option.{option_or}
use Rattle.em_log.specs.declared.declarations.Declarations.{Declarations}
use Rattle.em_log.specs.declared.entry.What.{What}
use Rattle.em_log.specs.declared.ids.Limits.{Limits}
use Rattle.em_log.specs.declared.ids.Note.{Note}
use Rattle.em_log.specs.History.{Past, has, entry_by, note_words}
use Rattle.em_log.specs.Handles as log
use Rattle.em_log.specs.Contexts.{context_object}
use Rattle.em_log.specs.Order.{enters, ticket_of_send}
use Rattle.em_log.specs.Lawful.{AllAllowed}
use Rattle.em_log.specs.Answers.{object_id}
use Rattle.em_pool.specs.declared.place.Spend.{Spend}
use Rattle.em_pool.specs.Steps.{PoolStep, held}
use Rattle.em_pool.specs.Handles as pool
use Rattle.em_parts.specs.PoolSteps.{moves, direct, sending, noted_steps, pool_steps}
use Rattle.em_parts.proofs.StepLemmas.{moved-spending, minted-spending, or-none}
use Rattle.em_parts.proofs.Mintings.{same-minting}
use Rattle.em_parts.proofs.Holdings.{same-held}

-- how a spending by this entry is told: whether it freed, and where the event went first
abbrev pub spending_told : Declarations → Past → ℕ → What → pool.Spending
spending_told k past c (What.Free h) = pool.spending_of Spend.Freed (length past)
spending_told k past c (What.Send h q t s) = pool.spending_of (sending past c t q) (length past)
spending_told k past c (What.Keep h) = pool.spending_of (Spend.Kept (object_id (context_object k past c))) (length past)
spending_told k past c (What.End lost cells) = pool.losing (length past)
spending_told k past c w = pool.spending_of Spend.Noted (length past)

abbrev pub told : Declarations → Option log.Spending → Option pool.Spending
told k None = None
told k (Some s) = Some (spending_told k s.before s.core s.what)

-- an entry that spends exactly where the test holds
spend-by : (k : Declarations) (b : Bool) (past : Past) (d : ℕ) (w : What) (t : Option log.Spending)
    → option_or (told k t) (if b then Some (spending_told k past d w) else None) ≡ told k (log.spent_by b past (entry_by d w) t)
spend-by k true past d w None = refl
spend-by k true past d w (Some s) = refl
spend-by k false past d w None = refl
spend-by k false past d w (Some s) = refl

has-one : (w h : ℕ) → has (w ∷ []) h ≡ (w == h)
has-one w h = by_test (w == h) refl
  where
    by_test : (b : Bool) → (w == h) ≡ b → has (w ∷ []) h ≡ (w == h)
    by_test true is = rw is refl
    by_test false is = rw is refl

named-by : (k : Declarations) (past : Past) (d h n : ℕ) (w : What) (s : Option pool.Spending) (t : Option log.Spending) → s ≡ told k t
    → option_or s (if n == h then Some (spending_told k past d w) else None) ≡ told k (log.spent_by (has (n ∷ []) h) past (entry_by d w) t)
named-by k past d h n w s t same =
    let e = has-one n h in rw (e, same) (spend-by k (n == h) past d w t)

-- notes spend their words

or-or : {A : Type 0} (o p r : Option A) → option_or (option_or o p) r ≡ option_or o (option_or p r)
or-or None p r = refl
or-or (Some x) p r = refl

noted-spending : (c p : ℕ) (ns : List Note) (steps : List PoolStep) (h : ℕ)
    → pool.spending (noted_steps c p ns steps) h ≡ option_or (pool.spending steps h) (if has (note_words ns) h then Some (pool.spending_of Spend.Noted p) else None)
noted-spending c p [] steps h = sym (or-none (pool.spending steps h))
noted-spending c p (n ∷ ns) steps h = noted-spending c p ns _ h ∙ by_spent (pool.spending steps h) (n.word == h) refl
  where
    noted : pool.Spending
    noted = pool.spending_of Spend.Noted p

    by_spent : (o : Option pool.Spending) (b : Bool) → (n.word == h) ≡ b
        → option_or (option_or o (if b then Some (pool.spending_of Spend.Noted p) else None)) (if has (note_words ns) h then Some (pool.spending_of Spend.Noted p) else None)
        ≡ option_or o (if has (note_words (n ∷ ns)) h then Some (pool.spending_of Spend.Noted p) else None)
    by_spent None true is = rw is refl
    by_spent None false is = rw is refl
    by_spent (Some s) true is = refl
    by_spent (Some s) false is = refl

notes-by : (k : Declarations) (past : Past) (d h : ℕ) (w : What) (ns : List Note) (steps : List PoolStep) → pool.spending steps h ≡ told k (log.spending past h)
    → spending_told k past d w ≡ pool.spending_of Spend.Noted (length past)
    → pool.spending (noted_steps d (length past) ns steps) h ≡ told k (log.spent_by (has (note_words ns) h) past (entry_by d w) (log.spending past h))
notes-by k past d h w ns steps same noted =
    noted-spending d (length past) ns steps h
    ∙ (ap (λ o. option_or o (if has (note_words ns) h then Some (pool.spending_of Spend.Noted (length past)) else None)) same
    ∙ (ap (λ v. option_or (told k (log.spending past h)) (if has (note_words ns) h then Some v else None)) (sym noted)
    ∙ spend-by k (has (note_words ns) h) past d w (log.spending past h)))

-- every entry

abbrev SpentNow : Declarations → Past → ℕ → ℕ → What → Option pool.Spending
SpentNow k past h d w = told k (log.spent_by (log.spends past d w h) past (entry_by d w) (log.spending past h))

direct-spending : (k : Declarations) (past : Past) (h d : ℕ) (w : What) → ((c : ℕ) → held (pool_steps k past) c ≡ log.held past c)
    → pool.spending (pool_steps k past) h ≡ told k (log.spending past h)
    → pool.spending (direct k past d w (pool_steps k past)) h ≡ SpentNow k past h d w
direct-spending k past h d (What.End lost cells) holds same =
    let e = holds d in
    rw (e, same) (spend-by k (has (log.held past d) h) past d (What.End lost cells) (log.spending past h))
direct-spending k past h d (What.Free f) holds same = named-by k past d h f.0 (What.Free f) _ _ same
direct-spending k past h d (What.Send f q t s) holds same = named-by k past d h f.0 (What.Send f q t s) _ _ same
direct-spending k past h d (What.Keep f) holds same = named-by k past d h f.0 (What.Keep f) _ _ same
direct-spending k past h d (What.Begin op job notes) holds same = notes-by k past d h (What.Begin op job notes) notes (pool_steps k past) same refl
direct-spending k past h d (What.Apply g a n notes) holds same = notes-by k past d h (What.Apply g a n notes) notes (pool_steps k past) same refl
direct-spending k past h d (What.Alloc p e) holds same = or-none _ ∙ same
direct-spending k past h d (What.Start q e s) holds same = or-none _ ∙ same
direct-spending k past h d (What.Claim e) holds same = minted-spending d h e (pool_steps k past) ∙ same
direct-spending k past h d (What.Dequeue q e) holds same = minted-spending d h e (pool_steps k past) ∙ same
direct-spending k past h d w holds same = same

-- how a handle was spent
pub same-spending : (k : Declarations) (l : Limits) (past : Past) (h : ℕ) → AllAllowed k l past
    → pool.spending (pool_steps k past) h ≡ told k (log.spending past h)
same-spending k l [] h all = refl
same-spending k l (e ∷ past) h all =
    moved-spending (moves k past e.core.0 e.what) (direct k past e.core.0 e.what (pool_steps k past)) h
    ∙ direct-spending k past h e.core.0 e.what (λ c. same-held k l past c all.1) (same-spending k l past h all.1)

-- the rule

fault-told : (k : Declarations) (past : Past) (d : ℕ) (w : What)
    → pool.spent_fault (spending_told k past d w).freed (spending_told k past d w).place ≡ log.spent_fault (length past) w
fault-told k past d (What.Send h q t s) = by_enters (enters past (ticket_of_send past d t))
  where
    by_enters : (b : Bool) → pool.spent_fault (pool.is_freed (if b then Spend.Sent q else Spend.Delayed q)) (length past) ≡ log.spent_fault (length past) (What.Send h q t s)
    by_enters true = refl
    by_enters false = refl
fault-told k past d w = refl

rule-told : (k : Declarations) (c w : ℕ) (m : Option log.Minting) (t : Option log.Spending) → pool.rule_of c w m (told k t) ≡ log.rule_of c w m t
rule-told k c w None t = refl
rule-told k c w (Some m) None = refl
rule-told k c w (Some m) (Some s) = ap Some (fault-told k s.before s.core s.what)

pub same-rule : (k : Declarations) (l : Limits) (past : Past) (c w : ℕ) → AllAllowed k l past → pool.rule (pool_steps k past) c w ≡ log.rule past c w
same-rule k l past c w all =
    let m = same-minting k past w in
    let s = same-spending k l past w all in
    rw (m, s) (rule-told k c w (log.minting past w) (log.spending past w))
