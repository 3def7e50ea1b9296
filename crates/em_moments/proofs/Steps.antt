-- What a step is: which operation it belongs to, and what of that operation had and had not come.
use Rattle.std.proofs.Common.{◌≡◌, ◌≢◌, ◌⊎◌, inl, inr, ℕ, ◌==◌, Bool, true, false, not, List, [], ◌∷◌, Option, Some, None, refl, sym, ◌∙◌, ap}
use Rattle.std.specs.Option.{option_or, option_and_then}
use Rattle.std.proofs.lemmas.Bool.Decides.{eqb_tells}
use Rattle.em_log.specs.declared.declarations.Declarations.{Declarations}
use Rattle.em_log.specs.declared.entry.What.{What}
use Rattle.em_log.specs.declared.entry.Body.{Body}
use Rattle.em_log.specs.declared.entry.Begun.{Begun}
use Rattle.em_log.specs.declared.ids.EoId.{EoId}
use Rattle.em_log.specs.declared.ids.GroupId.{GroupId}
use Rattle.em_log.specs.History.{Past, has}
use Rattle.em_log.specs.Declarations.{below, is_number}
use Rattle.em_log.specs.Operations.{Operation, operation, operations, global_done, acked, last_acker, op_id, only_if, owed_for, owed_to, first_owed, step}

-- core c owes this step: an acknowledgement of a change, or the entry of an operation's context
pub data Owes (k : Declarations) (past : Past) (c : ℕ) (w : What) : Type 0 where
  OwesAck : (n : ℕ) (o : Operation) (g : GroupId) (m : ℕ) → operation past n ≡ Some o → o.job ≡ Begun.Modify g m
      → has (acked past n) c ≡ false → w ≡ What.Ack (op_id n) → Owes k past c w
  OwesGlobalStart : (n : ℕ) (o : Operation) (x : EoId) → operation past n ≡ Some o → o.job ≡ Begun.Start x → global_done past n ≡ None
      → o.core ≡ c → w ≡ What.Enter (Body.GlobalStart (op_id n)) → Owes k past c w
  OwesLocalStart : (n : ℕ) (o : Operation) (x : EoId) → operation past n ≡ Some o → o.job ≡ Begun.Start x
      → global_done past n ≡ Some true → has (acked past n) c ≡ false → w ≡ What.Enter (Body.LocalStart (op_id n)) → Owes k past c w
  OwesLocalStop : (n : ℕ) (o : Operation) (x : EoId) → operation past n ≡ Some o → o.job ≡ Begun.Stop x → global_done past n ≡ None
      → has (acked past n) c ≡ false → w ≡ What.Enter (Body.LocalStop (op_id n)) → Owes k past c w
  OwesGlobalStop : (n : ℕ) (o : Operation) (x : EoId) → operation past n ≡ Some o → o.job ≡ Begun.Stop x → global_done past n ≡ None
      → has (acked past n) c ≡ true → last_acker k past n ≡ Some c → w ≡ What.Enter (Body.GlobalStop (op_id n)) → Owes k past c w

only_if-true : (b : Bool) (v w : What) → only_if b v ≡ Some w → (b ≡ true) × (w ≡ v)
only_if-true true v w e = (refl, cc)
only_if-true false v w e = absurd cc

not-false : (b : Bool) → not b ≡ true → b ≡ false
not-false true h = absurd cc
not-false false h = refl

pub is_number-some : (n : ℕ) (o : Option ℕ) → is_number n o ≡ true → o ≡ Some n
is_number-some n None h = absurd cc
is_number-some n (Some m) h = by_test (eqb_tells n m)
  where
    by_test : (((n == m) ≡ true) × (n ≡ m)) ⊎ (((n == m) ≡ false) × (n ≢ m)) → Some m ≡ Some n
    by_test (inl p) = ap Some (sym p.1)
    by_test (inr p) = absurd (cc (p.0, h))

owes-by : (k : Declarations) (past : Past) (c n : ℕ) (o : Operation) (j : Begun) (g : Option Bool) (w : What) → operation past n ≡ Some o → o.job ≡ j
    → global_done past n ≡ g → owed_for k past c n o.core j g ≡ Some w → Owes k past c w
owes-by k past c n o (Begun.Modify h m) g w is job done e =
    let f = only_if-true _ _ w e in OwesAck n o h m is job (not-false _ f.0) f.1
owes-by k past c n o (Begun.Start x) None w is job done e =
    let f = only_if-true _ _ w e in OwesGlobalStart n o x is job done (by_test (eqb_tells o.core c) f.0) f.1
  where
    by_test : (((o.core == c) ≡ true) × (o.core ≡ c)) ⊎ (((o.core == c) ≡ false) × (o.core ≢ c)) → (o.core == c) ≡ true → o.core ≡ c
    by_test (inl p) h = p.1
    by_test (inr p) h = absurd (cc (p.0, h))
owes-by k past c n o (Begun.Start x) (Some true) w is job done e =
    let f = only_if-true _ _ w e in OwesLocalStart n o x is job done (not-false _ f.0) f.1
owes-by k past c n o (Begun.Start x) (Some false) w is job done e = absurd cc
owes-by k past c n o (Begun.Stop x) None w is job done e = by_acked (has (acked past n) c) refl e
  where
    by_acked : (b : Bool) → has (acked past n) c ≡ b
        → option_or (only_if (not b) (What.Enter (Body.LocalStop (op_id n)))) (only_if (is_number c (last_acker k past n)) (What.Enter (Body.GlobalStop (op_id n)))) ≡ Some w
        → Owes k past c w
    by_acked false at e = OwesLocalStop n o x is job done at cc
    by_acked true at e =
        let f = only_if-true _ _ w e in OwesGlobalStop n o x is job done at (is_number-some c (last_acker k past n) f.0) f.1
owes-by k past c n o (Begun.Stop x) (Some ok) w is job done e = absurd cc

owed-owes : (k : Declarations) (past : Past) (c n : ℕ) (w : What) → owed_to k past c n ≡ Some w → Owes k past c w
owed-owes k past c n w e = by_operation (operation past n) refl e
  where
    by_operation : (o : Option Operation) → operation past n ≡ o
        → option_and_then (λ o. owed_for k past c n o.core o.job (global_done past n)) o ≡ Some w → Owes k past c w
    by_operation None is e = absurd cc
    by_operation (Some o) is e = owes-by k past c n o o.job (global_done past n) w is refl refl e

first-owes : (k : Declarations) (past : Past) (c : ℕ) (ns : List ℕ) (w : What) → first_owed k past c ns ≡ Some w → Owes k past c w
first-owes k past c [] w e = absurd cc
first-owes k past c (n ∷ ns) w e = by_owed (owed_to k past c n) refl (first-owes k past c ns w) e
  where
    by_owed : (o : Option What) → owed_to k past c n ≡ o → (first_owed k past c ns ≡ Some w → Owes k past c w)
        → option_or o (first_owed k past c ns) ≡ Some w → Owes k past c w
    by_owed None is later e = later e
    by_owed (Some v) is later e = owed-owes k past c n w (is ∙ e)

-- a step is owed
pub step-owes : (k : Declarations) (past : Past) (c : ℕ) (w : What) → step k past c ≡ Some w → Owes k past c w
step-owes k past c w e = first-owes k past c (below (operations past)) w e
