-- Operations that have begun: their numbers, and at most one at a time with an aim.
use Rattle.std.proofs.Common.{◌≡◌, ℕ, zero, suc, ◌+◌, ◌<◌, ◌≤◌, ◌==◌, Bool, true, false, not, ◌&&◌, List, [], ◌∷◌, Some, None, refl, sym, ◌∙◌, subst, ap, is_some, if◌then◌else◌, arith}
use Rattle.em_log.specs.declared.declarations.Declarations.{Declarations}
use Rattle.em_log.specs.declared.entry.What.{What}
use Rattle.em_log.specs.declared.entry.Begun.{Begun}
use Rattle.em_log.specs.declared.ids.OpId.{OpId}
use Rattle.em_log.specs.declared.ids.Note.{Note}
use Rattle.em_log.specs.declared.ids.Limits.{Limits}
use Rattle.em_log.specs.History.{Past, entry_by}
use Rattle.em_log.specs.Declarations.{numbers_from}
use Rattle.em_log.specs.Operations.{Operation, operation, operations, done, op_id, is_done, is_aim, first_pending, pending}
use Rattle.em_log.specs.Leads.{aims_at_object, aims_at_group}
use Rattle.em_log.specs.Lawful.{AllAllowed}
use Rattle.em_moments.proofs.Moments.{Moment, BeginMoment, JobMoment, StartJob, StopJob, ModifyJob, allowed-moment}
use Rattle.em_laws.proofs.Cores.{Compared, Same, Other, compared, eqb-eq, some-inj}

-- an operation after an entry: it had begun, or begins now
pub data BegunAfter (past : Past) (n : ℕ) (o : Operation) (d : ℕ) (w : What) : Type 0 where
  BegunBefore : operation past n ≡ Some o → BegunAfter past n o d w
  BeginsNow : w ≡ What.Begin (op_id n) o.job o.notes → o.core ≡ d → BegunAfter past n o d w

pub begun-after : (past : Past) (d : ℕ) (w : What) (n : ℕ) (o : Operation) → operation (entry_by d w ∷ past) n ≡ Some o → BegunAfter past n o d w
begun-after past d (What.Begin op job notes) n o h = by_test (compared op.0 n)
  where
    by_test : Compared op.0 n → BegunAfter past n o d (What.Begin op job notes)
    by_test (Same t e) =
        let is : record { core = d; job = job; notes = notes } ≡ o = some-inj _ _ (rw t at h) in
        BeginsNow (ap (λ (i : ℕ). What.Begin (record { 0 = i }) job notes) e ∙ ap (λ (p : Operation). What.Begin (op_id n) p.job p.notes) is)
        (sym (ap (λ (p : Operation). p.core) is))
    by_test (Other f e) = BegunBefore (rw f at h)
begun-after past d w n o h = BegunBefore h

-- numbers

grow : (past : Past) (d : ℕ) (w : What) (n : ℕ) → n < operations past → n < operations (entry_by d w ∷ past)
grow past d (What.Begin op job notes) n h = omega arith
grow past d w n h = h

begin-number : (k : Declarations) (l : Limits) (past : Past) (d : ℕ) (w : What) (op : OpId) (job : Begun) (notes : List Note) → Moment k l past d w
    → w ≡ What.Begin op job notes → BeginMoment k past d op job notes
begin-number k l past d w op job notes m e = subst (Moment k l past d) e m

-- an operation that has begun has a number below their count
pub numbered-after : (k : Declarations) (l : Limits) (past : Past) (d : ℕ) (w : What) (n : ℕ) (o : Operation) → Moment k l past d w
    → ((o : Operation) → operation past n ≡ Some o → n < operations past) → operation (entry_by d w ∷ past) n ≡ Some o → n < operations (entry_by d w ∷ past)
numbered-after k l past d w n o m older h = by_begun (begun-after past d w n o h)
  where
    by_begun : BegunAfter past n o d w → n < operations (entry_by d w ∷ past)
    by_begun (BegunBefore was) = grow past d w n (older o was)
    by_begun (BeginsNow e core) =
        let b = begin-number k l past d w (op_id n) o.job o.notes m e in
        let same : n ≡ operations past = ap (λ (i : OpId). i.0) b.number in
        subst (λ v. n < operations (entry_by d v ∷ past)) (sym e) (omega (arith, same))

pub numbered : (k : Declarations) (l : Limits) (past : Past) → AllAllowed k l past → (n : ℕ) (o : Operation) → operation past n ≡ Some o → n < operations past
numbered k l [] all n o h = absurd (cc h)
numbered k l (e ∷ past) all n o h =
    numbered-after k l past e.core.0 e.what n o (allowed-moment k l past e all.1 all.0) (λ p was. numbered k l past all.1 n p was) h

begun-kept-by : (k : Declarations) (l : Limits) (past : Past) (d : ℕ) (w : What) (n : ℕ) (o : Operation) → Moment k l past d w → n < operations past
    → operation past n ≡ Some o → operation (entry_by d w ∷ past) n ≡ Some o
begun-kept-by k l past d (What.Begin op job notes) n o m lt h = by_test (compared op.0 n)
  where
    by_test : Compared op.0 n → operation (entry_by d (What.Begin op job notes) ∷ past) n ≡ Some o
    by_test (Same t e) = let same : op.0 ≡ operations past = ap (λ (i : OpId). i.0) m.number in absurd (omega (arith, same, e))
    by_test (Other f e) = rw f h
begun-kept-by k l past d w n o m lt h = h

-- an operation stays as it began
pub begun-kept : (k : Declarations) (l : Limits) (past : Past) (d : ℕ) (w : What) (n : ℕ) (o : Operation) → AllAllowed k l past → Moment k l past d w
    → operation past n ≡ Some o → operation (entry_by d w ∷ past) n ≡ Some o
begun-kept k l past d w n o all m h = begun-kept-by k l past d w n o m (numbered k l past all n o h) h

-- none pending

first-none : (past : Past) (aims : Begun → Bool) (c a n : ℕ) → first_pending past aims (numbers_from a n) ≡ None → a ≤ c → c < a + n
    → done past c ≡ None → is_aim aims (operation past c) ≡ false
first-none past aims c a zero none low high undone = absurd (omega arith)
first-none past aims c a (suc n) none low high undone =
    by_test (compared a c) (is_done past a) refl (is_aim aims (operation past a)) refl none (first-none past aims c (suc a) n)
  where
    by_test : Compared a c → (b : Bool) → is_done past a ≡ b → (x : Bool) → is_aim aims (operation past a) ≡ x
        → (if not b && x then Some a else first_pending past aims (numbers_from (suc a) n)) ≡ None
        → (first_pending past aims (numbers_from (suc a) n) ≡ None → suc a ≤ c → c < suc a + n → done past c ≡ None → is_aim aims (operation past c) ≡ false)
        → is_aim aims (operation past c) ≡ false
    by_test (Same _ e) b is false at h later = ap (λ i. is_aim aims (operation past i)) (sym e) ∙ at
    by_test (Same _ e) false is true at h later = absurd (cc h)
    by_test (Same _ e) true is true at h later =
        let over : is_done past c ≡ true = ap (is_done past) (sym e) ∙ is in
        let not_over : is_done past c ≡ false = ap is_some undone in
        absurd (cc (over, not_over))
    by_test (Other _ e) true is x at h later = later h (omega (arith, e)) (omega arith) undone
    by_test (Other _ e) false is true at h later = absurd (cc h)
    by_test (Other _ e) false is false at h later = later h (omega (arith, e)) (omega arith) undone

-- an operation with this aim that is not done
pub record IsPending (past : Past) (aims : Begun → Bool) (n : ℕ) : Type 0 where
  pub started : Operation
  pub begun : operation past n ≡ Some started
  pub aimed : aims started.job ≡ true
  pub undone : done past n ≡ None

pub none-pending : (past : Past) (aims : Begun → Bool) (n : ℕ) → n < operations past → pending past aims ≡ None → IsPending past aims n → ⊥
none-pending past aims n lt none p =
    let aimless : is_aim aims (operation past n) ≡ false = first-none past aims n 0 (operations past) none (omega arith) (omega arith) p.undone in
    let aimed : is_aim aims (operation past n) ≡ true = rw p.begun p.aimed in
    absurd (cc (aimless, aimed))

-- at most one

abbrev pub Alone : Past → (Begun → Bool) → Type 0
Alone past aims = (n m : ℕ) → IsPending past aims n → IsPending past aims m → n ≡ m

data PendingAfter (past : Past) (aims : Begun → Bool) (n d : ℕ) (w : What) : Type 0 where
  PendingBefore : IsPending past aims n → PendingAfter past aims n d w
  PendingNow : (o : Operation) → w ≡ What.Begin (op_id n) o.job o.notes → aims o.job ≡ true → PendingAfter past aims n d w

pub undone-before : (past : Past) (d : ℕ) (w : What) (n : ℕ) → done (entry_by d w ∷ past) n ≡ None → done past n ≡ None
undone-before past d (What.Done op ok) n h = by_test (op.0 == n) h
  where
    by_test : (b : Bool) → (if b then Some ok else done past n) ≡ None → done past n ≡ None
    by_test true h = absurd cc
    by_test false h = h
undone-before past d w n h = h

pending-after : (past : Past) (aims : Begun → Bool) (n d : ℕ) (w : What) → IsPending (entry_by d w ∷ past) aims n → PendingAfter past aims n d w
pending-after past aims n d w p = by_begun (begun-after past d w n p.started p.begun)
  where
    by_begun : BegunAfter past n p.started d w → PendingAfter past aims n d w
    by_begun (BegunBefore was) = PendingBefore (record { started = p.started; begun = was; aimed = p.aimed; undone = undone-before past d w n p.undone })
    by_begun (BeginsNow e core) = PendingNow p.started e p.aimed

-- an operation begins only where none with its aim is pending
abbrev pub Guards : (Begun → Bool) → Type 0
Guards aims = (k : Declarations) (past : Past) (c : ℕ) (job : Begun) (notes : List Note) → JobMoment k past c job notes → aims job ≡ true → pending past aims ≡ None

pub guards-object : (x : ℕ) → Guards (aims_at_object x)
guards-object x k past c job notes (StartJob y asked is none was) h =
    let same : y.0 ≡ x = eqb-eq y.0 x (subst (λ j. aims_at_object x j ≡ true) is h) in subst (λ (i : ℕ). pending past (aims_at_object i) ≡ None) same none
guards-object x k past c job notes (StopJob y asked is none was) h =
    let same : y.0 ≡ x = eqb-eq y.0 x (subst (λ j. aims_at_object x j ≡ true) is h) in subst (λ (i : ℕ). pending past (aims_at_object i) ≡ None) same none
guards-object x k past c job notes (ModifyJob g m asked is none fits) h = absurd (cc (subst (λ j. aims_at_object x j ≡ true) is h))

pub guards-group : (g : ℕ) → Guards (aims_at_group g)
guards-group g k past c job notes (StartJob y asked is none was) h = absurd (cc (subst (λ j. aims_at_group g j ≡ true) is h))
guards-group g k past c job notes (StopJob y asked is none was) h = absurd (cc (subst (λ j. aims_at_group g j ≡ true) is h))
guards-group g k past c job notes (ModifyJob i m asked is none fits) h =
    let same : i ≡ g = eqb-eq i g (subst (λ j. aims_at_group g j ≡ true) is h) in subst (λ (i : ℕ). pending past (aims_at_group i) ≡ None) same none

alone-after : (k : Declarations) (l : Limits) (past : Past) (d : ℕ) (w : What) (aims : Begun → Bool) → Guards aims → AllAllowed k l past → Moment k l past d w
    → Alone past aims → Alone (entry_by d w ∷ past) aims
alone-after k l past d w aims guards all m alone n i p q = by_both (pending-after past aims n d w p) (pending-after past aims i d w q)
  where
    none : (j : ℕ) (o : Operation) → w ≡ What.Begin (op_id j) o.job o.notes → aims o.job ≡ true → pending past aims ≡ None
    none j o e aimed = let b = begin-number k l past d w (op_id j) o.job o.notes m e in guards k past d o.job o.notes b.aim aimed

    clash : (j h : ℕ) (o : Operation) → w ≡ What.Begin (op_id j) o.job o.notes → aims o.job ≡ true → IsPending past aims h → ⊥
    clash j h o e aimed was = none-pending past aims h (numbered k l past all h was.started was.begun) (none j o e aimed) was

    by_both : PendingAfter past aims n d w → PendingAfter past aims i d w → n ≡ i
    by_both (PendingBefore a) (PendingBefore b) = alone n i a b
    by_both (PendingBefore a) (PendingNow o e aimed) = absurd (clash i n o e aimed a)
    by_both (PendingNow o e aimed) (PendingBefore b) = absurd (clash n i o e aimed b)
    by_both (PendingNow o e aimed) (PendingNow o2 e2 aimed2) =
        let b = begin-number k l past d w (op_id n) o.job o.notes m e in
        let b2 = begin-number k l past d w (op_id i) o2.job o2.notes m e2 in
        ap (λ (j : OpId). j.0) (b.number ∙ sym b2.number)

-- at most one operation with such an aim is pending
pub alone : (k : Declarations) (l : Limits) (past : Past) (aims : Begun → Bool) → Guards aims → AllAllowed k l past → Alone past aims
alone k l [] aims guards all = λ n m p q. absurd (cc p.begun)
alone k l (e ∷ past) aims guards all =
    alone-after k l past e.core.0 e.what aims guards all.1 (allowed-moment k l past e all.1 all.0) (alone k l past aims guards all.1)
