-- What can be read off the operations, where they stand for a list of steps.
use Rattle.std.proofs.Common.{◌≡◌, ℕ, ◌<◌, ◌≤◌, ◌==◌, Bool, true, false, not, ◌&&◌, List, [], ◌∷◌, Option, Some, None, IfSome, if◌then◌else◌, arith, refl, ap, sym, ◌∙◌, subst, ⊎_elim}
use Rattle.std.specs.List.{filter_map, cons_option}
use Rattle.std.specs.Option.{option_map, option_and_then, option_or, option_map_or}
use Rattle.std.proofs.lemmas.Bool.{cases_lt, cases_eq, eq-eqb, ne_eqb}
use Rattle.em_log.specs.declared.ids.OpId.{OpId}
use Rattle.em_log.specs.History.{has}
use Rattle.em_log.specs.Declarations.{below, is_number}
use Rattle.em_log.specs.Operations.{op_id}
use Rattle.em_acks.specs.declared.job.Job.{Job}
use Rattle.em_acks.specs.declared.job.Target.{Target}
use Rattle.em_acks.specs.declared.job.Phase.{Phase}
use Rattle.em_acks.specs.declared.unfinished.Owing.{Owing}
use Rattle.em_acks.specs.declared.unfinished.Unfinished.{Unfinished}
use Rattle.em_acks.specs.Steps.{AckStep, Began, GlobalEnded, Acknowledged}
use Rattle.em_acks.specs.Operations.{Operation, operations, operation, global_done, acked, all_acked, not_acked, last_acker, only_if, owed_for, owed_to, step_to, first_owed, step, done_as, is_of, is_target, first_pending, pending, begin_fault, begin_fault_by}
use Rattle.em_acks.specs.State.{AckState, find_op, owed_in, owed_at, step_in, first_owed_in, first_at, refusal_at}
use Rattle.em_acks.specs.Stands.{Stands, unfinished_as, unfinished_at, all_unfinished, owing_as, owing_last}
use Rattle.em_acks.proofs.Acked.{acked-has, has-left, last-none, last-some}
use Rattle.em_acks.proofs.Numbers.{find-from, find-above}

pub eqb-swap : (a b : ℕ) → (a == b) ≡ (b == a)
eqb-swap a b = ⊎_elim (λ e. eq-eqb a b e ∙ sym (eq-eqb b a (sym e))) (λ ne. ne_eqb a b ne ∙ sym (ne_eqb b a (λ e. ne (sym e)))) (cases_eq a b)

-- an operation that has begun has its number below that of the next
pub begun-before : (s : List AckStep) (n : ℕ) (o : Operation) → operation s n ≡ Some o → n < operations s
begun-before [] n o is = absurd (cc is)
begun-before (Began c job t ∷ s) n o is =
    ⊎_elim (λ e. omega arith)
    (λ ne. let before = begun-before s n o (sym (ap (λ b. if b then Some (record { core = c; job = job; target = t }) else operation s n) (ne_eqb (operations s) n ne)) ∙ is) in omega arith)
    (cases_eq (operations s) n)
begun-before (GlobalEnded c op ok ∷ s) n o is = begun-before s n o is
begun-before (Acknowledged c op ∷ s) n o is = begun-before s n o is

pub not_begun : (s : List AckStep) (n : ℕ) → operations s ≤ n → operation s n ≡ None
not_begun s n le = by_operation (operation s n) refl
  where
    by_operation : (o : Option Operation) → operation s n ≡ o → o ≡ None
    by_operation None is = refl
    by_operation (Some o) is = let lt = begun-before s n o is in absurd (omega arith)

numbered-as : (n : ℕ) (all : Bool) (left : List ℕ) (last : Option ℕ) (ended : Option Bool) (o : Operation) (b : Bool) (u : Unfinished)
    → ◌≡◌ {A = Option Unfinished} (if b then None else Some (record { op = op_id n; job = o.job; target = o.target; owing = owing_as left last o.core o.job ended })) (Some u)
    → u.op.0 ≡ n
numbered-as n all left last ended o true u is = absurd (cc is)
numbered-as n all left last ended o false u is =
    let one : ◌≡◌ {A = Unfinished} (record { op = op_id n; job = o.job; target = o.target; owing = owing_as left last o.core o.job ended }) u = cc is in
    sym (ap (λ (x : Unfinished). x.op.0) one)

module _ (cores : ℕ) (s : List AckStep) where
  pub numbered : (n : ℕ) (u : Unfinished) → unfinished_at cores s n ≡ Some u → u.op.0 ≡ n
  numbered n u is = by_operation (operation s n) is
    where
      by_operation : (o : Option Operation)
          → option_and_then (unfinished_as n (all_acked cores s n) (not_acked cores s n) (last_acker cores s n) (global_done s n)) o ≡ Some u → u.op.0 ≡ n
      by_operation None is' = absurd (cc is')
      by_operation (Some o) is' =
          numbered-as n (all_acked cores s n) (not_acked cores s n) (last_acker cores s n) (global_done s n) o
          (done_as (all_acked cores s n) o.job (global_done s n)) u is'

  -- what is kept under a number
  pub find-kept : (n : ℕ) → find_op n (all_unfinished cores s) ≡ unfinished_at cores s n
  find-kept n =
      ⊎_elim (λ lt. find-from (unfinished_at cores s) numbered (operations s) 0 n (omega arith) (omega arith))
      (λ ge. find-above (unfinished_at cores s) numbered (operations s) 0 n (omega arith)
      ∙ sym (ap (option_and_then (unfinished_as n (all_acked cores s n) (not_acked cores s n) (last_acker cores s n) (global_done s n))) (not_begun s n ge)))
      (cases_lt n (operations s))

  -- owed steps

  abbrev pub owed_by : ℕ → Option Unfinished → Option Phase
  owed_by c o = option_and_then (λ (u : Unfinished). owed_in c u.owing) o

  or-none : (o : Option Phase) → option_or o None ≡ o
  or-none None = refl
  or-none (Some p) = refl

  module _ (c n : ℕ) (within : c < cores) (b : ℕ) (job : Job) (t : Target) where
    -- a local step of all cores
    local-owed : (j : Job) (all : Bool) → all_acked cores s n ≡ all
        → only_if (not (has (acked s n) c)) Phase.Local
        ≡ owed_by c (if all then None else Some (record { op = op_id n; job = j; target = t; owing = Owing.Local (not_acked cores s n) }))
    local-owed j true is = ap (λ h. only_if (not h) Phase.Local) (acked-has cores s n c is within)
    local-owed j false is = ap (λ h. only_if h Phase.Local) (sym (has-left (acked s n) cores c within))

    stop-owed : (all : Bool) → all_acked cores s n ≡ all
        → option_or (only_if (not (has (acked s n) c)) Phase.Local) (only_if (is_number c (last_acker cores s n)) Phase.Global)
        ≡ owed_in c (owing_last (last_acker cores s n) (not_acked cores s n))
    stop-owed true is =
        let last = last-some cores (omega arith) s n is in
        (λ i. option_or (only_if (not (acked-has cores s n c is within i)) Phase.Local) (only_if (is_number c (last.1 i)) Phase.Global))
        ∙ (ap (λ b. only_if b Phase.Global) (eqb-swap c last.0)
        ∙ sym (ap (λ l. owed_in c (owing_last l (not_acked cores s n))) last.1))
    stop-owed false is =
        let last = last-none cores s n is in
        ap (λ l. option_or (only_if (not (has (acked s n) c)) Phase.Local) (only_if (is_number c l) Phase.Global)) last
        ∙ (or-none (only_if (not (has (acked s n) c)) Phase.Local)
        ∙ (ap (λ h. only_if h Phase.Local) (sym (has-left (acked s n) cores c within))
        ∙ sym (ap (λ l. owed_in c (owing_last l (not_acked cores s n))) last)))

    owed-as : (j : Job) (ended : Option Bool)
        → owed_for cores s c n b j ended
        ≡ owed_by c (unfinished_as n (all_acked cores s n) (not_acked cores s n) (last_acker cores s n) ended (record { core = b; job = j; target = t }))
    owed-as Job.Modify ended = local-owed Job.Modify (all_acked cores s n) refl
    owed-as Job.Start None = refl
    owed-as Job.Start (Some true) = local-owed Job.Start (all_acked cores s n) refl
    owed-as Job.Start (Some false) = refl
    owed-as Job.Stop None = stop-owed (all_acked cores s n) refl
    owed-as Job.Stop (Some ok) = refl

  pub owed-kept : (c n : ℕ) → c < cores → owed_to cores s c n ≡ owed_by c (unfinished_at cores s n)
  owed-kept c n within = by_operation (operation s n)
    where
      by_operation : (o : Option Operation)
          → option_and_then (λ (p : Operation). owed_for cores s c n p.core p.job (global_done s n)) o
          ≡ owed_by c (option_and_then (unfinished_as n (all_acked cores s n) (not_acked cores s n) (last_acker cores s n) (global_done s n)) o)
      by_operation None = refl
      by_operation (Some o) = owed-as c n within o.core o.job o.target o.job (global_done s n)

  step-kept : (c n : ℕ) → c < cores → step_to cores s c n ≡ option_and_then (step_in c) (unfinished_at cores s n)
  step-kept c n within = ap (option_map (λ p. (op_id n, p))) (owed-kept c n within) ∙ by_kept (unfinished_at cores s n) refl
    where
      by_kept : (o : Option Unfinished) → unfinished_at cores s n ≡ o → option_map (λ p. (op_id n, p)) (owed_by c o) ≡ option_and_then (step_in c) o
      by_kept None is = refl
      by_kept (Some u) is = ap (λ k. option_map (λ p. (op_id k, p)) (owed_in c u.owing)) (sym (numbered n u is))

  pub first-owed : (c : ℕ) → c < cores → (ns : List ℕ) → first_owed cores s c ns ≡ first_owed_in c (filter_map (unfinished_at cores s) ns)
  first-owed c within [] = refl
  first-owed c within (n ∷ ns) =
      (λ i. option_or (step-kept c n within i) (first-owed c within ns i)) ∙ by_kept (unfinished_at cores s n)
    where
      by_kept : (o : Option Unfinished)
          → option_or (option_and_then (step_in c) o) (first_owed_in c (filter_map (unfinished_at cores s) ns))
          ≡ first_owed_in c (cons_option o (filter_map (unfinished_at cores s) ns))
      by_kept None = refl
      by_kept (Some u) = refl

  -- the step that is given is owed
  pub first-there : (c : ℕ) (ns : List ℕ) (r : OpId × Phase) → first_owed cores s c ns ≡ Some r → owed_to cores s c r.0.0 ≡ Some r.1
  first-there c [] r is = absurd (cc is)
  first-there c (n ∷ ns) r is = by_owed (owed_to cores s c n) refl is (first-there c ns r)
    where
      by_owed : (o : Option Phase) → owed_to cores s c n ≡ o → option_or (option_map (λ p. (op_id n, p)) o) (first_owed cores s c ns) ≡ Some r
          → (first_owed cores s c ns ≡ Some r → owed_to cores s c r.0.0 ≡ Some r.1) → owed_to cores s c r.0.0 ≡ Some r.1
      by_owed None owed is' rest = rest is'
      by_owed (Some p) owed is' rest =
          let one : ◌≡◌ {A = OpId × Phase} (op_id n, p) r = cc is' in
          subst (λ (q : OpId × Phase). owed_to cores s c q.0.0 ≡ Some q.1) one owed

  -- pending operations

  pub first-pending : (t : Target) (ns : List ℕ) → option_map op_id (first_pending cores s t ns) ≡ first_at t (filter_map (unfinished_at cores s) ns)
  first-pending t [] = refl
  first-pending t (n ∷ ns) = by_operation (operation s n) (first-pending t ns)
    where
      by_target : (b : Bool) (m : Option ℕ) (us : List Unfinished) → option_map op_id m ≡ first_at t us
          → option_map op_id (if b then Some n else m) ≡ (if b then Some (op_id n) else first_at t us)
      by_target true m us rest = refl
      by_target false m us rest = rest

      by_done : (o : Operation) (b : Bool) → option_map op_id (first_pending cores s t ns) ≡ first_at t (filter_map (unfinished_at cores s) ns)
          → option_map op_id (if not b && is_target t o.target then Some n else first_pending cores s t ns)
          ≡ first_at t (cons_option (if b then None
          else Some (record { op = op_id n; job = o.job; target = o.target; owing = owing_as (not_acked cores s n) (last_acker cores s n) o.core o.job (global_done s n) })) (filter_map (unfinished_at cores s) ns))
      by_done o true rest = rest
      by_done o false rest = by_target (is_target t o.target) (first_pending cores s t ns) (filter_map (unfinished_at cores s) ns) rest

      by_operation : (o : Option Operation) → option_map op_id (first_pending cores s t ns) ≡ first_at t (filter_map (unfinished_at cores s) ns)
          → option_map op_id (if not (option_map_or (λ (p : Operation). done_as (all_acked cores s n) p.job (global_done s n)) o false) && is_of t o then Some n else first_pending cores s t ns)
          ≡ first_at t (cons_option (option_and_then (unfinished_as n (all_acked cores s n) (not_acked cores s n) (last_acker cores s n) (global_done s n)) o) (filter_map (unfinished_at cores s) ns))
      by_operation None rest = rest
      by_operation (Some o) rest = by_done o (done_as (all_acked cores s n) o.job (global_done s n)) rest

module _ {v : AckState} {s : List AckStep} (stands : Stands v s) where
  pub find-is : (n : ℕ) → find_op n v.unfinished ≡ unfinished_at v.cores s n
  find-is n = ap (find_op n) stands.unfinished_are ∙ find-kept v.cores s n

  -- the step that a core owes an operation
  pub owed-is : (c n : ℕ) → c < v.cores → owed_at v c n ≡ owed_to v.cores s c n
  owed-is c n within = ap (owed_by v.cores s c) (find-is n) ∙ sym (owed-kept v.cores s c n within)

  pub step-is : (c : ℕ) → c < v.cores → first_owed_in c v.unfinished ≡ step v.cores s c
  step-is c within = ap (first_owed_in c) stands.unfinished_are ∙ sym (first-owed v.cores s c within (below (operations s)))

  pub there-is : (c : ℕ) → c < v.cores → (o : Option (OpId × Phase)) → o ≡ step v.cores s c → IfSome o (λ r. owed_at v c r.0.0 ≡ Some r.1)
  there-is c within None is = tt
  there-is c within (Some r) is = owed-is c r.0.0 within ∙ first-there v.cores s c (below (operations s)) r (sym is)

  pub pending-is : (t : Target) → first_at t v.unfinished ≡ option_map op_id (pending v.cores s t)
  pending-is t = ap (first_at t) stands.unfinished_are ∙ sym (first-pending v.cores s t (below (operations s)))

  pub fault-is : (t : Target) → refusal_at v t ≡ begin_fault v.cores s t
  fault-is t = (λ i. begin_fault_by (stands.begun_is i) (pending-is t i))
