-- After an acknowledgement, the operations stand for one step more.
use Rattle.std.proofs.Common.{◌≡◌, ◌≢◌, ℕ, ◌<◌, ◌==◌, Bool, true, false, not, List, [], ◌∷◌, length, filter, Option, Some, None, if◌then◌else◌, arith, refl, ap, sym, ◌∙◌, subst, ⊎_elim}
use Rattle.std.specs.List.{list_all}
use Rattle.std.specs.Option.{option_map, option_and_then}
use Rattle.std.proofs.lemmas.Bool.{cases_eq, eq-eqb}
use Rattle.em_log.specs.History.{has, without}
use Rattle.em_log.specs.Declarations.{below}
use Rattle.em_log.specs.Operations.{op_id, last_if}
use Rattle.em_acks.specs.declared.job.Job.{Job}
use Rattle.em_acks.specs.declared.job.Left.{Left}
use Rattle.em_acks.specs.declared.job.Target.{Target}
use Rattle.em_acks.specs.declared.job.Phase.{Phase}
use Rattle.em_acks.specs.declared.unfinished.Owing.{Owing}
use Rattle.em_acks.specs.declared.unfinished.Unfinished.{Unfinished}
use Rattle.em_acks.specs.Steps.{AckStep, Acknowledged}
use Rattle.em_acks.specs.Operations.{Operation, operations, operation, global_done, all_acked, not_acked, last_acker, left_after}
use Rattle.em_acks.specs.State.{AckState, owed_at}
use Rattle.em_acks.specs.Stands.{Stands, unfinished_as, unfinished_at}
use Rattle.em_acks.specs.Changes.{acked_by, with_owing, owing_acked, owing_left, left_in, left_at}
use Rattle.em_acks.proofs.Acked.{is_nil, last-none, last-some, last-other, acked-other, all-same, not_acked-same}
use Rattle.em_acks.proofs.Numbers.{with-from}
use Rattle.em_acks.proofs.Reading.{numbered, find-is}
use Rattle.em_acks.proofs.OwedSteps.{kept_as, with_next, owed_of, only-not, owes-kept, operation-begun, owes-as, is-begun}

-- an operation by what its steps tell of it

module _ (n c : ℕ) (b : ℕ) (t : Target) where
  abbrev acks : Unfinished → Option Owing
  acks u = owing_acked c u.job u.owing

  global_local : Phase.Global ≡ Phase.Local → ⊥
  global_local e = cc e

  -- a local step of an operation that is done with the last one
  local-acked : (j : Job) (e : Option Bool) → ((cs : List ℕ) → owing_left j c [] ≡ None) → (r : List ℕ)
      → ◌≡◌ {A = Option Unfinished} (if is_nil r then None else Some (record { op = op_id n; job = j; target = t; owing = Owing.Local r }))
      (option_map (λ owing. record { op = op_id n; job = j; target = t; owing = owing }) (owing_left j c r))
  local-acked j e last [] = ap (option_map (λ owing. record { op = op_id n; job = j; target = t; owing = owing })) (sym (last []))
  local-acked j e last (d ∷ r) = refl

  ack-as : (j : Job) (ended : Option Bool) (all : Bool) (left : List ℕ) (last : Option ℕ) → (all ≡ false → last ≡ None)
      → (all ≡ true → (d : ℕ) × (last ≡ Some d))
      → owed_of c (unfinished_as n all left last ended (record { core = b; job = j; target = t })) ≡ Some Phase.Local
      → unfinished_as n (is_nil (without c left)) (without c left) (last_if (is_nil (without c left)) c last) ended (record { core = b; job = j; target = t })
      ≡ with_next acks (unfinished_as n all left last ended (record { core = b; job = j; target = t }))
  ack-as Job.Modify ended true left last none some owed = absurd (cc owed)
  ack-as Job.Modify ended false left last none some owed = local-acked Job.Modify ended (λ cs. refl) (without c left)
  ack-as Job.Start None all left last none some owed = only-not (b == c) Phase.Global Phase.Local global_local owed
  ack-as Job.Start (Some true) true left last none some owed = absurd (cc owed)
  ack-as Job.Start (Some true) false left last none some owed = local-acked Job.Start (Some true) (λ cs. refl) (without c left)
  ack-as Job.Start (Some false) all left last none some owed = absurd (cc owed)
  ack-as Job.Stop None all left (Some d) none some owed = only-not (d == c) Phase.Global Phase.Local global_local owed
  ack-as Job.Stop None true left None none some owed = let is = some refl in absurd (cc is.1)
  ack-as Job.Stop None false left None none some owed = by_left (without c left)
    where
      by_left : (r : List ℕ)
          → unfinished_as n (is_nil r) r (last_if (is_nil r) c None) None (record { core = b; job = Job.Stop; target = t })
          ≡ option_map (λ owing. record { op = op_id n; job = Job.Stop; target = t; owing = owing }) (owing_left Job.Stop c r)
      by_left [] = refl
      by_left (d ∷ r) = refl
  ack-as Job.Stop (Some ok) all left last none some owed = absurd (cc owed)

  left-as : (j : Job) (r : List ℕ) → left_in (owing_left j c r) ≡ (if is_nil r then Left.Last else Left.More (length r))
  left-as Job.Start [] = refl
  left-as Job.Stop [] = refl
  left-as Job.Modify [] = refl
  left-as j (d ∷ r) = refl

  answer-as : (j : Job) (ended : Option Bool) (all : Bool) (left : List ℕ) (last : Option ℕ)
      → (all ≡ true → (d : ℕ) × (last ≡ Some d))
      → owed_of c (unfinished_as n all left last ended (record { core = b; job = j; target = t })) ≡ Some Phase.Local
      → left_in (option_and_then acks (unfinished_as n all left last ended (record { core = b; job = j; target = t })))
      ≡ (if is_nil (without c left) then Left.Last else Left.More (length (without c left)))
  answer-as Job.Modify ended true left last some owed = absurd (cc owed)
  answer-as Job.Modify ended false left last some owed = left-as Job.Modify (without c left)
  answer-as Job.Start None all left last some owed = only-not (b == c) Phase.Global Phase.Local global_local owed
  answer-as Job.Start (Some true) true left last some owed = absurd (cc owed)
  answer-as Job.Start (Some true) false left last some owed = left-as Job.Start (without c left)
  answer-as Job.Start (Some false) all left last some owed = absurd (cc owed)
  answer-as Job.Stop None all left (Some d) some owed = only-not (d == c) Phase.Global Phase.Local global_local owed
  answer-as Job.Stop None true left None some owed = let is = some refl in absurd (cc is.1)
  answer-as Job.Stop None false left None some owed = left-as Job.Stop (without c left)
  answer-as Job.Stop (Some ok) all left last some owed = absurd (cc owed)

  -- a start whose global start has not ended is owed no local step
  started-as : (j : Job) (ended : Option Bool) (all : Bool) (left : List ℕ) (last : Option ℕ) → j ≡ Job.Start → ended ≡ None
      → owed_of c (unfinished_as n all left last ended (record { core = b; job = j; target = t })) ≡ Some Phase.Local → ⊥
  started-as Job.Start None all left last start none owed = only-not (b == c) Phase.Global Phase.Local global_local owed
  started-as Job.Start (Some ok) all left last start none owed = cc none
  started-as Job.Stop ended all left last start none owed = cc start
  started-as Job.Modify ended all left last start none owed = cc start

module _ {v : AckState} {s : List AckStep} (stands : Stands v s) (c n : ℕ) (within : c < v.cores) (owes : owed_at v c n ≡ Some Phase.Local) where
  abbrev steps : List AckStep
  steps = Acknowledged c n ∷ s

  owes_kept : owed_of c (kept_as v.cores s n (operation s n)) ≡ Some Phase.Local
  owes_kept = owes-kept stands c n Phase.Local owes

  abbrev begun : (p : Operation) × (operation s n ≡ Some p)
  begun = operation-begun stands c n Phase.Local owes

  owes_as : owed_of c (kept_as v.cores s n (Some begun.0)) ≡ Some Phase.Local
  owes_as = owes-as stands c n Phase.Local owes

  is_begun : n < operations s
  is_begun = is-begun stands c n Phase.Local owes

  kept-other : (m : ℕ) → n ≢ m → unfinished_at v.cores steps m ≡ unfinished_at v.cores s m
  kept-other m ne =
      (λ i. option_and_then
      (unfinished_as m (list_all (has (acked-other v.cores s n m c ne i)) (below v.cores))
      (filter (λ d. not (has (acked-other v.cores s n m c ne i) d)) (below v.cores)) (last-other v.cores s n m c ne i) (global_done s m))
      (operation s m))

  last-same : last_acker v.cores steps n ≡ last_if (is_nil (without c (not_acked v.cores s n))) c (last_acker v.cores s n)
  last-same =
      ap (λ b. if b then last_if (all_acked v.cores steps n) c (last_acker v.cores s n) else last_acker v.cores s n) (eq-eqb n n refl)
      ∙ ap (λ all. last_if all c (last_acker v.cores s n)) (all-same v.cores s n c)

  kept-same : unfinished_at v.cores steps n ≡ with_next (λ u. owing_acked c u.job u.owing) (unfinished_at v.cores s n)
  kept-same =
      (λ i. option_and_then
      (unfinished_as n (all-same v.cores s n c i) (not_acked-same v.cores s n c i) (last-same i) (global_done s n)) (begun.1 i))
      ∙ (ack-as n c begun.0.core begun.0.target begun.0.job (global_done s n) (all_acked v.cores s n) (not_acked v.cores s n) (last_acker v.cores s n)
      (last-none v.cores s n) (last-some v.cores (omega arith) s n) owes_as
      ∙ sym (ap (λ o. with_next (λ u. owing_acked c u.job u.owing) (kept_as v.cores s n o)) begun.1))

  pub acked-stands : Stands (acked_by v c n) steps
  acked-stands = record {
    begun_is = stands.begun_is;
    unfinished_are =
        ap (with_owing n (λ u. owing_acked c u.job u.owing)) stands.unfinished_are
        ∙ with-from (unfinished_at v.cores s) (numbered v.cores s) (unfinished_at v.cores steps) n (λ u. owing_acked c u.job u.owing) kept-other kept-same
        (operations s) 0;
    none_acked = λ m le. acked-other v.cores s n m c (λ e. absurd (let lt = is_begun in omega arith)) ∙ stands.none_acked m le;
    none_ended = stands.none_ended;
    unstarted = λ m o is start none.
        ⊎_elim
        (λ e. absurd (started-as n c o.core o.target o.job (global_done s n) (all_acked v.cores s n) (not_acked v.cores s n) (last_acker v.cores s n) start
        (ap (global_done s) e ∙ none)
        (subst (λ p. owed_of c (kept_as v.cores s n p) ≡ Some Phase.Local) (ap (operation s) e ∙ is) owes_kept)))
        (λ ne. acked-other v.cores s n m c ne ∙ stands.unstarted m o is start none)
        (cases_eq n m);
  }

  pub acked-answer : left_at v c n ≡ left_after v.cores steps n
  acked-answer =
      ap (λ o. left_in (option_and_then (λ (u : Unfinished). owing_acked c u.job u.owing) o)) (find-is stands n ∙ ap (kept_as v.cores s n) begun.1)
      ∙ (answer-as n c begun.0.core begun.0.target begun.0.job (global_done s n) (all_acked v.cores s n) (not_acked v.cores s n) (last_acker v.cores s n)
      (last-some v.cores (omega arith) s n) owes_as
      ∙ sym (λ i. if all-same v.cores s n c i then Left.Last else Left.More (length (not_acked-same v.cores s n c i))))
