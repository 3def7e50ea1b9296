-- An operation to which a core owes a step: it has begun, and what is kept of it tells the step.
use Rattle.std.proofs.Common.{◌≡◌, ℕ, ◌<◌, Bool, true, false, List, Option, Some, None, refl, ap, sym, ◌∙◌, subst}
use Rattle.std.specs.Option.{option_map, option_and_then}
use Rattle.em_acks.specs.declared.job.Phase.{Phase}
use Rattle.em_acks.specs.declared.unfinished.Owing.{Owing}
use Rattle.em_acks.specs.declared.unfinished.Unfinished.{Unfinished}
use Rattle.em_acks.specs.Steps.{AckStep}
use Rattle.em_acks.specs.Operations.{Operation, operations, operation, global_done, all_acked, not_acked, last_acker, only_if}
use Rattle.em_acks.specs.State.{AckState, owed_in, owed_at}
use Rattle.em_acks.specs.Stands.{Stands, unfinished_as}
use Rattle.em_acks.proofs.Reading.{begun-before, find-is}

-- what is kept of operation n, where o is what the steps tell of its begin
abbrev pub kept_as : ℕ → List AckStep → ℕ → Option Operation → Option Unfinished
kept_as cores s n o =
    option_and_then (unfinished_as n (all_acked cores s n) (not_acked cores s n) (last_acker cores s n) (global_done s n)) o

abbrev pub with_next : (Unfinished → Option Owing) → Option Unfinished → Option Unfinished
with_next next o = option_and_then (λ (u : Unfinished). option_map (λ owing. record u { owing = owing }) (next u)) o

abbrev pub owed_of : ℕ → Option Unfinished → Option Phase
owed_of c o = option_and_then (λ (u : Unfinished). owed_in c u.owing) o

-- a step of another phase is not owed
pub only-not : (x : Bool) (p q : Phase) {P : Type 0} → (p ≡ q → ⊥) → only_if x p ≡ Some q → P
only-not true p q ne is = absurd (ne (cc is))
only-not false p q ne is = absurd (cc is)

module _ {v : AckState} {s : List AckStep} (stands : Stands v s) (c n : ℕ) (phase : Phase) (owes : owed_at v c n ≡ Some phase) where
  pub owes-kept : owed_of c (kept_as v.cores s n (operation s n)) ≡ Some phase
  owes-kept = sym (ap (owed_of c) (find-is stands n)) ∙ owes

  the_operation : (o : Option Operation) → owed_of c (kept_as v.cores s n o) ≡ Some phase → (p : Operation) × (o ≡ Some p)
  the_operation None owed = absurd (cc owed)
  the_operation (Some p) owed = (p, refl)

  pub operation-begun : (p : Operation) × (operation s n ≡ Some p)
  operation-begun = the_operation (operation s n) owes-kept

  pub owes-as : owed_of c (kept_as v.cores s n (Some operation-begun.0)) ≡ Some phase
  owes-as = subst (λ o. owed_of c (kept_as v.cores s n o) ≡ Some phase) operation-begun.1 owes-kept

  pub is-begun : n < operations s
  is-begun = begun-before s n operation-begun.0 operation-begun.1
