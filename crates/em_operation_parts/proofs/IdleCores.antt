-- Where nothing is due, no operation is pending exactly where no core owes a step.
use Rattle.std.proofs.Common.{◌≡◌, ℕ, zero, suc, ◌+◌, ◌<◌, ◌≤◌, Bool, true, false, not, ◌&&◌, List, [], ◌∷◌, Option, Some, None, is_none, is_some, if◌then◌else◌, refl, sym, ◌∙◌, subst, ap, arith}
use Rattle.std.specs.List.{list_all}
use Rattle.std.specs.Option.{option_or}
use Rattle.em_log.specs.declared.declarations.Declarations.{Declarations}
use Rattle.em_log.specs.declared.entry.What.{What}
use Rattle.em_log.specs.declared.ids.Limits.{Limits}
use Rattle.em_log.specs.History.{Past}
use Rattle.em_log.specs.Declarations.{below, numbers_from}
use Rattle.em_log.specs.Lawful.{AllAllowed, Lawful}
use Rattle.em_log.specs.Operations.{Operation, op_id}
use Rattle.em_log.specs.Operations as log
use Rattle.em_moments.proofs.Asked.{is_none-none}
use Rattle.em_laws.proofs.Acks.{all-below}
use Rattle.em_laws.proofs.Begun.{none-pending, numbered}
use Rattle.em_laws.proofs.Cores.{none-some, Compared, Same, Other, compared}
use Rattle.em_bounds.proofs.Pending.{is-owed}
use Rattle.em_acks.specs.Operations.{step}
use Rattle.em_operation_parts.specs.AckSteps.{ack_steps}
use Rattle.em_operation_parts.proofs.OwedSteps.{OwedEntry, AnEntry, owed-entry, same-owing}
use Rattle.em_operation_parts.proofs.CompleteOperations.{same-bools, owed-undone}

aimed-any : (past : Past) (n a w : ℕ) → log.first_pending past (λ job. true) (numbers_from a w) ≡ Some n
    → (a ≤ n) × (n < a + w) × (log.is_done past n ≡ false) × ((o : Operation) × (log.operation past n ≡ Some o))
aimed-any past n a zero is = absurd (none-some n is)
aimed-any past n a (suc w) is = by_tests (log.is_done past a) refl (log.operation past a) refl is (aimed-any past n (suc a) w)
  where
    Found : ℕ → ℕ → Type 0
    Found b v = (b ≤ n) × (n < b + v) × (log.is_done past n ≡ false) × ((o : Operation) × (log.operation past n ≡ Some o))

    later : (log.first_pending past (λ job. true) (numbers_from (suc a) w) ≡ Some n → Found (suc a) w)
        → log.first_pending past (λ job. true) (numbers_from (suc a) w) ≡ Some n → Found a (suc w)
    later more h = let f = more h in ((let low = f.0 in omega (arith, low)), (let high = f.1 in omega (arith, high)), f.2, f.3)

    here : (o : Operation) → log.is_done past a ≡ false → log.operation past a ≡ Some o → a ≡ n → Found a (suc w)
    here o undone at e =
        (omega (arith, e), omega (arith, e), subst (λ (i : ℕ). log.is_done past i ≡ false) e undone, (o, subst (λ (i : ℕ). log.operation past i ≡ Some o) e at))

    by_tests : (b : Bool) → log.is_done past a ≡ b → (o : Option Operation) → log.operation past a ≡ o
        → (if not b && log.is_aim (λ job. true) o then Some a else log.first_pending past (λ job. true) (numbers_from (suc a) w)) ≡ Some n
        → (log.first_pending past (λ job. true) (numbers_from (suc a) w) ≡ Some n → Found (suc a) w) → Found a (suc w)
    by_tests true undone o at h more = later more h
    by_tests false undone None at h more = later more h
    by_tests false undone (Some o) at h more = here o undone at (cc h)

any-pending : (past : Past) (n : ℕ) (o : Operation) → n < log.operations past → log.operation past n ≡ Some o → log.done past n ≡ None
    → log.pending past (λ job. true) ≡ None → ⊥
any-pending past n o lt at undone none =
    none-pending past (λ job. true) n lt none (record { started = o; begun = at; aimed = refl; undone = undone })

undone-none : (o : Option Bool) → is_some o ≡ false → o ≡ None
undone-none None is = refl
undone-none (Some b) is = absurd cc

-- an owed step stands among the first steps
first-owes : (k : Declarations) (past : Past) (c n a w : ℕ) (v : What) → a ≤ n → n < a + w → log.owed_to k past c n ≡ Some v
    → log.first_owed k past c (numbers_from a w) ≡ None → ⊥
first-owes k past c n a zero v low high owed none = absurd (omega arith)
first-owes k past c n a (suc w) v low high owed none = by_number (compared a n) (log.owed_to k past c a) refl none (first-owes k past c n (suc a) w v)
  where
    by_number : Compared a n → (o : Option What) → log.owed_to k past c a ≡ o → option_or o (log.first_owed k past c (numbers_from (suc a) w)) ≡ None
        → (suc a ≤ n → n < suc a + w → log.owed_to k past c n ≡ Some v → log.first_owed k past c (numbers_from (suc a) w) ≡ None → ⊥) → ⊥
    by_number (Same t e) None at none later = none-some v (sym (ap (log.owed_to k past c) (sym e) ∙ at) ∙ owed)
    by_number (Other f e) None at none later = later (omega (arith, e)) (omega arith) owed none
    by_number x (Some u) at none later = absurd cc

-- a first step is owed to some operation
pub owed-first : (k : Declarations) (past : Past) (c : ℕ) (ns : List ℕ) (v : What) → log.first_owed k past c ns ≡ Some v → (n : ℕ) × (log.owed_to k past c n ≡ Some v)
owed-first k past c [] v is = absurd cc
owed-first k past c (n ∷ ns) v is = by_owed (log.owed_to k past c n) refl is (owed-first k past c ns v)
  where
    by_owed : (o : Option What) → log.owed_to k past c n ≡ o → option_or o (log.first_owed k past c ns) ≡ Some v
        → (log.first_owed k past c ns ≡ Some v → (m : ℕ) × (log.owed_to k past c m ≡ Some v)) → (m : ℕ) × (log.owed_to k past c m ≡ Some v)
    by_owed None at is later = later is
    by_owed (Some u) at is later = (n, at ∙ is)

pub all-numbers : (p : ℕ → Bool) (a w : ℕ) → ((c : ℕ) → a ≤ c → c < a + w → p c ≡ true) → list_all p (numbers_from a w) ≡ true
all-numbers p a zero each = refl
all-numbers p a (suc w) each =
    let here : p a ≡ true = each a (omega arith) (omega arith) in
    rw here (all-numbers p (suc a) w (λ c low high. each c (omega arith) (omega arith)))

-- where an operation has begun there is a core
some-core : (k : Declarations) (l : Limits) (past : Past) (n : ℕ) → AllAllowed k l past → n < log.operations past → 0 < k.cores
some-core k l [] n all lt = absurd (omega (arith, lt))
some-core k l (e ∷ past) n all lt = let core = all.0.core in omega (arith, core)

none-as-some : {A B : Type 0} (o : Option A) (p : Option B) → is_some o ≡ is_some p → is_none o ≡ is_none p
none-as-some None None is = refl
none-as-some None (Some y) is = absurd cc
none-as-some (Some x) None is = absurd cc
none-as-some (Some x) (Some y) is = refl

module _ (k : Declarations) (l : Limits) (past : Past) (lawful : Lawful k l past) where
  pub no-step : (c : ℕ) → c < k.cores → log.pending past (λ job. true) ≡ None → log.step k past c ≡ None
  no-step c lt none = by_step (log.step k past c) refl
    where
      by_step : (o : Option What) → log.step k past c ≡ o → o ≡ None
      by_step None is = refl
      by_step (Some v) is =
          let owed = owed-first k past c (below (log.operations past)) v is in
          by_entry owed.0 owed.1 (log.owed_to k past c owed.0) refl (owed-entry k past c owed.0)
        where
          by_entry : (n : ℕ) → log.owed_to k past c n ≡ Some v → (o : Option What) → log.owed_to k past c n ≡ o → OwedEntry past n o → Some v ≡ None
          by_entry n owed None at entry = absurd (none-some v (sym at ∙ owed))
          by_entry n owed (Some u) at (AnEntry o p w begun is step) =
              absurd (any-pending past n o (numbered k l past lawful.each n o begun) begun (owed-undone k l past lawful.each c n v lt owed) none)

  some-step : (n : ℕ) (o : Operation) → 0 < k.cores → n < log.operations past → log.operation past n ≡ Some o → log.is_done past n ≡ false
      → (c : ℕ) × (c < k.cores) × (log.step k past c ≡ None → ⊥)
  some-step n o some lt at undone =
      let owed = is-owed k l past some lawful n o at (undone-none (log.done past n) undone) in
      (owed.0, owed.1, λ none. first-owes k past owed.0 n 0 (log.operations past) owed.2.0 (omega arith) (omega arith) owed.2.1 none)

  same-none : (c : ℕ) → is_none (step k.cores (ack_steps past) c) ≡ is_none (log.step k past c)
  same-none c = none-as-some (step k.cores (ack_steps past) c) (log.step k past c) (same-owing k l past lawful.each c)

  pub same-all_done : log.all_done past ≡ list_all (λ c. is_none (step k.cores (ack_steps past) c)) (below k.cores)
  same-all_done = same-bools _ _ owes_none (by_pending (log.pending past (λ job. true)) refl)
    where
      owing : ℕ → Bool
      owing c = is_none (step k.cores (ack_steps past) c)

      owes_none : is_none (log.pending past (λ job. true)) ≡ true → list_all owing (below k.cores) ≡ true
      owes_none done =
          all-numbers owing 0 k.cores
          (λ c low lt. same-none c ∙ ap is_none (no-step c (omega (arith, lt)) (is_none-none (log.pending past (λ job. true)) done)))

      by_pending : (o : Option ℕ) → log.pending past (λ job. true) ≡ o → list_all owing (below k.cores) ≡ true → is_none o ≡ true
      by_pending None is idle = refl
      by_pending (Some n) is idle =
          let f = aimed-any past n 0 (log.operations past) is in
          let lt = f.1 in
          let owes = some-step n f.3.0 (some-core k l past n lawful.each (omega (arith, lt))) (omega (arith, lt)) f.3.1 f.2 in
          absurd (owes.2 (is_none-none (log.step k past owes.0) (sym (same-none owes.0) ∙ all-below owing owes.0 k.cores idle owes.1)))
