-- What a choice of a queue needs, by name.
use Rattle.std.proofs.Common.{◌≡◌, ℕ, true, false, not, ◌&&◌, List, [], ◌∷◌, Option, Some, None, refl, is_none}
use Rattle.std.specs.Option.{option_map_or}
use Rattle.em_log.specs.declared.declarations.Declarations.{Declarations}
use Rattle.em_log.specs.declared.ids.Limits.{Limits}
use Rattle.em_log.specs.declared.ids.EoState.{EoState}
use Rattle.em_log.specs.History.{Past}
use Rattle.em_log.specs.Declarations.{kind_of, object_of, is_served}
use Rattle.em_log.specs.Contexts.{context, boot_ended}
use Rattle.em_log.specs.Operations.{step}
use Rattle.em_log.specs.States.{state, flag, is_running}
use Rattle.em_log.specs.Arrivals.{Item}
use Rattle.em_log.specs.Places.{waiting, taken}
use Rattle.em_log.specs.Atomic.{is_empty}
use Rattle.em_log.specs.Eligible.{is_between, runs, is_in_group, is_unheld, ready, eligible, is_best, is_choice}
use Rattle.em_moments.proofs.Asked.{and-true, is_none-none}

-- the parts of 'between contexts'
pub record IsBetween (k : Declarations) (past : Past) (c : ℕ) : Type 0 where
  pub booted : boot_ended past ≡ true
  pub closed : context past c ≡ None
  pub untaken : taken k past c ≡ []

-- the parts of 'ready'
pub record IsReady (k : Declarations) (past : Past) (c q : ℕ) : Type 0 where
  pub between : IsBetween k past c
  pub no_step : step k past c ≡ None
  pub served : is_served (kind_of k q) ≡ true
  pub runs : (x : ℕ) × ((object_of k q ≡ Some x) × (state k past x ≡ EoState.Running))
  pub enabled : flag past q ≡ true
  pub waits : (x : Item) × ((xs : List Item) × (waiting k past q c ≡ x ∷ xs))
  pub in_group : is_in_group k past c q ≡ true
  pub unheld : is_unheld k past q ≡ true

pub is_empty-none : (xs : List Item) → is_empty xs ≡ true → xs ≡ []
is_empty-none [] h = refl
is_empty-none (x ∷ xs) h = absurd cc

not_empty-some : (xs : List Item) → not (is_empty xs) ≡ true → (x : Item) × ((ys : List Item) × (xs ≡ x ∷ ys))
not_empty-some [] h = absurd cc
not_empty-some (x ∷ xs) h = (x, (xs, refl))

is_running-running : (s : EoState) → is_running s ≡ true → s ≡ EoState.Running
is_running-running EoState.Created h = absurd cc
is_running-running EoState.Starting h = absurd cc
is_running-running EoState.Running h = refl
is_running-running EoState.Stopping h = absurd cc

pub between-parts : (k : Declarations) (past : Past) (c : ℕ) → is_between k past c ≡ true → IsBetween k past c
between-parts k past c h =
    let a = and-true (boot_ended past && is_none (context past c)) (is_empty (taken k past c)) h in
    let b = and-true (boot_ended past) (is_none (context past c)) a.0 in
    record { booted = b.0; closed = is_none-none _ b.1; untaken = is_empty-none _ a.1 }

runs-running : (k : Declarations) (past : Past) (q : ℕ) → runs k past q ≡ true
    → (x : ℕ) × ((object_of k q ≡ Some x) × (state k past x ≡ EoState.Running))
runs-running k past q h = by_object (object_of k q) refl h
  where
    by_object : (o : Option ℕ) → object_of k q ≡ o
        → option_map_or (λ x. is_running (state k past x)) o false ≡ true
        → (x : ℕ) × ((object_of k q ≡ Some x) × (state k past x ≡ EoState.Running))
    by_object None is e = absurd cc
    by_object (Some x) is e = (x, (is, is_running-running _ e))

pub ready-parts : (k : Declarations) (past : Past) (c q : ℕ) → ready k past c q ≡ true → IsReady k past c q
ready-parts k past c q h =
    let a7 = and-true _ (is_unheld k past q) h in
    let a6 = and-true _ (is_in_group k past c q) a7.0 in
    let a5 = and-true _ (not (is_empty (waiting k past q c))) a6.0 in
    let a4 = and-true _ (flag past q) a5.0 in
    let a3 = and-true _ (runs k past q) a4.0 in
    let a2 = and-true _ (is_served (kind_of k q)) a3.0 in
    let a1 = and-true (is_between k past c) (is_none (step k past c)) a2.0 in
    record {
      between = between-parts k past c a1.0;
      no_step = is_none-none _ a1.1;
      served = a2.1;
      runs = runs-running k past q a3.1;
      enabled = a4.1;
      waits = not_empty-some _ a5.1;
      in_group = a6.1;
      unheld = a7.1;
    }

pub choice-ready : (k : Declarations) (l : Limits) (past : Past) (c q : ℕ) → is_choice k l past c q ≡ true → IsReady k past c q
choice-ready k l past c q h =
    ready-parts k past c q (and-true _ _ (and-true (eligible k l past c q) (is_best k l past c q) h).0).0
