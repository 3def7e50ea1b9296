-- What has entered may have entered.
use Rattle.std.proofs.Common.{◌≡◌, ℕ, ◌≤◌, Bool, true, false, ◌||◌, List, [], ◌∷◌, refl, arith}
use Rattle.std.specs.List.{list_any}
use Rattle.em_log.specs.declared.declarations.Declarations.{Declarations}
use Rattle.em_log.specs.declared.ids.Limits.{Limits}
use Rattle.em_log.specs.History.{Past}
use Rattle.em_log.specs.Declarations.{below}
use Rattle.em_log.specs.Handles.{spending}
use Rattle.em_log.specs.Arrivals.{arrivals}
use Rattle.em_log.specs.Places.{has_item, has_entered}
use Rattle.em_log.specs.Lawful.{AllAllowed}
use Rattle.em_laws.proofs.Entering.{times_allowed, entered-allowed}
use Rattle.em_arrivals.proofs.Arrivals.{arrivals-once, items-occ}

-- what has entered was let

any-some : (p : ℕ → Bool) (xs : List ℕ) → list_any p xs ≡ true → (x : ℕ) × (p x ≡ true)
any-some p [] is = absurd cc
any-some p (x ∷ xs) is = by_test (p x) refl is (any-some p xs)
  where
    by_test : (b : Bool) → p x ≡ b → (b || list_any p xs) ≡ true → (list_any p xs ≡ true → (x : ℕ) × (p x ≡ true)) → (x : ℕ) × (p x ≡ true)
    by_test true at is later = (x, at)
    by_test false at is later = later is

pub entered-let : (k : Declarations) (l : Limits) (past : Past) (h q : ℕ) → AllAllowed k l past → has_entered k past h q ≡ true → 1 ≤ times_allowed past (spending past h)
entered-let k l past h q all is =
    let s = any-some (λ c. has_item (arrivals k past q c) h) (below k.cores) is in
    let a = items-occ h (arrivals k past q s.0) s.1 in
    let b = arrivals-once k past h q s.0 in
    let c = entered-allowed k l past all h in omega (arith, a, b, c)
