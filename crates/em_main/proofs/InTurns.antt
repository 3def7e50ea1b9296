-- The run in turns in whose place a run with threads stands.
use Rattle.std.proofs.Common.{◌≡◌, ◌<◌, ℕ, zero, suc, List, [], ◌∷◌, Contains, take, arith, refl, ap, ◌∙◌}
use Rattle.std.specs.Prelude.{slice_index}
use Rattle.em_log.specs.declared.ids.Limits.{Limits}
use Rattle.em_tool.specs.Words.{IsOrder, IsSolo}
use Rattle.em_main.specs.Words.{IsRun, in_turns, words_in_turns}

first-core : IsOrder (0 ∷ [])
first-core = record {
  some = omega arith;
  most = omega arith;
  cores = λ i below. at i below;
  different = λ i below. apart i below;
}
  where
    at : (i : ℕ) → i < 1 → slice_index (0 ∷ []) i < 64
    at zero below = omega arith
    at (suc i) below = absurd (omega arith)

    apart : (i : ℕ) → i < 1 → ¬ (Contains (take i (0 ∷ [])) (slice_index (0 ∷ []) i))
    apart zero below stands = absurd (omega (arith, stands.1))
    apart (suc i) below stands = absurd (omega arith)

pub is-in-turns : (texts : List (List ℕ)) (l : Limits) → IsRun texts l → IsSolo (words_in_turns l) (in_turns l)
is-in-turns texts l is = record {
  words = refl;
  at_least = is.at_least;
  at_most = is.at_most;
  burst = is.burst;
  order = first-core;
}

abbrev whole : ℕ → ℕ → Limits
whole n m = record { receives = n; burst = m }

pub same-limits : (receives : ℕ) (l : Limits) → receives ≡ l.receives → 1 ≡ l.burst → ◌≡◌ {A = Limits} (record { receives = receives; burst = 1 }) l
same-limits receives l first second = ap (λ (n : ℕ). whole n 1) first ∙ ap (λ (n : ℕ). whole l.receives n) second
