-- What is a core's own, and entries of other cores.
use Rattle.std.specs.Prelude.{ℕ, ◌≡◌, ◌≢◌, List, [], ◌∷◌}
use Rattle.em_log.specs.declared.ask.Ask.{Ask}
use Rattle.em_log.specs.declared.declarations.Declarations.{Declarations}
use Rattle.em_log.specs.declared.entry.Entry.{Entry}
use Rattle.em_log.specs.Allowance.{left}
use Rattle.em_log.specs.Atomic.{holds}
use Rattle.em_log.specs.Contexts.{context, context_object}
use Rattle.em_log.specs.Handles.{held}
use Rattle.em_log.specs.History.{Past, part}
use Rattle.em_log.specs.Lawful.{may_ask}
use Rattle.em_log.specs.Legal.{leads, opening}
use Rattle.em_log.specs.Places.{taken}

-- each of the entries is of another core than c
abbrev pub AreOfOthers : ℕ → List Entry → Type 0
AreOfOthers c [] = Unit {0}
AreOfOthers c (e ∷ es) = (e.core.0 ≢ c) × AreOfOthers c es

-- what is core c's own is after now as it was after past
pub record IsSameFor (k : Declarations) (past now : Past) (c : ℕ) : Type 0 where
  pub part : part now c ≡ part past c
  pub context : context now c ≡ context past c
  pub object : context_object k now c ≡ context_object k past c
  pub taken : taken k now c ≡ taken k past c
  pub leads : leads k now c ≡ leads k past c
  pub left : left k now c ≡ left k past c
  pub opening : opening k now c ≡ opening k past c
  pub held : held now c ≡ held past c
  pub holds : holds k now c ≡ holds k past c
  pub may_ask : (a : Ask) → may_ask k now c a ≡ may_ask k past c a
