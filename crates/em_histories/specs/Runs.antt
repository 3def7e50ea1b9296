-- A history that is written out, and what is claimed of it: that it is legal and how it ends, or where it is wrong.
use Rattle.std.specs.Prelude.{ℕ, suc, List, reverse, take, IsTrue}
use Rattle.em_log.specs.declared.entry.Entry.{Entry}
use Rattle.em_log.specs.declared.ids.Limits.{Limits}
use Rattle.em_log.specs.declared.graph.Config.{Config}
use Rattle.em_log.specs.Declarations.{declarations_of}
use Rattle.em_log.specs.Eligible.{is_quiet, is_at_limit}
use Rattle.em_log.specs.Lawful.{AllAllowed}
use Rattle.em_log.specs.Legal.{IsLegal, IsLawful}

-- a history, its oldest entry first, with the graph and the limits of its run
pub record Run : Type 0 where
  pub graph : Config
  pub limits : Limits
  pub history : List Entry

-- the history is legal, and at its end nothing is left to do
pub record IsLegalUntilQuiet (r : Run) : Type 0 where
  pub legal : IsLegal r.graph r.limits r.history
  pub quiet : IsTrue (is_quiet (declarations_of r.graph) (reverse r.history))

-- the history is legal, and at its end the limit on receives is reached, with more to do
pub record IsLegalUntilLimit (r : Run) : Type 0 where
  pub legal : IsLegal r.graph r.limits r.history
  pub limit : IsTrue (is_at_limit (declarations_of r.graph) r.limits (reverse r.history))

-- the entries before place n were each allowed, and the one at place n is not: so the history is not lawful
pub record IsWrongAt (n : ℕ) (r : Run) : Type 0 where
  pub before : AllAllowed (declarations_of r.graph) r.limits (reverse (take n r.history))
  pub wrong : AllAllowed (declarations_of r.graph) r.limits (reverse (take (suc n) r.history)) → ⊥
  pub unlawful : IsLawful (declarations_of r.graph) r.limits r.history → ⊥

-- each entry was allowed, but something is still due at the end: so the history is not lawful
pub record IsUnfinished (r : Run) : Type 0 where
  pub each : AllAllowed (declarations_of r.graph) r.limits (reverse r.history)
  pub unlawful : IsLawful (declarations_of r.graph) r.limits r.history → ⊥

-- the history is lawful, but a context does not follow its body
pub record IsUnfaithful (r : Run) : Type 0 where
  pub lawful : IsLawful (declarations_of r.graph) r.limits r.history
  pub illegal : IsLegal r.graph r.limits r.history → ⊥
