-- What is kept of a body that runs, beside where it stands: that its blocks are not nested too deep, and that its
-- statements fit their asks.
use Rattle.std.specs.Prelude.{ℕ, suc, ◌<◌, ◌≤◌, List, [], ◌∷◌, length, Option, Some, None, IsTrue}
use Rattle.std.specs.List.{list_all}
use Rattle.em_log.specs.declared.body.Stmt.{Stmt}
use Rattle.em_log.specs.declared.graph.Config.{Config}
use Rattle.em_log.specs.WellFormed.{Where, IsWellFormed, is_statement}
use Rattle.em_body.specs.Standings.{Left, Outer, Standing}

-- a block with statements left, all of which may stand within so many more nested blocks
pub record IsBlock (g : Config) (w : Where) (n : ℕ) (l : Left) : Type 0 where
  pub some : 0 < length l.rest
  pub rest : IsTrue (list_all (is_statement g w n) l.rest)
  pub block : IsTrue (list_all (is_statement g w n) l.block)

-- each block lies in one that may hold more nested blocks than it, the innermost in one that may hold n or more
abbrev pub AreNested : Config → Where → ℕ → List Left → Type 0
AreNested g w n [] = n ≤ 17
AreNested g w n (l ∷ ls) = (m : ℕ) × ((n ≤ m) × (IsBlock g w m l × AreNested g w (suc m) ls))

-- what is left of a body is nested no deeper than a script's
abbrev pub AreFew : Config → List Left → Type 0
AreFew g ls = (w : Where) × AreNested g w 0 ls

-- the statements of an error body, if there is one, are a script's
abbrev pub IsErrorBody : Config → Option (List Stmt) → Type 0
IsErrorBody g None = Unit {0}
IsErrorBody g (Some body) = (w : Where) × IsTrue (list_all (is_statement g w 16) body)

abbrev pub IsOuter : Config → Option Outer → Type 0
IsOuter g None = Unit {0}
IsOuter g (Some o) = AreFew g o.left

-- the graph is well formed, and so is all that is left of its bodies
pub record IsSound (g : Config) (s : Standing) : Type 0 where
  pub graph : IsWellFormed g
  pub left : AreFew g s.left
  pub error : IsErrorBody g s.error
  pub outer : IsOuter g s.outer
