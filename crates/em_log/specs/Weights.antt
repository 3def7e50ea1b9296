-- What a body weighs, and how many steps it may take.
use mathlib.Core.Former.{Count}
use Rattle.std.specs.Prelude.{ℕ, zero, suc, ◌+◌, ◌*◌, max, List, [], ◌∷◌, length}
use Rattle.em_log.specs.declared.body.Stmt.{Stmt}
use Rattle.em_log.specs.declared.body.Stmt.TheBlock.{Row_of-Stmt, end_of-Stmt, more_of-Stmt}

-- the cost of a statement: an upper bound on the number of entries that its ask may ever cause
abbrev pub cost_of : Stmt → ℕ
cost_of (Stmt.Set v e) = 0
cost_of (Stmt.If' e _ first _ second has_else) = 0
cost_of (Stmt.Repeat' n _ block) = 0
cost_of (Stmt.Send e q) = 2
cost_of (Stmt.SendG e q g) = 2
cost_of (Stmt.Apply g e notes) = 2 + length notes
cost_of (Stmt.Start x notes) = 3 + length notes
cost_of (Stmt.Stop x notes) = 3 + length notes
cost_of (Stmt.Modify g e notes) = 3 + length notes
cost_of s = 1

-- a cost, with the weight of what serves a fault where there may be one
abbrev pub served_cost : ℕ → ℕ → ℕ
served_cost error zero = 0
served_cost error (suc n) = suc n + error

-- the weight of a statement whose faults are served by a body of this weight: the greater branch of an `if`, and a
-- repeated block as often as it is repeated
abbrev mutual
  pub weight : ℕ → Stmt → ℕ
  weight error (Stmt.If' e _ first _ second has_else) = max (weight_row error first) (weight_row error second)
  weight error (Stmt.Repeat' n _ block) = n * weight_row error block
  weight error s = served_cost error (cost_of s)

  pub weight_row : {n : Count} → ℕ → Row_of-Stmt n → ℕ
  weight_row error end_of-Stmt = 0
  weight_row error (more_of-Stmt s ss) = weight error s + weight_row error ss

abbrev pub weight_of : ℕ → List Stmt → ℕ
weight_of error [] = 0
weight_of error (s ∷ ss) = weight error s + weight_of error ss

-- one step, and those of what serves a fault where there may be one
abbrev pub served_step : ℕ → ℕ → ℕ
served_step error zero = 1
served_step error (suc n) = 1 + error

-- the steps of a statement whose faults are served by a body of so many steps
abbrev mutual
  pub steps : ℕ → Stmt → ℕ
  steps error (Stmt.If' e _ first _ second has_else) = 1 + max (steps_row error first) (steps_row error second)
  steps error (Stmt.Repeat' n _ block) = 1 + n * steps_row error block
  steps error s = served_step error (cost_of s)

  pub steps_row : {n : Count} → ℕ → Row_of-Stmt n → ℕ
  steps_row error end_of-Stmt = 0
  steps_row error (more_of-Stmt s ss) = steps error s + steps_row error ss

abbrev pub steps_of : ℕ → List Stmt → ℕ
steps_of error [] = 0
steps_of error (s ∷ ss) = steps error s + steps_of error ss
