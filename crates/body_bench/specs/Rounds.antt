-- Graphs of one boot body of nested rounds.
use Rattle.std.specs.Prelude.{ℕ, List, [], ◌∷◌, None}
use Rattle.em_log.specs.declared.body.Expr.TheVariants as expr
use Rattle.em_log.specs.declared.body.Stmt.{Stmt}
use Rattle.em_log.specs.declared.body.Stmt.TheVariants as stmt
use Rattle.em_log.specs.declared.graph.Config.{Config}

-- one core, and nothing declared
abbrev pub booting : List Stmt → Config
booting boot =
    record {
      cores = 1;
      order = [];
      pools = [];
      groups = [];
      eos = [];
      agroups = [];
      queues = [];
      egroups = [];
      boot = boot;
      error = None;
    }

-- so many times 256 rounds of a block
abbrev pub rounds : ℕ → List Stmt → List Stmt
rounds n block = stmt.Repeat n (stmt.Repeat 256 block ∷ []) ∷ []

-- variable 0 goes up by one
abbrev pub counting : List Stmt
counting = stmt.Set 0 (expr.Add (expr.Var 0) (expr.Number 1)) ∷ []
