-- The bodies of a graph, one for each core.
use Rattle.std.specs.Prelude.{ℕ, ◌≡◌, List, length, Some, slice_get}
use Rattle.em_log.specs.declared.graph.Config.{Config}
use Rattle.em_body.specs.Standings.{Run}

-- those of the cores below n
pub record AreBodies (g : Config) (n : ℕ) (bodies : List Run) : Type 0 where
  pub count : length bodies ≡ n
  pub each : (c : ℕ) (run : Run) → slice_get bodies c ≡ Some run → run.made ≡ record { graph = g; core = c }
