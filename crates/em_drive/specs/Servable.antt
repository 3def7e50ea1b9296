-- The graphs whose bodies the desk serves.
use Rattle.std.specs.Prelude.{ℕ, ◌≡◌, List, Some, IsTrue}
use Rattle.em_log.specs.declared.ask.Ask.{Ask}
use Rattle.em_log.specs.declared.ask.Context.{Context}
use Rattle.em_log.specs.declared.graph.Config.{Config}
use Rattle.em_log.specs.Works.{Exchange}
use Rattle.em_log.specs.Declarations.{declarations_of}
use Rattle.em_body.specs.Followed.{IsReached}
use Rattle.em_body.specs.Standings.{Standing, unanswered}
use Rattle.em_desk.specs.Served.{served}

-- today's desk serves some asks: each ask that a body of the graph comes to, an error body among them, is one of these
pub record IsServable (g : Config) : Type 0 where
  pub asks : (c : ℕ) (context : Context) (es : List Exchange) (now : Standing) (a : Ask)
      → IsReached (record { graph = g; core = c }) context es now → unanswered now ≡ Some a
      → IsTrue (served (declarations_of g) a)
