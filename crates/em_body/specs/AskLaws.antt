-- What is known of each ask of a body: the statement that it is of, and that it may stand in its context.
use Rattle.std.specs.Prelude.{ℕ, ◌≡◌, Bool, true, List, Option, Some, None, IsTrue}
use Rattle.std.specs.Option.{option_map_or}
use Rattle.em_log.specs.declared.ask.Ask.{Ask}
use Rattle.em_log.specs.declared.ask.Context.{Context}
use Rattle.em_log.specs.declared.body.Stmt.{Stmt}
use Rattle.em_log.specs.declared.graph.Config.{Config}
use Rattle.em_log.specs.Bodies.{ask_of}
use Rattle.em_log.specs.Declarations.{declarations_of}
use Rattle.em_log.specs.Expressions.{Env}
use Rattle.em_log.specs.Lawful.{is_declared, is_placed}
use Rattle.em_log.specs.WellFormed.{IsWellFormed}
use Rattle.em_log.specs.Works.{Exchange}
use Rattle.em_body.specs.Everywhere.{everywhere_in}
use Rattle.em_body.specs.Followed.{IsReached}
use Rattle.em_body.specs.Standings.{Made, Standing, unanswered, body_of, error_body_of, entry_of, does_ask, opening}

-- the ask is that of a statement which passes this test, and asks in this environment
pub record IsAskOf (p : Stmt → Bool) (a : Ask) (v : Env) : Type 0 where
  pub statement : Stmt
  pub passes : IsTrue (p statement)
  pub asks : IsTrue (does_ask statement v)
  pub is : a ≡ ask_of statement v

-- each ask is that of a statement of the context's body or of the error body that serves it, in the environment of its
-- state: what is true of all statements of both is true of this one
abbrev pub AsksAreOfStatements : Type 0
AsksAreOfStatements = (p : Stmt → Bool) (f : Made) (c : Context) (es : List Exchange) (s : Standing) → IsReached f c es s
    → IsTrue (everywhere_in p (body_of f.graph c)) → IsTrue (option_map_or (everywhere_in p) (error_body_of f.graph c) true)
    → (a : Ask) → unanswered s ≡ Some a → IsAskOf p a s.env

-- what the ask names is declared, and the ask may stand in the context, which holds an atomic context only where the
-- environment has cells
pub record MayStand (g : Config) (c : Context) (v : Env) (a : Ask) : Type 0 where
  pub declared : IsTrue (is_declared (declarations_of g) a)
  pub placed : (atomic : Option ℕ) → (v.cells ≡ None → atomic ≡ None) → IsTrue (is_placed (Some (entry_of c)) atomic a)

-- in a well-formed graph each ask may stand in its context
abbrev pub AsksMayStand : Type 0
AsksMayStand = (f : Made) → IsWellFormed f.graph → (c : Context) (es : List Exchange) (s : Standing)
    → IsReached f c es s → (a : Ask) → unanswered s ≡ Some a → MayStand f.graph c s.env a

-- cells come with a context, or not at all
abbrev pub CellsComeWithContexts : Type 0
CellsComeWithContexts = (f : Made) (c : Context) (es : List Exchange) (s : Standing) → (opening f.core c).cells ≡ None
    → IsReached f c es s → s.env.cells ≡ None
