-- Where a body stands, and what its statements do.
use Rattle.std.specs.Prelude.{ℕ, zero, suc, ◌%◌, ◌≡◌, Bool, true, false, List, [], ◌∷◌, Option, Some, None, slice_get, slice_set, nat_le, IsTrue, length, is_none}
use Rattle.std.specs.Option.{option_map, option_and_then, option_or}
use Rattle.em_log.specs.declared.body.Expr.{Expr}
use Rattle.em_log.specs.declared.body.Stmt.{Stmt}
use Rattle.em_log.specs.declared.body.Stmt.TheVariants as stmt
use Rattle.em_log.specs.declared.fault.Fault.{Fault}
use Rattle.em_log.specs.declared.graph.Config.{Config}
use Rattle.em_log.specs.declared.graph.EoDecl.{EoDecl}
use Rattle.em_log.specs.declared.ask.Answer.{Answer}
use Rattle.em_log.specs.declared.ask.Ask.{Ask}
use Rattle.em_log.specs.declared.ask.Context.{Context}
use Rattle.em_log.specs.declared.ask.Receive.{Receive}
use Rattle.em_log.specs.declared.entry.What.{What}
use Rattle.em_log.specs.declared.entry.Body.{Body}
use Rattle.em_log.specs.declared.entry.Event.{Event}
use Rattle.em_log.specs.declared.ids.Cells.{Cells}
use Rattle.em_log.specs.declared.work.Move.{Move}
use Rattle.em_log.specs.Expressions.{Env, value, with_var}
use Rattle.em_log.specs.Bodies.{ask_of, variable, set_in, event_env, error_env}
use Rattle.em_log.specs.Legal.{body_in, plain_env}

-- a block on its way: its statements that are left, and how many times it comes again after them
pub record Left : Type 0 where
  pub rest : List Stmt
  pub block : List Stmt
  pub again : ℕ

-- the graph whose bodies these are, and the core that they run on
pub record Made : Type 0 where
  pub graph : Config
  pub core : ℕ

-- the body that an error body serves: the variable of its refused statement, its environment, and what is left of its blocks
pub record Outer : Type 0 where
  pub variable : Option ℕ
  pub env : Env
  pub left : List Left

-- where a body stands: its environment, what is left of its blocks, the innermost first, the statement whose ask is not
-- answered yet, the error body that serves its context, and, in that error body, the body that it serves
pub record Standing : Type 0 where
  pub env : Env
  pub left : List Left
  pub asking : Option Stmt
  pub error : Option (List Stmt)
  pub outer : Option Outer

pub record Run : Type 0 where
  pub made : Made
  pub standing : Standing

-- blocks

-- a block is begun, to come so many times; one of no statements, and one that comes no time, leave nothing
abbrev pub entered : List Stmt → ℕ → List Left → List Left
entered [] n ls = ls
entered (s ∷ ss) zero ls = ls
entered (s ∷ ss) (suc n) ls = record { rest = s ∷ ss; block = s ∷ ss; again = n } ∷ ls

-- after a statement its block goes on, or comes again
abbrev pub resumed : List Stmt → List Stmt → ℕ → List Left → List Left
resumed [] block n ls = entered block n ls
resumed (s ∷ ss) block n ls = record { rest = s ∷ ss; block = block; again = n } ∷ ls

abbrev pub first_in : List Stmt → Option Stmt
first_in [] = None
first_in (s ∷ ss) = Some s

-- the next statement
abbrev pub first_of : List Left → Option Stmt
first_of [] = None
first_of (l ∷ ls) = first_in l.rest

abbrev pub without_first : List Stmt → List Stmt
without_first [] = []
without_first (s ∷ ss) = ss

-- what is left after the next statement
abbrev pub after_first : List Left → List Left
after_first [] = []
after_first (l ∷ ls) = resumed (without_first l.rest) l.block l.again ls

abbrev pub chosen : ℕ → List Stmt → List Stmt → List Stmt
chosen zero yes' no' = no'
chosen (suc n) yes' no' = yes'

-- error bodies

-- the error body of this fault is begun: its variables are 0, its `ok` is 1, and it has the fault
abbrev pub serving : Stmt → Fault → List Stmt → Standing → Standing
serving q f body s =
    record s {
      env = error_env f s.env;
      left = entered body 1 [];
      asking = None;
      outer = Some (record { variable = variable q; env = s.env; left = s.left });
    }

-- after an error body that ends in the environment u: the event and the cells come back, the variable of the statement that
-- it has served is 0, and so is `ok`
abbrev pub after_error : Option ℕ → Env → Env → Env
after_error i v u = set_in i 0 (record v { event = u.event; cells = u.cells; ok = 0 })

abbrev pub settled_by : List Left → Option Outer → Standing → Standing
settled_by [] (Some o) s = record s { env = after_error o.variable o.env s.env; left = o.left; outer = None }
settled_by ls o s = s

-- where nothing is left of an error body, the body that it has served goes on
abbrev pub settled : Standing → Standing
settled s = settled_by s.left s.outer s

-- moves

-- whether a statement asks: a cell write does so where there are no cells
abbrev pub does_ask : Stmt → Env → Bool
does_ask (Stmt.Set i e) v = false
does_ask (Stmt.If' t _ b _ b' _) v = false
does_ask (Stmt.Repeat' n _ b) v = false
does_ask (Stmt.CellWrite c e) v = is_none v.cells
does_ask s v = true

-- whether a statement holds blocks
abbrev pub nests : Stmt → Bool
nests (Stmt.If' t _ b _ b' _) = true
nests (Stmt.Repeat' n _ b) = true
nests s = false

-- what a statement does, from where the body stands with that statement done
pub data Does (s : Stmt) (was : Standing) (m : Move) (now : Standing) : Type 0 where
  Sets : (i : ℕ) (e : Expr) → s ≡ stmt.Set i e → m ≡ Move.Silent
      → now ≡ record was { env = with_var i (value e was.env) was.env } → Does s was m now
  Branches : (t : Expr) (yes' no' : List Stmt) (has_else : Bool) → s ≡ stmt.If t yes' no' has_else → m ≡ Move.Silent
      → now ≡ record was { left = entered (chosen (value t was.env) yes' no') 1 was.left } → Does s was m now
  Repeats : (n : ℕ) (block : List Stmt) → s ≡ stmt.Repeat n block → m ≡ Move.Silent
      → now ≡ record was { left = entered block n was.left } → Does s was m now
  Writes : (c e : Expr) (cells : List ℕ) → s ≡ stmt.CellWrite c e → was.env.cells ≡ Some cells → m ≡ Move.Silent
      → now ≡ record was { env = record was.env { cells = Some (slice_set cells (value c was.env % 8) (value e was.env)) } }
      → Does s was m now
  Asks : IsTrue (does_ask s was.env) → m ≡ Move.Ask (ask_of s was.env) → now ≡ record was { asking = Some s } → Does s was m now

-- a step from where the body stands: its end where no statement is left, or what the next statement does
pub data Steps (was : Standing) (m : Move) (now : Standing) : Type 0 where
  Ends : was.asking ≡ None → was.left ≡ [] → m ≡ Move.End → now ≡ was → Steps was m now
  Goes : (s : Stmt) → was.asking ≡ None → first_of was.left ≡ Some s
      → Does s (record was { left = after_first was.left }) m now → Steps was m now

-- a move of a body: an error body of which nothing is left gives way first
abbrev pub Moves : Made → Standing → Move → Standing → Type 0
Moves f was m now = Steps (settled was) m now

-- the ask that is not answered yet
abbrev pub unanswered : Standing → Option Ask
unanswered s = option_map (λ q. ask_of q s.env) s.asking

-- answers

-- the handle of an allocated event goes to the variable; a claimed or dequeued event is also the current one from then on
abbrev pub minted : Stmt → Event → Env → Env
minted (Stmt.Alloc i p a ws) e v = with_var i e.handle.0 v
minted s e v = event_env (variable s) (Some e) v

-- an early end of an atomic context takes the cells away
abbrev pub done : Stmt → Env → Env
done Stmt.EndAtomic v = record v { cells = None }
done s v = v

-- the environment that an answer leaves: where it brings no event, the statement's variable becomes 0
abbrev pub answered : Stmt → Answer → Env → Env
answered s (Answer.Refused f) v = set_in (variable s) 0 (record v { ok = 0 })
answered s (Answer.Minted e) v = record (minted s e v) { ok = 1 }
answered s Answer.Nothing v = record (set_in (variable s) 0 v) { ok = 1 }
answered s Answer.Done v = record (done s v) { ok = 1 }
answered s x v = v

-- a fault runs an error body at once, where there is one, and none inside an error body
abbrev pub refused : Option (List Stmt) → Option Outer → Stmt → Fault → Standing → Standing
refused (Some body) None q f s = serving q f body s
refused error outer q f s = record s { env = answered q (Answer.Refused f) s.env; asking = None }

abbrev pub replied : Stmt → Answer → Standing → Standing
replied q (Answer.Refused f) s = refused s.error s.outer q f s
replied q x s = record s { env = answered q x s.env; asking = None }

abbrev pub left_by : Option Stmt → Answer → Standing → Standing
left_by None x s = record s { asking = None }
left_by (Some q) x s = replied q x s

-- the state that an answer leaves
abbrev pub Leaves : Made → Standing → Answer → Standing → Type 0
Leaves f was x now = now ≡ left_by was.asking x was

-- beginnings

-- the entry that begins a context
abbrev pub entry_of : Context → What
entry_of Context.Boot = What.Enter Body.Boot
entry_of (Context.Receive r) = What.Start r.queue r.event r.stamp
entry_of (Context.GlobalStart op x) = What.Enter (Body.GlobalStart op)
entry_of (Context.LocalStart op x) = What.Enter (Body.LocalStart op)
entry_of (Context.LocalStop op x) = What.Enter (Body.LocalStop op)
entry_of (Context.GlobalStop op x) = What.Enter (Body.GlobalStop op)

-- the object that a context is of
abbrev pub object_of : Context → Option ℕ
object_of Context.Boot = None
object_of (Context.Receive r) = Some r.eo.0
object_of (Context.GlobalStart op x) = Some x.0
object_of (Context.LocalStart op x) = Some x.0
object_of (Context.LocalStop op x) = Some x.0
object_of (Context.GlobalStop op x) = Some x.0

-- that object, as the graph declares it
abbrev pub declared_object : Config → Context → Option EoDecl
declared_object g c = option_and_then (slice_get g.eos) (object_of c)

-- the body of a context: none where the graph does not declare its object
abbrev pub body_of : Config → Context → List Stmt
body_of g c = body_in g (declared_object g c) (Some (entry_of c))

-- the error body that serves a context: that of its object, else the global one
abbrev pub error_body_of : Config → Context → Option (List Stmt)
error_body_of g c = option_or (option_and_then (λ d. d.error) (declared_object g c)) g.error

abbrev pub received : ℕ → Receive → Env
received core r =
    record (plain_env core) {
      event = record { kind = r.event.kind; words = r.event.words };
      me = r.event.handle.0;
      queue = r.queue.0;
      cells = option_map (λ cs. cs.0) r.cells;
    }

-- the environment in which the body of a context begins
abbrev pub opening : ℕ → Context → Env
opening core (Context.Receive r) = received core r
opening core c = plain_env core

abbrev pub begun : Made → Context → Standing
begun f c =
    record {
      env = opening f.core c;
      left = entered (body_of f.graph c) 1 [];
      asking = None;
      error = error_body_of f.graph c;
      outer = None;
    }

abbrev pub Begins : Made → Context → Standing → Type 0
Begins f c s = s ≡ begun f c

-- the cells of the environment
abbrev pub carried : Standing → Option Cells
carried s = option_map (λ cs. record { 0 = cs }) s.env.cells

-- asks

-- whether a statement has no more words and notes than an ask
abbrev pub is_small : Stmt → Bool
is_small (Stmt.Alloc i p e ws) = nat_le (length ws) 16
is_small (Stmt.Apply g e ns) = nat_le (length ns) 8
is_small (Stmt.Start x ns) = nat_le (length ns) 8
is_small (Stmt.Stop x ns) = nat_le (length ns) 8
is_small (Stmt.Modify g e ns) = nat_le (length ns) 8
is_small s = true
