-- A body is followed: what its asks are answered is what the reading of the body makes of it.
use Rattle.std.specs.Prelude.{ℕ, suc, ◌+◌, ◌*◌, ◌≤◌, ◌≡◌, Bool, true, false, List, [], ◌∷◌, ◌++◌, reverse, Option, Some, None, IsTrue, IsSome}
use Rattle.std.specs.Option.{option_map_or}
use Rattle.std.specs.List.{sum_by}
use Rattle.em_log.specs.declared.ask.Answer.{Answer}
use Rattle.em_log.specs.declared.ask.Ask.{Ask}
use Rattle.em_log.specs.declared.ask.Context.{Context}
use Rattle.em_log.specs.declared.body.Stmt.{Stmt}
use Rattle.em_log.specs.declared.declarations.Declarations.{Declarations}
use Rattle.em_log.specs.declared.entry.What.{What}
use Rattle.em_log.specs.declared.fault.Fault.{Fault}
use Rattle.em_log.specs.declared.ids.EoId.{EoId}
use Rattle.em_log.specs.declared.work.Move.{Move}
use Rattle.em_log.specs.Allowance.{cost_of_ask}
use Rattle.em_log.specs.Answers.{answer_of}
use Rattle.em_log.specs.Bodies.{Pair, Reading, Behavior, Handler, ask_of, variable, asks, stays, and_then, turns, with_pairs, follow_all, served, unserved, serves}
use Rattle.em_log.specs.History.{Past}
use Rattle.em_log.specs.Leads.{call_of, lead}
use Rattle.em_log.specs.Weights.{steps_of}
use Rattle.em_log.specs.WellFormed.{IsWellFormed}
use Rattle.em_log.specs.Works.{Exchange, Reached, is_end}
use Rattle.em_body.specs.Standings.{Left, Made, Outer, Standing, Begins, Moves, Leaves, unanswered, body_of, error_body_of, opening, settled, first_of, does_ask}

-- entries that answers are read from

-- whether an entry is of the kind that the ask gives where it is not refused
abbrev pub is_own : Ask → What → Bool
is_own (Ask.Alloc p kind words) (What.Alloc q e) = true
is_own (Ask.Free w) (What.Free h) = true
is_own (Ask.Send w q g) (What.Send h r t s) = true
is_own (Ask.Keep w) (What.Keep h) = true
is_own Ask.Claim (What.Claim e) = true
is_own (Ask.Dequeue q) (What.Dequeue r e) = true
is_own (Ask.Say v) (What.Say w) = true
is_own (Ask.Enable q) (What.Enable r) = true
is_own (Ask.Disable q) (What.Disable r) = true
is_own (Ask.EndAtomic cells) (What.EndAtomic rest kept) = true
is_own Ask.EndOrdered What.EndOrdered = true
is_own Ask.EndGroup What.EndGroup = true
is_own (Ask.Apply g n notes) (What.Apply h a m handed) = true
is_own (Ask.Increment n) (What.Increment g m) = true
is_own (Ask.Abort g) (What.Abort h) = true
is_own (Ask.Start x notes) (What.Begin op job handed) = true
is_own (Ask.Stop x notes) (What.Begin op job handed) = true
is_own (Ask.Modify g m notes) (What.Begin op job handed) = true
is_own a w = false

-- an entry that the ask may give, of which this is the answer: a fault of its call, or one of its own kind
pub data Reads (a : Ask) (x : Answer) (w : What) : Type 0 where
  Refused : (f : Fault) (scope : Option EoId) → w ≡ What.Fault (call_of a) f scope → x ≡ Answer.Refused f → Reads a x w
  Accepted : IsTrue (is_own a w) → x ≡ answer_of w → Reads a x w

-- each answer is read from the entry in its place
abbrev pub AreRead : List Exchange → List What → Type 0
AreRead [] [] = Unit {0}
AreRead (x ∷ xs) (w ∷ ws) = Reads x.ask x.answer w × AreRead xs ws
AreRead [] (w ∷ ws) = ⊥
AreRead (x ∷ xs) [] = ⊥

-- each ask with the entry in its place
abbrev pub pairs_of : List Exchange → List What → List Pair
pairs_of (x ∷ xs) (w ∷ ws) = record { ask = x.ask; what = w } ∷ pairs_of xs ws
pairs_of _ _ = []

-- the reading of what is left of a body

-- a block goes on with its statements that are left, and then comes again
abbrev pub follow_block : Handler → Left → Behavior
follow_block h l v ws = and_then (follow_all h l.rest v ws) (turns l.again (follow_all h l.block))

abbrev pub follow_left : Handler → List Left → Behavior
follow_left h [] v ws = stays v ws
follow_left h (l ∷ ls) v ws = and_then (follow_block h l v ws) (follow_left h ls)

abbrev pub follow_asking : Handler → Option Stmt → List Left → Behavior
follow_asking h None ls v ws = follow_left h ls v ws
follow_asking h (Some s) ls v ws = and_then (asks h (ask_of s v) (variable s) v ws) (follow_left h ls)

-- what is left of an error body comes first, where one runs: a fault inside it runs none
abbrev pub going : Option Outer → Standing → List What → Reading
going None s ws = follow_asking (serves s.error) s.asking s.left s.env ws
going (Some o) s ws =
    and_then (served o.variable o.env (follow_asking unserved s.asking s.left s.env ws)) (follow_left (serves s.error) o.left)

-- how a body goes on from where it stands
abbrev pub ahead : Standing → List What → Reading
ahead s ws = going s.outer s ws

-- a state that a context reaches by these exchanges, the newest first
abbrev pub IsReached : Made → Context → List Exchange → Standing → Type 0
IsReached f c es s = Reached Begins Moves Leaves unanswered f c es s

-- the context's body, whose faults are served by the error body of its object, else by the global one
abbrev pub whole : Made → Context → List What → Reading
whole f c ws = follow_all (serves (error_body_of f.graph c)) (body_of f.graph c) (opening f.core c) ws

-- the reading of the context's body along entries of which the newest comes first
abbrev pub reading : Made → Context → List What → Reading
reading f c ws = whole f c (reverse ws)

-- the body of a context has been followed by these exchanges, read from these entries, to this state; both lists have the
-- newest first
pub record IsFollowed (f : Made) (c : Context) (es : List Exchange) (ws : List What) (s : Standing) : Type 0 where
  -- whatever comes further, the body goes on with it from this state
  pub further : (more : List What) → whole f c (reverse ws ++ more) ≡ with_pairs (reverse (pairs_of es ws)) (ahead s more)
  -- the pairs are just these asks with their entries, and no entry is left
  pub pairs : (reading f c ws).pairs ≡ reverse (pairs_of es ws)
  pub rest : (reading f c ws).rest ≡ []
  -- it is cut at an ask that is not answered yet
  pub cut : IsSome s.asking → (reading f c ws).env ≡ None
  -- where nothing is left it has ended in this environment
  pub over : s.asking ≡ None → (settled s).left ≡ [] → (reading f c ws).env ≡ Some (settled s).env

-- a body is followed
abbrev pub BodiesAreFollowed : Type 0
BodiesAreFollowed = (f : Made) (c : Context) (es : List Exchange) (s : Standing) → IsReached f c es s
    → (ws : List What) → AreRead es ws → IsFollowed f c es ws s

-- a body ends exactly where nothing is left of it
abbrev pub EndsWhereNothingIsLeft : Type 0
EndsWhereNothingIsLeft = (f : Made) (s : Standing) (m : Move) (t : Standing) → Moves f s m t
    → ((m ≡ Move.End) → ((settled s).left ≡ []) × (t ≡ settled s)) × (((settled s).left ≡ []) → m ≡ Move.End)

-- how much a context does

-- the statements that have been carried out
abbrev pub carried_out : {f : Made} {c : Context} {es : List Exchange} {s : Standing} → IsReached f c es s → ℕ
carried_out (Reached.Begun es now none begins) = 0
carried_out (Reached.Silent es was now before moves) = suc (carried_out before)
carried_out (Reached.Asked es was now a before moves) = suc (carried_out before)
carried_out (Reached.Answered es past was now a x before asked fits leaves is) = carried_out before

-- the cost of the asks, that of the unanswered one among them
abbrev pub cost_of_all : List Exchange → Standing → ℕ
cost_of_all es s = sum_by (λ x. cost_of_ask x.ask) es + option_map_or cost_of_ask (unanswered s) 0

-- in a context of a well-formed graph the costs of the asks add up to at most 256, and at most 65,536 statements are
-- carried out
abbrev pub ContextsAreBounded : Type 0
ContextsAreBounded = (f : Made) → IsWellFormed f.graph → (c : Context) (es : List Exchange) (s : Standing) (r : IsReached f c es s)
    → (cost_of_all es s ≤ 256) × (carried_out r ≤ 65536)

-- the steps of what is left of a body's blocks, where faults are served by a body of so many steps
abbrev pub steps_in : ℕ → List Left → ℕ
steps_in error ls = sum_by (λ l. steps_of error l.rest + l.again * steps_of error l.block) ls

-- the steps of the error body that serves a body
abbrev pub steps_of_error : Option (List Stmt) → ℕ
steps_of_error error = option_map_or (steps_of 0) error 0

-- an unanswered ask may be refused, and run the error body; inside an error body none runs
abbrev pub steps_ahead : Option Outer → Standing → ℕ
steps_ahead None s = option_map_or (λ q. steps_of_error s.error) s.asking 0 + steps_in (steps_of_error s.error) s.left
steps_ahead (Some o) s = steps_in 0 s.left + steps_in (steps_of_error s.error) o.left

-- the steps that are left
abbrev pub steps_left : Standing → ℕ
steps_left s = steps_ahead s.outer s

-- in a context of a well-formed graph at most 65,536 steps are left
abbrev pub StepsAreBounded : Type 0
StepsAreBounded = (f : Made) → IsWellFormed f.graph → (c : Context) (es : List Exchange) (s : Standing) → IsReached f c es s
    → steps_left s ≤ 65536

-- each move but the end leaves fewer steps
abbrev pub StepsFall : Type 0
StepsFall = (f : Made) (s : Standing) (m : Move) (t : Standing) → Moves f s m t → ((m ≡ Move.End) → ⊥)
    → suc (steps_left t) ≤ steps_left s

-- a silent move carries out one statement, which asks nothing
abbrev pub SilentWhereNothingIsAsked : Type 0
SilentWhereNothingIsAsked = (f : Made) (s t : Standing) → Moves f s Move.Silent t
    → (q : Stmt) × ((first_of (settled s).left ≡ Some q) × (does_ask q (settled s).env ≡ false))

-- the entry that an ask gives in a history is one that its answer is read from
abbrev pub LeadsAreRead : Type 0
LeadsAreRead = (k : Declarations) (past : Past) (core : ℕ) (a : Ask) → is_end a ≡ false
    → Reads a (answer_of (lead k past core a)) (lead k past core a)
