-- The forms of the lines in a body.
use Rattle.std.specs.Prelude.{ℕ, Bool, List, [], ◌∷◌, Option, None, if◌then◌else◌, codes}
use Rattle.em_log.specs.declared.body.Expr.{Expr}
use Rattle.em_log.specs.declared.body.Stmt.{Stmt}
use Rattle.em_log.specs.declared.body.Stmt.TheVariants as stmt
use Rattle.em_log.specs.declared.ids.PoolId.{PoolId}
use Rattle.em_log.specs.declared.ids.GroupId.{GroupId}
use Rattle.em_log.specs.declared.ids.EoId.{EoId}
use Rattle.em_log.specs.declared.ids.QueueId.{QueueId}
use Rattle.em_log.specs.declared.ids.EventGroupId.{EventGroupId}
use Rattle.em_script.specs.declared.line.Line.{Line}
use Rattle.em_script.specs.declared.line.Line.TheVariants as lines
use Rattle.em_script.specs.declared.words.BodyWord.{BodyWord}
use Rattle.em_script.specs.declared.words.BodyWord.TheVariants as body
use Rattle.em_script.specs.Lines.{Rest}
use Rattle.em_script.specs.Names.{Naming}
use Rattle.em_script.specs.Form.{◌>>=◌, Form, given, ◌▷◌, after, ended, several, limited, number, variable, pool_name, group_name, eo_name, queue_name, egroup_name}
use Rattle.em_script.specs.Expressions.{expression}
use Rattle.em_script.specs.Words.{body_word}

abbrev pub note : Naming → Form (Expr × QueueId)
note names = after (codes "note") (expression ▷ queue_name names)

-- at most eight notes, to the end of the line
abbrev pub notes : Naming → Form (List (Expr × QueueId))
notes names = limited 8 (several (note names))

-- what stands behind the first word

abbrev pub value_form : Form (Expr × Unit {0})
value_form = expression ▷ ended

abbrev pub set_form : Form (ℕ × (Expr × Unit {0}))
set_form = variable ▷ expression ▷ ended

abbrev pub repeat_form : Form (ℕ × Unit {0})
repeat_form = number 1 256 ▷ ended

abbrev pub cell_form : Form (Expr × (Expr × Unit {0}))
cell_form = expression ▷ expression ▷ ended

-- the kind and at most 16 words, to the end of the line
abbrev pub alloc_form : Naming → Form (ℕ × (PoolId × (Expr × List Expr)))
alloc_form names = variable ▷ pool_name names ▷ expression ▷ limited 16 (several expression)

abbrev pub send_form : Naming → Form (Expr × (QueueId × Unit {0}))
send_form names = expression ▷ queue_name names ▷ ended

abbrev pub sendg_form : Naming → Form (Expr × (QueueId × (EventGroupId × Unit {0})))
sendg_form names = expression ▷ queue_name names ▷ egroup_name names ▷ ended

abbrev pub claim_form : Form (ℕ × Unit {0})
claim_form = variable ▷ ended

abbrev pub dequeue_form : Naming → Form (ℕ × (QueueId × Unit {0}))
dequeue_form names = variable ▷ queue_name names ▷ ended

abbrev pub queue_form : Naming → Form (QueueId × Unit {0})
queue_form names = queue_name names ▷ ended

abbrev pub apply_form : Naming → Form (EventGroupId × (Expr × List (Expr × QueueId)))
apply_form names = egroup_name names ▷ expression ▷ notes names

abbrev pub abort_form : Naming → Form (EventGroupId × Unit {0})
abort_form names = egroup_name names ▷ ended

abbrev pub start_form : Naming → Form (EoId × List (Expr × QueueId))
start_form names = eo_name names ▷ notes names

abbrev pub modify_form : Naming → Form (GroupId × (Expr × List (Expr × QueueId)))
modify_form names = group_name names ▷ expression ▷ notes names

-- the tokens of a statement that is no block
abbrev pub statement_tokens : Naming → Stmt → List (List ℕ)
statement_tokens names (Stmt.Set v e) = codes "set" ∷ set_form.write (v, (e, tt))
statement_tokens names (Stmt.CellWrite c e) = codes "cell" ∷ cell_form.write (c, (e, tt))
statement_tokens names (Stmt.Say e) = codes "say" ∷ value_form.write (e, tt)
statement_tokens names (Stmt.Alloc v p e es) = codes "alloc" ∷ (alloc_form names).write (v, (p, (e, es)))
statement_tokens names (Stmt.Free e) = codes "free" ∷ value_form.write (e, tt)
statement_tokens names (Stmt.Keep e) = codes "keep" ∷ value_form.write (e, tt)
statement_tokens names (Stmt.Send e q) = codes "send" ∷ (send_form names).write (e, (q, tt))
statement_tokens names (Stmt.SendG e q n) = codes "sendg" ∷ (sendg_form names).write (e, (q, (n, tt)))
statement_tokens names (Stmt.Claim v) = codes "claim" ∷ claim_form.write (v, tt)
statement_tokens names (Stmt.Dequeue v q) = codes "dequeue" ∷ (dequeue_form names).write (v, (q, tt))
statement_tokens names (Stmt.Enable q) = codes "enable" ∷ (queue_form names).write (q, tt)
statement_tokens names (Stmt.Disable q) = codes "disable" ∷ (queue_form names).write (q, tt)
statement_tokens names Stmt.EndAtomic = codes "endatomic" ∷ []
statement_tokens names Stmt.EndOrdered = codes "endordered" ∷ []
statement_tokens names Stmt.EndGroup = codes "endgroup" ∷ []
statement_tokens names (Stmt.Apply n e ns) = codes "apply" ∷ (apply_form names).write (n, (e, ns))
statement_tokens names (Stmt.Increment e) = codes "increment" ∷ value_form.write (e, tt)
statement_tokens names (Stmt.Abort n) = codes "abort" ∷ (abort_form names).write (n, tt)
statement_tokens names (Stmt.Start x ns) = codes "start" ∷ (start_form names).write (x, ns)
statement_tokens names (Stmt.Stop x ns) = codes "stop" ∷ (start_form names).write (x, ns)
statement_tokens names (Stmt.Modify n e ns) = codes "modify" ∷ (modify_form names).write (n, (e, ns))
statement_tokens names Stmt.Fail = codes "fail" ∷ []
statement_tokens names s = []

-- an `else` may stand where the innermost block is an `if` without one
abbrev pub else_behind : Bool → Rest → Option (Line × Rest)
else_behind may_stand rest = if may_stand then given (λ _. lines.Else) (ended.read rest) else None

-- what a line in a body says behind its first word; whether an `else` may stand there
unfoldable pub body_line_behind : Naming → Bool → BodyWord → Rest → Option (Line × Rest)
body_line_behind names may_else body.Set rest = given (λ p. lines.Statement (stmt.Set p.0 p.1.0)) (set_form.read rest)
body_line_behind names may_else body.If rest = given (λ p. lines.If p.0) (value_form.read rest)
body_line_behind names may_else body.Else rest = else_behind may_else rest
body_line_behind names may_else body.End rest = given (λ _. lines.End) (ended.read rest)
body_line_behind names may_else body.Repeat rest = given (λ p. lines.Repeat p.0) (repeat_form.read rest)
body_line_behind names may_else body.Cell rest = given (λ p. lines.Statement (stmt.CellWrite p.0 p.1.0)) (cell_form.read rest)
body_line_behind names may_else body.Say rest = given (λ p. lines.Statement (stmt.Say p.0)) (value_form.read rest)
body_line_behind names may_else body.Alloc rest =
    given (λ p. lines.Statement (stmt.Alloc p.0 p.1.0 p.1.1.0 p.1.1.1)) ((alloc_form names).read rest)
body_line_behind names may_else body.Free rest = given (λ p. lines.Statement (stmt.Free p.0)) (value_form.read rest)
body_line_behind names may_else body.Keep rest = given (λ p. lines.Statement (stmt.Keep p.0)) (value_form.read rest)
body_line_behind names may_else body.Send rest = given (λ p. lines.Statement (stmt.Send p.0 p.1.0)) ((send_form names).read rest)
body_line_behind names may_else body.SendG rest =
    given (λ p. lines.Statement (stmt.SendG p.0 p.1.0 p.1.1.0)) ((sendg_form names).read rest)
body_line_behind names may_else body.Claim rest = given (λ p. lines.Statement (stmt.Claim p.0)) (claim_form.read rest)
body_line_behind names may_else body.Dequeue rest =
    given (λ p. lines.Statement (stmt.Dequeue p.0 p.1.0)) ((dequeue_form names).read rest)
body_line_behind names may_else body.Enable rest = given (λ p. lines.Statement (stmt.Enable p.0)) ((queue_form names).read rest)
body_line_behind names may_else body.Disable rest = given (λ p. lines.Statement (stmt.Disable p.0)) ((queue_form names).read rest)
body_line_behind names may_else body.EndAtomic rest = given (λ _. lines.Statement stmt.EndAtomic) (ended.read rest)
body_line_behind names may_else body.EndOrdered rest = given (λ _. lines.Statement stmt.EndOrdered) (ended.read rest)
body_line_behind names may_else body.EndGroup rest = given (λ _. lines.Statement stmt.EndGroup) (ended.read rest)
body_line_behind names may_else body.Apply rest =
    given (λ p. lines.Statement (stmt.Apply p.0 p.1.0 p.1.1)) ((apply_form names).read rest)
body_line_behind names may_else body.Increment rest = given (λ p. lines.Statement (stmt.Increment p.0)) (value_form.read rest)
body_line_behind names may_else body.Abort rest = given (λ p. lines.Statement (stmt.Abort p.0)) ((abort_form names).read rest)
body_line_behind names may_else body.Start rest = given (λ p. lines.Statement (stmt.Start p.0 p.1)) ((start_form names).read rest)
body_line_behind names may_else body.Stop rest = given (λ p. lines.Statement (stmt.Stop p.0 p.1)) ((start_form names).read rest)
body_line_behind names may_else body.Modify rest =
    given (λ p. lines.Statement (stmt.Modify p.0 p.1.0 p.1.1)) ((modify_form names).read rest)
body_line_behind names may_else body.Fail rest = given (λ _. lines.Statement stmt.Fail) (ended.read rest)

unfoldable pub read_body_line : Naming → Bool → Rest → Option (Line × Rest)
read_body_line names may_else rest = do
  w ← body_word.read rest
  body_line_behind names may_else w.0 w.1
