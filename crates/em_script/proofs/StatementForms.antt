-- The laws of the lines of a body.
use Rattle.std.proofs.Common.{◌≡◌, ℕ, ◌≤◌, Bool, true, List, [], ◌∷◌, ◌++◌, length, Some, refl, sym, ap, subst, ◌∙◌, arith, append-nil}
use Rattle.std.specs.List.{AllByRecursion}
use Rattle.std.specs.Prelude.{codes}
use Rattle.em_log.specs.declared.body.Expr.{Expr}
use Rattle.em_log.specs.declared.body.Stmt.{Stmt}
use Rattle.em_log.specs.declared.body.Stmt.TheVariants as stmt
use Rattle.em_log.specs.declared.ids.QueueId.{QueueId}
use Rattle.em_script.specs.declared.line.Line.{Line}
use Rattle.em_script.specs.declared.line.Line.TheVariants as lines
use Rattle.em_script.specs.declared.words.BodyWord.{BodyWord}
use Rattle.em_script.specs.declared.words.BodyWord.TheVariants as body
use Rattle.em_script.specs.declared.named.Named.TheVariants as named
use Rattle.em_script.specs.Lines.{Rest}
use Rattle.em_script.specs.Names.{Naming}
use Rattle.em_script.specs.Words.{body_text, body_word}
use Rattle.em_script.specs.Form.{◌>>=◌, Form, given, ◌▷◌, ended, several, limited, queue_name}
use Rattle.em_script.specs.Expressions.{expression}
use Rattle.em_script.specs.Spelling.{line_tokens}
use Rattle.em_script.specs.Statements.{note, notes, value_form, set_form, repeat_form, cell_form, alloc_form, send_form, sendg_form, claim_form, dequeue_form, queue_form, apply_form, abort_form, start_form, modify_form, else_behind, body_line_behind, read_body_line}
use Rattle.em_script.proofs.Binds.{bind-some, test-some, given-some}
use Rattle.em_script.proofs.Forms.{IsPlain, well_rest, IsForm, Any, Nothing, then-form, after-form, ended-form}
use Rattle.em_script.proofs.NumberForms.{number-form, variable-form}
use Rattle.em_script.proofs.WordForms.{plain-word, body_word-form}
use Rattle.em_script.proofs.NameForms.{IsKnown, IsNaming, pool_name-form, group_name-form, eo_name-form, queue_name-form, egroup_name-form}
use Rattle.em_script.proofs.ExpressionForm.{ExprFits, expression-form}
use Rattle.em_script.proofs.RepeatForms.{several-form, limited-form}
use Rattle.em_script.proofs.Symbols.{expression-takes}
use Rattle.em_script.proofs.NoteTokens.{note-takes}

-- ---- the forms behind the first words

then-law : {A B : Type 0} {f : Form A} {g : Form B} {F : A → Type 0} {G : B → Type 0} {E : List (List ℕ) → Type 0} → IsForm f F Any → IsForm g G E → IsForm (f ▷ g) (λ p. F p.0 × G p.1) E
then-law {f = f} {g = g} {F = F} {G = G} {E = E} a b = then-form f g F G E a b

abbrev pub NoteFits : Naming → (Expr × QueueId) → Type 0
NoteFits names p = ExprFits p.0 × IsKnown names (named.Queue p.1)

abbrev pub NotesFit : Naming → List (Expr × QueueId) → Type 0
NotesFit names ns = (length ns ≤ 8) × AllByRecursion (NoteFits names) ns

abbrev pub WordsFit : List Expr → Type 0
WordsFit es = (length es ≤ 16) × AllByRecursion ExprFits es

note-law : (names : Naming) → IsNaming names → IsForm (note names) (NoteFits names) Any
note-law names is = after-form (codes "note") (expression ▷ queue_name names) (NoteFits names) Any (plain-word (codes "note") refl refl) (then-law expression-form (queue_name-form names is))

notes-law : (names : Naming) → IsNaming names → IsForm (notes names) (NotesFit names) Nothing
notes-law names is = limited-form 8 (several (note names)) (AllByRecursion (NoteFits names)) Nothing (several-form (note names) (NoteFits names) (note-law names is) (note-takes names))

words-law : IsForm (limited 16 (several expression)) WordsFit Nothing
words-law = limited-form 16 (several expression) (AllByRecursion ExprFits) Nothing (several-form expression ExprFits expression-form expression-takes)

value-law : IsForm value_form (λ p. ExprFits p.0 × Unit {0}) Nothing
value-law = then-law expression-form ended-form

set-law : IsForm set_form (λ p. (p.0 ≤ 15) × (ExprFits p.1.0 × Unit {0})) Nothing
set-law = then-law variable-form value-law

repeat-law : IsForm repeat_form (λ p. ((1 ≤ p.0) × (p.0 ≤ 256)) × Unit {0}) Nothing
repeat-law = then-law (number-form 1 256 (omega arith)) ended-form

cell-law : IsForm cell_form (λ p. ExprFits p.0 × (ExprFits p.1.0 × Unit {0})) Nothing
cell-law = then-law expression-form value-law

alloc-law : (names : Naming) → IsNaming names → IsForm (alloc_form names) (λ p. (p.0 ≤ 15) × (IsKnown names (named.Pool p.1.0) × (ExprFits p.1.1.0 × WordsFit p.1.1.1))) Nothing
alloc-law names is = then-law variable-form (then-law (pool_name-form names is) (then-law expression-form words-law))

queue-law : (names : Naming) → IsNaming names → IsForm (queue_form names) (λ p. IsKnown names (named.Queue p.0) × Unit {0}) Nothing
queue-law names is = then-law (queue_name-form names is) ended-form

send-law : (names : Naming) → IsNaming names → IsForm (send_form names) (λ p. ExprFits p.0 × (IsKnown names (named.Queue p.1.0) × Unit {0})) Nothing
send-law names is = then-law expression-form (queue-law names is)

abort-law : (names : Naming) → IsNaming names → IsForm (abort_form names) (λ p. IsKnown names (named.Egroup p.0) × Unit {0}) Nothing
abort-law names is = then-law (egroup_name-form names is) ended-form

sendg-law : (names : Naming) → IsNaming names → IsForm (sendg_form names) (λ p. ExprFits p.0 × (IsKnown names (named.Queue p.1.0) × (IsKnown names (named.Egroup p.1.1.0) × Unit {0}))) Nothing
sendg-law names is = then-law expression-form (then-law (queue_name-form names is) (abort-law names is))

claim-law : IsForm claim_form (λ p. (p.0 ≤ 15) × Unit {0}) Nothing
claim-law = then-law variable-form ended-form

dequeue-law : (names : Naming) → IsNaming names → IsForm (dequeue_form names) (λ p. (p.0 ≤ 15) × (IsKnown names (named.Queue p.1.0) × Unit {0})) Nothing
dequeue-law names is = then-law variable-form (queue-law names is)

apply-law : (names : Naming) → IsNaming names → IsForm (apply_form names) (λ p. IsKnown names (named.Egroup p.0) × (ExprFits p.1.0 × NotesFit names p.1.1)) Nothing
apply-law names is = then-law (egroup_name-form names is) (then-law expression-form (notes-law names is))

start-law : (names : Naming) → IsNaming names → IsForm (start_form names) (λ p. IsKnown names (named.Eo p.0) × NotesFit names p.1) Nothing
start-law names is = then-law (eo_name-form names is) (notes-law names is)

modify-law : (names : Naming) → IsNaming names → IsForm (modify_form names) (λ p. IsKnown names (named.Group p.0) × (ExprFits p.1.0 × NotesFit names p.1.1)) Nothing
modify-law names is = then-law (group_name-form names is) (then-law expression-form (notes-law names is))

-- ---- which lines there are

-- a statement that is no block, with names that are known, and each number in its range
abbrev pub StmtFits : Naming → Stmt → Type 0
StmtFits names (Stmt.Set v e) = (v ≤ 15) × (ExprFits e × Unit {0})
StmtFits names (Stmt.CellWrite c e) = ExprFits c × (ExprFits e × Unit {0})
StmtFits names (Stmt.Say e) = ExprFits e × Unit {0}
StmtFits names (Stmt.Alloc v p e es) = (v ≤ 15) × (IsKnown names (named.Pool p) × (ExprFits e × WordsFit es))
StmtFits names (Stmt.Free e) = ExprFits e × Unit {0}
StmtFits names (Stmt.Keep e) = ExprFits e × Unit {0}
StmtFits names (Stmt.Send e q) = ExprFits e × (IsKnown names (named.Queue q) × Unit {0})
StmtFits names (Stmt.SendG e q n) = ExprFits e × (IsKnown names (named.Queue q) × (IsKnown names (named.Egroup n) × Unit {0}))
StmtFits names (Stmt.Claim v) = (v ≤ 15) × Unit {0}
StmtFits names (Stmt.Dequeue v q) = (v ≤ 15) × (IsKnown names (named.Queue q) × Unit {0})
StmtFits names (Stmt.Enable q) = IsKnown names (named.Queue q) × Unit {0}
StmtFits names (Stmt.Disable q) = IsKnown names (named.Queue q) × Unit {0}
StmtFits names Stmt.EndAtomic = Unit {0}
StmtFits names Stmt.EndOrdered = Unit {0}
StmtFits names Stmt.EndGroup = Unit {0}
StmtFits names (Stmt.Apply n e ns) = IsKnown names (named.Egroup n) × (ExprFits e × NotesFit names ns)
StmtFits names (Stmt.Increment e) = ExprFits e × Unit {0}
StmtFits names (Stmt.Abort n) = IsKnown names (named.Egroup n) × Unit {0}
StmtFits names (Stmt.Start x ns) = IsKnown names (named.Eo x) × NotesFit names ns
StmtFits names (Stmt.Stop x ns) = IsKnown names (named.Eo x) × NotesFit names ns
StmtFits names (Stmt.Modify n e ns) = IsKnown names (named.Group n) × (ExprFits e × NotesFit names ns)
StmtFits names Stmt.Fail = Unit {0}
StmtFits names _ = ⊥

-- a line of a body; whether an `else` may stand there
abbrev pub BodyLineFits : Naming → Bool → Line → Type 0
BodyLineFits names may_else (lines.Statement x) = StmtFits names x
BodyLineFits names may_else (lines.If e) = ExprFits e × Unit {0}
BodyLineFits names may_else (lines.Repeat n) = ((1 ≤ n) × (n ≤ 256)) × Unit {0}
BodyLineFits names may_else lines.End = Unit {0}
BodyLineFits names may_else lines.Else = may_else ≡ true
BodyLineFits names may_else _ = ⊥

-- ---- what is written is read again

begins : (names : Naming) (m : Bool) (w : BodyWord) (ts : List (List ℕ)) → read_body_line names m (well_rest (body_text w ∷ ts)) ≡ body_line_behind names m w (well_rest ts)
unfolding read_body_line
begins names m w ts = ap (λ o. o >>= λ w. body_line_behind names m w.0 w.1) (body_word-form.again w tt ts tt)

line-again : {P : Type 0} {F : P → Type 0} (names : Naming) (m : Bool) (w : BodyWord) (f : Form P) (law : IsForm f F Nothing) (to : P → Line) → ((r : Rest) → body_line_behind names m w r ≡ given to (f.read r)) → (p : P) → F p → read_body_line names m (well_rest (body_text w ∷ f.write p)) ≡ Some (to p, well_rest [])
line-again names m w f law to behind p fits =
    let whole : f.read (well_rest (f.write p)) ≡ Some (p, well_rest []) = ap (λ ts. f.read (well_rest ts)) (sym (append-nil (f.write p))) ∙ law.again p fits [] refl in
    begins names m w (f.write p) ∙ behind (well_rest (f.write p)) ∙ ap (given to) whole

behind-Set : (names : Naming) (m : Bool) (r : Rest) → body_line_behind names m body.Set r ≡ given (λ p. lines.Statement (stmt.Set p.0 p.1.0)) (set_form.read r)
unfolding body_line_behind
behind-Set names m r = refl

behind-Cell : (names : Naming) (m : Bool) (r : Rest) → body_line_behind names m body.Cell r ≡ given (λ p. lines.Statement (stmt.CellWrite p.0 p.1.0)) (cell_form.read r)
unfolding body_line_behind
behind-Cell names m r = refl

behind-Say : (names : Naming) (m : Bool) (r : Rest) → body_line_behind names m body.Say r ≡ given (λ p. lines.Statement (stmt.Say p.0)) (value_form.read r)
unfolding body_line_behind
behind-Say names m r = refl

behind-Alloc : (names : Naming) (m : Bool) (r : Rest) → body_line_behind names m body.Alloc r ≡ given (λ p. lines.Statement (stmt.Alloc p.0 p.1.0 p.1.1.0 p.1.1.1)) ((alloc_form names).read r)
unfolding body_line_behind
behind-Alloc names m r = refl

behind-Free : (names : Naming) (m : Bool) (r : Rest) → body_line_behind names m body.Free r ≡ given (λ p. lines.Statement (stmt.Free p.0)) (value_form.read r)
unfolding body_line_behind
behind-Free names m r = refl

behind-Keep : (names : Naming) (m : Bool) (r : Rest) → body_line_behind names m body.Keep r ≡ given (λ p. lines.Statement (stmt.Keep p.0)) (value_form.read r)
unfolding body_line_behind
behind-Keep names m r = refl

behind-Send : (names : Naming) (m : Bool) (r : Rest) → body_line_behind names m body.Send r ≡ given (λ p. lines.Statement (stmt.Send p.0 p.1.0)) ((send_form names).read r)
unfolding body_line_behind
behind-Send names m r = refl

behind-SendG : (names : Naming) (m : Bool) (r : Rest) → body_line_behind names m body.SendG r ≡ given (λ p. lines.Statement (stmt.SendG p.0 p.1.0 p.1.1.0)) ((sendg_form names).read r)
unfolding body_line_behind
behind-SendG names m r = refl

behind-Claim : (names : Naming) (m : Bool) (r : Rest) → body_line_behind names m body.Claim r ≡ given (λ p. lines.Statement (stmt.Claim p.0)) (claim_form.read r)
unfolding body_line_behind
behind-Claim names m r = refl

behind-Dequeue : (names : Naming) (m : Bool) (r : Rest) → body_line_behind names m body.Dequeue r ≡ given (λ p. lines.Statement (stmt.Dequeue p.0 p.1.0)) ((dequeue_form names).read r)
unfolding body_line_behind
behind-Dequeue names m r = refl

behind-Enable : (names : Naming) (m : Bool) (r : Rest) → body_line_behind names m body.Enable r ≡ given (λ p. lines.Statement (stmt.Enable p.0)) ((queue_form names).read r)
unfolding body_line_behind
behind-Enable names m r = refl

behind-Disable : (names : Naming) (m : Bool) (r : Rest) → body_line_behind names m body.Disable r ≡ given (λ p. lines.Statement (stmt.Disable p.0)) ((queue_form names).read r)
unfolding body_line_behind
behind-Disable names m r = refl

behind-EndAtomic : (names : Naming) (m : Bool) (r : Rest) → body_line_behind names m body.EndAtomic r ≡ given (λ _. lines.Statement stmt.EndAtomic) (ended.read r)
unfolding body_line_behind
behind-EndAtomic names m r = refl

behind-EndOrdered : (names : Naming) (m : Bool) (r : Rest) → body_line_behind names m body.EndOrdered r ≡ given (λ _. lines.Statement stmt.EndOrdered) (ended.read r)
unfolding body_line_behind
behind-EndOrdered names m r = refl

behind-EndGroup : (names : Naming) (m : Bool) (r : Rest) → body_line_behind names m body.EndGroup r ≡ given (λ _. lines.Statement stmt.EndGroup) (ended.read r)
unfolding body_line_behind
behind-EndGroup names m r = refl

behind-Apply : (names : Naming) (m : Bool) (r : Rest) → body_line_behind names m body.Apply r ≡ given (λ p. lines.Statement (stmt.Apply p.0 p.1.0 p.1.1)) ((apply_form names).read r)
unfolding body_line_behind
behind-Apply names m r = refl

behind-Increment : (names : Naming) (m : Bool) (r : Rest) → body_line_behind names m body.Increment r ≡ given (λ p. lines.Statement (stmt.Increment p.0)) (value_form.read r)
unfolding body_line_behind
behind-Increment names m r = refl

behind-Abort : (names : Naming) (m : Bool) (r : Rest) → body_line_behind names m body.Abort r ≡ given (λ p. lines.Statement (stmt.Abort p.0)) ((abort_form names).read r)
unfolding body_line_behind
behind-Abort names m r = refl

behind-Start : (names : Naming) (m : Bool) (r : Rest) → body_line_behind names m body.Start r ≡ given (λ p. lines.Statement (stmt.Start p.0 p.1)) ((start_form names).read r)
unfolding body_line_behind
behind-Start names m r = refl

behind-Stop : (names : Naming) (m : Bool) (r : Rest) → body_line_behind names m body.Stop r ≡ given (λ p. lines.Statement (stmt.Stop p.0 p.1)) ((start_form names).read r)
unfolding body_line_behind
behind-Stop names m r = refl

behind-Modify : (names : Naming) (m : Bool) (r : Rest) → body_line_behind names m body.Modify r ≡ given (λ p. lines.Statement (stmt.Modify p.0 p.1.0 p.1.1)) ((modify_form names).read r)
unfolding body_line_behind
behind-Modify names m r = refl

behind-Fail : (names : Naming) (m : Bool) (r : Rest) → body_line_behind names m body.Fail r ≡ given (λ _. lines.Statement stmt.Fail) (ended.read r)
unfolding body_line_behind
behind-Fail names m r = refl

behind-If : (names : Naming) (m : Bool) (r : Rest) → body_line_behind names m body.If r ≡ given (λ p. lines.If p.0) (value_form.read r)
unfolding body_line_behind
behind-If names m r = refl

behind-Repeat : (names : Naming) (m : Bool) (r : Rest) → body_line_behind names m body.Repeat r ≡ given (λ p. lines.Repeat p.0) (repeat_form.read r)
unfolding body_line_behind
behind-Repeat names m r = refl

behind-End : (names : Naming) (m : Bool) (r : Rest) → body_line_behind names m body.End r ≡ given (λ _. lines.End) (ended.read r)
unfolding body_line_behind
behind-End names m r = refl

statement-again : (names : Naming) → IsNaming names → (m : Bool) (x : Stmt) → StmtFits names x → read_body_line names m (well_rest (line_tokens names (lines.Statement x))) ≡ Some (lines.Statement x, well_rest [])
statement-again names is m (Stmt.Set v e) fits = line-again names m body.Set set_form set-law (λ p. lines.Statement (stmt.Set p.0 p.1.0)) (behind-Set names m) (v, (e, tt)) fits
statement-again names is m (Stmt.CellWrite c e) fits = line-again names m body.Cell cell_form cell-law (λ p. lines.Statement (stmt.CellWrite p.0 p.1.0)) (behind-Cell names m) (c, (e, tt)) fits
statement-again names is m (Stmt.Say e) fits = line-again names m body.Say value_form value-law (λ p. lines.Statement (stmt.Say p.0)) (behind-Say names m) (e, tt) fits
statement-again names is m (Stmt.Alloc v p e es) fits = line-again names m body.Alloc (alloc_form names) (alloc-law names is) (λ p. lines.Statement (stmt.Alloc p.0 p.1.0 p.1.1.0 p.1.1.1)) (behind-Alloc names m) (v, (p, (e, es))) fits
statement-again names is m (Stmt.Free e) fits = line-again names m body.Free value_form value-law (λ p. lines.Statement (stmt.Free p.0)) (behind-Free names m) (e, tt) fits
statement-again names is m (Stmt.Keep e) fits = line-again names m body.Keep value_form value-law (λ p. lines.Statement (stmt.Keep p.0)) (behind-Keep names m) (e, tt) fits
statement-again names is m (Stmt.Send e q) fits = line-again names m body.Send (send_form names) (send-law names is) (λ p. lines.Statement (stmt.Send p.0 p.1.0)) (behind-Send names m) (e, (q, tt)) fits
statement-again names is m (Stmt.SendG e q n) fits = line-again names m body.SendG (sendg_form names) (sendg-law names is) (λ p. lines.Statement (stmt.SendG p.0 p.1.0 p.1.1.0)) (behind-SendG names m) (e, (q, (n, tt))) fits
statement-again names is m (Stmt.Claim v) fits = line-again names m body.Claim claim_form claim-law (λ p. lines.Statement (stmt.Claim p.0)) (behind-Claim names m) (v, tt) fits
statement-again names is m (Stmt.Dequeue v q) fits = line-again names m body.Dequeue (dequeue_form names) (dequeue-law names is) (λ p. lines.Statement (stmt.Dequeue p.0 p.1.0)) (behind-Dequeue names m) (v, (q, tt)) fits
statement-again names is m (Stmt.Enable q) fits = line-again names m body.Enable (queue_form names) (queue-law names is) (λ p. lines.Statement (stmt.Enable p.0)) (behind-Enable names m) (q, tt) fits
statement-again names is m (Stmt.Disable q) fits = line-again names m body.Disable (queue_form names) (queue-law names is) (λ p. lines.Statement (stmt.Disable p.0)) (behind-Disable names m) (q, tt) fits
statement-again names is m Stmt.EndAtomic fits = line-again names m body.EndAtomic ended ended-form (λ _. lines.Statement stmt.EndAtomic) (behind-EndAtomic names m) tt fits
statement-again names is m Stmt.EndOrdered fits = line-again names m body.EndOrdered ended ended-form (λ _. lines.Statement stmt.EndOrdered) (behind-EndOrdered names m) tt fits
statement-again names is m Stmt.EndGroup fits = line-again names m body.EndGroup ended ended-form (λ _. lines.Statement stmt.EndGroup) (behind-EndGroup names m) tt fits
statement-again names is m (Stmt.Apply n e ns) fits = line-again names m body.Apply (apply_form names) (apply-law names is) (λ p. lines.Statement (stmt.Apply p.0 p.1.0 p.1.1)) (behind-Apply names m) (n, (e, ns)) fits
statement-again names is m (Stmt.Increment e) fits = line-again names m body.Increment value_form value-law (λ p. lines.Statement (stmt.Increment p.0)) (behind-Increment names m) (e, tt) fits
statement-again names is m (Stmt.Abort n) fits = line-again names m body.Abort (abort_form names) (abort-law names is) (λ p. lines.Statement (stmt.Abort p.0)) (behind-Abort names m) (n, tt) fits
statement-again names is m (Stmt.Start x ns) fits = line-again names m body.Start (start_form names) (start-law names is) (λ p. lines.Statement (stmt.Start p.0 p.1)) (behind-Start names m) (x, ns) fits
statement-again names is m (Stmt.Stop x ns) fits = line-again names m body.Stop (start_form names) (start-law names is) (λ p. lines.Statement (stmt.Stop p.0 p.1)) (behind-Stop names m) (x, ns) fits
statement-again names is m (Stmt.Modify n e ns) fits = line-again names m body.Modify (modify_form names) (modify-law names is) (λ p. lines.Statement (stmt.Modify p.0 p.1.0 p.1.1)) (behind-Modify names m) (n, (e, ns)) fits
statement-again names is m Stmt.Fail fits = line-again names m body.Fail ended ended-form (λ _. lines.Statement stmt.Fail) (behind-Fail names m) tt fits
statement-again names is m (Stmt.If' e _ a _ b h) fits = absurd fits
statement-again names is m (Stmt.Repeat' n _ b) fits = absurd fits

behind-Else : (names : Naming) (m : Bool) (r : Rest) → m ≡ true → body_line_behind names m body.Else r ≡ given (λ _. lines.Else) (ended.read r)
unfolding body_line_behind
behind-Else names m r may = rw may refl

pub body_line-again : (names : Naming) → IsNaming names → (m : Bool) (line : Line) → BodyLineFits names m line → read_body_line names m (well_rest (line_tokens names line)) ≡ Some (line, well_rest [])
body_line-again names is m (lines.Statement x) fits = statement-again names is m x fits
body_line-again names is m (lines.If e) fits = line-again names m body.If value_form value-law (λ p. lines.If p.0) (behind-If names m) (e, tt) fits
body_line-again names is m (lines.Repeat n) fits = line-again names m body.Repeat repeat_form repeat-law (λ p. lines.Repeat p.0) (behind-Repeat names m) (n, tt) fits
body_line-again names is m lines.End fits = line-again names m body.End ended ended-form (λ _. lines.End) (behind-End names m) tt fits
body_line-again names is m lines.Else fits = line-again names m body.Else ended ended-form (λ _. lines.Else) (λ r. behind-Else names m r fits) tt tt
body_line-again names is m (lines.Cores n) fits = absurd fits
body_line-again names is m (lines.Pool d) fits = absurd fits
body_line-again names is m (lines.Group n k) fits = absurd fits
body_line-again names is m (lines.Eo n r) fits = absurd fits
body_line-again names is m (lines.Agroup d) fits = absurd fits
body_line-again names is m (lines.Queue d) fits = absurd fits
body_line-again names is m (lines.Egroup n) fits = absurd fits
body_line-again names is m (lines.Body p) fits = absurd fits
body_line-again names is m lines.Done fits = absurd fits

-- ---- what is read was written so

pub record TookBehind (names : Naming) (m : Bool) (w : BodyWord) (r : Rest) (line : Line) (s' : Rest) : Type 0 where
  pub tokens : body_text w ∷ r.tokens ≡ line_tokens names line
  pub well : 12 ≤ r.rule
  pub fits : BodyLineFits names m line
  pub none : s'.tokens ≡ []

line-took : {P : Type 0} {F : P → Type 0} (names : Naming) (m : Bool) (w : BodyWord) (f : Form P) (law : IsForm f F Nothing) (to : P → Line) → ((p : P) → line_tokens names (to p) ≡ body_text w ∷ f.write p) → ((p : P) → F p → BodyLineFits names m (to p))
    → (r : Rest) (line : Line) (s' : Rest) → given to (f.read r) ≡ Some (line, s') → 12 ≤ s'.rule → TookBehind names m w r line s'
line-took names m w f law to written fit r line s' e over =
    let g = given-some to (f.read r) line s' e in
    let t = law.took r g.0 s' g.1 over in
    let rest : r.tokens ≡ f.write g.0 = t.tokens ∙ ap (λ ts. f.write g.0 ++ ts) t.ends ∙ append-nil (f.write g.0) in
    record {
      tokens = ap (λ ts. body_text w ∷ ts) rest ∙ sym (written g.0) ∙ ap (line_tokens names) g.2;
      well = t.well;
      fits = subst (BodyLineFits names m) g.2 (fit g.0 t.fits);
      none = t.ends;
    }

else-took : (names : Naming) (m : Bool) (r : Rest) (line : Line) (s' : Rest) → else_behind m r ≡ Some (line, s') → 12 ≤ s'.rule → TookBehind names m body.Else r line s'
else-took names m r line s' e over =
    let c = test-some m (given (λ _. lines.Else) (ended.read r)) (line, s') e in
    line-took names m body.Else ended ended-form (λ _. lines.Else) (λ p. refl) (λ p h. c.0) r line s' c.1 over

behind-took : (names : Naming) → IsNaming names → (m : Bool) (w : BodyWord) (r : Rest) (line : Line) (s' : Rest) → body_line_behind names m w r ≡ Some (line, s') → 12 ≤ s'.rule → TookBehind names m w r line s'
unfolding body_line_behind
behind-took names is m body.Set r line s' e over = line-took names m body.Set set_form set-law (λ p. lines.Statement (stmt.Set p.0 p.1.0)) (λ p. refl) (λ p h. h) r line s' e over
behind-took names is m body.Cell r line s' e over = line-took names m body.Cell cell_form cell-law (λ p. lines.Statement (stmt.CellWrite p.0 p.1.0)) (λ p. refl) (λ p h. h) r line s' e over
behind-took names is m body.Say r line s' e over = line-took names m body.Say value_form value-law (λ p. lines.Statement (stmt.Say p.0)) (λ p. refl) (λ p h. h) r line s' e over
behind-took names is m body.Alloc r line s' e over = line-took names m body.Alloc (alloc_form names) (alloc-law names is) (λ p. lines.Statement (stmt.Alloc p.0 p.1.0 p.1.1.0 p.1.1.1)) (λ p. refl) (λ p h. h) r line s' e over
behind-took names is m body.Free r line s' e over = line-took names m body.Free value_form value-law (λ p. lines.Statement (stmt.Free p.0)) (λ p. refl) (λ p h. h) r line s' e over
behind-took names is m body.Keep r line s' e over = line-took names m body.Keep value_form value-law (λ p. lines.Statement (stmt.Keep p.0)) (λ p. refl) (λ p h. h) r line s' e over
behind-took names is m body.Send r line s' e over = line-took names m body.Send (send_form names) (send-law names is) (λ p. lines.Statement (stmt.Send p.0 p.1.0)) (λ p. refl) (λ p h. h) r line s' e over
behind-took names is m body.SendG r line s' e over = line-took names m body.SendG (sendg_form names) (sendg-law names is) (λ p. lines.Statement (stmt.SendG p.0 p.1.0 p.1.1.0)) (λ p. refl) (λ p h. h) r line s' e over
behind-took names is m body.Claim r line s' e over = line-took names m body.Claim claim_form claim-law (λ p. lines.Statement (stmt.Claim p.0)) (λ p. refl) (λ p h. h) r line s' e over
behind-took names is m body.Dequeue r line s' e over = line-took names m body.Dequeue (dequeue_form names) (dequeue-law names is) (λ p. lines.Statement (stmt.Dequeue p.0 p.1.0)) (λ p. refl) (λ p h. h) r line s' e over
behind-took names is m body.Enable r line s' e over = line-took names m body.Enable (queue_form names) (queue-law names is) (λ p. lines.Statement (stmt.Enable p.0)) (λ p. refl) (λ p h. h) r line s' e over
behind-took names is m body.Disable r line s' e over = line-took names m body.Disable (queue_form names) (queue-law names is) (λ p. lines.Statement (stmt.Disable p.0)) (λ p. refl) (λ p h. h) r line s' e over
behind-took names is m body.EndAtomic r line s' e over = line-took names m body.EndAtomic ended ended-form (λ _. lines.Statement stmt.EndAtomic) (λ p. refl) (λ p h. h) r line s' e over
behind-took names is m body.EndOrdered r line s' e over = line-took names m body.EndOrdered ended ended-form (λ _. lines.Statement stmt.EndOrdered) (λ p. refl) (λ p h. h) r line s' e over
behind-took names is m body.EndGroup r line s' e over = line-took names m body.EndGroup ended ended-form (λ _. lines.Statement stmt.EndGroup) (λ p. refl) (λ p h. h) r line s' e over
behind-took names is m body.Apply r line s' e over = line-took names m body.Apply (apply_form names) (apply-law names is) (λ p. lines.Statement (stmt.Apply p.0 p.1.0 p.1.1)) (λ p. refl) (λ p h. h) r line s' e over
behind-took names is m body.Increment r line s' e over = line-took names m body.Increment value_form value-law (λ p. lines.Statement (stmt.Increment p.0)) (λ p. refl) (λ p h. h) r line s' e over
behind-took names is m body.Abort r line s' e over = line-took names m body.Abort (abort_form names) (abort-law names is) (λ p. lines.Statement (stmt.Abort p.0)) (λ p. refl) (λ p h. h) r line s' e over
behind-took names is m body.Start r line s' e over = line-took names m body.Start (start_form names) (start-law names is) (λ p. lines.Statement (stmt.Start p.0 p.1)) (λ p. refl) (λ p h. h) r line s' e over
behind-took names is m body.Stop r line s' e over = line-took names m body.Stop (start_form names) (start-law names is) (λ p. lines.Statement (stmt.Stop p.0 p.1)) (λ p. refl) (λ p h. h) r line s' e over
behind-took names is m body.Modify r line s' e over = line-took names m body.Modify (modify_form names) (modify-law names is) (λ p. lines.Statement (stmt.Modify p.0 p.1.0 p.1.1)) (λ p. refl) (λ p h. h) r line s' e over
behind-took names is m body.Fail r line s' e over = line-took names m body.Fail ended ended-form (λ _. lines.Statement stmt.Fail) (λ p. refl) (λ p h. h) r line s' e over
behind-took names is m body.If r line s' e over = line-took names m body.If value_form value-law (λ p. lines.If p.0) (λ p. refl) (λ p h. h) r line s' e over
behind-took names is m body.Repeat r line s' e over = line-took names m body.Repeat repeat_form repeat-law (λ p. lines.Repeat p.0) (λ p. refl) (λ p h. h) r line s' e over
behind-took names is m body.End r line s' e over = line-took names m body.End ended ended-form (λ _. lines.End) (λ p. refl) (λ p h. h) r line s' e over
behind-took names is m body.Else r line s' e over = else-took names m r line s' e over

pub record TookBodyLine (names : Naming) (m : Bool) (s : Rest) (line : Line) (s' : Rest) : Type 0 where
  pub tokens : s.tokens ≡ line_tokens names line
  pub well : 12 ≤ s.rule
  pub fits : BodyLineFits names m line
  pub none : s'.tokens ≡ []

pub body_line-took : (names : Naming) → IsNaming names → (m : Bool) (s : Rest) (line : Line) (s' : Rest) → read_body_line names m s ≡ Some (line, s') → 12 ≤ s'.rule → TookBodyLine names m s line s'
unfolding read_body_line
body_line-took names is m s line s' e over =
    let b = bind-some (body_word.read s) (λ w. body_line_behind names m w.0 w.1) (line, s') e in
    let k = behind-took names is m b.0.0 b.0.1 line s' b.2 over in
    let t = body_word-form.took s b.0.0 b.0.1 b.1 k.well in
    record { tokens = t.tokens ∙ k.tokens; well = t.well; fits = k.fits; none = k.none }

-- ---- and it is spelled in tokens

line-plain : {P : Type 0} {F : P → Type 0} (w : BodyWord) (f : Form P) → IsForm f F Nothing → (p : P) → F p → AllByRecursion IsPlain (body_text w ∷ f.write p)
line-plain w f law p fits = ((body_word-form.plain w tt).0, law.plain p fits)

statement-plain : (names : Naming) → IsNaming names → (x : Stmt) → StmtFits names x → AllByRecursion IsPlain (line_tokens names (lines.Statement x))
statement-plain names is (Stmt.Set v e) fits = line-plain body.Set set_form set-law (v, (e, tt)) fits
statement-plain names is (Stmt.CellWrite c e) fits = line-plain body.Cell cell_form cell-law (c, (e, tt)) fits
statement-plain names is (Stmt.Say e) fits = line-plain body.Say value_form value-law (e, tt) fits
statement-plain names is (Stmt.Alloc v p e es) fits = line-plain body.Alloc (alloc_form names) (alloc-law names is) (v, (p, (e, es))) fits
statement-plain names is (Stmt.Free e) fits = line-plain body.Free value_form value-law (e, tt) fits
statement-plain names is (Stmt.Keep e) fits = line-plain body.Keep value_form value-law (e, tt) fits
statement-plain names is (Stmt.Send e q) fits = line-plain body.Send (send_form names) (send-law names is) (e, (q, tt)) fits
statement-plain names is (Stmt.SendG e q n) fits = line-plain body.SendG (sendg_form names) (sendg-law names is) (e, (q, (n, tt))) fits
statement-plain names is (Stmt.Claim v) fits = line-plain body.Claim claim_form claim-law (v, tt) fits
statement-plain names is (Stmt.Dequeue v q) fits = line-plain body.Dequeue (dequeue_form names) (dequeue-law names is) (v, (q, tt)) fits
statement-plain names is (Stmt.Enable q) fits = line-plain body.Enable (queue_form names) (queue-law names is) (q, tt) fits
statement-plain names is (Stmt.Disable q) fits = line-plain body.Disable (queue_form names) (queue-law names is) (q, tt) fits
statement-plain names is Stmt.EndAtomic fits = line-plain body.EndAtomic ended ended-form tt fits
statement-plain names is Stmt.EndOrdered fits = line-plain body.EndOrdered ended ended-form tt fits
statement-plain names is Stmt.EndGroup fits = line-plain body.EndGroup ended ended-form tt fits
statement-plain names is (Stmt.Apply n e ns) fits = line-plain body.Apply (apply_form names) (apply-law names is) (n, (e, ns)) fits
statement-plain names is (Stmt.Increment e) fits = line-plain body.Increment value_form value-law (e, tt) fits
statement-plain names is (Stmt.Abort n) fits = line-plain body.Abort (abort_form names) (abort-law names is) (n, tt) fits
statement-plain names is (Stmt.Start x ns) fits = line-plain body.Start (start_form names) (start-law names is) (x, ns) fits
statement-plain names is (Stmt.Stop x ns) fits = line-plain body.Stop (start_form names) (start-law names is) (x, ns) fits
statement-plain names is (Stmt.Modify n e ns) fits = line-plain body.Modify (modify_form names) (modify-law names is) (n, (e, ns)) fits
statement-plain names is Stmt.Fail fits = line-plain body.Fail ended ended-form tt fits
statement-plain names is (Stmt.If' e _ a _ b h) fits = absurd fits
statement-plain names is (Stmt.Repeat' n _ b) fits = absurd fits

pub body_line-plain : (names : Naming) → IsNaming names → (m : Bool) (line : Line) → BodyLineFits names m line → AllByRecursion IsPlain (line_tokens names line)
body_line-plain names is m (lines.Statement x) fits = statement-plain names is x fits
body_line-plain names is m (lines.If e) fits = line-plain body.If value_form value-law (e, tt) fits
body_line-plain names is m (lines.Repeat n) fits = line-plain body.Repeat repeat_form repeat-law (n, tt) fits
body_line-plain names is m lines.End fits = line-plain body.End ended ended-form tt fits
body_line-plain names is m lines.Else fits = line-plain body.Else ended ended-form tt tt
body_line-plain names is m (lines.Cores n) fits = absurd fits
body_line-plain names is m (lines.Pool d) fits = absurd fits
body_line-plain names is m (lines.Group n k) fits = absurd fits
body_line-plain names is m (lines.Eo n r) fits = absurd fits
body_line-plain names is m (lines.Agroup d) fits = absurd fits
body_line-plain names is m (lines.Queue d) fits = absurd fits
body_line-plain names is m (lines.Egroup n) fits = absurd fits
body_line-plain names is m (lines.Body p) fits = absurd fits
body_line-plain names is m lines.Done fits = absurd fits
