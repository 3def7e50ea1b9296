-- Reading needs what names stand for, and writing what they are: one naming serves both.
use Rattle.std.proofs.Common.{◌≡◌, ℕ, zero, suc, Bool, cond, List, [], ◌∷◌, ◌++◌, length, leb, Option, Some, None, refl, ap, ◌∙◌}
use Rattle.std.specs.Prelude.{codes}
use Rattle.em_log.specs.declared.body.Stmt.{Stmt}
use Rattle.em_log.specs.declared.body.Stmt.TheVariants as stmt
use Rattle.em_log.specs.declared.graph.QueueDecl.{QueueDecl}
use Rattle.em_log.specs.declared.ids.Kind.{Kind}
use Rattle.em_log.specs.declared.ids.Kind.TheVariants as kinds
use Rattle.em_script.specs.declared.line.Line.{Line}
use Rattle.em_script.specs.declared.line.Line.TheVariants as lines
use Rattle.em_script.specs.declared.line.Place.{Place}
use Rattle.em_script.specs.declared.line.Place.TheVariants as places
use Rattle.em_script.specs.declared.line.Membership.{Membership}
use Rattle.em_script.specs.declared.line.Membership.TheVariants as memberships
use Rattle.em_script.specs.declared.phase.Phase.{Phase}
use Rattle.em_script.specs.declared.named.Named.{Named}
use Rattle.em_script.specs.declared.words.BodyWord.{BodyWord}
use Rattle.em_script.specs.declared.words.BodyWord.TheVariants as body
use Rattle.em_script.specs.declared.words.TopWord.{TopWord}
use Rattle.em_script.specs.declared.words.TopWord.TheVariants as top
use Rattle.em_script.specs.Lines.{Rest}
use Rattle.em_script.specs.Names.{Naming}
use Rattle.em_script.specs.Words.{body_word, top_word, priority, kind, kind_text}
use Rattle.em_script.specs.Form.{◌>>=◌, Form, given, ◌▷◌, is_over, up_to_end, judged, new_name, group_name, eo_name, egroup_name}
use Rattle.em_script.specs.Expressions.{expression}
use Rattle.em_script.specs.Statements.{note, notes, apply_form, start_form, modify_form, statement_tokens, body_line_behind, read_body_line}
use Rattle.em_script.specs.Declarations.{membership_tokens, membership_of, eo_of, priority_of, kind_tokens, queue_behind, read_queue, top_line_behind, may_stand, read_top_line}
use Rattle.em_script.specs.Spelling.{place_tokens, line_tokens}
use Rattle.em_script.proofs.Repeats.{bind-same}

-- ---- forms that read alike

up_to_end-same : {A : Type 0} (f g : Form A) → ((s : Rest) → f.read s ≡ g.read s) → (n : ℕ) (s : Rest) → up_to_end f n s ≡ up_to_end g n s
unfolding up_to_end
up_to_end-same f g e zero s = refl
up_to_end-same f g e (suc n) s =
    ap (λ (o : Option (List _ × Rest)). cond (is_over s) (Some ([], s)) o)
    (ap (λ o. o >>= λ x. up_to_end f n x.1 >>= λ xs. Some (x.0 ∷ xs.0, xs.1)) (e s)
    ∙ bind-same (g.read s) (λ x. up_to_end f n x.1 >>= λ xs. Some (x.0 ∷ xs.0, xs.1)) (λ x. up_to_end g n x.1 >>= λ xs. Some (x.0 ∷ xs.0, xs.1)) (λ x _. ap (λ o. o >>= λ xs. Some (x.0 ∷ xs.0, xs.1)) (up_to_end-same f g e n x.1)))

then-same : {A B : Type 0} (f f' : Form A) (g g' : Form B) → ((s : Rest) → f.read s ≡ f'.read s) → ((s : Rest) → g.read s ≡ g'.read s) → (s : Rest) → (f ▷ g).read s ≡ (f' ▷ g').read s
then-same f f' g g' e h s =
    ap (λ o. o >>= λ x. g.read x.1 >>= λ y. Some ((x.0, y.0), y.1)) (e s)
    ∙ bind-same (f'.read s) (λ x. g.read x.1 >>= λ y. Some ((x.0, y.0), y.1)) (λ x. g'.read x.1 >>= λ y. Some ((x.0, y.0), y.1)) (λ x _. ap (λ o. o >>= λ y. Some ((x.0, y.0), y.1)) (h x.1))

-- ---- reading, whatever the names are written as

module _ (find : List ℕ → Option Named) (n m : Named → List ℕ) where
  abbrev left : Naming
  left = record { find = find; name = n }

  abbrev right : Naming
  right = record { find = find; name = m }

  notes-same : (s : Rest) → (notes left).read s ≡ (notes right).read s
  notes-same s = ap (λ o. o >>= λ xs. Some (xs.0, judged 10 (leb (length xs.0) 8) xs.1)) (up_to_end-same (note left) (note right) (λ r. refl) (length s.tokens) s)

  apply-same : (s : Rest) → (apply_form left).read s ≡ (apply_form right).read s
  apply-same = then-same (egroup_name left) (egroup_name right) (expression ▷ notes left) (expression ▷ notes right) (λ s. refl) (then-same expression expression (notes left) (notes right) (λ s. refl) notes-same)

  start-same : (s : Rest) → (start_form left).read s ≡ (start_form right).read s
  start-same = then-same (eo_name left) (eo_name right) (notes left) (notes right) (λ s. refl) notes-same

  modify-same : (s : Rest) → (modify_form left).read s ≡ (modify_form right).read s
  modify-same = then-same (group_name left) (group_name right) (expression ▷ notes left) (expression ▷ notes right) (λ s. refl) (then-same expression expression (notes left) (notes right) (λ s. refl) notes-same)

  body-behind : (may : Bool) (w : BodyWord) (r : Rest) → body_line_behind left may w r ≡ body_line_behind right may w r
  unfolding body_line_behind
  body-behind may body.Set r = refl
  body-behind may body.If r = refl
  body-behind may body.Else r = refl
  body-behind may body.End r = refl
  body-behind may body.Repeat r = refl
  body-behind may body.Cell r = refl
  body-behind may body.Say r = refl
  body-behind may body.Alloc r = refl
  body-behind may body.Free r = refl
  body-behind may body.Keep r = refl
  body-behind may body.Send r = refl
  body-behind may body.SendG r = refl
  body-behind may body.Claim r = refl
  body-behind may body.Dequeue r = refl
  body-behind may body.Enable r = refl
  body-behind may body.Disable r = refl
  body-behind may body.EndAtomic r = refl
  body-behind may body.EndOrdered r = refl
  body-behind may body.EndGroup r = refl
  body-behind may body.Apply r = ap (given (λ p. lines.Statement (stmt.Apply p.0 p.1.0 p.1.1))) (apply-same r)
  body-behind may body.Increment r = refl
  body-behind may body.Abort r = refl
  body-behind may body.Start r = ap (given (λ p. lines.Statement (stmt.Start p.0 p.1))) (start-same r)
  body-behind may body.Stop r = ap (given (λ p. lines.Statement (stmt.Stop p.0 p.1))) (start-same r)
  body-behind may body.Modify r = ap (given (λ p. lines.Statement (stmt.Modify p.0 p.1.0 p.1.1))) (modify-same r)
  body-behind may body.Fail r = refl

  pub body_line-same : (may : Bool) (s : Rest) → read_body_line (record { find = find; name = n }) may s ≡ read_body_line (record { find = find; name = m }) may s
  unfolding read_body_line
  body_line-same may s = bind-same (body_word.read s) (λ w. body_line_behind left may w.0 w.1) (λ w. body_line_behind right may w.0 w.1) (λ w _. body-behind may w.0 w.1)

  kind-behind : (name : List ℕ) (k : Kind) (r : Rest) → queue_behind left name k r ≡ queue_behind right name k r
  unfolding queue_behind
  kind-behind name kinds.Atomic r = refl
  kind-behind name kinds.Parallel r = refl
  kind-behind name kinds.Ordered r = refl
  kind-behind name kinds.Local r = refl
  kind-behind name kinds.Unscheduled r = refl
  kind-behind name kinds.Output r = refl

  queue-same : (r : Rest) → read_queue left r ≡ read_queue right r
  unfolding read_queue
  queue-same r =
      bind-same ((new_name left).read r) (λ x. kind.read x.1 >>= λ k. queue_behind left x.0 k.0 k.1) (λ x. kind.read x.1 >>= λ k. queue_behind right x.0 k.0 k.1)
      (λ x _. bind-same (kind.read x.1) (λ k. queue_behind left x.0 k.0 k.1) (λ k. queue_behind right x.0 k.0 k.1) (λ k _. kind-behind x.0 k.0 k.1))

  top-behind : (cores : ℕ) (w : TopWord) (r : Rest) → top_line_behind left cores w r ≡ top_line_behind right cores w r
  unfolding top_line_behind
  top-behind cores top.Cores r = refl
  top-behind cores top.Pool r = refl
  top-behind cores top.Group r = refl
  top-behind cores top.Eo r = refl
  top-behind cores top.Agroup r = refl
  top-behind cores top.Queue r = queue-same r
  top-behind cores top.Egroup r = refl
  top-behind cores top.Boot r = refl
  top-behind cores top.Error r = refl
  top-behind cores top.Body r = refl
  top-behind cores top.Done r = refl

  pub top_line-same : (cores : ℕ) (phase : Phase) (s : Rest) → read_top_line (record { find = find; name = n }) cores phase s ≡ read_top_line (record { find = find; name = m }) cores phase s
  unfolding read_top_line
  top_line-same cores phase s =
      bind-same (top_word.read s) (λ w. cond (may_stand phase w.0) (top_line_behind left cores w.0 w.1) None) (λ w. cond (may_stand phase w.0) (top_line_behind right cores w.0 w.1) None)
      (λ w _. ap (λ (o : Option (Line × Rest)). cond (may_stand phase w.0) o None) (top-behind cores w.0 w.1))

-- ---- writing, whatever the names stand for

module _ (find seek : List ℕ → Option Named) (n : Named → List ℕ) where
  abbrev one : Naming
  one = record { find = find; name = n }

  abbrev other : Naming
  other = record { find = seek; name = n }

  member-same : (x : Membership) → membership_tokens one x ≡ membership_tokens other x
  member-same (memberships.Group g) = refl
  member-same (memberships.Agroup a) = refl

  kind-same : (d : QueueDecl) (k : Kind) → kind_tokens one d k ≡ kind_tokens other d k
  kind-same d kinds.Atomic = ap (λ (ts : List (List ℕ)). (eo_name one).write (eo_of d) ++ (priority.write (priority_of d) ++ (ts ++ []))) (member-same (membership_of d))
  kind-same d kinds.Parallel = refl
  kind-same d kinds.Ordered = refl
  kind-same d kinds.Local = refl
  kind-same d kinds.Unscheduled = refl
  kind-same d kinds.Output = refl

  statement-same : (x : Stmt) → statement_tokens one x ≡ statement_tokens other x
  statement-same (Stmt.Set v e) = refl
  statement-same (Stmt.CellWrite c e) = refl
  statement-same (Stmt.Say e) = refl
  statement-same (Stmt.Alloc v p e es) = refl
  statement-same (Stmt.Free e) = refl
  statement-same (Stmt.Keep e) = refl
  statement-same (Stmt.Send e q) = refl
  statement-same (Stmt.SendG e q n') = refl
  statement-same (Stmt.Claim v) = refl
  statement-same (Stmt.Dequeue v q) = refl
  statement-same (Stmt.Enable q) = refl
  statement-same (Stmt.Disable q) = refl
  statement-same Stmt.EndAtomic = refl
  statement-same Stmt.EndOrdered = refl
  statement-same Stmt.EndGroup = refl
  statement-same (Stmt.Apply n' e ns) = refl
  statement-same (Stmt.Increment e) = refl
  statement-same (Stmt.Abort n') = refl
  statement-same (Stmt.Start x ns) = refl
  statement-same (Stmt.Stop x ns) = refl
  statement-same (Stmt.Modify n' e ns) = refl
  statement-same Stmt.Fail = refl
  statement-same (Stmt.If' e _ a _ b h) = refl
  statement-same (Stmt.Repeat' k _ b) = refl

  place-same : (p : Place) → place_tokens one p ≡ place_tokens other p
  place-same places.Boot = refl
  place-same places.Error = refl
  place-same (places.Object eo p) = refl

  pub line-same : (line : Line) → line_tokens (record { find = find; name = n }) line ≡ line_tokens (record { find = seek; name = n }) line
  line-same (lines.Cores k) = refl
  line-same (lines.Pool d) = refl
  line-same (lines.Group x k) = refl
  line-same (lines.Eo x r) = refl
  line-same (lines.Agroup d) = refl
  line-same (lines.Queue d) = ap (λ ts. codes "queue" ∷ d.name ∷ kind_text d.kind ∷ ts) (kind-same d d.kind)
  line-same (lines.Egroup x) = refl
  line-same (lines.Body p) = place-same p
  line-same lines.Done = refl
  line-same (lines.Statement x) = statement-same x
  line-same (lines.If e) = refl
  line-same (lines.Repeat k) = refl
  line-same lines.Else = refl
  line-same lines.End = refl
