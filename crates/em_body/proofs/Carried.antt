-- What is known of a statement that was carried out.
use Rattle.std.proofs.Common.{◌≡◌, ◌%◌, List, Option, Some, None, true, refl, sym, ap, subst, ◌∙◌, slice_set}
use Rattle.std.specs.Option.{option_map, is_some}
use Rattle.em_log.specs.declared.body.Expr.{Expr}
use Rattle.em_log.specs.declared.body.Stmt.{Stmt}
use Rattle.em_log.specs.declared.body.Stmt.TheVariants as stmt
use Rattle.em_log.specs.declared.ids.Cells.{Cells}
use Rattle.em_log.specs.declared.work.Move.{Move}
use Rattle.em_log.specs.Bodies.{ask_of}
use Rattle.em_log.specs.Expressions.{value}
use Rattle.em_body.specs.Standings.{Made, Left, Standing, Does, Writes, Moves, Goes, first_of, after_first, settled, unanswered}
use Rattle.em_body.proofs.Settled.{settled-asking}

pub write-does : (o : Option Cells) (s : Stmt) (was : Standing) (c e : Expr) → s ≡ stmt.CellWrite c e → was.env.cells ≡ option_map (λ cs. cs.0) o
    → is_some o ≡ true → (now : Standing)
    → now ≡ record was { env = record was.env { cells = option_map (λ cs. slice_set cs (value c was.env % 8) (value e was.env)) was.env.cells } }
    → Does s was Move.Silent now
write-does None s was c e is cells h now new = absurd (cc h)
write-does (Some cs) s was c e is cells h now new =
    Writes c e cs.0 is cells refl
    (new ∙ ap (λ o. record was { env = record was.env { cells = option_map (λ xs. slice_set xs (value c was.env % 8) (value e was.env)) o } }) cells)

-- a statement that was carried out is a move

none-mapped : {A B : Type 0} (f : A → B) (o : Option A) → option_map f o ≡ None → o ≡ None
none-mapped f None is = refl
none-mapped f (Some x) is = absurd (cc is)

pub unasked : (s : Standing) → unanswered s ≡ None → s.asking ≡ None
unasked s none = none-mapped (λ q. ask_of q s.env) s.asking none

pub moves-of : (f : Made) (was mid now : Standing) (s : Stmt) (rest : List Left) (m : Move) → unanswered was ≡ None → mid ≡ settled was
    → Some s ≡ first_of mid.left → rest ≡ after_first mid.left → Does s (record mid { left = rest }) m now → Moves f was m now
moves-of f was mid now s rest m none is first after does =
    let there : Does s (record (settled was) { left = after_first (settled was).left }) m now =
    subst (λ t. Does s (record t { left = after_first t.left }) m now) is (subst (λ ls. Does s (record mid { left = ls }) m now) after does) in
    Goes s (settled-asking was ∙ unasked was none) (sym (first ∙ ap (λ t. first_of t.left) is)) there
