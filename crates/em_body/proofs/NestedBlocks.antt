-- What is left of a body of a well-formed graph is nested no deeper than a script's blocks.
use Rattle.std.proofs.Common.{◌≡◌, ℕ, zero, suc, ◌+◌, ◌<◌, ◌≤◌, ◌&&◌, ◌||◌, Bool, List, [], ◌∷◌, length, Some, None, refl, sym, ap, ◌∙◌, subst, arith, IsTrue}
use Rattle.std.proofs.lemmas.Bool.{and_parts}
use Rattle.std.specs.Prelude.{nat_le}
use Rattle.std.specs.List.{list_all}
use Rattle.em_log.specs.declared.body.Expr.{Expr}
use Rattle.em_log.specs.declared.body.Stmt.{Stmt}
use Rattle.em_log.specs.declared.body.Stmt.TheBlock.{hidden-the_row-Stmt-0}
use Rattle.em_log.specs.declared.body.Stmt.TheVariants as stmt
use Rattle.em_log.specs.declared.graph.Config.{Config}
use Rattle.em_log.specs.declared.work.Move.{Move}
use Rattle.em_log.specs.Expressions.{value}
use Rattle.em_log.specs.WellFormed.{Where, is_statement, is_expression, is_empty_row}
use Rattle.em_body.specs.Standings.{Left, Standing, Does, Sets, Branches, Repeats, Writes, Asks, entered, resumed, first_in, first_of, without_first, after_first, chosen, nests}
use Rattle.em_body.specs.Runs.{AreNested}
use Rattle.em_body.proofs.Rows.{if-statement, if-nests, repeat-statement, repeat-nests}

abbrev AllFit : Config → Where → ℕ → List Stmt → Type 0
AllFit g w n ss = IsTrue (list_all (is_statement g w n) ss)

pub nested-length : (g : Config) (w : Where) (n : ℕ) (ls : List Left) → AreNested g w n ls → n + length ls ≤ 17
nested-length g w n [] p = omega arith
nested-length g w n (l ∷ ls) (m, (le, (block, under))) =
    let h : suc m + length ls ≤ 17 = nested-length g w (suc m) ls under in omega arith

pub nested-less : (g : Config) (w : Where) (n m : ℕ) (ls : List Left) → m ≤ n → AreNested g w n ls → AreNested g w m ls
nested-less g w n m [] le p = omega arith
nested-less g w n m (l ∷ ls) le (k, (at_least, rest)) = (k, (omega arith, rest))

-- a block that is begun

pub entered-nested : (g : Config) (w : Where) (d : ℕ) (block : List Stmt) (n : ℕ) (ls : List Left) → AllFit g w d block → AreNested g w (suc d) ls
    → AreNested g w d (entered block n ls)
entered-nested g w d [] n ls fit under = nested-less g w (suc d) d ls (omega arith) under
entered-nested g w d (s ∷ ss) zero ls fit under = nested-less g w (suc d) d ls (omega arith) under
entered-nested g w d (s ∷ ss) (suc n) ls fit under = (d, (omega arith, (record { some = omega arith; rest = fit; block = fit }, under)))

resumed-nested : (g : Config) (w : Where) (d : ℕ) (rest block : List Stmt) (n : ℕ) (ls : List Left) → AllFit g w d rest → AllFit g w d block
    → AreNested g w (suc d) ls → AreNested g w d (resumed rest block n ls)
resumed-nested g w d [] block n ls fit all under = entered-nested g w d block n ls all under
resumed-nested g w d (s ∷ ss) block n ls fit all under = (d, (omega arith, (record { some = omega arith; rest = fit; block = all }, under)))

-- the next statement, what it may hold, and what is left after it
pub record Opened (g : Config) (w : Where) (s : Stmt) (ls : List Left) : Type 0 where
  pub depth : ℕ
  pub fits : IsTrue (is_statement g w depth s)
  pub nested : AreNested g w depth ls

opened-block : (g : Config) (w : Where) (d : ℕ) (rest block : List Stmt) (n : ℕ) (ls : List Left) (s : Stmt) → AllFit g w d rest → AllFit g w d block
    → AreNested g w (suc d) ls → first_in rest ≡ Some s → Opened g w s (resumed (without_first rest) block n ls)
opened-block g w d [] block n ls s fit all under is = absurd (cc is)
opened-block g w d (q ∷ ss) block n ls s fit all under is =
    let both = and_parts (is_statement g w d q) (list_all (is_statement g w d) ss) fit in
    let e : q ≡ s = cc is in
    record { depth = d; fits = subst (λ x. IsTrue (is_statement g w d x)) e both.0; nested = resumed-nested g w d ss block n ls both.1 all under }

pub opened : (g : Config) (w : Where) (n : ℕ) (ls : List Left) (s : Stmt) → AreNested g w n ls → first_of ls ≡ Some s → Opened g w s (after_first ls)
opened g w n [] s nested is = absurd (cc is)
opened g w n (l ∷ ls) s (m, (le, (block, under))) is = opened-block g w m l.rest l.block l.again ls s block.rest block.block under is

-- a block has a statement left
none-in : (rest : List Stmt) → 0 < length rest → first_in rest ≡ None → ⊥
none-in [] some is = omega arith
none-in (s ∷ ss) some is = cc is

pub nothing-left : (g : Config) (w : Where) (n : ℕ) (ls : List Left) → AreNested g w n ls → first_of ls ≡ None → ls ≡ []
nothing-left g w n [] nested is = refl
nothing-left g w n (l ∷ ls) (m, (le, (block, under))) is = absurd (none-in l.rest block.some is)

-- the blocks of a statement

pub record IfFits (g : Config) (w : Where) (m : ℕ) (first second : List Stmt) : Type 0 where
  pub depth : ℕ
  pub is : m ≡ suc depth
  pub all_first : AllFit g w depth first
  pub all_second : AllFit g w depth second

pub if-fits : (g : Config) (w : Where) (m : ℕ) (t : Expr) (first second : List Stmt) (h : Bool) → IsTrue (is_statement g w m (stmt.If t first second h))
    → IfFits g w m first second
if-fits g w zero t first second h fits = absurd (cc (if-nests g w t first second h, fits))
if-fits g w (suc d) t first second h fits =
    let whole = sym (if-statement g w d t first second h) ∙ fits in
    let a = and_parts (is_expression t && list_all (is_statement g w d) first && list_all (is_statement g w d) second)
    (h || is_empty_row (hidden-the_row-Stmt-0 second)) whole in
    let b = and_parts (is_expression t && list_all (is_statement g w d) first) (list_all (is_statement g w d) second) a.0 in
    let c = and_parts (is_expression t) (list_all (is_statement g w d) first) b.0 in
    record { depth = d; is = refl; all_first = c.1; all_second = b.1 }

pub record RepeatFits (g : Config) (w : Where) (m : ℕ) (block : List Stmt) : Type 0 where
  pub depth : ℕ
  pub is : m ≡ suc depth
  pub all : AllFit g w depth block

pub repeat-fits : (g : Config) (w : Where) (m n : ℕ) (block : List Stmt) → IsTrue (is_statement g w m (stmt.Repeat n block)) → RepeatFits g w m block
repeat-fits g w zero n block fits = absurd (cc (repeat-nests g w n block, fits))
repeat-fits g w (suc d) n block fits =
    let whole = sym (repeat-statement g w d n block) ∙ fits in
    record { depth = d; is = refl; all = (and_parts (nat_le 1 n && nat_le n 256) (list_all (is_statement g w d) block) whole).1 }

chosen-fits : (g : Config) (w : Where) (d n : ℕ) (first second : List Stmt) → AllFit g w d first → AllFit g w d second → AllFit g w d (chosen n first second)
chosen-fits g w d zero first second f s = s
chosen-fits g w d (suc n) first second f s = f

-- a statement leaves blocks that are nested so again
pub does-nested : (g : Config) (w : Where) (m : ℕ) (s : Stmt) (was : Standing) (move : Move) (now : Standing) → IsTrue (is_statement g w m s)
    → AreNested g w m was.left → Does s was move now → AreNested g w 0 now.left
does-nested g w m s was move now fits nested (Sets i e is silent new) =
    subst (λ ls. AreNested g w 0 ls) (sym (ap (λ t. t.left) new)) (nested-less g w m 0 was.left (omega arith) nested)
does-nested g w m s was move now fits nested (Branches t first second has_else is silent new) =
    let f = if-fits g w m t first second has_else (subst (λ q. IsTrue (is_statement g w m q)) is fits) in
    subst (λ ls. AreNested g w 0 ls) (sym (ap (λ t. t.left) new))
    (nested-less g w f.depth 0 _ (omega arith)
    (entered-nested g w f.depth (chosen (value t was.env) first second) 1 was.left
    (chosen-fits g w f.depth (value t was.env) first second f.all_first f.all_second) (subst (λ n. AreNested g w n was.left) f.is nested)))
does-nested g w m s was move now fits nested (Repeats n block is silent new) =
    let f = repeat-fits g w m n block (subst (λ q. IsTrue (is_statement g w m q)) is fits) in
    subst (λ ls. AreNested g w 0 ls) (sym (ap (λ t. t.left) new))
    (nested-less g w f.depth 0 _ (omega arith)
    (entered-nested g w f.depth block n was.left f.all (subst (λ n. AreNested g w n was.left) f.is nested)))
does-nested g w m s was move now fits nested (Writes c e cells is some silent new) =
    subst (λ ls. AreNested g w 0 ls) (sym (ap (λ t. t.left) new)) (nested-less g w m 0 was.left (omega arith) nested)
does-nested g w m s was move now fits nested (Asks does is new) =
    subst (λ ls. AreNested g w 0 ls) (sym (ap (λ t. t.left) new)) (nested-less g w m 0 was.left (omega arith) nested)

-- a statement that holds blocks leaves room for one
depth-of : (g : Config) (w : Where) (m : ℕ) (s : Stmt) → IsTrue (is_statement g w m s) → IsTrue (nests s) → 0 < m
depth-of g w zero (Stmt.If' t _ first _ second h) fits deep = absurd (cc fits)
depth-of g w zero (Stmt.Repeat' n _ block) fits deep = absurd (cc fits)
depth-of g w zero s fits deep = absurd (cc deep)
depth-of g w (suc d) s fits deep = omega arith

pub room : (g : Config) (w : Where) (s : Stmt) (ls : List Left) → Opened g w s ls → IsTrue (nests s) → length ls < 17
room g w s ls o deep =
    let a : o.depth + length ls ≤ 17 = nested-length g w o.depth ls o.nested in
    let b : 0 < o.depth = depth-of g w o.depth s o.fits deep in omega arith
