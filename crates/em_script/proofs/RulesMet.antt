-- The lines of a block break no rule that the state decides.
use Rattle.std.proofs.Common.{◌≡◌, ℕ, zero, suc, ◌+◌, ◌≤◌, Bool, true, false, ◌&&◌, ◌||◌, List, [], ◌∷◌, ◌++◌, length, refl, sym, ap, subst, ◌∙◌, arith, lt-ltb}
use mathlib.Core.Former.{Count}
use Rattle.std.specs.List.{list_all}
use Rattle.std.specs.Prelude.{nat_le, nat_lt}
use Rattle.em_log.specs.WellFormed.{Where, is_expression, is_statement, are_statements, is_empty_row, is_plain, may_begin, is_of_object, is_variable, are_note_expressions, is_group_number}
use Rattle.em_log.specs.declared.body.Expr.{Expr}
use Rattle.em_log.specs.declared.body.Stmt.{Stmt}
use Rattle.em_log.specs.declared.body.Stmt.TheBlock.{Row_of-Stmt, end_of-Stmt, more_of-Stmt, items-the_row-Stmt}
use Rattle.em_log.specs.declared.graph.Config.{Config}
use Rattle.em_script.specs.declared.draft.Opened.TheVariants as opened
use Rattle.em_script.specs.declared.line.Line.{Line}
use Rattle.em_script.specs.declared.line.Line.TheVariants as lines
use Rattle.em_script.specs.declared.line.Place.{Place}
use Rattle.em_script.specs.declared.phase.Phase.TheVariants as phases
use Rattle.em_script.specs.Judging.{may_stand_at, may_stand_in, rule_of, unless, where_of}
use Rattle.em_script.specs.Spelling.{statement_lines, row_lines, block_lines, else_lines}
use Rattle.em_script.specs.State.{State, after, after_all, opened_by}
use Rattle.em_script.proofs.Ascii.{both}
use Rattle.em_script.proofs.BlocksRead.{extended, in_else, in_if, row_read, statement_read}

-- no rule that the state decides fails at any of these lines, each in the state after those before it
abbrev pub AreMet : List Line → State → Type 0
AreMet [] s = Unit {0}
AreMet (line ∷ more) s = (rule_of s line ≡ 12) × AreMet more (after line s)

pub AreMet-append : (xs ys : List Line) (s : State) → AreMet xs s → AreMet ys (after_all xs s) → AreMet (xs ++ ys) s
AreMet-append [] ys s a b = b
AreMet-append (x ∷ xs) ys s a b = (a.0, AreMet-append xs ys (after x s) a.1 b)

pub unless-met : (good : Bool) (rule : ℕ) → good ≡ true → unless good rule ≡ 12
unless-met good rule e = rw e refl

-- ---- statements that are no blocks

may_stand : (g : Config) (w : Where) (x : Stmt) → is_plain g w x ≡ true → may_stand_at w x ≡ true
may_stand g w (Stmt.Keep e) p = (both (is_of_object w) (is_expression e) p).0
may_stand g w (Stmt.Claim v) p = (both (is_of_object w) (is_variable v) p).0
may_stand g w (Stmt.Start x ns) p = (both (may_begin w) (nat_lt x.0 (length g.eos)) (both (may_begin w && nat_lt x.0 (length g.eos)) (are_note_expressions g ns) p).0).0
may_stand g w (Stmt.Stop x ns) p = (both (may_begin w) (nat_lt x.0 (length g.eos)) (both (may_begin w && nat_lt x.0 (length g.eos)) (are_note_expressions g ns) p).0).0
may_stand g w (Stmt.Modify n e ns) p =
    let c = both (may_begin w && is_group_number g n && is_expression e) (are_note_expressions g ns) p in
    let b = both (may_begin w && is_group_number g n) (is_expression e) c.0 in
    (both (may_begin w) (is_group_number g n) b.0).0
may_stand g w Stmt.Fail p = p
may_stand g w _ p = refl

statement_met : (g : Config) (p : Place) (x : Stmt) (s : State) → s.phase ≡ phases.Body p → is_plain g (where_of p) x ≡ true → rule_of s (lines.Statement x) ≡ 12
statement_met g p x s at plain = unless-met (may_stand_in s.phase x) 7 (ap (λ h. may_stand_in h x) at ∙ may_stand g (where_of p) x plain)

nest_met : (s : State) (d : ℕ) → length s.nest + suc d ≤ 16 → unless (nat_lt (length s.nest) 16) 10 ≡ 12
nest_met s d room = unless-met (nat_lt (length s.nest) 16) 10 (lt-ltb (length s.nest) 16 (omega arith))

-- ---- each statement, within so many more nested blocks

-- the lines of a block are met in each state in this place with room for its nested blocks
abbrev AreMetAt : Place → ℕ → List Line → Type 0
AreMetAt p d ls = (s : State) → s.phase ≡ phases.Body p → length s.nest + d ≤ 16 → AreMet ls s

abbrev items : {n : Count} → Row_of-Stmt n → List Stmt
items {n = n} row = items-the_row-Stmt n row

else_met : (p : Place) (d : ℕ) (e : Expr) (has_else : Bool) (second : List Line) (a : List Stmt) (s : State) → AreMetAt p d second → s.phase ≡ phases.Body p → suc (length s.nest) + d ≤ 16 → AreMet (else_lines has_else second ++ lines.End ∷ []) (extended a (in_if e s))
else_met p d e true second a s met at room = (refl, AreMet-append second (lines.End ∷ []) (in_else e a s) (met (in_else e a s) at room) (refl, tt))
else_met p d e false second a s met at room = (refl, tt)

if_met : (p : Place) (d : ℕ) (e : Expr) (has_else : Bool) (first second : List Line) (a : List Stmt) (s : State) → ((r : State) → after_all first r ≡ extended a r) → AreMetAt p d first → AreMetAt p d second → s.phase ≡ phases.Body p → length s.nest + suc d ≤ 16 → AreMet (lines.If e ∷ (first ++ (else_lines has_else second ++ lines.End ∷ []))) s
if_met p d e has_else first second a s read met met_too at room =
    let inner : suc (length s.nest) + d ≤ 16 = omega arith in
    let rest = else_lines has_else second ++ lines.End ∷ [] in
    (nest_met s d room, AreMet-append first rest (in_if e s) (met (in_if e s) at inner) (subst (AreMet rest) (sym (read (in_if e s))) (else_met p d e has_else second a s met_too at inner)))

repeat_met : (p : Place) (d n : ℕ) (block : List Line) (s : State) → AreMetAt p d block → s.phase ≡ phases.Body p → length s.nest + suc d ≤ 16 → AreMet (lines.Repeat n ∷ (block ++ lines.End ∷ [])) s
repeat_met p d n block s met at room =
    let inner : suc (length s.nest) + d ≤ 16 = omega arith in
    let inside = opened_by (opened.Repeat n) s in
    (nest_met s d room, AreMet-append block (lines.End ∷ []) inside (met inside at inner) (refl, tt))

then_met : (x : Stmt) (ls : List Line) (s : State) (p : Place) (d : ℕ) → after_all (statement_lines x) s ≡ extended (x ∷ []) s → AreMet (statement_lines x) s → AreMetAt p d ls → s.phase ≡ phases.Body p → length s.nest + d ≤ 16 → AreMet (statement_lines x ++ ls) s
then_met x ls s p d read met more at room = AreMet-append (statement_lines x) ls s met (subst (AreMet ls) (sym read) (more (extended (x ∷ []) s) at room))

-- the blocks of an if are well formed
if_blocks : {m n : Count} (g : Config) (w : Where) (d : ℕ) (e : Expr) (first : Row_of-Stmt m) (second : Row_of-Stmt n) (has_else : Bool) → (is_expression e && are_statements g w d first && are_statements g w d second && (has_else || is_empty_row second)) ≡ true → (are_statements g w d first ≡ true) × (are_statements g w d second ≡ true)
if_blocks g w d e first second has_else well =
    let last = both (is_expression e && are_statements g w d first && are_statements g w d second) (has_else || is_empty_row second) well in
    let blocks = both (is_expression e && are_statements g w d first) (are_statements g w d second) last.0 in
    ((both (is_expression e) (are_statements g w d first) blocks.0).1, blocks.1)

repeat_block : {n : Count} (g : Config) (w : Where) (d k : ℕ) (block : Row_of-Stmt n) → (nat_le 1 k && nat_le k 256 && are_statements g w d block) ≡ true → are_statements g w d block ≡ true
repeat_block g w d k block well = (both (nat_le 1 k && nat_le k 256) (are_statements g w d block) well).1

mutual
  pub statement_lines_met : (g : Config) (p : Place) (d : ℕ) (x : Stmt) → is_statement g (where_of p) d x ≡ true → AreMetAt p d (statement_lines x)
  statement_lines_met g p zero (Stmt.If' e h first k second has_else) well s at room = absurd cc
  statement_lines_met g p (suc d) (Stmt.If' e h first k second has_else) well s at room =
      let b = if_blocks g (where_of p) d e first second has_else well in
      if_met p d e has_else (row_lines first) (row_lines second) (items first) s (row_read g (where_of p) d first b.0) (row_lines_met g p d first b.0) (row_lines_met g p d second b.1) at room
  statement_lines_met g p zero (Stmt.Repeat' n h block) well s at room = absurd cc
  statement_lines_met g p (suc d) (Stmt.Repeat' n h block) well s at room =
      repeat_met p d n (row_lines block) s (row_lines_met g p d block (repeat_block g (where_of p) d n block well)) at room
  statement_lines_met g p d _ well s at room = (statement_met g p _ s at well, tt)

  row_lines_met : {n : Count} (g : Config) (p : Place) (d : ℕ) (row : Row_of-Stmt n) → are_statements g (where_of p) d row ≡ true → AreMetAt p d (row_lines row)
  row_lines_met g p d end_of-Stmt well s at room = tt
  row_lines_met g p d (more_of-Stmt x xs) well s at room =
      let each = both (is_statement g (where_of p) d x) (are_statements g (where_of p) d xs) well in
      then_met x (row_lines xs) s p d (statement_read g (where_of p) d x each.0 s) (statement_lines_met g p d x each.0 s at room) (row_lines_met g p d xs each.1) at room

pub block_lines_met : (g : Config) (p : Place) (d : ℕ) (block : List Stmt) → list_all (is_statement g (where_of p) d) block ≡ true → AreMetAt p d (block_lines block)
block_lines_met g p d [] well s at room = tt
block_lines_met g p d (x ∷ xs) well s at room =
    let each = both (is_statement g (where_of p) d x) (list_all (is_statement g (where_of p) d) xs) well in
    then_met x (block_lines xs) s p d (statement_read g (where_of p) d x each.0 s) (statement_lines_met g p d x each.0 s at room) (block_lines_met g p d xs each.1) at room
