-- Each statement of a body may stand where it does.
use Rattle.std.proofs.Common.{◌≡◌, ℕ, zero, suc, ◌+◌, ◌<◌, ◌≤◌, true, false, List, [], ◌∷◌, ◌++◌, length, refl, subst, arith, le-leb}
use Rattle.std.specs.List.{list_all}
use Rattle.em_log.specs.WellFormed.{Where, is_expression, is_plain, is_statement, are_statements, is_empty_row}
use Rattle.em_log.specs.declared.body.Expr.{Expr}
use Rattle.em_log.specs.declared.body.Stmt.{Stmt}
use Rattle.em_log.specs.declared.body.Stmt.TheVariants as stmt
use Rattle.em_log.specs.declared.body.Stmt.TheBlock.{hidden-the_row-Stmt-0}
use Rattle.em_log.specs.declared.graph.Config.{Config}
use Rattle.em_script.specs.declared.draft.Frame.{Frame}
use Rattle.em_script.specs.declared.draft.Opened.{Opened}
use Rattle.em_script.specs.declared.draft.Opened.TheVariants as opened
use Rattle.em_script.specs.Names.{Naming}
use Rattle.em_script.specs.State.{closed_block, else_of}
use Rattle.em_script.proofs.Forms.{and-both, and-true}
use Rattle.em_script.proofs.StatementForms.{StmtFits}
use Rattle.em_script.proofs.Contents.{all-more}

-- a statement that is no block, at any depth
pub plain-statement : (names : Naming) (g : Config) (w : Where) (d : ℕ) (x : Stmt) → StmtFits names x → is_plain g w x ≡ true → is_statement g w d x ≡ true
plain-statement names g w zero (Stmt.Set v e) fits h = h
plain-statement names g w zero (Stmt.CellWrite c e) fits h = h
plain-statement names g w zero (Stmt.Say e) fits h = h
plain-statement names g w zero (Stmt.Alloc v p e es) fits h = h
plain-statement names g w zero (Stmt.Free e) fits h = h
plain-statement names g w zero (Stmt.Keep e) fits h = h
plain-statement names g w zero (Stmt.Send e q) fits h = h
plain-statement names g w zero (Stmt.SendG e q n) fits h = h
plain-statement names g w zero (Stmt.Claim v) fits h = h
plain-statement names g w zero (Stmt.Dequeue v q) fits h = h
plain-statement names g w zero (Stmt.Enable q) fits h = h
plain-statement names g w zero (Stmt.Disable q) fits h = h
plain-statement names g w zero Stmt.EndAtomic fits h = h
plain-statement names g w zero Stmt.EndOrdered fits h = h
plain-statement names g w zero Stmt.EndGroup fits h = h
plain-statement names g w zero (Stmt.Apply n e ns) fits h = h
plain-statement names g w zero (Stmt.Increment e) fits h = h
plain-statement names g w zero (Stmt.Abort n) fits h = h
plain-statement names g w zero (Stmt.Start y ns) fits h = h
plain-statement names g w zero (Stmt.Stop y ns) fits h = h
plain-statement names g w zero (Stmt.Modify n e ns) fits h = h
plain-statement names g w zero Stmt.Fail fits h = h
plain-statement names g w zero (Stmt.If' e _ a _ b i) fits h = absurd fits
plain-statement names g w zero (Stmt.Repeat' n _ b) fits h = absurd fits
plain-statement names g w (suc d) (Stmt.Set v e) fits h = h
plain-statement names g w (suc d) (Stmt.CellWrite c e) fits h = h
plain-statement names g w (suc d) (Stmt.Say e) fits h = h
plain-statement names g w (suc d) (Stmt.Alloc v p e es) fits h = h
plain-statement names g w (suc d) (Stmt.Free e) fits h = h
plain-statement names g w (suc d) (Stmt.Keep e) fits h = h
plain-statement names g w (suc d) (Stmt.Send e q) fits h = h
plain-statement names g w (suc d) (Stmt.SendG e q n) fits h = h
plain-statement names g w (suc d) (Stmt.Claim v) fits h = h
plain-statement names g w (suc d) (Stmt.Dequeue v q) fits h = h
plain-statement names g w (suc d) (Stmt.Enable q) fits h = h
plain-statement names g w (suc d) (Stmt.Disable q) fits h = h
plain-statement names g w (suc d) Stmt.EndAtomic fits h = h
plain-statement names g w (suc d) Stmt.EndOrdered fits h = h
plain-statement names g w (suc d) Stmt.EndGroup fits h = h
plain-statement names g w (suc d) (Stmt.Apply n e ns) fits h = h
plain-statement names g w (suc d) (Stmt.Increment e) fits h = h
plain-statement names g w (suc d) (Stmt.Abort n) fits h = h
plain-statement names g w (suc d) (Stmt.Start y ns) fits h = h
plain-statement names g w (suc d) (Stmt.Stop y ns) fits h = h
plain-statement names g w (suc d) (Stmt.Modify n e ns) fits h = h
plain-statement names g w (suc d) Stmt.Fail fits h = h
plain-statement names g w (suc d) (Stmt.If' e _ a _ b i) fits h = absurd fits
plain-statement names g w (suc d) (Stmt.Repeat' n _ b) fits h = absurd fits

-- a block as a row and as a list
rows-block : (g : Config) (w : Where) (d : ℕ) (block : List Stmt) → list_all (is_statement g w d) block ≡ true → are_statements g w d (hidden-the_row-Stmt-0 block) ≡ true
unfolding hidden-the_row-Stmt-0 denote.Hole.Carrier.hidden
rows-block g w d [] h = refl
rows-block g w d (s ∷ ss) h = let p = and-true (is_statement g w d s) (list_all (is_statement g w d) ss) h in and-both (is_statement g w d s) _ p.0 (rows-block g w d ss p.1)

empty-row : is_empty_row (hidden-the_row-Stmt-0 []) ≡ true
unfolding hidden-the_row-Stmt-0 denote.Hole.Carrier.hidden
empty-row = refl

if-else : (g : Config) (w : Where) (d : ℕ) (e : Expr) (first second : List Stmt) → is_expression e ≡ true → list_all (is_statement g w d) first ≡ true → list_all (is_statement g w d) second ≡ true → is_statement g w (suc d) (stmt.If e first second true) ≡ true
if-else g w d e first second a b c = rw (a, rows-block g w d first b, rows-block g w d second c) refl

if-alone : (g : Config) (w : Where) (d : ℕ) (e : Expr) (first : List Stmt) → is_expression e ≡ true → list_all (is_statement g w d) first ≡ true → is_statement g w (suc d) (stmt.If e first [] false) ≡ true
if-alone g w d e first a b = rw (a, rows-block g w d first b, rows-block g w d [] refl, empty-row) refl

repeat-good : (g : Config) (w : Where) (d n : ℕ) (block : List Stmt) → 1 ≤ n → n ≤ 256 → list_all (is_statement g w d) block ≡ true → is_statement g w (suc d) (stmt.Repeat n block) ≡ true
repeat-good g w d n block a b c = rw (le-leb 1 n a, le-leb n 256 b, rows-block g w d block c) refl

-- ---- blocks that stand open

-- what opened a block, inside which so many more may be nested
abbrev pub IsOpened : Config → Where → ℕ → Opened → Type 0
IsOpened g w d (opened.If e) = is_expression e ≡ true
IsOpened g w d (opened.Else e first) = (is_expression e ≡ true) × (list_all (is_statement g w d) first ≡ true)
IsOpened g w d (opened.Repeat n) = (1 ≤ n) × (n ≤ 256)

abbrev pub AreOpen : Config → Where → ℕ → List Frame → Type 0
AreOpen g w d [] = d ≡ 16
AreOpen g w d (f ∷ fs) = (list_all (is_statement g w (suc d)) f.before ≡ true) × IsOpened g w d f.opened × AreOpen g w (suc d) fs

-- the innermost block, and those around it
pub record IsOpenBody (g : Config) (w : Where) (block : List Stmt) (nest : List Frame) : Type 0 where
  pub depth : ℕ
  pub stated : list_all (is_statement g w depth) block ≡ true
  pub around : AreOpen g w depth nest

pub open-depth : (g : Config) (w : Where) (d : ℕ) (nest : List Frame) → AreOpen g w d nest → d + length nest ≡ 16
open-depth g w d [] h = omega arith
open-depth g w d (f ∷ fs) h = let e = open-depth g w (suc d) fs h.2 in omega arith

pub begun : (g : Config) (w : Where) → IsOpenBody g w [] []
begun g w = record { depth = 16; stated = refl; around = refl }

pub with-statement : (names : Naming) (g : Config) (w : Where) (block : List Stmt) (nest : List Frame) (x : Stmt) → StmtFits names x → is_plain g w x ≡ true → IsOpenBody g w block nest → IsOpenBody g w (block ++ x ∷ []) nest
with-statement names g w block nest x fits plain o = record { depth = o.depth; stated = all-more (is_statement g w o.depth) block x o.stated (plain-statement names g w o.depth x fits plain); around = o.around }

opened-at : (g : Config) (w : Where) (d : ℕ) (block : List Stmt) (nest : List Frame) (o : Opened) → ((d : ℕ) → IsOpened g w d o) → length nest < 16 → list_all (is_statement g w d) block ≡ true → AreOpen g w d nest → IsOpenBody g w [] (record { before = block; opened = o } ∷ nest)
opened-at g w zero block nest o is few b around = absurd (let e = open-depth g w zero nest around in omega arith)
opened-at g w (suc d) block nest o is few b around = record { depth = d; stated = refl; around = (b, is d, around) }

pub with-opened : (g : Config) (w : Where) (block : List Stmt) (nest : List Frame) (o : Opened) → ((d : ℕ) → IsOpened g w d o) → length nest < 16 → IsOpenBody g w block nest → IsOpenBody g w [] (record { before = block; opened = o } ∷ nest)
with-opened g w block nest o is few b = opened-at g w b.depth block nest o is few b.stated b.around

else-opened : (g : Config) (w : Where) (d : ℕ) (o : Opened) (block : List Stmt) → list_all (is_statement g w d) block ≡ true → IsOpened g w d o → IsOpened g w d (else_of o block)
else-opened g w d (opened.If e) block b h = (h, b)
else-opened g w d (opened.Else e first) block b h = h
else-opened g w d (opened.Repeat n) block b h = h

pub with-else : (g : Config) (w : Where) (block : List Stmt) (f : Frame) (fs : List Frame) → IsOpenBody g w block (f ∷ fs) → IsOpenBody g w [] (record { before = f.before; opened = else_of f.opened block } ∷ fs)
with-else g w block f fs o = record { depth = o.depth; stated = refl; around = (o.around.0, else-opened g w o.depth f.opened block o.stated o.around.1, o.around.2) }

closed-good : (g : Config) (w : Where) (d : ℕ) (o : Opened) (block : List Stmt) → list_all (is_statement g w d) block ≡ true → IsOpened g w d o → is_statement g w (suc d) (closed_block o block) ≡ true
closed-good g w d (opened.If e) block b h = if-alone g w d e block h b
closed-good g w d (opened.Else e first) block b h = if-else g w d e first block h.0 h.1 b
closed-good g w d (opened.Repeat n) block b h = repeat-good g w d n block h.0 h.1 b

pub with-end : (g : Config) (w : Where) (block : List Stmt) (f : Frame) (fs : List Frame) → IsOpenBody g w block (f ∷ fs) → IsOpenBody g w (f.before ++ closed_block f.opened block ∷ []) fs
with-end g w block f fs o = record {
  depth = suc o.depth;
  stated = all-more (is_statement g w (suc o.depth)) f.before (closed_block f.opened block) o.around.0 (closed-good g w o.depth f.opened block o.stated o.around.1);
  around = o.around.2;
}

-- a body at its end
pub whole-body : (g : Config) (w : Where) (block : List Stmt) → IsOpenBody g w block [] → list_all (is_statement g w 16) block ≡ true
whole-body g w block o = subst (λ d. list_all (is_statement g w d) block ≡ true) o.around o.stated
