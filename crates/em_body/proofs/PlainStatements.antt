-- A statement of a well-formed body asks for what is declared, and where its ask may stand.
use mathlib.Core.Former.{Count}
use Rattle.std.proofs.Common.{◌≡◌, ℕ, zero, suc, ◌&&◌, ◌||◌, Bool, true, List, [], ◌∷◌, length, map, Option, Some, None, IsTrue, refl, sym, ap, subst}
use Rattle.std.proofs.lemmas.Bool.{and_parts, and_from}
use Rattle.std.proofs.lemmas.List.{length-map}
use Rattle.std.specs.Prelude.{nat_le, nat_lt, is_none}
use Rattle.std.specs.List.{list_all}
use Rattle.em_log.specs.declared.ask.Context.{Context}
use Rattle.em_log.specs.declared.body.Expr.{Expr}
use Rattle.em_log.specs.declared.body.Stmt.{Stmt}
use Rattle.em_log.specs.declared.body.Stmt.TheBlock.{Row_of-Stmt, end_of-Stmt, more_of-Stmt}
use Rattle.em_log.specs.declared.graph.Config.{Config}
use Rattle.em_log.specs.declared.ids.QueueId.{QueueId}
use Rattle.em_log.specs.Bodies.{ask_of, notes_in}
use Rattle.em_log.specs.Declarations.{declarations_of, pool_shape, queue_shape, eo_shape, group_shape}
use Rattle.em_log.specs.Expressions.{Env}
use Rattle.em_log.specs.Lawful.{is_declared, is_placed, is_queue, have_queues}
use Rattle.em_log.specs.WellFormed.{Where, is_statement, are_statements, is_plain, is_expression, are_expressions, is_empty_row, is_variable, is_queue_number, is_group_number, is_note, are_note_expressions, may_begin, is_of_object}
use Rattle.em_body.specs.Everywhere.{everywhere, everywhere_row, everywhere_in}
use Rattle.em_body.specs.Standings.{does_ask, entry_of}
use Rattle.em_body.proofs.ErrorBodies.{IsPlaceIn}

-- the statements of a body that hold no blocks, those in blocks among them

if-blocks : {m n : Count} (g : Config) (w : Where) (d : ℕ) (e : Expr) (first : Row_of-Stmt m) (second : Row_of-Stmt n) (has_else : Bool)
    → IsTrue (is_expression e && are_statements g w d first && are_statements g w d second && (has_else || is_empty_row second))
    → IsTrue (are_statements g w d first) × IsTrue (are_statements g w d second)
if-blocks g w d e first second has_else fits =
    let a = and_parts (is_expression e && are_statements g w d first && are_statements g w d second) (has_else || is_empty_row second) fits in
    let b = and_parts (is_expression e && are_statements g w d first) (are_statements g w d second) a.0 in
    ((and_parts (is_expression e) (are_statements g w d first) b.0).1, b.1)

mutual
  everywhere-plain : (g : Config) (w : Where) (d : ℕ) (s : Stmt) → IsTrue (is_statement g w d s) → IsTrue (everywhere (is_plain g w) s)
  everywhere-plain g w zero (Stmt.If' e _ first _ second has_else) fits = absurd cc
  everywhere-plain g w (suc d) (Stmt.If' e _ first _ second has_else) fits =
      let b = if-blocks g w d e first second has_else fits in
      and_from (everywhere_row (is_plain g w) first) (everywhere_row (is_plain g w) second) (row-plain g w d first b.0) (row-plain g w d second b.1)
  everywhere-plain g w zero (Stmt.Repeat' n _ block) fits = absurd cc
  everywhere-plain g w (suc d) (Stmt.Repeat' n _ block) fits =
      row-plain g w d block (and_parts (nat_le 1 n && nat_le n 256) (are_statements g w d block) fits).1
  everywhere-plain g w d s fits = fits

  row-plain : {n : Count} (g : Config) (w : Where) (d : ℕ) (ss : Row_of-Stmt n) → IsTrue (are_statements g w d ss)
      → IsTrue (everywhere_row (is_plain g w) ss)
  row-plain g w d end_of-Stmt fits = refl
  row-plain g w d (more_of-Stmt s ss) fits =
      let b = and_parts (is_statement g w d s) (are_statements g w d ss) fits in
      and_from (everywhere (is_plain g w) s) (everywhere_row (is_plain g w) ss) (everywhere-plain g w d s b.0) (row-plain g w d ss b.1)

pub all-plain : (g : Config) (w : Where) (d : ℕ) (ss : List Stmt) → IsTrue (list_all (is_statement g w d) ss) → IsTrue (everywhere_in (is_plain g w) ss)
all-plain g w d [] fits = refl
all-plain g w d (s ∷ ss) fits =
    let b = and_parts (is_statement g w d s) (list_all (is_statement g w d) ss) fits in
    and_from (everywhere (is_plain g w) s) (everywhere_in (is_plain g w) ss) (everywhere-plain g w d s b.0) (all-plain g w d ss b.1)

-- what an ask names is declared

-- a number below the length of a list is below that of its images
mapped-below : {X Y : Type 0} (n : ℕ) (f : X → Y) (xs : List X) → IsTrue (nat_lt n (length xs)) → IsTrue (nat_lt n (length (map f xs)))
mapped-below n f xs h = subst (λ m. IsTrue (nat_lt n m)) (sym (length-map xs f)) h

queue-declared : (g : Config) (q : QueueId) → IsTrue (is_queue_number g q) → IsTrue (is_queue (declarations_of g) q.0)
queue-declared g q h = mapped-below q.0 queue_shape g.queues h

each-note : (g : Config) (v : Env) (ns : List (Expr × QueueId)) → IsTrue (list_all (is_note g) ns)
    → IsTrue (list_all (λ n. is_queue (declarations_of g) n.queue.0) (notes_in ns v))
each-note g v [] h = refl
each-note g v (n ∷ ns) h =
    let a = and_parts (is_note g n) (list_all (is_note g) ns) h in
    let b = and_parts (is_expression n.0) (is_queue_number g n.1) a.0 in
    and_from (is_queue (declarations_of g) n.1.0) (list_all (λ m. is_queue (declarations_of g) m.queue.0) (notes_in ns v))
    (queue-declared g n.1 b.1) (each-note g v ns a.1)

notes-declared : (g : Config) (v : Env) (ns : List (Expr × QueueId)) → IsTrue (are_note_expressions g ns)
    → IsTrue (have_queues (declarations_of g) (notes_in ns v))
notes-declared g v ns h = each-note g v ns (and_parts (nat_le (length ns) 8) (list_all (is_note g) ns) h).1

pub ask-declared : (g : Config) (w : Where) (s : Stmt) (v : Env) → IsTrue (is_plain g w s) → IsTrue (does_ask s v)
    → IsTrue (is_declared (declarations_of g) (ask_of s v))
ask-declared g w (Stmt.Set i e) v fits does = absurd (cc does)
ask-declared g w (Stmt.If' t _ first _ second b) v fits does = absurd (cc does)
ask-declared g w (Stmt.Repeat' n _ block) v fits does = absurd (cc does)
ask-declared g w (Stmt.Alloc i p e es) v fits does =
    let a = and_parts (is_variable i && nat_lt p.0 (length g.pools) && is_expression e && nat_le (length es) 16) (are_expressions es) fits in
    let b = and_parts (is_variable i && nat_lt p.0 (length g.pools) && is_expression e) (nat_le (length es) 16) a.0 in
    let c = and_parts (is_variable i && nat_lt p.0 (length g.pools)) (is_expression e) b.0 in
    mapped-below p.0 pool_shape g.pools (and_parts (is_variable i) (nat_lt p.0 (length g.pools)) c.0).1
ask-declared g w (Stmt.Send e q) v fits does =
    and_from (is_queue (declarations_of g) q.0) true (queue-declared g q (and_parts (is_expression e) (is_queue_number g q) fits).1) refl
ask-declared g w (Stmt.SendG e q n) v fits does =
    let a = and_parts (is_expression e && is_queue_number g q) (nat_lt n.0 (length g.egroups)) fits in
    and_from (is_queue (declarations_of g) q.0) (nat_lt n.0 (length g.egroups))
    (queue-declared g q (and_parts (is_expression e) (is_queue_number g q) a.0).1) a.1
ask-declared g w (Stmt.Dequeue i q) v fits does = queue-declared g q (and_parts (is_variable i) (is_queue_number g q) fits).1
ask-declared g w (Stmt.Enable q) v fits does = queue-declared g q fits
ask-declared g w (Stmt.Disable q) v fits does = queue-declared g q fits
ask-declared g w (Stmt.Apply n e ns) v fits does =
    let a = and_parts (nat_lt n.0 (length g.egroups) && is_expression e) (are_note_expressions g ns) fits in
    and_from (nat_lt n.0 (length g.egroups)) (have_queues (declarations_of g) (notes_in ns v))
    (and_parts (nat_lt n.0 (length g.egroups)) (is_expression e) a.0).0 (notes-declared g v ns a.1)
ask-declared g w (Stmt.Abort n) v fits does = fits
ask-declared g w (Stmt.Start x ns) v fits does =
    let a = and_parts (may_begin w && nat_lt x.0 (length g.eos)) (are_note_expressions g ns) fits in
    and_from (nat_lt x.0 (length (map eo_shape g.eos))) (have_queues (declarations_of g) (notes_in ns v))
    (mapped-below x.0 eo_shape g.eos (and_parts (may_begin w) (nat_lt x.0 (length g.eos)) a.0).1) (notes-declared g v ns a.1)
ask-declared g w (Stmt.Stop x ns) v fits does =
    let a = and_parts (may_begin w && nat_lt x.0 (length g.eos)) (are_note_expressions g ns) fits in
    and_from (nat_lt x.0 (length (map eo_shape g.eos))) (have_queues (declarations_of g) (notes_in ns v))
    (mapped-below x.0 eo_shape g.eos (and_parts (may_begin w) (nat_lt x.0 (length g.eos)) a.0).1) (notes-declared g v ns a.1)
ask-declared g w (Stmt.Modify n e ns) v fits does =
    let a = and_parts (may_begin w && is_group_number g n && is_expression e) (are_note_expressions g ns) fits in
    let b = and_parts (may_begin w && is_group_number g n) (is_expression e) a.0 in
    let c = (and_parts (may_begin w) (is_group_number g n) b.0).1 in
    and_from (nat_le n.0 (length (map group_shape g.groups))) (have_queues (declarations_of g) (notes_in ns v))
    (subst (λ m. IsTrue (nat_le n.0 m)) (sym (length-map g.groups group_shape)) c) (notes-declared g v ns a.1)
ask-declared g w s v fits does = refl

-- where an ask may stand

-- where the environment has no cells, no atomic context is held
none-held : (cells : Option (List ℕ)) (atomic : Option ℕ) → IsTrue (is_none cells) → (cells ≡ None → atomic ≡ None) → IsTrue (is_none atomic)
none-held None atomic none held = ap is_none (held refl)
none-held (Some cells) atomic none held = absurd (cc none)

pub ask-placed : (g : Config) (w : Where) (c : Context) → IsPlaceIn w c → (s : Stmt) (v : Env) → IsTrue (is_plain g w s) → IsTrue (does_ask s v)
    → (atomic : Option ℕ) → (v.cells ≡ None → atomic ≡ None) → IsTrue (is_placed (Some (entry_of c)) atomic (ask_of s v))
ask-placed g w c in_context (Stmt.Set i e) v fits does atomic held = absurd (cc does)
ask-placed g w c in_context (Stmt.If' t _ first _ second b) v fits does atomic held = absurd (cc does)
ask-placed g w c in_context (Stmt.Repeat' n _ block) v fits does atomic held = absurd (cc does)
ask-placed g w c in_context (Stmt.CellWrite i e) v fits does atomic held = none-held v.cells atomic does held
ask-placed g w c in_context (Stmt.Keep e) v fits does atomic held =
    in_context.of_object (and_parts (is_of_object w) (is_expression e) fits).0
ask-placed g w c in_context (Stmt.Claim i) v fits does atomic held = in_context.of_object (and_parts (is_of_object w) (is_variable i) fits).0
ask-placed g w c in_context (Stmt.Start x ns) v fits does atomic held =
    let a = and_parts (may_begin w && nat_lt x.0 (length g.eos)) (are_note_expressions g ns) fits in
    in_context.begins (and_parts (may_begin w) (nat_lt x.0 (length g.eos)) a.0).0
ask-placed g w c in_context (Stmt.Stop x ns) v fits does atomic held =
    let a = and_parts (may_begin w && nat_lt x.0 (length g.eos)) (are_note_expressions g ns) fits in
    in_context.begins (and_parts (may_begin w) (nat_lt x.0 (length g.eos)) a.0).0
ask-placed g w c in_context (Stmt.Modify n e ns) v fits does atomic held =
    let a = and_parts (may_begin w && is_group_number g n && is_expression e) (are_note_expressions g ns) fits in
    let b = and_parts (may_begin w && is_group_number g n) (is_expression e) a.0 in
    in_context.begins (and_parts (may_begin w) (is_group_number g n) b.0).0
ask-placed g w c in_context Stmt.Fail v fits does atomic held = in_context.fails fits
ask-placed g w c in_context s v fits does atomic held = refl
