-- Expressions and statements of a graph that is well formed have a spelling.
use Rattle.std.proofs.Common.{◌≡◌, ℕ, suc, ◌+◌, ◌^◌, ◌<◌, ◌≤◌, Bool, true, false, ◌&&◌, leb, ltb, List, [], ◌∷◌, ◌++◌, length, refl, ap, arith, length-append, leb-true, ltb-true, le-leb, lt-ltb}
use Rattle.std.specs.List.{AllByRecursion, list_all}
use Rattle.em_log.specs.declared.body.Expr.{Expr}
use Rattle.em_log.specs.declared.body.Expr.TheBlock.{end_of-Expr, more_of-Expr}
use Rattle.em_log.specs.declared.body.Stmt.{Stmt}
use Rattle.em_log.specs.declared.graph.Config.{Config}
use Rattle.em_log.specs.declared.ids.PoolId.{PoolId}
use Rattle.em_log.specs.declared.ids.GroupId.{GroupId}
use Rattle.em_log.specs.declared.ids.EoId.{EoId}
use Rattle.em_log.specs.declared.ids.QueueId.{QueueId}
use Rattle.em_log.specs.declared.ids.EventGroupId.{EventGroupId}
use Rattle.em_log.specs.WellFormed.{Where, tokens, is_in_range, is_expression, are_expressions, is_variable, is_queue_number, is_group_number, is_note, are_note_expressions, is_plain, is_of_object, may_begin}
use Rattle.em_script.specs.declared.symbol.Symbol.{Symbol}
use Rattle.em_script.specs.declared.named.Named.TheVariants as named
use Rattle.em_script.specs.Names.{Naming}
use Rattle.em_script.specs.Expressions.{symbols_of}
use Rattle.em_script.specs.Judging.{may_stand_at}
use Rattle.em_script.proofs.Forms.{All-append, and-both, and-true}
use Rattle.em_script.proofs.NameForms.{IsKnown}
use Rattle.em_script.proofs.ExpressionForm.{SymbolFits, ExprFits}
use Rattle.em_script.proofs.StatementForms.{NoteFits, NotesFit, WordsFit, StmtFits}

All-parts : {A : Type 0} (P : A → Type 0) (xs ys : List A) → AllByRecursion P (xs ++ ys) → AllByRecursion P xs × AllByRecursion P ys
All-parts P [] ys h = (tt, h)
All-parts P (x ∷ xs) ys h = let r = All-parts P xs ys h.1 in ((h.0, r.0), r.1)

-- ---- expressions

added : (m n : ℕ) (xs ys : List Symbol) → m ≡ length xs → n ≡ length ys → suc (m + n) ≡ suc (length (xs ++ ys))
added m n xs ys e h = omega (arith, length-append xs ys)

tokens-symbols : (e : Expr) → tokens e ≡ length (symbols_of e)
tokens-symbols (Expr.Number n) = refl
tokens-symbols (Expr.Var v) = refl
tokens-symbols Expr.Kind = refl
tokens-symbols Expr.Size = refl
tokens-symbols (Expr.Word' _ (more_of-Expr e end_of-Expr)) = ap suc (tokens-symbols e)
tokens-symbols Expr.Me = refl
tokens-symbols Expr.Queue = refl
tokens-symbols Expr.Core = refl
tokens-symbols (Expr.Cell' _ (more_of-Expr e end_of-Expr)) = ap suc (tokens-symbols e)
tokens-symbols Expr.LastOk = refl
tokens-symbols Expr.FaultNumber = refl
tokens-symbols Expr.Detail = refl
tokens-symbols (Expr.Add' _ (more_of-Expr a end_of-Expr) _ (more_of-Expr b end_of-Expr)) = added (tokens a) (tokens b) (symbols_of a) (symbols_of b) (tokens-symbols a) (tokens-symbols b)
tokens-symbols (Expr.Sub' _ (more_of-Expr a end_of-Expr) _ (more_of-Expr b end_of-Expr)) = added (tokens a) (tokens b) (symbols_of a) (symbols_of b) (tokens-symbols a) (tokens-symbols b)
tokens-symbols (Expr.Mul' _ (more_of-Expr a end_of-Expr) _ (more_of-Expr b end_of-Expr)) = added (tokens a) (tokens b) (symbols_of a) (symbols_of b) (tokens-symbols a) (tokens-symbols b)
tokens-symbols (Expr.And' _ (more_of-Expr a end_of-Expr) _ (more_of-Expr b end_of-Expr)) = added (tokens a) (tokens b) (symbols_of a) (symbols_of b) (tokens-symbols a) (tokens-symbols b)
tokens-symbols (Expr.Or' _ (more_of-Expr a end_of-Expr) _ (more_of-Expr b end_of-Expr)) = added (tokens a) (tokens b) (symbols_of a) (symbols_of b) (tokens-symbols a) (tokens-symbols b)
tokens-symbols (Expr.Xor' _ (more_of-Expr a end_of-Expr) _ (more_of-Expr b end_of-Expr)) = added (tokens a) (tokens b) (symbols_of a) (symbols_of b) (tokens-symbols a) (tokens-symbols b)
tokens-symbols (Expr.Shr' _ (more_of-Expr a end_of-Expr) _ (more_of-Expr b end_of-Expr)) = added (tokens a) (tokens b) (symbols_of a) (symbols_of b) (tokens-symbols a) (tokens-symbols b)
tokens-symbols (Expr.Lt' _ (more_of-Expr a end_of-Expr) _ (more_of-Expr b end_of-Expr)) = added (tokens a) (tokens b) (symbols_of a) (symbols_of b) (tokens-symbols a) (tokens-symbols b)
tokens-symbols (Expr.Eq' _ (more_of-Expr a end_of-Expr) _ (more_of-Expr b end_of-Expr)) = added (tokens a) (tokens b) (symbols_of a) (symbols_of b) (tokens-symbols a) (tokens-symbols b)

range-fits : (e : Expr) → is_in_range e ≡ true → AllByRecursion SymbolFits (symbols_of e)
range-fits (Expr.Number n) h = (ltb-true n (2 ^ 64) h, tt)
range-fits (Expr.Var v) h = (let lt = ltb-true v 16 h in omega arith, tt)
range-fits Expr.Kind h = (tt, tt)
range-fits Expr.Size h = (tt, tt)
range-fits (Expr.Word' _ (more_of-Expr e end_of-Expr)) h = (tt, range-fits e h)
range-fits Expr.Me h = (tt, tt)
range-fits Expr.Queue h = (tt, tt)
range-fits Expr.Core h = (tt, tt)
range-fits (Expr.Cell' _ (more_of-Expr e end_of-Expr)) h = (tt, range-fits e h)
range-fits Expr.LastOk h = (tt, tt)
range-fits Expr.FaultNumber h = (tt, tt)
range-fits Expr.Detail h = (tt, tt)
range-fits (Expr.Add' _ (more_of-Expr a end_of-Expr) _ (more_of-Expr b end_of-Expr)) h = (tt, let p = and-true (is_in_range a) (is_in_range b) h in All-append SymbolFits (symbols_of a) (symbols_of b) (range-fits a p.0) (range-fits b p.1))
range-fits (Expr.Sub' _ (more_of-Expr a end_of-Expr) _ (more_of-Expr b end_of-Expr)) h = (tt, let p = and-true (is_in_range a) (is_in_range b) h in All-append SymbolFits (symbols_of a) (symbols_of b) (range-fits a p.0) (range-fits b p.1))
range-fits (Expr.Mul' _ (more_of-Expr a end_of-Expr) _ (more_of-Expr b end_of-Expr)) h = (tt, let p = and-true (is_in_range a) (is_in_range b) h in All-append SymbolFits (symbols_of a) (symbols_of b) (range-fits a p.0) (range-fits b p.1))
range-fits (Expr.And' _ (more_of-Expr a end_of-Expr) _ (more_of-Expr b end_of-Expr)) h = (tt, let p = and-true (is_in_range a) (is_in_range b) h in All-append SymbolFits (symbols_of a) (symbols_of b) (range-fits a p.0) (range-fits b p.1))
range-fits (Expr.Or' _ (more_of-Expr a end_of-Expr) _ (more_of-Expr b end_of-Expr)) h = (tt, let p = and-true (is_in_range a) (is_in_range b) h in All-append SymbolFits (symbols_of a) (symbols_of b) (range-fits a p.0) (range-fits b p.1))
range-fits (Expr.Xor' _ (more_of-Expr a end_of-Expr) _ (more_of-Expr b end_of-Expr)) h = (tt, let p = and-true (is_in_range a) (is_in_range b) h in All-append SymbolFits (symbols_of a) (symbols_of b) (range-fits a p.0) (range-fits b p.1))
range-fits (Expr.Shr' _ (more_of-Expr a end_of-Expr) _ (more_of-Expr b end_of-Expr)) h = (tt, let p = and-true (is_in_range a) (is_in_range b) h in All-append SymbolFits (symbols_of a) (symbols_of b) (range-fits a p.0) (range-fits b p.1))
range-fits (Expr.Lt' _ (more_of-Expr a end_of-Expr) _ (more_of-Expr b end_of-Expr)) h = (tt, let p = and-true (is_in_range a) (is_in_range b) h in All-append SymbolFits (symbols_of a) (symbols_of b) (range-fits a p.0) (range-fits b p.1))
range-fits (Expr.Eq' _ (more_of-Expr a end_of-Expr) _ (more_of-Expr b end_of-Expr)) h = (tt, let p = and-true (is_in_range a) (is_in_range b) h in All-append SymbolFits (symbols_of a) (symbols_of b) (range-fits a p.0) (range-fits b p.1))

fits-range : (e : Expr) → AllByRecursion SymbolFits (symbols_of e) → is_in_range e ≡ true
fits-range (Expr.Number n) h = lt-ltb n (2 ^ 64) h.0
fits-range (Expr.Var v) h = lt-ltb v 16 (let le = h.0 in omega arith)
fits-range Expr.Kind h = refl
fits-range Expr.Size h = refl
fits-range (Expr.Word' _ (more_of-Expr e end_of-Expr)) h = fits-range e h.1
fits-range Expr.Me h = refl
fits-range Expr.Queue h = refl
fits-range Expr.Core h = refl
fits-range (Expr.Cell' _ (more_of-Expr e end_of-Expr)) h = fits-range e h.1
fits-range Expr.LastOk h = refl
fits-range Expr.FaultNumber h = refl
fits-range Expr.Detail h = refl
fits-range (Expr.Add' _ (more_of-Expr a end_of-Expr) _ (more_of-Expr b end_of-Expr)) h = let p = All-parts SymbolFits (symbols_of a) (symbols_of b) h.1 in and-both (is_in_range a) (is_in_range b) (fits-range a p.0) (fits-range b p.1)
fits-range (Expr.Sub' _ (more_of-Expr a end_of-Expr) _ (more_of-Expr b end_of-Expr)) h = let p = All-parts SymbolFits (symbols_of a) (symbols_of b) h.1 in and-both (is_in_range a) (is_in_range b) (fits-range a p.0) (fits-range b p.1)
fits-range (Expr.Mul' _ (more_of-Expr a end_of-Expr) _ (more_of-Expr b end_of-Expr)) h = let p = All-parts SymbolFits (symbols_of a) (symbols_of b) h.1 in and-both (is_in_range a) (is_in_range b) (fits-range a p.0) (fits-range b p.1)
fits-range (Expr.And' _ (more_of-Expr a end_of-Expr) _ (more_of-Expr b end_of-Expr)) h = let p = All-parts SymbolFits (symbols_of a) (symbols_of b) h.1 in and-both (is_in_range a) (is_in_range b) (fits-range a p.0) (fits-range b p.1)
fits-range (Expr.Or' _ (more_of-Expr a end_of-Expr) _ (more_of-Expr b end_of-Expr)) h = let p = All-parts SymbolFits (symbols_of a) (symbols_of b) h.1 in and-both (is_in_range a) (is_in_range b) (fits-range a p.0) (fits-range b p.1)
fits-range (Expr.Xor' _ (more_of-Expr a end_of-Expr) _ (more_of-Expr b end_of-Expr)) h = let p = All-parts SymbolFits (symbols_of a) (symbols_of b) h.1 in and-both (is_in_range a) (is_in_range b) (fits-range a p.0) (fits-range b p.1)
fits-range (Expr.Shr' _ (more_of-Expr a end_of-Expr) _ (more_of-Expr b end_of-Expr)) h = let p = All-parts SymbolFits (symbols_of a) (symbols_of b) h.1 in and-both (is_in_range a) (is_in_range b) (fits-range a p.0) (fits-range b p.1)
fits-range (Expr.Lt' _ (more_of-Expr a end_of-Expr) _ (more_of-Expr b end_of-Expr)) h = let p = All-parts SymbolFits (symbols_of a) (symbols_of b) h.1 in and-both (is_in_range a) (is_in_range b) (fits-range a p.0) (fits-range b p.1)
fits-range (Expr.Eq' _ (more_of-Expr a end_of-Expr) _ (more_of-Expr b end_of-Expr)) h = let p = All-parts SymbolFits (symbols_of a) (symbols_of b) h.1 in and-both (is_in_range a) (is_in_range b) (fits-range a p.0) (fits-range b p.1)

pub expression-fits : (e : Expr) → is_expression e ≡ true → ExprFits e
expression-fits e h =
    let p = and-true (leb (tokens e) 32) (is_in_range e) h in
    let le = leb-true (tokens e) 32 p.0 in
    let same = tokens-symbols e in
    record { few = omega arith; each = range-fits e p.1 }

pub fits-expression : (e : Expr) → ExprFits e → is_expression e ≡ true
fits-expression e fits =
    let few = fits.few in
    let same = tokens-symbols e in
    and-both (leb (tokens e) 32) (is_in_range e) (le-leb (tokens e) 32 (omega arith)) (fits-range e fits.each)

-- ---- statements

-- the names of all that a graph declares are known
pub record KnowsAll (names : Naming) (g : Config) : Type 0 where
  pub pools : (id : PoolId) → id.0 < length g.pools → IsKnown names (named.Pool id)
  pub groups : (id : GroupId) → is_group_number g id ≡ true → IsKnown names (named.Group id)
  pub eos : (id : EoId) → id.0 < length g.eos → IsKnown names (named.Eo id)
  pub agroups : (n : ℕ) → n < length g.agroups → IsKnown names (named.Agroup n)
  pub queues : (id : QueueId) → id.0 < length g.queues → IsKnown names (named.Queue id)
  pub egroups : (id : EventGroupId) → id.0 < length g.egroups → IsKnown names (named.Egroup id)

variable-fits : (v : ℕ) → is_variable v ≡ true → v ≤ 15
variable-fits v h = let lt = ltb-true v 16 h in omega arith

each-fits : (es : List Expr) → are_expressions es ≡ true → AllByRecursion ExprFits es
each-fits [] h = tt
each-fits (e ∷ es) h = let p = and-true (is_expression e) (are_expressions es) h in (expression-fits e p.0, each-fits es p.1)

abbrev pub is_block : Stmt → Bool
is_block (Stmt.If' e _ a _ b h) = true
is_block (Stmt.Repeat' n _ b) = true
is_block s = false

module _ (names : Naming) (g : Config) (k : KnowsAll names g) where
  queue-fits : (q : QueueId) → is_queue_number g q ≡ true → IsKnown names (named.Queue q)
  queue-fits q h = k.queues q (ltb-true q.0 (length g.queues) h)

  each_note-fits : (ns : List (Expr × QueueId)) → list_all (is_note g) ns ≡ true → AllByRecursion (NoteFits names) ns
  each_note-fits [] h = tt
  each_note-fits (n ∷ ns) h =
      let p = and-true (is_note g n) (list_all (is_note g) ns) h in
      let q = and-true (is_expression n.0) (is_queue_number g n.1) p.0 in
      ((expression-fits n.0 q.0, queue-fits n.1 q.1), each_note-fits ns p.1)

  notes-fit : (ns : List (Expr × QueueId)) → are_note_expressions g ns ≡ true → NotesFit names ns
  notes-fit ns h = let p = and-true (leb (length ns) 8) (list_all (is_note g) ns) h in (leb-true (length ns) 8 p.0, each_note-fits ns p.1)

  words-fit : (es : List Expr) → leb (length es) 16 ≡ true → are_expressions es ≡ true → WordsFit es
  words-fit es h i = (leb-true (length es) 16 h, each-fits es i)

  -- a statement that is no block, where it may stand and names what there is
  pub plain-fits : (w : Where) (x : Stmt) → is_block x ≡ false → is_plain g w x ≡ true → StmtFits names x
  plain-fits w (Stmt.Set v e) s h = let p = and-true (is_variable v) (is_expression e) h in (variable-fits v p.0, (expression-fits e p.1, tt))
  plain-fits w (Stmt.CellWrite c e) s h = let p = and-true (is_expression c) (is_expression e) h in (expression-fits c p.0, (expression-fits e p.1, tt))
  plain-fits w (Stmt.Say e) s h = (expression-fits e h, tt)
  plain-fits w (Stmt.Alloc v p e es) s h =
      let a = and-true (is_variable v && ltb p.0 (length g.pools) && is_expression e && leb (length es) 16) (are_expressions es) h in
      let b = and-true (is_variable v && ltb p.0 (length g.pools) && is_expression e) (leb (length es) 16) a.0 in
      let c = and-true (is_variable v && ltb p.0 (length g.pools)) (is_expression e) b.0 in
      let d = and-true (is_variable v) (ltb p.0 (length g.pools)) c.0 in
      (variable-fits v d.0, (k.pools p (ltb-true p.0 (length g.pools) d.1), (expression-fits e c.1, words-fit es b.1 a.1)))
  plain-fits w (Stmt.Free e) s h = (expression-fits e h, tt)
  plain-fits w (Stmt.Keep e) s h = let p = and-true (is_of_object w) (is_expression e) h in (expression-fits e p.1, tt)
  plain-fits w (Stmt.Send e q) s h = let p = and-true (is_expression e) (is_queue_number g q) h in (expression-fits e p.0, (queue-fits q p.1, tt))
  plain-fits w (Stmt.SendG e q n) s h =
      let a = and-true (is_expression e && is_queue_number g q) (ltb n.0 (length g.egroups)) h in
      let p = and-true (is_expression e) (is_queue_number g q) a.0 in
      (expression-fits e p.0, (queue-fits q p.1, (k.egroups n (ltb-true n.0 (length g.egroups) a.1), tt)))
  plain-fits w (Stmt.Claim v) s h = let p = and-true (is_of_object w) (is_variable v) h in (variable-fits v p.1, tt)
  plain-fits w (Stmt.Dequeue v q) s h = let p = and-true (is_variable v) (is_queue_number g q) h in (variable-fits v p.0, (queue-fits q p.1, tt))
  plain-fits w (Stmt.Enable q) s h = (queue-fits q h, tt)
  plain-fits w (Stmt.Disable q) s h = (queue-fits q h, tt)
  plain-fits w Stmt.EndAtomic s h = tt
  plain-fits w Stmt.EndOrdered s h = tt
  plain-fits w Stmt.EndGroup s h = tt
  plain-fits w (Stmt.Apply n e ns) s h =
      let a = and-true (ltb n.0 (length g.egroups) && is_expression e) (are_note_expressions g ns) h in
      let b = and-true (ltb n.0 (length g.egroups)) (is_expression e) a.0 in
      (k.egroups n (ltb-true n.0 (length g.egroups) b.0), (expression-fits e b.1, notes-fit ns a.1))
  plain-fits w (Stmt.Increment e) s h = (expression-fits e h, tt)
  plain-fits w (Stmt.Abort n) s h = (k.egroups n (ltb-true n.0 (length g.egroups) h), tt)
  plain-fits w (Stmt.Start x ns) s h =
      let a = and-true (may_begin w && ltb x.0 (length g.eos)) (are_note_expressions g ns) h in
      let b = and-true (may_begin w) (ltb x.0 (length g.eos)) a.0 in
      (k.eos x (ltb-true x.0 (length g.eos) b.1), notes-fit ns a.1)
  plain-fits w (Stmt.Stop x ns) s h =
      let a = and-true (may_begin w && ltb x.0 (length g.eos)) (are_note_expressions g ns) h in
      let b = and-true (may_begin w) (ltb x.0 (length g.eos)) a.0 in
      (k.eos x (ltb-true x.0 (length g.eos) b.1), notes-fit ns a.1)
  plain-fits w (Stmt.Modify n e ns) s h =
      let a = and-true (may_begin w && is_group_number g n && is_expression e) (are_note_expressions g ns) h in
      let b = and-true (may_begin w && is_group_number g n) (is_expression e) a.0 in
      let c = and-true (may_begin w) (is_group_number g n) b.0 in
      (k.groups n c.1, (expression-fits e b.1, notes-fit ns a.1))
  plain-fits w Stmt.Fail s h = tt
  plain-fits w (Stmt.If' e _ a _ b i) s h = absurd cc
  plain-fits w (Stmt.Repeat' n _ b) s h = absurd cc

-- ---- and what has a spelling is well formed

-- what is known is declared
pub record KnowsOnly (names : Naming) (g : Config) : Type 0 where
  pub pools : (id : PoolId) → IsKnown names (named.Pool id) → id.0 < length g.pools
  pub groups : (id : GroupId) → IsKnown names (named.Group id) → is_group_number g id ≡ true
  pub eos : (id : EoId) → IsKnown names (named.Eo id) → id.0 < length g.eos
  pub agroups : (n : ℕ) → IsKnown names (named.Agroup n) → n < length g.agroups
  pub queues : (id : QueueId) → IsKnown names (named.Queue id) → id.0 < length g.queues
  pub egroups : (id : EventGroupId) → IsKnown names (named.Egroup id) → id.0 < length g.egroups

fits-variable : (v : ℕ) → v ≤ 15 → is_variable v ≡ true
fits-variable v le = lt-ltb v 16 (omega arith)

fits-each : (es : List Expr) → AllByRecursion ExprFits es → are_expressions es ≡ true
fits-each [] h = refl
fits-each (e ∷ es) h = and-both (is_expression e) (are_expressions es) (fits-expression e h.0) (fits-each es h.1)

module _ (names : Naming) (g : Config) (k : KnowsOnly names g) where
  fits-queue : (q : QueueId) → IsKnown names (named.Queue q) → is_queue_number g q ≡ true
  fits-queue q h = lt-ltb q.0 (length g.queues) (k.queues q h)

  fits-egroup : (n : EventGroupId) → IsKnown names (named.Egroup n) → ltb n.0 (length g.egroups) ≡ true
  fits-egroup n h = lt-ltb n.0 (length g.egroups) (k.egroups n h)

  fits-eo : (x : EoId) → IsKnown names (named.Eo x) → ltb x.0 (length g.eos) ≡ true
  fits-eo x h = lt-ltb x.0 (length g.eos) (k.eos x h)

  fits-each_note : (ns : List (Expr × QueueId)) → AllByRecursion (NoteFits names) ns → list_all (is_note g) ns ≡ true
  fits-each_note [] h = refl
  fits-each_note (n ∷ ns) h =
      and-both (is_note g n) (list_all (is_note g) ns) (and-both (is_expression n.0) (is_queue_number g n.1) (fits-expression n.0 h.0.0) (fits-queue n.1 h.0.1)) (fits-each_note ns h.1)

  fits-notes : (ns : List (Expr × QueueId)) → NotesFit names ns → are_note_expressions g ns ≡ true
  fits-notes ns h = and-both (leb (length ns) 8) (list_all (is_note g) ns) (le-leb (length ns) 8 h.0) (fits-each_note ns h.1)

  pub fits-plain : (w : Where) (x : Stmt) → StmtFits names x → may_stand_at w x ≡ true → is_plain g w x ≡ true
  fits-plain w (Stmt.Set v e) h m = and-both (is_variable v) (is_expression e) (fits-variable v h.0) (fits-expression e h.1.0)
  fits-plain w (Stmt.CellWrite c e) h m = and-both (is_expression c) (is_expression e) (fits-expression c h.0) (fits-expression e h.1.0)
  fits-plain w (Stmt.Say e) h m = fits-expression e h.0
  fits-plain w (Stmt.Alloc v p e es) h m =
      and-both (is_variable v && ltb p.0 (length g.pools) && is_expression e && leb (length es) 16) (are_expressions es)
      (and-both (is_variable v && ltb p.0 (length g.pools) && is_expression e) (leb (length es) 16)
      (and-both (is_variable v && ltb p.0 (length g.pools)) (is_expression e)
      (and-both (is_variable v) (ltb p.0 (length g.pools)) (fits-variable v h.0) (lt-ltb p.0 (length g.pools) (k.pools p h.1.0)))
      (fits-expression e h.1.1.0))
      (le-leb (length es) 16 h.1.1.1.0))
      (fits-each es h.1.1.1.1)
  fits-plain w (Stmt.Free e) h m = fits-expression e h.0
  fits-plain w (Stmt.Keep e) h m = and-both (is_of_object w) (is_expression e) m (fits-expression e h.0)
  fits-plain w (Stmt.Send e q) h m = and-both (is_expression e) (is_queue_number g q) (fits-expression e h.0) (fits-queue q h.1.0)
  fits-plain w (Stmt.SendG e q n) h m =
      and-both (is_expression e && is_queue_number g q) (ltb n.0 (length g.egroups)) (and-both (is_expression e) (is_queue_number g q) (fits-expression e h.0) (fits-queue q h.1.0)) (fits-egroup n h.1.1.0)
  fits-plain w (Stmt.Claim v) h m = and-both (is_of_object w) (is_variable v) m (fits-variable v h.0)
  fits-plain w (Stmt.Dequeue v q) h m = and-both (is_variable v) (is_queue_number g q) (fits-variable v h.0) (fits-queue q h.1.0)
  fits-plain w (Stmt.Enable q) h m = fits-queue q h.0
  fits-plain w (Stmt.Disable q) h m = fits-queue q h.0
  fits-plain w Stmt.EndAtomic h m = refl
  fits-plain w Stmt.EndOrdered h m = refl
  fits-plain w Stmt.EndGroup h m = refl
  fits-plain w (Stmt.Apply n e ns) h m =
      and-both (ltb n.0 (length g.egroups) && is_expression e) (are_note_expressions g ns) (and-both (ltb n.0 (length g.egroups)) (is_expression e) (fits-egroup n h.0) (fits-expression e h.1.0)) (fits-notes ns h.1.1)
  fits-plain w (Stmt.Increment e) h m = fits-expression e h.0
  fits-plain w (Stmt.Abort n) h m = fits-egroup n h.0
  fits-plain w (Stmt.Start x ns) h m =
      and-both (may_begin w && ltb x.0 (length g.eos)) (are_note_expressions g ns) (and-both (may_begin w) (ltb x.0 (length g.eos)) m (fits-eo x h.0)) (fits-notes ns h.1)
  fits-plain w (Stmt.Stop x ns) h m =
      and-both (may_begin w && ltb x.0 (length g.eos)) (are_note_expressions g ns) (and-both (may_begin w) (ltb x.0 (length g.eos)) m (fits-eo x h.0)) (fits-notes ns h.1)
  fits-plain w (Stmt.Modify n e ns) h m =
      and-both (may_begin w && is_group_number g n && is_expression e) (are_note_expressions g ns)
      (and-both (may_begin w && is_group_number g n) (is_expression e) (and-both (may_begin w) (is_group_number g n) m (k.groups n h.0)) (fits-expression e h.1.0))
      (fits-notes ns h.1.1)
  fits-plain w Stmt.Fail h m = m
  fits-plain w (Stmt.If' e _ a _ b i) h m = absurd h
  fits-plain w (Stmt.Repeat' n _ b) h m = absurd h
