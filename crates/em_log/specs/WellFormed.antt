-- Which graphs are those of scripts.
use mathlib.Core.Former.{Count}
use Rattle.std.specs.Prelude.{ℕ, zero, suc, ◌+◌, ◌^◌, ◌≤◌, ◌==◌, Bool, true, false, not, ◌&&◌, ◌||◌, nat_lt, nat_le, List, [], ◌∷◌, ◌++◌, length, map, Option, None, is_none, is_some, IsTrue, slice_get}
use Rattle.std.specs.List.{list_all}
use Rattle.std.specs.Option.{option_map_or, option_or}
use Rattle.em_log.specs.declared.body.Expr.{Expr}
use Rattle.em_log.specs.declared.body.Expr.TheBlock.{end_of-Expr, more_of-Expr}
use Rattle.em_log.specs.declared.body.Stmt.{Stmt}
use Rattle.em_log.specs.declared.body.Stmt.TheBlock.{Row_of-Stmt, end_of-Stmt, more_of-Stmt}
use Rattle.em_log.specs.declared.graph.Config.{Config}
use Rattle.em_log.specs.declared.graph.Decl.{Decl}
use Rattle.em_log.specs.declared.graph.EoDecl.{EoDecl}
use Rattle.em_log.specs.declared.graph.GroupDecl.{GroupDecl}
use Rattle.em_log.specs.declared.graph.PoolDecl.{PoolDecl}
use Rattle.em_log.specs.declared.graph.QueueDecl.{QueueDecl}
use Rattle.em_log.specs.declared.ids.GroupId.{GroupId}
use Rattle.em_log.specs.declared.ids.Kind.{Kind}
use Rattle.em_log.specs.declared.ids.QueueId.{QueueId}
use Rattle.em_log.specs.Bounds.{core_limit}
use Rattle.em_log.specs.Declarations.{pool_shape, event_total}
use Rattle.em_log.specs.Names.{is_name, are_different}
use Rattle.em_log.specs.Weights.{weight_of, steps_of}

-- declarations

abbrev pub is_pool : PoolDecl → Bool
is_pool d = nat_le 1 d.events && nat_le d.events 4096 && nat_le d.words 16

-- a mask names some core, and none that the graph lacks
abbrev pub is_group : ℕ → GroupDecl → Bool
is_group cores d = not (d.mask.0 == 0) && nat_lt d.mask.0 (2 ^ cores)

-- the queue group `all`, or a declared one
abbrev pub is_group_number : Config → GroupId → Bool
is_group_number g n = nat_le n.0 (length g.groups)

abbrev pub has_eo : Config → QueueDecl → Bool
has_eo g d = option_map_or (λ x. nat_lt x.0 (length g.eos)) d.eo false

abbrev pub has_group : Config → QueueDecl → Bool
has_group g d = option_map_or (is_group_number g) d.group false

abbrev pub has_agroup : Config → QueueDecl → Bool
has_agroup g d = option_map_or (λ a. nat_lt a (length g.agroups)) d.agroup false

-- an atomic queue is in a queue group, or in an atomic group, whose queue group is then its own
abbrev pub is_queue_of : Config → QueueDecl → Kind → Bool
is_queue_of g d Kind.Atomic =
    has_eo g d && is_some d.priority && ((has_group g d && is_none d.agroup) || (has_agroup g d && is_none d.group))
is_queue_of g d Kind.Parallel = has_eo g d && is_some d.priority && has_group g d && is_none d.agroup
is_queue_of g d Kind.Ordered = has_eo g d && is_some d.priority && has_group g d && is_none d.agroup
is_queue_of g d Kind.Local = has_eo g d && is_some d.priority && is_none d.group && is_none d.agroup
is_queue_of g d _ = is_none d.eo && is_none d.priority && is_none d.group && is_none d.agroup

abbrev pub is_queue_decl : Config → QueueDecl → Bool
is_queue_decl g d = is_queue_of g d d.kind

-- all names share one space
abbrev pub names_of : Config → List (List ℕ)
names_of g =
    map (λ d. d.name) g.pools ++ map (λ d. d.name) g.groups ++ map (λ d. d.name) g.eos ++ map (λ d. d.name) g.agroups
    ++ map (λ d. d.name) g.queues ++ g.egroups

-- the order of declarations

-- how many of each kind have been declared so far
pub record Counts : Type 0 where
  pub pools : ℕ
  pub groups : ℕ
  pub eos : ℕ
  pub agroups : ℕ
  pub queues : ℕ
  pub egroups : ℕ

-- what an atomic group or a queue uses was declared before
abbrev pub uses_agroup : Config → ℕ → Counts → Bool
uses_agroup g n so_far = option_map_or (λ d. nat_le d.group.0 so_far.groups) (slice_get g.agroups n) false

abbrev pub uses_of_queue : Counts → QueueDecl → Bool
uses_of_queue so_far d =
    option_map_or (λ x. nat_lt x.0 so_far.eos) d.eo true && option_map_or (λ n. nat_le n.0 so_far.groups) d.group true
    && option_map_or (λ a. nat_lt a so_far.agroups) d.agroup true

abbrev pub uses_queue : Config → ℕ → Counts → Bool
uses_queue g n so_far = option_map_or (uses_of_queue so_far) (slice_get g.queues n) false

-- this declaration may come now: it is the next of its kind, and what it uses has come
abbrev pub is_declared_next : Config → Decl → Counts → Bool
is_declared_next g (Decl.Pool n) so_far = n == so_far.pools
is_declared_next g (Decl.Group n) so_far = n == so_far.groups
is_declared_next g (Decl.Eo n) so_far = n == so_far.eos
is_declared_next g (Decl.Agroup n) so_far = (n == so_far.agroups) && uses_agroup g n so_far
is_declared_next g (Decl.Queue n) so_far = (n == so_far.queues) && uses_queue g n so_far
is_declared_next g (Decl.Egroup n) so_far = n == so_far.egroups

abbrev pub counted : Decl → Counts → Counts
counted (Decl.Pool n) so_far = record so_far { pools = suc so_far.pools }
counted (Decl.Group n) so_far = record so_far { groups = suc so_far.groups }
counted (Decl.Eo n) so_far = record so_far { eos = suc so_far.eos }
counted (Decl.Agroup n) so_far = record so_far { agroups = suc so_far.agroups }
counted (Decl.Queue n) so_far = record so_far { queues = suc so_far.queues }
counted (Decl.Egroup n) so_far = record so_far { egroups = suc so_far.egroups }

abbrev pub no_counts : Counts
no_counts = record { pools = 0; groups = 0; eos = 0; agroups = 0; queues = 0; egroups = 0 }

abbrev pub is_all : Config → Counts → Bool
is_all g n =
    (n.pools == length g.pools) && (n.groups == length g.groups) && (n.eos == length g.eos)
    && (n.agroups == length g.agroups) && (n.queues == length g.queues) && (n.egroups == length g.egroups)

-- each declaration is named once, within a kind by rising number, and after those that it uses
abbrev pub is_order_from : Config → List Decl → Counts → Bool
is_order_from g [] so_far = is_all g so_far
is_order_from g (d ∷ ds) so_far = is_declared_next g d so_far && is_order_from g ds (counted d so_far)

-- bodies

-- where a body stands
pub data Where : Type 0 where
  Boot : Where
  GlobalError : Where
  Receive : Where
  Start : Where
  OtherOfObject : Where

-- operations begin in boot and receive bodies alone
abbrev pub may_begin : Where → Bool
may_begin Boot = true
may_begin Receive = true
may_begin _ = false

-- events are kept and claimed in an object's bodies alone
abbrev pub is_of_object : Where → Bool
is_of_object Boot = false
is_of_object GlobalError = false
is_of_object _ = true

-- only a start body may fail
abbrev pub may_fail : Where → Bool
may_fail Start = true
may_fail _ = false

-- how many tokens an expression has
abbrev pub tokens : Expr → ℕ
tokens (Expr.Word' _ (more_of-Expr e end_of-Expr)) = suc (tokens e)
tokens (Expr.Cell' _ (more_of-Expr e end_of-Expr)) = suc (tokens e)
tokens (Expr.Add' _ (more_of-Expr a end_of-Expr) _ (more_of-Expr b end_of-Expr)) = suc (tokens a + tokens b)
tokens (Expr.Sub' _ (more_of-Expr a end_of-Expr) _ (more_of-Expr b end_of-Expr)) = suc (tokens a + tokens b)
tokens (Expr.Mul' _ (more_of-Expr a end_of-Expr) _ (more_of-Expr b end_of-Expr)) = suc (tokens a + tokens b)
tokens (Expr.And' _ (more_of-Expr a end_of-Expr) _ (more_of-Expr b end_of-Expr)) = suc (tokens a + tokens b)
tokens (Expr.Or' _ (more_of-Expr a end_of-Expr) _ (more_of-Expr b end_of-Expr)) = suc (tokens a + tokens b)
tokens (Expr.Xor' _ (more_of-Expr a end_of-Expr) _ (more_of-Expr b end_of-Expr)) = suc (tokens a + tokens b)
tokens (Expr.Shr' _ (more_of-Expr a end_of-Expr) _ (more_of-Expr b end_of-Expr)) = suc (tokens a + tokens b)
tokens (Expr.Lt' _ (more_of-Expr a end_of-Expr) _ (more_of-Expr b end_of-Expr)) = suc (tokens a + tokens b)
tokens (Expr.Eq' _ (more_of-Expr a end_of-Expr) _ (more_of-Expr b end_of-Expr)) = suc (tokens a + tokens b)
tokens e = 1

-- each number fits 64 bits, and each variable is one of sixteen
abbrev pub is_in_range : Expr → Bool
is_in_range (Expr.Number n) = nat_lt n (2 ^ 64)
is_in_range (Expr.Var i) = nat_lt i 16
is_in_range (Expr.Word' _ (more_of-Expr e end_of-Expr)) = is_in_range e
is_in_range (Expr.Cell' _ (more_of-Expr e end_of-Expr)) = is_in_range e
is_in_range (Expr.Add' _ (more_of-Expr a end_of-Expr) _ (more_of-Expr b end_of-Expr)) = is_in_range a && is_in_range b
is_in_range (Expr.Sub' _ (more_of-Expr a end_of-Expr) _ (more_of-Expr b end_of-Expr)) = is_in_range a && is_in_range b
is_in_range (Expr.Mul' _ (more_of-Expr a end_of-Expr) _ (more_of-Expr b end_of-Expr)) = is_in_range a && is_in_range b
is_in_range (Expr.And' _ (more_of-Expr a end_of-Expr) _ (more_of-Expr b end_of-Expr)) = is_in_range a && is_in_range b
is_in_range (Expr.Or' _ (more_of-Expr a end_of-Expr) _ (more_of-Expr b end_of-Expr)) = is_in_range a && is_in_range b
is_in_range (Expr.Xor' _ (more_of-Expr a end_of-Expr) _ (more_of-Expr b end_of-Expr)) = is_in_range a && is_in_range b
is_in_range (Expr.Shr' _ (more_of-Expr a end_of-Expr) _ (more_of-Expr b end_of-Expr)) = is_in_range a && is_in_range b
is_in_range (Expr.Lt' _ (more_of-Expr a end_of-Expr) _ (more_of-Expr b end_of-Expr)) = is_in_range a && is_in_range b
is_in_range (Expr.Eq' _ (more_of-Expr a end_of-Expr) _ (more_of-Expr b end_of-Expr)) = is_in_range a && is_in_range b
is_in_range e = true

abbrev pub is_expression : Expr → Bool
is_expression e = nat_le (tokens e) 32 && is_in_range e

abbrev pub are_expressions : List Expr → Bool
are_expressions es = list_all is_expression es

abbrev pub is_variable : ℕ → Bool
is_variable v = nat_lt v 16

abbrev pub is_queue_number : Config → QueueId → Bool
is_queue_number g q = nat_lt q.0 (length g.queues)

abbrev pub is_note : Config → Expr × QueueId → Bool
is_note g n = is_expression n.0 && is_queue_number g n.1

abbrev pub are_note_expressions : Config → List (Expr × QueueId) → Bool
are_note_expressions g ns = nat_le (length ns) 8 && list_all (is_note g) ns

-- a statement that is no block may stand there, and all that it names is declared
abbrev pub is_plain : Config → Where → Stmt → Bool
is_plain g w (Stmt.Set v e) = is_variable v && is_expression e
is_plain g w (Stmt.CellWrite c e) = is_expression c && is_expression e
is_plain g w (Stmt.Say e) = is_expression e
is_plain g w (Stmt.Alloc v p e es) =
    is_variable v && nat_lt p.0 (length g.pools) && is_expression e && nat_le (length es) 16 && are_expressions es
is_plain g w (Stmt.Free e) = is_expression e
is_plain g w (Stmt.Keep e) = is_of_object w && is_expression e
is_plain g w (Stmt.Send e q) = is_expression e && is_queue_number g q
is_plain g w (Stmt.SendG e q n) = is_expression e && is_queue_number g q && nat_lt n.0 (length g.egroups)
is_plain g w (Stmt.Claim v) = is_of_object w && is_variable v
is_plain g w (Stmt.Dequeue v q) = is_variable v && is_queue_number g q
is_plain g w (Stmt.Enable q) = is_queue_number g q
is_plain g w (Stmt.Disable q) = is_queue_number g q
is_plain g w (Stmt.Apply n e notes) = nat_lt n.0 (length g.egroups) && is_expression e && are_note_expressions g notes
is_plain g w (Stmt.Increment e) = is_expression e
is_plain g w (Stmt.Abort n) = nat_lt n.0 (length g.egroups)
is_plain g w (Stmt.Start x notes) = may_begin w && nat_lt x.0 (length g.eos) && are_note_expressions g notes
is_plain g w (Stmt.Stop x notes) = may_begin w && nat_lt x.0 (length g.eos) && are_note_expressions g notes
is_plain g w (Stmt.Modify n e notes) = may_begin w && is_group_number g n && is_expression e && are_note_expressions g notes
is_plain g w Stmt.Fail = may_fail w
is_plain g w s = true

abbrev pub is_empty_row : {n : Count} → Row_of-Stmt n → Bool
is_empty_row end_of-Stmt = true
is_empty_row (more_of-Stmt s ss) = false

-- a statement may stand there within so many more nested blocks; an `else` that was not written is empty
abbrev mutual
  pub is_statement : Config → Where → ℕ → Stmt → Bool
  is_statement g w zero (Stmt.If' e _ first _ second has_else) = false
  is_statement g w (suc d) (Stmt.If' e _ first _ second has_else) =
      is_expression e && are_statements g w d first && are_statements g w d second && (has_else || is_empty_row second)
  is_statement g w zero (Stmt.Repeat' n _ block) = false
  is_statement g w (suc d) (Stmt.Repeat' n _ block) = nat_le 1 n && nat_le n 256 && are_statements g w d block
  is_statement g w d s = is_plain g w s

  pub are_statements : {n : Count} → Config → Where → ℕ → Row_of-Stmt n → Bool
  are_statements g w d end_of-Stmt = true
  are_statements g w d (more_of-Stmt s ss) = is_statement g w d s && are_statements g w d ss

-- a body whose faults are served by this error body, if there is one: its statements, its weight and its steps
abbrev pub is_body : Config → Where → Option (List Stmt) → List Stmt → Bool
is_body g w error body =
    list_all (is_statement g w 16) body
    && nat_le (weight_of (option_map_or (weight_of 0) error 0) body) 256
    && nat_le (steps_of (option_map_or (steps_of 0) error 0) body) 65536

abbrev pub is_error_body : Config → Where → Option (List Stmt) → Bool
is_error_body g w body = option_map_or (is_body g w None) body true

abbrev pub is_unwritten : List Stmt → Bool
is_unwritten [] = true
is_unwritten (s ∷ ss) = false

-- a body that was not written is empty
abbrev pub are_given : EoDecl → Bool
are_given d =
    (d.given.receive || is_unwritten d.receive) && (d.given.start || is_unwritten d.start) && (d.given.stop || is_unwritten d.stop)
    && (d.given.lstart || is_unwritten d.lstart) && (d.given.lstop || is_unwritten d.lstop)

-- an object's bodies: its own error body serves their faults, else the global one
abbrev pub are_bodies : Config → EoDecl → Bool
are_bodies g d =
    let error = option_or d.error g.error in
    is_body g Receive error d.receive && is_body g Start error d.start && is_body g OtherOfObject error d.stop
    && is_body g OtherOfObject error d.lstart && is_body g OtherOfObject error d.lstop
    && is_error_body g OtherOfObject d.error && are_given d

-- the whole

pub record AreFew (g : Config) : Type 0 where
  pub cores : (1 ≤ g.cores) × (g.cores ≤ core_limit)
  pub pools : length g.pools ≤ 8
  pub events : event_total (map pool_shape g.pools) ≤ 4096
  pub groups : length g.groups ≤ 32
  pub eos : length g.eos ≤ 64
  pub agroups : length g.agroups ≤ 32
  pub queues : length g.queues ≤ 256
  pub egroups : length g.egroups ≤ 64

-- the graph is that of some script
pub record IsWellFormed (g : Config) : Type 0 where
  pub few : AreFew g
  pub names : IsTrue (list_all is_name (names_of g) && are_different (names_of g))
  pub order : IsTrue (is_order_from g g.order no_counts)
  pub pools : IsTrue (list_all is_pool g.pools)
  pub groups : IsTrue (list_all (is_group g.cores) g.groups)
  pub agroups : IsTrue (list_all (λ d. is_group_number g d.group) g.agroups)
  pub queues : IsTrue (list_all (is_queue_decl g) g.queues)
  pub boot : IsTrue (is_body g Boot g.error g.boot)
  pub error : IsTrue (is_error_body g GlobalError g.error)
  pub eos : IsTrue (list_all (are_bodies g) g.eos)
