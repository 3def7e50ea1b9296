-- The state of reading: the graph so far, what names stand for, and what stands open; and what each line does to it.
use Rattle.std.specs.Prelude.{ℕ, suc, Bool, true, false, ◌||◌, List, [], ◌∷◌, ◌++◌, length, Some, None, slice_get, slice_set}
use Rattle.std.specs.Option.{option_map_or}
use Rattle.std.specs.FinMap as map
use Rattle.em_log.specs.declared.body.Stmt.{Stmt}
use Rattle.em_log.specs.declared.body.Stmt.TheVariants as stmt
use Rattle.em_log.specs.declared.graph.Config.{Config}
use Rattle.em_log.specs.declared.graph.Decl.{Decl}
use Rattle.em_log.specs.declared.graph.Decl.TheVariants as decls
use Rattle.em_log.specs.declared.graph.EoDecl.{EoDecl}
use Rattle.em_script.specs.declared.named.Named.{Named}
use Rattle.em_script.specs.declared.named.Named.TheVariants as named
use Rattle.em_script.specs.declared.line.Line.{Line}
use Rattle.em_script.specs.declared.line.Line.TheVariants as lines
use Rattle.em_script.specs.declared.line.Part.{Part}
use Rattle.em_script.specs.declared.line.Part.TheVariants as parts
use Rattle.em_script.specs.declared.line.Place.{Place}
use Rattle.em_script.specs.declared.line.Place.TheVariants as places
use Rattle.em_script.specs.declared.phase.Phase.{Phase}
use Rattle.em_script.specs.declared.phase.Phase.TheVariants as phases
use Rattle.em_script.specs.declared.draft.Frame.{Frame}
use Rattle.em_script.specs.declared.draft.Opened.{Opened}
use Rattle.em_script.specs.declared.draft.Opened.TheVariants as opened
use Rattle.em_script.specs.declared.draft.Draft.{Draft}
use Rattle.em_script.specs.Names.{Table, first_table}

-- what has been read: the graph so far, the meanings of names, whether boot was given, what may come next, and in a body
-- the statements so far of the innermost block and the blocks around it, the innermost first
pub record State : Type 0 where
  pub graph : Config
  pub table : Table
  pub has_boot : Bool
  pub phase : Phase
  pub block : List Stmt
  pub nest : List Frame

abbrev pub no_graph : Config
no_graph =
    record {
      cores = 0;
      order = [];
      pools = [];
      groups = [];
      eos = [];
      agroups = [];
      queues = [];
      egroups = [];
      boot = [];
      error = None;
    }

abbrev pub first_state : State
first_state = record { graph = no_graph; table = first_table; has_boot = false; phase = phases.First; block = []; nest = [] }

-- ---- declarations

-- a name is given to what is declared, and the order of declarations grows
abbrev pub declared : List ℕ → Named → Decl → Config → State → State
declared name meaning d g s = record s { graph = record g { order = g.order ++ d ∷ [] }; table = map.insert s.table name meaning }

abbrev pub new_eo : List ℕ → Bool → EoDecl
new_eo name running =
    record {
      name = name;
      running = running;
      receive = [];
      start = [];
      stop = [];
      lstart = [];
      lstop = [];
      error = None;
      given = record { receive = false; start = false; stop = false; lstart = false; lstop = false };
    }

-- ---- bodies

abbrev pub with_part : Part → List Stmt → EoDecl → EoDecl
with_part parts.Receive b d = record d { receive = b; given = record d.given { receive = true } }
with_part parts.Start b d = record d { start = b; given = record d.given { start = true } }
with_part parts.Stop b d = record d { stop = b; given = record d.given { stop = true } }
with_part parts.LocalStart b d = record d { lstart = b; given = record d.given { lstart = true } }
with_part parts.LocalStop b d = record d { lstop = b; given = record d.given { lstop = true } }
with_part parts.Error b d = record d { error = Some b }

-- the objects where the one of this number has a body more
abbrev pub with_body_at : ℕ → Part → List Stmt → List EoDecl → List EoDecl
with_body_at n p b eos = option_map_or (λ d. slice_set eos n (with_part p b d)) (slice_get eos n) eos

abbrev pub with_body : Place → List Stmt → Config → Config
with_body places.Boot b g = record g { boot = b }
with_body places.Error b g = record g { error = Some b }
with_body (places.Object eo p) b g = record g { eos = with_body_at eo.0 p b g.eos }

abbrev pub is_boot : Place → Bool
is_boot places.Boot = true
is_boot _ = false

-- the statement that a block makes with what opened it
abbrev pub closed_block : Opened → List Stmt → Stmt
closed_block (opened.If e) b = stmt.If e b [] false
closed_block (opened.Else e first) b = stmt.If e first b true
closed_block (opened.Repeat n) b = stmt.Repeat n b

abbrev pub opened_by : Opened → State → State
opened_by o s = record s { block = []; nest = record { before = s.block; opened = o } ∷ s.nest }

abbrev pub body_ended : Phase → State → State
body_ended (phases.Body p) s =
    record s { graph = with_body p s.block s.graph; has_boot = s.has_boot || is_boot p; phase = phases.Bodies; block = [] }
body_ended _ s = s

-- an `end` closes the innermost block, or the body
abbrev pub ended : List Frame → State → State
ended [] s = body_ended s.phase s
ended (f ∷ fs) s = record s { block = f.before ++ closed_block f.opened s.block ∷ []; nest = fs }

-- an `else` ends the first branch of an `if` and begins the second
abbrev pub else_of : Opened → List Stmt → Opened
else_of (opened.If e) b = opened.Else e b
else_of o b = o

abbrev pub turned : List Frame → State → State
turned [] s = s
turned (f ∷ fs) s = record s { block = []; nest = record { before = f.before; opened = else_of f.opened s.block } ∷ fs }

-- ---- lines

-- the state after a line that no rule refuses
abbrev pub after : Line → State → State
after (lines.Cores n) s = record s { graph = record s.graph { cores = n }; phase = phases.Declarations }
after (lines.Pool d) s =
    let n = length s.graph.pools in
    declared d.name (named.Pool (record { 0 = n })) (decls.Pool n) (record s.graph { pools = s.graph.pools ++ d ∷ [] }) s
after (lines.Group name mask) s =
    let n = length s.graph.groups in
    declared name (named.Group (record { 0 = suc n })) (decls.Group n)
    (record s.graph { groups = s.graph.groups ++ record { name = name; mask = record { 0 = mask } } ∷ [] }) s
after (lines.Eo name running) s =
    let n = length s.graph.eos in
    declared name (named.Eo (record { 0 = n })) (decls.Eo n) (record s.graph { eos = s.graph.eos ++ new_eo name running ∷ [] }) s
after (lines.Agroup d) s =
    let n = length s.graph.agroups in
    declared d.name (named.Agroup n) (decls.Agroup n) (record s.graph { agroups = s.graph.agroups ++ d ∷ [] }) s
after (lines.Queue d) s =
    let n = length s.graph.queues in
    declared d.name (named.Queue (record { 0 = n })) (decls.Queue n) (record s.graph { queues = s.graph.queues ++ d ∷ [] }) s
after (lines.Egroup name) s =
    let n = length s.graph.egroups in
    declared name (named.Egroup (record { 0 = n })) (decls.Egroup n) (record s.graph { egroups = s.graph.egroups ++ name ∷ [] }) s
after (lines.Body p) s = record s { phase = phases.Body p }
after lines.Done s = record s { phase = phases.Done }
after (lines.Statement x) s = record s { block = s.block ++ x ∷ [] }
after (lines.If e) s = opened_by (opened.If e) s
after (lines.Repeat n) s = opened_by (opened.Repeat n) s
after lines.Else s = turned s.nest s
after lines.End s = ended s.nest s

abbrev pub after_all : List Line → State → State
after_all [] s = s
after_all (l ∷ ls) s = after_all ls (after l s)

-- ---- what the program keeps

abbrev pub graph_of : Draft → Config
graph_of d =
    record {
      cores = d.cores;
      order = d.order;
      pools = d.pools;
      groups = d.groups;
      eos = d.eos.items;
      agroups = d.agroups;
      queues = d.queues;
      egroups = d.egroups;
      boot = d.boot;
      error = d.error;
    }

-- what a draft of a graph shows
abbrev pub state_of : Draft → State
state_of d =
    record { graph = graph_of d; table = d.names; has_boot = d.has_boot; phase = d.phase; block = d.block; nest = d.nest }
