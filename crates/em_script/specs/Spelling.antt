-- The canonical spelling of a graph: the lines that declare it, and their tokens.
use mathlib.Core.Former.{Count}
use Rattle.std.specs.Prelude.{ℕ, suc, Bool, true, false, List, [], ◌∷◌, ◌++◌, map, flat_map, Option, Some, None, option_to_list, slice_get, codes}
use Rattle.std.specs.Option.{option_map}
use Rattle.em_log.specs.declared.body.Stmt.{Stmt}
use Rattle.em_log.specs.declared.body.Stmt.TheBlock.{Row_of-Stmt, end_of-Stmt, more_of-Stmt}
use Rattle.em_log.specs.declared.graph.Config.{Config}
use Rattle.em_log.specs.declared.graph.Decl.{Decl}
use Rattle.em_log.specs.declared.graph.EoDecl.{EoDecl}
use Rattle.em_log.specs.declared.ids.EoId.{EoId}
use Rattle.em_script.specs.declared.line.Line.{Line}
use Rattle.em_script.specs.declared.line.Line.TheVariants as lines
use Rattle.em_script.specs.declared.line.Part.TheVariants as parts
use Rattle.em_script.specs.declared.line.Place.{Place}
use Rattle.em_script.specs.declared.line.Place.TheVariants as places
use Rattle.em_script.specs.Lines.{spelled}
use Rattle.em_script.specs.Names.{Naming, writing}
use Rattle.em_script.specs.Statements.{value_form, repeat_form, statement_tokens}
use Rattle.em_script.specs.Declarations.{cores_form, pool_form, group_form, eo_form, agroup_form, egroup_form, body_form, queue_tokens}

-- ---- tokens

abbrev pub place_tokens : Naming → Place → List (List ℕ)
place_tokens names places.Boot = codes "boot" ∷ []
place_tokens names places.Error = codes "error" ∷ []
place_tokens names (places.Object eo p) = codes "body" ∷ (body_form names).write (eo, (p, tt))

-- the tokens of a line
abbrev pub line_tokens : Naming → Line → List (List ℕ)
line_tokens names (lines.Cores n) = codes "cores" ∷ cores_form.write (n, tt)
line_tokens names (lines.Pool d) = codes "pool" ∷ (pool_form names).write (d.name, (d.events, (d.words, tt)))
line_tokens names (lines.Group name mask) = codes "group" ∷ (group_form names 0).write (name, (mask, tt))
line_tokens names (lines.Eo name running) = codes "eo" ∷ (eo_form names).write (name, (running, tt))
line_tokens names (lines.Agroup d) = codes "agroup" ∷ (agroup_form names).write (d.name, (d.group, tt))
line_tokens names (lines.Queue d) = codes "queue" ∷ queue_tokens names d
line_tokens names (lines.Egroup name) = codes "egroup" ∷ (egroup_form names).write (name, tt)
line_tokens names (lines.Body p) = place_tokens names p
line_tokens names lines.Done = codes "done" ∷ []
line_tokens names (lines.Statement s) = statement_tokens names s
line_tokens names (lines.If e) = codes "if" ∷ value_form.write (e, tt)
line_tokens names (lines.Repeat n) = codes "repeat" ∷ repeat_form.write (n, tt)
line_tokens names lines.Else = codes "else" ∷ []
line_tokens names lines.End = codes "end" ∷ []

-- ---- declarations

-- the line of a declaration
abbrev pub declared_lines : Config → Decl → List Line
declared_lines g (Decl.Pool n) = option_to_list (option_map (λ d. lines.Pool d) (slice_get g.pools n))
declared_lines g (Decl.Group n) = option_to_list (option_map (λ d. lines.Group d.name d.mask.0) (slice_get g.groups n))
declared_lines g (Decl.Eo n) = option_to_list (option_map (λ d. lines.Eo d.name d.running) (slice_get g.eos n))
declared_lines g (Decl.Agroup n) = option_to_list (option_map (λ d. lines.Agroup d) (slice_get g.agroups n))
declared_lines g (Decl.Queue n) = option_to_list (option_map (λ d. lines.Queue d) (slice_get g.queues n))
declared_lines g (Decl.Egroup n) = option_to_list (option_map (λ name. lines.Egroup name) (slice_get g.egroups n))

-- ---- bodies

abbrev pub else_lines : Bool → List Line → List Line
else_lines true more = lines.Else ∷ more
else_lines false more = []

-- the lines of a statement, and of the statements of a block
abbrev mutual
  pub statement_lines : Stmt → List Line
  statement_lines (Stmt.If' e _ first _ second has_else) =
      lines.If e ∷ (row_lines first ++ (else_lines has_else (row_lines second) ++ lines.End ∷ []))
  statement_lines (Stmt.Repeat' n _ block) = lines.Repeat n ∷ (row_lines block ++ lines.End ∷ [])
  statement_lines s = lines.Statement s ∷ []

  pub row_lines : {n : Count} → Row_of-Stmt n → List Line
  row_lines end_of-Stmt = []
  row_lines (more_of-Stmt s ss) = statement_lines s ++ row_lines ss

abbrev pub block_lines : List Stmt → List Line
block_lines [] = []
block_lines (s ∷ ss) = statement_lines s ++ block_lines ss

-- a body with its place
abbrev pub Placed : Type 0
Placed = Place × List Stmt

abbrev pub body_lines : Placed → List Line
body_lines p = lines.Body p.0 ∷ (block_lines p.1 ++ lines.End ∷ [])

abbrev pub written_body : Bool → Place → List Stmt → List Placed
written_body true p b = (p, b) ∷ []
written_body false p b = []

abbrev pub optional_body : Place → Option (List Stmt) → List Placed
optional_body p None = []
optional_body p (Some b) = (p, b) ∷ []

abbrev pub bodies_of_object : EoId → EoDecl → List Placed
bodies_of_object eo d =
    written_body d.given.receive (places.Object eo parts.Receive) d.receive
    ++ (written_body d.given.start (places.Object eo parts.Start) d.start
    ++ (written_body d.given.stop (places.Object eo parts.Stop) d.stop
    ++ (written_body d.given.lstart (places.Object eo parts.LocalStart) d.lstart
    ++ (written_body d.given.lstop (places.Object eo parts.LocalStop) d.lstop
    ++ optional_body (places.Object eo parts.Error) d.error))))

abbrev pub bodies_of_objects : ℕ → List EoDecl → List Placed
bodies_of_objects n [] = []
bodies_of_objects n (d ∷ ds) = bodies_of_object (record { 0 = n }) d ++ bodies_of_objects (suc n) ds

-- the bodies that are written: boot, the error body of the whole, and those of the objects by number
abbrev pub bodies_of : Config → List Placed
bodies_of g = (places.Boot, g.boot) ∷ (optional_body places.Error g.error ++ bodies_of_objects 0 g.eos)

-- ---- the whole

-- the lines of a script with these bodies
abbrev pub arranged : Config → List Placed → List Line
arranged g bodies = lines.Cores g.cores ∷ (flat_map (declared_lines g) g.order ++ (flat_map body_lines bodies ++ lines.Done ∷ []))

-- lines as text
abbrev pub text_of : Config → List Line → List ℕ
text_of g ls = spelled (map (line_tokens (writing g)) ls)

-- the script of a graph
unfoldable pub spelling : Config → List ℕ
spelling g = text_of g (arranged g (bodies_of g))
