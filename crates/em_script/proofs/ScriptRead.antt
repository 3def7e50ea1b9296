-- The lines of a script, read: they give the graph.
use Rattle.std.proofs.Common.{◌≡◌, ℕ, suc, Bool, true, false, ◌&&◌, List, [], ◌∷◌, ◌++◌, Option, Some, None, refl, ap, ◌∙◌}
use Rattle.std.specs.List.{flat_map, list_all}
use Rattle.std.specs.Option.{option_map_or, option_or}
use Rattle.std.specs.Prelude.{nat_le}
use Rattle.em_log.specs.Weights.{weight_of, steps_of}
use Rattle.em_log.specs.WellFormed.{Receive, Start, OtherOfObject, IsWellFormed, are_bodies, are_given, is_body, is_error_body, is_statement, no_counts}
use Rattle.em_log.specs.declared.body.Stmt.{Stmt}
use Rattle.em_log.specs.declared.graph.Config.{Config}
use Rattle.em_log.specs.declared.graph.EoDecl.{EoDecl}
use Rattle.em_script.specs.declared.line.Line.TheVariants as lines
use Rattle.em_script.specs.declared.line.Part.TheVariants as parts
use Rattle.em_script.specs.declared.line.Place.{Place}
use Rattle.em_script.specs.declared.line.Place.TheVariants as places
use Rattle.em_script.specs.declared.phase.Phase.TheVariants as phases
use Rattle.em_script.specs.Judging.{where_of}
use Rattle.em_script.specs.Names.{first_table}
use Rattle.em_script.specs.Spelling.{Placed, arranged, bodies_of, bodies_of_object, bodies_of_objects, body_lines, declared_lines, optional_body, written_body}
use Rattle.em_script.specs.State.{State, after, after_all, first_state}
use Rattle.em_script.proofs.Ascii.{both}
use Rattle.em_script.proofs.BlocksRead.{after_all-append}
use Rattle.em_script.proofs.BodiesRead.{AreBlocks, IsBlock, between, bodies_of_read, bodies_read, boot_read, unwritten}
use Rattle.em_script.proofs.DeclarationsRead.{all_named, declaring, order_read}

-- ---- the statements of each body

block-of : (g : Config) (p : Place) (error : Option (List Stmt)) (b : List Stmt) → is_body g (where_of p) error b ≡ true → IsBlock g (p, b)
block-of g p error b e =
    let light = both (list_all (is_statement g (where_of p) 16) b && nat_le (weight_of (option_map_or (weight_of 0) error 0) b) 256) (nat_le (steps_of (option_map_or (steps_of 0) error 0) b) 65536) e in
    (both (list_all (is_statement g (where_of p) 16) b) (nat_le (weight_of (option_map_or (weight_of 0) error 0) b) 256) light.0).0

AreBlocks-append : (g : Config) (xs ys : List Placed) → AreBlocks g xs → AreBlocks g ys → AreBlocks g (xs ++ ys)
AreBlocks-append g [] ys a b = b
AreBlocks-append g (x ∷ xs) ys a b = (a.0, AreBlocks-append g xs ys a.1 b)

written-blocks : (g : Config) (given : Bool) (p : Place) (b : List Stmt) → IsBlock g (p, b) → AreBlocks g (written_body given p b)
written-blocks g true p b a = (a, tt)
written-blocks g false p b a = tt

optional-blocks : (g : Config) (p : Place) (b : Option (List Stmt)) → is_error_body g (where_of p) b ≡ true → AreBlocks g (optional_body p b)
optional-blocks g p None e = tt
optional-blocks g p (Some b) e = (block-of g p None b e, tt)

-- the tests of an object's bodies, by name
pub record AreBodies (g : Config) (d : EoDecl) : Type 0 where
  pub receive : is_body g Receive (option_or d.error g.error) d.receive ≡ true
  pub start : is_body g Start (option_or d.error g.error) d.start ≡ true
  pub stop : is_body g OtherOfObject (option_or d.error g.error) d.stop ≡ true
  pub lstart : is_body g OtherOfObject (option_or d.error g.error) d.lstart ≡ true
  pub lstop : is_body g OtherOfObject (option_or d.error g.error) d.lstop ≡ true
  pub error : is_error_body g OtherOfObject d.error ≡ true
  pub given : are_given d ≡ true

seven : (a b c d e f h : Bool) → (a && b && c && d && e && f && h) ≡ true → (a ≡ true) × (b ≡ true) × (c ≡ true) × (d ≡ true) × (e ≡ true) × (f ≡ true) × (h ≡ true)
seven true true true true true true true p = (refl, refl, refl, refl, refl, refl, refl)
seven true true true true true true false p = absurd cc
seven true true true true true false h p = absurd cc
seven true true true true false f h p = absurd cc
seven true true true false e f h p = absurd cc
seven true true false d e f h p = absurd cc
seven true false c d e f h p = absurd cc
seven false b c d e f h p = absurd cc

pub bodies-of : (g : Config) (d : EoDecl) → are_bodies g d ≡ true → AreBodies g d
bodies-of g d e =
    let error = option_or d.error g.error in
    let t = seven (is_body g Receive (option_or d.error g.error) d.receive) (is_body g Start (option_or d.error g.error) d.start) (is_body g OtherOfObject (option_or d.error g.error) d.stop) (is_body g OtherOfObject (option_or d.error g.error) d.lstart) (is_body g OtherOfObject (option_or d.error g.error) d.lstop) (is_error_body g OtherOfObject d.error) (are_given d) e in
    record { receive = t.0; start = t.1; stop = t.2; lstart = t.3; lstop = t.4; error = t.5; given = t.6 }

object-blocks : (g : Config) (n : ℕ) (d : EoDecl) → AreBodies g d → AreBlocks g (bodies_of_object (record { 0 = n }) d)
object-blocks g n d a =
    let error = option_or d.error g.error in
    let w1 = written_body d.given.receive (places.Object (record { 0 = n }) parts.Receive) d.receive in
    let w2 = written_body d.given.start (places.Object (record { 0 = n }) parts.Start) d.start in
    let w3 = written_body d.given.stop (places.Object (record { 0 = n }) parts.Stop) d.stop in
    let w4 = written_body d.given.lstart (places.Object (record { 0 = n }) parts.LocalStart) d.lstart in
    let w5 = written_body d.given.lstop (places.Object (record { 0 = n }) parts.LocalStop) d.lstop in
    let w6 = optional_body (places.Object (record { 0 = n }) parts.Error) d.error in
    AreBlocks-append g w1 (w2 ++ (w3 ++ (w4 ++ (w5 ++ w6)))) (written-blocks g d.given.receive (places.Object (record { 0 = n }) parts.Receive) d.receive (block-of g (places.Object (record { 0 = n }) parts.Receive) error d.receive a.receive))
    (AreBlocks-append g w2 (w3 ++ (w4 ++ (w5 ++ w6))) (written-blocks g d.given.start (places.Object (record { 0 = n }) parts.Start) d.start (block-of g (places.Object (record { 0 = n }) parts.Start) error d.start a.start))
    (AreBlocks-append g w3 (w4 ++ (w5 ++ w6)) (written-blocks g d.given.stop (places.Object (record { 0 = n }) parts.Stop) d.stop (block-of g (places.Object (record { 0 = n }) parts.Stop) error d.stop a.stop))
    (AreBlocks-append g w4 (w5 ++ w6) (written-blocks g d.given.lstart (places.Object (record { 0 = n }) parts.LocalStart) d.lstart (block-of g (places.Object (record { 0 = n }) parts.LocalStart) error d.lstart a.lstart))
    (AreBlocks-append g w5 w6 (written-blocks g d.given.lstop (places.Object (record { 0 = n }) parts.LocalStop) d.lstop (block-of g (places.Object (record { 0 = n }) parts.LocalStop) error d.lstop a.lstop))
    (optional-blocks g (places.Object (record { 0 = n }) parts.Error) d.error a.error)))))

objects-blocks : (g : Config) (n : ℕ) (ds : List EoDecl) → list_all (are_bodies g) ds ≡ true → AreBlocks g (bodies_of_objects n ds)
objects-blocks g n [] e = tt
objects-blocks g n (d ∷ ds) e =
    let each = both (are_bodies g d) (list_all (are_bodies g) ds) e in
    AreBlocks-append g (bodies_of_object (record { 0 = n }) d) (bodies_of_objects (suc n) ds) (object-blocks g n d (bodies-of g d each.0)) (objects-blocks g (suc n) ds each.1)

pub objects-given : (g : Config) (ds : List EoDecl) → list_all (are_bodies g) ds ≡ true → list_all are_given ds ≡ true
objects-given g [] e = refl
objects-given g (d ∷ ds) e =
    let each = both (are_bodies g d) (list_all (are_bodies g) ds) e in
    λ i. (bodies-of g d each.0).given i && objects-given g ds each.1 i

pub all-blocks : (g : Config) → IsWellFormed g → AreBlocks g (bodies_of g)
all-blocks g well =
    (block-of g places.Boot g.error g.boot well.boot, AreBlocks-append g (optional_body places.Error g.error) (bodies_of_objects 0 g.eos) (optional-blocks g places.Error g.error well.error) (objects-blocks g 0 g.eos well.eos))

-- ---- the whole

-- the state at the end of the script of a graph
abbrev pub read_whole : Config → State
read_whole g = record { graph = g; table = all_named g g.order first_table; has_boot = true; phase = phases.Done; block = []; nest = [] }

pub arranged_read : (g : Config) → IsWellFormed g → after_all (arranged g (bodies_of g)) first_state ≡ read_whole g
arranged_read g well =
    let declared = flat_map (declared_lines g) g.order in
    let bodies = flat_map body_lines (bodies_of g) in
    let done = lines.Done ∷ [] in
    let table = all_named g g.order first_table in
    after_all-append declared (bodies ++ done) (after (lines.Cores g.cores) first_state)
    ∙ ap (after_all (bodies ++ done)) (order_read g g.order [] no_counts first_table well.order)
    ∙ after_all-append bodies done (declaring (unwritten g) table)
    ∙ ap (after_all done) (bodies_read g (unwritten g) table false (bodies_of g) (all-blocks g well) ∙ λ i. between (bodies_of_read g (objects-given g g.eos well.eos) i) table (boot_read g i))
