-- The script of a graph is spelled in lines that are read as they are, and so reading undoes printing.
use Rattle.std.proofs.Common.{◌≡◌, ◌-◌, ◌^◌, ◌<◌, false, true, [], ◌∷◌, ◌++◌, Ok, sym, subst, ◌∙◌}
use Rattle.std.specs.List.{flat_map}
use Rattle.em_log.specs.WellFormed.{IsWellFormed, no_counts}
use Rattle.em_log.specs.declared.graph.Config.{Config}
use Rattle.em_script.specs.declared.line.Line.TheVariants as lines
use Rattle.em_script.specs.Names.{first_table}
use Rattle.em_script.specs.Reading.{script_of}
use Rattle.em_script.specs.Spelling.{arranged, bodies_of, body_lines, declared_lines, spelling}
use Rattle.em_script.specs.State.{after, first_state}
use Rattle.em_script.proofs.BodiesRead.{between, bodies_of_read, bodies_read, boot_read, unwritten}
use Rattle.em_script.proofs.BodiesSpelled.{bodies_of_spelled, done_spelled}
use Rattle.em_script.proofs.Declaring.{all-named}
use Rattle.em_script.proofs.DeclarationsRead.{all_named, declaring, order_read}
use Rattle.em_script.proofs.DeclarationsSpelled.{cores_spelled, knows-first, order-knows, order_spelled}
use Rattle.em_script.proofs.LineSpelled.{AreSpelled-append}
use Rattle.em_script.proofs.Saying.{AreSpelled, spelled_read}
use Rattle.em_script.proofs.ScriptRead.{all-blocks, objects-given}
use Rattle.em_script.proofs.Taken.{powers}

arranged_spelled : (g : Config) → IsWellFormed g → AreSpelled g (arranged g (bodies_of g)) first_state
arranged_spelled g well =
    let declared = flat_map (declared_lines g) g.order in
    let bodies = flat_map body_lines (bodies_of g) in
    let done = lines.Done ∷ [] in
    let table = all_named g g.order first_table in
    let few : 2 ^ g.cores - 1 < 2 ^ 64 = powers g.cores well.few.cores.1 in
    let k = all-named g well (all_named g g.order first_table) (order-knows g well g.order no_counts first_table well.order (knows-first g)) in
    let whole = bodies_read g (unwritten g) (all_named g g.order first_table) false (bodies_of g) (all-blocks g well) ∙ λ i. between (bodies_of_read g (objects-given g g.eos well.eos) i) (all_named g g.order first_table) (boot_read g i) in (
      (cores_spelled g well).0,
      AreSpelled-append g declared (bodies ++ done) (after (lines.Cores g.cores) first_state) (order_spelled g well g.order [] no_counts first_table well.order (knows-first g))
          (subst (AreSpelled g (bodies ++ done)) (sym (order_read g g.order [] no_counts first_table well.order))
          (AreSpelled-append g bodies done (declaring (unwritten g) table) (bodies_of_spelled g table k (unwritten g) few (all-blocks g well)) (subst (AreSpelled g done) (sym whole) (done_spelled g table k g true few)))),
    )

pub reading_undone : (g : Config) → IsWellFormed g → script_of (spelling g) ≡ Ok g
reading_undone g well = spelled_read g well (arranged_spelled g well)
