use Rattle.std.proofs.Common.{◌∷◌, ◌++◌, [], ap, ◌∙◌}
use Rattle.std.specs.List.{flat_map}
use Rattle.std.specs.Prelude.{codes, decimal}
use Rattle.em_script.specs.declared.line.Line.TheVariants as lines
use Rattle.em_script.specs.declared.line.Place.TheVariants as places
use Rattle.em_script.specs.Lines.{spaced}
use Rattle.em_script.specs.Spelling.{bodies_of, bodies_of_objects, body_lines, declared_lines, optional_body, spelling}
use Rattle.em_script.proofs.Bodies.{bodies_then}
use Rattle.em_script.proofs.Printed.{line_ended, text_of_then}
use Rattle.em_script.proofs.Spacing.{joined_begin}
use Rattle.em_script.proofs.printing.print.Goals as goal

pub returns : goal.returns
unfolding spelling
returns c =
    let g = c.args.config.now in
    let declared = flat_map (declared_lines g) g.order in
    let error = optional_body places.Error g.error in
    let objects = bodies_of_objects 0 g.eos in
    let bodies = flat_map body_lines (bodies_of g) in
    let done = lines.Done ∷ [] in
    let last = c.alone.new.text in
    let word = c.in_ok-begin.ensures ∙ ap (λ t. t ++ codes "cores") c.new-text.ensures in
    let number = c.in_ok-number.ensures ∙ ap (λ n. c.begin.new.self ++ spaced (decimal n ∷ [])) c.from.ensures in
    let tokens = joined_begin [] c.begin.new.self c.number.new.self (codes "cores") (decimal g.cores ∷ []) word number in
    let first = line_ended g [] c.number.new.self c.end.new.self (lines.Cores g.cores) tokens c.in_ok-end.ensures in
    let later = bodies_then g c.body.new.text c.optional_body.new.text c.objects_bodies.new.text error objects c.in_ok-optional_body.ensures c.in_ok-objects_bodies.ensures in
    let each = text_of_then g c.declarations.new.text c.body.new.text c.objects_bodies.new.text (body_lines (places.Boot, g.boot)) (flat_map body_lines (error ++ objects)) c.in_ok-body.ensures later in
    let end = text_of_then g c.declarations.new.text c.objects_bodies.new.text last bodies done each c.in_ok-alone.ensures in
    let behind = text_of_then g c.end.new.self c.declarations.new.text last declared (bodies ++ done) c.in_ok-declarations.ensures end in
    c.into_bytes.ensures ∙ text_of_then g [] c.end.new.self last (lines.Cores g.cores ∷ []) (declared ++ (bodies ++ done)) first behind
