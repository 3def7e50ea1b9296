use Rattle.std.proofs.Common.{◌<◌, ◌++◌, get_or, length, ap, sym, ◌∙◌}
use Rattle.std.specs.List.{flat_map}
use Rattle.em_script.specs.Spelling.{bodies_of_object, body_lines, text_of}
use Rattle.em_script.proofs.Bodies.{bodies_step}
use Rattle.em_script.proofs.printing.objects_bodies.Goals as goal

pub loop-n-preserved : goal.loop-n-preserved
loop-n-preserved c =
    let g = c.args.config.now in
    let n = c.loop-n.n in
    let lt : n < length g.eos = rw (sym c.as_slice-eo-items.ensures) c.loop-n-test.true in
    let is = c.eo-item.is ∙ ap (λ eos. get_or eos n c.eo-item.result) c.as_slice-eo-items.ensures in
    let wrote = c.in_ok-object_bodies.ensures ∙ ap (λ d. c.loop-n.text ++ text_of g (flat_map body_lines (bodies_of_object (record { 0 = n }) d))) is in
    bodies_step g g.eos n c.eo-item.result c.args.text.now c.loop-n.text c.object_bodies.new.text lt c.loop-n.invariant wrote
