use Rattle.std.proofs.Common.{◌++◌}
use Rattle.em_script.specs.declared.line.Part.TheVariants as parts
use Rattle.em_script.specs.declared.line.Place.TheVariants as places
use Rattle.em_script.specs.Spelling.{optional_body, written_body}
use Rattle.em_script.proofs.Answers.{on_ok}
use Rattle.em_script.proofs.Bodies.{bodies_then}
use Rattle.em_script.proofs.printing.object_bodies.Goals as goal

pub returns : goal.returns
returns c =
    let g = c.args.config.now in
    let id = c.args.id in
    let d = c.args.eo.now in
    let receive = written_body d.given.receive (places.Object id parts.Receive) d.receive in
    let start = written_body d.given.start (places.Object id parts.Start) d.start in
    let stop = written_body d.given.stop (places.Object id parts.Stop) d.stop in
    let lstart = written_body d.given.lstart (places.Object id parts.LocalStart) d.lstart in
    let lstop = written_body d.given.lstop (places.Object id parts.LocalStop) d.lstop in
    let error = optional_body (places.Object id parts.Error) d.error in
    let last = c.optional_body.new.text in
    on_ok c.optional_body.result
    (λ more. bodies_then g c.args.text.now c.written_body.new.text last receive (start ++ (stop ++ (lstart ++ (lstop ++ error)))) c.in_ok-written_body.ensures
    (bodies_then g c.written_body.new.text c.written_body-2.new.text last start (stop ++ (lstart ++ (lstop ++ error))) c.in_ok-written_body-2.ensures
    (bodies_then g c.written_body-2.new.text c.written_body-3.new.text last stop (lstart ++ (lstop ++ error)) c.in_ok-written_body-3.ensures
    (bodies_then g c.written_body-3.new.text c.written_body-4.new.text last lstart (lstop ++ error) c.in_ok-written_body-4.ensures
    (bodies_then g c.written_body-4.new.text c.written_body-5.new.text last lstop error c.in_ok-written_body-5.ensures more)))))
    c.optional_body.ensures
