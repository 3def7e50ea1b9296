use Rattle.std.proofs.Common.{ℕ, List, Err, refl, ap, subst, ◌∙◌}
use Rattle.std.specs.Io.KnownBytes.{append_known}
use Rattle.em_io.specs.Sink.{AppendsPrefix}
use Rattle.em_view.specs.Outcome.{Written, WriteFailed}
use Rattle.em_view.proofs.view.em_view.Goals as goal

pub returns-in-Ok-write : goal.returns-in-Ok-write
returns-in-Ok-write g c =
    let before = g.K.Sink.written c.args.sink.now in
    Written c.in-Ok.text.items c.in-Ok.ensures (c.in-Ok-write.ensures.whole ∙ ap (λ bs. append_known before bs) c.as_slice.ensures.value)
    (c.in-Ok-write.ensures.sound (λ h. cc))

pub returns-in-Err-Failed : goal.returns-in-Err-Failed
returns-in-Err-Failed g c =
    let failed = ap (λ x. Err x) c.in-Err-Failed.field-0-is in
    let part = subst (λ (bs : List ℕ). AppendsPrefix (g.K.Sink.written c.args.sink.now) (g.K.Sink.written c.write.new.self) bs) c.as_slice.ensures.value
    (c.in-Err-Failed.ensures.failed_part failed) in
    WriteFailed c.in-Ok.status c.in-Ok.text.items c.in-Ok.ensures refl part (c.in-Err-Failed.ensures.failed failed)
