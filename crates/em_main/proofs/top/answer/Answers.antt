use Rattle.std.proofs.Common.{Err, refl, ap}
use Rattle.em_tool.specs.Outcome.{WriteFailed, NoMemoryWriting}
use Rattle.em_tool.proofs.Answering.{written-as}
use Rattle.em_main.proofs.top.answer.Goals as goal

pub returns-in-Ok-write : goal.returns-in-Ok-write
returns-in-Ok-write g c =
    written-as _ _ _ _ _ _ _ _ _ c.status.ensures c.in-Ok.ensures c.in-Ok-write.ensures.fits c.in-Ok-write.ensures.whole (c.in-Ok-write.ensures.sound (λ h. cc))

pub returns-in-Err-Failed : goal.returns-in-Err-Failed
returns-in-Err-Failed g c =
    WriteFailed _ _ c.in-Ok.ensures refl c.in-Err-Failed.ensures.part (c.in-Err-Failed.ensures.failed (ap (λ x. Err x) c.in-Err-Failed.field-0-is))

pub returns : goal.returns
returns g c = NoMemoryWriting _ _ c.in-Ok.ensures refl c.in-Err-NoMemory.ensures.part (c.in-Err-NoMemory.ensures.sound (λ h. cc))
