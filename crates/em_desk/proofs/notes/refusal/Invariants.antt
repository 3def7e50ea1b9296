use Rattle.std.proofs.Common.{◌≡◌, List}
use Rattle.em_pool.specs.Steps.{PoolStep}
use Rattle.em_pool.specs.Stands as pools
use Rattle.em_desk.proofs.HandedNotes.{SoFar}
use Rattle.em_desk.proofs.notes.refusal.Given as goal

abbrev pub invariant-loop-note : goal.invariant-loop-note
invariant-loop-note l =
    (l.before ≡ l.note-index) × ((s : List PoolStep) → pools.Stands l.pools s → SoFar s l.core.0 l.place l.notes l.note-index)
