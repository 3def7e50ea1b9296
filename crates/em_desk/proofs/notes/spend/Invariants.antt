use Rattle.std.proofs.Common.{◌≡◌, List, drop}
use Rattle.em_pool.specs.Steps.{PoolStep}
use Rattle.em_pool.specs.Stands as pools
use Rattle.em_desk.specs.Notes.{CanNote}
use Rattle.em_desk.proofs.HandedNotes.{SpentFar}
use Rattle.em_desk.proofs.notes.spend.Given as goal

abbrev pub invariant-loop-note : goal.invariant-loop-note
invariant-loop-note l =
    record {
      can : CanNote l.pools l.core.0 l.place (drop l.note-index l.notes);
      spent : (s : List PoolStep) → pools.Stands l.fn.pools s → SpentFar l.pools s l.core.0 l.place l.notes (drop l.note-index l.notes);
      shapes : l.pools.pools ≡ l.fn.pools.pools;
      spare : l.pools.spare ≡ l.fn.pools.spare;
    }
