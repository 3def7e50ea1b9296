-- Which operation of a target is not done, by the target's number.
use Rattle.std.specs.Prelude.{◌≡◌, Bool, true, false, length, slice_index_or, Option, Some, None}
use Rattle.em_log.specs.declared.ids.OpId.{OpId}
use Rattle.em_acks.specs.declared.job.Target.{Target}
use Rattle.em_acks.specs.declared.unfinished.Unfinished.{Unfinished}
use Rattle.em_acks.specs.declared.pending.PendingOperations.{PendingOperations}

abbrev pub pending_at : PendingOperations → Target → Option OpId
pending_at p (Target.Eo x) = slice_index_or p.eos.items x.0 None
pending_at p (Target.Group g) = slice_index_or p.groups.items g.0 None

-- there is a place for each number
pub record HasPlaces (p : PendingOperations) : Type 0 where
  pub eos : length p.eos.items ≡ 256
  pub groups : length p.groups.items ≡ 256

-- nothing is kept of such an operation
abbrev pub is_done : Option Unfinished → Bool
is_done None = true
is_done (Some u) = false
