-- For each core the set of the operations to which it owes a step.
use Rattle.std.specs.Prelude.{ℕ, ◌≡◌, ◌/◌, ◌%◌, ◌<◌, ◌==◌, ◌&&◌, nat_lt, Bool, false, List, [], length, slice_index_or, Option, if◌then◌else◌}
use Rattle.std.specs.Option.{option_map_or}
use Rattle.em_log.specs.Bounds.{operation_limit}
use Rattle.em_log.specs.History.{has}
use Rattle.em_acks.specs.declared.unfinished.Owing.{Owing}
use Rattle.em_acks.specs.declared.unfinished.Unfinished.{Unfinished}
use Rattle.em_acks.specs.declared.sets.OperationSet.{OperationSet}

-- whether operation n is in the set
abbrev pub contains : OperationSet → ℕ → Bool
contains s n = nat_lt n operation_limit && has (slice_index_or s.words (n / 64) []) (n % 64)

-- a set with no operation
abbrev pub no_operations : OperationSet
no_operations = record { words = [] }

abbrev pub set_at : List OperationSet → ℕ → OperationSet
set_at sets c = slice_index_or sets c no_operations

-- whether core c owes the next step
abbrev pub owes_in : ℕ → Owing → Bool
owes_in c (Owing.Global d) = d.0 == c
owes_in c (Owing.Local cores) = has cores c

abbrev pub owes : ℕ → Option Unfinished → Bool
owes c o = option_map_or (λ u. owes_in c u.owing) o false

-- a set for each core, and nothing in it
pub record AreClear (n : ℕ) (sets : List OperationSet) : Type 0 where
  pub count : length sets ≡ n
  pub each : (c m : ℕ) → c < n → contains (set_at sets c) m ≡ false

-- the sets of the cores below n tell who owes a step to operation op, which is now o, and are otherwise as they were
abbrev pub AreMarked : ℕ → List OperationSet → ℕ → Option Unfinished → List OperationSet → Type 0
AreMarked n old op o new =
    (c m : ℕ) → c < length old → contains (set_at new c) m ≡ (if nat_lt c n && (m == op) then owes c o else contains (set_at old c) m)
