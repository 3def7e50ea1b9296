-- The greatest numbers of cores and of operations.
use Rattle.std.specs.Prelude.{ℕ}
use Rattle.em_log.specs.declared.bounds.TheConstants.{MAX_CORES, MAX_OPERATIONS}

-- the greatest number of cores of a graph
abbrev pub core_limit : ℕ
core_limit = MAX_CORES

-- the greatest number of operations of a run
abbrev pub operation_limit : ℕ
operation_limit = MAX_OPERATIONS
