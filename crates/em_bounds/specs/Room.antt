-- Room: how long a history can become before another context begins.
use Rattle.std.specs.Prelude.{ℕ, ◌+◌, Option, Some, None}
use Rattle.std.specs.List.{sum_by}
use Rattle.em_log.specs.declared.declarations.Declarations.{Declarations}
use Rattle.em_log.specs.declared.entry.What.{What}
use Rattle.em_log.specs.History.{Past}
use Rattle.em_log.specs.Declarations.{below}
use Rattle.em_log.specs.Contexts.{context}
use Rattle.em_log.specs.Allowance.{left}
use Rattle.em_bounds.specs.Paid.{paid}

abbrev pub left_if : Option What → ℕ → ℕ
left_if None n = 0
left_if (Some b) n = n

-- what core c's context has left, if one is open
abbrev pub left_open : Declarations → Past → ℕ → ℕ
left_open k past c = left_if (context past c) (left k past c)

-- what the open contexts have left
abbrev pub lefts : Declarations → Past → ℕ
lefts k past = sum_by (left_open k past) (below k.cores)

-- the history, and all that its open contexts may still add, is no longer
abbrev pub needed : Declarations → Past → ℕ
needed k past = paid past + lefts k past
