-- What is left to an open context of the entries that its asks may cause.
use Rattle.std.specs.Prelude.{ℕ, ◌+◌, ◌-◌, length}
use Rattle.std.specs.List.{sum_by}
use Rattle.em_log.specs.declared.declarations.Declarations.{Declarations}
use Rattle.em_log.specs.declared.ask.Ask.{Ask}
use Rattle.em_log.specs.declared.entry.What.{What}
use Rattle.em_log.specs.History.{Past}
use Rattle.em_log.specs.Legal.{leads}

-- the cost of an ask: an upper bound on the number of entries that it may ever cause
abbrev pub cost_of_ask : Ask → ℕ
cost_of_ask (Ask.Send w q g) = 2
cost_of_ask (Ask.Apply g n notes) = 2 + length notes
cost_of_ask (Ask.Start x notes) = 3 + length notes
cost_of_ask (Ask.Stop x notes) = 3 + length notes
cost_of_ask (Ask.Modify g m notes) = 3 + length notes
cost_of_ask (Ask.End cells) = 0
cost_of_ask ask = 1

-- what the ask has cost that gave this lead: a refused one 1, an end nothing
abbrev pub cost_of_lead : What → ℕ
cost_of_lead (What.Send h q t s) = 2
cost_of_lead (What.Apply g a n notes) = 2 + length notes
cost_of_lead (What.Begin op job notes) = 3 + length notes
cost_of_lead (What.End lost cells) = 0
cost_of_lead w = 1

-- the allowance of a context
abbrev pub allowance : ℕ
allowance = 256

-- what core c's open context has left of it
abbrev pub left : Declarations → Past → ℕ → ℕ
left k past c = allowance - sum_by (λ l. cost_of_lead l.what) (leads k past c)
