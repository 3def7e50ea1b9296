-- Reading a script: its graph, or the first line that fails with the least rule that fails there.
use Rattle.std.specs.Prelude.{ℕ, ◌+◌, ◌≡◌, Bool, true, false, List, [], ◌∷◌, Result, Ok, Err, if◌then◌else◌}
use Rattle.em_log.specs.declared.graph.Config.{Config}
use Rattle.em_script.specs.declared.phase.Phase.{Phase}
use Rattle.em_script.specs.declared.phase.Phase.TheVariants as phases
use Rattle.em_script.specs.declared.judging.Judged.{Judged}
use Rattle.em_script.specs.declared.judging.Judged.TheVariants as judgments
use Rattle.em_script.specs.declared.reading.ScriptEnd.{ScriptEnd}
use Rattle.em_script.specs.declared.reading.ScriptEnd.TheVariants as ends
use Rattle.em_script.specs.Lines.{lines}
use Rattle.em_script.specs.State.{State, first_state, after}
use Rattle.em_script.specs.Judging.{judge}

-- the graph, or the number of the line that fails and the rule
abbrev pub Found : Type 0
Found = Result Config (ℕ × ℕ)

abbrev pub is_done : Phase → Bool
is_done phases.Done = true
is_done _ = false

-- by what a line comes to: what the lines behind it give
abbrev pub followed : ℕ → State → Judged → (State → Found) → Found
followed number s judgments.Skipped more = more s
followed number s (judgments.Says line) more = more (after line s)
followed number s (judgments.Refused rule) more = Err (number, rule)

-- the lines from the one of this number on, in this state
unfoldable pub found_from : ℕ → State → List (List ℕ) → Found
found_from number s [] = if is_done s.phase then Ok s.graph else Err (number, 11)
found_from number s (line ∷ more) = followed number s (judge s line) (λ next. found_from (number + 1) next more)

-- the graph that a script declares, or the first line that fails and the least rule that fails there
unfoldable pub script_of : List ℕ → Found
script_of bytes = found_from 1 first_state (lines bytes)

-- the answer is what is found, unless memory ran out

abbrev pub FailsAs : ScriptEnd → Found → Type 0
FailsAs (ends.Refused line rule) found = found ≡ Err (line, rule)
FailsAs ends.NoMemory found = Unit {0}

abbrev pub Gives : Result Config ScriptEnd → Found → Type 0
Gives (Ok graph) found = found ≡ Ok graph
Gives (Err end) found = FailsAs end found
