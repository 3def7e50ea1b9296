-- What a call of a command comes to: the status and the text that are due, and what is written of it.
use Rattle.std.specs.Prelude.{ℕ, ◌≡◌, ◌<◌, ◌≤◌, ◌+◌, ◌++◌, List, [], ◌∷◌, length, reverse, codes, false, Option, IfSome, IsTrue, Ok, Err}
use Rattle.std.specs.Fmt.{decimal}
use Rattle.std.specs.Io.KnownBytes.{append_known, IsAtEnd}
use Rattle.em_log.specs.declared.graph.Config.{Config}
use Rattle.em_log.specs.declared.entry.Entry.{Entry}
use Rattle.em_log.specs.declared.ids.Limits.{Limits}
use Rattle.em_log.specs.declared.ids.EndKind.{EndKind}
use Rattle.em_log.specs.Declarations.{declarations_of}
use Rattle.em_log.specs.Eligible.{is_quiet, is_at_limit}
use Rattle.em_log.specs.Legal.{IsLegal}
use Rattle.em_io.specs.Faults.{HasRisen}
use Rattle.em_io.specs.Sink.{AppendsPrefix}
use Rattle.em_io.specs.Source.{Takes}
use Rattle.em_laws.specs.AllLaws.{KeepsLaws}
use Rattle.em_drive.specs.Runnable.{is_runnable}
use Rattle.em_script.specs.Reading.{Found, script_of}
use Rattle.em_script.specs.Spelling.{spelling}
use Rattle.em_trace.specs.Fitting.{AreEntries}
use Rattle.em_trace.specs.Text.{text}
use Rattle.em_tool.specs.declared.commands.Command.{Command}
use Rattle.em_tool.specs.declared.commands.Command.TheVariants as commands
use Rattle.em_tool.specs.declared.commands.Solo.{Solo}
use Rattle.em_tool.specs.declared.outcome.Outcome.{Outcome}
use Rattle.em_tool.specs.declared.outcome.Outcome.TheVariants as outcomes
use Rattle.em_tool.specs.Words.{IsCheck, IsCommand, IsSolo}

-- reading

-- what a call did to its source: the bytes left, where it tells them, how many it has given, and its count of faults
pub record Reading : Type 0 where
  pub left : Option (List ℕ)
  pub left_after : Option (List ℕ)
  pub given : ℕ
  pub given_after : ℕ
  pub faults : ℕ
  pub faults_after : ℕ

abbrev pub most_bytes : ℕ
most_bytes = 65536

-- nothing was read
pub record IsUntouched (r : Reading) : Type 0 where
  pub left : r.left_after ≡ r.left
  pub given : r.given_after ≡ r.given
  pub faults : r.faults_after ≡ r.faults

-- the source was read to its end, no call on it failed, and these were its bytes
pub record ReadsAll (r : Reading) (bytes : List ℕ) : Type 0 where
  pub takes : Takes r.left r.left_after r.given r.given_after bytes
  pub at_end : IsAtEnd r.left_after
  pub within : length bytes ≤ most_bytes
  pub faults : r.faults_after ≡ r.faults

-- more bytes were taken than a script may have, and no call failed
pub record ReadsTooMuch (r : Reading) : Type 0 where
  pub given : r.given + most_bytes < r.given_after
  pub left : IfSome r.left (λ bytes. most_bytes < length bytes)
  pub faults : r.faults_after ≡ r.faults

-- running

-- nothing is left to do, or the stated number of receives has started and one more would be served
abbrev pub HasEnded : Config → Limits → List Entry → EndKind → Type 0
HasEnded g l history EndKind.Quiet = IsTrue (is_quiet (declarations_of g) (reverse history))
HasEnded g l history EndKind.Limit = IsTrue (is_at_limit (declarations_of g) l (reverse history))

-- the history is a legal one of the graph under the limits, keeps the laws of all histories, and has ended so
pub record Runs (g : Config) (l : Limits) (history : List Entry) (end : EndKind) : Type 0 where
  pub runnable : IsTrue (is_runnable g)
  pub legal : IsLegal g l history
  pub laws : KeepsLaws (declarations_of g) (reverse history)
  pub ended : HasEnded g l history end

-- what is due

abbrev pub not_known_text : List ℕ
not_known_text = codes "words not known" ++ 10 ∷ []

abbrev pub read_failed_text : List ℕ
read_failed_text = codes "read failed" ++ 10 ∷ []

abbrev pub too_long_text : List ℕ
too_long_text = codes "input too long" ++ 10 ∷ []

-- the line that fails, from 1, and the least rule that fails there
abbrev pub refused_text : ℕ → ℕ → List ℕ
refused_text line rule = codes "refused line " ++ (decimal line ++ (codes " rule " ++ (decimal rule ++ 10 ∷ [])))

-- rule 12: the graph does not run today
abbrev pub not_runnable_text : List ℕ
not_runnable_text = refused_text 1 12

abbrev pub status_of_end : EndKind → ℕ
status_of_end EndKind.Quiet = 0
status_of_end EndKind.Limit = 3

abbrev pub status_of : Outcome → ℕ
status_of outcomes.NotKnown = 2
status_of outcomes.ReadFailed = 5
status_of outcomes.TooLong = 6
status_of (outcomes.Refused line rule) = 4
status_of outcomes.NotRunnable = 4
status_of (outcomes.Ran desk end) = status_of_end end
status_of (outcomes.Checked bytes) = 0

-- what is written: a line or a spelling, or the trace of a run
pub data Told : Type 0 where
  Plain : List ℕ → Told
  Trace : List Entry → EndKind → Told

abbrev pub bytes_of : Told → List ℕ
bytes_of (Plain bytes) = bytes
bytes_of (Trace history end) = text history end

-- the numbers of a trace fit their types, so that its text is that of no other such history
abbrev pub Fits : Told → Type 0
Fits (Plain bytes) = Unit {0}
Fits (Trace history end) = AreEntries history

abbrev pub told_of : Outcome → Told
told_of outcomes.NotKnown = Plain not_known_text
told_of outcomes.ReadFailed = Plain read_failed_text
told_of outcomes.TooLong = Plain too_long_text
told_of (outcomes.Refused line rule) = Plain (refused_text line rule)
told_of outcomes.NotRunnable = Plain not_runnable_text
told_of (outcomes.Ran desk end) = Trace (reverse desk.past) end
told_of (outcomes.Checked bytes) = Plain bytes.items

-- what a command comes to at a graph
abbrev pub GraphComesTo : Config → Command → Outcome → Type 0
GraphComesTo g (commands.Solo s) outcomes.NotRunnable = is_runnable g ≡ false
GraphComesTo g (commands.Solo s) (outcomes.Ran desk end) = Runs g s.limits (reverse desk.past) end
GraphComesTo g commands.Check (outcomes.Checked bytes) = bytes.items ≡ spelling g
GraphComesTo g command outcome = ⊥

-- what a command comes to where the bytes are a script of a graph, or are refused
abbrev pub ComesTo : Found → Command → Outcome → Type 0
ComesTo (Ok g) command outcome = GraphComesTo g command outcome
ComesTo (Err (line, rule)) command outcome = outcome ≡ outcomes.Refused line rule

-- why this status and this text are due for these words and this reading; the first case that holds decides
pub data Due (words : List (List ℕ)) (r : Reading) (status : ℕ) (told : Told) : Type 0 where
  NotKnown : ((c : Command) → IsCommand words c → ⊥) → IsUntouched r → status ≡ 2 → told ≡ Plain not_known_text → Due words r status told
  ReadFailed : (c : Command) → IsCommand words c → HasRisen r.faults r.faults_after → status ≡ 5 → told ≡ Plain read_failed_text
      → Due words r status told
  TooLong : (c : Command) → IsCommand words c → ReadsTooMuch r → status ≡ 6 → told ≡ Plain too_long_text → Due words r status told
  Refused : (c : Command) → IsCommand words c → (bytes : List ℕ) → ReadsAll r bytes → (line rule : ℕ) → script_of bytes ≡ Err (line, rule)
      → status ≡ 4 → told ≡ Plain (refused_text line rule) → Due words r status told
  NotRunnable : (s : Solo) → IsSolo words s → (bytes : List ℕ) → ReadsAll r bytes → (graph : Config) → script_of bytes ≡ Ok graph
      → is_runnable graph ≡ false → status ≡ 4 → told ≡ Plain not_runnable_text → Due words r status told
  Ran : (s : Solo) → IsSolo words s → (bytes : List ℕ) → ReadsAll r bytes → (graph : Config) → script_of bytes ≡ Ok graph
      → (history : List Entry) → (end : EndKind) → Runs graph s.limits history end → status ≡ status_of_end end → told ≡ Trace history end
      → Due words r status told
  Checked : IsCheck words → (bytes : List ℕ) → ReadsAll r bytes → (graph : Config) → script_of bytes ≡ Ok graph → status ≡ 0
      → told ≡ Plain (spelling graph) → Due words r status told

-- what was written, and the status: the text that is due, or a prefix of it with status 1 where a call on the sink
-- failed; status 7, want of memory, is free
pub data Answers (words : List (List ℕ)) (r : Reading) (written after : Option (List ℕ)) (faults faults_after status : ℕ) : Type 0 where
  Written : (told : Told) → Due words r status told → Fits told → after ≡ append_known written (bytes_of told) → faults_after ≡ faults
      → Answers words r written after faults faults_after status
  WriteFailed : (due : ℕ) (told : Told) → Due words r due told → status ≡ 1 → AppendsPrefix written after (bytes_of told)
      → HasRisen faults faults_after → Answers words r written after faults faults_after status
  NoMemory : status ≡ 7 → after ≡ written → faults_after ≡ faults → Answers words r written after faults faults_after status
  NoMemoryWriting : (due : ℕ) (told : Told) → Due words r due told → status ≡ 7 → AppendsPrefix written after (bytes_of told)
      → faults_after ≡ faults → Answers words r written after faults faults_after status
