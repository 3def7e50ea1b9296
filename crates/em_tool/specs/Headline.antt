-- The main theorem's statement.
use Rattle.std.specs.Prelude.{ℕ, ◌≡◌, ◌≤◌, ◌⊎◌, List, length, reverse, Option, Some, IsTrue}
use Rattle.std.specs.Io.KnownBytes.{append_known}
use Rattle.em_log.specs.declared.graph.Config.{Config}
use Rattle.em_log.specs.declared.entry.Entry.{Entry}
use Rattle.em_log.specs.declared.ids.EndKind.{EndKind}
use Rattle.em_log.specs.Declarations.{declarations_of}
use Rattle.em_log.specs.Legal.{IsLegal}
use Rattle.em_log.specs.WellFormed.{IsWellFormed}
use Rattle.em_io.specs.Faults.{HasRisen}
use Rattle.em_laws.specs.AllLaws.{KeepsLaws}
use Rattle.em_drive.specs.Runnable.{is_runnable}
use Rattle.em_script.specs.Scripts.{IsScript}
use Rattle.em_script.specs.Spelling.{spelling}
use Rattle.em_trace.specs.Fitting.{AreEntries}
use Rattle.em_trace.specs.Text.{text}
use Rattle.em_tool.specs.declared.commands.Solo.{Solo}
use Rattle.em_tool.specs.Outcome.{HasEnded, most_bytes}
use Rattle.em_tool.specs.Words.{IsCheck, IsSolo}

-- What a run that has ended so has written, where its source told these bytes: the text of one legal history of the
-- script that the bytes are, under the limits of the words, and nothing else. The history keeps the laws of all histories,
-- and its numbers fit their types, so the text is that of no other such history.
pub record Headline (solo : Solo) (bytes : List ℕ) (end : EndKind) (before after : Option (List ℕ)) : Type 0 where
  pub graph : Config
  pub well_formed : IsWellFormed graph
  pub script : IsScript bytes graph
  pub history : List Entry
  pub legal : IsLegal graph solo.limits history
  pub laws : KeepsLaws (declarations_of graph) (reverse history)
  pub ended : HasEnded graph solo.limits history end
  pub fits : AreEntries history
  pub written : after ≡ append_known before (text history end)

-- where headlines tell of the same bytes written, they tell of one history and one end
abbrev pub TellOne : Type 0
TellOne =
    (solo other : Solo) (bytes others : List ℕ) (end ends : EndKind) (before after : List ℕ)
    → (a : Headline solo bytes end (Some before) (Some after)) → (b : Headline other others ends (Some before) (Some after))
    → (a.history ≡ b.history) × (end ≡ ends)

-- What a check has written, where its source told these bytes: the canonical spelling of the graph of which the bytes are
-- a script, and nothing else.
pub record Checked (bytes : List ℕ) (before after : Option (List ℕ)) : Type 0 where
  pub graph : Config
  pub well_formed : IsWellFormed graph
  pub script : IsScript bytes graph
  pub written : after ≡ append_known before (spelling graph)

-- The premises under which a check has status 0, or 7 for want of memory: the words are `check`, the bytes are a script,
-- and no call on the source or the sink failed.
pub record CanCheck (words : List (List ℕ)) (bytes : List ℕ) (read_faults read_faults_after write_faults write_faults_after : ℕ) : Type 0 where
  pub check : IsCheck words
  pub few : length bytes ≤ most_bytes
  pub graph : Config
  pub well_formed : IsWellFormed graph
  pub script : IsScript bytes graph
  pub read : ¬ HasRisen read_faults read_faults_after
  pub wrote : ¬ HasRisen write_faults write_faults_after

-- The premises under which a run has status 0 or 3, or 7 for want of memory: the words are a run, the bytes are a script
-- of a graph that runs today, and no call on the source or the sink failed.
pub record CanRun (words : List (List ℕ)) (bytes : List ℕ) (read_faults read_faults_after write_faults write_faults_after : ℕ) : Type 0 where
  pub solo : Solo
  pub known : IsSolo words solo
  pub few : length bytes ≤ most_bytes
  pub graph : Config
  pub well_formed : IsWellFormed graph
  pub script : IsScript bytes graph
  pub runnable : IsTrue (is_runnable graph)
  pub read : ¬ HasRisen read_faults read_faults_after
  pub wrote : ¬ HasRisen write_faults write_faults_after

abbrev pub IsChecked : ℕ → Type 0
IsChecked status = (status ≡ 0) ⊎ (status ≡ 7)

abbrev pub IsRun : ℕ → Type 0
IsRun status = (status ≡ 0) ⊎ (status ≡ 3) ⊎ (status ≡ 7)
