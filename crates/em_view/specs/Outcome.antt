-- Why a call answers as it does.
use Rattle.std.specs.Prelude.{◌≡◌, ◌≢◌, ◌<◌, ◌≤◌, ◌+◌, ℕ, List, [], ◌∷◌, ◌++◌, Option, IfSome, Ok, Err, codes, decimal, length}
use Rattle.std.specs.Io.KnownBytes.{append_known, IsAtEnd}
use Rattle.em_io.specs.Faults.{HasRisen}
use Rattle.em_io.specs.Sink.{AppendsPrefix}
use Rattle.em_io.specs.Source.{Takes}
use Rattle.em_log.specs.declared.entry.Entry.{Entry}
use Rattle.em_log.specs.declared.ids.EndKind.{EndKind}
use Rattle.em_trace.specs.Reading.{Found, trace_of}
use Rattle.em_view.specs.declared.outcome.Outcome.{Outcome}
use Rattle.em_view.specs.declared.outcome.Outcome.TheVariants as outcomes
use Rattle.em_view.specs.Markup.{IsPage}

-- reading

-- what a call did to its source: the bytes left, where it tells them, how many it has given, and its count of faults
pub record Reading : Type 0 where
  pub left : Option (List ℕ)
  pub left_after : Option (List ℕ)
  pub given : ℕ
  pub given_after : ℕ
  pub faults : ℕ
  pub faults_after : ℕ

abbrev pub most_bytes : ℕ
most_bytes = 1048576

-- nothing was read
pub record IsUntouched (r : Reading) : Type 0 where
  pub left : r.left_after ≡ r.left
  pub given : r.given_after ≡ r.given
  pub faults : r.faults_after ≡ r.faults

-- the source was read to its end, no call on it failed, and these were its bytes
pub record ReadsAll (r : Reading) (bytes : List ℕ) : Type 0 where
  pub takes : Takes r.left r.left_after r.given r.given_after bytes
  pub at_end : IsAtEnd r.left_after
  pub within : length bytes ≤ most_bytes
  pub faults : r.faults_after ≡ r.faults

-- more bytes were taken than a trace may have, and no call failed
pub record ReadsTooMuch (r : Reading) : Type 0 where
  pub given : r.given + most_bytes < r.given_after
  pub left : IfSome r.left (λ bytes. most_bytes < length bytes)
  pub faults : r.faults_after ≡ r.faults

-- what is due

abbrev pub not_known_text : List ℕ
not_known_text = codes "words not known" ++ 10 ∷ []

abbrev pub read_failed_text : List ℕ
read_failed_text = codes "read failed" ++ 10 ∷ []

abbrev pub too_long_text : List ℕ
too_long_text = codes "input too long" ++ 10 ∷ []

-- the line that fails, from 1, and the least rule that fails there
abbrev pub refused_text : ℕ → ℕ → List ℕ
refused_text line rule = codes "trace refused line " ++ (decimal line ++ (codes " rule " ++ (decimal rule ++ 10 ∷ [])))

abbrev pub status_of : Outcome → ℕ
status_of outcomes.NotKnown = 2
status_of outcomes.ReadFailed = 5
status_of outcomes.TooLong = 6
status_of (outcomes.Refused line rule) = 4
status_of (outcomes.Drawn page) = 0

abbrev pub told_of : Outcome → List ℕ
told_of outcomes.NotKnown = not_known_text
told_of outcomes.ReadFailed = read_failed_text
told_of outcomes.TooLong = too_long_text
told_of (outcomes.Refused line rule) = refused_text line rule
told_of (outcomes.Drawn page) = page.items

-- what bytes come to that are a trace, or are refused
abbrev pub ComesTo : Found → Outcome → Type 0
ComesTo (Ok trace) (outcomes.Drawn page) = IsPage page.items
ComesTo (Err (line, rule)) (outcomes.Refused l r) = (l ≡ line) × (r ≡ rule)
ComesTo found outcome = ⊥

-- why this status and this text are due for this number of words and this reading
pub data Due (words : ℕ) (r : Reading) (status : ℕ) (told : List ℕ) : Type 0 where
  NotKnown : words ≢ 0 → IsUntouched r → status ≡ 2 → told ≡ not_known_text → Due words r status told
  ReadFailed : words ≡ 0 → HasRisen r.faults r.faults_after → status ≡ 5 → told ≡ read_failed_text → Due words r status told
  TooLong : words ≡ 0 → ReadsTooMuch r → status ≡ 6 → told ≡ too_long_text → Due words r status told
  Refused : words ≡ 0 → (bytes : List ℕ) → ReadsAll r bytes → (line rule : ℕ) → trace_of bytes ≡ Err (line, rule) → status ≡ 4
      → told ≡ refused_text line rule → Due words r status told
  Drawn : words ≡ 0 → (bytes : List ℕ) → ReadsAll r bytes → (history : List Entry) → (end : EndKind) → trace_of bytes ≡ Ok (history, end)
      → status ≡ 0 → IsPage told → Due words r status told

-- what was written, and the status: the text that is due, or a prefix of it with status 1 where a call on the sink
-- failed; status 7, want of memory, is free
pub data Answers (words : ℕ) (r : Reading) (written after : Option (List ℕ)) (faults faults_after status : ℕ) : Type 0 where
  Written : (told : List ℕ) → Due words r status told → after ≡ append_known written told → faults_after ≡ faults
      → Answers words r written after faults faults_after status
  WriteFailed : (due : ℕ) (told : List ℕ) → Due words r due told → status ≡ 1 → AppendsPrefix written after told
      → HasRisen faults faults_after → Answers words r written after faults faults_after status
  NoMemory : status ≡ 7 → after ≡ written → faults_after ≡ faults → Answers words r written after faults faults_after status
