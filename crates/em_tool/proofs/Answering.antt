-- What a call comes to, from what it read and ran; and what follows from its answer.
use Rattle.std.proofs.Common.{ℕ, ◌≡◌, ◌≢◌, ◌<◌, ◌≤◌, ◌++◌, List, [], length, reverse, Option, Some, None, IfSome, Ok, Err, false, refl, sym, ap, subst, ◌∙◌, arith, inl, inr}
use Rattle.std.specs.Prelude.{IsTrue}
use Rattle.std.specs.Fmt.{decimal}
use Rattle.std.specs.Io.KnownBytes.{append_known, prepend_known, IsAtEnd}
use Rattle.std.proofs.lemmas.Fmt.{decimal_injective}
use Rattle.std.proofs.lemmas.List.{append-nil}
use Rattle.em_log.specs.declared.graph.Config.{Config}
use Rattle.em_log.specs.declared.ids.EndKind.{EndKind}
use Rattle.em_log.specs.declared.ids.Limits.{Limits}
use Rattle.em_log.specs.Legal.{IsLegal}
use Rattle.em_log.specs.WellFormed.{IsWellFormed}
use Rattle.em_drive.specs.Runnable.{is_runnable}
use Rattle.em_script.specs.Reading.{Found, script_of}
use Rattle.em_script.specs.Scripts.{IsScript}
use Rattle.em_tool.specs.declared.commands.Command.{Command}
use Rattle.em_tool.specs.declared.commands.Command.TheVariants as commands
use Rattle.em_tool.specs.declared.commands.Solo.{Solo}
use Rattle.em_tool.specs.declared.outcome.Outcome.{Outcome}
use Rattle.em_tool.specs.declared.outcome.Outcome.TheVariants as outcomes
use Rattle.em_tool.specs.Words.{IsCheck, IsCommand, IsSolo}
use Rattle.em_tool.specs.Outcome.{Reading, ReadsAll, ReadsTooMuch, most_bytes, ComesTo, HasEnded, Due, NotKnown, ReadFailed, TooLong, Refused, NotRunnable, Ran, Checked, Answers, Written, WriteFailed, NoMemory, NoMemoryWriting, status_of, status_of_end, Told, Plain, Fits, bytes_of, told_of}
use Rattle.em_trace.specs.Text.{text}
use Rattle.em_tool.specs.Headline.{CanRun, CanCheck, Headline, Checked as CheckedAs, IsChecked, IsRun}

-- ---- what is due

-- what a script or a refusal comes to is due
due-found : (words : List (List ℕ)) (r : Reading) (c : Command) (bytes : List ℕ) (found : Found) (o : Outcome) → IsCommand words c → ReadsAll r bytes
    → script_of bytes ≡ found → ComesTo found c o → Due words r (status_of o) (told_of o)
due-found words r c bytes (Err (line, rule)) o known reads is comes =
    subst (λ (x : Outcome). Due words r (status_of x) (told_of x)) (sym comes) (Refused c known bytes reads line rule is refl refl)
due-found words r (commands.Solo s) bytes (Ok g) outcomes.NotRunnable known reads is comes = NotRunnable s known bytes reads g is comes refl refl
due-found words r (commands.Solo s) bytes (Ok g) (outcomes.Ran desk end) known reads is comes =
    Ran s known bytes reads g is (reverse desk.past) end comes refl refl
due-found words r (commands.Solo s) bytes (Ok g) outcomes.NotKnown known reads is comes = absurd comes
due-found words r (commands.Solo s) bytes (Ok g) outcomes.ReadFailed known reads is comes = absurd comes
due-found words r (commands.Solo s) bytes (Ok g) outcomes.TooLong known reads is comes = absurd comes
due-found words r (commands.Solo s) bytes (Ok g) (outcomes.Refused line rule) known reads is comes = absurd comes
due-found words r (commands.Solo s) bytes (Ok g) (outcomes.Checked text) known reads is comes = absurd comes
due-found words r commands.Check bytes (Ok g) (outcomes.Checked text) known reads is comes = Checked known bytes reads g is refl (ap Plain comes)
due-found words r commands.Check bytes (Ok g) outcomes.NotKnown known reads is comes = absurd comes
due-found words r commands.Check bytes (Ok g) outcomes.ReadFailed known reads is comes = absurd comes
due-found words r commands.Check bytes (Ok g) outcomes.TooLong known reads is comes = absurd comes
due-found words r commands.Check bytes (Ok g) (outcomes.Refused line rule) known reads is comes = absurd comes
due-found words r commands.Check bytes (Ok g) outcomes.NotRunnable known reads is comes = absurd comes
due-found words r commands.Check bytes (Ok g) (outcomes.Ran desk end) known reads is comes = absurd comes

-- what the bytes come to is due
pub due-of : (words : List (List ℕ)) (r : Reading) (c : Command) (bytes : List ℕ) (o : Outcome) → IsCommand words c → ReadsAll r bytes
    → ComesTo (script_of bytes) c o → Due words r (status_of o) (told_of o)
due-of words r c bytes o known reads comes = due-found words r c bytes (script_of bytes) o known reads refl comes

-- ---- what was read

-- all that is left was read
all-left : (bytes left : List ℕ) (after : Option (List ℕ)) → IsAtEnd after → Some left ≡ prepend_known bytes after → bytes ≡ left
all-left bytes left None end is = cc
all-left bytes left (Some xs) end is =
    let whole : left ≡ bytes ++ [] = cc (is, end) in sym (whole ∙ append-nil bytes)

reads-left : (r : Reading) (bytes left : List ℕ) → ReadsAll r bytes → r.left ≡ Some left → bytes ≡ left
reads-left r bytes left reads is = all-left bytes left r.left_after reads.at_end (sym is ∙ reads.takes.left)

-- ---- the words

abbrev limits_of : ℕ → ℕ → Limits
limits_of receives burst = record { receives = receives; burst = burst }

-- the words tell the limits
same-limits : (words : List (List ℕ)) (s t : Solo) → IsSolo words s → IsSolo words t → s.limits ≡ t.limits
same-limits words s t a b =
    let spelled : decimal s.limits.receives ≡ decimal t.limits.receives = cc (a.words, b.words) in
    let receives : s.limits.receives ≡ t.limits.receives =
    decimal_injective s.limits.receives t.limits.receives (let most = a.at_most in omega arith) (let most = b.at_most in omega arith) spelled in
    let burst : s.limits.burst ≡ t.limits.burst = a.burst ∙ sym b.burst in
    ap (λ (n : ℕ). limits_of n s.limits.burst) receives ∙ ap (λ (n : ℕ). limits_of t.limits.receives n) burst

-- no words are both commands
not-both : (words : List (List ℕ)) (s : Solo) → IsSolo words s → IsCheck words → ⊥
not-both words s solo check = absurd (cc (solo.words, check))

-- ---- the laws of scripts

abbrev pub AreFound : Type 0
AreFound = (bytes : List ℕ) (graph : Config) → script_of bytes ≡ Ok graph → IsWellFormed graph × IsScript bytes graph

abbrev pub AreRead : Type 0
AreRead = (bytes : List ℕ) (graph : Config) → IsWellFormed graph → IsScript bytes graph → script_of bytes ≡ Ok graph

-- ---- the headline

end-is : (e e' : EndKind) → status_of_end e ≡ status_of_end e' → e ≡ e'
end-is EndKind.Quiet EndKind.Quiet is = refl
end-is EndKind.Quiet EndKind.Limit is = absurd (cc (is))
end-is EndKind.Limit EndKind.Quiet is = absurd (cc (is))
end-is EndKind.Limit EndKind.Limit is = refl

-- a status that is neither 0 nor 3 is that of no end
no-end : (n k : ℕ) (e : EndKind) → n ≡ k → k ≢ 0 → k ≢ 3 → n ≡ status_of_end e → ⊥
no-end n k EndKind.Quiet is a b ended_so = a (sym is ∙ ended_so)
no-end n k EndKind.Limit is a b ended_so = b (sym is ∙ ended_so)

module _ (found : AreFound) where
  headline-due : (words : List (List ℕ)) (r : Reading) (status : ℕ) (told : Told) (left : List ℕ) (before after : Option (List ℕ)) (solo : Solo) (end : EndKind)
      → Due words r status told → IsSolo words solo → status ≡ status_of_end end → r.left ≡ Some left → Fits told
      → after ≡ append_known before (bytes_of told) → Headline solo left end before after
  headline-due words r status told left before after solo end (NotKnown none touched is same) known ended_so at fits written =
      absurd (no-end status 2 end is (λ h. absurd (cc (h))) (λ h. absurd (cc (h))) ended_so)
  headline-due words r status told left before after solo end (ReadFailed c is_c risen is same) known ended_so at fits written =
      absurd (no-end status 5 end is (λ h. absurd (cc (h))) (λ h. absurd (cc (h))) ended_so)
  headline-due words r status told left before after solo end (TooLong c is_c much is same) known ended_so at fits written =
      absurd (no-end status 6 end is (λ h. absurd (cc (h))) (λ h. absurd (cc (h))) ended_so)
  headline-due words r status told left before after solo end (Refused c is_c bytes reads line rule script is same) known ended_so at fits written =
      absurd (no-end status 4 end is (λ h. absurd (cc (h))) (λ h. absurd (cc (h))) ended_so)
  headline-due words r status told left before after solo end (NotRunnable s is_s bytes reads graph script stays is same) known ended_so at fits written =
      absurd (no-end status 4 end is (λ h. absurd (cc (h))) (λ h. absurd (cc (h))) ended_so)
  headline-due words r status told left before after solo end (Checked check bytes reads graph script is same) known ended_so at fits written =
      absurd (not-both words solo known check)
  headline-due words r status told left before after solo end (Ran s is_s bytes reads graph script history e runs is same) known ended_so at fits written =
      let limits : s.limits ≡ solo.limits = same-limits words s solo is_s known in
      let ends : e ≡ end = end-is e end (sym is ∙ ended_so) in
      let whole = found left graph (subst (λ bs. script_of bs ≡ Ok graph) (reads-left r bytes left reads at) script) in
      record {
        graph = graph;
        well_formed = whole.0;
        script = whole.1;
        history = history;
        legal = subst (λ (l : Limits). IsLegal graph l history) limits runs.legal;
        laws = runs.laws;
        ended = subst (λ (l : Limits). HasEnded graph l history end) limits (subst (λ (x : EndKind). HasEnded graph s.limits history x) ends runs.ended);
        fits = subst Fits same fits;
        written = written ∙ ap (append_known before) (ap bytes_of same ∙ ap (λ (x : EndKind). text history x) ends);
      }

  headline-at : (words : List (List ℕ)) (r : Reading) (known : Option (List ℕ)) (before after : Option (List ℕ)) (faults faults_after status : ℕ) (solo : Solo) (end : EndKind)
      → Answers words r before after faults faults_after status → IsSolo words solo → status ≡ status_of_end end → r.left ≡ known
      → IfSome known (λ bytes. Headline solo bytes end before after)
  headline-at words r None before after faults faults_after status solo end answers is_solo ended_so at = tt
  headline-at words r (Some left) before after faults faults_after status solo end (Written told due fits written same) is_solo ended_so at =
      headline-due words r status told left before after solo end due is_solo ended_so at fits written
  headline-at words r (Some left) before after faults faults_after status solo end (WriteFailed due told it one part risen) is_solo ended_so at =
      absurd (no-end status 1 end one (λ h. absurd (cc (h))) (λ h. absurd (cc (h))) ended_so)
  headline-at words r (Some left) before after faults faults_after status solo end (NoMemory seven same sound) is_solo ended_so at =
      absurd (no-end status 7 end seven (λ h. absurd (cc (h))) (λ h. absurd (cc (h))) ended_so)
  headline-at words r (Some left) before after faults faults_after status solo end (NoMemoryWriting due told it seven part sound) is_solo ended_so at =
      absurd (no-end status 7 end seven (λ h. absurd (cc (h))) (λ h. absurd (cc (h))) ended_so)

  pub headline-of : (words : List (List ℕ)) (r : Reading) (before after : Option (List ℕ)) (faults faults_after status : ℕ) (solo : Solo) (end : EndKind)
      → Answers words r before after faults faults_after status → IsSolo words solo → status ≡ status_of_end end
      → IfSome r.left (λ bytes. Headline solo bytes end before after)
  headline-of words r before after faults faults_after status solo end answers is_solo ended_so =
      headline-at words r r.left before after faults faults_after status solo end answers is_solo ended_so refl

  checked-due : (words : List (List ℕ)) (r : Reading) (status : ℕ) (told : Told) (left : List ℕ) (before after : Option (List ℕ))
      → Due words r status told → IsCheck words → status ≡ 0 → r.left ≡ Some left → after ≡ append_known before (bytes_of told)
      → CheckedAs left before after
  checked-due words r status told left before after (NotKnown none touched is same) check zero at written = absurd (cc (is, zero))
  checked-due words r status told left before after (ReadFailed c is_c risen is same) check zero at written = absurd (cc (is, zero))
  checked-due words r status told left before after (TooLong c is_c much is same) check zero at written = absurd (cc (is, zero))
  checked-due words r status told left before after (Refused c is_c bytes reads line rule script is same) check zero at written = absurd (cc (is, zero))
  checked-due words r status told left before after (NotRunnable s is_s bytes reads graph script stays is same) check zero at written = absurd (cc (is, zero))
  checked-due words r status told left before after (Ran s is_s bytes reads graph script history e runs is same) check zero at written =
      absurd (not-both words s is_s check)
  checked-due words r status told left before after (Checked check bytes reads graph script is same) asked zero at written =
      let whole = found left graph (subst (λ bs. script_of bs ≡ Ok graph) (reads-left r bytes left reads at) script) in
      record {
        graph = graph;
        well_formed = whole.0;
        script = whole.1;
        written = written ∙ ap (append_known before) (ap bytes_of same);
      }

  checked-at : (words : List (List ℕ)) (r : Reading) (known : Option (List ℕ)) (before after : Option (List ℕ)) (faults faults_after status : ℕ)
      → Answers words r before after faults faults_after status → IsCheck words → status ≡ 0 → r.left ≡ known
      → IfSome known (λ bytes. CheckedAs bytes before after)
  checked-at words r None before after faults faults_after status answers check zero at = tt
  checked-at words r (Some left) before after faults faults_after status (Written told due fits written same) check zero at =
      checked-due words r status told left before after due check zero at written
  checked-at words r (Some left) before after faults faults_after status (WriteFailed due told it one part risen) check zero at = absurd (cc (one, zero))
  checked-at words r (Some left) before after faults faults_after status (NoMemory seven same sound) check zero at = absurd (cc (seven, zero))
  checked-at words r (Some left) before after faults faults_after status (NoMemoryWriting due told it seven part sound) check zero at = absurd (cc (seven, zero))

  pub checked-of : (words : List (List ℕ)) (r : Reading) (before after : Option (List ℕ)) (faults faults_after status : ℕ)
      → Answers words r before after faults faults_after status → IsCheck words → status ≡ 0
      → IfSome r.left (λ bytes. CheckedAs bytes before after)
  checked-of words r before after faults faults_after status answers check zero =
      checked-at words r r.left before after faults faults_after status answers check zero refl

-- ---- where it can run

-- more than a script may have is not few
not-few : (r : Reading) (left : List ℕ) → ReadsTooMuch r → r.left ≡ Some left → length left ≤ most_bytes → ⊥
not-few r left much at few =
    let over : IfSome (Some left) (λ bytes. 65536 < length bytes) = subst (λ l. IfSome l (λ bytes. 65536 < length bytes)) at much.left in
    absurd (omega (arith, few, over))

-- what is a script is not refused
not-refused : (r : Reading) (bytes left : List ℕ) (line rule : ℕ) (graph : Config) → ReadsAll r bytes → r.left ≡ Some left
    → script_of bytes ≡ Err (line, rule) → script_of left ≡ Ok graph → ⊥
not-refused r bytes left line rule graph reads at refused script =
    let same = ap script_of (reads-left r bytes left reads at) in absurd (cc (same, refused, script))

-- what runs is not refused as a graph that does not
not-stays : (r : Reading) (bytes left : List ℕ) (g graph : Config) → ReadsAll r bytes → r.left ≡ Some left
    → script_of bytes ≡ Ok g → is_runnable g ≡ false → script_of left ≡ Ok graph → IsTrue (is_runnable graph) → ⊥
not-stays r bytes left g graph reads at script stays is runs =
    let same = ap script_of (reads-left r bytes left reads at) in
    let graphs : g ≡ graph = cc (same, script, is) in
    absurd (cc (stays, runs, ap is_runnable graphs))

run-status : (n : ℕ) (e : EndKind) → n ≡ status_of_end e → IsRun n
run-status n EndKind.Quiet is = inl is
run-status n EndKind.Limit is = inr (inl is)

module _ (read : AreRead) where
  run-due : (words : List (List ℕ)) (r : Reading) (status : ℕ) (told : Told) (left : List ℕ) (w w' : ℕ) → Due words r status told → r.left ≡ Some left
      → CanRun words left r.faults r.faults_after w w' → IsRun status
  run-due words r status told left w w' (NotKnown none touched is same) at can = absurd (none (commands.Solo can.solo) can.known)
  run-due words r status told left w w' (ReadFailed c is_c risen is same) at can = absurd (can.read risen)
  run-due words r status told left w w' (TooLong c is_c much is same) at can = absurd (not-few r left much at can.few)
  run-due words r status told left w w' (Refused c is_c bytes reads line rule script is same) at can =
      absurd (not-refused r bytes left line rule can.graph reads at script (read left can.graph can.well_formed can.script))
  run-due words r status told left w w' (NotRunnable s is_s bytes reads graph script stays is same) at can =
      absurd (not-stays r bytes left graph can.graph reads at script stays (read left can.graph can.well_formed can.script) can.runnable)
  run-due words r status told left w w' (Ran s is_s bytes reads graph script history e runs is same) at can = run-status status e is
  run-due words r status told left w w' (Checked check bytes reads graph script is same) at can = inl is

  run-at : (words : List (List ℕ)) (r : Reading) (known : Option (List ℕ)) (before after : Option (List ℕ)) (faults faults_after status : ℕ)
      → Answers words r before after faults faults_after status → r.left ≡ known
      → IfSome known (λ bytes. CanRun words bytes r.faults r.faults_after faults faults_after → IsRun status)
  run-at words r None before after faults faults_after status answers at = tt
  run-at words r (Some left) before after faults faults_after status (Written told due fits written same) at =
      λ can. run-due words r status told left faults faults_after due at can
  run-at words r (Some left) before after faults faults_after status (WriteFailed due told it one part risen) at = λ can. absurd (can.wrote risen)
  run-at words r (Some left) before after faults faults_after status (NoMemory seven same sound) at = λ can. inr (inr seven)
  run-at words r (Some left) before after faults faults_after status (NoMemoryWriting due told it seven part sound) at = λ can. inr (inr seven)

  pub run-of : (words : List (List ℕ)) (r : Reading) (before after : Option (List ℕ)) (faults faults_after status : ℕ)
      → Answers words r before after faults faults_after status
      → IfSome r.left (λ bytes. CanRun words bytes r.faults r.faults_after faults faults_after → IsRun status)
  run-of words r before after faults faults_after status answers = run-at words r r.left before after faults faults_after status answers refl

  check-due : (words : List (List ℕ)) (r : Reading) (status : ℕ) (told : Told) (left : List ℕ) (w w' : ℕ) → Due words r status told → r.left ≡ Some left
      → CanCheck words left r.faults r.faults_after w w' → status ≡ 0
  check-due words r status told left w w' (NotKnown none touched is same) at can = absurd (none commands.Check can.check)
  check-due words r status told left w w' (ReadFailed c is_c risen is same) at can = absurd (can.read risen)
  check-due words r status told left w w' (TooLong c is_c much is same) at can = absurd (not-few r left much at can.few)
  check-due words r status told left w w' (Refused c is_c bytes reads line rule script is same) at can =
      absurd (not-refused r bytes left line rule can.graph reads at script (read left can.graph can.well_formed can.script))
  check-due words r status told left w w' (NotRunnable s is_s bytes reads graph script stays is same) at can = absurd (not-both words s is_s can.check)
  check-due words r status told left w w' (Ran s is_s bytes reads graph script history e runs is same) at can = absurd (not-both words s is_s can.check)
  check-due words r status told left w w' (Checked check bytes reads graph script is same) at can = is

  check-at : (words : List (List ℕ)) (r : Reading) (known : Option (List ℕ)) (before after : Option (List ℕ)) (faults faults_after status : ℕ)
      → Answers words r before after faults faults_after status → r.left ≡ known
      → IfSome known (λ bytes. CanCheck words bytes r.faults r.faults_after faults faults_after → IsChecked status)
  check-at words r None before after faults faults_after status answers at = tt
  check-at words r (Some left) before after faults faults_after status (Written told due fits written same) at =
      λ can. inl (check-due words r status told left faults faults_after due at can)
  check-at words r (Some left) before after faults faults_after status (WriteFailed due told it one part risen) at = λ can. absurd (can.wrote risen)
  check-at words r (Some left) before after faults faults_after status (NoMemory seven same sound) at = λ can. inr seven
  check-at words r (Some left) before after faults faults_after status (NoMemoryWriting due told it seven part sound) at = λ can. inr seven

  pub check-of : (words : List (List ℕ)) (r : Reading) (before after : Option (List ℕ)) (faults faults_after status : ℕ)
      → Answers words r before after faults faults_after status
      → IfSome r.left (λ bytes. CanCheck words bytes r.faults r.faults_after faults faults_after → IsChecked status)
  check-of words r before after faults faults_after status answers = check-at words r r.left before after faults faults_after status answers refl

-- ---- what is written

-- the whole text that is due was written, with its status
pub written-as : (words : List (List ℕ)) (r : Reading) (before after : Option (List ℕ)) (faults faults_after status due : ℕ) (told : Told) → status ≡ due
    → Due words r due told → Fits told → after ≡ append_known before (bytes_of told) → faults_after ≡ faults → Answers words r before after faults faults_after status
written-as words r before after faults faults_after status due told is why fits whole same =
    subst (λ (n : ℕ). Answers words r before after faults faults_after n) (sym is) (Written told why fits whole same)
