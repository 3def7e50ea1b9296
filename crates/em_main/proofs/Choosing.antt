-- Words of a run with threads are those of no other command, and what follows from what it answers.
use Rattle.std.proofs.Common.{ℕ, ◌≡◌, List, Option, Some, None, IfSome, subst}
use Rattle.em_log.specs.declared.ids.EndKind.{EndKind}
use Rattle.em_log.specs.declared.ids.Limits.{Limits}
use Rattle.em_tool.specs.declared.commands.Solo.{Solo}
use Rattle.em_tool.specs.Words.{IsCheck, IsSolo}
use Rattle.em_tool.specs.Outcome.{Answers, Reading, status_of_end}
use Rattle.em_tool.specs.Headline.{CanCheck, CanRun, Headline, IsChecked, IsRun as HasRun}
use Rattle.em_tool.proofs.Answering.{AreFound, AreRead, headline-of, run-of}
use Rattle.em_main.specs.Words.{IsRun, in_turns, words_in_turns}
use Rattle.em_main.proofs.InTurns.{is-in-turns}

pub not-solo : (words : List (List ℕ)) (l : Limits) (s : Solo) → IsRun words l → IsSolo words s → ⊥
not-solo words l s run solo = absurd (cc (run.words, solo.words))

pub not-check : (words : List (List ℕ)) (l : Limits) → IsRun words l → IsCheck words → ⊥
not-check words l run check = absurd (cc (run.words, check))

module _ (words : List (List ℕ)) (l : Limits) (run : IsRun words l) (read read_after wrote wrote_after status : ℕ) where
  pub no-run-in-turns : (left : Option (List ℕ)) → IfSome left (λ bytes. CanRun words bytes read read_after wrote wrote_after → HasRun status)
  no-run-in-turns None = tt
  no-run-in-turns (Some bytes) = λ can. absurd (not-solo words l can.solo run can.known)

  pub no-check : (left : Option (List ℕ)) → IfSome left (λ bytes. CanCheck words bytes read read_after wrote wrote_after → IsChecked status)
  no-check None = tt
  no-check (Some bytes) = λ can. absurd (not-check words l run can.check)

module _ (l m : Limits) (r : Reading) (before after : Option (List ℕ)) (faults faults_after status : ℕ) where
  pub same-answer : Answers (words_in_turns l) r before after faults faults_after status → l ≡ m → Answers (words_in_turns m) r before after faults faults_after status
  same-answer answers same = subst (λ (x : Limits). Answers (words_in_turns x) r before after faults faults_after status) same answers

  pub run-headline : AreFound → (words : List (List ℕ)) (end : EndKind) → Answers (words_in_turns l) r before after faults faults_after status → l ≡ m → IsRun words m
      → status ≡ status_of_end end → IfSome r.left (λ bytes. Headline (in_turns m) bytes end before after)
  run-headline found words end answers same is ended =
      headline-of found (words_in_turns m) r before after faults faults_after status (in_turns m) end (same-answer answers same) (is-in-turns words m is) ended

  pub run-complete : AreRead → Answers (words_in_turns l) r before after faults faults_after status → l ≡ m
      → IfSome r.left (λ bytes. CanRun (words_in_turns m) bytes r.faults r.faults_after faults faults_after → HasRun status)
  run-complete read answers same = run-of read (words_in_turns m) r before after faults faults_after status (same-answer answers same)
