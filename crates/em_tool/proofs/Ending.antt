-- What a run has come to.
use Rattle.std.proofs.Common.{◌≡◌, List, reverse, Some, None, Bool, true, false, if◌then◌else◌, refl, sym, subst}
use Rattle.std.specs.Prelude.{IsTrue}
use Rattle.std.proofs.lemmas.List.{reverse-reverse}
use Rattle.em_log.specs.declared.graph.Config.{Config}
use Rattle.em_log.specs.declared.entry.Entry.{Entry}
use Rattle.em_log.specs.declared.ids.EndKind.{EndKind}
use Rattle.em_log.specs.declared.ids.Limits.{Limits}
use Rattle.em_log.specs.Answers.{end_of}
use Rattle.em_log.specs.Declarations.{declarations_of}
use Rattle.em_log.specs.Eligible.{is_quiet, is_at_limit}
use Rattle.em_log.specs.History.{Past}
use Rattle.em_log.specs.Legal.{Legal}
use Rattle.em_laws.specs.AllLaws.{KeepsLaws}
use Rattle.em_desk.specs.State.{DeskState}
use Rattle.em_drive.specs.Runnable.{is_runnable}
use Rattle.em_drive.specs.Runs.{IsRun}
use Rattle.em_tool.specs.Outcome.{HasEnded, Runs}

-- by the two tests
ended-by : (g : Config) (l : Limits) (history : List Entry) (quiet limit : Bool) (end : EndKind)
    → is_quiet (declarations_of g) (reverse history) ≡ quiet → is_at_limit (declarations_of g) l (reverse history) ≡ limit
    → (if quiet then Some EndKind.Quiet else if limit then Some EndKind.Limit else None) ≡ Some end → HasEnded g l history end
ended-by g l history true limit EndKind.Quiet is at e = is
ended-by g l history true limit EndKind.Limit is at e = absurd (cc (e))
ended-by g l history false true EndKind.Quiet is at e = absurd (cc (e))
ended-by g l history false true EndKind.Limit is at e = at
ended-by g l history false false end is at e = absurd (cc (e))

ended-of : (g : Config) (l : Limits) (history : List Entry) (end : EndKind) → end_of (declarations_of g) l (reverse history) ≡ Some end → HasEnded g l history end
ended-of g l history end e =
    ended-by g l history (is_quiet (declarations_of g) (reverse history)) (is_at_limit (declarations_of g) l (reverse history)) end refl refl e

pub runs-of : (g : Config) (l : Limits) (desk : DeskState) (end : EndKind) → IsTrue (is_runnable g) → IsRun g l desk end → Runs g l (reverse desk.past) end
runs-of g l desk end runs run =
    let back : desk.past ≡ reverse (reverse desk.past) = sym (reverse-reverse desk.past) in
    record {
      runnable = runs;
      legal = subst (λ (p : Past). Legal g l p) back run.legal;
      laws = subst (KeepsLaws (declarations_of g)) back run.laws;
      ended = ended-of g l (reverse desk.past) end (subst (λ (p : Past). end_of (declarations_of g) l p ≡ Some end) back run.ended);
    }
