-- What is due: the end of a step follows the end of its context, and all else that is due ends no step.
use Rattle.std.proofs.Common.{◌≡◌, ℕ, Bool, true, false, List, [], ◌∷◌, Option, refl, ap}
use Rattle.em_log.specs.declared.declarations.Declarations.{Declarations}
use Rattle.em_log.specs.declared.entry.Entry.{Entry}
use Rattle.em_log.specs.declared.entry.What.{What}
use Rattle.em_log.specs.declared.ids.Cells.{Cells}
use Rattle.em_log.specs.declared.ids.Limits.{Limits}
use Rattle.em_log.specs.History.{Past, entry_by}
use Rattle.em_log.specs.Lawful.{IsNext}
use Rattle.em_moments.proofs.Follows.{Follows, FirstStart, Outs, NoteLost, AcksStart, AcksStop, GlobalStarts, GlobalStops, ChangeDone, StartDone, StartFailed, StopDone, Notifies, AllDue}

-- an entry that neither begins an operation nor ends a step or a context
abbrev pub is_calm : What → Bool
is_calm (What.Begin op job notes) = false
is_calm (What.GlobalDone op ok) = false
is_calm (What.Ack op) = false
is_calm (What.End lost cells) = false
is_calm w = true

abbrev pub is_step : What → Bool
is_step (What.GlobalDone op ok) = true
is_step (What.Ack op) = true
is_step w = false

abbrev pub is_end : What → Bool
is_end (What.End lost cells) = true
is_end w = false

-- the end of a step follows the end of its context
pub data DueKind (past : Past) (d : ℕ) (w : What) : Type 0 where
  EndsStep : (before : Past) (lost : ℕ) (cells : Option Cells) → past ≡ entry_by d (What.End lost cells) ∷ before → is_step w ≡ true → DueKind past d w
  IsCalm : is_calm w ≡ true → DueKind past d w

pub due-kind : (k : Declarations) (past : Past) (d : ℕ) (w : What) → Follows k past d w → DueKind past d w
due-kind k past d w (FirstStart before q n t x xs was closed queue taken e) = IsCalm (rw e refl)
due-kind k past d w (Outs q kind words is e) = IsCalm (rw e refl)
due-kind k past d w (NoteLost n e) = IsCalm (rw e refl)
due-kind k past d w (AcksStart before lost cells op was is e) = EndsStep before lost cells was (rw e refl)
due-kind k past d w (AcksStop before lost cells op was is e) = EndsStep before lost cells was (rw e refl)
due-kind k past d w (GlobalStarts before lost cells op was is e) = EndsStep before lost cells was (rw e refl)
due-kind k past d w (GlobalStops before lost cells op was is e) = EndsStep before lost cells was (rw e refl)
due-kind k past d w (ChangeDone before op was owed all e) = IsCalm (rw e refl)
due-kind k past d w (StartDone before lost cells op was is all e) = IsCalm (rw e refl)
due-kind k past d w (StartFailed before lost cells op was is e) = IsCalm (rw e refl)
due-kind k past d w (StopDone before lost cells op was is e) = IsCalm (rw e refl)
due-kind k past d w (Notifies s now zero e) = IsCalm (rw e refl)

pub calm-not_end : (w : What) → is_calm w ≡ true → is_end w ≡ false
calm-not_end (What.End lost cells) is = absurd cc
calm-not_end w is = refl

step-not_end : (w : What) → is_step w ≡ true → is_end w ≡ false
step-not_end (What.End lost cells) is = absurd cc
step-not_end w is = refl

-- no end of a context is due
due-not_end : (past : Past) (d : ℕ) (w : What) → DueKind past d w → is_end w ≡ false
due-not_end past d w (EndsStep before lost cells was is) = step-not_end w is
due-not_end past d w (IsCalm is) = calm-not_end w is

abbrev pub AllCalm : List Entry → Type 0
AllCalm [] = Unit {0}
AllCalm (e ∷ es) = (is_calm e.what ≡ true) × AllCalm es

same-head : (e f : Entry) (es fs : Past) → e ∷ es ≡ f ∷ fs → e ≡ f
same-head e f es fs is = cc

-- after the first entry that is due there are calm ones alone
pub rest-calm : (k : Declarations) (past : Past) (e : Entry) (es : List Entry) → is_end e.what ≡ false → AllDue k (e ∷ past) es → AllCalm es
rest-calm k past e [] no_end follow = tt
rest-calm k past e (f ∷ es) no_end follow =
    by_kind (due-kind k (e ∷ past) f.core.0 f.what follow.0) (λ not_end. rest-calm k (e ∷ past) f es not_end follow.1)
  where
    by_kind : DueKind (e ∷ past) f.core.0 f.what → (is_end f.what ≡ false → AllCalm es) → AllCalm (f ∷ es)
    by_kind (EndsStep before lost cells was is) later =
        let one = same-head e (entry_by f.core.0 (What.End lost cells)) past before was in
        absurd (cc (no_end, one))
    by_kind (IsCalm is) later = (is, later (calm-not_end f.what is))

-- where a context has ended, nothing was due before
pub end-first : (k : Declarations) (l : Limits) (before : Past) (e : Entry) (ds : List Entry) → is_end e.what ≡ true → AllDue k before ds → IsNext k l before ds e → ds ≡ []
end-first k l before e [] ends follow next = refl
end-first k l before e (d ∷ ds) ends follow next =
    let no_end : is_end d.what ≡ false = due-not_end before d.core.0 d.what (due-kind k before d.core.0 d.what follow.0) in
    absurd (cc (no_end, ends, ap (λ (v : Entry). is_end v.what) next))
