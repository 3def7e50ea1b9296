-- What an answer shows of the entry that an ask gives.
use Rattle.std.proofs.Common.{◌≡◌, ℕ, false, List, length, Option, Some, None, refl, sym, subst}
use Rattle.em_log.specs.declared.declarations.Declarations.{Declarations}
use Rattle.em_log.specs.declared.ask.Answer.{Answer}
use Rattle.em_log.specs.declared.ask.Ask.{Ask}
use Rattle.em_log.specs.declared.entry.What.{What}
use Rattle.em_log.specs.declared.entry.Event.{Event}
use Rattle.em_log.specs.declared.fault.Call.{Call}
use Rattle.em_log.specs.declared.fault.Fault.{Fault}
use Rattle.em_log.specs.declared.ids.Cells.{Cells}
use Rattle.em_log.specs.declared.ids.QueueId.{QueueId}
use Rattle.em_log.specs.History.{Past, names, minted_in}
use Rattle.em_log.specs.Contexts.{context_after}
use Rattle.em_log.specs.Handles.{held, held_after, with_minted}
use Rattle.em_log.specs.Places.{waiting}
use Rattle.em_log.specs.Leads.{own, refusal, refused_or, call_of, claimed, dequeued}
use Rattle.em_log.specs.Answers.{answer_of}
use Rattle.em_log.specs.Works.{is_end}
use Rattle.em_core.specs.Pieces.{IsLead}
use Rattle.em_core.specs.Spent.{spent}

-- the event that an answer gives
abbrev pub event_in : Answer → Option Event
event_in (Answer.Minted e) = Some e
event_in x = None

-- an entry in the midst of a context that names what the ask spends by this answer, and mints what the answer gives
pub record Shows (a : Ask) (x : Answer) (w : What) : Type 0 where
  pub names : names w ≡ spent a x
  pub minted : minted_in w ≡ event_in x
  pub context : (was : Option What) → context_after w was ≡ was
  pub handles : (was : Option What) (hs : List ℕ) → held_after w was hs ≡ with_minted was (minted_in w) hs

claims : (e : Option Event) → Shows Ask.Claim (answer_of (What.Claim e)) (What.Claim e)
claims None = record { names = refl; minted = refl; context = λ was. refl; handles = λ was hs. refl }
claims (Some e) = record { names = refl; minted = refl; context = λ was. refl; handles = λ was hs. refl }

dequeues : (q : QueueId) (e : Option Event) → Shows (Ask.Dequeue q) (answer_of (What.Dequeue q e)) (What.Dequeue q e)
dequeues q None = record { names = refl; minted = refl; context = λ was. refl; handles = λ was hs. refl }
dequeues q (Some e) = record { names = refl; minted = refl; context = λ was. refl; handles = λ was hs. refl }

own-shows : (k : Declarations) (past : Past) (c : ℕ) (a : Ask) → is_end a ≡ false → Shows a (answer_of (own k past c a)) (own k past c a)
own-shows k past c Ask.Claim mid = claims (claimed k past c)
own-shows k past c (Ask.Dequeue q) mid = dequeues q (dequeued past (waiting k past q.0 c))
own-shows k past c (Ask.End cells) mid = absurd cc
own-shows k past c a mid = record { names = refl; minted = refl; context = λ was. refl; handles = λ was hs. refl }

refused-shows : (k : Declarations) (past : Past) (c : ℕ) (a : Ask) (asked : Call) (r : Option Fault) (w : What)
    → Shows a (answer_of w) w → Shows a (answer_of (refused_or k past c asked r w)) (refused_or k past c asked r w)
refused-shows k past c a asked None w own = own
refused-shows k past c a asked (Some f) w own = record { names = refl; minted = refl; context = λ was. refl; handles = λ was hs. refl }

-- the entry of an ask that is no end
pub lead-shows : (c : ℕ) (a : Ask) (x : Answer) (w : What) → is_end a ≡ false → IsLead c a x w → Shows a x w
lead-shows c a x w mid is =
    let k = is.shapes in
    let past = is.past in
    let here = refused-shows k past c a (call_of a) (refusal k past c a) (own k past c a) (own-shows k past c a mid) in
    let there : Shows a (answer_of w) w = subst (λ (v : What). Shows a (answer_of v) v) (sym is.is) here in
    subst (λ (y : Answer). Shows a y w) is.answer there

-- the entry of an end
pub lead-ends : (c : ℕ) (cells : Option Cells) (x : Answer) (w : What) → IsLead c (Ask.End cells) x w
    → (lost : ℕ) × (w ≡ What.End lost cells)
lead-ends c cells x w is = (length (held is.past c), is.is)
