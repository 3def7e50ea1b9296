-- The entries that asks give in a history are those that their answers are read from.
use Rattle.std.proofs.Common.{◌≡◌, ℕ, true, false, Option, Some, None, refl}
use Rattle.em_log.specs.declared.ask.Ask.{Ask}
use Rattle.em_log.specs.declared.declarations.Declarations.{Declarations}
use Rattle.em_log.specs.declared.entry.What.{What}
use Rattle.em_log.specs.declared.fault.Fault.{Fault}
use Rattle.em_log.specs.Answers.{answer_of}
use Rattle.em_log.specs.History.{Past}
use Rattle.em_log.specs.Leads.{call_of, refusal, own, refused_or, lead, scope}
use Rattle.em_log.specs.Works.{is_end}
use Rattle.em_body.specs.Followed.{Reads, Refused, Accepted, is_own}

own-own : (k : Declarations) (past : Past) (c : ℕ) (a : Ask) → is_end a ≡ false → refusal k past c a ≡ None → is_own a (own k past c a) ≡ true
own-own k past c Ask.Cell end none = absurd (cc none)
own-own k past c Ask.Fail end none = absurd (cc none)
own-own k past c (Ask.End cells) end none = absurd (cc end)
own-own k past c a end none = refl

refused-read : (k : Declarations) (past : Past) (c : ℕ) (a : Ask) (f : Option Fault) (w : What) → (f ≡ None → is_own a w ≡ true)
    → Reads a (answer_of (refused_or k past c (call_of a) f w)) (refused_or k past c (call_of a) f w)
refused-read k past c a None w is = Accepted (is refl) refl
refused-read k past c a (Some f) w is = Refused f (scope k past c) refl refl

pub lead-read : (k : Declarations) (past : Past) (c : ℕ) (a : Ask) → is_end a ≡ false → Reads a (answer_of (lead k past c a)) (lead k past c a)
lead-read k past c a end = refused-read k past c a (refusal k past c a) (own k past c a) (own-own k past c a end)
