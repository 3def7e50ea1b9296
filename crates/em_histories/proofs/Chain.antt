-- What is shown of a history entry by entry, the newest first.
use Rattle.std.specs.Prelude.{T, ltb}
use Rattle.std.proofs.Common.{ℕ, List, [], ◌∷◌, Option, lit<}
use Rattle.em_log.specs.declared.declarations.Declarations.{Declarations}
use Rattle.em_log.specs.declared.graph.Config.{Config}
use Rattle.em_log.specs.declared.entry.Entry.{Entry}
use Rattle.em_log.specs.declared.entry.What.{What}
use Rattle.em_log.specs.declared.ids.Limits.{Limits}
use Rattle.em_log.specs.declared.ids.Cells.{Cells}
use Rattle.em_log.specs.History.{Past}
use Rattle.em_log.specs.Lawful.{Allowed, AllAllowed, IsNext, due}
use Rattle.em_log.specs.Legal.{FollowsToEnd, EndFollows, EndedFollow}

-- allowed

infixr 10 ◌after◌
pub ◌after◌ : {k : Declarations} {l : Limits} {past : Past} {e : Entry} → Allowed k l past e → AllAllowed k l past
    → AllAllowed k l (e ∷ past)
x after y = (x, y)

-- an entry is allowed: its core is there, and it may come next
pub allowed : {k : Declarations} {l : Limits} {past : Past} {e : Entry} → T (ltb e.core.0 k.cores)
    → IsNext k l past (due k past) e → Allowed k l past e
allowed c next = record { core = lit< c; next = next }

-- followed

-- an end, with the history before it
pub record Ending : Type 0 where
  pub before : Past
  pub core : ℕ
  pub cells : Option Cells

abbrev pub with_ending : Past → ℕ → What → List Ending → List Ending
with_ending past c (What.End lost cells) es = record { before = past; core = c; cells = cells } ∷ es
with_ending past c w es = es

abbrev pub endings : Past → List Ending
endings [] = []
endings (e ∷ past) = with_ending past e.core.0 e.what (endings past)

-- each of these ends follows its body
abbrev pub AllFollow : Config → List Ending → Type 0
AllFollow g [] = Unit {0}
AllFollow g (e ∷ es) = FollowsToEnd g e.before e.core e.cells × AllFollow g es

split : (g : Config) (past : Past) (c : ℕ) (w : What) (es : List Ending) → AllFollow g (with_ending past c w es) → EndFollows g past c w × AllFollow g es
split g past c (What.End lost cells) es all = all
split g past c w es all = (tt, all)

-- a history follows its bodies where each of its ends does
pub ended-follow : (g : Config) (past : Past) → AllFollow g (endings past) → EndedFollow g past
ended-follow g [] all = tt
ended-follow g (e ∷ past) all =
    let parts = split g past e.core.0 e.what (endings past) all in (parts.0, ended-follow g past parts.1)
