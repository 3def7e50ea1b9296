-- What no entry of another core changes is as it was after any of them.
use Rattle.std.proofs.Common.{◌≡◌, ℕ, ◌==◌, false, List, [], ◌∷◌, refl, ◌∙◌, ne_eqb}
use Rattle.em_log.specs.declared.declarations.Declarations.{Declarations}
use Rattle.em_log.specs.declared.entry.Entry.{Entry}
use Rattle.em_log.specs.declared.ids.Limits.{Limits}
use Rattle.em_log.specs.History.{Past, onto}
use Rattle.em_log.specs.Lawful.{AllAllowed}
use Rattle.em_cores.specs.Others.{AreOfOthers}

-- what came before these entries was allowed too
pub allowed-before : (k : Declarations) (l : Limits) (es : List Entry) (past : Past) → AllAllowed k l (onto es past) → AllAllowed k l past
allowed-before k l [] past all = all
allowed-before k l (e ∷ es) past all = (allowed-before k l es (e ∷ past) all).1

pub same-after : {X : Type 0} (P : Past → X) (c : ℕ) → ((e : Entry) (past : Past) → (e.core.0 == c) ≡ false → P (e ∷ past) ≡ P past)
    → (es : List Entry) (past : Past) → AreOfOthers c es → P (onto es past) ≡ P past
same-after P c one [] past others = refl
same-after P c one (e ∷ es) past others = same-after P c one es (e ∷ past) others.1 ∙ one e past (ne_eqb e.core.0 c others.0)

-- the same where the entries are allowed
pub same-allowed : {X : Type 0} (P : Past → X) (k : Declarations) (l : Limits) (c : ℕ)
    → ((e : Entry) (past : Past) → AllAllowed k l (e ∷ past) → (e.core.0 == c) ≡ false → P (e ∷ past) ≡ P past)
    → (es : List Entry) (past : Past) → AllAllowed k l (onto es past) → AreOfOthers c es → P (onto es past) ≡ P past
same-allowed P k l c one [] past all others = refl
same-allowed P k l c one (e ∷ es) past all others =
    same-allowed P k l c one es (e ∷ past) all others.1
    ∙ one e past (allowed-before k l es (e ∷ past) all) (ne_eqb e.core.0 c others.0)
