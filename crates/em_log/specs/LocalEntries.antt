-- The entries that a core may make alone, and hand in with its next ask.
use Rattle.std.specs.Prelude.{ℕ, ◌≡◌, ◌<◌, List, [], ◌∷◌, Option, Some, None}
use Rattle.em_log.specs.declared.declarations.Declarations.{Declarations}
use Rattle.em_log.specs.declared.entry.Entry.{Entry}
use Rattle.em_log.specs.declared.entry.What.{What}
use Rattle.em_log.specs.declared.ids.Limits.{Limits}
use Rattle.em_log.specs.declared.ids.Kind.{Kind}
use Rattle.em_log.specs.History.{Past}
use Rattle.em_log.specs.Declarations.{kind_of}
use Rattle.em_log.specs.Contexts.{context}
use Rattle.em_log.specs.Lawful.{due, Allowed}
use Rattle.em_log.specs.Allowance.{left}

-- the kind of a local entry, in this open context: the start of a taken event, the free of the received handle, and
-- the end of a receive of an atomic queue without a stamp
abbrev pub IsLocalKind : Declarations → Option What → What → Type 0
IsLocalKind k None (What.Start q e s) = Unit {0}
IsLocalKind k (Some (What.Start q e s)) (What.Free h) = h ≡ e.handle
IsLocalKind k (Some (What.Start q e s)) (What.End lost cells) = (kind_of k q.0 ≡ Kind.Atomic) × (s ≡ None)
IsLocalKind k context w = ⊥

abbrev pub HasRoom : Declarations → Past → ℕ → What → Type 0
HasRoom k past c (What.Free h) = 0 < left k past c
HasRoom k past c w = Unit {0}

-- core c may make this entry alone
pub record IsLocalEntry (k : Declarations) (l : Limits) (past : Past) (c : ℕ) (e : Entry) : Type 0 where
  pub core : e.core.0 ≡ c
  pub kind : IsLocalKind k (context past c) e.what
  pub begins : due k past ≡ []
  pub allowed : Allowed k l past e
  pub room : HasRoom k past c e.what

-- core c may make these entries alone, one after another
abbrev pub AreLocalEntries : Declarations → Limits → Past → ℕ → List Entry → Type 0
AreLocalEntries k l past c [] = Unit {0}
AreLocalEntries k l past c (e ∷ es) = IsLocalEntry k l past c e × AreLocalEntries k l (e ∷ past) c es
