-- How far a core's open context has come: the context that the core was told, its asks with their answers, and the history.
use Rattle.std.specs.Prelude.{ℕ, ◌≡◌, ◌≤◌, Bool, false, List, [], ◌∷◌, reverse, Option, Some, None, is_some}
use Rattle.std.specs.List.{sum_by}
use Rattle.em_log.specs.declared.ask.Answer.{Answer}
use Rattle.em_log.specs.declared.ask.Ask.{Ask}
use Rattle.em_log.specs.declared.ask.Context.{Context}
use Rattle.em_log.specs.declared.entry.What.{What}
use Rattle.em_log.specs.declared.graph.Config.{Config}
use Rattle.em_log.specs.Allowance.{cost_of_ask, cost_of_lead}
use Rattle.em_log.specs.Atomic.{holds}
use Rattle.em_log.specs.Contexts as log
use Rattle.em_log.specs.Declarations.{declarations_of}
use Rattle.em_log.specs.History.{Past}
use Rattle.em_log.specs.Legal.{leads, whats, AreLeads, opening}
use Rattle.em_log.specs.Works.{Exchange}
use Rattle.em_core.specs.Pieces.{Piece, begun_by}
use Rattle.em_body.specs.Followed.{AreRead, pairs_of}
use Rattle.em_body.specs.Standings as work

-- the entries that the asks of the open context gave, the newest first
abbrev pub asked_entries : List Piece → List What
asked_entries [] = []
asked_entries (Piece.Opened k ∷ m) = []
asked_entries (Piece.Acked op tail ∷ m) = asked_entries m
asked_entries (Piece.Answered w tail a x ∷ m) = w ∷ asked_entries m

-- whether a context that came with cells still has them after this ask: an early end that is done gives them back
abbrev pub keeps_cells : Ask → Answer → Bool → Bool
keeps_cells (Ask.EndAtomic cells) Answer.Done was = false
keeps_cells a x was = was

-- whether it has cells after these asks, the newest first
abbrev pub has_cells : ℕ → Context → List Exchange → Bool
has_cells c context [] = is_some (work.opening c context).cells
has_cells c context (x ∷ es) = keeps_cells x.ask x.answer (has_cells c context es)

-- core c's open context began as this one; its object, its first environment and its cells are those of the history; its
-- asks, the newest first, were answered so, and gave these entries
pub record IsReading (g : Config) (past : Past) (c : ℕ) (context : Context) (es : List Exchange) (ws : List What) : Type 0 where
  pub begun : log.context past c ≡ Some (begun_by context)
  pub object : log.context_object (declarations_of g) past c ≡ work.object_of context
  pub first : opening (declarations_of g) past c ≡ work.opening c context
  pub hold : is_some (holds (declarations_of g) past c) ≡ has_cells c context es
  pub entries : whats (leads (declarations_of g) past c) ≡ reverse ws
  pub read : AreRead es ws
  pub each : AreLeads (declarations_of g) c (reverse (pairs_of es ws)) (leads (declarations_of g) past c)
  pub cost : sum_by (λ l. cost_of_lead l.what) (leads (declarations_of g) past c) ≤ sum_by (λ x. cost_of_ask x.ask) es

-- core c is between contexts, or in this one
abbrev pub IsCurrent : Config → Past → ℕ → Option Context → List Exchange → List What → Type 0
IsCurrent g past c None es ws = log.context past c ≡ None
IsCurrent g past c (Some context) es ws = IsReading g past c context es ws
