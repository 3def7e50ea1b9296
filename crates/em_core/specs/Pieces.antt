-- What a core has done: the contexts that it began, what it acknowledged, and its asks beside their answers.
use Rattle.std.specs.Prelude.{ℕ, suc, ◌≡◌, Bool, true, false, List, [], ◌∷◌, length, Option, Some, None, IsTrue}
use Rattle.em_log.specs.declared.ask.Answer.{Answer}
use Rattle.em_log.specs.declared.ask.Ask.{Ask}
use Rattle.em_log.specs.declared.ask.Context.{Context}
use Rattle.em_log.specs.declared.declarations.Declarations.{Declarations}
use Rattle.em_log.specs.declared.entry.Body.{Body}
use Rattle.em_log.specs.declared.entry.What.{What}
use Rattle.em_log.specs.declared.ids.OpId.{OpId}
use Rattle.em_log.specs.Answers.{answer_of}
use Rattle.em_log.specs.History.{Past, entries_by, onto}
use Rattle.em_log.specs.Leads.{lead}
use Rattle.em_log.specs.Works.{Exchange}

-- the entries of one call beside what the core was told: those that began a context; an acknowledgement and what
-- follows it; or the first entry of an ask and what follows it, beside the ask and the answer
pub data Piece : Type 0 where
  Opened : Context → Piece
  Acked : OpId → List What → Piece
  Answered : What → List What → Ask → Answer → Piece

-- their entries

-- the entry that began this context
abbrev pub begun_by : Context → What
begun_by Context.Boot = What.Enter Body.Boot
begun_by (Context.Receive r) = What.Start r.queue r.event r.stamp
begun_by (Context.GlobalStart op x) = What.Enter (Body.GlobalStart op)
begun_by (Context.LocalStart op x) = What.Enter (Body.LocalStart op)
begun_by (Context.LocalStop op x) = What.Enter (Body.LocalStop op)
begun_by (Context.GlobalStop op x) = What.Enter (Body.GlobalStop op)

-- a receive begins with the take of its event and of those that are left
abbrev pub opening : Context → List What
opening (Context.Receive r) =
    What.Take r.queue (suc (length r.rest)) r.ticket ∷ What.Start r.queue r.event r.stamp ∷ []
opening k = begun_by k ∷ []

abbrev pub entries_of : Piece → List What
entries_of (Opened k) = opening k
entries_of (Acked op tail) = What.Ack op ∷ tail
entries_of (Answered w tail a x) = w ∷ tail

-- the entries of core c, the newest first
abbrev pub history : ℕ → List Piece → Past
history c [] = []
history c (p ∷ m) = onto (entries_by c (entries_of p)) (history c m)

-- what may stand

-- an entry that follows in an ask: none begins or ends a context, nor mints or names a handle
abbrev pub is_tail : What → Bool
is_tail (What.Out q kind words) = true
is_tail (What.GlobalDone op ok) = true
is_tail (What.Ack op) = true
is_tail (What.Done op ok) = true
is_tail (What.Notify g app) = true
is_tail (What.Fault asked f scope) = true
is_tail _ = false

abbrev pub AreTail : List What → Type 0
AreTail [] = Unit {0}
AreTail (w ∷ ws) = IsTrue (is_tail w) × AreTail ws

-- today a context comes with no further events
abbrev pub HasNoRest : Context → Type 0
HasNoRest (Context.Receive r) = r.rest ≡ []
HasNoRest k = Unit {0}

-- the entry is one that this ask of core c gives, in some history, and that is answered so
pub record IsLead (c : ℕ) (a : Ask) (x : Answer) (w : What) : Type 0 where
  pub shapes : Declarations
  pub past : Past
  pub is : w ≡ lead shapes past c a
  pub answer : answer_of w ≡ x

abbrev pub IsPiece : ℕ → Piece → Type 0
IsPiece c (Opened k) = HasNoRest k
IsPiece c (Acked op tail) = AreTail tail
IsPiece c (Answered w tail a x) = IsLead c a x w × AreTail tail

abbrev pub ArePieces : ℕ → List Piece → Type 0
ArePieces c [] = Unit {0}
ArePieces c (p ∷ m) = IsPiece c p × ArePieces c m

-- the open context

abbrev pub open_after : Ask → Option Context → Option Context
open_after (Ask.End cells) was = None
open_after _ was = was

-- the context that they leave open, if they do
abbrev pub open_context : List Piece → Option Context
open_context [] = None
open_context (Opened k ∷ m) = Some k
open_context (Acked op tail ∷ m) = open_context m
open_context (Answered w tail a x ∷ m) = open_after a (open_context m)

-- its asks with their answers, the newest first
abbrev pub exchanges : List Piece → List Exchange
exchanges [] = []
exchanges (Opened k ∷ m) = []
exchanges (Acked op tail ∷ m) = exchanges m
exchanges (Answered w tail a x ∷ m) = record { ask = a; answer = x } ∷ exchanges m
