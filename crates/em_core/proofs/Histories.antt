-- The entries of a core, with one more piece: its open context, and the handles that this holds.
use Rattle.std.proofs.Common.{◌≡◌, ℕ, ◌==◌, List, [], ◌∷◌, Option, Some, None, refl, ◌∙◌, if◌then◌else◌}
use Rattle.std.specs.Prelude.{IsTrue}
use Rattle.em_log.specs.declared.ask.Answer.{Answer}
use Rattle.em_log.specs.declared.ask.Ask.{Ask}
use Rattle.em_log.specs.declared.ask.Context.{Context}
use Rattle.em_log.specs.declared.entry.What.{What}
use Rattle.em_log.specs.declared.ids.Cells.{Cells}
use Rattle.em_log.specs.declared.ids.OpId.{OpId}
use Rattle.em_log.specs.History.{Past, names, without_all, entry_by, entries_by, onto}
use Rattle.em_log.specs.Contexts.{context, context_after}
use Rattle.em_log.specs.Handles.{held, held_after, with_minted}
use Rattle.em_core.specs.Pieces.{Piece, IsLead, AreTail, is_tail, begun_by, history}
use Rattle.em_core.specs.Spent.{spent, handles_in}
use Rattle.em_core.proofs.Handles.{same_number}
use Rattle.em_core.proofs.Leads.{Shows, event_in, lead-ends}

-- one entry

pub own : {A : Type 0} (c : ℕ) (x y : A) → (if c == c then x else y) ≡ x
own c x y = let same = same_number c in rw same refl

pub entry-context : (c : ℕ) (w : What) (past : Past) → context (entry_by c w ∷ past) c ≡ context_after w (context past c)
entry-context c w past = own c _ _

pub entry-held : (c : ℕ) (w : What) (past : Past)
    → held (entry_by c w ∷ past) c ≡ held_after w (context past c) (without_all (names w) (held past c))
entry-held c w past = own c _ _

-- what follows in an ask

tail_entry-context : (w : What) (was : Option What) → IsTrue (is_tail w) → context_after w was ≡ was
tail_entry-context (What.Enter b) was is = absurd cc
tail_entry-context (What.Start q e s) was is = absurd cc
tail_entry-context (What.End lost cells) was is = absurd cc
tail_entry-context w was is = refl

unminted : (was : Option What) (hs : List ℕ) → with_minted was None hs ≡ hs
unminted None hs = refl
unminted (Some b) hs = refl

tail_entry-held : (w : What) (was : Option What) (hs : List ℕ) → IsTrue (is_tail w)
    → held_after w was (without_all (names w) hs) ≡ hs
tail_entry-held (What.Out q kind words) was hs is = unminted was hs
tail_entry-held (What.GlobalDone op ok) was hs is = unminted was hs
tail_entry-held (What.Ack op) was hs is = unminted was hs
tail_entry-held (What.Done op ok) was hs is = unminted was hs
tail_entry-held (What.Notify g app) was hs is = unminted was hs
tail_entry-held (What.Fault asked f scope) was hs is = unminted was hs
tail_entry-held w was hs is = absurd cc

pub tail-context : (c : ℕ) (ws : List What) (past : Past) → AreTail ws → context (onto (entries_by c ws) past) c ≡ context past c
tail-context c [] past all = refl
tail-context c (w ∷ ws) past all =
    tail-context c ws (entry_by c w ∷ past) all.1 ∙ entry-context c w past ∙ tail_entry-context w (context past c) all.0

pub tail-held : (c : ℕ) (ws : List What) (past : Past) → AreTail ws → held (onto (entries_by c ws) past) c ≡ held past c
tail-held c [] past all = refl
tail-held c (w ∷ ws) past all =
    tail-held c ws (entry_by c w ∷ past) all.1 ∙ entry-held c w past ∙ tail_entry-held w (context past c) (held past c) all.0

-- a context begins

pub opened-context : (c : ℕ) (k : Context) (m : List Piece) → context (history c (Piece.Opened k ∷ m)) c ≡ Some (begun_by k)
opened-context c (Context.Receive r) m = own c _ _
opened-context c Context.Boot m = own c _ _
opened-context c (Context.GlobalStart op x) m = own c _ _
opened-context c (Context.LocalStart op x) m = own c _ _
opened-context c (Context.LocalStop op x) m = own c _ _
opened-context c (Context.GlobalStop op x) m = own c _ _

pub opened-held : (c : ℕ) (k : Context) (m : List Piece) → held (history c (Piece.Opened k ∷ m)) c ≡ handles_in k
opened-held c (Context.Receive r) m = own c _ _
opened-held c Context.Boot m = own c _ _
opened-held c (Context.GlobalStart op x) m = own c _ _
opened-held c (Context.LocalStart op x) m = own c _ _
opened-held c (Context.LocalStop op x) m = own c _ _
opened-held c (Context.GlobalStop op x) m = own c _ _

-- an acknowledgement

pub acked-context : (c : ℕ) (op : OpId) (tail : List What) (m : List Piece) → AreTail tail
    → context (history c (Piece.Acked op tail ∷ m)) c ≡ context (history c m) c
acked-context c op tail m all = tail-context c (What.Ack op ∷ tail) (history c m) (refl, all)

pub acked-held : (c : ℕ) (op : OpId) (tail : List What) (m : List Piece) → AreTail tail
    → held (history c (Piece.Acked op tail ∷ m)) c ≡ held (history c m) c
acked-held c op tail m all = tail-held c (What.Ack op ∷ tail) (history c m) (refl, all)

-- an ask in the midst of a context

pub asked-context : (c : ℕ) (w : What) (tail : List What) (a : Ask) (x : Answer) (m : List Piece) → Shows a x w → AreTail tail
    → context (history c (Piece.Answered w tail a x ∷ m)) c ≡ context (history c m) c
asked-context c w tail a x m shows all =
    tail-context c tail (entry_by c w ∷ history c m) all ∙ entry-context c w (history c m) ∙ shows.context (context (history c m) c)

pub asked-held : (c : ℕ) (w : What) (tail : List What) (a : Ask) (x : Answer) (m : List Piece) → Shows a x w → AreTail tail
    → held (history c (Piece.Answered w tail a x ∷ m)) c
    ≡ with_minted (context (history c m) c) (event_in x) (without_all (spent a x) (held (history c m) c))
asked-held c w tail a x m shows all =
    let past = history c m in
    let named = shows.names in
    let minted = shows.minted in
    tail-held c tail (entry_by c w ∷ past) all ∙ entry-held c w past
    ∙ shows.handles (context past c) (without_all (names w) (held past c)) ∙ rw (named, minted) refl

-- an end

pub ended-context : (c : ℕ) (w : What) (tail : List What) (cells : Option Cells) (x : Answer) (m : List Piece)
    → IsLead c (Ask.End cells) x w → AreTail tail → context (history c (Piece.Answered w tail (Ask.End cells) x ∷ m)) c ≡ None
ended-context c w tail cells x m lead all =
    let is = (lead-ends c cells x w lead).1 in
    tail-context c tail (entry_by c w ∷ history c m) all ∙ entry-context c w (history c m) ∙ rw is refl

pub ended-held : (c : ℕ) (w : What) (tail : List What) (cells : Option Cells) (x : Answer) (m : List Piece)
    → IsLead c (Ask.End cells) x w → AreTail tail → held (history c (Piece.Answered w tail (Ask.End cells) x ∷ m)) c ≡ []
ended-held c w tail cells x m lead all =
    let is = (lead-ends c cells x w lead).1 in
    tail-held c tail (entry_by c w ∷ history c m) all ∙ entry-held c w (history c m) ∙ rw is refl
