-- What an ask and a take are answered.
use Rattle.std.specs.Prelude.{ℕ, ◌≡◌, ◌==◌, Bool, false, List, [], ◌∷◌, length, map, Option, Some, None, if◌then◌else◌, IsTrue}
use Rattle.std.specs.List.{list_any}
use Rattle.std.specs.Option.{option_map, option_map_or, option_and_then}
use Rattle.em_log.specs.declared.declarations.Declarations.{Declarations}
use Rattle.em_log.specs.declared.ids.Limits.{Limits}
use Rattle.em_log.specs.declared.ids.EndKind.{EndKind}
use Rattle.em_log.specs.declared.ids.Cells.{Cells}
use Rattle.em_log.specs.declared.ids.EoId.{EoId}
use Rattle.em_log.specs.declared.ask.Answer.{Answer}
use Rattle.em_log.specs.declared.ask.Context.{Context}
use Rattle.em_log.specs.declared.entry.Entry.{Entry}
use Rattle.em_log.specs.declared.entry.What.{What}
use Rattle.em_log.specs.declared.entry.Body.{Body}
use Rattle.em_log.specs.declared.entry.Event.{Event}
use Rattle.em_log.specs.declared.entry.Taken.{Taken}
use Rattle.em_log.specs.History.{Past, entry_by, onto, index_of}
use Rattle.em_log.specs.Declarations.{below}
use Rattle.em_log.specs.Contexts.{context, boot_ended, context_object}
use Rattle.em_log.specs.Handles.{generation}
use Rattle.em_log.specs.Order.{open_ticket}
use Rattle.em_log.specs.Operations.{step}
use Rattle.em_log.specs.Arrivals.{Item}
use Rattle.em_log.specs.Places.{taken}
use Rattle.em_log.specs.Atomic.{holds, cells}
use Rattle.em_log.specs.Eligible.{eligible, is_choice, take_size, ticket_drawn, is_quiet, is_at_limit}
use Rattle.em_log.specs.Tails.{tail}

-- an ask

abbrev pub minted_answer : Option Event → Answer
minted_answer None = Answer.Nothing
minted_answer (Some e) = Answer.Minted e

-- what an ask is answered whose first entry this is
abbrev pub answer_of : What → Answer
answer_of (What.Fault _ f _) = Answer.Refused f
answer_of (What.Alloc p e) = Answer.Minted e
answer_of (What.Claim e) = minted_answer e
answer_of (What.Dequeue q e) = minted_answer e
answer_of w = Answer.Done

-- the history after a block: its first entry, and all that follows in the same ask
abbrev pub block : Declarations → Past → Entry → Past
block k past e = onto (tail k past e) (e ∷ past)

-- a take

abbrev pub object_id : Option ℕ → EoId
object_id x = record { 0 = option_map_or (λ n. n) x 0 }

abbrev pub taken_as : Past → Item → Taken
taken_as past x =
    record {
      index = index_of x.handle;
      generation = generation past (index_of x.handle);
      kind = x.kind;
      words = x.words;
      stamp = x.stamp;
    }

abbrev pub cells_as : List ℕ → Cells
cells_as cs = record { 0 = cs }

abbrev pub context_from : Declarations → Past → ℕ → What → Option Context
context_from k now c (What.Start q e s) =
    Some (Context.Receive (record {
      queue = q;
      eo = object_id (context_object k now c);
      event = e;
      stamp = s;
      ticket = option_map (λ t. t.number) (open_ticket now c);
      cells = option_map (λ a. cells_as (cells k now a)) (holds k now c);
      rest = map (taken_as now) (taken k now c);
    }))
context_from k now c (What.Enter Body.Boot) = Some Context.Boot
context_from k now c (What.Enter (Body.GlobalStart op)) = Some (Context.GlobalStart op (object_id (context_object k now c)))
context_from k now c (What.Enter (Body.LocalStart op)) = Some (Context.LocalStart op (object_id (context_object k now c)))
context_from k now c (What.Enter (Body.LocalStop op)) = Some (Context.LocalStop op (object_id (context_object k now c)))
context_from k now c (What.Enter (Body.GlobalStop op)) = Some (Context.GlobalStop op (object_id (context_object k now c)))
context_from k now c w = None

-- core c's open context, as a reply tells it
abbrev pub context_told : Declarations → Past → ℕ → Option Context
context_told k now c = option_and_then (context_from k now c) (context now c)

-- whether core c may take from some queue
abbrev pub has_choice : Declarations → Limits → Past → ℕ → Bool
has_choice k l past c = list_any (eligible k l past c) (below (length k.queues))

abbrev pub is_first : ℕ → Past → Bool
is_first c [] = c == 0
is_first c (e ∷ past) = false

-- how the history stands for core c where nothing is taken: it has ended, or there is nothing to do for now
abbrev pub RestAnswer : Declarations → Limits → Past → Answer → Type 0
RestAnswer k l past Answer.Quiet = IsTrue (is_quiet k past)
RestAnswer k l past Answer.Limit = IsTrue (is_at_limit k l past)
RestAnswer k l past Answer.Idle = (is_quiet k past ≡ false) × (is_at_limit k l past ≡ false)
RestAnswer k l past answer = ⊥

-- what a take of core c after past is answered, and the history after it; the first case that holds decides
pub data Takes (k : Declarations) (l : Limits) (halted : Bool) (past : Past) (c : ℕ) (answer : Answer) (now : Past) : Type 0 where
  Halted : IsTrue halted → answer ≡ Answer.Halted → now ≡ past → Takes k l halted past c answer now
  Boots : halted ≡ false → IsTrue (is_first c past) → answer ≡ Answer.Context Context.Boot
      → now ≡ entry_by c (What.Enter Body.Boot) ∷ past → Takes k l halted past c answer now
  Early : halted ≡ false → is_first c past ≡ false → boot_ended past ≡ false → answer ≡ Answer.Idle → now ≡ past
      → Takes k l halted past c answer now
  Enters : (b : Body) (context : Context) → halted ≡ false → IsTrue (boot_ended past) → step k past c ≡ Some (What.Enter b)
      → now ≡ block k past (entry_by c (What.Enter b)) → context_told k now c ≡ Some context → answer ≡ Answer.Context context
      → Takes k l halted past c answer now
  Acks : (op : ℕ) → halted ≡ false → IsTrue (boot_ended past) → step k past c ≡ Some (What.Ack (record { 0 = op }))
      → now ≡ block k past (entry_by c (What.Ack (record { 0 = op }))) → answer ≡ Answer.Acked (record { 0 = op })
      → Takes k l halted past c answer now
  Receives : (q : ℕ) (context : Context) → halted ≡ false → IsTrue (boot_ended past) → step k past c ≡ None
      → IsTrue (is_choice k l past c q)
      → now ≡ block k past (entry_by c (What.Take (record { 0 = q }) (take_size k l past c q) (ticket_drawn k past q)))
      → context_told k now c ≡ Some context → answer ≡ Answer.Context context → Takes k l halted past c answer now
  Rests : halted ≡ false → IsTrue (boot_ended past) → step k past c ≡ None → has_choice k l past c ≡ false
      → RestAnswer k l past answer → now ≡ past → Takes k l halted past c answer now

-- how the history has ended, if it has
abbrev pub end_of : Declarations → Limits → Past → Option EndKind
end_of k l past =
    if is_quiet k past then Some EndKind.Quiet else if is_at_limit k l past then Some EndKind.Limit else None
