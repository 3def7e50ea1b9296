-- Which entry may come next, and which histories are lawful.
use Rattle.std.specs.Prelude.{ℕ, suc, ◌^◌, ◌≡◌, ◌<◌, ◌==◌, Bool, true, false, not, ◌&&◌, nat_lt, nat_le, List, [], ◌∷◌, length, Option, Some, None, if◌then◌else◌, is_none, is_some, IsTrue}
use Rattle.std.specs.List.{list_all}
use Rattle.std.specs.Option.{option_map_or}
use Rattle.em_log.specs.declared.declarations.Declarations.{Declarations}
use Rattle.em_log.specs.declared.ask.Ask.{Ask}
use Rattle.em_log.specs.declared.entry.Entry.{Entry}
use Rattle.em_log.specs.declared.entry.What.{What}
use Rattle.em_log.specs.declared.entry.Body.{Body}
use Rattle.em_log.specs.declared.ids.Limits.{Limits}
use Rattle.em_log.specs.declared.ids.Note.{Note}
use Rattle.em_log.specs.declared.ids.Cells.{Cells}
use Rattle.em_log.specs.History.{Past}
use Rattle.em_log.specs.Contexts.{context, is_boot, take_queue}
use Rattle.em_log.specs.Operations.{step}
use Rattle.em_log.specs.Arrivals.{Item}
use Rattle.em_log.specs.Places.{taken}
use Rattle.em_log.specs.Atomic.{holds}
use Rattle.em_log.specs.Eligible.{is_between, is_choice, take_size, ticket_drawn}
use Rattle.em_log.specs.Leads.{lead}
use Rattle.em_log.specs.Tails.{tail, start_of}

-- due

abbrev pub due_after : List Entry → List Entry → List Entry
due_after [] new = new
due_after (e ∷ es) new = es

-- what the ask under way has still to add
abbrev pub due : Declarations → Past → List Entry
due k [] = []
due k (e ∷ past) = due_after (due k past) (tail k past e)

-- asks

abbrev pub is_queue : Declarations → ℕ → Bool
is_queue k q = nat_lt q (length k.queues)

abbrev pub have_queues : Declarations → List Note → Bool
have_queues k notes = list_all (λ n. is_queue k n.queue.0) notes

-- each name in the ask is declared
abbrev pub is_declared : Declarations → Ask → Bool
is_declared k (Ask.Alloc p kind words) = nat_lt p.0 (length k.pools)
is_declared k (Ask.Send w q g) = is_queue k q.0 && option_map_or (λ e. nat_lt e.0 k.egroups) g true
is_declared k (Ask.Dequeue q) = is_queue k q.0
is_declared k (Ask.Enable q) = is_queue k q.0
is_declared k (Ask.Disable q) = is_queue k q.0
is_declared k (Ask.Apply g n notes) = nat_lt g.0 k.egroups && have_queues k notes
is_declared k (Ask.Abort g) = nat_lt g.0 k.egroups
is_declared k (Ask.Start x notes) = nat_lt x.0 (length k.running) && have_queues k notes
is_declared k (Ask.Stop x notes) = nat_lt x.0 (length k.running) && have_queues k notes
is_declared k (Ask.Modify g m notes) = nat_le g.0 (length k.groups) && have_queues k notes
is_declared k ask = true

-- a number of 64 bits
abbrev pub is_word : ℕ → Bool
is_word n = nat_lt n (2 ^ 64)

abbrev pub are_words : List ℕ → Bool
are_words words = nat_le (length words) 16 && list_all is_word words

abbrev pub are_notes : List Note → Bool
are_notes notes = nat_le (length notes) 8 && list_all (λ n. is_word n.word) notes

abbrev pub are_cells : Cells → Bool
are_cells cells = (length cells.0 == 8) && list_all is_word cells.0

-- the ask has what its type has: its numbers are in range, and its lists no longer than they may be
abbrev pub is_typed : Ask → Bool
is_typed (Ask.Alloc p kind words) = nat_lt kind (2 ^ 32) && are_words words
is_typed (Ask.Free w) = is_word w
is_typed (Ask.Send w q g) = is_word w
is_typed (Ask.Keep w) = is_word w
is_typed (Ask.Say v) = is_word v
is_typed (Ask.EndAtomic cells) = are_cells cells
is_typed (Ask.Apply g n notes) = is_word n && are_notes notes
is_typed (Ask.Increment n) = is_word n
is_typed (Ask.Start x notes) = are_notes notes
is_typed (Ask.Stop x notes) = are_notes notes
is_typed (Ask.Modify g m notes) = is_word m && are_notes notes
is_typed (Ask.End cells) = option_map_or are_cells cells true
is_typed ask = true

-- the ask is one that the graph has
abbrev pub is_ask : Declarations → Ask → Bool
is_ask k a = is_declared k a && is_typed a

abbrev pub is_boot_or_receive : Option What → Bool
is_boot_or_receive (Some (What.Enter Body.Boot)) = true
is_boot_or_receive (Some (What.Start q e s)) = true
is_boot_or_receive _ = false

abbrev pub is_global_start : Option What → Bool
is_global_start (Some (What.Enter (Body.GlobalStart op))) = true
is_global_start _ = false

-- the ask may stand in this context, which holds this atomic context
abbrev pub is_placed : Option What → Option ℕ → Ask → Bool
is_placed context atomic (Ask.End cells) = if is_some atomic then is_some cells else is_none cells
is_placed context atomic Ask.Cell = is_none atomic
is_placed context atomic Ask.Fail = is_global_start context
is_placed context atomic (Ask.Keep w) = not (is_boot context)
is_placed context atomic Ask.Claim = not (is_boot context)
is_placed context atomic (Ask.Start x notes) = is_boot_or_receive context
is_placed context atomic (Ask.Stop x notes) = is_boot_or_receive context
is_placed context atomic (Ask.Modify g m notes) = is_boot_or_receive context
is_placed context atomic ask = true

-- core c has an open context, in which the ask may stand
abbrev pub may_ask : Declarations → Past → ℕ → Ask → Bool
may_ask k past c a = is_some (context past c) && is_ask k a && is_placed (context past c) (holds k past c) a

-- entries

-- why this entry of core c may begin a block, where nothing is due
pub data Begins (k : Declarations) (l : Limits) (past : Past) (c : ℕ) (w : What) : Type 0 where
  Boots : past ≡ [] → c ≡ 0 → w ≡ What.Enter Body.Boot → Begins k l past c w
  Steps : IsTrue (is_between k past c) → step k past c ≡ Some w → Begins k l past c w
  Takes : (q : ℕ) → IsTrue (is_choice k l past c q)
      → w ≡ What.Take (record { 0 = q }) (take_size k l past c q) (ticket_drawn k past q) → Begins k l past c w
  Starts : (q : ℕ) (x : Item) (xs : List Item) → context past c ≡ None → take_queue past c ≡ Some q
      → taken k past c ≡ x ∷ xs → w ≡ start_of past q x → Begins k l past c w
  Untakes : (q : ℕ) (x : Item) (xs : List Item) → context past c ≡ None → take_queue past c ≡ Some q
      → taken k past c ≡ x ∷ xs → w ≡ What.Untake (record { 0 = q }) (suc (length xs)) → Begins k l past c w
  Asks : (a : Ask) → IsTrue (may_ask k past c a) → w ≡ lead k past c a → Begins k l past c w

-- the entry is the first that is due, or begins a block
abbrev pub IsNext : Declarations → Limits → Past → List Entry → Entry → Type 0
IsNext k l past [] e = Begins k l past e.core.0 e.what
IsNext k l past (d ∷ ds) e = e ≡ d

-- the entry may come after past
pub record Allowed (k : Declarations) (l : Limits) (past : Past) (e : Entry) : Type 0 where
  pub core : e.core.0 < k.cores
  pub next : IsNext k l past (due k past) e

abbrev pub AllAllowed : Declarations → Limits → Past → Type 0
AllAllowed k l [] = Unit {0}
AllAllowed k l (e ∷ past) = Allowed k l past e × AllAllowed k l past

-- each entry was allowed when it came, and nothing is due
pub record Lawful (k : Declarations) (l : Limits) (past : Past) : Type 0 where
  pub each : AllAllowed k l past
  pub whole : due k past ≡ []
