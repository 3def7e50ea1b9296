-- Minted, held and spent handles, and the rule by which a word may be used.
use Rattle.std.specs.Prelude.{ℕ, suc, ◌+◌, ◌==◌, Bool, true, false, List, [], ◌∷◌, ◌++◌, length, Option, Some, None, if◌then◌else◌}
use Rattle.em_log.specs.declared.entry.Entry.{Entry}
use Rattle.em_log.specs.declared.entry.What.{What}
use Rattle.em_log.specs.declared.entry.Event.{Event}
use Rattle.em_log.specs.declared.fault.Fault.{Fault}
use Rattle.em_log.specs.History.{Past, minted_in, names, has, without_all, index_of, handle_of}
use Rattle.em_log.specs.Contexts.{context}

-- minted

abbrev pub one_more : ℕ → Option Event → ℕ → ℕ
one_more i None n = n
one_more i (Some e) n = if index_of e.handle.0 == i then suc n else n

-- the generation of an index: the number of its mintings
abbrev pub generation : Past → ℕ → ℕ
generation [] i = 0
generation (e ∷ past) i = one_more i (minted_in e.what) (generation past i)

-- the handle that the next minting of this index gives
abbrev pub next_handle : Past → ℕ → ℕ
next_handle past i = handle_of (generation past i + 1) i

-- the core and the event for which a handle was minted
pub record Minting : Type 0 where
  pub core : ℕ
  pub event : Event

abbrev pub minting_by : ℕ → ℕ → Option Event → Option Minting → Option Minting
minting_by h c None was = was
minting_by h c (Some e) was = if e.handle.0 == h then Some (record { core = c; event = e }) else was

-- the minting of a handle, if it was minted
abbrev pub minting : Past → ℕ → Option Minting
minting [] h = None
minting (e ∷ past) h = minting_by h e.core.0 (minted_in e.what) (minting past h)

abbrev pub last_handle_by : ℕ → Option Event → Option ℕ → Option ℕ
last_handle_by i None was = was
last_handle_by i (Some e) was = if index_of e.handle.0 == i then Some e.handle.0 else was

-- the handle of the last minting of this index
abbrev pub last_handle : Past → ℕ → Option ℕ
last_handle [] i = None
last_handle (e ∷ past) i = last_handle_by i (minted_in e.what) (last_handle past i)

-- held

abbrev pub with_minted : Option What → Option Event → List ℕ → List ℕ
with_minted None e held = held
with_minted (Some b) None held = held
with_minted (Some b) (Some e) held = held ++ e.handle.0 ∷ []

abbrev pub held_after : What → Option What → List ℕ → List ℕ
held_after (What.Enter b) context held = []
held_after (What.Start q e s) context held = e.handle.0 ∷ []
held_after (What.End lost cells) context held = []
held_after w context held = with_minted context (minted_in w) held

-- the handles that core c's open context, its own start included, has minted and that are not spent
abbrev pub held : Past → ℕ → List ℕ
held [] c = []
held (e ∷ past) c =
    let left = without_all (names e.what) (held past c) in
    if e.core.0 == c then held_after e.what (context past c) left else left

-- spent

-- the entry that spent a handle, and the history before it
pub record Spending : Type 0 where
  pub before : Past
  pub core : ℕ
  pub what : What

-- whether this entry of core c spends the handle: it names it, or ends the context that holds it
abbrev pub spends : Past → ℕ → What → ℕ → Bool
spends past c (What.End lost cells) h = has (held past c) h
spends past c w h = has (names w) h

abbrev pub spent_by : Bool → Past → Entry → Option Spending → Option Spending
spent_by false past e was = was
spent_by true past e None = Some (record { before = past; core = e.core.0; what = e.what })
spent_by true past e (Some s) = Some s

-- how a handle was spent, if it was: the first entry that did
abbrev pub spending : Past → ℕ → Option Spending
spending [] h = None
spending (e ∷ past) h = spent_by (spends past e.core.0 e.what h) past e (spending past h)

-- the rule

abbrev pub spent_fault : ℕ → What → Fault
spent_fault place (What.Free h) = Fault.SpentByFree place
spent_fault place (What.End lost cells) = Fault.SpentByFree place
spent_fault place w = Fault.SpentBySend place

abbrev pub unspent_fault : ℕ → Minting → Option Fault
unspent_fault c m = if m.core == c then None else Some (Fault.HeldElsewhere (record { 0 = m.core }))

abbrev pub rule_of : ℕ → ℕ → Option Minting → Option Spending → Option Fault
rule_of c w None s = Some (Fault.NeverMinted w)
rule_of c w (Some m) (Some s) = Some (spent_fault (length s.before) s.what)
rule_of c w (Some m) None = unspent_fault c m

-- why core c may not use the word, if it may not: never minted, spent, or held by another core
abbrev pub rule : Past → ℕ → ℕ → Option Fault
rule past c w = rule_of c w (minting past w) (spending past w)
