-- A history, its newest entry first, and what one entry shows.
use Rattle.std.specs.Prelude.{ℕ, ◌+◌, ◌*◌, ◌%◌, ◌==◌, Bool, List, [], ◌∷◌, map, Option, Some, None, if◌then◌else◌}
use Rattle.std.specs.List.{list_any}
use Rattle.em_log.specs.declared.entry.Entry.{Entry}
use Rattle.em_log.specs.declared.entry.What.{What}
use Rattle.em_log.specs.declared.entry.Event.{Event}
use Rattle.em_log.specs.declared.ids.Note.{Note}

-- all entries so far, the newest first: the place of an entry is the number of those behind it
abbrev pub Past : Type 0
Past = List Entry

abbrev pub entry_by : ℕ → What → Entry
entry_by c w = record { core = record { 0 = c }; what = w }

-- these entries of one core, in order
abbrev pub entries_by : ℕ → List What → List Entry
entries_by c ws = map (entry_by c) ws

-- the history after these entries, the first of them first
abbrev pub onto : List Entry → Past → Past
onto [] past = past
onto (e ∷ es) past = onto es (e ∷ past)

-- the entries of one core
abbrev pub part : Past → ℕ → Past
part [] c = []
part (e ∷ past) c = if e.core.0 == c then e ∷ part past c else part past c

-- whether the number is among these
abbrev pub has : List ℕ → ℕ → Bool
has ms n = list_any (λ m. m == n) ms

abbrev pub without : ℕ → List ℕ → List ℕ
without n [] = []
without n (m ∷ ms) = if m == n then without n ms else m ∷ without n ms

abbrev pub without_all : List ℕ → List ℕ → List ℕ
without_all [] ms = ms
without_all (n ∷ ns) ms = without_all ns (without n ms)

-- a handle is the generation of an index, and the index
abbrev pub handle_of : ℕ → ℕ → ℕ
handle_of generation index = generation * 65536 + index

abbrev pub index_of : ℕ → ℕ
index_of h = h % 65536

-- the event that an entry mints a handle for, if it does
abbrev pub minted_in : What → Option Event
minted_in (What.Alloc p e) = Some e
minted_in (What.Start q e s) = Some e
minted_in (What.Claim e) = e
minted_in (What.Dequeue q e) = e
minted_in _ = None

abbrev pub note_words : List Note → List ℕ
note_words notes = map (λ n. n.word) notes

-- the handles that an entry names to spend them
abbrev pub names : What → List ℕ
names (What.Send h q t s) = h.0 ∷ []
names (What.Free h) = h.0 ∷ []
names (What.Keep h) = h.0 ∷ []
names (What.Begin op job notes) = note_words notes
names (What.Apply g a n notes) = note_words notes
names _ = []
