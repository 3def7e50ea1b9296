-- A history, and the mark of a halt in it, as one list of items.
use Rattle.std.specs.Prelude.{ℕ, ◌==◌, Bool, true, false, nat_le, List, [], ◌∷◌, ◌++◌, length, map, Option, Some, None, if◌then◌else◌}
use Rattle.em_log.specs.declared.entry.Entry.{Entry}
use Rattle.em_log.specs.History.{Past, onto}
use Rattle.em_log.specs.Items.{LogItem, Logged, Halted, number_of}
use Rattle.em_board.specs.declared.shared_desk.Mark.{Mark}

-- the entries among these items, in order
abbrev pub entries : List LogItem → List Entry
entries [] = []
entries (Logged e ∷ xs) = e ∷ entries xs
entries (Halted c ∷ xs) = entries xs

-- the history that these items are, whatever mark stands among them
abbrev pub history : List LogItem → Past
history xs = onto (entries xs) []

-- a mark stands among these items
abbrev pub is_marked : List LogItem → Bool
is_marked [] = false
is_marked (Logged e ∷ xs) = is_marked xs
is_marked (Halted c ∷ xs) = true

-- the items of core c
abbrev pub items_of : ℕ → List LogItem → List LogItem
items_of c [] = []
items_of c (x ∷ xs) = if number_of x == c then x ∷ items_of c xs else items_of c xs

abbrev pub logged : List Entry → List LogItem
logged es = map (λ e. Logged e) es

abbrev pub first_mark : Option Mark → List LogItem
first_mark None = []
first_mark (Some m) = Halted m.core ∷ []

-- the items of a history, with the mark behind as many entries as its place says
abbrev pub shown : Past → Option Mark → List LogItem
shown [] m = first_mark m
shown (e ∷ past) None = shown past None ++ Logged e ∷ []
shown (e ∷ past) (Some m) =
    if nat_le m.place (length past)
    then shown past (Some m) ++ Logged e ∷ []
    else shown past None ++ Logged e ∷ Halted m.core ∷ []
