-- The command line that splits the words: `solo` with three values, and `check` with none.
use Rattle.std.specs.Prelude.{◌≡◌, ◌==◌, Bool, List, [], ◌∷◌, Option, Some, None, codes, true, false}
use Rattle.std.specs.List.{list_any}
use Rattle.clap.specs.Words.{App, Row, Rule, Text, first_of, new_app, new_rule, with_rule, with_subcommand}
use Rattle.clap.specs.Simple.{on_top}

-- a value that must be there
abbrev pub value_rule : Text → Rule
value_rule id = record (new_rule id) { required = true }

abbrev pub solo_line : App
solo_line = with_rule (with_rule (with_rule (new_app (codes "solo")) (value_rule (codes "LIMIT"))) (value_rule (codes "BURST"))) (value_rule (codes "ORDER"))

abbrev pub check_line : App
check_line = new_app (codes "check")

-- the name of the program is no word
abbrev pub command_line : App
command_line = with_subcommand (with_subcommand (on_top (λ s. record s { no_binary_name = true }) (new_app (codes "emrun"))) solo_line.top) check_line.top

-- the word begins with `-` (45)
abbrev pub is_option : Text → Bool
is_option [] = false
is_option (x ∷ xs) = x == 45

-- words that are split: none begins with `-`, and the first is not `help`
abbrev pub AreValues : List Text → Type 0
AreValues texts = (list_any is_option texts ≡ false) × ((rest : List Text) → texts ≡ codes "help" ∷ rest → ⊥)

abbrev pub values_in : Option Text → Option Text → Option Text → List Text
values_in (Some limit) (Some burst) (Some order) = limit ∷ burst ∷ order ∷ []
values_in _ _ _ = []

-- the words that a split gives back: the name of the subcommand, and its values
abbrev pub words_in : Option (Text × List Row) → List Text
words_in None = []
words_in (Some p) = p.0 ∷ values_in (first_of (codes "LIMIT") p.1) (first_of (codes "BURST") p.1) (first_of (codes "ORDER") p.1)
