-- The numbers of seats, and lists of items by their numbers.
use Rattle.std.specs.Prelude.{◌≡◌, ◌⊎◌, ℕ, ◌+◌, ◌<◌, nat_lt, if◌then◌else◌, List, [], ◌∷◌, ◌++◌, length, ⊤}
use Rattle.em_log.specs.Items.{LogItem, number_of}

-- n is one of the numbers
abbrev pub In : ℕ → List ℕ → Type 0
In n [] = ⊥
In n (m ∷ ms) = (n ≡ m) ⊎ In n ms

-- no item has one of the numbers
abbrev pub NoneOf : List ℕ → List LogItem → Type 0
NoneOf ns [] = ⊤
NoneOf ns (x ∷ xs) = ¬ (In (number_of x) ns) × NoneOf ns xs

-- each item has one of the numbers
abbrev pub OnlyOf : List ℕ → List LogItem → Type 0
OnlyOf ns [] = ⊤
OnlyOf ns (x ∷ xs) = In (number_of x) ns × OnlyOf ns xs

-- each item's number and p more are below 65
abbrev pub Below : ℕ → List LogItem → Type 0
Below p [] = ⊤
Below p (x ∷ xs) = (number_of x + p < 65) × Below p xs

-- numbers, and a list that has been seen
pub record Claim : Type 0 where
  pub numbers : List ℕ
  pub seen : List LogItem

abbrev pub claim : List ℕ → List LogItem → Claim
claim ns xs = record { numbers = ns; seen = xs }

-- the list begins with what was seen, and no item after that has one of the numbers
abbrev pub After : List LogItem → Claim → Type 0
After log c = (rest : List LogItem) × (log ≡ c.seen ++ rest) × NoneOf c.numbers rest

-- the longer of two lists, and the first where they are as long
abbrev pub longer : List LogItem → List LogItem → List LogItem
longer xs ys = if nat_lt (length xs) (length ys) then ys else xs
