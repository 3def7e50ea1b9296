-- How a value stands in a line: the tokens written for it, and how it is read from the front of what is left.
use Rattle.std.specs.Prelude.{◌≡◌, ◌<◌, ℕ, zero, suc, ◌+◌, ◌-◌, ◌*◌, Bool, true, false, not, ◌&&◌, List, [], ◌∷◌, ◌++◌, length, drop, slice_index, flat_map, Option, Some, None, is_some, unwrap_or, ◌==◌, nat_lt, nat_le, if◌then◌else◌, decimal, bytes_eq, ◌⊎◌}
use Rattle.std.proofs.Common.{inl, inr}
use Rattle.std.specs.Char.{is_ascii_digit}
use Rattle.std.specs.List.{list_all}
use Rattle.em_trace.specs.Line.{Rest}

infixl 10 ◌>>=◌
abbrev pub ◌>>=◌ : {A B : Type 0} → Option A → (A → Option B) → Option B
None >>= f = None
(Some x) >>= f = f x

-- Reading gives None where the tokens do not have the form, whatever numbers stand in them. A number that is spelled
-- badly or out of its range has the form, and is told by what is left.
pub record Form (A : Type 0) : Type 0 where
  pub write : A → List (List ℕ)
  pub read : Rest → Option (A × Rest)

-- What a function returned, and the rest that it left, are what reading gives.
abbrev pub Reads : {A : Type 0} → Option A → Rest → Option (A × Rest) → Type 0
Reads None rest read = read ≡ None
Reads (Some x) rest read = read ≡ Some (x, rest)

-- the same of a function that returns no value
abbrev pub Skips : {U A : Type 0} → Option U → Rest → Option (A × Rest) → Type 0
Skips None rest read = read ≡ None
Skips {U} {A} (Some _) rest read = (x : A) × (read ≡ Some (x, rest))

-- no count is read, or one that is greater than the number of tokens behind it
abbrev pub HasNoCount : Option (ℕ × Rest) → Type 0
HasNoCount None = Unit {0}
HasNoCount (Some n) = length n.1.tokens < n.0

abbrev pub CountIs : Option ℕ → Rest → Option (ℕ × Rest) → Type 0
CountIs None rest read = HasNoCount read
CountIs (Some n) rest read = read ≡ Some (n, rest)

abbrev pub given : {A B : Type 0} → (A → B) → Option (A × Rest) → Option (B × Rest)
given to read = read >>= λ x. Some (to x.0, x.1)

abbrev pub judged : Bool → Rest → Rest
judged good rest = record { tokens = rest.tokens; well = rest.well && good }

-- ---- tokens

abbrev pub first_token : Bool → List (List ℕ) → Option (List ℕ × Rest)
first_token well [] = None
first_token well (token ∷ tokens) = Some (token, record { tokens = tokens; well = well })

unfoldable pub token_at : Rest → Option (List ℕ × Rest)
token_at rest = first_token rest.well rest.tokens

abbrev pub is_first : List ℕ → List (List ℕ) → Bool
is_first word [] = false
is_first word (token ∷ tokens) = bytes_eq token word

-- the next token is this word
unfoldable pub is_at : List ℕ → Rest → Bool
is_at word rest = is_first word rest.tokens

-- what is left after one token
unfoldable pub skip : Rest → Rest
skip rest = record { tokens = drop 1 rest.tokens; well = rest.well }

abbrev pub has_none : List (List ℕ) → Bool
has_none [] = true
has_none (token ∷ tokens) = false

unfoldable pub is_over : Rest → Bool
is_over rest = has_none rest.tokens

-- ---- numbers

abbrev pub value_from : ℕ → List ℕ → ℕ
value_from n [] = n
value_from n (c ∷ cs) = value_from (10 * n + (c - 48)) cs

-- the number that digits spell, leading zeros or not
unfoldable pub value : List ℕ → ℕ
value digits = value_from 0 digits

unfoldable pub is_digits : List ℕ → Bool
is_digits token = nat_lt 0 (length token) && list_all is_ascii_digit token

-- digits without a leading zero, of a number that is at most max
unfoldable pub is_well : ℕ → List ℕ → Bool
is_well max digits = not (slice_index digits 0 == 48 && nat_lt 1 (length digits)) && nat_le (value digits) max

-- a token of digits as a number; 0 where it is spelled badly or above max
unfoldable pub number_of : ℕ → List ℕ → Rest → Option (ℕ × Rest)
number_of max token rest = if is_digits token then Some (if is_well max token then value token else 0, judged (is_well max token) rest) else None

unfoldable pub read_number : ℕ → Rest → Option (ℕ × Rest)
read_number max rest = do
  t ← token_at rest
  number_of max t.0 t.1

abbrev pub number : ℕ → Form ℕ
number max = record { write = λ n. decimal n ∷ []; read = read_number max }

abbrev pub number_behind : ℕ → ℕ → List ℕ → Rest → Option (ℕ × Rest)
number_behind mark max [] rest = None
number_behind mark max (c ∷ digits) rest = if c == mark then number_of max digits rest else None

unfoldable pub read_marked : ℕ → ℕ → Rest → Option (ℕ × Rest)
read_marked mark max rest = do
  t ← token_at rest
  number_behind mark max t.0 t.1

-- a number behind a letter
abbrev pub marked : ℕ → ℕ → Form ℕ
marked mark max = record { write = λ n. (mark ∷ decimal n) ∷ []; read = read_marked mark max }

-- ---- forms from forms

infixr 5 ◌▷◌
-- one after the other
abbrev pub ◌▷◌ : {A B : Type 0} → Form A → Form B → Form (A × B)
f ▷ g = record {
  write = λ p. f.write p.0 ++ g.write p.1;
  read = λ rest. f.read rest >>= λ x. g.read x.1 >>= λ y. Some ((x.0, y.0), y.1);
}

-- the same tokens, for another type
abbrev pub mapped : {A B : Type 0} → (A → B) → (B → A) → Form A → Form B
mapped to back f = record { write = λ y. f.write (back y); read = λ rest. given to (f.read rest) }

abbrev pub nothing : Form (Unit {0})
nothing = record { write = λ _. []; read = λ rest. Some (tt, rest) }

-- no token is left
abbrev pub ended : Form (Unit {0})
ended = record { write = λ _. []; read = λ rest. if is_over rest then Some (tt, rest) else None }

-- a word before it
abbrev pub after : {A : Type 0} → List ℕ → Form A → Form A
after word f = record {
  write = λ x. word ∷ f.write x;
  read = λ rest. if is_at word rest then f.read (skip rest) else None;
}

abbrev pub either_tokens : {A B : Type 0} → List ℕ → Form A → Form B → A ⊎ B → List (List ℕ)
either_tokens word f g (inl x) = word ∷ f.write x
either_tokens word f g (inr y) = g.write y

-- the first behind a word, or else the second
abbrev pub either : {A B : Type 0} → List ℕ → Form A → Form B → Form (A ⊎ B)
either word f g = record {
  write = either_tokens word f g;
  read = λ rest. if is_at word rest then given (λ x. inl x) (f.read (skip rest)) else given (λ y. inr y) (g.read rest);
}

abbrev pub optional_tokens : {A : Type 0} → List ℕ → Form A → Option A → List (List ℕ)
optional_tokens word f None = []
optional_tokens word f (Some x) = word ∷ f.write x

-- behind a word, or nothing
abbrev pub optional : {A : Type 0} → List ℕ → Form A → Form (Option A)
optional word f = record {
  write = optional_tokens word f;
  read = λ rest. if is_at word rest then given (λ x. Some x) (f.read (skip rest)) else Some (None, rest);
}

-- n of them
unfoldable pub items : {A : Type 0} → Form A → ℕ → Rest → Option (List A × Rest)
items f zero rest = Some ([], rest)
items f (suc n) rest = f.read rest >>= λ x. items f n x.1 >>= λ xs. Some (x.0 ∷ xs.0, xs.1)

abbrev pub times : {A : Type 0} → ℕ → Form A → Form (List A)
times n f = record { write = flat_map f.write; read = items f n }

-- a token of digits as a count, leading zeros or not
unfoldable pub read_count : ℕ → Rest → Option (ℕ × Rest)
read_count max rest = do
  t ← token_at rest
  if is_digits t.0 then Some (value t.0, judged (is_well max t.0) t.1) else None

-- the count, at most max, and that many of them
abbrev pub counted : {A : Type 0} → ℕ → Form A → Form (List A)
counted max f = record {
  write = λ xs. decimal (length xs) ∷ flat_map f.write xs;
  read = λ rest. read_count max rest >>= λ n. items f n.0 n.1 >>= λ xs. Some (if nat_le n.0 max then xs.0 else [], xs.1);
}

abbrev pub lookup : {A : Type 0} → List ℕ → List (List ℕ × A) → Option A
lookup word [] = None
lookup word (entry ∷ entries) = if bytes_eq word entry.0 then Some entry.1 else lookup word entries

-- one of the words of a table
abbrev pub one_of : {A : Type 0} → List (List ℕ × A) → (A → List ℕ) → Form A
one_of table word = record {
  write = λ x. word x ∷ [];
  read = λ rest. token_at rest >>= λ t. lookup t.0 table >>= λ x. Some (x, t.1);
}

-- what has a value of the other type; else the default, told as a number out of its range is
abbrev pub checked : {A B : Type 0} → (A → Option B) → (B → A) → B → Form A → Form B
checked to back default f = record {
  write = λ y. f.write (back y);
  read = λ rest. f.read rest >>= λ x. Some (unwrap_or (to x.0) default, judged (is_some (to x.0)) x.1);
}
