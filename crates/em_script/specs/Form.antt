-- How a value stands in a line: the tokens that are written for it, and how it is read from the front of what is left.
use Rattle.std.specs.Prelude.{◌≡◌, ℕ, zero, suc, Bool, true, false, not, ◌&&◌, List, [], ◌∷◌, ◌++◌, length, drop, flat_map, min, Option, Some, None, Result, Ok, Err, is_some, is_none, unwrap_or, nat_le, ◌==◌, if◌then◌else◌, decimal, bytes_eq}
use Rattle.em_log.specs.Names.{is_name}
use Rattle.em_script.specs.declared.tokens.Stop.{Stop}
use Rattle.em_script.specs.declared.tokens.Stop.TheVariants as stops
use Rattle.em_script.specs.Lines.{Rest}
use Rattle.em_log.specs.declared.ids.PoolId.{PoolId}
use Rattle.em_log.specs.declared.ids.GroupId.{GroupId}
use Rattle.em_log.specs.declared.ids.EoId.{EoId}
use Rattle.em_log.specs.declared.ids.QueueId.{QueueId}
use Rattle.em_log.specs.declared.ids.EventGroupId.{EventGroupId}
use Rattle.em_script.specs.declared.named.Named.{Named}
use Rattle.em_script.specs.declared.named.Named.TheVariants as named
use Rattle.em_script.specs.Names.{Naming, as_pool, as_group, as_eo, as_agroup, as_queue, as_egroup}
use Rattle.em_script.specs.Numerals.{value, is_digits, is_within}

infixl 10 ◌>>=◌
abbrev pub ◌>>=◌ : {A B : Type 0} → Option A → (A → Option B) → Option B
None >>= f = None
(Some x) >>= f = f x

-- Reading gives None where the tokens do not have the form, whatever numbers and names stand in them. A number or a
-- name that breaks a rule has the form, and the rule is told by what is left.
pub record Form (A : Type 0) : Type 0 where
  pub write : A → List (List ℕ)
  pub read : Rest → Option (A × Rest)

-- What a function returned, and the rest that it left, are what reading gives, unless memory ran out.
abbrev pub Stops : {A : Type 0} → Stop → Option (A × Rest) → Type 0
Stops stops.NoForm read = read ≡ None
Stops stops.NoMemory read = Unit {0}

abbrev pub Reads : {A : Type 0} → Result A Stop → Rest → Option (A × Rest) → Type 0
Reads (Ok x) rest read = read ≡ Some (x, rest)
Reads (Err stop) rest read = Stops stop read

-- the same of a function whose answer is seen by a view
abbrev pub ReadsBy : {X A : Type 0} → (X → A) → Result X Stop → Rest → Option (A × Rest) → Type 0
ReadsBy view (Ok x) rest read = read ≡ Some (view x, rest)
ReadsBy view (Err stop) rest read = Stops stop read

-- the same of a function that tests what is left
abbrev pub Ends : {U : Type 0} → Result U Stop → Bool → Type 0
Ends (Ok _) over = over ≡ true
Ends (Err stop) over = (stop ≡ stops.NoForm) × (over ≡ false)

abbrev pub given : {A B : Type 0} → (A → B) → Option (A × Rest) → Option (B × Rest)
given to read = read >>= λ x. Some (to x.0, x.1)

abbrev pub lowered : ℕ → Bool → ℕ → ℕ
lowered rule good least = if good then least else min rule least

-- what is left, where a rule is met or else fails
abbrev pub judged : ℕ → Bool → Rest → Rest
judged rule good rest = record { tokens = rest.tokens; rule = lowered rule good rest.rule }

-- ---- tokens

abbrev pub first_token : ℕ → List (List ℕ) → Option (List ℕ × Rest)
first_token rule [] = None
first_token rule (token ∷ tokens) = Some (token, record { tokens = tokens; rule = rule })

unfoldable pub token_at : Rest → Option (List ℕ × Rest)
token_at rest = first_token rest.rule rest.tokens

abbrev pub is_first : List ℕ → List (List ℕ) → Bool
is_first word [] = false
is_first word (token ∷ tokens) = bytes_eq token word

-- the next token is this word
unfoldable pub is_at : List ℕ → Rest → Bool
is_at word rest = is_first word rest.tokens

-- what is left after one token
unfoldable pub skip : Rest → Rest
skip rest = record { tokens = drop 1 rest.tokens; rule = rest.rule }

abbrev pub has_none : List (List ℕ) → Bool
has_none [] = true
has_none (token ∷ tokens) = false

unfoldable pub is_over : Rest → Bool
is_over rest = has_none rest.tokens

-- the next token is this word, and another one follows
unfoldable pub is_followed : List ℕ → Rest → Bool
is_followed word rest = is_at word rest && not (is_over (skip rest))

-- ---- forms from forms

infixr 5 ◌▷◌
-- one after the other
abbrev pub ◌▷◌ : {A B : Type 0} → Form A → Form B → Form (A × B)
f ▷ g = record {
  write = λ p. f.write p.0 ++ g.write p.1;
  read = λ rest. f.read rest >>= λ x. g.read x.1 >>= λ y. Some ((x.0, y.0), y.1);
}

-- the same tokens, for another type
abbrev pub mapped : {A B : Type 0} → (A → B) → (B → A) → Form A → Form B
mapped to back f = record { write = λ y. f.write (back y); read = λ rest. given to (f.read rest) }

-- no token is left
abbrev pub ended : Form (Unit {0})
ended = record { write = λ _. []; read = λ rest. if is_over rest then Some (tt, rest) else None }

-- a word before it
abbrev pub after : {A : Type 0} → List ℕ → Form A → Form A
after word f = record {
  write = λ x. word ∷ f.write x;
  read = λ rest. if is_at word rest then f.read (skip rest) else None;
}

-- the word, or nothing
abbrev pub flag_tokens : List ℕ → Bool → List (List ℕ)
flag_tokens word true = word ∷ []
flag_tokens word false = []

abbrev pub flag : List ℕ → Form Bool
flag word = record {
  write = flag_tokens word;
  read = λ rest. if is_at word rest then Some (true, skip rest) else Some (false, rest);
}

-- at most so many of them up to the end of the line
unfoldable pub up_to_end : {A : Type 0} → Form A → ℕ → Rest → Option (List A × Rest)
up_to_end f zero rest = if is_over rest then Some ([], rest) else None
up_to_end f (suc n) rest =
    if is_over rest then Some ([], rest) else (f.read rest >>= λ x. up_to_end f n x.1 >>= λ xs. Some (x.0 ∷ xs.0, xs.1))

-- some of them up to the end of the line: each takes a token, so there are no more than tokens
abbrev pub several : {A : Type 0} → Form A → Form (List A)
several f = record { write = flat_map f.write; read = λ rest. up_to_end f (length rest.tokens) rest }

-- a limit on how many they are
abbrev pub limited : {A : Type 0} → ℕ → Form (List A) → Form (List A)
limited most f = record { write = f.write; read = λ rest. f.read rest >>= λ xs. Some (xs.0, judged 10 (nat_le (length xs.0) most) xs.1) }

abbrev pub lookup : {A : Type 0} → List ℕ → List (List ℕ × A) → Option A
lookup word [] = None
lookup word (entry ∷ entries) = if bytes_eq word entry.0 then Some entry.1 else lookup word entries

-- one of the words of a table
abbrev pub one_of : {A : Type 0} → List (List ℕ × A) → (A → List ℕ) → Form A
one_of table word = record {
  write = λ x. word x ∷ [];
  read = λ rest. token_at rest >>= λ t. lookup t.0 table >>= λ x. Some (x, t.1);
}

-- ---- numbers

-- a token of digits as a number; 0 where it is spelled badly or out of its range
unfoldable pub number_of : ℕ → ℕ → List ℕ → Rest → Option (ℕ × Rest)
number_of low high token rest =
    if is_digits token then Some (if is_within low high token then value token else 0, judged 6 (is_within low high token) rest) else None

unfoldable pub read_number : ℕ → ℕ → Rest → Option (ℕ × Rest)
read_number low high rest = do
  t ← token_at rest
  number_of low high t.0 t.1

abbrev pub number : ℕ → ℕ → Form ℕ
number low high = record { write = λ n. decimal n ∷ []; read = read_number low high }

-- the number of a variable: digits behind a letter
abbrev pub variable_digits : List ℕ → Option ℕ
variable_digits digits = if is_digits digits && is_within 0 15 digits then Some (value digits) else None

abbrev pub variable_of : List ℕ → Option ℕ
variable_of [] = None
variable_of (letter ∷ digits) = if letter == 118 then variable_digits digits else None

abbrev pub variable : Form ℕ
variable = record {
  write = λ v. (118 ∷ decimal v) ∷ [];
  read = λ rest. token_at rest >>= λ t. variable_of t.0 >>= λ v. Some (v, t.1);
}

-- ---- names

-- a name that is declared: well formed, and not declared before
abbrev pub declared_name : Naming → List ℕ → Rest → (List ℕ × Rest)
declared_name names token rest =
    (if is_name token then token else [], judged 4 (is_none (names.find token)) (judged 3 (is_name token) rest))

abbrev pub new_name : Naming → Form (List ℕ)
new_name names = record {
  write = λ name. name ∷ [];
  read = λ rest. token_at rest >>= λ t. Some (declared_name names t.0 t.1);
}

-- what a used name means, where it was declared as what is wanted
abbrev pub used : {A : Type 0} → A → Option A → Rest → (A × Rest)
used default found rest = (unwrap_or found default, judged 5 (is_some found) rest)

-- a name that is used
abbrev pub used_name : {A : Type 0} → Naming → (Named → Option A) → (A → Named) → A → Form A
used_name names pick back default = record {
  write = λ x. names.name (back x) ∷ [];
  read = λ rest. token_at rest >>= λ t. Some (used default (names.find t.0 >>= pick) t.1);
}

abbrev pub pool_name : Naming → Form PoolId
pool_name names = used_name names as_pool (λ id. named.Pool id) (record { 0 = 0 })

abbrev pub group_name : Naming → Form GroupId
group_name names = used_name names as_group (λ id. named.Group id) (record { 0 = 0 })

abbrev pub eo_name : Naming → Form EoId
eo_name names = used_name names as_eo (λ id. named.Eo id) (record { 0 = 0 })

abbrev pub agroup_name : Naming → Form ℕ
agroup_name names = used_name names as_agroup (λ n. named.Agroup n) 0

abbrev pub queue_name : Naming → Form QueueId
queue_name names = used_name names as_queue (λ id. named.Queue id) (record { 0 = 0 })

abbrev pub egroup_name : Naming → Form EventGroupId
egroup_name names = used_name names as_egroup (λ id. named.Egroup id) (record { 0 = 0 })
