-- Expressions in prefix form.
use Rattle.std.specs.Prelude.{ℕ, zero, suc, ◌+◌, Bool, true, List, [], ◌∷◌, ◌++◌, length, drop, map, Option, Some, None, nat_le, if◌then◌else◌, codes, decimal}
use Rattle.std.specs.Option.{option_map, option_or}
use Rattle.em_log.specs.declared.body.Expr.{Expr}
use Rattle.em_log.specs.declared.body.Expr.TheBlock.{end_of-Expr, more_of-Expr}
use Rattle.em_log.specs.declared.body.Expr.TheVariants as expr
use Rattle.em_script.specs.declared.symbol.Symbol.{Symbol}
use Rattle.em_script.specs.declared.symbol.Symbol.TheVariants as symbols
use Rattle.em_script.specs.Lines.{Rest}
use Rattle.em_script.specs.Numerals.{value, is_digits, is_within, greatest}
use Rattle.em_script.specs.Form.{◌>>=◌, Form, lookup, lowered, judged, variable_of}

-- ---- symbols

-- operators of two operands
abbrev pub operator_words : List (List ℕ × Symbol)
operator_words =
    (codes "add", symbols.Add) ∷ (codes "sub", symbols.Sub) ∷ (codes "mul", symbols.Mul) ∷ (codes "and", symbols.And)
    ∷ (codes "or", symbols.Or) ∷ (codes "xor", symbols.Xor) ∷ (codes "shr", symbols.Shr) ∷ (codes "lt", symbols.Lt)
    ∷ (codes "eq", symbols.Eq) ∷ []

abbrev pub symbol_words : List (List ℕ × Symbol)
symbol_words =
    (codes "kind", symbols.Kind) ∷ (codes "size", symbols.Size) ∷ (codes "word", symbols.Word) ∷ (codes "me", symbols.Me)
    ∷ (codes "queue", symbols.Queue) ∷ (codes "core", symbols.Core) ∷ (codes "cell", symbols.Cell) ∷ (codes "ok", symbols.LastOk)
    ∷ (codes "fault", symbols.FaultNumber) ∷ (codes "detail", symbols.Detail) ∷ operator_words

abbrev pub word_of : Symbol → List ℕ
word_of (symbols.Number n) = decimal n
word_of (symbols.Var v) = 118 ∷ decimal v
word_of symbols.Kind = codes "kind"
word_of symbols.Size = codes "size"
word_of symbols.Word = codes "word"
word_of symbols.Me = codes "me"
word_of symbols.Queue = codes "queue"
word_of symbols.Core = codes "core"
word_of symbols.Cell = codes "cell"
word_of symbols.LastOk = codes "ok"
word_of symbols.FaultNumber = codes "fault"
word_of symbols.Detail = codes "detail"
word_of symbols.Add = codes "add"
word_of symbols.Sub = codes "sub"
word_of symbols.Mul = codes "mul"
word_of symbols.And = codes "and"
word_of symbols.Or = codes "or"
word_of symbols.Xor = codes "xor"
word_of symbols.Shr = codes "shr"
word_of symbols.Lt = codes "lt"
word_of symbols.Eq = codes "eq"

-- how many expressions stand behind a symbol
abbrev pub places_of : Symbol → ℕ
places_of (symbols.Number n) = 0
places_of (symbols.Var v) = 0
places_of symbols.Word = 1
places_of symbols.Cell = 1
places_of symbols.Add = 2
places_of symbols.Sub = 2
places_of symbols.Mul = 2
places_of symbols.And = 2
places_of symbols.Or = 2
places_of symbols.Xor = 2
places_of symbols.Shr = 2
places_of symbols.Lt = 2
places_of symbols.Eq = 2
places_of _ = 0

-- a number that is spelled badly or above 64 bits counts as 0
abbrev pub number_symbol : List ℕ → Symbol
number_symbol token = symbols.Number (if is_within 0 greatest token then value token else 0)

unfoldable pub symbol_of : List ℕ → Option Symbol
symbol_of token =
    if is_digits token then Some (number_symbol token)
    else option_or (option_map (λ v. symbols.Var v) (variable_of token)) (lookup token symbol_words)

-- the token is no number, or one that is spelled well and within 64 bits
unfoldable pub is_well : List ℕ → Bool
is_well token = if is_digits token then is_within 0 greatest token else true

-- ---- from symbols to expressions

-- The expressions that symbols spell, the first one first. An operand that is missing counts as 0.

abbrev pub first_of : List Expr → Expr
first_of [] = expr.Number 0
first_of (e ∷ es) = e

abbrev pub second_of : List Expr → Expr
second_of es = first_of (drop 1 es)

-- a symbol before expressions takes the first of them as its operands
abbrev pub applied : Symbol → List Expr → List Expr
applied (symbols.Number n) es = expr.Number n ∷ es
applied (symbols.Var v) es = expr.Var v ∷ es
applied symbols.Kind es = expr.Kind ∷ es
applied symbols.Size es = expr.Size ∷ es
applied symbols.Word es = expr.Word (first_of es) ∷ drop 1 es
applied symbols.Me es = expr.Me ∷ es
applied symbols.Queue es = expr.Queue ∷ es
applied symbols.Core es = expr.Core ∷ es
applied symbols.Cell es = expr.Cell (first_of es) ∷ drop 1 es
applied symbols.LastOk es = expr.LastOk ∷ es
applied symbols.FaultNumber es = expr.FaultNumber ∷ es
applied symbols.Detail es = expr.Detail ∷ es
applied symbols.Add es = expr.Add (first_of es) (second_of es) ∷ drop 2 es
applied symbols.Sub es = expr.Sub (first_of es) (second_of es) ∷ drop 2 es
applied symbols.Mul es = expr.Mul (first_of es) (second_of es) ∷ drop 2 es
applied symbols.And es = expr.And (first_of es) (second_of es) ∷ drop 2 es
applied symbols.Or es = expr.Or (first_of es) (second_of es) ∷ drop 2 es
applied symbols.Xor es = expr.Xor (first_of es) (second_of es) ∷ drop 2 es
applied symbols.Shr es = expr.Shr (first_of es) (second_of es) ∷ drop 2 es
applied symbols.Lt es = expr.Lt (first_of es) (second_of es) ∷ drop 2 es
applied symbols.Eq es = expr.Eq (first_of es) (second_of es) ∷ drop 2 es

abbrev pub expressions_of : List Symbol → List Expr
expressions_of [] = []
expressions_of (s ∷ ss) = applied s (expressions_of ss)

-- the expression of at most 32 symbols
unfoldable pub expression_of : List Symbol → Expr
expression_of ss = if nat_le (length ss) 32 then first_of (expressions_of ss) else expr.Number 0

-- ---- and back

abbrev pub symbols_of : Expr → List Symbol
symbols_of (Expr.Number n) = symbols.Number n ∷ []
symbols_of (Expr.Var v) = symbols.Var v ∷ []
symbols_of Expr.Kind = symbols.Kind ∷ []
symbols_of Expr.Size = symbols.Size ∷ []
symbols_of (Expr.Word' _ (more_of-Expr e end_of-Expr)) = symbols.Word ∷ symbols_of e
symbols_of Expr.Me = symbols.Me ∷ []
symbols_of Expr.Queue = symbols.Queue ∷ []
symbols_of Expr.Core = symbols.Core ∷ []
symbols_of (Expr.Cell' _ (more_of-Expr e end_of-Expr)) = symbols.Cell ∷ symbols_of e
symbols_of Expr.LastOk = symbols.LastOk ∷ []
symbols_of Expr.FaultNumber = symbols.FaultNumber ∷ []
symbols_of Expr.Detail = symbols.Detail ∷ []
symbols_of (Expr.Add' _ (more_of-Expr a end_of-Expr) _ (more_of-Expr b end_of-Expr)) = symbols.Add ∷ (symbols_of a ++ symbols_of b)
symbols_of (Expr.Sub' _ (more_of-Expr a end_of-Expr) _ (more_of-Expr b end_of-Expr)) = symbols.Sub ∷ (symbols_of a ++ symbols_of b)
symbols_of (Expr.Mul' _ (more_of-Expr a end_of-Expr) _ (more_of-Expr b end_of-Expr)) = symbols.Mul ∷ (symbols_of a ++ symbols_of b)
symbols_of (Expr.And' _ (more_of-Expr a end_of-Expr) _ (more_of-Expr b end_of-Expr)) = symbols.And ∷ (symbols_of a ++ symbols_of b)
symbols_of (Expr.Or' _ (more_of-Expr a end_of-Expr) _ (more_of-Expr b end_of-Expr)) = symbols.Or ∷ (symbols_of a ++ symbols_of b)
symbols_of (Expr.Xor' _ (more_of-Expr a end_of-Expr) _ (more_of-Expr b end_of-Expr)) = symbols.Xor ∷ (symbols_of a ++ symbols_of b)
symbols_of (Expr.Shr' _ (more_of-Expr a end_of-Expr) _ (more_of-Expr b end_of-Expr)) = symbols.Shr ∷ (symbols_of a ++ symbols_of b)
symbols_of (Expr.Lt' _ (more_of-Expr a end_of-Expr) _ (more_of-Expr b end_of-Expr)) = symbols.Lt ∷ (symbols_of a ++ symbols_of b)
symbols_of (Expr.Eq' _ (more_of-Expr a end_of-Expr) _ (more_of-Expr b end_of-Expr)) = symbols.Eq ∷ (symbols_of a ++ symbols_of b)

-- ---- in a line

-- The symbols of n expressions from the first token on. Each symbol takes the place of one expression, and asks for
-- those that stand behind it.
unfoldable pub read_symbols : ℕ → List (List ℕ) → ℕ → Option (List Symbol × Rest)
read_symbols zero tokens rule = Some ([], record { tokens = tokens; rule = rule })
read_symbols (suc n) [] rule = None
read_symbols (suc n) (token ∷ tokens) rule =
    symbol_of token >>= λ s. read_symbols (places_of s + n) tokens (lowered 6 (is_well token) rule) >>= λ ss. Some (s ∷ ss.0, ss.1)

unfoldable pub read_expression : Rest → Option (Expr × Rest)
read_expression rest = do
  ss ← read_symbols 1 rest.tokens rest.rule
  Some (expression_of ss.0, judged 10 (nat_le (length ss.0) 32) ss.1)

-- an expression of at most 32 tokens
abbrev pub expression : Form Expr
expression = record { write = λ e. map word_of (symbols_of e); read = read_expression }
