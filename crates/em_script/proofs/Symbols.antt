-- The symbols of expressions, one after the other, and the tokens that they take.
use Rattle.std.proofs.Common.{◌≡◌, ℕ, zero, suc, ◌+◌, ◌-◌, ◌<◌, ◌≤◌, List, [], ◌∷◌, ◌++◌, length, Option, Some, None, refl, sym, ap, subst, ◌∙◌, arith, append-nil}
use Rattle.std.specs.Prelude.{nat_le}
use Rattle.em_script.specs.Lines.{Rest}
use Rattle.em_script.specs.declared.symbol.Symbol.{Symbol}
use Rattle.em_script.specs.declared.symbol.Symbol.TheVariants as symbols
use Rattle.em_script.specs.Form.{◌>>=◌, first_token, token_at, lowered, judged}
use Rattle.em_script.specs.Expressions.{places_of, symbol_of, is_well, expression_of, read_symbols, read_expression, expression}
use Rattle.em_script.proofs.Binds.{some-is, bind-some}
use Rattle.em_script.proofs.Front.{with_front, with_front-more}
use Rattle.em_script.proofs.Repeats.{TakesTokens}

-- ---- one more symbol

symbols-cons : (front : List Symbol) (n : ℕ) (token : List ℕ) (tokens : List (List ℕ)) (rule : ℕ) (x : Symbol) → symbol_of token ≡ Some x
    → with_front front (read_symbols (suc n) (token ∷ tokens) rule) ≡ with_front (front ++ x ∷ []) (read_symbols (places_of x + n) tokens (lowered 6 (is_well token) rule))
unfolding read_symbols
symbols-cons front n token tokens rule x h = rw h (with_front-more front x (read_symbols (places_of x + n) tokens (lowered 6 (is_well token) rule)))

symbols-first : (front : List Symbol) (n : ℕ) (tokens : List (List ℕ)) (rule : ℕ) (token : List ℕ) (s' : Rest) (x : Symbol) → first_token rule tokens ≡ Some (token, s') → symbol_of token ≡ Some x
    → with_front front (read_symbols (suc n) tokens rule) ≡ with_front (front ++ x ∷ []) (read_symbols (places_of x + n) s'.tokens (lowered 6 (is_well token) s'.rule))
symbols-first front n [] rule token s' x e h = absurd cc
symbols-first front n (t ∷ ts) rule token s' x e h =
    let same = some-is (t, record { tokens = ts; rule = rule }) (token, s') e in
    subst (λ (p : List ℕ × Rest). symbol_of p.0 ≡ Some x → with_front front (read_symbols (suc n) (t ∷ ts) rule) ≡ with_front (front ++ x ∷ []) (read_symbols (places_of x + n) p.1.tokens (lowered 6 (is_well p.0) p.1.rule))) same
    (λ k. symbols-cons front n t ts rule x k) h

pub symbols-more : (front : List Symbol) (n : ℕ) (s : Rest) (token : List ℕ) (s' : Rest) (x : Symbol) (total : Option (List Symbol × Rest)) → 0 < n → token_at s ≡ Some (token, s') → symbol_of token ≡ Some x
    → with_front front (read_symbols n s.tokens s.rule) ≡ total
    → with_front (front ++ x ∷ []) (read_symbols ((n - 1) + places_of x) s'.tokens (lowered 6 (is_well token) s'.rule)) ≡ total
unfolding token_at
symbols-more front zero s token s' x total some e h so_far = absurd (omega arith)
symbols-more front (suc n) s token s' x total some e h so_far =
    let k : (suc n - 1) + places_of x ≡ places_of x + n = omega arith in
    rw k (sym (symbols-first front n s.tokens s.rule token s' x e h) ∙ so_far)

symbols-nil : (n : ℕ) (tokens : List (List ℕ)) (rule : ℕ) → first_token rule tokens ≡ None → read_symbols (suc n) tokens rule ≡ None
unfolding read_symbols
symbols-nil n [] rule e = refl
symbols-nil n (t ∷ ts) rule e = absurd cc

pub symbols-no_token : (front : List Symbol) (n : ℕ) (s : Rest) (total : Option (List Symbol × Rest)) → 0 < n → token_at s ≡ None → with_front front (read_symbols n s.tokens s.rule) ≡ total → total ≡ None
unfolding token_at
symbols-no_token front zero s total some e so_far = absurd (omega arith)
symbols-no_token front (suc n) s total some e so_far = sym so_far ∙ ap (with_front front) (symbols-nil n s.tokens s.rule e)

symbols-no_first : (n : ℕ) (tokens : List (List ℕ)) (rule : ℕ) (token : List ℕ) (s' : Rest) → first_token rule tokens ≡ Some (token, s') → symbol_of token ≡ None → read_symbols (suc n) tokens rule ≡ None
unfolding read_symbols
symbols-no_first n [] rule token s' e h = absurd cc
symbols-no_first n (t ∷ ts) rule token s' e h =
    let same : t ≡ token = ap (λ (p : List ℕ × Rest). p.0) (some-is (t, record { tokens = ts; rule = rule }) (token, s') e) in
    let none : symbol_of t ≡ None = ap symbol_of same ∙ h in
    rw none refl

pub symbols-no_symbol : (front : List Symbol) (n : ℕ) (s : Rest) (token : List ℕ) (s' : Rest) (total : Option (List Symbol × Rest)) → 0 < n → token_at s ≡ Some (token, s') → symbol_of token ≡ None
    → with_front front (read_symbols n s.tokens s.rule) ≡ total → total ≡ None
unfolding token_at
symbols-no_symbol front zero s token s' total some e h so_far = absurd (omega arith)
symbols-no_symbol front (suc n) s token s' total some e h so_far = sym so_far ∙ ap (with_front front) (symbols-no_first n s.tokens s.rule token s' e h)

symbols-zero : (tokens : List (List ℕ)) (rule : ℕ) → read_symbols zero tokens rule ≡ Some ([], record { tokens = tokens; rule = rule })
unfolding read_symbols
symbols-zero tokens rule = refl

pub symbols-done : (front : List Symbol) (n : ℕ) (s : Rest) (total : Option (List Symbol × Rest)) → n ≤ 0 → with_front front (read_symbols n s.tokens s.rule) ≡ total → total ≡ Some (front, s)
symbols-done front n s total none so_far =
    let k : n ≡ zero = omega arith in
    let one : read_symbols n s.tokens s.rule ≡ Some ([], s) = rw k (symbols-zero s.tokens s.rule) in
    sym so_far ∙ ap (with_front front) one ∙ ap (λ (xs : List Symbol). Some (xs, s)) (append-nil front)

-- ---- what they take

-- a token for each symbol
pub symbols-take : (n : ℕ) (tokens : List (List ℕ)) (rule : ℕ) (ss : List Symbol) (s' : Rest) → read_symbols n tokens rule ≡ Some (ss, s') → (length ss + length s'.tokens ≡ length tokens) × (n ≤ length ss)
unfolding read_symbols
symbols-take zero tokens rule ss s' e =
    let same = some-is ([], record { tokens = tokens; rule = rule }) (ss, s') e in
    let none : 0 ≡ length ss = ap (λ (p : List Symbol × Rest). length p.0) same in
    let rest : length tokens ≡ length s'.tokens = ap (λ (p : List Symbol × Rest). length p.1.tokens) same in
    (omega arith, omega arith)
symbols-take (suc n) [] rule ss s' e = absurd cc
symbols-take (suc n) (t ∷ ts) rule ss s' e =
    let x = bind-some (symbol_of t) (λ x. read_symbols (places_of x + n) ts (lowered 6 (is_well t) rule) >>= λ ys. Some (x ∷ ys.0, ys.1)) (ss, s') e in
    let ys = bind-some (read_symbols (places_of x.0 + n) ts (lowered 6 (is_well t) rule)) (λ ys. Some (x.0 ∷ ys.0, ys.1)) (ss, s') x.2 in
    let same = some-is (x.0 ∷ ys.0.0, ys.0.1) (ss, s') ys.2 in
    let rest = symbols-take (places_of x.0 + n) ts (lowered 6 (is_well t) rule) ys.0.0 ys.0.1 ys.1 in
    let one : suc (length ys.0.0) ≡ length ss = ap (λ (p : List Symbol × Rest). length p.0) same in
    let two : length ys.0.1.tokens ≡ length s'.tokens = ap (λ (p : List Symbol × Rest). length p.1.tokens) same in
    let a = rest.0 in
    let b = rest.1 in
    (omega arith, omega arith)

pub expression-takes : TakesTokens expression
unfolding read_expression
expression-takes s x s' e =
    let ss = bind-some (read_symbols 1 s.tokens s.rule) (λ ss. Some (expression_of ss.0, judged 10 (nat_le (length ss.0) 32) ss.1)) (x, s') e in
    let same : length ss.0.1.tokens ≡ length s'.tokens = ap (λ q. length q.1.tokens) (some-is (expression_of ss.0.0, judged 10 (nat_le (length ss.0.0) 32) ss.0.1) (x, s') ss.2) in
    let took = symbols-take 1 s.tokens s.rule ss.0.0 ss.0.1 ss.1 in
    let a = took.0 in
    let b = took.1 in
    omega arith

pub places-few : (x : Symbol) → places_of x ≤ 2
places-few (symbols.Number n) = omega arith
places-few (symbols.Var v) = omega arith
places-few symbols.Kind = omega arith
places-few symbols.Size = omega arith
places-few symbols.Word = omega arith
places-few symbols.Me = omega arith
places-few symbols.Queue = omega arith
places-few symbols.Core = omega arith
places-few symbols.Cell = omega arith
places-few symbols.LastOk = omega arith
places-few symbols.FaultNumber = omega arith
places-few symbols.Detail = omega arith
places-few symbols.Add = omega arith
places-few symbols.Sub = omega arith
places-few symbols.Mul = omega arith
places-few symbols.And = omega arith
places-few symbols.Or = omega arith
places-few symbols.Xor = omega arith
places-few symbols.Shr = omega arith
places-few symbols.Lt = omega arith
places-few symbols.Eq = omega arith
