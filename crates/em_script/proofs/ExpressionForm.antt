-- The law of expressions.
use Rattle.std.proofs.Common.{◌≡◌, ℕ, zero, suc, ◌+◌, ◌^◌, ◌<◌, ◌≤◌, Bool, true, false, ◌&&◌, cond, leb, ltb, List, [], ◌∷◌, ◌++◌, length, map, Option, Some, None, refl, sym, ap, subst, ◌∙◌, arith, append_assoc, append-nil, le-leb, leb-true}
use Rattle.std.specs.List.{AllByRecursion, flat_map, list_all}
use Rattle.std.specs.Char.{is_ascii_digit}
use Rattle.std.specs.Option.{option_map, option_or}
use Rattle.std.specs.Prelude.{decimal, bytes_eq}
use Rattle.em_log.specs.declared.body.Expr.{Expr}
use Rattle.em_log.specs.declared.body.Expr.TheBlock.{end_of-Expr, more_of-Expr}
use Rattle.em_script.specs.declared.symbol.Symbol.{Symbol}
use Rattle.em_script.specs.declared.symbol.Symbol.TheVariants as symbols
use Rattle.em_script.specs.Lines.{Rest}
use Rattle.em_script.specs.Numerals.{is_digits, is_within, value, greatest}
use Rattle.em_script.specs.Form.{◌>>=◌, lookup, lowered, judged, variable_of}
use Rattle.em_script.specs.Expressions.{symbol_words, word_of, places_of, number_symbol, symbol_of, is_well, first_of, applied, expressions_of, expression_of, symbols_of, read_symbols, read_expression, expression}
use Rattle.em_script.proofs.Binds.{some-is, bind-some}
use Rattle.em_script.proofs.Forms.{kept, IsPlain, well_rest, IsForm, Any, judged-met}
use Rattle.em_script.proofs.NumberForms.{digits-decimal, value-decimal, within-decimal, decimal-value, variable_of-decimal, variable_of-took, plain-decimal, plain-variable}
use Rattle.em_script.proofs.WordForms.{plain-word, lookup-named}

-- ---- symbols

abbrev pub SymbolFits : Symbol → Type 0
SymbolFits (symbols.Number n) = n < 2 ^ 64
SymbolFits (symbols.Var v) = v ≤ 15
SymbolFits _ = Unit {0}

and-false : (a b : Bool) → b ≡ false → (a && b) ≡ false
and-false true b e = e
and-false false b e = refl

no-digits : (ds : List ℕ) → is_digits (118 ∷ ds) ≡ false
unfolding is_digits
no-digits ds = and-false (ltb 0 (length (118 ∷ ds))) (list_all is_ascii_digit (118 ∷ ds)) refl

number-again : (n : ℕ) → n < 2 ^ 64 → symbol_of (decimal n) ≡ Some (symbols.Number n)
unfolding symbol_of
number-again n lt =
    let le : n ≤ greatest = omega arith in
    rw (digits-decimal n lt, within-decimal 0 greatest n (omega arith) le lt, value-decimal n lt) refl

variable-again : (v : ℕ) → v ≤ 15 → symbol_of (118 ∷ decimal v) ≡ Some (symbols.Var v)
unfolding symbol_of
variable-again v le = rw (no-digits (decimal v), variable_of-decimal v le) refl

symbol-again : (x : Symbol) → SymbolFits x → symbol_of (word_of x) ≡ Some x
unfolding symbol_of is_digits
symbol-again (symbols.Number n) fits = number-again n fits
symbol-again (symbols.Var v) fits = variable-again v fits
symbol-again symbols.Kind fits = refl
symbol-again symbols.Size fits = refl
symbol-again symbols.Word fits = refl
symbol-again symbols.Me fits = refl
symbol-again symbols.Queue fits = refl
symbol-again symbols.Core fits = refl
symbol-again symbols.Cell fits = refl
symbol-again symbols.LastOk fits = refl
symbol-again symbols.FaultNumber fits = refl
symbol-again symbols.Detail fits = refl
symbol-again symbols.Add fits = refl
symbol-again symbols.Sub fits = refl
symbol-again symbols.Mul fits = refl
symbol-again symbols.And fits = refl
symbol-again symbols.Or fits = refl
symbol-again symbols.Xor fits = refl
symbol-again symbols.Shr fits = refl
symbol-again symbols.Lt fits = refl
symbol-again symbols.Eq fits = refl

number-well : (n : ℕ) → n < 2 ^ 64 → is_well (decimal n) ≡ true
unfolding is_well
number-well n lt = rw (digits-decimal n lt) (within-decimal 0 greatest n (omega arith) (omega arith) lt)

variable-well : (v : ℕ) → is_well (118 ∷ decimal v) ≡ true
unfolding is_well
variable-well v = rw (no-digits (decimal v)) refl

well-again : (x : Symbol) → SymbolFits x → is_well (word_of x) ≡ true
unfolding is_well is_digits
well-again (symbols.Number n) fits = number-well n fits
well-again (symbols.Var v) fits = variable-well v
well-again symbols.Kind fits = refl
well-again symbols.Size fits = refl
well-again symbols.Word fits = refl
well-again symbols.Me fits = refl
well-again symbols.Queue fits = refl
well-again symbols.Core fits = refl
well-again symbols.Cell fits = refl
well-again symbols.LastOk fits = refl
well-again symbols.FaultNumber fits = refl
well-again symbols.Detail fits = refl
well-again symbols.Add fits = refl
well-again symbols.Sub fits = refl
well-again symbols.Mul fits = refl
well-again symbols.And fits = refl
well-again symbols.Or fits = refl
well-again symbols.Xor fits = refl
well-again symbols.Shr fits = refl
well-again symbols.Lt fits = refl
well-again symbols.Eq fits = refl

word-plain : (x : Symbol) → SymbolFits x → IsPlain (word_of x)
word-plain (symbols.Number n) fits = plain-decimal n fits
word-plain (symbols.Var v) fits = plain-variable v fits
word-plain symbols.Kind fits = plain-word (word_of symbols.Kind) refl refl
word-plain symbols.Size fits = plain-word (word_of symbols.Size) refl refl
word-plain symbols.Word fits = plain-word (word_of symbols.Word) refl refl
word-plain symbols.Me fits = plain-word (word_of symbols.Me) refl refl
word-plain symbols.Queue fits = plain-word (word_of symbols.Queue) refl refl
word-plain symbols.Core fits = plain-word (word_of symbols.Core) refl refl
word-plain symbols.Cell fits = plain-word (word_of symbols.Cell) refl refl
word-plain symbols.LastOk fits = plain-word (word_of symbols.LastOk) refl refl
word-plain symbols.FaultNumber fits = plain-word (word_of symbols.FaultNumber) refl refl
word-plain symbols.Detail fits = plain-word (word_of symbols.Detail) refl refl
word-plain symbols.Add fits = plain-word (word_of symbols.Add) refl refl
word-plain symbols.Sub fits = plain-word (word_of symbols.Sub) refl refl
word-plain symbols.Mul fits = plain-word (word_of symbols.Mul) refl refl
word-plain symbols.And fits = plain-word (word_of symbols.And) refl refl
word-plain symbols.Or fits = plain-word (word_of symbols.Or) refl refl
word-plain symbols.Xor fits = plain-word (word_of symbols.Xor) refl refl
word-plain symbols.Shr fits = plain-word (word_of symbols.Shr) refl refl
word-plain symbols.Lt fits = plain-word (word_of symbols.Lt) refl refl
word-plain symbols.Eq fits = plain-word (word_of symbols.Eq) refl refl

words-named : AllByRecursion (λ p. p.0 ≡ word_of p.1) symbol_words
words-named = (refl, (refl, (refl, (refl, (refl, (refl, (refl, (refl, (refl, (refl, (refl, (refl, (refl, (refl, (refl, (refl, (refl, (refl, (refl, tt)))))))))))))))))))

words-fit : AllByRecursion (λ p. SymbolFits p.1) symbol_words
words-fit = (tt, (tt, (tt, (tt, (tt, (tt, (tt, (tt, (tt, (tt, (tt, (tt, (tt, (tt, (tt, (tt, (tt, (tt, (tt, tt)))))))))))))))))))

found-fits : (table : List (List ℕ × Symbol)) → AllByRecursion (λ p. SymbolFits p.1) table → (w : List ℕ) (x : Symbol) → lookup w table ≡ Some x → SymbolFits x
found-fits [] fits w x e = absurd cc
found-fits (p ∷ ps) fits w x e = step (bytes_eq w p.0) e (found-fits ps fits.1 w x)
  where
    step : (b : Bool) → cond b (Some p.1) (lookup w ps) ≡ Some x → (lookup w ps ≡ Some x → SymbolFits x) → SymbolFits x
    step true h more = subst SymbolFits (some-is p.1 x h) fits.0
    step false h more = more h

word-took : (token : List ℕ) (x : Symbol) (found : Option ℕ) → variable_of token ≡ found → option_or (option_map (λ v. symbols.Var v) found) (lookup token symbol_words) ≡ Some x → (token ≡ word_of x) × SymbolFits x
word-took token x None h e = (lookup-named symbol_words word_of words-named token x e, found-fits symbol_words words-fit token x e)
word-took token x (Some v) h e = subst (λ y. (token ≡ word_of y) × SymbolFits y) (some-is (symbols.Var v) x e) (variable_of-took token v h)

number-took : (token : List ℕ) (x : Symbol) → is_digits token ≡ true → is_within 0 greatest token ≡ true → number_symbol token ≡ x → (token ≡ word_of x) × SymbolFits x
number-took token x d w e =
    let k = decimal-value 0 greatest token (omega arith) d w in
    let lt : value token < 2 ^ 64 = omega (arith, k.1) in
    let n-is : symbols.Number (value token) ≡ number_symbol token = rw w refl in
    subst (λ y. (token ≡ word_of y) × SymbolFits y) (n-is ∙ e) (sym k.2, lt)

symbol-took : (token : List ℕ) (x : Symbol) → symbol_of token ≡ Some x → is_well token ≡ true → (token ≡ word_of x) × SymbolFits x
unfolding symbol_of is_well
symbol-took token x e w = step (is_digits token) refl e w
  where
    step : (d : Bool) → is_digits token ≡ d → cond d (Some (number_symbol token)) (option_or (option_map (λ v. symbols.Var v) (variable_of token)) (lookup token symbol_words)) ≡ Some x → cond d (is_within 0 greatest token) true ≡ true → (token ≡ word_of x) × SymbolFits x
    step true d h v = number-took token x d v (some-is (number_symbol token) x h)
    step false d h v = word-took token x (variable_of token) refl h

-- ---- one after the other

-- the symbols are those of n expressions
abbrev pub Places : ℕ → List Symbol → Type 0
Places zero [] = Unit {0}
Places zero (x ∷ ss) = ⊥
Places (suc n) [] = ⊥
Places (suc n) (x ∷ ss) = Places (places_of x + n) ss

symbols-again : (ss : List Symbol) (n : ℕ) → Places n ss → AllByRecursion SymbolFits ss → (more : List (List ℕ)) → read_symbols n (map word_of ss ++ more) 12 ≡ Some (ss, well_rest more)
unfolding read_symbols
symbols-again [] zero p fits more = refl
symbols-again [] (suc n) p fits more = absurd p
symbols-again (x ∷ ss) zero p fits more = absurd p
symbols-again (x ∷ ss) (suc n) p fits more = rw (symbol-again x fits.0, well-again x fits.0, symbols-again ss (places_of x + n) p fits.1 more) refl

pub record TookSymbols (n : ℕ) (tokens : List (List ℕ)) (rule : ℕ) (ss : List Symbol) (s' : Rest) : Type 0 where
  pub tokens-are : tokens ≡ map word_of ss ++ s'.tokens
  pub well : 12 ≤ rule
  pub fit : AllByRecursion SymbolFits ss
  pub places : Places n ss

lowered-met : (good : Bool) (least : ℕ) → 12 ≤ lowered 6 good least → (good ≡ true) × (12 ≤ least)
lowered-met true least e = (refl, e)
lowered-met false least e = absurd (omega arith)

symbols-took : (n : ℕ) (tokens : List (List ℕ)) (rule : ℕ) (ss : List Symbol) (s' : Rest) → read_symbols n tokens rule ≡ Some (ss, s') → 12 ≤ s'.rule → TookSymbols n tokens rule ss s'
unfolding read_symbols
symbols-took zero tokens rule ss s' e w =
    let same = some-is ([], record { tokens = tokens; rule = rule }) (ss, s') e in
    subst (λ (q : List Symbol × Rest). TookSymbols zero tokens rule q.0 q.1) same (record { tokens-are = refl; well = kept (ap (λ (q : List Symbol × Rest). q.1.rule) same) w; fit = tt; places = tt })
symbols-took (suc n) [] rule ss s' e w = absurd cc
symbols-took (suc n) (t ∷ ts) rule ss s' e w =
    let x = bind-some (symbol_of t) (λ x. read_symbols (places_of x + n) ts (lowered 6 (is_well t) rule) >>= λ ys. Some (x ∷ ys.0, ys.1)) (ss, s') e in
    let ys = bind-some (read_symbols (places_of x.0 + n) ts (lowered 6 (is_well t) rule)) (λ ys. Some (x.0 ∷ ys.0, ys.1)) (ss, s') x.2 in
    let same = some-is (x.0 ∷ ys.0.0, ys.0.1) (ss, s') ys.2 in
    let rest = symbols-took (places_of x.0 + n) ts (lowered 6 (is_well t) rule) ys.0.0 ys.0.1 ys.1 (kept (ap (λ (q : List Symbol × Rest). q.1.rule) same) w) in
    let met = lowered-met (is_well t) rule rest.well in
    let k = symbol-took t x.0 x.1 met.0 in
    let spelled = k.0 in
    let more = rest.tokens-are in
    subst (λ (q : List Symbol × Rest). TookSymbols (suc n) (t ∷ ts) rule q.0 q.1) same (record { tokens-are = (λ i. spelled i ∷ more i); well = met.1; fit = (k.1, rest.fit); places = rest.places })

-- ---- expressions and their symbols

no-places : (n : ℕ) (ss : List Symbol) → Places n ss → Places (0 + n) ss
no-places n ss p = let e : n ≡ 0 + n = omega arith in subst (λ k. Places k ss) e p

one-place : (n : ℕ) (ss : List Symbol) → Places (suc n) ss → Places (1 + n) ss
one-place n ss p = let e : suc n ≡ 1 + n = omega arith in subst (λ k. Places k ss) e p

two-places : (n : ℕ) (xs ys ss : List Symbol) → Places (suc (suc n)) (xs ++ (ys ++ ss)) → Places (2 + n) ((xs ++ ys) ++ ss)
two-places n xs ys ss p =
    let e : suc (suc n) ≡ 2 + n = omega arith in
    subst (λ zs. Places (2 + n) zs) (sym (append_assoc xs ys ss)) (subst (λ k. Places k (xs ++ (ys ++ ss))) e p)

expr-places : (e : Expr) (n : ℕ) (ss : List Symbol) → Places n ss → Places (suc n) (symbols_of e ++ ss)
expr-places (Expr.Number m) n ss p = no-places n ss p
expr-places (Expr.Var v) n ss p = no-places n ss p
expr-places Expr.Kind n ss p = no-places n ss p
expr-places Expr.Size n ss p = no-places n ss p
expr-places (Expr.Word' _ (more_of-Expr e end_of-Expr)) n ss p = one-place n (symbols_of e ++ ss) (expr-places e n ss p)
expr-places Expr.Me n ss p = no-places n ss p
expr-places Expr.Queue n ss p = no-places n ss p
expr-places Expr.Core n ss p = no-places n ss p
expr-places (Expr.Cell' _ (more_of-Expr e end_of-Expr)) n ss p = one-place n (symbols_of e ++ ss) (expr-places e n ss p)
expr-places Expr.LastOk n ss p = no-places n ss p
expr-places Expr.FaultNumber n ss p = no-places n ss p
expr-places Expr.Detail n ss p = no-places n ss p
expr-places (Expr.Add' _ (more_of-Expr a end_of-Expr) _ (more_of-Expr b end_of-Expr)) n ss p = two-places n (symbols_of a) (symbols_of b) ss (expr-places a (suc n) (symbols_of b ++ ss) (expr-places b n ss p))
expr-places (Expr.Sub' _ (more_of-Expr a end_of-Expr) _ (more_of-Expr b end_of-Expr)) n ss p = two-places n (symbols_of a) (symbols_of b) ss (expr-places a (suc n) (symbols_of b ++ ss) (expr-places b n ss p))
expr-places (Expr.Mul' _ (more_of-Expr a end_of-Expr) _ (more_of-Expr b end_of-Expr)) n ss p = two-places n (symbols_of a) (symbols_of b) ss (expr-places a (suc n) (symbols_of b ++ ss) (expr-places b n ss p))
expr-places (Expr.And' _ (more_of-Expr a end_of-Expr) _ (more_of-Expr b end_of-Expr)) n ss p = two-places n (symbols_of a) (symbols_of b) ss (expr-places a (suc n) (symbols_of b ++ ss) (expr-places b n ss p))
expr-places (Expr.Or' _ (more_of-Expr a end_of-Expr) _ (more_of-Expr b end_of-Expr)) n ss p = two-places n (symbols_of a) (symbols_of b) ss (expr-places a (suc n) (symbols_of b ++ ss) (expr-places b n ss p))
expr-places (Expr.Xor' _ (more_of-Expr a end_of-Expr) _ (more_of-Expr b end_of-Expr)) n ss p = two-places n (symbols_of a) (symbols_of b) ss (expr-places a (suc n) (symbols_of b ++ ss) (expr-places b n ss p))
expr-places (Expr.Shr' _ (more_of-Expr a end_of-Expr) _ (more_of-Expr b end_of-Expr)) n ss p = two-places n (symbols_of a) (symbols_of b) ss (expr-places a (suc n) (symbols_of b ++ ss) (expr-places b n ss p))
expr-places (Expr.Lt' _ (more_of-Expr a end_of-Expr) _ (more_of-Expr b end_of-Expr)) n ss p = two-places n (symbols_of a) (symbols_of b) ss (expr-places a (suc n) (symbols_of b ++ ss) (expr-places b n ss p))
expr-places (Expr.Eq' _ (more_of-Expr a end_of-Expr) _ (more_of-Expr b end_of-Expr)) n ss p = two-places n (symbols_of a) (symbols_of b) ss (expr-places a (suc n) (symbols_of b ++ ss) (expr-places b n ss p))

both-again : (x : Symbol) (a b : Expr) (xs ys ss : List Symbol) → expressions_of (xs ++ (ys ++ ss)) ≡ a ∷ expressions_of (ys ++ ss) → expressions_of (ys ++ ss) ≡ b ∷ expressions_of ss → applied x (expressions_of ((xs ++ ys) ++ ss)) ≡ applied x (a ∷ b ∷ expressions_of ss)
both-again x a b xs ys ss e h = ap (λ zs. applied x (expressions_of zs)) (append_assoc xs ys ss) ∙ ap (applied x) (e ∙ ap (λ es. a ∷ es) h)

expressions-again : (e : Expr) (ss : List Symbol) → expressions_of (symbols_of e ++ ss) ≡ e ∷ expressions_of ss
unfolding Rattle.em_log.specs.declared.body.Expr.TheBlock.shape-the_row-Expr-0 Rattle.em_log.specs.declared.body.Expr.TheBlock.hidden-the_row-Expr-0 denote.Hole.Carrier.hidden
expressions-again (Expr.Number m) ss = refl
expressions-again (Expr.Var v) ss = refl
expressions-again Expr.Kind ss = refl
expressions-again Expr.Size ss = refl
expressions-again (Expr.Word' _ (more_of-Expr e end_of-Expr)) ss = ap (applied symbols.Word) (expressions-again e ss)
expressions-again Expr.Me ss = refl
expressions-again Expr.Queue ss = refl
expressions-again Expr.Core ss = refl
expressions-again (Expr.Cell' _ (more_of-Expr e end_of-Expr)) ss = ap (applied symbols.Cell) (expressions-again e ss)
expressions-again Expr.LastOk ss = refl
expressions-again Expr.FaultNumber ss = refl
expressions-again Expr.Detail ss = refl
expressions-again (Expr.Add' _ (more_of-Expr a end_of-Expr) _ (more_of-Expr b end_of-Expr)) ss = both-again symbols.Add a b (symbols_of a) (symbols_of b) ss (expressions-again a (symbols_of b ++ ss)) (expressions-again b ss)
expressions-again (Expr.Sub' _ (more_of-Expr a end_of-Expr) _ (more_of-Expr b end_of-Expr)) ss = both-again symbols.Sub a b (symbols_of a) (symbols_of b) ss (expressions-again a (symbols_of b ++ ss)) (expressions-again b ss)
expressions-again (Expr.Mul' _ (more_of-Expr a end_of-Expr) _ (more_of-Expr b end_of-Expr)) ss = both-again symbols.Mul a b (symbols_of a) (symbols_of b) ss (expressions-again a (symbols_of b ++ ss)) (expressions-again b ss)
expressions-again (Expr.And' _ (more_of-Expr a end_of-Expr) _ (more_of-Expr b end_of-Expr)) ss = both-again symbols.And a b (symbols_of a) (symbols_of b) ss (expressions-again a (symbols_of b ++ ss)) (expressions-again b ss)
expressions-again (Expr.Or' _ (more_of-Expr a end_of-Expr) _ (more_of-Expr b end_of-Expr)) ss = both-again symbols.Or a b (symbols_of a) (symbols_of b) ss (expressions-again a (symbols_of b ++ ss)) (expressions-again b ss)
expressions-again (Expr.Xor' _ (more_of-Expr a end_of-Expr) _ (more_of-Expr b end_of-Expr)) ss = both-again symbols.Xor a b (symbols_of a) (symbols_of b) ss (expressions-again a (symbols_of b ++ ss)) (expressions-again b ss)
expressions-again (Expr.Shr' _ (more_of-Expr a end_of-Expr) _ (more_of-Expr b end_of-Expr)) ss = both-again symbols.Shr a b (symbols_of a) (symbols_of b) ss (expressions-again a (symbols_of b ++ ss)) (expressions-again b ss)
expressions-again (Expr.Lt' _ (more_of-Expr a end_of-Expr) _ (more_of-Expr b end_of-Expr)) ss = both-again symbols.Lt a b (symbols_of a) (symbols_of b) ss (expressions-again a (symbols_of b ++ ss)) (expressions-again b ss)
expressions-again (Expr.Eq' _ (more_of-Expr a end_of-Expr) _ (more_of-Expr b end_of-Expr)) ss = both-again symbols.Eq a b (symbols_of a) (symbols_of b) ss (expressions-again a (symbols_of b ++ ss)) (expressions-again b ss)

abbrev Spells : List Expr → List Symbol → ℕ → Type 0
Spells es ss n = (flat_map symbols_of es ≡ ss) × (length es ≡ n)

one_more : (m n : ℕ) → m ≡ 0 + n → suc m ≡ suc n
one_more m n e = omega arith

two_less : (m n : ℕ) → suc m ≡ 1 + n → suc m ≡ suc n
two_less m n e = omega arith

three_less : (m n : ℕ) → suc (suc m) ≡ 2 + n → suc m ≡ suc n
three_less m n e = omega arith

none_left : (n : ℕ) → 0 ≡ 1 + n → ⊥
none_left n e = omega arith

none_left_of_two : (n : ℕ) → 0 ≡ 2 + n → ⊥
none_left_of_two n e = omega arith

one_left : (n : ℕ) → 1 ≡ 2 + n → ⊥
one_left n e = omega arith

applied-spells : (x : Symbol) (es : List Expr) (ss : List Symbol) (n : ℕ) → flat_map symbols_of es ≡ ss → length es ≡ places_of x + n → Spells (applied x es) (x ∷ ss) (suc n)
unfolding Rattle.em_log.specs.declared.body.Expr.TheBlock.hidden-the_row-Expr-0 denote.Hole.Carrier.hidden
applied-spells (symbols.Number m) es ss n f l = (ap (λ t. symbols.Number m ∷ t) f, one_more (length es) n l)
applied-spells (symbols.Var v) es ss n f l = (ap (λ t. symbols.Var v ∷ t) f, one_more (length es) n l)
applied-spells symbols.Kind es ss n f l = (ap (λ t. symbols.Kind ∷ t) f, one_more (length es) n l)
applied-spells symbols.Size es ss n f l = (ap (λ t. symbols.Size ∷ t) f, one_more (length es) n l)
applied-spells symbols.Word [] ss n f l = absurd (none_left n l)
applied-spells symbols.Word (e ∷ es) ss n f l = (ap (λ t. symbols.Word ∷ t) f, two_less (length es) n l)
applied-spells symbols.Me es ss n f l = (ap (λ t. symbols.Me ∷ t) f, one_more (length es) n l)
applied-spells symbols.Queue es ss n f l = (ap (λ t. symbols.Queue ∷ t) f, one_more (length es) n l)
applied-spells symbols.Core es ss n f l = (ap (λ t. symbols.Core ∷ t) f, one_more (length es) n l)
applied-spells symbols.Cell [] ss n f l = absurd (none_left n l)
applied-spells symbols.Cell (e ∷ es) ss n f l = (ap (λ t. symbols.Cell ∷ t) f, two_less (length es) n l)
applied-spells symbols.LastOk es ss n f l = (ap (λ t. symbols.LastOk ∷ t) f, one_more (length es) n l)
applied-spells symbols.FaultNumber es ss n f l = (ap (λ t. symbols.FaultNumber ∷ t) f, one_more (length es) n l)
applied-spells symbols.Detail es ss n f l = (ap (λ t. symbols.Detail ∷ t) f, one_more (length es) n l)
applied-spells symbols.Add [] ss n f l = absurd (none_left_of_two n l)
applied-spells symbols.Add (a ∷ []) ss n f l = absurd (one_left n l)
applied-spells symbols.Add (a ∷ b ∷ es) ss n f l = (ap (λ t. symbols.Add ∷ t) (append_assoc (symbols_of a) (symbols_of b) (flat_map symbols_of es) ∙ f), three_less (length es) n l)
applied-spells symbols.Sub [] ss n f l = absurd (none_left_of_two n l)
applied-spells symbols.Sub (a ∷ []) ss n f l = absurd (one_left n l)
applied-spells symbols.Sub (a ∷ b ∷ es) ss n f l = (ap (λ t. symbols.Sub ∷ t) (append_assoc (symbols_of a) (symbols_of b) (flat_map symbols_of es) ∙ f), three_less (length es) n l)
applied-spells symbols.Mul [] ss n f l = absurd (none_left_of_two n l)
applied-spells symbols.Mul (a ∷ []) ss n f l = absurd (one_left n l)
applied-spells symbols.Mul (a ∷ b ∷ es) ss n f l = (ap (λ t. symbols.Mul ∷ t) (append_assoc (symbols_of a) (symbols_of b) (flat_map symbols_of es) ∙ f), three_less (length es) n l)
applied-spells symbols.And [] ss n f l = absurd (none_left_of_two n l)
applied-spells symbols.And (a ∷ []) ss n f l = absurd (one_left n l)
applied-spells symbols.And (a ∷ b ∷ es) ss n f l = (ap (λ t. symbols.And ∷ t) (append_assoc (symbols_of a) (symbols_of b) (flat_map symbols_of es) ∙ f), three_less (length es) n l)
applied-spells symbols.Or [] ss n f l = absurd (none_left_of_two n l)
applied-spells symbols.Or (a ∷ []) ss n f l = absurd (one_left n l)
applied-spells symbols.Or (a ∷ b ∷ es) ss n f l = (ap (λ t. symbols.Or ∷ t) (append_assoc (symbols_of a) (symbols_of b) (flat_map symbols_of es) ∙ f), three_less (length es) n l)
applied-spells symbols.Xor [] ss n f l = absurd (none_left_of_two n l)
applied-spells symbols.Xor (a ∷ []) ss n f l = absurd (one_left n l)
applied-spells symbols.Xor (a ∷ b ∷ es) ss n f l = (ap (λ t. symbols.Xor ∷ t) (append_assoc (symbols_of a) (symbols_of b) (flat_map symbols_of es) ∙ f), three_less (length es) n l)
applied-spells symbols.Shr [] ss n f l = absurd (none_left_of_two n l)
applied-spells symbols.Shr (a ∷ []) ss n f l = absurd (one_left n l)
applied-spells symbols.Shr (a ∷ b ∷ es) ss n f l = (ap (λ t. symbols.Shr ∷ t) (append_assoc (symbols_of a) (symbols_of b) (flat_map symbols_of es) ∙ f), three_less (length es) n l)
applied-spells symbols.Lt [] ss n f l = absurd (none_left_of_two n l)
applied-spells symbols.Lt (a ∷ []) ss n f l = absurd (one_left n l)
applied-spells symbols.Lt (a ∷ b ∷ es) ss n f l = (ap (λ t. symbols.Lt ∷ t) (append_assoc (symbols_of a) (symbols_of b) (flat_map symbols_of es) ∙ f), three_less (length es) n l)
applied-spells symbols.Eq [] ss n f l = absurd (none_left_of_two n l)
applied-spells symbols.Eq (a ∷ []) ss n f l = absurd (one_left n l)
applied-spells symbols.Eq (a ∷ b ∷ es) ss n f l = (ap (λ t. symbols.Eq ∷ t) (append_assoc (symbols_of a) (symbols_of b) (flat_map symbols_of es) ∙ f), three_less (length es) n l)

expressions-spell : (ss : List Symbol) (n : ℕ) → Places n ss → Spells (expressions_of ss) ss n
expressions-spell [] zero p = (refl, refl)
expressions-spell [] (suc n) p = absurd p
expressions-spell (x ∷ ss) zero p = absurd p
expressions-spell (x ∷ ss) (suc n) p =
    let r = expressions-spell ss (places_of x + n) p in
    applied-spells x (expressions_of ss) ss n r.0 r.1

single : (es : List Expr) (ss : List Symbol) → Spells es ss 1 → symbols_of (first_of es) ≡ ss
single [] ss s = absurd (let l = s.1 in omega arith)
single (e ∷ []) ss s = sym (append-nil (symbols_of e)) ∙ s.0
single (e ∷ f ∷ es) ss s = absurd (let l = s.1 in omega arith)

first-again : (e : Expr) → first_of (expressions_of (symbols_of e)) ≡ e
first-again e = ap first_of (ap expressions_of (sym (append-nil (symbols_of e))) ∙ expressions-again e [])

places-again : (e : Expr) → Places 1 (symbols_of e)
places-again e = subst (λ ss. Places 1 ss) (append-nil (symbols_of e)) (expr-places e 0 [] tt)

few-again : (ss : List Symbol) → length ss ≤ 32 → expression_of ss ≡ first_of (expressions_of ss)
unfolding expression_of
few-again ss le = rw (le-leb (length ss) 32 le) refl

words-plain : (ss : List Symbol) → AllByRecursion SymbolFits ss → AllByRecursion IsPlain (map word_of ss)
words-plain [] fits = tt
words-plain (x ∷ ss) fits = (word-plain x fits.0, words-plain ss fits.1)

-- at most 32 symbols, each in its range
pub record ExprFits (e : Expr) : Type 0 where
  pub few : length (symbols_of e) ≤ 32
  pub each : AllByRecursion SymbolFits (symbols_of e)

pub expression-form : IsForm expression ExprFits Any
unfolding read_expression
expression-form = record {
  again = λ e fits more ends.
      rw (symbols-again (symbols_of e) 1 (places-again e) fits.each more, le-leb (length (symbols_of e)) 32 fits.few)
      (ap (λ (x : Expr). Some (x, well_rest more)) (few-again (symbols_of e) fits.few ∙ first-again e));
  took = λ s e s' r w.
      let ss = bind-some (read_symbols 1 s.tokens s.rule) (λ ss. Some (expression_of ss.0, judged 10 (leb (length ss.0) 32) ss.1)) (e, s') r in
      let same = some-is (expression_of ss.0.0, judged 10 (leb (length ss.0.0) 32) ss.0.1) (e, s') ss.2 in
      let met = judged-met 10 (leb (length ss.0.0) 32) ss.0.1 s' (omega arith) (ap (λ (q : Expr × Rest). q.1) same) w in
      let k = symbols-took 1 s.tokens s.rule ss.0.0 ss.0.1 ss.1 met.1 in
      let few : length ss.0.0 ≤ 32 = leb-true (length ss.0.0) 32 met.0 in
      let e-is : first_of (expressions_of ss.0.0) ≡ e = sym (few-again ss.0.0 few) ∙ ap (λ (q : Expr × Rest). q.0) same in
      let back : ss.0.0 ≡ symbols_of e = sym (single (expressions_of ss.0.0) ss.0.0 (expressions-spell ss.0.0 1 k.places)) ∙ ap symbols_of e-is in
      let rest = met.2 in
      record {
        tokens = k.tokens-are ∙ (λ i. map word_of (back i) ++ rest i);
        well = k.well;
        fits = record { few = subst (λ zs. length zs ≤ 32) back few; each = subst (AllByRecursion SymbolFits) back k.fit };
        ends = tt;
      };
  plain = λ e fits. words-plain (symbols_of e) fits.each;
}
