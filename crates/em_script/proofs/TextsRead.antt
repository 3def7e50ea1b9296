-- A text of lines of tokens is cut into these lines, and each into its tokens.
use Rattle.std.proofs.Common.{◌≡◌, ℕ, ◌<◌, ◌≤◌, true, false, eqb, List, [], ◌∷◌, ◌++◌, map, refl, ap, ◌∙◌, append_assoc, arith}
use Rattle.std.specs.List.{AllByRecursion}
use Rattle.std.proofs.lemmas.Bool.{ne_eqb}
use Rattle.std.proofs.lemmas.Bool.Decides.{nat_tests}
use Rattle.em_script.specs.Lines.{lines, tokens, begun, onto_first, is_plain_byte, is_plain_line, spaced, joined, spelled}

-- a visible character
abbrev pub IsVisible : ℕ → Type 0
IsVisible b = (32 < b) × (b ≤ 126)

-- some visible characters and nothing else
abbrev pub IsToken : List ℕ → Type 0
IsToken [] = ⊥
IsToken (b ∷ bs) = IsVisible b × AllByRecursion IsVisible bs

no_space : (b : ℕ) → IsVisible b → eqb b 32 ≡ false
no_space b v = ne_eqb b 32 (λ e. omega (arith, v.0))

no_newline : (b : ℕ) → IsVisible b → eqb b 10 ≡ false
no_newline b v = ne_eqb b 10 (λ e. omega (arith, v.0))

plain : (b : ℕ) → IsVisible b → is_plain_byte b ≡ true
plain b v = let low = v.0 in let high = v.1 in grind (arith, nat_tests)

-- ---- tokens

tokens-nil : tokens [] ≡ []
unfolding tokens
tokens-nil = refl

tokens-space : (bs : List ℕ) → tokens (32 ∷ bs) ≡ tokens bs
unfolding tokens
tokens-space bs = refl

tokens-cons : (b : ℕ) (bs : List ℕ) → IsVisible b → tokens (b ∷ bs) ≡ begun b bs (tokens bs)
unfolding tokens
tokens-cons b bs v = rw (no_space b v) refl

tokens-last : (b : ℕ) (ts : List (List ℕ)) → begun b (spaced ts) (tokens (spaced ts)) ≡ (b ∷ []) ∷ tokens (spaced ts)
tokens-last b [] = refl
tokens-last b (t ∷ ts) = refl

tokens-token : (b : ℕ) (bs : List ℕ) (ts : List (List ℕ)) → IsVisible b → AllByRecursion IsVisible bs → tokens (b ∷ (bs ++ spaced ts)) ≡ (b ∷ bs) ∷ tokens (spaced ts)
tokens-token b [] ts v vs = tokens-cons b (spaced ts) v ∙ tokens-last b ts
tokens-token b (c ∷ cs) ts v vs =
    tokens-cons b (c ∷ (cs ++ spaced ts)) v ∙ rw (no_space c vs.0) (ap (onto_first b) (tokens-token c cs ts vs.0 vs.1))

tokens-first : (t : List ℕ) (ts : List (List ℕ)) → IsToken t → tokens (t ++ spaced ts) ≡ t ∷ tokens (spaced ts)
tokens-first [] ts v = absurd v
tokens-first (b ∷ bs) ts v = tokens-token b bs ts v.0 v.1

tokens-spaced : (ts : List (List ℕ)) → AllByRecursion IsToken ts → tokens (spaced ts) ≡ ts
tokens-spaced [] v = tokens-nil
tokens-spaced (t ∷ ts) v = tokens-space (t ++ spaced ts) ∙ tokens-first t ts v.0 ∙ ap (λ us. t ∷ us) (tokens-spaced ts v.1)

pub tokens-joined : (ts : List (List ℕ)) → AllByRecursion IsToken ts → tokens (joined ts) ≡ ts
tokens-joined [] v = tokens-nil
tokens-joined (t ∷ ts) v = tokens-first t ts v.0 ∙ ap (λ us. t ∷ us) (tokens-spaced ts v.1)

-- ---- the bytes of a line

-- a space or a visible character
abbrev IsInLine : ℕ → Type 0
IsInLine b = (32 ≤ b) × (b ≤ 126)

All-append : (P : ℕ → Type 0) (xs ys : List ℕ) → AllByRecursion P xs → AllByRecursion P ys → AllByRecursion P (xs ++ ys)
All-append P [] ys p q = q
All-append P (x ∷ xs) ys p q = (p.0, All-append P xs ys p.1 q)

visible-in : (bs : List ℕ) → AllByRecursion IsVisible bs → AllByRecursion IsInLine bs
visible-in [] v = tt
visible-in (b ∷ bs) v = ((omega (arith, v.0.0), v.0.1), visible-in bs v.1)

token-in : (t : List ℕ) → IsToken t → AllByRecursion IsInLine t
token-in [] v = absurd v
token-in (b ∷ bs) v = visible-in (b ∷ bs) v

spaced-in : (ts : List (List ℕ)) → AllByRecursion IsToken ts → AllByRecursion IsInLine (spaced ts)
spaced-in [] v = tt
spaced-in (t ∷ ts) v = ((omega arith, omega arith), All-append IsInLine t (spaced ts) (token-in t v.0) (spaced-in ts v.1))

joined-in : (ts : List (List ℕ)) → AllByRecursion IsToken ts → AllByRecursion IsInLine (joined ts)
joined-in [] v = tt
joined-in (t ∷ ts) v = All-append IsInLine t (spaced ts) (token-in t v.0) (spaced-in ts v.1)

plain-in : (b : ℕ) → IsInLine b → is_plain_byte b ≡ true
plain-in b v = let low = v.0 in let high = v.1 in grind (arith, nat_tests)

all-plain : (bs : List ℕ) → AllByRecursion IsInLine bs → is_plain_line bs ≡ true
all-plain [] v = refl
all-plain (b ∷ bs) v = rw (plain-in b v.0) (all-plain bs v.1)

pub is_plain_line-joined : (ts : List (List ℕ)) → AllByRecursion IsToken ts → is_plain_line (joined ts) ≡ true
is_plain_line-joined ts v = all-plain (joined ts) (joined-in ts v)

-- ---- lines

lines-newline : (bs : List ℕ) → lines (10 ∷ bs) ≡ [] ∷ lines bs
unfolding lines
lines-newline bs = refl

lines-cons : (b : ℕ) (bs : List ℕ) → IsInLine b → lines (b ∷ bs) ≡ onto_first b (lines bs)
unfolding lines
lines-cons b bs v = let off : eqb b 10 ≡ false = ne_eqb b 10 (λ e. omega (arith, v.0)) in rw off refl

lines-first : (line rest : List ℕ) → AllByRecursion IsInLine line → lines (line ++ 10 ∷ rest) ≡ line ∷ lines rest
lines-first [] rest v = lines-newline rest
lines-first (b ∷ bs) rest v = lines-cons b (bs ++ 10 ∷ rest) v.0 ∙ ap (onto_first b) (lines-first bs rest v.1)

lines-nil : lines [] ≡ []
unfolding lines
lines-nil = refl

abbrev pub AreTokens : List (List (List ℕ)) → Type 0
AreTokens [] = Unit {0}
AreTokens (ts ∷ more) = AllByRecursion IsToken ts × AreTokens more

pub lines-spelled : (ls : List (List (List ℕ))) → AreTokens ls → lines (spelled ls) ≡ map joined ls
lines-spelled [] v = lines-nil
lines-spelled (ts ∷ more) v =
    ap lines (append_assoc (joined ts) (10 ∷ []) (spelled more)) ∙ lines-first (joined ts) (spelled more) (joined-in ts v.0) ∙ ap (λ ls. joined ts ∷ ls) (lines-spelled more v.1)
