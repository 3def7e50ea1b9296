-- The text of several lines.
use Rattle.std.proofs.Common.{◌≡◌, ℕ, ◌+◌, ◌<◌, List, [], ◌∷◌, ◌++◌, length, get_or, take, refl, sym, ap, ◌∙◌, append_assoc, append-nil}
use Rattle.std.specs.List.{flat_map}
use Rattle.std.proofs.lemmas.List.{take_more}
use Rattle.em_log.specs.declared.graph.Config.{Config}
use Rattle.em_script.specs.declared.line.Line.{Line}
use Rattle.em_script.specs.declared.line.Line.TheVariants as lines
use Rattle.em_script.specs.Lines.{joined}
use Rattle.em_script.specs.Names.{writing}
use Rattle.em_script.specs.Spelling.{line_tokens, text_of}
use Rattle.em_script.proofs.Spacing.{flat_map-push}

pub text_of-append : (g : Config) (xs ys : List Line) → text_of g (xs ++ ys) ≡ text_of g xs ++ text_of g ys
text_of-append g [] ys = refl
text_of-append g (x ∷ xs) ys =
    let first = joined (line_tokens (writing g) x) ++ 10 ∷ [] in
    ap (λ t. first ++ t) (text_of-append g xs ys) ∙ sym (append_assoc first (text_of g xs) (text_of g ys))

text_of-more : {A : Type 0} (g : Config) (f : A → List Line) (xs : List A) (i : ℕ) (d : A) → i < length xs → text_of g (flat_map f (take (i + 1) xs)) ≡ text_of g (flat_map f (take i xs)) ++ text_of g (f (get_or xs i d))
text_of-more g f xs i d lt = ap (λ ys. text_of g (flat_map f ys)) (take_more xs i d lt) ∙ ap (text_of g) (flat_map-push f (take i xs) (get_or xs i d)) ∙ text_of-append g (flat_map f (take i xs)) (f (get_or xs i d))

-- a loop that writes the lines of each item
pub text_of_step : {A : Type 0} (g : Config) (f : A → List Line) (xs : List A) (i : ℕ) (d : A) (first text new : List ℕ) → i < length xs → text ≡ first ++ text_of g (flat_map f (take i xs)) → new ≡ text ++ text_of g (f (get_or xs i d)) → new ≡ first ++ text_of g (flat_map f (take (i + 1) xs))
text_of_step g f xs i d first text new lt so_far wrote =
    wrote ∙ ap (λ b. b ++ text_of g (f (get_or xs i d))) so_far ∙ append_assoc first (text_of g (flat_map f (take i xs))) (text_of g (f (get_or xs i d))) ∙ ap (λ b. first ++ b) (sym (text_of-more g f xs i d lt))

-- two writes
pub text_of_then : (g : Config) (old first second : List ℕ) (xs ys : List Line) → first ≡ old ++ text_of g xs → second ≡ first ++ text_of g ys → second ≡ old ++ text_of g (xs ++ ys)
text_of_then g old first second xs ys a b =
    b ∙ ap (λ t. t ++ text_of g ys) a ∙ append_assoc old (text_of g xs) (text_of g ys) ∙ ap (λ t. old ++ t) (sym (text_of-append g xs ys))

-- the tokens of a line and its end
pub line_ended : (g : Config) (old first second : List ℕ) (line : Line) → first ≡ old ++ joined (line_tokens (writing g) line) → second ≡ first ++ 10 ∷ [] → second ≡ old ++ text_of g (line ∷ [])
line_ended g old first second line a b =
    let tokens = joined (line_tokens (writing g) line) in
    b ∙ ap (λ t. t ++ 10 ∷ []) a ∙ append_assoc old tokens (10 ∷ []) ∙ ap (λ t. old ++ t) (sym (append-nil (tokens ++ 10 ∷ [])))

-- a line, the lines of a block, more lines, and the line that ends it all
pub block_written : (g : Config) (old first second third last : List ℕ) (line : Line) (block more : List Line) → first ≡ old ++ text_of g (line ∷ []) → second ≡ first ++ text_of g block → third ≡ second ++ text_of g more → last ≡ third ++ text_of g (lines.End ∷ []) → last ≡ old ++ text_of g (line ∷ (block ++ (more ++ lines.End ∷ [])))
block_written g old first second third last line block more a b c d =
    text_of_then g old first last (line ∷ []) (block ++ (more ++ lines.End ∷ [])) a
    (text_of_then g first second last block (more ++ lines.End ∷ []) b (text_of_then g second third last more (lines.End ∷ []) c d))
