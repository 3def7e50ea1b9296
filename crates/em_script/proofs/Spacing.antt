-- Tokens, each after a space.
use Rattle.std.proofs.Common.{◌≡◌, ℕ, ◌+◌, ◌<◌, List, [], ◌∷◌, ◌++◌, length, get_or, take, refl, sym, ap, ◌∙◌, append_assoc, append-nil}
use Rattle.std.specs.List.{flat_map}
use Rattle.std.proofs.lemmas.List.{take_more}
use Rattle.em_script.specs.Lines.{joined, spaced}

pub spaced_append : (xs ys : List (List ℕ)) → spaced (xs ++ ys) ≡ spaced xs ++ spaced ys
spaced_append [] ys = refl
spaced_append (x ∷ xs) ys = ap (λ bs. 32 ∷ bs) (ap (λ bs. x ++ bs) (spaced_append xs ys) ∙ sym (append_assoc x (spaced xs) (spaced ys)))

pub flat_map-push : {A B : Type 0} (f : A → List B) (xs : List A) (x : A) → flat_map f (xs ++ x ∷ []) ≡ flat_map f xs ++ f x
flat_map-push f [] x = append-nil (f x)
flat_map-push f (y ∷ ys) x = ap (λ ts. f y ++ ts) (flat_map-push f ys x) ∙ sym (append_assoc (f y) (flat_map f ys) (f x))

-- one item more
spaced_more : {A : Type 0} (f : A → List (List ℕ)) (xs : List A) (i : ℕ) (d : A) → i < length xs → spaced (flat_map f (take (i + 1) xs)) ≡ spaced (flat_map f (take i xs)) ++ spaced (f (get_or xs i d))
spaced_more f xs i d lt = ap (λ ys. spaced (flat_map f ys)) (take_more xs i d lt) ∙ ap spaced (flat_map-push f (take i xs) (get_or xs i d)) ∙ spaced_append (flat_map f (take i xs)) (f (get_or xs i d))

-- a loop that writes each item
pub spaced_step : {A : Type 0} (f : A → List (List ℕ)) (xs : List A) (i : ℕ) (d : A) (first line new : List ℕ) → i < length xs → line ≡ first ++ spaced (flat_map f (take i xs)) → new ≡ line ++ spaced (f (get_or xs i d)) → new ≡ first ++ spaced (flat_map f (take (i + 1) xs))
spaced_step f xs i d first line new lt so_far wrote =
    wrote ∙ ap (λ b. b ++ spaced (f (get_or xs i d))) so_far ∙ append_assoc first (spaced (flat_map f (take i xs))) (spaced (f (get_or xs i d))) ∙ ap (λ b. first ++ b) (sym (spaced_more f xs i d lt))

-- two writes
pub spaced_then : (old first second : List ℕ) (xs ys : List (List ℕ)) → first ≡ old ++ spaced xs → second ≡ first ++ spaced ys → second ≡ old ++ spaced (xs ++ ys)
spaced_then old first second xs ys a b = b ∙ ap (λ t. t ++ spaced ys) a ∙ append_assoc old (spaced xs) (spaced ys) ∙ ap (λ t. old ++ t) (sym (spaced_append xs ys))

-- a word and what follows it
pub spaced_word : (old first second word : List ℕ) (ys : List (List ℕ)) → first ≡ old ++ spaced (word ∷ []) → second ≡ first ++ spaced ys → second ≡ old ++ spaced (word ∷ ys)
spaced_word old first second word ys a b = spaced_then old first second (word ∷ []) ys a b

-- ---- the tokens of a line, the first without a space

pub joined_begin : (old first second word : List ℕ) (ys : List (List ℕ)) → first ≡ old ++ word → second ≡ first ++ spaced ys → second ≡ old ++ joined (word ∷ ys)
joined_begin old first second word ys a b = b ∙ ap (λ t. t ++ spaced ys) a ∙ append_assoc old word (spaced ys)

pub joined_then : (old first second word : List ℕ) (xs ys : List (List ℕ)) → first ≡ old ++ joined (word ∷ xs) → second ≡ first ++ spaced ys → second ≡ old ++ joined (word ∷ (xs ++ ys))
joined_then old first second word xs ys a b =
    b ∙ ap (λ t. t ++ spaced ys) a ∙ append_assoc old (word ++ spaced xs) (spaced ys) ∙ ap (λ t. old ++ t) (append_assoc word (spaced xs) (spaced ys) ∙ ap (λ t. word ++ t) (sym (spaced_append xs ys)))
