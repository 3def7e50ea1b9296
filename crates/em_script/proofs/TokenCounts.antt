-- A line has no more tokens than bytes.
use Rattle.std.proofs.Common.{ℕ, suc, ◌≤◌, Bool, true, false, cond, eqb, List, [], ◌∷◌, length, arith}
use Rattle.em_script.specs.Lines.{tokens, begun, onto_first}

onto_first-few : (b : ℕ) (more : List (List ℕ)) → length (onto_first b more) ≤ suc (length more)
onto_first-few b [] = omega arith
onto_first-few b (p ∷ ps) = omega arith

either-few : (t : Bool) (xs ys : List (List ℕ)) (n : ℕ) → length xs ≤ n → length ys ≤ n → length (cond t xs ys) ≤ n
either-few true xs ys n p q = p
either-few false xs ys n p q = q

begun-few : (b : ℕ) (bs : List ℕ) (more : List (List ℕ)) → length (begun b bs more) ≤ suc (length more)
begun-few b [] more = omega arith
begun-few b (c ∷ bs) more = either-few (eqb c 32) ((b ∷ []) ∷ more) (onto_first b more) (suc (length more)) (omega arith) (onto_first-few b more)

pub tokens_few : (bytes : List ℕ) → length (tokens bytes) ≤ length bytes
unfolding tokens
tokens_few [] = omega arith
tokens_few (b ∷ bs) =
    let rest = tokens_few bs in
    either-few (eqb b 32) (tokens bs) (begun b bs (tokens bs)) (suc (length bs)) (omega arith) (omega (arith, begun-few b bs (tokens bs)))
