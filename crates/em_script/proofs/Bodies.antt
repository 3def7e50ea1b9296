-- The text of several bodies.
use Rattle.std.proofs.Common.{◌≡◌, ℕ, suc, ◌+◌, ◌<◌, List, [], ◌∷◌, ◌++◌, length, get_or, take, sym, ap, ◌∙◌, append_assoc, append-nil, arith}
use Rattle.std.specs.List.{flat_map}
use Rattle.std.proofs.lemmas.Grind.{flat_map-append}
use Rattle.std.proofs.lemmas.List.{take_more, length-take-le}
use Rattle.em_log.specs.declared.graph.Config.{Config}
use Rattle.em_log.specs.declared.graph.EoDecl.{EoDecl}
use Rattle.em_script.specs.Spelling.{Placed, bodies_of_object, bodies_of_objects, body_lines, text_of}
use Rattle.em_script.proofs.Printed.{text_of_then}

pub bodies_then : (g : Config) (old first second : List ℕ) (xs ys : List Placed) → first ≡ old ++ text_of g (flat_map body_lines xs) → second ≡ first ++ text_of g (flat_map body_lines ys) → second ≡ old ++ text_of g (flat_map body_lines (xs ++ ys))
bodies_then g old first second xs ys a b =
    text_of_then g old first second (flat_map body_lines xs) (flat_map body_lines ys) a b ∙ ap (λ ls. old ++ text_of g ls) (sym (flat_map-append body_lines xs ys))

bodies-append : (n : ℕ) (xs ys : List EoDecl) → bodies_of_objects n (xs ++ ys) ≡ bodies_of_objects n xs ++ bodies_of_objects (n + length xs) ys
bodies-append n [] ys = ap (λ k. bodies_of_objects k ys) (omega arith)
bodies-append n (x ∷ xs) ys =
    let first = bodies_of_object (record { 0 = n }) x in
    let e : suc n + length xs ≡ n + suc (length xs) = omega arith in
    ap (λ bs. first ++ bs) (bodies-append (suc n) xs ys ∙ ap (λ k. bodies_of_objects (suc n) xs ++ bodies_of_objects k ys) e) ∙ sym (append_assoc first (bodies_of_objects (suc n) xs) (bodies_of_objects (n + suc (length xs)) ys))

-- one object more
bodies-more : (eos : List EoDecl) (n : ℕ) (d : EoDecl) → n < length eos → bodies_of_objects 0 (take (n + 1) eos) ≡ bodies_of_objects 0 (take n eos) ++ bodies_of_object (record { 0 = n }) (get_or eos n d)
bodies-more eos n d lt =
    let e : 0 + length (take n eos) ≡ n = omega (arith, length-take-le n eos (omega arith)) in
    let x = get_or eos n d in
    ap (bodies_of_objects 0) (take_more eos n d lt) ∙ bodies-append 0 (take n eos) (x ∷ []) ∙ ap (λ k. bodies_of_objects 0 (take n eos) ++ bodies_of_objects k (x ∷ [])) e ∙ ap (λ bs. bodies_of_objects 0 (take n eos) ++ bs) (append-nil (bodies_of_object (record { 0 = n }) x))

pub bodies_step : (g : Config) (eos : List EoDecl) (n : ℕ) (d : EoDecl) (old first second : List ℕ) → n < length eos → first ≡ old ++ text_of g (flat_map body_lines (bodies_of_objects 0 (take n eos))) → second ≡ first ++ text_of g (flat_map body_lines (bodies_of_object (record { 0 = n }) (get_or eos n d))) → second ≡ old ++ text_of g (flat_map body_lines (bodies_of_objects 0 (take (n + 1) eos)))
bodies_step g eos n d old first second lt a b =
    bodies_then g old first second (bodies_of_objects 0 (take n eos)) (bodies_of_object (record { 0 = n }) (get_or eos n d)) a b ∙ ap (λ bs. old ++ text_of g (flat_map body_lines bs)) (sym (bodies-more eos n d lt))
