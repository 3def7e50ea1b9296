-- A list whose elements are changed one after another.
use Rattle.std.proofs.Common.{◌≡◌, ℕ, ◌+◌, ◌<◌, List, [], ◌∷◌, ◌++◌, map, length, get_or, set, take, drop, ap, sym, ◌∙◌, arith}
use Rattle.std.proofs.lemmas.List.{append_assoc, map-append, length-map, length-take-le, drop_more, take_more, get_or_at, set_at}

module _ {X : Type 0} (f : X → X) (xs ys : List X) (i : ℕ) (d : X) (lt : i < length xs) (so_far : ys ≡ map f (take i xs) ++ drop i xs) where
  split : ys ≡ map f (take i xs) ++ get_or xs i d ∷ drop (i + 1) xs
  split = so_far ∙ ap (λ r. map f (take i xs) ++ r) (drop_more xs i d lt)

  length_front : length (map f (take i xs)) ≡ i
  length_front = length-map (take i xs) f ∙ length-take-le i xs (omega arith)

  pub mapped_read : get_or ys i d ≡ get_or xs i d
  mapped_read = ap (λ l. get_or l i d) split ∙ get_or_at (map f (take i xs)) (get_or xs i d) (drop (i + 1) xs) d i length_front

  pub mapped_step : (z : X) → z ≡ f (get_or ys i d) → set ys i z ≡ map f (take (i + 1) xs) ++ drop (i + 1) xs
  mapped_step z is =
      ap (λ l. set l i z) split
      ∙ (set_at (map f (take i xs)) (get_or xs i d) (drop (i + 1) xs) z i length_front
      ∙ (ap (λ y. map f (take i xs) ++ y ∷ drop (i + 1) xs) (is ∙ ap f mapped_read)
      ∙ (sym (append_assoc (map f (take i xs)) (f (get_or xs i d) ∷ []) (drop (i + 1) xs))
      ∙ ap (λ l. l ++ drop (i + 1) xs) (sym (ap (map f) (take_more xs i d lt) ∙ map-append f (take i xs) (get_or xs i d ∷ []))))))
