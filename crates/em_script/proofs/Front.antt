-- What is read behind a front that has been read.
use Rattle.std.proofs.Common.{◌≡◌, List, [], ◌∷◌, ◌++◌, Option, Some, None, refl, sym, ap, append_assoc}
use Rattle.em_script.specs.Lines.{Rest}
use Rattle.em_script.specs.Form.{◌>>=◌, given}

abbrev pub with_front : {A : Type 0} → List A → Option (List A × Rest) → Option (List A × Rest)
with_front front read = given (λ xs. front ++ xs) read

pub with_front-more : {A : Type 0} (front : List A) (x : A) (read : Option (List A × Rest)) → with_front front (read >>= λ xs. Some (x ∷ xs.0, xs.1)) ≡ with_front (front ++ x ∷ []) read
with_front-more front x None = refl
with_front-more front x (Some xs) = ap (λ (ys : List _). Some (ys, xs.1)) (sym (append_assoc front (x ∷ []) xs.0))
