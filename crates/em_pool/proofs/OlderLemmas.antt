-- A look-up in the entries of a hash map, as one in a finite map.
use Rattle.std.proofs.Common.{◌≡◌, ℕ, true, cond, ◌==◌, List, [], ◌∷◌, Some, Result, Ok, Err, is_ok, OnOk, refl, sym, ◌∙◌}
use Rattle.std.specs.Cmp.{nat_cmp_total, unsigned_ties, nat_eq_equiv}
use Rattle.std.specs.FinMap.{find, get, insert, from_entries, get-from_entries, get-insert, same_map, nat_cmp-IsAntisymmetric}
use Rattle.std.specs.Map.{lookup}
use Rattle.std.specs.Ordering.{nat_cmp, eq_by_cmp}
use Rattle.em_pool.specs.declared.place.Spent.{Spent}

lookup-find : (q : ℕ) (es : List (ℕ × Spent)) → lookup (λ k. q == k) es ≡ find nat_cmp q es
lookup-find q [] = refl
lookup-find q (e ∷ es) = λ i. cond (unsigned_ties q e.0 i) (Some e.1) (lookup-find q es i)

pub lookup-get : (q : ℕ) (es : List (ℕ × Spent)) → lookup (λ k. q == k) es ≡ get (from_entries {R = nat_cmp} es) q
lookup-get q es = lookup-find q es ∙ sym (get-from_entries nat_cmp_total es q)

pub same_lookups : (es fs : List (ℕ × Spent)) → ((q : ℕ) → lookup (λ k. q == k) es ≡ lookup (λ k. q == k) fs)
    → from_entries {R = nat_cmp} es ≡ from_entries fs
same_lookups es fs h = same_map nat_cmp_total nat_cmp-IsAntisymmetric _ _ (λ q. sym (lookup-get q es) ∙ (h q ∙ lookup-get q fs))

pub put_lookups : (es fs : List (ℕ × Spent)) (h : ℕ) (s : Spent)
    → ((q : ℕ) → lookup (λ k. q == k) fs ≡ cond (h == q) (Some s) (lookup (λ k. q == k) es))
    → from_entries {R = nat_cmp} fs ≡ insert (from_entries es) h s
put_lookups es fs h s is =
    same_map nat_cmp_total nat_cmp-IsAntisymmetric _ _
    (λ q. sym (lookup-get q fs) ∙ (is q ∙ ((λ i. cond (turned h q i) (Some s) (lookup-get q es i)) ∙ sym (get-insert nat_cmp_total _ h s q))))
  where
    turned : (a b : ℕ) → (a == b) ≡ eq_by_cmp nat_cmp b a
    turned a b = nat_eq_equiv.symm a b ∙ unsigned_ties b a

pub when_ok : {T E : Type 0} {P : Type 0} (r : Result T E) → is_ok r ≡ true → OnOk r P → P
when_ok (Ok x) is p = p
when_ok (Err e) is p = absurd (cc is)
