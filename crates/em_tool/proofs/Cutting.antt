-- What is cut out of a text, and that it is found again.
use Rattle.std.proofs.Common.{◌≡◌, ◌≢◌, ◌<◌, ℕ, suc, List, [], ◌∷◌, ◌++◌, length, get_or, Some, None, Bool, true, false, arith, refl, sym, ap, ◌∙◌, eq-eqb, eqb-true, subst, MatchOption, Bor}
use Rattle.std.specs.Prelude.{Option, ◌==◌, if◌then◌else◌}
use Rattle.std.specs.Option.{option_map, option_map_or}
use Rattle.std.proofs.lemmas.Bool.Decides.{nat_tests}
use Rattle.em_tool.specs.Fields.{Lacks, cut}

pub cut-append : (end : ℕ) (xs ys : List ℕ) → Lacks end xs → cut end (xs ++ end ∷ ys) ≡ Some (xs, ys)
cut-append end [] ys lacks = let same : (end == end) ≡ true = eq-eqb end end refl in rw same refl
cut-append end (x ∷ xs) ys lacks =
    let ne = lacks.0 in
    let other : (x == end) ≡ false = grind (arith, nat_tests) in
    rw (other, cut-append end xs ys lacks.1) refl

pub cut-none : (end : ℕ) (xs : List ℕ) → Lacks end xs → cut end xs ≡ None
cut-none end [] lacks = refl
cut-none end (x ∷ xs) lacks =
    let ne = lacks.0 in
    let other : (x == end) ≡ false = grind (arith, nat_tests) in
    rw (other, cut-none end xs lacks.1) refl

cut_step : (b end : ℕ) (t : Bool) (o : Option (List ℕ × List ℕ)) (bs xs ys : List ℕ) → (b == end) ≡ t
    → ((us vs : List ℕ) → o ≡ Some (us, vs) → (bs ≡ us ++ end ∷ vs) × Lacks end us)
    → if◌then◌else◌ {A = Option (List ℕ × List ℕ)} t (Some ([], bs)) (option_map (λ parts. (b ∷ parts.0, parts.1)) o) ≡ Some (xs, ys)
    → (b ∷ bs ≡ xs ++ end ∷ ys) × Lacks end xs
cut_step b end true o bs xs ys same more e =
    let front : [] ≡ xs = ap (λ p. option_map_or (λ (q : List ℕ × List ℕ). q.0) p []) e in
    let back : bs ≡ ys = ap (λ p. option_map_or (λ (q : List ℕ × List ℕ). q.1) p []) e in
    let head : b ≡ end = eqb-true b end same in
    subst (λ zs. (b ∷ bs ≡ zs ++ end ∷ ys) × Lacks end zs) front (cc, tt)
cut_step b end false None bs xs ys same more e = absurd (cc (e))
cut_step b end false (Some (us, vs)) bs xs ys same more e =
    let front : b ∷ us ≡ xs = ap (λ p. option_map_or (λ (q : List ℕ × List ℕ). q.0) p []) e in
    let back : vs ≡ ys = ap (λ p. option_map_or (λ (q : List ℕ × List ℕ). q.1) p []) e in
    let (rest, lacks) = more us vs refl in
    let other : b ≢ end = λ h. absurd (cc (eq-eqb b end h, same)) in
    subst (λ zs. (b ∷ bs ≡ zs ++ end ∷ ys) × Lacks end zs) front (ap (λ l. b ∷ l) (rest ∙ ap (λ l. us ++ end ∷ l) back), (other, lacks))

pub cut-some : (end : ℕ) (text xs ys : List ℕ) → cut end text ≡ Some (xs, ys) → (text ≡ xs ++ end ∷ ys) × Lacks end xs
cut-some end [] xs ys e = absurd (cc (e))
cut-some end (b ∷ bs) xs ys e = cut_step b end (b == end) (cut end bs) bs xs ys refl (cut-some end bs) e

pub Lacks-from_index : (end : ℕ) (xs : List ℕ) → ((i : ℕ) → i < length xs → get_or xs i 0 ≢ end) → Lacks end xs
Lacks-from_index end [] h = tt
Lacks-from_index end (x ∷ xs) h = (h 0 (omega arith), Lacks-from_index end xs (λ i below. h (suc i) (omega arith)))

-- what cutting at a byte returned, in the words of `cut`
pub cut-matches : (end : ℕ) (text : List ℕ) (r : Option (Bor (List ℕ) × Bor (List ℕ)))
    → MatchOption r ((i : ℕ) → i < length text → get_or text i 0 ≢ end) (λ x. (text ≡ x.0.now ++ end ∷ x.1.now) × ((i : ℕ) → i < length x.0.now → get_or x.0.now i 0 ≢ end))
    → option_map (λ parts. (parts.0.now, parts.1.now)) r ≡ cut end text
cut-matches end text None lacks = sym (cut-none end text (Lacks-from_index end text lacks))
cut-matches end text (Some x) parts = sym (ap (cut end) parts.0 ∙ cut-append end x.0.now x.1.now (Lacks-from_index end x.0.now parts.1))
