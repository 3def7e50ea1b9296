-- Numbers in a row, read from the left.
use Rattle.std.proofs.Common.{◌≡◌, ◌<◌, ◌^◌, ℕ, List, [], ◌∷◌, ◌++◌, Some, None, arith, refl, sym, ap, ◌∙◌, append_assoc}
use Rattle.std.specs.Int.{IsInRange}
use Rattle.std.specs.Fmt.{decimal}
use Rattle.std.specs.Option.{option_map_or}
use Rattle.std.proofs.lemmas.Str.Parse.{not_in_digits}
use Rattle.std.proofs.lemmas.Fmt.{digits_decimal, decimal_injective}
use Rattle.em_tool.specs.Decimal.{AllFit, AreNumbers, spelled}
use Rattle.em_tool.specs.Fields.{Lacks, cut}
use Rattle.em_tool.proofs.Numerals.{own}
use Rattle.em_tool.proofs.Cutting.{Lacks-from_index, cut-append, cut-none}

no_digit : (c : ℕ) → c < 48 → ¬ (IsInRange 48 57 c)
no_digit c low range = omega arith

pub Lacks-decimal : (c n : ℕ) → c < 48 → n < 2 ^ 64 → Lacks c (decimal n)
Lacks-decimal c n low small = Lacks-from_index c (decimal n) (not_in_digits own (decimal n) c (digits_decimal own n small) (no_digit c low))

-- where nothing is cut off, the numbers are one
pub last-number : (c : ℕ) (text ns : List ℕ) → c < 48 → cut c text ≡ None → AreNumbers ns → text ≡ spelled c ns → (n : ℕ) × (n < 2 ^ 64) × (ns ≡ n ∷ []) × (text ≡ decimal n)
last-number c text [] low e are is = absurd are
last-number c text (n ∷ []) low e are is = (n, are.0, refl, is)
last-number c text (n ∷ m ∷ ns) low e are is = absurd (cc (e, ap (cut c) is, cut-append c (decimal n) (spelled c (m ∷ ns)) (Lacks-decimal c n low are.0)))

-- what is cut off is the first number, and others follow
pub first-number : (c : ℕ) (text xs ys ns : List ℕ) → c < 48 → cut c text ≡ Some (xs, ys) → AreNumbers ns → text ≡ spelled c ns
    → (n : ℕ) × (ms : List ℕ) × (n < 2 ^ 64) × (ns ≡ n ∷ ms) × (xs ≡ decimal n) × AreNumbers ms × (ys ≡ spelled c ms)
first-number c text xs ys [] low e are is = absurd are
first-number c text xs ys (n ∷ []) low e are is = absurd (cc (e, ap (cut c) is, cut-none c (decimal n) (Lacks-decimal c n low are.0)))
first-number c text xs ys (n ∷ m ∷ ns) low e are is =
    let same : Some (xs, ys) ≡ Some (decimal n, spelled c (m ∷ ns)) = sym e ∙ ap (cut c) is ∙ cut-append c (decimal n) (spelled c (m ∷ ns)) (Lacks-decimal c n low are.0) in
    (n, m ∷ ns, are.0, refl, ap (λ p. option_map_or (λ (q : List ℕ × List ℕ). q.0) p []) same, are.1, ap (λ p. option_map_or (λ (q : List ℕ × List ℕ). q.1) p []) same)

-- a number stands before others
pub spelled-cons : (c n : ℕ) (text xs ys ns : List ℕ) → text ≡ xs ++ c ∷ ys → xs ≡ decimal n → AreNumbers ns → ys ≡ spelled c ns → text ≡ spelled c (n ∷ ns)
spelled-cons c n text xs ys [] whole first are rest = absurd are
spelled-cons c n text xs ys (m ∷ ns) whole first are rest = whole ∙ ap (λ l. l ++ c ∷ ys) first ∙ ap (λ l. decimal n ++ c ∷ l) rest

pub AreNumbers-cons : (n : ℕ) (ns : List ℕ) → n < 2 ^ 64 → AreNumbers ns → AreNumbers (n ∷ ns)
AreNumbers-cons n [] small are = absurd are
AreNumbers-cons n (m ∷ ns) small are = (small, are)

pub AllFit-push : (ns : List ℕ) (n : ℕ) → AllFit ns → n < 2 ^ 64 → AllFit (ns ++ n ∷ [])
AllFit-push [] n fit small = (small, tt)
AllFit-push (m ∷ ns) n fit small = (fit.0, AllFit-push ns n fit.1 small)

pub AreNumbers-push : (ns : List ℕ) (n : ℕ) → AllFit ns → n < 2 ^ 64 → AreNumbers (ns ++ n ∷ [])
AreNumbers-push [] n fit small = (small, tt)
AreNumbers-push (m ∷ ns) n fit small = (fit.0, AllFit-push ns n fit.1 small)

-- done was read of the text, and rest is left
pub record Reads (c : ℕ) (text done rest : List ℕ) : Type 0 where
  pub fit : AllFit done
  pub sound : (more : List ℕ) → AreNumbers more → rest ≡ spelled c more → text ≡ spelled c (done ++ more)
  pub whole : (ns : List ℕ) → AreNumbers ns → text ≡ spelled c ns → (more : List ℕ) × (ns ≡ done ++ more) × AreNumbers more × (rest ≡ spelled c more)

pub Reads-start : (c : ℕ) (text : List ℕ) → Reads c text [] text
Reads-start c text = record { fit = tt; sound = λ more are is. is; whole = λ ns are is. (ns, refl, are, is) }

pub Reads-step : (c n : ℕ) (text done rest xs ys : List ℕ) → c < 48 → n < 2 ^ 64 → Reads c text done rest → (rest ≡ xs ++ c ∷ ys) → cut c rest ≡ Some (xs, ys) → xs ≡ decimal n
    → Reads c text (done ++ n ∷ []) ys
Reads-step c n text done rest xs ys low small reads split e first = record {
  fit = AllFit-push done n reads.fit small;
  sound = λ more are is. reads.sound (n ∷ more) (AreNumbers-cons n more small are) (spelled-cons c n rest xs ys more split first are is) ∙ ap (spelled c) (sym (append_assoc done (n ∷ []) more));
  whole = λ ns are is.
      let (more, all, good, left) = reads.whole ns are is in
      let (m, ms, fits, more_is, spells, others, after) = first-number c rest xs ys more low e good left in
      let same : m ≡ n = decimal_injective m n fits small (sym spells ∙ first) in
      (ms, all ∙ ap (λ l. done ++ l) (more_is ∙ ap (λ k. k ∷ ms) same) ∙ sym (append_assoc done (n ∷ []) ms), others, after);
}

-- what is no number where a number is due refutes that the text is numbers
pub Reads-stuck : (c : ℕ) (text done rest xs ys ns : List ℕ) → c < 48 → Reads c text done rest → cut c rest ≡ Some (xs, ys) → ((n : ℕ) → n < 2 ^ 64 → xs ≡ decimal n → ⊥)
    → AreNumbers ns → text ≡ spelled c ns → ⊥
Reads-stuck c text done rest xs ys ns low reads e none are is =
    let (more, all, good, left) = reads.whole ns are is in
    let (m, ms, fits, more_is, spells, others, after) = first-number c rest xs ys more low e good left in
    none m fits spells

pub Reads-stuck_last : (c : ℕ) (text done rest ns : List ℕ) → c < 48 → Reads c text done rest → cut c rest ≡ None → ((n : ℕ) → n < 2 ^ 64 → rest ≡ decimal n → ⊥)
    → AreNumbers ns → text ≡ spelled c ns → ⊥
Reads-stuck_last c text done rest ns low reads e none are is =
    let (more, all, good, left) = reads.whole ns are is in
    let (m, fits, more_is, spells) = last-number c rest more low e good left in
    none m fits spells

pub Reads-last : (c n : ℕ) (text done rest : List ℕ) → n < 2 ^ 64 → Reads c text done rest → rest ≡ decimal n → AreNumbers (done ++ n ∷ []) × (text ≡ spelled c (done ++ n ∷ []))
Reads-last c n text done rest small reads last = (AreNumbers-push done n reads.fit small, reads.sound (n ∷ []) (small, tt) last)

pub Reads-unique : (c n : ℕ) (text done rest ns : List ℕ) → c < 48 → n < 2 ^ 64 → Reads c text done rest → cut c rest ≡ None → rest ≡ decimal n → AreNumbers ns → text ≡ spelled c ns → done ++ n ∷ [] ≡ ns
Reads-unique c n text done rest ns low small reads e last are is =
    let (more, all, good, left) = reads.whole ns are is in
    let (m, fits, more_is, spells) = last-number c rest more low e good left in
    let same : n ≡ m = decimal_injective n m small fits (sym last ∙ spells) in
    ap (λ k. done ++ k ∷ []) same ∙ sym (all ∙ ap (λ l. done ++ l) more_is)
