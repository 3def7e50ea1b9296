-- The laws of forms that are repeated up to the end of a line.
use Rattle.std.proofs.Common.{◌≡◌, ℕ, zero, suc, ◌<◌, ◌≤◌, Bool, true, false, cond, leb, List, [], ◌∷◌, ◌++◌, length, Option, Some, refl, sym, ap, subst, ◌∙◌, arith, append_assoc, append-nil, le-leb, leb-true}
use Rattle.std.specs.List.{AllByRecursion, flat_map}
use Rattle.em_script.specs.Lines.{Rest}
use Rattle.em_script.specs.Form.{◌>>=◌, Form, is_over, has_none, up_to_end, several, limited, judged}
use Rattle.em_script.proofs.Binds.{some-is, bind-some, cond-some}
use Rattle.em_script.proofs.Repeats.{TakesTokens}
use Rattle.em_script.proofs.Forms.{kept, IsPlain, well_rest, Took, IsForm, Any, Nothing, All-append, judged-met}

pub record TookEach {A : Type 0} (f : Form A) (F : A → Type 0) (s : Rest) (xs : List A) (s' : Rest) : Type 0 where
  pub tokens : s.tokens ≡ flat_map f.write xs ++ s'.tokens
  pub well : 12 ≤ s.rule
  pub each : AllByRecursion F xs
  pub none : s'.tokens ≡ []

nothing-left : (tokens : List (List ℕ)) → has_none tokens ≡ true → tokens ≡ []
nothing-left [] e = refl
nothing-left (t ∷ ts) e = absurd cc

over-is : (s : Rest) → is_over s ≡ true → s.tokens ≡ []
unfolding is_over
over-is s e = nothing-left s.tokens e

some-not_none : (tokens : List (List ℕ)) → 0 < length tokens → has_none tokens ≡ false
some-not_none [] lt = absurd (omega arith)
some-not_none (t ∷ ts) lt = refl

not_over : (tokens : List (List ℕ)) → 0 < length tokens → is_over (well_rest tokens) ≡ false
unfolding is_over
not_over tokens lt = some-not_none tokens lt

over-none : is_over (well_rest []) ≡ true
unfolding is_over
over-none = refl

regrouped : (all front some more rest : List (List ℕ)) → all ≡ front ++ more → more ≡ some ++ rest → all ≡ (front ++ some) ++ rest
regrouped all front some more rest e h = e ∙ ap (λ ts. front ++ ts) h ∙ sym (append_assoc front some rest)

module _ {A : Type 0} (f : Form A) (F : A → Type 0) (a : IsForm f F Any) (takes : TakesTokens f) where
  some-written : (x : A) → F x → (more : List (List ℕ)) → length more < length (f.write x ++ more)
  some-written x fits more = takes (well_rest (f.write x ++ more)) x (well_rest more) (a.again x fits more tt)

  each-again : (xs : List A) → AllByRecursion F xs → (n : ℕ) → length (flat_map f.write xs) ≤ n → up_to_end f n (well_rest (flat_map f.write xs)) ≡ Some (xs, well_rest [])
  unfolding up_to_end
  each-again [] fits zero le = rw over-none refl
  each-again [] fits (suc n) le = rw over-none refl
  each-again (x ∷ xs) fits zero le = absurd (let lt = some-written x fits.0 (flat_map f.write xs) in omega arith)
  each-again (x ∷ xs) fits (suc n) le =
      let lt = some-written x fits.0 (flat_map f.write xs) in
      let on : is_over (well_rest (f.write x ++ flat_map f.write xs)) ≡ false = not_over (f.write x ++ flat_map f.write xs) (omega arith) in
      let fewer : length (flat_map f.write xs) ≤ n = omega arith in
      rw (on, a.again x fits.0 (flat_map f.write xs) tt, each-again xs fits.1 n fewer) refl

  each-over : (n : ℕ) (s : Rest) (xs : List A) (s' : Rest) → is_over s ≡ true → ◌≡◌ {A = Option (List A × Rest)} (Some ([], s)) (Some (xs, s')) → 12 ≤ s'.rule → TookEach f F s xs s'
  each-over n s xs s' over e w =
      let same = some-is ([], s) (xs, s') e in
      subst (λ (q : List A × Rest). TookEach f F s q.0 q.1) same (record { tokens = refl; well = kept (ap (λ (q : List A × Rest). q.1.rule) same) w; each = tt; none = over-is s over })

  each-took : (n : ℕ) (s : Rest) (xs : List A) (s' : Rest) → up_to_end f n s ≡ Some (xs, s') → 12 ≤ s'.rule → TookEach f F s xs s'
  unfolding up_to_end
  each-took zero s xs s' e w =
      let c = cond-some (is_over s) ([], s) (xs, s') e in
      each-over zero s xs s' c.0 (ap (λ (q : List A × Rest). Some q) c.1) w
  each-took (suc n) s xs s' e w = step (is_over s) refl e (each-took n)
    where
      step : (over : Bool) → is_over s ≡ over → cond {A = Option (List A × Rest)} over (Some ([], s)) (f.read s >>= λ x. up_to_end f n x.1 >>= λ ys. Some (x.0 ∷ ys.0, ys.1)) ≡ Some (xs, s')
          → ((r : Rest) (ys : List A) (r' : Rest) → up_to_end f n r ≡ Some (ys, r') → 12 ≤ r'.rule → TookEach f F r ys r') → TookEach f F s xs s'
      step true over h later = each-over (suc n) s xs s' over h w
      step false over h later =
          let x = bind-some (f.read s) (λ x. up_to_end f n x.1 >>= λ ys. Some (x.0 ∷ ys.0, ys.1)) (xs, s') h in
          let ys = bind-some (up_to_end f n x.0.1) (λ ys. Some (x.0.0 ∷ ys.0, ys.1)) (xs, s') x.2 in
          let same = some-is (x.0.0 ∷ ys.0.0, ys.0.1) (xs, s') ys.2 in
          let w' : 12 ≤ ys.0.1.rule = kept (ap (λ (q : List A × Rest). q.1.rule) same) w in
          let more = later x.0.1 ys.0.0 ys.0.1 ys.1 w' in
          let t = a.took s x.0.0 x.0.1 x.1 more.well in
          let tokens = regrouped s.tokens (f.write x.0.0) (flat_map f.write ys.0.0) x.0.1.tokens ys.0.1.tokens t.tokens more.tokens in
          subst (λ (q : List A × Rest). TookEach f F s q.0 q.1) same (record { tokens = tokens; well = t.well; each = (t.fits, more.each); none = more.none })

  each-plain : (xs : List A) → AllByRecursion F xs → AllByRecursion IsPlain (flat_map f.write xs)
  each-plain [] fits = tt
  each-plain (x ∷ xs) fits = All-append IsPlain (f.write x) (flat_map f.write xs) (a.plain x fits.0) (each-plain xs fits.1)

  pub several-form : IsForm (several f) (AllByRecursion F) Nothing
  several-form = record {
    again = λ xs fits more ends. rw (ends, append-nil (flat_map f.write xs)) (each-again xs fits (length (flat_map f.write xs)) (omega arith));
    took = λ s xs s' e w.
        let t = each-took (length s.tokens) s xs s' e w in
        record { tokens = t.tokens; well = t.well; fits = t.each; ends = t.none };
    plain = each-plain;
  }

pub limited-form : {A : Type 0} (most : ℕ) (f : Form (List A)) (F : List A → Type 0) (E : List (List ℕ) → Type 0) → IsForm f F E → IsForm (limited most f) (λ xs. (length xs ≤ most) × F xs) E
limited-form {A = A} most f F E a = record {
  again = λ xs fits more ends. rw (a.again xs fits.1 more ends, le-leb (length xs) most fits.0) refl;
  took = λ s xs s' e w.
      let x = bind-some (f.read s) (λ xs. Some (xs.0, judged 10 (leb (length xs.0) most) xs.1)) (xs, s') e in
      let same = some-is (x.0.0, judged 10 (leb (length x.0.0) most) x.0.1) (xs, s') x.2 in
      let met = judged-met 10 (leb (length x.0.0) most) x.0.1 s' (omega arith) (ap (λ (q : List A × Rest). q.1) same) w in
      let t = a.took s x.0.0 x.0.1 x.1 met.1 in
      let le : length x.0.0 ≤ most = leb-true (length x.0.0) most met.0 in
      let rest = met.2 in
      subst (λ zs. Took (limited most f) (λ xs. (length xs ≤ most) × F xs) E s zs s') (ap (λ (q : List A × Rest). q.0) same)
      (record { tokens = t.tokens ∙ ap (λ ts. f.write x.0.0 ++ ts) rest; well = t.well; fits = (le, t.fits); ends = subst E rest t.ends });
  plain = λ xs fits. a.plain xs fits.1;
}
