-- What is written in a form is read again, and what is read was written so.
use Rattle.std.proofs.Common.{◌≡◌, ℕ, ◌<◌, Bool, true, false, ◌&&◌, cond, List, [], ◌∷◌, ◌++◌, drop, Option, Some, None, refl, sym, ap, subst, ◌∙◌, append_assoc, inl, inr, ◌⊎◌}
use Rattle.std.specs.List.{AllByRecursion}
use Rattle.std.specs.Prelude.{bytes_eq}
use Rattle.std.proofs.lemmas.Slice.Eq.{bytes_eq-Decides}
use Rattle.em_trace.specs.Line.{Rest}
use Rattle.em_trace.specs.Form.{◌>>=◌, Form, given, is_at, is_first, skip, is_over, has_none, ◌▷◌, mapped, nothing, ended, after, either, optional}
use Rattle.em_trace.proofs.Binds.{some-is, bind-some, cond-some, test-some, given-some}

-- no byte of a token is a space or a newline
abbrev pub IsPlain : List ℕ → Type 0
IsPlain token = AllByRecursion (λ b. 32 < b) token

abbrev pub well_rest : List (List ℕ) → Rest
well_rest tokens = record { tokens = tokens; well = true }

-- what was taken from the front of a rest that is well afterwards
pub record Took {A : Type 0} (f : Form A) (Fits : A → Type 0) (Ends : List (List ℕ) → Type 0) (s : Rest) (x : A) (s' : Rest) : Type 0 where
  pub tokens : s.tokens ≡ f.write x ++ s'.tokens
  pub well : s.well ≡ true
  pub fits : Fits x
  pub ends : Ends s'.tokens

-- What is written is read again, in front of what may follow; and what is read, with each number well, was written so.
pub record IsForm {A : Type 0} (f : Form A) (Fits : A → Type 0) (Ends : List (List ℕ) → Type 0) : Type 0 where
  pub again : (x : A) → Fits x → (more : List (List ℕ)) → Ends more → f.read (well_rest (f.write x ++ more)) ≡ Some (x, well_rest more)
  pub took : (s : Rest) (x : A) (s' : Rest) → f.read s ≡ Some (x, s') → s'.well ≡ true → Took f Fits Ends s x s'
  pub plain : (x : A) → Fits x → AllByRecursion IsPlain (f.write x)

-- anything may follow, or nothing
abbrev pub Any : List (List ℕ) → Type 0
Any more = Unit {0}

abbrev pub Nothing : List (List ℕ) → Type 0
Nothing more = more ≡ []

pub All-append : {A : Type 0} (P : A → Type 0) (xs ys : List A) → AllByRecursion P xs → AllByRecursion P ys → AllByRecursion P (xs ++ ys)
All-append P [] ys p q = q
All-append P (x ∷ xs) ys p q = (p.0, All-append P xs ys p.1 q)

pub and-true : (a b : Bool) → (a && b) ≡ true → (a ≡ true) × (b ≡ true)
and-true true b e = (refl, e)
and-true false b e = absurd cc

is-well-rest : (s : Rest) (tokens : List (List ℕ)) → s.tokens ≡ tokens → s.well ≡ true → s ≡ well_rest tokens
is-well-rest s tokens e w = λ i. record { tokens = e i; well = w i }

-- ---- forms from forms

pub then-form : {A B : Type 0} (f : Form A) (g : Form B) (F : A → Type 0) (G : B → Type 0) (E : List (List ℕ) → Type 0) → IsForm f F Any → IsForm g G E → IsForm (f ▷ g) (λ p. F p.0 × G p.1) E
then-form {A = A} {B = B} f g F G E a b = record {
  again = λ p fits more ends. rw (append_assoc (f.write p.0) (g.write p.1) more, a.again p.0 fits.0 (g.write p.1 ++ more) tt, b.again p.1 fits.1 more ends) refl;
  took = λ s p s' e w.
      let x = bind-some (f.read s) (λ x. g.read x.1 >>= λ y. Some ((x.0, y.0), y.1)) (p, s') e in
      let y = bind-some (g.read x.0.1) (λ y. Some ((x.0.0, y.0), y.1)) (p, s') x.2 in
      let same = some-is ((x.0.0, y.0.0), y.0.1) (p, s') y.2 in
      let rest : y.0.1 ≡ s' = ap (λ q. q.1) same in
      let values : (x.0.0, y.0.0) ≡ p = ap (λ q. q.0) same in
      let second = b.took x.0.1 y.0.0 y.0.1 y.1 (rw rest w) in
      let first = a.took s x.0.0 x.0.1 x.1 second.well in
      let tokens : s.tokens ≡ (f.write x.0.0 ++ g.write y.0.0) ++ y.0.1.tokens = first.tokens ∙ ap (λ ts. f.write x.0.0 ++ ts) second.tokens ∙ sym (append_assoc (f.write x.0.0) (g.write y.0.0) y.0.1.tokens) in
      subst (λ (q : (A × B) × Rest). Took (f ▷ g) (λ p. F p.0 × G p.1) E s q.0 q.1) same (record { tokens = tokens; well = first.well; fits = (first.fits, second.fits); ends = second.ends });
  plain = λ p fits. All-append IsPlain (f.write p.0) (g.write p.1) (a.plain p.0 fits.0) (b.plain p.1 fits.1);
}

pub mapped-form : {A B : Type 0} (to : A → B) (back : B → A) (f : Form A) (F : A → Type 0) (G : B → Type 0) (E : List (List ℕ) → Type 0) → IsForm f F E → ((y : B) → G y → F (back y)) → ((y : B) → to (back y) ≡ y) → ((x : A) → back (to x) ≡ x) → ((x : A) → F x → G (to x)) → IsForm (mapped to back f) G E
mapped-form to back f F G E a fits_back to-back back-to fits_to = record {
  again = λ y fits more ends. rw (a.again (back y) (fits_back y fits) more ends) (ap (λ z. Some (z, well_rest more)) (to-back y));
  took = λ s y s' e w.
      let x = given-some to (f.read s) y s' e in
      let t = a.took s x.0 s' x.1 w in
      subst (λ z. Took (mapped to back f) G E s z s') x.2 (record { tokens = rw (back-to x.0) t.tokens; well = t.well; fits = fits_to x.0 t.fits; ends = t.ends });
  plain = λ y fits. a.plain (back y) (fits_back y fits);
}

pub nothing-form : IsForm nothing (λ _. Unit {0}) Any
nothing-form = record {
  again = λ x fits more ends. refl;
  took = λ s x s' e w.
      let same : s ≡ s' = ap (λ p. p.1) (some-is (tt, s) (x, s') e) in
      record { tokens = ap (λ r. r.tokens) same; well = ap (λ r. r.well) same ∙ w; fits = tt; ends = tt };
  plain = λ x fits. tt;
}

has_none-is : (tokens : List (List ℕ)) → has_none tokens ≡ true → tokens ≡ []
has_none-is [] e = refl
has_none-is (t ∷ ts) e = absurd cc

pub ended-form : IsForm ended (λ _. Unit {0}) Nothing
unfolding is_over
ended-form = record {
  again = λ x fits more ends. rw ends refl;
  took = λ s x s' e w.
      let c = cond-some (is_over s) (tt, s) (x, s') e in
      let same : s ≡ s' = ap (λ p. p.1) c.1 in
      let none : s.tokens ≡ [] = has_none-is s.tokens c.0 in
      record { tokens = ap (λ r. r.tokens) same; well = ap (λ r. r.well) same ∙ w; fits = tt; ends = ap (λ r. r.tokens) (sym same) ∙ none };
  plain = λ x fits. tt;
}

-- ---- words

bytes_eq-same : (w : List ℕ) → bytes_eq w w ≡ true
bytes_eq-same w = (bytes_eq-Decides w w).1 refl

pub is_at-same : (word : List ℕ) (more : List (List ℕ)) → is_at word (well_rest (word ∷ more)) ≡ true
unfolding is_at
is_at-same word more = bytes_eq-same word

pub skip-same : (word : List ℕ) (more : List (List ℕ)) → skip (well_rest (word ∷ more)) ≡ well_rest more
unfolding skip
skip-same word more = refl

first-skip : (word : List ℕ) (tokens : List (List ℕ)) → is_first word tokens ≡ true → tokens ≡ word ∷ drop 1 tokens
first-skip word [] e = absurd cc
first-skip word (t ∷ ts) e = ap (λ w. w ∷ ts) ((bytes_eq-Decides t word).0 e)

pub is_at-skip : (word : List ℕ) (s : Rest) → is_at word s ≡ true → s.tokens ≡ word ∷ (skip s).tokens
unfolding is_at skip
is_at-skip word s e = first-skip word s.tokens e

pub skip-well : (s : Rest) → (skip s).well ≡ s.well
unfolding skip
skip-well s = refl

pub is_at-first : (word : List ℕ) (tokens : List (List ℕ)) → is_at word (well_rest tokens) ≡ is_first word tokens
unfolding is_at
is_at-first word tokens = refl

pub after-form : {A : Type 0} (word : List ℕ) (f : Form A) (F : A → Type 0) (E : List (List ℕ) → Type 0) → IsPlain word → IsForm f F E → IsForm (after word f) F E
after-form word f F E word-plain a = record {
  again = λ x fits more ends. rw (is_at-same word (f.write x ++ more), skip-same word (f.write x ++ more), a.again x fits more ends) refl;
  took = λ s x s' e w.
      let c = test-some (is_at word s) (f.read (skip s)) (x, s') e in
      let t = a.took (skip s) x s' c.1 w in
      record { tokens = is_at-skip word s c.0 ∙ ap (λ ts. word ∷ ts) t.tokens; well = sym (skip-well s) ∙ t.well; fits = t.fits; ends = t.ends };
  plain = λ x fits. (word-plain, a.plain x fits);
}

abbrev pub SumFits : {A B : Type 0} → (A → Type 0) → (B → Type 0) → A ⊎ B → Type 0
SumFits F G (inl x) = F x
SumFits F G (inr y) = G y

chosen : {A : Type 0} (b : Bool) (o p : Option A) (y : A) → cond b o p ≡ Some y → ((b ≡ true) × (o ≡ Some y)) ⊎ ((b ≡ false) × (p ≡ Some y))
chosen true o p y e = inl (refl, e)
chosen false o p y e = inr (refl, e)

module _ {A B : Type 0} (word : List ℕ) (f : Form A) (g : Form B) (F : A → Type 0) (G : B → Type 0) (E : List (List ℕ) → Type 0) (word-plain : IsPlain word) (a : IsForm f F E) (b : IsForm g G E) (apart : (y : B) → G y → (more : List (List ℕ)) → E more → is_first word (g.write y ++ more) ≡ false) where
  either-again : (x : A ⊎ B) → SumFits F G x → (more : List (List ℕ)) → E more → (either word f g).read (well_rest ((either word f g).write x ++ more)) ≡ Some (x, well_rest more)
  either-again (inl x) fits more ends = rw (is_at-same word (f.write x ++ more), skip-same word (f.write x ++ more), a.again x fits more ends) refl
  either-again (inr y) fits more ends = rw (is_at-first word (g.write y ++ more), apart y fits more ends, b.again y fits more ends) refl

  either-plain : (x : A ⊎ B) → SumFits F G x → AllByRecursion IsPlain ((either word f g).write x)
  either-plain (inl x) fits = (word-plain, a.plain x fits)
  either-plain (inr y) fits = b.plain y fits

  either-took : (s : Rest) (x : A ⊎ B) (s' : Rest) → (either word f g).read s ≡ Some (x, s') → s'.well ≡ true → Took (either word f g) (SumFits F G) E s x s'
  either-took s x s' e w =
      elim (chosen (is_at word s) (given (λ x. inl x) (f.read (skip s))) (given (λ y. inr y) (g.read s)) (x, s') e) [
        | inl c ↦
            let v = given-some (λ x. inl x) (f.read (skip s)) x s' c.1 in
            let t = a.took (skip s) v.0 s' v.1 w in
            subst (λ z. Took (either word f g) (SumFits F G) E s z s') v.2 (record { tokens = is_at-skip word s c.0 ∙ ap (λ ts. word ∷ ts) t.tokens; well = sym (skip-well s) ∙ t.well; fits = t.fits; ends = t.ends })
        | inr c ↦
            let v = given-some (λ y. inr y) (g.read s) x s' c.1 in
            let t = b.took s v.0 s' v.1 w in
            subst (λ z. Took (either word f g) (SumFits F G) E s z s') v.2 (record { tokens = t.tokens; well = t.well; fits = t.fits; ends = t.ends })
      ]

  pub either-form : IsForm (either word f g) (SumFits F G) E
  either-form = record { again = either-again; took = either-took; plain = either-plain }

abbrev pub OptionFits : {A : Type 0} → (A → Type 0) → Option A → Type 0
OptionFits F None = Unit {0}
OptionFits F (Some x) = F x

module _ {A B : Type 0} (word : List ℕ) (f : Form A) (g : Form B) (F : A → Type 0) (G : B → Type 0) (E : List (List ℕ) → Type 0) (word-plain : IsPlain word) (a : IsForm f F Any) (b : IsForm g G E) (apart : (y : B) → G y → (more : List (List ℕ)) → E more → is_first word (g.write y ++ more) ≡ false) where
  optional-again : (x : Option A) (y : B) → OptionFits F x → G y → (more : List (List ℕ)) → E more → (optional word f ▷ g).read (well_rest ((optional word f ▷ g).write (x, y) ++ more)) ≡ Some ((x, y), well_rest more)
  optional-again None y fx fy more ends = rw (is_at-first word (g.write y ++ more), apart y fy more ends, b.again y fy more ends) refl
  optional-again (Some x) y fx fy more ends =
      let e = append_assoc (f.write x) (g.write y) more in
      rw (e, is_at-same word (f.write x ++ (g.write y ++ more)), skip-same word (f.write x ++ (g.write y ++ more)), a.again x fx (g.write y ++ more) tt, b.again y fy more ends) refl

  optional-plain : (x : Option A) (y : B) → OptionFits F x → G y → AllByRecursion IsPlain ((optional word f ▷ g).write (x, y))
  optional-plain None y fx fy = b.plain y fy
  optional-plain (Some x) y fx fy = (word-plain, All-append IsPlain (f.write x) (g.write y) (a.plain x fx) (b.plain y fy))

  optional-took-at : (s : Rest) (x : Option A) (r : Rest) (y : B) (s' : Rest) → (optional word f).read s ≡ Some (x, r) → g.read r ≡ Some (y, s') → s'.well ≡ true → Took (optional word f ▷ g) (λ p. OptionFits F p.0 × G p.1) E s (x, y) s'
  optional-took-at s x r y s' e h w =
      let second = b.took r y s' h w in
      elim (chosen (is_at word s) (given (λ x. Some x) (f.read (skip s))) (Some (None, s)) (x, r) e) [
        | inl c ↦
            let v = given-some (λ x. Some x) (f.read (skip s)) x r c.1 in
            let t = a.took (skip s) v.0 r v.1 second.well in
            let tokens : s.tokens ≡ word ∷ ((f.write v.0 ++ g.write y) ++ s'.tokens) = is_at-skip word s c.0 ∙ ap (λ ts. word ∷ ts) (t.tokens ∙ ap (λ ts. f.write v.0 ++ ts) second.tokens ∙ sym (append_assoc (f.write v.0) (g.write y) s'.tokens)) in
            subst (λ z. Took (optional word f ▷ g) (λ p. OptionFits F p.0 × G p.1) E s (z, y) s') v.2 (record { tokens = tokens; well = sym (skip-well s) ∙ t.well; fits = (t.fits, second.fits); ends = second.ends })
        | inr c ↦
            let same = some-is (None, s) (x, r) c.1 in
            let none : None ≡ x = ap (λ p. p.0) same in
            let rest : s ≡ r = ap (λ p. p.1) same in
            subst (λ z. Took (optional word f ▷ g) (λ p. OptionFits F p.0 × G p.1) E s (z, y) s') none (record { tokens = ap (λ q. q.tokens) rest ∙ second.tokens; well = ap (λ q. q.well) rest ∙ second.well; fits = (tt, second.fits); ends = second.ends })
      ]

  optional-took : (s : Rest) (p : Option A × B) (s' : Rest) → (optional word f ▷ g).read s ≡ Some (p, s') → s'.well ≡ true → Took (optional word f ▷ g) (λ p. OptionFits F p.0 × G p.1) E s p s'
  optional-took s p s' e w =
      let x = bind-some ((optional word f).read s) (λ x. g.read x.1 >>= λ y. Some ((x.0, y.0), y.1)) (p, s') e in
      let y = bind-some (g.read x.0.1) (λ y. Some ((x.0.0, y.0), y.1)) (p, s') x.2 in
      let same = some-is ((x.0.0, y.0.0), y.0.1) (p, s') y.2 in
      let rest : y.0.1 ≡ s' = ap (λ q. q.1) same in
      subst (λ (q : (Option A × B) × Rest). Took (optional word f ▷ g) (λ p. OptionFits F p.0 × G p.1) E s q.0 q.1) same (optional-took-at s x.0.0 x.0.1 y.0.0 y.0.1 x.1 y.1 (rw rest w))

  pub optional-form : IsForm (optional word f ▷ g) (λ p. OptionFits F p.0 × G p.1) E
  optional-form = record {
    again = λ p fits more ends. optional-again p.0 p.1 fits.0 fits.1 more ends;
    took = optional-took;
    plain = λ p fits. optional-plain p.0 p.1 fits.0 fits.1;
  }
