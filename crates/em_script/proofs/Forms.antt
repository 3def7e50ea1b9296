-- What is written in a form is read again, and what is read was written so.
use Rattle.std.proofs.Common.{◌≡◌, ◌≤◌, ℕ, ◌<◌, length, min, arith, Bool, true, false, ◌&&◌, List, [], ◌∷◌, ◌++◌, drop, Some, refl, sym, ap, subst, ◌∙◌, append_assoc}
use Rattle.std.specs.List.{AllByRecursion}
use Rattle.std.specs.Prelude.{bytes_eq}
use Rattle.std.proofs.lemmas.Slice.Eq.{bytes_eq-Decides}
use Rattle.em_script.specs.Lines.{Rest}
use Rattle.em_script.specs.Form.{◌>>=◌, Form, is_at, is_first, skip, is_over, has_none, ◌▷◌, ended, after, judged}
use Rattle.em_script.proofs.Binds.{some-is, bind-some, cond-some, test-some}

abbrev pub IsVisible : ℕ → Type 0
IsVisible b = (32 < b) × (b < 127)

-- some visible bytes
abbrev pub IsPlain : List ℕ → Type 0
IsPlain token = (0 < length token) × AllByRecursion IsVisible token

abbrev pub well_rest : List (List ℕ) → Rest
well_rest tokens = record { tokens = tokens; rule = 12 }

-- where no rule failed, the least is 12
pub kept : {a b : ℕ} → a ≡ b → 12 ≤ b → 12 ≤ a
kept e le = omega arith

-- what was taken from the front of a rest in which no rule failed
pub record Took {A : Type 0} (f : Form A) (Fits : A → Type 0) (Ends : List (List ℕ) → Type 0) (s : Rest) (x : A) (s' : Rest) : Type 0 where
  pub tokens : s.tokens ≡ f.write x ++ s'.tokens
  pub well : 12 ≤ s.rule
  pub fits : Fits x
  pub ends : Ends s'.tokens

-- What is written is read again, in front of what may follow; and what is read, with no rule failing, was written so.
pub record IsForm {A : Type 0} (f : Form A) (Fits : A → Type 0) (Ends : List (List ℕ) → Type 0) : Type 0 where
  pub again : (x : A) → Fits x → (more : List (List ℕ)) → Ends more → f.read (well_rest (f.write x ++ more)) ≡ Some (x, well_rest more)
  pub took : (s : Rest) (x : A) (s' : Rest) → f.read s ≡ Some (x, s') → 12 ≤ s'.rule → Took f Fits Ends s x s'
  pub plain : (x : A) → Fits x → AllByRecursion IsPlain (f.write x)

-- anything may follow, or nothing
abbrev pub Any : List (List ℕ) → Type 0
Any more = Unit {0}

abbrev pub Nothing : List (List ℕ) → Type 0
Nothing more = more ≡ []

pub All-append : {A : Type 0} (P : A → Type 0) (xs ys : List A) → AllByRecursion P xs → AllByRecursion P ys → AllByRecursion P (xs ++ ys)
All-append P [] ys p q = q
All-append P (x ∷ xs) ys p q = (p.0, All-append P xs ys p.1 q)

pub and-both : (a b : Bool) → a ≡ true → b ≡ true → (a && b) ≡ true
and-both true b p q = q
and-both false b p q = absurd cc

pub and-true : (a b : Bool) → (a && b) ≡ true → (a ≡ true) × (b ≡ true)
and-true true b e = (refl, e)
and-true false b e = absurd cc

-- ---- forms from forms

pub then-form : {A B : Type 0} (f : Form A) (g : Form B) (F : A → Type 0) (G : B → Type 0) (E : List (List ℕ) → Type 0) → IsForm f F Any → IsForm g G E → IsForm (f ▷ g) (λ p. F p.0 × G p.1) E
then-form {A = A} {B = B} f g F G E a b = record {
  again = λ p fits more ends. rw (append_assoc (f.write p.0) (g.write p.1) more, a.again p.0 fits.0 (g.write p.1 ++ more) tt, b.again p.1 fits.1 more ends) refl;
  took = λ s p s' e w.
      let x = bind-some (f.read s) (λ x. g.read x.1 >>= λ y. Some ((x.0, y.0), y.1)) (p, s') e in
      let y = bind-some (g.read x.0.1) (λ y. Some ((x.0.0, y.0), y.1)) (p, s') x.2 in
      let same = some-is ((x.0.0, y.0.0), y.0.1) (p, s') y.2 in
      let rest : y.0.1 ≡ s' = ap (λ q. q.1) same in
      let values : (x.0.0, y.0.0) ≡ p = ap (λ q. q.0) same in
      let second = b.took x.0.1 y.0.0 y.0.1 y.1 (rw rest w) in
      let first = a.took s x.0.0 x.0.1 x.1 second.well in
      let tokens : s.tokens ≡ (f.write x.0.0 ++ g.write y.0.0) ++ y.0.1.tokens = first.tokens ∙ ap (λ ts. f.write x.0.0 ++ ts) second.tokens ∙ sym (append_assoc (f.write x.0.0) (g.write y.0.0) y.0.1.tokens) in
      subst (λ (q : (A × B) × Rest). Took (f ▷ g) (λ p. F p.0 × G p.1) E s q.0 q.1) same (record { tokens = tokens; well = first.well; fits = (first.fits, second.fits); ends = second.ends });
  plain = λ p fits. All-append IsPlain (f.write p.0) (g.write p.1) (a.plain p.0 fits.0) (b.plain p.1 fits.1);
}

has_none-is : (tokens : List (List ℕ)) → has_none tokens ≡ true → tokens ≡ []
has_none-is [] e = refl
has_none-is (t ∷ ts) e = absurd cc

pub ended-form : IsForm ended (λ _. Unit {0}) Nothing
unfolding is_over
ended-form = record {
  again = λ x fits more ends. rw ends refl;
  took = λ s x s' e w.
      let c = cond-some (is_over s) (tt, s) (x, s') e in
      let same : s ≡ s' = ap (λ p. p.1) c.1 in
      let none : s.tokens ≡ [] = has_none-is s.tokens c.0 in
      record { tokens = ap (λ r. r.tokens) same; well = kept (ap (λ r. r.rule) same) w; fits = tt; ends = ap (λ r. r.tokens) (sym same) ∙ none };
  plain = λ x fits. tt;
}

-- ---- words

bytes_eq-same : (w : List ℕ) → bytes_eq w w ≡ true
bytes_eq-same w = (bytes_eq-Decides w w).1 refl

pub is_at-same : (word : List ℕ) (more : List (List ℕ)) → is_at word (well_rest (word ∷ more)) ≡ true
unfolding is_at
is_at-same word more = bytes_eq-same word

pub skip-same : (word : List ℕ) (more : List (List ℕ)) → skip (well_rest (word ∷ more)) ≡ well_rest more
unfolding skip
skip-same word more = refl

first-skip : (word : List ℕ) (tokens : List (List ℕ)) → is_first word tokens ≡ true → tokens ≡ word ∷ drop 1 tokens
first-skip word [] e = absurd cc
first-skip word (t ∷ ts) e = ap (λ w. w ∷ ts) ((bytes_eq-Decides t word).0 e)

pub is_at-skip : (word : List ℕ) (s : Rest) → is_at word s ≡ true → s.tokens ≡ word ∷ (skip s).tokens
unfolding is_at skip
is_at-skip word s e = first-skip word s.tokens e

pub skip-well : (s : Rest) → (skip s).rule ≡ s.rule
unfolding skip
skip-well s = refl

pub is_at-first : (word : List ℕ) (tokens : List (List ℕ)) → is_at word (well_rest tokens) ≡ is_first word tokens
unfolding is_at
is_at-first word tokens = refl

pub after-form : {A : Type 0} (word : List ℕ) (f : Form A) (F : A → Type 0) (E : List (List ℕ) → Type 0) → IsPlain word → IsForm f F E → IsForm (after word f) F E
after-form word f F E word-plain a = record {
  again = λ x fits more ends. rw (is_at-same word (f.write x ++ more), skip-same word (f.write x ++ more), a.again x fits more ends) refl;
  took = λ s x s' e w.
      let c = test-some (is_at word s) (f.read (skip s)) (x, s') e in
      let t = a.took (skip s) x s' c.1 w in
      record { tokens = is_at-skip word s c.0 ∙ ap (λ ts. word ∷ ts) t.tokens; well = kept (sym (skip-well s)) t.well; fits = t.fits; ends = t.ends };
  plain = λ x fits. (word-plain, a.plain x fits);
}

-- ---- rules

-- where no rule failed afterwards, this one was met, and none failed before
pub judged-met : (rule : ℕ) (good : Bool) (s s' : Rest) → rule < 12 → judged rule good s ≡ s' → 12 ≤ s'.rule → (good ≡ true) × (12 ≤ s.rule) × (s.tokens ≡ s'.tokens)
judged-met rule true s s' small e w = (refl, kept (ap (λ r. r.rule) e) w, ap (λ r. r.tokens) e)
judged-met rule false s s' small e w =
    let low : 12 ≤ min rule s.rule = kept (ap (λ r. r.rule) e) w in
    absurd (omega arith)
