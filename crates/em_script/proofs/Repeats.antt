-- Forms that are repeated up to the end of a line, and the tokens that each of them takes.
use Rattle.std.proofs.Common.{◌≡◌, ℕ, zero, suc, ◌<◌, ◌≤◌, true, false, List, [], ◌∷◌, ◌++◌, length, Option, Some, None, refl, sym, ap, ◌∙◌, arith, append-nil, length-drop, inl, inr}
use Rattle.std.proofs.lemmas.Bool.{cases_Bool}
use Rattle.em_script.specs.Lines.{Rest}
use Rattle.em_script.specs.Names.{Naming}
use Rattle.em_script.specs.declared.named.Named.{Named}
use Rattle.em_script.specs.Form.{◌>>=◌, Form, first_token, token_at, is_at, is_over, has_none, skip, ◌▷◌, after, up_to_end, used, used_name}
use Rattle.em_script.proofs.Binds.{some-is, bind-some, test-some}
use Rattle.em_script.proofs.Front.{with_front, with_front-more}

-- reading takes a token or more
abbrev pub TakesTokens : {A : Type 0} → Form A → Type 0
TakesTokens {A} f = (s : Rest) (x : A) (s' : Rest) → f.read s ≡ Some (x, s') → length s'.tokens < length s.tokens

-- ---- how much fuel is enough

pub bind-same : {A B : Type 0} (o : Option A) (f g : A → Option B) → ((x : A) → o ≡ Some x → f x ≡ g x) → (o >>= f) ≡ (o >>= g)
bind-same None f g h = refl
bind-same (Some x) f g h = h x refl

no_tokens : (tokens : List (List ℕ)) → length tokens ≤ 0 → has_none tokens ≡ true
no_tokens [] le = refl
no_tokens (t ∷ ts) le = absurd (omega arith)

pub over-of_none : (s : Rest) → length s.tokens ≤ 0 → is_over s ≡ true
unfolding is_over
over-of_none s le = no_tokens s.tokens le

up_to_end-over : {A : Type 0} (f : Form A) (n : ℕ) (s : Rest) → is_over s ≡ true → up_to_end f n s ≡ Some ([], s)
unfolding up_to_end
up_to_end-over f zero s over = rw over refl
up_to_end-over f (suc n) s over = rw over refl

up_to_end-on : {A : Type 0} (f : Form A) (n : ℕ) (s : Rest) → is_over s ≡ false → up_to_end f (suc n) s ≡ (f.read s >>= λ x. up_to_end f n x.1 >>= λ xs. Some (x.0 ∷ xs.0, xs.1))
unfolding up_to_end
up_to_end-on f n s on = rw on refl

-- more fuel than tokens changes nothing
pub up_to_end-fuel : {A : Type 0} (f : Form A) → TakesTokens f → (n m : ℕ) (s : Rest) → length s.tokens ≤ n → length s.tokens ≤ m → up_to_end f n s ≡ up_to_end f m s
up_to_end-fuel f takes zero m s p q = let over = over-of_none s p in up_to_end-over f zero s over ∙ sym (up_to_end-over f m s over)
up_to_end-fuel f takes (suc n) zero s p q = let over = over-of_none s q in up_to_end-over f (suc n) s over ∙ sym (up_to_end-over f zero s over)
up_to_end-fuel f takes (suc n) (suc m) s p q =
    elim (cases_Bool (is_over s)) [
      | inl over ↦ up_to_end-over f (suc n) s over ∙ sym (up_to_end-over f (suc m) s over)
      | inr on ↦
          up_to_end-on f n s on
          ∙ bind-same (f.read s) (λ x. up_to_end f n x.1 >>= λ xs. Some (x.0 ∷ xs.0, xs.1)) (λ x. up_to_end f m x.1 >>= λ xs. Some (x.0 ∷ xs.0, xs.1)) (λ x e.
          let fewer = takes s x.0 x.1 e in
          let a : length x.1.tokens ≤ n = omega arith in
          let b : length x.1.tokens ≤ m = omega arith in
          ap (λ o. o >>= λ xs. Some (x.0 ∷ xs.0, xs.1)) (up_to_end-fuel f takes n m x.1 a b))
          ∙ sym (up_to_end-on f m s on)
    ]

-- ---- a loop over them

some_suc : (n m : ℕ) → n < m → (k : ℕ) × (m ≡ suc k)
some_suc n zero lt = absurd (omega arith)
some_suc n (suc k) lt = (k, refl)

pub up_to_end-more : {A : Type 0} (f : Form A) → TakesTokens f → (front : List A) (s : Rest) (x : A) (s' : Rest) (total : Option (List A × Rest)) → is_over s ≡ false → f.read s ≡ Some (x, s')
    → with_front front (up_to_end f (length s.tokens) s) ≡ total → with_front (front ++ x ∷ []) (up_to_end f (length s'.tokens) s') ≡ total
up_to_end-more f takes front s x s' total on h so_far =
    let fewer = takes s x s' h in
    let k = some_suc (length s'.tokens) (length s.tokens) fewer in
    let enough : length s'.tokens ≤ k.0 = let e = k.1 in omega arith in
    let one : up_to_end f (length s.tokens) s ≡ (up_to_end f k.0 s' >>= λ xs. Some (x ∷ xs.0, xs.1)) = ap (λ n. up_to_end f n s) k.1 ∙ up_to_end-on f k.0 s on ∙ ap (λ o. o >>= λ y. up_to_end f k.0 y.1 >>= λ xs. Some (y.0 ∷ xs.0, xs.1)) h in
    let same : up_to_end f (length s'.tokens) s' ≡ up_to_end f k.0 s' = up_to_end-fuel f takes (length s'.tokens) k.0 s' (omega arith) enough in
    ap (with_front (front ++ x ∷ [])) same ∙ sym (with_front-more front x (up_to_end f k.0 s')) ∙ ap (with_front front) (sym one) ∙ so_far

has_some : (tokens : List (List ℕ)) → has_none tokens ≡ false → (k : ℕ) × (length tokens ≡ suc k)
has_some [] e = absurd cc
has_some (t ∷ ts) e = (length ts, refl)

some-left : (s : Rest) → is_over s ≡ false → (k : ℕ) × (length s.tokens ≡ suc k)
unfolding is_over
some-left s on = has_some s.tokens on

pub up_to_end-none : {A : Type 0} (f : Form A) (front : List A) (s : Rest) (total : Option (List A × Rest)) → is_over s ≡ false → f.read s ≡ None
    → with_front front (up_to_end f (length s.tokens) s) ≡ total → total ≡ None
up_to_end-none f front s total on h so_far =
    let k = some-left s on in
    let one : up_to_end f (length s.tokens) s ≡ None = ap (λ n. up_to_end f n s) k.1 ∙ up_to_end-on f k.0 s on ∙ ap (λ o. o >>= λ y. up_to_end f k.0 y.1 >>= λ xs. Some (y.0 ∷ xs.0, xs.1)) h in
    sym so_far ∙ ap (with_front front) one

pub up_to_end-done : {A : Type 0} (f : Form A) (front : List A) (s : Rest) (total : Option (List A × Rest)) → is_over s ≡ true
    → with_front front (up_to_end f (length s.tokens) s) ≡ total → total ≡ Some (front, s)
up_to_end-done f front s total over so_far =
    sym so_far ∙ ap (with_front front) (up_to_end-over f (length s.tokens) s over) ∙ ap (λ (xs : List _). Some (xs, s)) (append-nil front)

-- ---- which forms take a token

first-shorter : (rule : ℕ) (tokens : List (List ℕ)) (t : List ℕ) (s' : Rest) → first_token rule tokens ≡ Some (t, s') → suc (length s'.tokens) ≡ length tokens
first-shorter rule [] t s' e = absurd cc
first-shorter rule (token ∷ tokens) t s' e =
    let same : record { tokens = tokens; rule = rule } ≡ s' = ap (λ (p : List ℕ × Rest). p.1) (some-is (token, record { tokens = tokens; rule = rule }) (t, s') e) in
    rw (← same) refl

pub token-shorter : (s : Rest) (t : List ℕ) (s' : Rest) → token_at s ≡ Some (t, s') → suc (length s'.tokens) ≡ length s.tokens
unfolding token_at
token-shorter s t s' e = first-shorter s.rule s.tokens t s' e

pub then-takes : {A B : Type 0} (f : Form A) (g : Form B) → TakesTokens f → TakesTokens g → TakesTokens (f ▷ g)
then-takes f g first second s p s' e =
    let x = bind-some (f.read s) (λ x. g.read x.1 >>= λ y. Some ((x.0, y.0), y.1)) (p, s') e in
    let y = bind-some (g.read x.0.1) (λ y. Some ((x.0.0, y.0), y.1)) (p, s') x.2 in
    let same : y.0.1 ≡ s' = ap (λ q. q.1) (some-is ((x.0.0, y.0.0), y.0.1) (p, s') y.2) in
    rw (← same) (omega (arith, first s x.0.0 x.0.1 x.1, second x.0.1 y.0.0 y.0.1 y.1))

skip-shorter : (s : Rest) → length (skip s).tokens ≤ length s.tokens
unfolding skip
skip-shorter s = omega (arith, length-drop 1 s.tokens)

pub after-takes : {A : Type 0} (word : List ℕ) (f : Form A) → TakesTokens f → TakesTokens (after word f)
after-takes word f takes s x s' e =
    let c = test-some (is_at word s) (f.read (skip s)) (x, s') e in
    omega (arith, takes (skip s) x s' c.1, skip-shorter s)

pub used-takes : {A : Type 0} (names : Naming) (pick : Named → Option A) (back : A → Named) (default : A) → TakesTokens (used_name names pick back default)
used-takes names pick back default s x s' e =
    let t = bind-some (token_at s) (λ t. Some (used default (names.find t.0 >>= pick) t.1)) (x, s') e in
    let rest = ap (λ q. q.1.tokens) (some-is (used default (names.find t.0.0 >>= pick) t.0.1) (x, s') t.2) in
    let fewer = token-shorter s t.0.0 t.0.1 t.1 in
    let same : length t.0.1.tokens ≡ length s'.tokens = ap length rest in
    omega arith
