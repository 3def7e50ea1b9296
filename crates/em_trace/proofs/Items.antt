-- Reading so many items, one after the other.
use Rattle.em_trace.specs.Forms.{u64_form, queue_form, note_form}
use Rattle.std.proofs.Common.{Bool, true, false, cond, length, ◌≡◌, ℕ, zero, suc, ◌+◌, ◌-◌, ◌<◌, ◌≤◌, List, [], ◌∷◌, ◌++◌, Option, Some, None, refl, sym, ap, ◌∙◌, arith, append_assoc, append-nil}
use Rattle.std.proofs.Common.{eqb, leb}
use Rattle.em_trace.proofs.Binds.{some-is, bind-none, bind-some, cond-some, test-some, given-some}
use Rattle.em_trace.specs.Line.{Rest}
use Rattle.em_trace.specs.Form.{◌>>=◌, Form, given, items, number, read_number, number_of, token_at, first_token, marked, read_marked, number_behind, ◌▷◌, mapped, is_digits, is_well, value, judged, read_count, HasNoCount}

-- what is read behind a front that has been read
abbrev pub with_front : {A : Type 0} → List A → Option (List A × Rest) → Option (List A × Rest)
with_front front read = given (λ xs. front ++ xs) read

regroup : {A : Type 0} (front : List A) (x : A) (read : Option (List A × Rest)) → with_front front (read >>= λ xs. Some (x ∷ xs.0, xs.1)) ≡ with_front (front ++ x ∷ []) read
regroup front x None = refl
regroup front x (Some xs) = ap (λ (ys : List _). Some (ys, xs.1)) (sym (append_assoc front (x ∷ []) xs.0))

pub items-more : {A : Type 0} (f : Form A) (front : List A) (count i : ℕ) (s : Rest) (x : A) (s' : Rest) (total : Option (List A × Rest)) → i < count → f.read s ≡ Some (x, s') → with_front front (items f (count - i) s) ≡ total → with_front (front ++ x ∷ []) (items f (count - (i + 1)) s') ≡ total
unfolding items
items-more f front count i s x s' total lt h so_far =
    let k : count - i ≡ suc (count - (i + 1)) = omega arith in
    let one : with_front front (items f (count - i) s) ≡ with_front (front ++ x ∷ []) (items f (count - (i + 1)) s') = rw (k, h) (regroup front x (items f (count - (i + 1)) s')) in
    sym one ∙ so_far

pub items-none : {A : Type 0} (f : Form A) (front : List A) (count i : ℕ) (s : Rest) (total : Option (List A × Rest)) → i < count → f.read s ≡ None → with_front front (items f (count - i) s) ≡ total → total ≡ None
unfolding items
items-none f front count i s total lt h so_far =
    let k : count - i ≡ suc (count - (i + 1)) = omega arith in
    let one : with_front front (items f (count - i) s) ≡ None = rw (k, h) refl in
    sym so_far ∙ one

pub items-done : {A : Type 0} (f : Form A) (front : List A) (count i : ℕ) (s : Rest) (total : Option (List A × Rest)) → count ≤ i → with_front front (items f (count - i) s) ≡ total → total ≡ Some (front, s)
unfolding items
items-done f front count i s total le so_far =
    let k : count - i ≡ 0 = omega arith in
    let one : with_front front (items f (count - i) s) ≡ Some (front, s) = rw k (ap (λ (xs : List _). Some (xs, s)) (append-nil front)) in
    sym so_far ∙ one

-- ---- more items than tokens

-- each one takes a token
abbrev pub TakesTokens : {A : Type 0} → Form A → Type 0
TakesTokens {A} f = (s : Rest) (x : A) (s' : Rest) → f.read s ≡ Some (x, s') → length s'.tokens < length s.tokens

pub items-short : {A : Type 0} (f : Form A) → TakesTokens f → (n : ℕ) (s : Rest) → length s.tokens < n → items f n s ≡ None
unfolding items
items-short f takes zero s lt = absurd (omega arith)
items-short f takes (suc n) s lt =
    bind-none (f.read s) (λ x. items f n x.1 >>= λ xs. Some (x.0 ∷ xs.0, xs.1)) (λ x e.
    let fewer : length x.1.tokens < n = omega (arith, takes s x.0 x.1 e) in
    rw (items-short f takes n x.1 fewer) refl)

token-shorter : (well : Bool) (tokens : List (List ℕ)) (t : List ℕ) (s' : Rest) → first_token well tokens ≡ Some (t, s') → length s'.tokens < length tokens
token-shorter well [] t s' e = absurd cc
token-shorter well (token ∷ tokens) t s' e =
    let same : record { tokens = tokens; well = well } ≡ s' = ap (λ (p : List ℕ × Rest). p.1) (some-is (token, record { tokens = tokens; well = well }) (t, s') e) in
    rw (← same) (omega arith)

pub number_of-rest : (max : ℕ) (token : List ℕ) (s : Rest) (n : ℕ) (s' : Rest) → number_of max token s ≡ Some (n, s') → judged (is_well max token) s ≡ s'
unfolding number_of
number_of-rest max token s n s' e =
    let c = cond-some (is_digits token) (cond (is_well max token) (value token) 0, judged (is_well max token) s) (n, s') e in
    ap (λ (p : ℕ × Rest). p.1) c.1

pub number-takes : (max : ℕ) → TakesTokens (number max)
unfolding read_number token_at
number-takes max s n s' e =
    let t = bind-some (token_at s) (λ t. number_of max t.0 t.1) (n, s') e in
    rw (← number_of-rest max t.0.0 t.0.1 n s' t.2) (token-shorter s.well s.tokens t.0.0 t.0.1 t.1)

behind-rest : (mark max : ℕ) (token : List ℕ) (s : Rest) (n : ℕ) (s' : Rest) → number_behind mark max token s ≡ Some (n, s') → s.tokens ≡ s'.tokens
behind-rest mark max [] s n s' e = absurd cc
behind-rest mark max (c ∷ digits) s n s' e =
    let t = test-some (eqb c mark) (number_of max digits s) (n, s') e in
    ap (λ r. r.tokens) (number_of-rest max digits s n s' t.1)

pub marked-takes : (mark max : ℕ) → TakesTokens (marked mark max)
unfolding read_marked token_at
marked-takes mark max s n s' e =
    let t = bind-some (token_at s) (λ t. number_behind mark max t.0 t.1) (n, s') e in
    rw (← behind-rest mark max t.0.0 t.0.1 n s' t.2) (token-shorter s.well s.tokens t.0.0 t.0.1 t.1)

pub mapped-takes : {A B : Type 0} (to : A → B) (back : B → A) (f : Form A) → TakesTokens f → TakesTokens (mapped to back f)
mapped-takes to back f takes s y s' e =
    let g = given-some to (f.read s) y s' e in
    takes s g.0 s' g.1

pub then-takes : {A B : Type 0} (f : Form A) (g : Form B) → TakesTokens f → TakesTokens g → TakesTokens (f ▷ g)
then-takes f g first second s p s' e =
    let x = bind-some (f.read s) (λ x. g.read x.1 >>= λ y. Some ((x.0, y.0), y.1)) (p, s') e in
    let y = bind-some (g.read x.0.1) (λ y. Some ((x.0.0, y.0), y.1)) (p, s') x.2 in
    let same : y.0.1 ≡ s' = ap (λ q. q.1) (some-is ((x.0.0, y.0.0), y.0.1) (p, s') y.2) in
    rw (← same) (omega (arith, first s x.0.0 x.0.1 x.1, second x.0.1 y.0.0 y.0.1 y.1))

pub note-takes : TakesTokens note_form
note-takes =
    let queue : TakesTokens queue_form = mapped-takes (λ n. record { 0 = n }) (λ id. id.0) (marked 113 65535) (marked-takes 113 65535) in
    mapped-takes (λ p. record { word = p.0; queue = p.1 }) (λ n. (n.word, n.queue)) (u64_form ▷ queue_form) (then-takes u64_form queue_form (number-takes 18446744073709551615) queue)

-- ---- in the words of a count

-- the items behind a count, at most max
abbrev pub counted_read : {A : Type 0} → ℕ → Form A → Option (ℕ × Rest) → Option (List A × Rest)
counted_read max f read = read >>= λ n. items f n.0 n.1 >>= λ xs. Some (cond (leb n.0 max) xs.0 [], xs.1)

pub counted-none : {A : Type 0} (max : ℕ) (f : Form A) → TakesTokens f → (read : Option (ℕ × Rest)) → HasNoCount read → counted_read max f read ≡ None
counted-none max f takes None h = refl
counted-none max f takes (Some n) h = rw (items-short f takes n.0 n.1 h) refl

none-either-way : {A : Type 0} (b : Bool) → ◌≡◌ {A = Option A} (cond b None None) None
none-either-way true = refl
none-either-way false = refl

pub counted-none-at : {A : Type 0} (max : ℕ) (f : Form A) → TakesTokens f → (taken at : Bool) (line new skipped : Rest) → taken ≡ true → new ≡ cond taken skipped line → HasNoCount (read_count max new) → cond at (counted_read max f (read_count max skipped)) None ≡ None
counted-none-at max f takes taken at line new skipped is-taken rest h =
    let same : new ≡ skipped = rw is-taken at rest in
    let none : counted_read max f (read_count max skipped) ≡ None = counted-none max f takes (read_count max skipped) (rw same at h) in
    rw none (none-either-way at)
