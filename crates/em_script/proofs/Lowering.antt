-- Reading never raises the least rule that has failed.
use Rattle.std.proofs.Common.{◌≡◌, ℕ, zero, suc, ◌+◌, ◌≤◌, Bool, true, false, cond, List, [], ◌∷◌, length, leb, Some, None, Option, refl, sym, ap, arith}
use Rattle.std.specs.Prelude.{is_none, is_some, codes}
use Rattle.em_log.specs.Names.{is_name}
use Rattle.em_log.specs.declared.ids.Kind.{Kind}
use Rattle.em_log.specs.declared.ids.Kind.TheVariants as kinds
use Rattle.em_script.specs.declared.line.Line.{Line}
use Rattle.em_script.specs.declared.line.Membership.{Membership}
use Rattle.em_script.specs.declared.line.Membership.TheVariants as memberships
use Rattle.em_script.specs.declared.named.Named.{Named}
use Rattle.em_script.specs.declared.named.Named.TheVariants as named
use Rattle.em_script.specs.declared.phase.Phase.{Phase}
use Rattle.em_script.specs.declared.phase.Phase.TheVariants as phases
use Rattle.em_script.specs.declared.symbol.Symbol.{Symbol}
use Rattle.em_script.specs.declared.words.TopWord.{TopWord}
use Rattle.em_script.specs.declared.words.TopWord.TheVariants as top
use Rattle.em_script.specs.declared.words.BodyWord.{BodyWord}
use Rattle.em_script.specs.declared.words.BodyWord.TheVariants as body
use Rattle.em_script.specs.Lines.{Rest, tokens}
use Rattle.em_script.specs.Names.{Naming, reading, as_pool, as_group, as_eo, as_agroup, as_queue, as_egroup}
use Rattle.em_script.specs.Numerals.{is_digits, is_within, value}
use Rattle.em_script.specs.Form.{◌>>=◌, Form, given, token_at, lowered, judged, used, used_name, declared_name, new_name, is_at, is_over, is_followed, skip, ◌▷◌, after, flag, lookup, one_of, number, read_number, number_of, variable, variable_of, up_to_end, several, limited, pool_name, group_name, eo_name, agroup_name, queue_name, egroup_name}
use Rattle.em_script.specs.Form.{ended as nothing_left}
use Rattle.em_script.specs.Expressions.{expression, read_expression, read_symbols, symbol_of, places_of, is_well, expression_of}
use Rattle.em_script.specs.Words.{part, kind, priority, top_word, body_word, part_words, part_text, kind_words, kind_text, priority_words, priority_text, top_words, top_text, body_words, body_text}
use Rattle.em_script.specs.Declarations.{cores_form, pool_form, group_form, eo_form, agroup_form, egroup_form, body_form, membership, atomic_form, grouped_form, local_form, queue_behind, read_queue, top_line_behind, read_top_line, may_stand}
use Rattle.em_script.specs.Statements.{note, notes, value_form, set_form, repeat_form, cell_form, alloc_form, send_form, sendg_form, claim_form, dequeue_form, queue_form, apply_form, abort_form, start_form, modify_form, body_line_behind, read_body_line}
use Rattle.em_script.specs.State.{State}
use Rattle.em_script.specs.Judging.{read_by_phase, may_else}
use Rattle.em_script.proofs.Binds.{some-is, bind-some, test-some, cond-some}
use Rattle.em_script.proofs.Forms.{skip-well}
use Rattle.em_script.proofs.Judgments.{Said}
use Rattle.em_script.proofs.PlacesRead.{token-rule}

abbrev pub Lowers : {A : Type 0} → Form A → Type 0
Lowers {A} f = (s : Rest) (x : A) (s' : Rest) → f.read s ≡ Some (x, s') → s'.rule ≤ s.rule

lowered-most : (rule : ℕ) (good : Bool) (least : ℕ) → lowered rule good least ≤ least
lowered-most rule true least = omega arith
lowered-most rule false least = omega arith

-- the rest of what was read is the rest
rest-is : {A : Type 0} (x y : A) (r s' : Rest) → ◌≡◌ {A = Option (A × Rest)} (Some (x, r)) (Some (y, s')) → s'.rule ≡ r.rule
rest-is x y r s' e = ap (λ (p : _ × Rest). p.1.rule) (sym (some-is (x, r) (y, s') e))

then-lowers : {A B : Type 0} (f : Form A) (g : Form B) → Lowers f → Lowers g → Lowers (f ▷ g)
then-lowers f g a b s p s' e =
    let x = bind-some (f.read s) (λ x. g.read x.1 >>= λ y. Some ((x.0, y.0), y.1)) (p, s') e in
    let y = bind-some (g.read x.0.1) (λ y. Some ((x.0.0, y.0), y.1)) (p, s') x.2 in
    let same = rest-is (x.0.0, y.0.0) p y.0.1 s' y.2 in
    let first = a s x.0.0 x.0.1 x.1 in
    let second = b x.0.1 y.0.0 y.0.1 y.1 in
    omega arith

ended-lowers : Lowers nothing_left
ended-lowers s x s' e = let c = cond-some (is_over s) (tt, s) (x, s') e in let same : s'.rule ≡ s.rule = ap (λ (p : Unit {0} × Rest). p.1.rule) (sym c.1) in omega arith

number_of-lowers : (low high : ℕ) (token : List ℕ) (s : Rest) (n : ℕ) (s' : Rest) → number_of low high token s ≡ Some (n, s') → s'.rule ≤ s.rule
unfolding number_of
number_of-lowers low high token s n s' e =
    let c = cond-some (is_digits token) (cond (is_within low high token) (value token) 0, judged 6 (is_within low high token) s) (n, s') e in
    let same : s'.rule ≡ lowered 6 (is_within low high token) s.rule = ap (λ (p : ℕ × Rest). p.1.rule) (sym c.1) in
    let most = lowered-most 6 (is_within low high token) s.rule in
    omega arith

number-lowers : (low high : ℕ) → Lowers (number low high)
unfolding read_number
number-lowers low high s n s' e =
    let t = bind-some (token_at s) (λ t. number_of low high t.0 t.1) (n, s') e in
    let first = token-rule s t.0.0 t.0.1 t.1 in
    let second = number_of-lowers low high t.0.0 t.0.1 n s' t.2 in
    omega arith

variable-lowers : Lowers variable
variable-lowers s v s' e =
    let t = bind-some (token_at s) (λ t. variable_of t.0 >>= λ v. Some (v, t.1)) (v, s') e in
    let x = bind-some (variable_of t.0.0) (λ v. Some (v, t.0.1)) (v, s') t.2 in
    let same = rest-is x.0 v t.0.1 s' x.2 in
    let first = token-rule s t.0.0 t.0.1 t.1 in
    omega arith

one_of-lowers : {A : Type 0} (table : List (List ℕ × A)) (word : A → List ℕ) → Lowers (one_of table word)
one_of-lowers table word s v s' e =
    let t = bind-some (token_at s) (λ t. lookup t.0 table >>= λ x. Some (x, t.1)) (v, s') e in
    let x = bind-some (lookup t.0.0 table) (λ x. Some (x, t.0.1)) (v, s') t.2 in
    let same = rest-is x.0 v t.0.1 s' x.2 in
    let first = token-rule s t.0.0 t.0.1 t.1 in
    omega arith

new_name-lowers : (names : Naming) → Lowers (new_name names)
new_name-lowers names s v s' e =
    let t = bind-some (token_at s) (λ t. Some (declared_name names t.0 t.1)) (v, s') e in
    let a = is_name t.0.0 in
    let b = is_none (names.find t.0.0) in
    let same : s'.rule ≡ lowered 4 b (lowered 3 a t.0.1.rule) = ap (λ (p : List ℕ × Rest). p.1.rule) (sym (some-is (declared_name names t.0.0 t.0.1) (v, s') t.2)) in
    let first = token-rule s t.0.0 t.0.1 t.1 in
    let second = lowered-most 3 a t.0.1.rule in
    let third = lowered-most 4 b (lowered 3 a t.0.1.rule) in
    omega arith

used-lowers : {A : Type 0} (names : Naming) (pick : Named → Option A) (back : A → Named) (default : A) → Lowers (used_name names pick back default)
used-lowers names pick back default s v s' e =
    let t = bind-some (token_at s) (λ t. Some (used default (names.find t.0 >>= pick) t.1)) (v, s') e in
    let found = names.find t.0.0 >>= pick in
    let same : s'.rule ≡ lowered 5 (is_some found) t.0.1.rule = ap (λ (p : _ × Rest). p.1.rule) (sym (some-is (used default found t.0.1) (v, s') t.2)) in
    let first = token-rule s t.0.0 t.0.1 t.1 in
    let second = lowered-most 5 (is_some found) t.0.1.rule in
    omega arith

pool_name-lowers : (names : Naming) → Lowers (pool_name names)
pool_name-lowers names = used-lowers names as_pool (λ id. named.Pool id) (record { 0 = 0 })

group_name-lowers : (names : Naming) → Lowers (group_name names)
group_name-lowers names = used-lowers names as_group (λ id. named.Group id) (record { 0 = 0 })

eo_name-lowers : (names : Naming) → Lowers (eo_name names)
eo_name-lowers names = used-lowers names as_eo (λ id. named.Eo id) (record { 0 = 0 })

agroup_name-lowers : (names : Naming) → Lowers (agroup_name names)
agroup_name-lowers names = used-lowers names as_agroup (λ n. named.Agroup n) (0)

queue_name-lowers : (names : Naming) → Lowers (queue_name names)
queue_name-lowers names = used-lowers names as_queue (λ id. named.Queue id) (record { 0 = 0 })

egroup_name-lowers : (names : Naming) → Lowers (egroup_name names)
egroup_name-lowers names = used-lowers names as_egroup (λ id. named.Egroup id) (record { 0 = 0 })

flag-by : (b : Bool) (s : Rest) (x : Bool) (s' : Rest) → ◌≡◌ {A = Option (Bool × Rest)} (cond b (Some (true, skip s)) (Some (false, s))) (Some (x, s')) → s'.rule ≤ s.rule
flag-by true s x s' e = let same = rest-is true x (skip s) s' e in let skipped = skip-well s in omega arith
flag-by false s x s' e = let same = rest-is false x s s' e in omega arith

flag-lowers : (word : List ℕ) → Lowers (flag word)
flag-lowers word s x s' e = flag-by (is_at word s) s x s' e

after-lowers : {A : Type 0} (word : List ℕ) (f : Form A) → Lowers f → Lowers (after word f)
after-lowers word f a s x s' e =
    let c = test-some (is_at word s) (f.read (skip s)) (x, s') e in
    let first = a (skip s) x s' c.1 in
    let skipped = skip-well s in
    omega arith

given-lowers : {A B : Type 0} (to : A → B) (f : Form A) → Lowers f → (s : Rest) (l : B) (s' : Rest) → given to (f.read s) ≡ Some (l, s') → s'.rule ≤ s.rule
given-lowers to f a s l s' e = given-by to (f.read s) l s' (λ x r h. a s x r h) e
  where
    given-by : {A B : Type 0} (to : A → B) {k : ℕ} (read : Option (A × Rest)) (l : B) (s' : Rest) → ((x : A) (r : Rest) → read ≡ Some (x, r) → r.rule ≤ k) → given to read ≡ Some (l, s') → s'.rule ≤ k
    given-by to None l s' h e = absurd cc
    given-by to {k} (Some x) l s' h e = let same = rest-is (to x.0) l x.1 s' e in let le = h x.0 x.1 refl in omega arith

member-by : (names : Naming) (b : Bool) (s : Rest) (x : Membership) (s' : Rest) → cond b (given (λ a. memberships.Agroup a) ((agroup_name names).read (skip s))) (given (λ g. memberships.Group g) ((group_name names).read s)) ≡ Some (x, s') → s'.rule ≤ s.rule
member-by names true s x s' e =
    let first = given-lowers (λ a. memberships.Agroup a) (agroup_name names) (agroup_name-lowers names) (skip s) x s' e in
    let skipped = skip-well s in
    omega arith
member-by names false s x s' e = given-lowers (λ g. memberships.Group g) (group_name names) (group_name-lowers names) s x s' e

membership-lowers : (names : Naming) → Lowers (membership names)
membership-lowers names s x s' e = member-by names (is_followed (codes "in") s) s x s' e

symbols-lowers : (ts : List (List ℕ)) (n rule : ℕ) (ss : List Symbol) (s' : Rest) → read_symbols n ts rule ≡ Some (ss, s') → s'.rule ≤ rule
unfolding read_symbols
symbols-lowers [] zero rule ss s' e = let same = rest-is [] ss (record { tokens = []; rule = rule }) s' e in omega arith
symbols-lowers (t ∷ ts) zero rule ss s' e = let same = rest-is [] ss (record { tokens = t ∷ ts; rule = rule }) s' e in omega arith
symbols-lowers [] (suc n) rule ss s' e = absurd cc
symbols-lowers (t ∷ ts) (suc n) rule ss s' e =
    let low = lowered 6 (is_well t) rule in
    let x = bind-some (symbol_of t) (λ s. read_symbols (places_of s + n) ts low >>= λ ss. Some (s ∷ ss.0, ss.1)) (ss, s') e in
    let y = bind-some (read_symbols (places_of x.0 + n) ts low) (λ ss. Some (x.0 ∷ ss.0, ss.1)) (ss, s') x.2 in
    let same = rest-is (x.0 ∷ y.0.0) ss y.0.1 s' y.2 in
    let first = symbols-lowers ts (places_of x.0 + n) low y.0.0 y.0.1 y.1 in
    let most = lowered-most 6 (is_well t) rule in
    omega arith

expression-lowers : Lowers expression
unfolding read_expression
expression-lowers s x s' e =
    let ss = bind-some (read_symbols 1 s.tokens s.rule) (λ ss. Some (expression_of ss.0, judged 10 (leb (length ss.0) 32) ss.1)) (x, s') e in
    let same = rest-is (expression_of ss.0.0) x (judged 10 (leb (length ss.0.0) 32) ss.0.1) s' ss.2 in
    let first = symbols-lowers s.tokens 1 s.rule ss.0.0 ss.0.1 ss.1 in
    let most = lowered-most 10 (leb (length ss.0.0) 32) ss.0.1.rule in
    omega arith

over-or : {A : Type 0} (b : Bool) (s : Rest) (o : Option (List A × Rest)) (xs : List A) (s' : Rest) → cond b (Some ([], s)) o ≡ Some (xs, s') → (o ≡ Some (xs, s') → s'.rule ≤ s.rule) → s'.rule ≤ s.rule
over-or true s o xs s' e h = let same = rest-is [] xs s s' e in omega arith
over-or false s o xs s' e h = h e

up_to_end-lowers : {A : Type 0} (f : Form A) → Lowers f → (n : ℕ) (s : Rest) (xs : List A) (s' : Rest) → up_to_end f n s ≡ Some (xs, s') → s'.rule ≤ s.rule
unfolding up_to_end
up_to_end-lowers f a zero s xs s' e = over-or (is_over s) s None xs s' e (λ n. absurd cc)
up_to_end-lowers f a (suc n) s xs s' e =
    over-or (is_over s) s (f.read s >>= λ x. up_to_end f n x.1 >>= λ ys. Some (x.0 ∷ ys.0, ys.1)) xs s' e (λ h.
    let x = bind-some (f.read s) (λ x. up_to_end f n x.1 >>= λ ys. Some (x.0 ∷ ys.0, ys.1)) (xs, s') h in
    let y = bind-some (up_to_end f n x.0.1) (λ ys. Some (x.0.0 ∷ ys.0, ys.1)) (xs, s') x.2 in
    let same = rest-is (x.0.0 ∷ y.0.0) xs y.0.1 s' y.2 in
    let first = a s x.0.0 x.0.1 x.1 in
    let second = up_to_end-lowers f a n x.0.1 y.0.0 y.0.1 y.1 in
    omega arith)

several-lowers : {A : Type 0} (f : Form A) → Lowers f → Lowers (several f)
several-lowers f a s xs s' e = up_to_end-lowers f a (length s.tokens) s xs s' e

limited-lowers : {A : Type 0} (most : ℕ) (f : Form (List A)) → Lowers f → Lowers (limited most f)
limited-lowers most f a s xs s' e =
    let x = bind-some (f.read s) (λ ys. Some (ys.0, judged 10 (leb (length ys.0) most) ys.1)) (xs, s') e in
    let same = rest-is x.0.0 xs (judged 10 (leb (length x.0.0) most) x.0.1) s' x.2 in
    let first = a s x.0.0 x.0.1 x.1 in
    let low = lowered-most 10 (leb (length x.0.0) most) x.0.1.rule in
    omega arith

-- ---- the forms of lines

note-lowers : (names : Naming) → Lowers (note names)
note-lowers names = after-lowers (codes "note") (expression ▷ queue_name names) (then-lowers (expression) (queue_name names) (expression-lowers) (queue_name-lowers names))

notes-lowers : (names : Naming) → Lowers (notes names)
notes-lowers names = limited-lowers 8 (several (note names)) (several-lowers (note names) (note-lowers names))

cores-law : Lowers cores_form
cores-law = then-lowers (number 1 8) (nothing_left) (number-lowers 1 8) (ended-lowers)

pool-law : (names : Naming) → Lowers (pool_form names)
pool-law names = then-lowers (new_name names) (number 1 4096 ▷ number 0 16 ▷ nothing_left) (new_name-lowers names) (then-lowers (number 1 4096) (number 0 16 ▷ nothing_left) (number-lowers 1 4096) (then-lowers (number 0 16) (nothing_left) (number-lowers 0 16) (ended-lowers)))

eo-law : (names : Naming) → Lowers (eo_form names)
eo-law names = then-lowers (new_name names) (flag (codes "running") ▷ nothing_left) (new_name-lowers names) (then-lowers (flag (codes "running")) (nothing_left) (flag-lowers (codes "running")) (ended-lowers))

agroup-law : (names : Naming) → Lowers (agroup_form names)
agroup-law names = then-lowers (new_name names) (group_name names ▷ nothing_left) (new_name-lowers names) (then-lowers (group_name names) (nothing_left) (group_name-lowers names) (ended-lowers))

egroup-law : (names : Naming) → Lowers (egroup_form names)
egroup-law names = then-lowers (new_name names) (nothing_left) (new_name-lowers names) (ended-lowers)

body-law : (names : Naming) → Lowers (body_form names)
body-law names = then-lowers (eo_name names) (part ▷ nothing_left) (eo_name-lowers names) (then-lowers (part) (nothing_left) (one_of-lowers part_words part_text) (ended-lowers))

atomic-law : (names : Naming) → Lowers (atomic_form names)
atomic-law names = then-lowers (eo_name names) (priority ▷ membership names ▷ nothing_left) (eo_name-lowers names) (then-lowers (priority) (membership names ▷ nothing_left) (one_of-lowers priority_words priority_text) (then-lowers (membership names) (nothing_left) (membership-lowers names) (ended-lowers)))

grouped-law : (names : Naming) → Lowers (grouped_form names)
grouped-law names = then-lowers (eo_name names) (priority ▷ group_name names ▷ nothing_left) (eo_name-lowers names) (then-lowers (priority) (group_name names ▷ nothing_left) (one_of-lowers priority_words priority_text) (then-lowers (group_name names) (nothing_left) (group_name-lowers names) (ended-lowers)))

local-law : (names : Naming) → Lowers (local_form names)
local-law names = then-lowers (eo_name names) (priority ▷ nothing_left) (eo_name-lowers names) (then-lowers (priority) (nothing_left) (one_of-lowers priority_words priority_text) (ended-lowers))

value-law : Lowers value_form
value-law = then-lowers (expression) (nothing_left) (expression-lowers) (ended-lowers)

set-law : Lowers set_form
set-law = then-lowers (variable) (expression ▷ nothing_left) (variable-lowers) (then-lowers (expression) (nothing_left) (expression-lowers) (ended-lowers))

repeat-law : Lowers repeat_form
repeat-law = then-lowers (number 1 256) (nothing_left) (number-lowers 1 256) (ended-lowers)

cell-law : Lowers cell_form
cell-law = then-lowers (expression) (expression ▷ nothing_left) (expression-lowers) (then-lowers (expression) (nothing_left) (expression-lowers) (ended-lowers))

alloc-law : (names : Naming) → Lowers (alloc_form names)
alloc-law names = then-lowers (variable) (pool_name names ▷ expression ▷ limited 16 (several expression)) (variable-lowers) (then-lowers (pool_name names) (expression ▷ limited 16 (several expression)) (pool_name-lowers names) (then-lowers (expression) (limited 16 (several expression)) (expression-lowers) (limited-lowers 16 (several expression) (several-lowers expression expression-lowers))))

send-law : (names : Naming) → Lowers (send_form names)
send-law names = then-lowers (expression) (queue_name names ▷ nothing_left) (expression-lowers) (then-lowers (queue_name names) (nothing_left) (queue_name-lowers names) (ended-lowers))

sendg-law : (names : Naming) → Lowers (sendg_form names)
sendg-law names = then-lowers (expression) (queue_name names ▷ egroup_name names ▷ nothing_left) (expression-lowers) (then-lowers (queue_name names) (egroup_name names ▷ nothing_left) (queue_name-lowers names) (then-lowers (egroup_name names) (nothing_left) (egroup_name-lowers names) (ended-lowers)))

claim-law : Lowers claim_form
claim-law = then-lowers (variable) (nothing_left) (variable-lowers) (ended-lowers)

dequeue-law : (names : Naming) → Lowers (dequeue_form names)
dequeue-law names = then-lowers (variable) (queue_name names ▷ nothing_left) (variable-lowers) (then-lowers (queue_name names) (nothing_left) (queue_name-lowers names) (ended-lowers))

queue-law : (names : Naming) → Lowers (queue_form names)
queue-law names = then-lowers (queue_name names) (nothing_left) (queue_name-lowers names) (ended-lowers)

apply-law : (names : Naming) → Lowers (apply_form names)
apply-law names = then-lowers (egroup_name names) (expression ▷ notes names) (egroup_name-lowers names) (then-lowers (expression) (notes names) (expression-lowers) (notes-lowers names))

abort-law : (names : Naming) → Lowers (abort_form names)
abort-law names = then-lowers (egroup_name names) (nothing_left) (egroup_name-lowers names) (ended-lowers)

start-law : (names : Naming) → Lowers (start_form names)
start-law names = then-lowers (eo_name names) (notes names) (eo_name-lowers names) (notes-lowers names)

modify-law : (names : Naming) → Lowers (modify_form names)
modify-law names = then-lowers (group_name names) (expression ▷ notes names) (group_name-lowers names) (then-lowers (expression) (notes names) (expression-lowers) (notes-lowers names))

group-law : (names : Naming) (cores : ℕ) → Lowers (group_form names cores)
group-law names cores = then-lowers (new_name names) (number 1 _ ▷ nothing_left) (new_name-lowers names) (then-lowers (number 1 _) nothing_left (number-lowers 1 _) ended-lowers)

queue-lowers : (names : Naming) (name : List ℕ) (k : Kind) (s : Rest) (l : Line) (s' : Rest) → queue_behind names name k s ≡ Some (l, s') → s'.rule ≤ s.rule
unfolding queue_behind
queue-lowers names name kinds.Atomic s l s' e = given-lowers _ (atomic_form names) (atomic-law names) s l s' e
queue-lowers names name kinds.Parallel s l s' e = given-lowers _ (grouped_form names) (grouped-law names) s l s' e
queue-lowers names name kinds.Ordered s l s' e = given-lowers _ (grouped_form names) (grouped-law names) s l s' e
queue-lowers names name kinds.Local s l s' e = given-lowers _ (local_form names) (local-law names) s l s' e
queue-lowers names name kinds.Unscheduled s l s' e = given-lowers _ nothing_left ended-lowers s l s' e
queue-lowers names name kinds.Output s l s' e = given-lowers _ nothing_left ended-lowers s l s' e

read_queue-lowers : (names : Naming) (s : Rest) (l : Line) (s' : Rest) → read_queue names s ≡ Some (l, s') → s'.rule ≤ s.rule
unfolding read_queue
read_queue-lowers names s l s' e =
    let x = bind-some ((new_name names).read s) (λ name. kind.read name.1 >>= λ k. queue_behind names name.0 k.0 k.1) (l, s') e in
    let y = bind-some (kind.read x.0.1) (λ k. queue_behind names x.0.0 k.0 k.1) (l, s') x.2 in
    let first = new_name-lowers names s x.0.0 x.0.1 x.1 in
    let second = one_of-lowers kind_words kind_text x.0.1 y.0.0 y.0.1 y.1 in
    let third = queue-lowers names x.0.0 y.0.0 y.0.1 l s' y.2 in
    omega arith

top-lowers : (names : Naming) (cores : ℕ) (w : TopWord) (s : Rest) (l : Line) (s' : Rest) → top_line_behind names cores w s ≡ Some (l, s') → s'.rule ≤ s.rule
unfolding top_line_behind
top-lowers names cores top.Cores s l s' e = given-lowers _ cores_form cores-law s l s' e
top-lowers names cores top.Pool s l s' e = given-lowers _ (pool_form names) (pool-law names) s l s' e
top-lowers names cores top.Group s l s' e = given-lowers _ (group_form names cores) (group-law names cores) s l s' e
top-lowers names cores top.Eo s l s' e = given-lowers _ (eo_form names) (eo-law names) s l s' e
top-lowers names cores top.Agroup s l s' e = given-lowers _ (agroup_form names) (agroup-law names) s l s' e
top-lowers names cores top.Queue s l s' e = read_queue-lowers names s l s' e
top-lowers names cores top.Egroup s l s' e = given-lowers _ (egroup_form names) (egroup-law names) s l s' e
top-lowers names cores top.Boot s l s' e = given-lowers _ nothing_left ended-lowers s l s' e
top-lowers names cores top.Error s l s' e = given-lowers _ nothing_left ended-lowers s l s' e
top-lowers names cores top.Body s l s' e = given-lowers _ (body_form names) (body-law names) s l s' e
top-lowers names cores top.Done s l s' e = given-lowers _ nothing_left ended-lowers s l s' e

read_top-lowers : (names : Naming) (cores : ℕ) (phase : Phase) (s : Rest) (l : Line) (s' : Rest) → read_top_line names cores phase s ≡ Some (l, s') → s'.rule ≤ s.rule
unfolding read_top_line
read_top-lowers names cores phase s l s' e =
    let w = bind-some (top_word.read s) (λ w. cond (may_stand phase w.0) (top_line_behind names cores w.0 w.1) None) (l, s') e in
    let c = test-some (may_stand phase w.0.0) (top_line_behind names cores w.0.0 w.0.1) (l, s') w.2 in
    let first = one_of-lowers top_words top_text s w.0.0 w.0.1 w.1 in
    let second = top-lowers names cores w.0.0 w.0.1 l s' c.1 in
    omega arith

body-lowers : (names : Naming) (may : Bool) (w : BodyWord) (s : Rest) (l : Line) (s' : Rest) → body_line_behind names may w s ≡ Some (l, s') → s'.rule ≤ s.rule
unfolding body_line_behind
body-lowers names may body.Set s l s' e = given-lowers _ (set_form) (set-law) s l s' e
body-lowers names may body.If s l s' e = given-lowers _ (value_form) (value-law) s l s' e
body-lowers names may body.Repeat s l s' e = given-lowers _ (repeat_form) (repeat-law) s l s' e
body-lowers names may body.Cell s l s' e = given-lowers _ (cell_form) (cell-law) s l s' e
body-lowers names may body.Say s l s' e = given-lowers _ (value_form) (value-law) s l s' e
body-lowers names may body.Alloc s l s' e = given-lowers _ (alloc_form names) (alloc-law names) s l s' e
body-lowers names may body.Free s l s' e = given-lowers _ (value_form) (value-law) s l s' e
body-lowers names may body.Keep s l s' e = given-lowers _ (value_form) (value-law) s l s' e
body-lowers names may body.Send s l s' e = given-lowers _ (send_form names) (send-law names) s l s' e
body-lowers names may body.SendG s l s' e = given-lowers _ (sendg_form names) (sendg-law names) s l s' e
body-lowers names may body.Claim s l s' e = given-lowers _ (claim_form) (claim-law) s l s' e
body-lowers names may body.Dequeue s l s' e = given-lowers _ (dequeue_form names) (dequeue-law names) s l s' e
body-lowers names may body.Enable s l s' e = given-lowers _ (queue_form names) (queue-law names) s l s' e
body-lowers names may body.Disable s l s' e = given-lowers _ (queue_form names) (queue-law names) s l s' e
body-lowers names may body.Apply s l s' e = given-lowers _ (apply_form names) (apply-law names) s l s' e
body-lowers names may body.Increment s l s' e = given-lowers _ (value_form) (value-law) s l s' e
body-lowers names may body.Abort s l s' e = given-lowers _ (abort_form names) (abort-law names) s l s' e
body-lowers names may body.Start s l s' e = given-lowers _ (start_form names) (start-law names) s l s' e
body-lowers names may body.Stop s l s' e = given-lowers _ (start_form names) (start-law names) s l s' e
body-lowers names may body.Modify s l s' e = given-lowers _ (modify_form names) (modify-law names) s l s' e
body-lowers names may body.End s l s' e = given-lowers _ nothing_left ended-lowers s l s' e
body-lowers names may body.EndAtomic s l s' e = given-lowers _ nothing_left ended-lowers s l s' e
body-lowers names may body.EndOrdered s l s' e = given-lowers _ nothing_left ended-lowers s l s' e
body-lowers names may body.EndGroup s l s' e = given-lowers _ nothing_left ended-lowers s l s' e
body-lowers names may body.Fail s l s' e = given-lowers _ nothing_left ended-lowers s l s' e
body-lowers names true body.Else s l s' e = given-lowers _ nothing_left ended-lowers s l s' e
body-lowers names false body.Else s l s' e = absurd cc

read_body-lowers : (names : Naming) (may : Bool) (s : Rest) (l : Line) (s' : Rest) → read_body_line names may s ≡ Some (l, s') → s'.rule ≤ s.rule
unfolding read_body_line
read_body-lowers names may s l s' e =
    let w = bind-some (body_word.read s) (λ w. body_line_behind names may w.0 w.1) (l, s') e in
    let first = one_of-lowers body_words body_text s w.0.0 w.0.1 w.1 in
    let second = body-lowers names may w.0.0 w.0.1 l s' w.2 in
    omega arith

phase-lowers : (p : Phase) (s : State) (rest : Rest) (l : Line) (s' : Rest) → read_by_phase p s rest ≡ Some (l, s') → s'.rule ≤ rest.rule
phase-lowers phases.First s rest l s' e = read_top-lowers (reading s.table) s.graph.cores phases.First rest l s' e
phase-lowers phases.Declarations s rest l s' e = read_top-lowers (reading s.table) s.graph.cores phases.Declarations rest l s' e
phase-lowers phases.Bodies s rest l s' e = read_top-lowers (reading s.table) s.graph.cores phases.Bodies rest l s' e
phase-lowers phases.Done s rest l s' e = read_top-lowers (reading s.table) s.graph.cores phases.Done rest l s' e
phase-lowers (phases.Body p) s rest l s' e = read_body-lowers (reading s.table) (may_else s.nest) rest l s' e

-- no rule of names and numbers has failed in a line that is said
pub said-met : (s : State) (bytes : List ℕ) (l : Line) (said : Said s bytes l) → said.rest.rule ≡ 12
said-met s bytes l said =
    let most = phase-lowers s.phase s (record { tokens = tokens bytes; rule = 12 }) l said.rest said.read in
    let rule = said.rule in
    omega arith
