-- The lists of queues: what arrives joins the end, and a queue that is not local has one list for all cores.
use Rattle.std.proofs.Common.{◌≡◌, ℕ, ◌+◌, ◌-◌, ◌≤◌, ◌==◌, Bool, true, false, not, ◌||◌, List, [], ◌∷◌, ◌++◌, length, map, take, drop, Option, Some, None, refl, sym, ◌∙◌, subst, ap, if◌then◌else◌, arith}
use Rattle.std.specs.Option.{option_map_or}
use Rattle.std.proofs.lemmas.List.{append-nil, append_assoc, map-append, length-map, length-append, take-append-le, take-append-drop, length-take-le}
use Rattle.std.proofs.Math.Seq.{take-append_seam}
use Rattle.em_log.specs.declared.declarations.Declarations.{Declarations}
use Rattle.em_log.specs.declared.entry.Entry.{Entry}
use Rattle.em_log.specs.declared.entry.What.{What}
use Rattle.em_log.specs.History.{Past}
use Rattle.em_log.specs.Declarations.{kind_of, is_local}
use Rattle.em_log.specs.Contexts.{receives_from}
use Rattle.em_log.specs.Order.{Sent}
use Rattle.em_log.specs.Arrivals.{Item, item, is_for, entering, with_items, arrivals}
use Rattle.em_log.specs.Places.{gone, gone_after, waiting}
use Rattle.em_log.specs.Laws.{Shown, shown_item}
use Rattle.em_moments.proofs.Asked.{and-true}
use Rattle.em_laws.proofs.Cores.{eqb-eq}

pub grows-by : (k : Declarations) (past : Past) (q c : ℕ) (items : List Item) (ss : List Sent) → (ys : List Item) × (with_items k past q c items ss ≡ items ++ ys)
grows-by k past q c items [] = ([], sym (append-nil items))
grows-by k past q c items (s ∷ ss) = by_test (is_for k q c s.queue s.core) (grows-by k past q c items ss) (grows-by k past q c (items ++ item past s) ss)
  where
    by_test : (b : Bool) → (ys : List Item) × (with_items k past q c items ss ≡ items ++ ys) → (ys : List Item) × (with_items k past q c (items ++ item past s) ss ≡ (items ++ item past s) ++ ys)
        → (ys : List Item) × (with_items k past q c (if b then items ++ item past s else items) ss ≡ items ++ ys)
    by_test true stay more = (item past s ++ more.0, more.1 ∙ append_assoc items (item past s) more.0)
    by_test false stay more = stay

-- what arrives joins the end
pub arrivals-grow : (k : Declarations) (past : Past) (e : Entry) (q c : ℕ) → (ys : List Item) × (arrivals k (e ∷ past) q c ≡ arrivals k past q c ++ ys)
arrivals-grow k past e q c = grows-by k past q c (arrivals k past q c) (entering k past e)

front-append : (n : ℕ) (xs ys : List Item) → n ≤ length xs → take n (map shown_item (xs ++ ys)) ≡ take n (map shown_item xs)
front-append n xs ys h =
    let fits : n ≤ length (map shown_item xs) = rw length-map h in
    ap (take n) (map-append shown_item xs ys) ∙ take-append-le n (map shown_item xs) (map shown_item ys) fits

-- the first arrivals stay the first
pub record FrontKept (k : Declarations) (past : Past) (e : Entry) (q c n : ℕ) : Type 0 where
  pub front : take n (map shown_item (arrivals k (e ∷ past) q c)) ≡ take n (map shown_item (arrivals k past q c))
  pub bound : n ≤ length (arrivals k (e ∷ past) q c)

pub front-kept : (k : Declarations) (past : Past) (e : Entry) (q c n : ℕ) → n ≤ length (arrivals k past q c) → FrontKept k past e q c n
front-kept k past e q c n h =
    let g = arrivals-grow k past e q c in
    let longer : n ≤ length (arrivals k past q c ++ g.0) = rw length-append (omega (arith, h)) in
    record {
      front = ap (λ xs. take n (map shown_item xs)) g.1 ∙ front-append n (arrivals k past q c) g.0 h;
      bound = subst (λ xs. n ≤ length xs) (sym g.1) longer;
    }

-- what is given back leaves the others first
pub without-last : (starts ts L : List Shown) (gone : ℕ) → starts ++ ts ≡ take gone L → gone ≤ length L → starts ++ [] ≡ take (gone - length ts) L
without-last starts ts L gone e h =
    let size : length starts + length ts ≡ gone = sym (length-append starts ts) ∙ ap length e ∙ length-take-le gone L h in
    let less : gone - length ts ≡ length starts = omega (arith, size) in
    let whole : L ≡ starts ++ (ts ++ drop gone L) = sym (take-append-drop gone L) ∙ ap (λ xs. xs ++ drop gone L) (sym e) ∙ append_assoc starts ts (drop gone L) in
    append-nil starts ∙ sym (ap (λ n. take n L) less ∙ ap (take (length starts)) whole ∙ take-append_seam starts (ts ++ drop gone L))

-- one list for all cores

is_for-same : (k : Declarations) (q c b r d : ℕ) → is_local (kind_of k q) ≡ false → is_for k q c r d ≡ is_for k q b r d
is_for-same k q c b r d plain = rw plain refl

with_items-same : (k : Declarations) (past : Past) (q c b : ℕ) (xs : List Item) (ss : List Sent) → is_local (kind_of k q) ≡ false → with_items k past q c xs ss ≡ with_items k past q b xs ss
with_items-same k past q c b xs [] plain = refl
with_items-same k past q c b xs (s ∷ ss) plain =
    rw (is_for-same k q c b s.queue s.core plain) (with_items-same k past q c b (if is_for k q b s.queue s.core then xs ++ item past s else xs) ss plain)

pub arrivals-same : (k : Declarations) (past : Past) (q c b : ℕ) → is_local (kind_of k q) ≡ false → arrivals k past q c ≡ arrivals k past q b
arrivals-same k [] q c b plain = refl
arrivals-same k (e ∷ past) q c b plain =
    ap (λ xs. with_items k past q c xs (entering k past e)) (arrivals-same k past q c b plain) ∙ with_items-same k past q c b (arrivals k past q b) (entering k past e) plain

gone_after-same : (k : Declarations) (past : Past) (q c b d : ℕ) (w : What) (n : ℕ) → is_local (kind_of k q) ≡ false → gone_after k past q c d w n ≡ gone_after k past q b d w n
gone_after-same k past q c b d (What.Take r m t) n plain = rw (is_for-same k q c b r.0 d plain) refl
gone_after-same k past q c b d (What.Untake r m) n plain = rw (is_for-same k q c b r.0 d plain) refl
gone_after-same k past q c b d (What.EndAtomic rest cells) n plain = by_queue (receives_from past d)
  where
    by_queue : (o : Option ℕ) → (if option_map_or (λ r. is_for k q c r d) o false then n - rest else n) ≡ (if option_map_or (λ r. is_for k q b r d) o false then n - rest else n)
    by_queue None = refl
    by_queue (Some r) = rw (is_for-same k q c b r d plain) refl
gone_after-same k past q c b d (What.Dequeue r None) n plain = refl
gone_after-same k past q c b d (What.Dequeue r (Some e)) n plain = rw (is_for-same k q c b r.0 d plain) refl
gone_after-same k past q c b d w n plain = refl

gone-same : (k : Declarations) (past : Past) (q c b : ℕ) → is_local (kind_of k q) ≡ false → gone k past q c ≡ gone k past q b
gone-same k [] q c b plain = refl
gone-same k (e ∷ past) q c b plain =
    ap (λ n. gone_after k past q c e.core.0 e.what n) (gone-same k past q c b plain) ∙ gone_after-same k past q c b e.core.0 e.what (gone k past q b) plain

-- a list's queue is that of its items
pub for-queue : (k : Declarations) (q c r d : ℕ) → is_for k q c r d ≡ true → r ≡ q
for-queue k q c r d h = eqb-eq r q (and-true (r == q) (not (is_local (kind_of k q)) || (d == c)) h).0

-- what a core sees waiting in its list
pub waiting-for : (k : Declarations) (past : Past) (q c d : ℕ) → is_for k q c q d ≡ true → waiting k past q d ≡ waiting k past q c
waiting-for k past q c d h = by_kind (is_local (kind_of k q)) refl (and-true (q == q) (not (is_local (kind_of k q)) || (d == c)) h).1
  where
    by_kind : (b : Bool) → is_local (kind_of k q) ≡ b → (not b || (d == c)) ≡ true → waiting k past q d ≡ waiting k past q c
    by_kind true is same = ap (λ n. waiting k past q n) (eqb-eq d c same)
    by_kind false is same = ap (λ n. drop n (arrivals k past q d)) (gone-same k past q d c is) ∙ ap (λ xs. drop (gone k past q c) xs) (arrivals-same k past q d c is)
