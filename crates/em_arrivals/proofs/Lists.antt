-- Lists of items and of what was sent, and what of it comes to the list of a queue.
use Rattle.std.proofs.Common.{◌≡◌, ℕ, zero, suc, ◌+◌, ◌-◌, ◌≤◌, ◌==◌, Bool, true, false, ◌||◌, List, [], ◌∷◌, ◌++◌, length, take, drop, Option, Some, None, refl, sym, ◌∙◌, subst, ap, if◌then◌else◌, arith}
use Rattle.std.proofs.lemmas.Bool.{or_right}
use Rattle.std.proofs.lemmas.List.{append-nil, append_assoc, length-append, take-append-drop, length-take-le}
use Rattle.std.proofs.Math.Seq.{drop-append_seam}
use Rattle.em_log.specs.declared.declarations.Declarations.{Declarations}
use Rattle.em_log.specs.History.{Past}
use Rattle.em_log.specs.Order.{Sent}
use Rattle.em_log.specs.Arrivals.{Item, item, is_for, with_items, item_of}
use Rattle.em_log.specs.Places.{has_item}
use Rattle.em_laws.proofs.Cores.{Compared, Same, Other, compared}
use Rattle.em_log.specs.declared.ids.Stamp.{Stamp}
use Rattle.em_log.specs.Handles.{Minting}

pub has_item-left : (h : ℕ) (xs ys : List Item) → has_item xs h ≡ true → has_item (xs ++ ys) h ≡ true
has_item-left h [] ys is = absurd cc
has_item-left h (x ∷ xs) ys is = by_test (x.handle == h) is (has_item-left h xs ys)
  where
    by_test : (b : Bool) → (b || has_item xs h) ≡ true → (has_item xs h ≡ true → has_item (xs ++ ys) h ≡ true) → (b || has_item (xs ++ ys) h) ≡ true
    by_test true is later = refl
    by_test false is later = later is

pub has_item-take : (h n : ℕ) (xs : List Item) → has_item (take n xs) h ≡ true → has_item xs h ≡ true
has_item-take h n xs is = subst (λ ys. has_item ys h ≡ true) (take-append-drop n xs) (has_item-left h (take n xs) (drop n xs) is)

pub has_item-right : (h : ℕ) (xs ys : List Item) → has_item ys h ≡ true → has_item (xs ++ ys) h ≡ true
has_item-right h [] ys is = is
has_item-right h (x ∷ xs) ys is = or_right (x.handle == h) (has_item (xs ++ ys) h) (has_item-right h xs ys is)

pub has_item-drop : (h n : ℕ) (xs : List Item) → has_item (drop n xs) h ≡ true → has_item xs h ≡ true
has_item-drop h n xs is = subst (λ ys. has_item ys h ≡ true) (take-append-drop n xs) (has_item-right h (take n xs) (drop n xs) is)

pub data InEither (h : ℕ) (xs ys : List Item) : Type 0 where
  InFirst : has_item xs h ≡ true → InEither h xs ys
  InSecond : has_item ys h ≡ true → InEither h xs ys

pub in-either : (h : ℕ) (xs ys : List Item) → has_item (xs ++ ys) h ≡ true → InEither h xs ys
in-either h [] ys is = InSecond is
in-either h (x ∷ xs) ys is = by_test (x.handle == h) refl is (in-either h xs ys)
  where
    more : InEither h xs ys → InEither h (x ∷ xs) ys
    more (InFirst f) = InFirst (or_right (x.handle == h) (has_item xs h) f)
    more (InSecond s) = InSecond s

    by_test : (b : Bool) → (x.handle == h) ≡ b → (b || has_item (xs ++ ys) h) ≡ true → (has_item (xs ++ ys) h ≡ true → InEither h xs ys) → InEither h (x ∷ xs) ys
    by_test true own is later = InFirst (rw own refl)
    by_test false own is later = more (later is)

drop-nothing : {A : Type 0} (n : ℕ) (xs : List A) → xs ≡ [] → drop n xs ≡ []
drop-nothing zero xs is = is
drop-nothing (suc n) xs is = rw is refl

pub drop-more : {A : Type 0} (g n : ℕ) (xs : List A) → drop n (drop g xs) ≡ drop (g + n) xs
drop-more zero n xs = ap (λ i. drop i xs) (omega arith)
drop-more (suc g) n [] = drop-nothing n (drop (suc g) []) refl ∙ sym (drop-nothing (suc g + n) [] refl)
drop-more (suc g) n (x ∷ xs) = let e : suc (g + n) ≡ suc g + n = omega arith in drop-more g n xs ∙ ap (λ i. drop i (x ∷ xs)) e

-- what was taken last and what follows it are what waits when it is given back
pub giving-back : {A : Type 0} (S T L : List A) (g : ℕ) → S ++ T ≡ take g L → g ≤ length L → T ++ drop g L ≡ drop (g - length T) L
giving-back S T L g e h =
    let size : length S + length T ≡ g = sym (length-append S T) ∙ ap length e ∙ length-take-le g L h in
    let less : g - length T ≡ length S = omega (arith, size) in
    let whole : L ≡ S ++ (T ++ drop g L) = sym (take-append-drop g L) ∙ ap (λ xs. xs ++ drop g L) (sym e) ∙ append_assoc S T (drop g L) in
    sym (ap (λ n. drop n L) less ∙ (ap (drop (length S)) whole ∙ drop-append_seam S (T ++ drop g L)))

-- what comes to a list

abbrev pub came : Declarations → Past → ℕ → ℕ → List Sent → List Item
came k past q c [] = []
came k past q c (s ∷ ss) = (if is_for k q c s.queue s.core then item past s else []) ++ came k past q c ss

pub with-came : (k : Declarations) (past : Past) (q c : ℕ) (xs : List Item) (ss : List Sent) → with_items k past q c xs ss ≡ xs ++ came k past q c ss
with-came k past q c xs [] = sym (append-nil xs)
with-came k past q c xs (s ∷ ss) = with-came k past q c (if is_for k q c s.queue s.core then xs ++ item past s else xs) ss ∙ by_test (is_for k q c s.queue s.core)
  where
    by_test : (b : Bool) → (if b then xs ++ item past s else xs) ++ came k past q c ss ≡ xs ++ ((if b then item past s else []) ++ came k past q c ss)
    by_test true = append_assoc xs (item past s) (came k past q c ss)
    by_test false = refl

abbrev pub AllSent : (Sent → Type 0) → List Sent → Type 0
AllSent P [] = Unit {0}
AllSent P (s ∷ ss) = P s × AllSent P ss

pub all-append : (P : Sent → Type 0) (xs ys : List Sent) → AllSent P xs → AllSent P ys → AllSent P (xs ++ ys)
all-append P [] ys a b = b
all-append P (x ∷ xs) ys a b = (a.0, all-append P xs ys a.1 b)

pub all-map : (P Q : Sent → Type 0) (xs : List Sent) → ((s : Sent) → P s → Q s) → AllSent P xs → AllSent Q xs
all-map P Q [] f a = tt
all-map P Q (x ∷ xs) f a = (f x a.0, all-map P Q xs f a.1)

pub item-handle : (h f : ℕ) (st : Option Stamp) (o : Option Minting) → has_item (item_of f st o) h ≡ true → f ≡ h
item-handle h f st None is = absurd cc
item-handle h f st (Some m) is = by_test (compared f h) is
  where
    by_test : Compared f h → ((f == h) || false) ≡ true → f ≡ h
    by_test (Same t e) is = e
    by_test (Other t e) is = absurd (cc (rw t at is))
