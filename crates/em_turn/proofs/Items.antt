-- Lists of items by their numbers, and what goes on from what was seen.
use Rattle.std.proofs.Common.{◌≡◌, ◌⊎◌, ℕ, suc, ◌+◌, ◌<◌, ◌≤◌, cond, Bool, List, [], ◌∷◌, ◌++◌, length, refl, sym, ap, ◌∙◌, subst, inl, inr, ⊎_elim, arith, append_assoc, lt-ltb, le-ltb}
use mathlib.Core.Logic.{dite}
use native.Mathlib.Decide.{dec_le}
use Rattle.em_log.specs.Items.{LogItem, number_of}
use Rattle.em_turn.specs.Numbers.{In, NoneOf, OnlyOf, Below, Claim, claim, After, longer}
use Rattle.em_turn.specs.Views.{nothing}

pub none_nil : (xs : List LogItem) → NoneOf [] xs
none_nil [] = tt
none_nil (x ∷ xs) = ((λ h. h), none_nil xs)

pub none_append : (ns : List ℕ) (xs ys : List LogItem) → NoneOf ns xs → NoneOf ns ys → NoneOf ns (xs ++ ys)
none_append ns [] ys a b = b
none_append ns (x ∷ xs) ys a b = (a.0, none_append ns xs ys a.1 b)

pub none_within : (ns ms : List ℕ) (xs : List LogItem) → ((n : ℕ) → In n ms → In n ns) → NoneOf ns xs → NoneOf ms xs
none_within ns ms [] within a = tt
none_within ns ms (x ∷ xs) within a = ((λ h. a.0 (within (number_of x) h)), none_within ns ms xs within a.1)

pub only_none : (ns ms : List ℕ) (xs : List LogItem) → ((n : ℕ) → In n ns → In n ms → ⊥) → OnlyOf ns xs → NoneOf ms xs
only_none ns ms [] apart a = tt
only_none ns ms (x ∷ xs) apart a = ((λ h. apart (number_of x) a.0 h), only_none ns ms xs apart a.1)

pub below_append : (p : ℕ) (ns : List ℕ) (xs ys : List LogItem) → Below p xs → OnlyOf ns ys → ((n : ℕ) → In n ns → n + p < 65) → Below p (xs ++ ys)
below_append p ns [] [] a b small = tt
below_append p ns [] (y ∷ ys) a b small = (small (number_of y) b.0, below_append p ns [] ys tt b.1 small)
below_append p ns (x ∷ xs) ys a b small = (a.0, below_append p ns xs ys a.1 b small)

pub after_more : (log added : List LogItem) (c : Claim) → After log c → NoneOf c.numbers added → After (log ++ added) c
after_more log added c a none = (a.0 ++ added, ap (λ (l : List LogItem). l ++ added) a.1 ∙ append_assoc c.seen a.0 added, none_append c.numbers a.0 added a.2 none)

pub after_nothing : (log : List LogItem) → After log nothing
after_nothing log = (log, refl, none_nil log)

pub none_suffix : (ns : List ℕ) (xs ys : List LogItem) → NoneOf ns (xs ++ ys) → NoneOf ns ys
none_suffix ns [] ys a = a
none_suffix ns (x ∷ xs) ys a = none_suffix ns xs ys a.1

pub none_prefix : (ns : List ℕ) (xs ys : List LogItem) → NoneOf ns (xs ++ ys) → NoneOf ns xs
none_prefix ns [] ys a = tt
none_prefix ns (x ∷ xs) ys a = (a.0, none_prefix ns xs ys a.1)

pub in_either : (n : ℕ) (ns ms : List ℕ) → In n (ns ++ ms) → In n ns ⊎ In n ms
in_either n [] ms h = inr h
in_either n (k ∷ ns) ms h = ⊎_elim (λ e. inl (inl e)) (λ t. ⊎_elim (λ a. inl (inr a)) (λ b. inr b) (in_either n ns ms t)) h

pub in_first : (n : ℕ) (ns ms : List ℕ) → In n ns → In n (ns ++ ms)
in_first n [] ms h = absurd h
in_first n (k ∷ ns) ms h = ⊎_elim (λ e. inl e) (λ t. inr (in_first n ns ms t)) h

pub in_second : (n : ℕ) (ns ms : List ℕ) → In n ms → In n (ns ++ ms)
in_second n [] ms h = h
in_second n (k ∷ ns) ms h = inr (in_second n ns ms h)

pub none_both : (ns ms : List ℕ) (xs : List LogItem) → NoneOf ns xs → NoneOf ms xs → NoneOf (ns ++ ms) xs
none_both ns ms [] a b = tt
none_both ns ms (x ∷ xs) a b = ((λ h. ⊎_elim a.0 b.0 (in_either (number_of x) ns ms h)), none_both ns ms xs a.1 b.1)

pub below_suffix : (p : ℕ) (xs ys : List LogItem) → Below p (xs ++ ys) → Below p ys
below_suffix p [] ys a = a
below_suffix p (x ∷ xs) ys a = below_suffix p xs ys a.1

pub below_less : (p q : ℕ) (xs : List LogItem) → q ≤ p → Below p xs → Below q xs
below_less p q [] le a = tt
below_less p q (x ∷ xs) le a = let h = a.0 in (omega arith, below_less p q xs le a.1)

pub below_none : (p k : ℕ) (xs : List LogItem) → k + p ≡ 65 → Below p xs → NoneOf (k ∷ []) xs
below_none p k [] e a = tt
below_none p k (x ∷ xs) e a = let h = a.0 in ((λ t. ⊎_elim (λ (f : (number_of x) ≡ k). omega arith) (λ g. g) t), below_none p k xs e a.1)

abbrev head_or : LogItem → List LogItem → LogItem
head_or d [] = d
head_or d (x ∷ xs) = x

abbrev tail_of : List LogItem → List LogItem
tail_of [] = []
tail_of (x ∷ xs) = xs

-- of two beginnings of one list the shorter opening_keeps the longer
pub longer_has : (xs ys cs bs : List LogItem) → xs ++ cs ≡ ys ++ bs → length xs ≤ length ys → (mid : List LogItem) × (ys ≡ xs ++ mid) × (cs ≡ mid ++ bs)
longer_has [] ys cs bs e le = (ys, refl, e)
longer_has (x ∷ xs) [] cs bs e le = absurd (omega arith)
longer_has (x ∷ xs) (y ∷ ys) cs bs e le = let r = longer_has xs ys cs bs (ap tail_of e) (omega arith) in
    (r.0, (λ i. sym (ap (head_or x) e) i ∷ r.1 i), r.2)

pub fresh : (n p : ℕ) (ns : List ℕ) → n + p ≡ 65 → ((m : ℕ) → In m ns → m + p < 65) → (m : ℕ) → In m (n ∷ []) → In m ns → ⊥
fresh n p ns sum small m a b = ⊎_elim (λ (e : m ≡ n). let h = small m b in omega arith) (λ z. z) a

pub has_zero : (ns : List ℕ) → ns ≡ 0 ∷ [] → In 0 ns
has_zero ns e = subst (In 0) (sym e) (inl refl)

pub after_join : (log : List LogItem) (a b : Claim) → After log a → After log b
    → After log (claim (a.numbers ++ b.numbers) (longer a.seen b.seen)) × (length a.seen ≤ length (longer a.seen b.seen)) × (length b.seen ≤ length (longer a.seen b.seen))
after_join log a b x y = let xs = a.seen in let ys = b.seen in
    let F : Bool → Type 0 = λ t. After log (claim (a.numbers ++ b.numbers) (cond t ys xs)) × (length xs ≤ length (cond t ys xs)) × (length ys ≤ length (cond t ys xs)) in
    dite (dec_le (suc (length xs)) (length ys))
    (λ lt. let r = longer_has xs ys x.0 y.0 (sym x.1 ∙ y.1) (omega arith) in
    subst F (sym (lt-ltb (length xs) (length ys) lt))
    ((y.0, y.1, none_both a.numbers b.numbers y.0 (none_suffix a.numbers r.0 y.0 (subst (NoneOf a.numbers) r.2 x.2)) y.2), omega arith, omega arith))
    (λ no. let le : length ys ≤ length xs = omega arith in let r = longer_has ys xs y.0 x.0 (sym y.1 ∙ x.1) le in
    subst F (sym (le-ltb (length xs) (length ys) le))
    ((x.0, x.1, none_both a.numbers b.numbers x.0 x.2 (none_suffix b.numbers r.0 x.0 (subst (NoneOf b.numbers) r.2 y.2))), omega arith, omega arith))

pub after_check : (log : List LogItem) (own c : Claim) → After log own → After log c → length c.seen ≤ length own.seen → After own.seen c
after_check log own c x y le = let r = longer_has c.seen own.seen y.0 x.0 (sym y.1 ∙ x.1) le in (r.0, r.1, none_prefix c.numbers r.0 x.0 (subst (NoneOf c.numbers) r.2 y.2))
