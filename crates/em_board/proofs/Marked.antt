-- Items as a history, and the items of one core.
use Rattle.std.proofs.Common.{◌≡◌, inl, ⊎_elim, ℕ, suc, ◌≤◌, ◌<◌, ◌==◌, Bool, true, false, nat_le, List, [], ◌∷◌, ◌++◌, length, Option, Some, None, IfSome, is_some, refl, sym, ap, ◌∙◌, subst, arith, append_assoc, append-nil, le-leb, leb-true, ne_eqb, eq-eqb, if◌then◌else◌}
use Rattle.em_log.specs.declared.entry.Entry.{Entry}
use Rattle.em_log.specs.declared.ids.CoreId.{CoreId}
use Rattle.em_log.specs.History.{Past, onto, part}
use Rattle.em_log.specs.Items.{LogItem, Logged, Halted, number_of}
use Rattle.em_turn.specs.Numbers.{NoneOf, OnlyOf}
use Rattle.em_board.specs.declared.shared_desk.Mark.{Mark}
use Rattle.em_board.specs.Marked.{entries, history, is_marked, items_of, logged, shown}

-- histories

pub entries-append : (xs ys : List LogItem) → entries (xs ++ ys) ≡ entries xs ++ entries ys
entries-append [] ys = refl
entries-append (Logged e ∷ xs) ys = ap (λ (l : List Entry). e ∷ l) (entries-append xs ys)
entries-append (Halted c ∷ xs) ys = entries-append xs ys

pub onto-append : (es fs : List Entry) (past : Past) → onto (es ++ fs) past ≡ onto fs (onto es past)
onto-append [] fs past = refl
onto-append (e ∷ es) fs past = onto-append es fs (e ∷ past)

pub history-append : (xs ys : List LogItem) → history (xs ++ ys) ≡ onto (entries ys) (history xs)
history-append xs ys = ap (λ (l : List Entry). onto l []) (entries-append xs ys) ∙ onto-append (entries xs) (entries ys) []

pub entries-logged : (es : List Entry) → entries (logged es) ≡ es
entries-logged [] = refl
entries-logged (e ∷ es) = ap (λ (l : List Entry). e ∷ l) (entries-logged es)

pub marked-append : (xs ys : List LogItem) → is_marked (xs ++ ys) ≡ (if is_marked xs then true else is_marked ys)
marked-append [] ys = refl
marked-append (Logged e ∷ xs) ys = marked-append xs ys
marked-append (Halted c ∷ xs) ys = refl

-- what is shown

pub history-shown : (past : Past) (m : Option Mark) → history (shown past m) ≡ past
history-shown [] None = refl
history-shown [] (Some m) = refl
history-shown (e ∷ past) None = history-append (shown past None) (Logged e ∷ []) ∙ ap (λ (h : Past). e ∷ h) (history-shown past None)
history-shown (e ∷ past) (Some m) = by_test (nat_le m.place (length past)) (history-shown past (Some m)) (history-shown past None)
  where
    by_test : (b : Bool) → history (shown past (Some m)) ≡ past → history (shown past None) ≡ past
        → history (if b then shown past (Some m) ++ Logged e ∷ [] else shown past None ++ Logged e ∷ Halted m.core ∷ []) ≡ e ∷ past
    by_test true with without = history-append (shown past (Some m)) (Logged e ∷ []) ∙ ap (λ (h : Past). e ∷ h) with
    by_test false with without = history-append (shown past None) (Logged e ∷ Halted m.core ∷ []) ∙ ap (λ (h : Past). e ∷ h) without

pub marked-shown : (past : Past) (m : Option Mark) → is_marked (shown past m) ≡ is_some m
marked-shown [] None = refl
marked-shown [] (Some m) = refl
marked-shown (e ∷ past) None = marked-append (shown past None) (Logged e ∷ []) ∙ ap (λ (b : Bool). if b then true else false) (marked-shown past None)
marked-shown (e ∷ past) (Some m) = by_test (nat_le m.place (length past)) (marked-shown past (Some m)) (marked-shown past None)
  where
    by_test : (b : Bool) → is_marked (shown past (Some m)) ≡ true → is_marked (shown past None) ≡ false
        → is_marked (if b then shown past (Some m) ++ Logged e ∷ [] else shown past None ++ Logged e ∷ Halted m.core ∷ []) ≡ true
    by_test true with without = marked-append (shown past (Some m)) (Logged e ∷ []) ∙ ap (λ (b : Bool). if b then true else false) with
    by_test false with without = marked-append (shown past None) (Logged e ∷ Halted m.core ∷ []) ∙ ap (λ (b : Bool). if b then true else true) without

pub shown-one : (m : Option Mark) (e : Entry) (past : Past) → IfSome m (λ x. x.place ≤ length past) → shown (e ∷ past) m ≡ shown past m ++ Logged e ∷ []
shown-one None e past h = refl
shown-one (Some m) e past h =
    subst (λ (b : Bool). (if b then shown past (Some m) ++ Logged e ∷ [] else shown past None ++ Logged e ∷ Halted m.core ∷ []) ≡ shown past (Some m) ++ Logged e ∷ [])
    (sym (le-leb m.place (length past) h)) refl

later : (m : Option Mark) (e : Entry) (past : Past) → IfSome m (λ x. x.place ≤ length past) → IfSome m (λ x. x.place ≤ length (e ∷ past))
later None e past h = h
later (Some m) e past h = omega arith

-- a mark stays where it is while the history grows
pub shown-grows : (m : Option Mark) (es : List Entry) (past : Past) → IfSome m (λ x. x.place ≤ length past) → shown (onto es past) m ≡ shown past m ++ logged es
shown-grows m [] past h = sym (append-nil (shown past m))
shown-grows m (e ∷ es) past h =
    shown-grows m es (e ∷ past) (later m e past h) ∙ ap (λ (l : List LogItem). l ++ logged es) (shown-one m e past h) ∙ append_assoc (shown past m) (Logged e ∷ []) (logged es)

pub longer-place : (m : Option Mark) (es : List Entry) (past : Past) → IfSome m (λ x. x.place ≤ length past) → IfSome m (λ x. x.place ≤ length (onto es past))
longer-place m [] past h = h
longer-place m (e ∷ es) past h = longer-place m es (e ∷ past) (later m e past h)

pub shown-marked : (c : CoreId) (past : Past) → shown past (Some (record { core = c; place = length past })) ≡ shown past None ++ Halted c ∷ []
shown-marked c [] = refl
shown-marked c (e ∷ past) =
    let m : Mark = record { core = c; place = suc (length past) } in
    subst (λ (b : Bool). (if b then shown past (Some m) ++ Logged e ∷ [] else shown past None ++ Logged e ∷ Halted c ∷ []) ≡ shown past None ++ Logged e ∷ Halted c ∷ [])
    (sym (above (length past))) refl
    ∙ sym (append_assoc (shown past None) (Logged e ∷ []) (Halted c ∷ []))
  where
    above : (n : ℕ) → nat_le (suc n) n ≡ false
    above n = by_test (nat_le (suc n) n) refl
      where
        by_test : (b : Bool) → nat_le (suc n) n ≡ b → b ≡ false
        by_test false e = refl
        by_test true e = let h = leb-true (suc n) n e in absurd (omega arith)

-- items of one core

either-way : (b : Bool) (x : LogItem) (zs xs ys : List LogItem) → zs ≡ xs ++ ys → (if b then x ∷ zs else zs) ≡ (if b then x ∷ xs else xs) ++ ys
either-way true x zs xs ys e = ap (λ (l : List LogItem). x ∷ l) e
either-way false x zs xs ys e = e

pub items-append : (c : ℕ) (xs ys : List LogItem) → items_of c (xs ++ ys) ≡ items_of c xs ++ items_of c ys
items-append c [] ys = refl
items-append c (x ∷ xs) ys = either-way (number_of x == c) x (items_of c (xs ++ ys)) (items_of c xs) (items_of c ys) (items-append c xs ys)

pub items-none : (c : ℕ) (xs : List LogItem) → NoneOf (c ∷ []) xs → items_of c xs ≡ []
items-none c [] none = refl
items-none c (x ∷ xs) none = subst (λ (b : Bool). (if b then x ∷ items_of c xs else items_of c xs) ≡ []) (sym (ne_eqb (number_of x) c (λ e. none.0 (inl e)))) (items-none c xs none.1)

pub items-only : (c : ℕ) (xs : List LogItem) → OnlyOf (c ∷ []) xs → items_of c xs ≡ xs
items-only c [] only = refl
items-only c (x ∷ xs) only =
    let same : number_of x ≡ c = ⊎_elim (λ e. e) (λ z. absurd z) only.0 in
    subst (λ (b : Bool). (if b then x ∷ items_of c xs else items_of c xs) ≡ x ∷ xs) (sym (eq-eqb (number_of x) c same)) (ap (λ (l : List LogItem). x ∷ l) (items-only c xs only.1))

pub items-after : (c : ℕ) (seen rest log : List LogItem) → log ≡ seen ++ rest → NoneOf (c ∷ []) rest → items_of c log ≡ items_of c seen
items-after c seen rest log e none = ap (items_of c) e ∙ items-append c seen rest ∙ ap (λ (l : List LogItem). items_of c seen ++ l) (items-none c rest none) ∙ append-nil (items_of c seen)

-- the part of one core

abbrev own : ℕ → List Entry → List Entry
own c [] = []
own c (e ∷ es) = if e.core.0 == c then e ∷ own c es else own c es

part-onto : (c : ℕ) (es : List Entry) (past : Past) → part (onto es past) c ≡ onto (own c es) (part past c)
part-onto c [] past = refl
part-onto c (e ∷ es) past = part-onto c es (e ∷ past) ∙ by_test (e.core.0 == c)
  where
    by_test : (b : Bool) → onto (own c es) (if b then e ∷ part past c else part past c) ≡ onto (if b then e ∷ own c es else own c es) (part past c)
    by_test true = refl
    by_test false = refl

entries-own : (c : ℕ) (xs : List LogItem) → entries (items_of c xs) ≡ own c (entries xs)
entries-own c [] = refl
entries-own c (Logged e ∷ xs) = by_test (e.core.0 == c) (entries-own c xs)
  where
    by_test : (b : Bool) → entries (items_of c xs) ≡ own c (entries xs)
        → entries (if b then Logged e ∷ items_of c xs else items_of c xs) ≡ (if b then e ∷ own c (entries xs) else own c (entries xs))
    by_test true h = ap (λ (l : List Entry). e ∷ l) h
    by_test false h = h
entries-own c (Halted d ∷ xs) = by_test (d.0 == c) (entries-own c xs)
  where
    by_test : (b : Bool) → entries (items_of c xs) ≡ own c (entries xs)
        → entries (if b then Halted d ∷ items_of c xs else items_of c xs) ≡ own c (entries xs)
    by_test true h = h
    by_test false h = h

pub part-history : (c : ℕ) (xs : List LogItem) → part (history xs) c ≡ history (items_of c xs)
part-history c xs = part-onto c (entries xs) [] ∙ ap (λ (l : List Entry). onto l []) (sym (entries-own c xs))

-- a mark stands among the items of its core

marked-first : (c : ℕ) (xs ys : List LogItem) → is_marked (items_of c xs) ≡ true → is_marked (items_of c (xs ++ ys)) ≡ true
marked-first c xs ys m = ap is_marked (items-append c xs ys) ∙ marked-append (items_of c xs) (items_of c ys) ∙ ap (λ (b : Bool). if b then true else is_marked (items_of c ys)) m

marked-second : (c : ℕ) (xs ys : List LogItem) → is_marked (items_of c ys) ≡ true → is_marked (items_of c (xs ++ ys)) ≡ true
marked-second c xs ys m = ap is_marked (items-append c xs ys) ∙ marked-append (items_of c xs) (items_of c ys) ∙ by_test (is_marked (items_of c xs)) m
  where
    by_test : (b : Bool) → is_marked (items_of c ys) ≡ true → (if b then true else is_marked (items_of c ys)) ≡ true
    by_test true e = refl
    by_test false e = e

marked-alone : (c : CoreId) (b : Bool) → b ≡ true → is_marked (if b then Halted c ∷ [] else []) ≡ true
marked-alone c true e = refl
marked-alone c false e = absurd (cc e)

marked-pair : (c : CoreId) (e : Entry) (b : Bool) → is_marked (items_of c.0 (Halted c ∷ [])) ≡ true → is_marked (if b then Logged e ∷ items_of c.0 (Halted c ∷ []) else items_of c.0 (Halted c ∷ [])) ≡ true
marked-pair c e true m = m
marked-pair c e false m = m

pub mark-owned : (past : Past) (m : Mark) → is_marked (items_of m.core.0 (shown past (Some m))) ≡ true
mark-owned [] m = marked-alone m.core (m.core.0 == m.core.0) (eq-eqb m.core.0 m.core.0 refl)
mark-owned (e ∷ past) m = by_test (nat_le m.place (length past)) (mark-owned past m)
  where
    by_test : (b : Bool) → is_marked (items_of m.core.0 (shown past (Some m))) ≡ true
        → is_marked (items_of m.core.0 (if b then shown past (Some m) ++ Logged e ∷ [] else shown past None ++ Logged e ∷ Halted m.core ∷ [])) ≡ true
    by_test true h = marked-first m.core.0 (shown past (Some m)) (Logged e ∷ []) h
    by_test false h = marked-second m.core.0 (shown past None) (Logged e ∷ Halted m.core ∷ []) (marked-pair m.core e (e.core.0 == m.core.0) (marked-alone m.core (m.core.0 == m.core.0) (eq-eqb m.core.0 m.core.0 refl)))

-- who halted is one of the cores
pub marked-by : (past : Past) (m : Option Mark) (n : ℕ) → IfSome m (λ x. x.core.0 < n) → is_marked (shown past m) ≡ true → (d : ℕ) × (d < n) × (is_marked (items_of d (shown past m)) ≡ true)
marked-by past None n h e = absurd (cc (e, marked-shown past None))
marked-by past (Some m) n h e = (m.core.0, h, mark-owned past m)
