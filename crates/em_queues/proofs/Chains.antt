-- Chains of events, and what is left of one where the event after another has changed.
use Rattle.std.proofs.Common.{◌≡◌, ◌≢◌, ℕ, zero, suc, ◌+◌, ◌<◌, ◌≤◌, ◌==◌, Bool, List, [], ◌∷◌, ◌++◌, length, get_or, set, take, drop, cond, arith, refl, ap, sym, ◌∙◌}
use Rattle.std.proofs.lemmas.Bool.{eq-eqb}
use Rattle.std.proofs.lemmas.List.{get_or-set_same, get_or-set_other}
use Rattle.std.proofs.lemmas.List.Sums.{sum_by-cons, sum_by-append}
use Rattle.em_queues.specs.Links.{event_at, chain, times}

-- one event after the other

pub event-next : (next : List ℕ) (i n : ℕ) → event_at next i (suc n) ≡ get_or next (event_at next i n) 0
event-next next i zero = refl
event-next next i (suc n) = event-next next (get_or next i 0) n

pub length-chain : (next : List ℕ) (i n : ℕ) → length (chain next i n) ≡ n
length-chain next i zero = refl
length-chain next i (suc n) = ap suc (length-chain next (get_or next i 0) n)

pub chain-event : (next : List ℕ) (i n k : ℕ) → k < n → get_or (chain next i n) k 0 ≡ event_at next i k
chain-event next i zero k lt = absurd (omega arith)
chain-event next i (suc n) zero lt = refl
chain-event next i (suc n) (suc k) lt = chain-event next (get_or next i 0) n k (omega arith)

pub chain-add : (next : List ℕ) (i n m : ℕ) → chain next i (n + m) ≡ chain next i n ++ chain next (event_at next i n) m
chain-add next i zero m = let e : zero + m ≡ m = omega arith in ap (chain next i) e
chain-add next i (suc n) m =
    let e : suc n + m ≡ suc (n + m) = omega arith in
    ap (chain next i) e ∙ ap (λ xs. i ∷ xs) (chain-add next (get_or next i 0) n m)

pub chain-push : (next : List ℕ) (i n : ℕ) → chain next i (n + 1) ≡ chain next i n ++ event_at next i n ∷ []
chain-push next i n = chain-add next i n 1

pub take-chain : (next : List ℕ) (i n m : ℕ) → n ≤ m → take n (chain next i m) ≡ chain next i n
take-chain next i zero m le = refl
take-chain next i (suc n) zero le = absurd (omega arith)
take-chain next i (suc n) (suc m) le = ap (λ xs. i ∷ xs) (take-chain next (get_or next i 0) n m (omega arith))

pub drop-chain : (next : List ℕ) (i n m r : ℕ) → n + r ≡ m → drop n (chain next i m) ≡ chain next (event_at next i n) r
drop-chain next i zero m r e = let same : m ≡ r = omega arith in ap (chain next i) same
drop-chain next i (suc n) zero r e = absurd (omega arith)
drop-chain next i (suc n) (suc m) r e = drop-chain next (get_or next i 0) n m r (omega arith)

-- how often an event is there

abbrev pub one_if : Bool → ℕ
one_if b = cond b 1 0

pub times-cons : (t x : ℕ) (xs : List ℕ) → times t (x ∷ xs) ≡ cond (x == t) 1 0 + times t xs
times-cons t x xs = sum_by-cons (λ y. cond (y == t) 1 0) x xs

pub times-append : (t : ℕ) (xs ys : List ℕ) → times t (xs ++ ys) ≡ times t xs + times t ys
times-append t xs ys = sum_by-append (λ y. cond (y == t) 1 0) xs ys

pub once-itself : (t : ℕ) → times t (t ∷ []) ≡ 1
once-itself t = times-cons t t [] ∙ ap (λ b. cond b 1 0 + 0) (eq-eqb t t refl)

-- what is nowhere in a list is neither its first nor in the rest
first-other : (t x : ℕ) (xs : List ℕ) → times t (x ∷ xs) ≡ 0 → x ≢ t
first-other t x xs none same =
    let one : one_if (x == t) ≡ 1 = ap one_if (eq-eqb x t same) in
    let sums = times-cons t x xs in absurd (omega arith)

rest-other : (t x : ℕ) (xs : List ℕ) → times t (x ∷ xs) ≡ 0 → times t xs ≡ 0
rest-other t x xs none = let sums = times-cons t x xs in omega arith

-- the event after event t becomes b

pub kept-chain : (next : List ℕ) (t b i n : ℕ) → times t (chain next i n) ≡ 0 → chain (set next t b) i n ≡ chain next i n
kept-chain next t b i zero none = refl
kept-chain next t b i (suc n) none =
    let ne : i ≢ t = first-other t i (chain next (get_or next i 0) n) none in
    ap (λ k. i ∷ chain (set next t b) k n) (get_or-set_other next t i b 0 ne)
    ∙ ap (λ xs. i ∷ xs) (kept-chain next t b (get_or next i 0) n (rest-other t i (chain next (get_or next i 0) n) none))

pub kept-event : (next : List ℕ) (t b i n : ℕ) → times t (chain next i n) ≡ 0 → event_at (set next t b) i n ≡ event_at next i n
kept-event next t b i zero none = refl
kept-event next t b i (suc n) none =
    let ne : i ≢ t = first-other t i (chain next (get_or next i 0) n) none in
    ap (λ k. event_at (set next t b) k n) (get_or-set_other next t i b 0 ne)
    ∙ kept-event next t b (get_or next i 0) n (rest-other t i (chain next (get_or next i 0) n) none)

-- event t, which is n events after event i and not before, is followed by the m events from event b on
pub linked-chain : (next : List ℕ) (t b i n m : ℕ) → t < length next → event_at next i n ≡ t → times t (chain next i n) ≡ 0
    → chain (set next t b) i (n + 1 + m) ≡ chain next i (n + 1) ++ chain (set next t b) b m
linked-chain next t b i n m there at none =
    chain-add (set next t b) i (n + 1) m
    ∙ (λ j. front j ++ chain (set next t b) (after j) m)
  where
    last : event_at (set next t b) i n ≡ t
    last = kept-event next t b i n none ∙ at

    front : chain (set next t b) i (n + 1) ≡ chain next i (n + 1)
    front =
        chain-push (set next t b) i n
        ∙ ((λ j. kept-chain next t b i n none j ++ kept-event next t b i n none j ∷ []) ∙ sym (chain-push next i n))

    after : event_at (set next t b) i (n + 1) ≡ b
    after =
        let e : n + 1 ≡ suc n = omega arith in
        ap (event_at (set next t b) i) e
        ∙ (event-next (set next t b) i n ∙ (ap (λ k. get_or (set next t b) k 0) last ∙ get_or-set_same next t b 0 there))

-- an event that is in a chain once, as its last, is not before
pub before-last : (next : List ℕ) (t i n : ℕ) → times t (chain next i (n + 1)) ≤ 1 → event_at next i n ≡ t → times t (chain next i n) ≡ 0
before-last next t i n most at =
    let all : times t (chain next i (n + 1)) ≡ times t (chain next i n ++ event_at next i n ∷ []) = ap (times t) (chain-push next i n) in
    let parts = times-append t (chain next i n) (event_at next i n ∷ []) in
    let one : times t (event_at next i n ∷ []) ≡ 1 = ap (λ k. times t (k ∷ [])) at ∙ once-itself t in
    omega arith
