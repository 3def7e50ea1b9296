-- Linked lists stay so where one list, or two of them, have changed.
use Rattle.std.proofs.Common.{◌≡◌, ◌≢◌, ℕ, zero, suc, ◌+◌, ◌<◌, ◌≤◌, ◌==◌, not, Bool, true, false, List, [], ◌∷◌, length, map, get_or, set, cond, arith, refl, ap, sym, ◌∙◌, subst, ⊎_elim}
use Rattle.std.proofs.lemmas.Bool.{cases_eq, cases_lt, ne_eqb, eq-eqb}
use Rattle.std.proofs.lemmas.List.{get_or-set_same, get_or-set_other, get_or-map, get_or_past, length-set, length-map, map-set, set-get_or}
use Rattle.std.proofs.lemmas.List.Sums.{sum_by-set, get_or-le-sum_by}
use Rattle.em_queues.specs.declared.event_lists.ListEnds.{ListEnds}
use Rattle.em_queues.specs.Events.{list_in}
use Rattle.em_queues.specs.Links.{no_ends, events_of, all_events, is_linked, times, unlisted, told, IsLinked}
use Rattle.em_queues.proofs.Chains.{one_if, times-cons}

abbrev pub size : List ℕ → ℕ
size xs = length xs

-- which events are in a list

pub few-linked : (i : ℕ) → i < 65535 → is_linked i ≡ true
few-linked i lt = ap not (ne_eqb i 65535 (λ e. omega arith))

pub told-linked : (next : List ℕ) (i : ℕ) → 1 ≤ told next i → is_linked (get_or next i 65535) ≡ true
told-linked next i some = by_test (is_linked (get_or next i 65535)) refl
  where
    by_test : (b : Bool) → is_linked (get_or next i 65535) ≡ b → b ≡ true
    by_test true e = refl
    by_test false e = absurd (let none : told next i ≡ 0 = ap one_if e in omega arith)

pub linked-there : (next : List ℕ) (i : ℕ) → is_linked (get_or next i 65535) ≡ true → i < length next
linked-there next i e =
    ⊎_elim (λ lt. lt) (λ past. absurd (let none : is_linked (get_or next i 65535) ≡ false = ap is_linked (get_or_past next i 65535 past) in cc (none, e)))
    (cases_lt i (length next))

-- an event is as often in lists as in the longer one of these
times-at : (xs : List ℕ) (k : ℕ) → k < length xs → 1 ≤ times (get_or xs k 0) xs
times-at [] k lt = absurd (omega arith)
times-at (x ∷ xs) zero lt =
    let sums = times-cons x x xs in
    let one : one_if (x == x) ≡ 1 = ap one_if (eq-eqb x x refl) in omega arith
times-at (x ∷ xs) (suc k) lt =
    let sums = times-cons (get_or xs k 0) x xs in
    let rest = times-at xs k (omega arith) in omega arith

module _ {lists : List (List ℕ)} {ends : List ListEnds} {next : List ℕ} (linked : IsLinked lists ends next) where
  pub item-linked : (l k : ℕ) → l < length lists → k < length (list_in lists l) → is_linked (get_or next (get_or (list_in lists l) k 0) 65535) ≡ true
  item-linked l k lt less =
      told-linked next (get_or (list_in lists l) k 0)
      (let here = times-at (list_in lists l) k less in
      let within = get_or-le-sum_by (times (get_or (list_in lists l) k 0)) lists l [] lt in
      let all = linked.once (get_or (list_in lists l) k 0) in omega arith)

  pub most-once : (i l : ℕ) → l < length lists → times i (list_in lists l) ≤ 1
  most-once i l lt =
      let within = get_or-le-sum_by (times i) lists l [] lt in
      let all = linked.once i in
      let one = told-le (is_linked (get_or next i 65535)) in omega arith
    where
      told-le : (b : Bool) → cond b 1 0 ≤ 1
      told-le true = omega arith
      told-le false = omega arith

  -- an event of one list is in no other
  pub none-elsewhere : (l k j : ℕ) → l < length lists → k < length (list_in lists l) → j ≢ l → j < length lists
      → times (get_or (list_in lists l) k 0) (list_in lists j) ≡ 0
  none-elsewhere l k j lt less ne within =
      let sums = sum_by-set (times (get_or (list_in lists l) k 0)) lists l [] [] lt in
      let here = times-at (list_in lists l) k less in
      let all = linked.once (get_or (list_in lists l) k 0) in
      let one : told next (get_or (list_in lists l) k 0) ≡ 1 = ap one_if (item-linked l k lt less) in
      let there = get_or-le-sum_by (times (get_or (list_in lists l) k 0)) (set lists l []) j [] (let n = length-set lists l [] in omega arith) in
      let same : times (get_or (list_in lists l) k 0) (get_or (set lists l []) j []) ≡ times (get_or (list_in lists l) k 0) (list_in lists j) =
      ap (times (get_or (list_in lists l) k 0)) (get_or-set_other lists l j [] [] ne) in
      omega arith

  -- an event that is in no list is in none of them
  pub none-anywhere : (i j : ℕ) → is_linked (get_or next i 65535) ≡ false → j < length lists → times i (list_in lists j) ≡ 0
  none-anywhere i j e lt =
      let within = get_or-le-sum_by (times i) lists j [] lt in
      let all = linked.once i in
      let none : told next i ≡ 0 = ap one_if e in omega arith

-- the lists as they are read

pub length-all : (ends : List ListEnds) (next : List ℕ) → length (all_events ends next) ≡ length ends
length-all ends next = length-map ends (events_of next)

pub list-read : (ends : List ListEnds) (next : List ℕ) (l : ℕ) → l < length ends → list_in (all_events ends next) l ≡ events_of next (get_or ends l no_ends)
list-read ends next l lt = get_or-map (events_of next) ends l no_ends [] lt

-- the others are read as before
abbrev pub AreKept : List ListEnds → List ℕ → List ℕ → ℕ → Type 0
AreKept ends next more l = (j : ℕ) → j ≢ l → j < length ends → events_of more (get_or ends j no_ends) ≡ events_of next (get_or ends j no_ends)

pub lists-read : (ends : List ListEnds) (next more : List ℕ) (l : ℕ) (e : ListEnds) → AreKept ends next more l
    → all_events (set ends l e) more ≡ set (all_events ends next) l (events_of more e)
lists-read [] next more l e kept = refl
lists-read (x ∷ ends) next more zero e kept = λ i. events_of more e ∷ rest i
  where
    each : (xs : List ListEnds) → ((j : ℕ) → j < length xs → events_of more (get_or xs j no_ends) ≡ events_of next (get_or xs j no_ends))
        → all_events xs more ≡ all_events xs next
    each [] same = refl
    each (y ∷ ys) same = λ i. same 0 (omega arith) i ∷ each ys (λ j lt. same (suc j) (omega arith)) i

    rest : all_events ends more ≡ all_events ends next
    rest = each ends (λ j lt. kept (suc j) (λ e. omega arith) (omega arith))
lists-read (x ∷ ends) next more (suc l) e kept =
    λ i. kept 0 (λ e. omega arith) (omega arith) i ∷ lists-read ends next more l e (λ j ne lt. kept (suc j) (λ e. ne (omega arith)) (omega arith)) i

-- the last events

abbrev pub EndsIn : List ℕ → ListEnds → Type 0
EndsIn xs e = (n : ℕ) → length xs ≡ suc n → get_or xs n 0 ≡ e.last

abbrev pub HaveLasts : List (List ℕ) → List ListEnds → Type 0
HaveLasts lists ends = (l : ℕ) → EndsIn (list_in lists l) (get_or ends l no_ends)

pub lasts-set : (lists : List (List ℕ)) (ends : List ListEnds) (l : ℕ) (xs : List ℕ) (e : ListEnds) → l < length lists → l < length ends
    → HaveLasts lists ends → EndsIn xs e → HaveLasts (set lists l xs) (set ends l e)
lasts-set lists ends l xs e lt less all here j =
    ⊎_elim
    (λ same. subst (λ k. EndsIn (list_in (set lists l xs) k) (get_or (set ends l e) k no_ends)) (sym same)
    (subst (λ (ys : List ℕ). EndsIn ys (get_or (set ends l e) l no_ends)) (sym (get_or-set_same lists l xs [] lt))
    (subst (EndsIn xs) (sym (get_or-set_same ends l e no_ends less)) here)))
    (λ ne. subst (λ (ys : List ℕ). EndsIn ys (get_or (set ends l e) j no_ends)) (sym (get_or-set_other lists l j xs [] ne))
    (subst (EndsIn (list_in lists j)) (sym (get_or-set_other ends l j e no_ends ne)) (all j)))
    (cases_eq j l)

-- one list is xs, and its ends are e
module _ {lists : List (List ℕ)} {ends : List ListEnds} {next : List ℕ} (linked : IsLinked lists ends next) (l : ℕ) (lt : l < length lists) (less : l < length ends) where
  pub one-changed : (xs : List ℕ) (e : ListEnds) (more : List ℕ) → EndsIn xs e
      → ((i : ℕ) → times i xs + told next i ≡ times i (list_in lists l) + told more i) → length xs + unlisted more ≡ length (list_in lists l) + unlisted next
      → length more ≡ length next → IsLinked (set lists l xs) (set ends l e) more
  one-changed xs e more here often long same = record {
    last = lasts-set lists ends l xs e lt less linked.last here;
    once = λ i. let sums = sum_by-set (times i) lists l xs [] lt in let all = linked.once i in let change = often i in omega arith;
    enough = let sums = sum_by-set size lists l xs [] lt in let all = linked.enough in omega arith;
    few = let few = linked.few in omega arith;
  }

  -- and so are another list and its ends
  pub two-changed : (k : ℕ) → k ≢ l → k < length lists → k < length ends → (xs ys : List ℕ) (e f : ListEnds) (more : List ℕ) → EndsIn xs e → EndsIn ys f
      → ((i : ℕ) → times i xs + times i ys ≡ times i (list_in lists l) + times i (list_in lists k)) → length xs + length ys ≡ length (list_in lists l) + length (list_in lists k)
      → ((i : ℕ) → told more i ≡ told next i) → unlisted more ≡ unlisted next → length more ≡ length next
      → IsLinked (set (set lists l xs) k ys) (set (set ends l e) k f) more
  two-changed k ne k_lt k_less xs ys e f more first second often long told_same unlisted_same same = record {
    last =
        lasts-set (set lists l xs) (set ends l e) k ys f (let n = length-set lists l xs in omega arith) (let n = length-set ends l e in omega arith)
        (lasts-set lists ends l xs e lt less linked.last first) second;
    once = λ i.
        let one = sum_by-set (times i) lists l xs [] lt in
        let two = sum_by-set (times i) (set lists l xs) k ys [] (let n = length-set lists l xs in omega arith) in
        let other : times i (get_or (set lists l xs) k []) ≡ times i (list_in lists k) = ap (times i) (get_or-set_other lists l k xs [] ne) in
        let all = linked.once i in
        let change = often i in
        let told_is = told_same i in omega arith;
    enough =
        let one = sum_by-set size lists l xs [] lt in
        let two = sum_by-set size (set lists l xs) k ys [] (let n = length-set lists l xs in omega arith) in
        let other : length (get_or (set lists l xs) k []) ≡ length (list_in lists k) = ap size (get_or-set_other lists l k xs [] ne) in
        let all = linked.enough in omega arith;
    few = let few = linked.few in omega arith;
  }

-- the event after one that is in a list becomes another

pub told-set : (next : List ℕ) (t b i : ℕ) → t < length next → is_linked b ≡ is_linked (get_or next t 65535) → told (set next t b) i ≡ told next i
told-set next t b i lt e =
    ⊎_elim
    (λ same. subst (λ k. told (set next t b) k ≡ told next k) (sym same)
    (ap (λ k. cond (is_linked k) 1 0) (get_or-set_same next t b 65535 lt) ∙ ap one_if e))
    (λ ne. ap (λ k. cond (is_linked k) 1 0) (get_or-set_other next t i b 65535 ne)) (cases_eq i t)

-- whether an event is in a list, told by the events after it

pub listed-set : (next : List ℕ) (t b : ℕ) → t < length next → is_linked b ≡ is_linked (get_or next t 65535) → map is_linked (set next t b) ≡ map is_linked next
listed-set next t b lt e =
    map-set is_linked next t b
    ∙ (ap (set (map is_linked next) t) (e ∙ sym (get_or-map is_linked next t 65535 true lt)) ∙ set-get_or (map is_linked next) t true)
