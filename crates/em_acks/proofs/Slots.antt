-- The operations in the places of their numbers, and what is kept beside them.
use Rattle.std.proofs.Common.{◌≡◌, ◌≢◌, ℕ, zero, suc, ◌+◌, ◌<◌, ◌≤◌, Bool, true, false, List, [], ◌∷◌, ◌++◌, length, slice_set, get_or, Option, Some, None, IsSome, arith, refl, ap, sym, ◌∙◌, subst, ⊎_elim}
use Rattle.std.specs.List.{filter_map, cons_option}
use Rattle.std.specs.Option.{option_map, option_and_then, option_or}
use Rattle.std.proofs.lemmas.Bool.{cases_eq, cases_lt}
use Rattle.std.proofs.lemmas.List.{get_or_past, get_or_default, get_or-set_same, get_or-set_other, length-set}
use Rattle.std.proofs.lemmas.List.Elements.{filter_map-append}
use Rattle.em_log.specs.declared.ids.OpId.{OpId}
use Rattle.em_log.specs.Declarations.{below, numbers_from}
use Rattle.em_log.specs.Operations.{op_id}
use Rattle.em_acks.specs.declared.job.Phase.{Phase}
use Rattle.em_acks.specs.declared.unfinished.Owing.{Owing}
use Rattle.em_acks.specs.declared.unfinished.Unfinished.{Unfinished}
use Rattle.em_acks.specs.Operations.{only_if}
use Rattle.em_acks.specs.State.{find_op, owed_in, step_in, first_owed_in}
use Rattle.em_acks.specs.Changes.{with_owing, next_of}
use Rattle.em_acks.specs.Words.{IsLeast}
use Rattle.em_acks.specs.Sets.{owes_in, owes}
use Rattle.em_acks.specs.Slots.{slot_at, unfinished_in}
use Rattle.em_acks.proofs.Numbers.{below-more, same-below, find-from, find-above, with-from}

abbrev pub Slots : Type 0
Slots = List (Option Unfinished)

abbrev pub Numbered : Slots → Type 0
Numbered slots = (n : ℕ) (u : Unfinished) → slot_at slots n ≡ Some u → u.op.0 ≡ n

pub slot-past : (slots : Slots) (n : ℕ) → length slots ≤ n → slot_at slots n ≡ None
slot-past slots n le = get_or_past slots n None le

pub slot-within : (slots : Slots) (n : ℕ) (u : Unfinished) → slot_at slots n ≡ Some u → n < length slots
slot-within slots n u is =
    ⊎_elim (λ lt. lt) (λ ge. absurd (let none : ◌≡◌ {A = Option Unfinished} None (Some u) = sym (slot-past slots n ge) ∙ is in cc none)) (cases_lt n (length slots))

pub find-slot : (slots : Slots) → Numbered slots → (n : ℕ) → find_op n (unfinished_in slots) ≡ slot_at slots n
find-slot slots numbered n =
    ⊎_elim (λ lt. find-from (slot_at slots) numbered (length slots) 0 n (omega arith) (omega arith))
    (λ ge. find-above (slot_at slots) numbered (length slots) 0 n (omega arith) ∙ sym (slot-past slots n ge))
    (cases_lt n (length slots))

-- one more operation

pub pushed-at : (slots : Slots) (o : Option Unfinished) → slot_at (slots ++ o ∷ []) (length slots) ≡ o
pushed-at [] o = refl
pushed-at (x ∷ xs) o = pushed-at xs o

pub pushed-length : (slots : Slots) (o : Option Unfinished) → length (slots ++ o ∷ []) ≡ suc (length slots)
pushed-length [] o = refl
pushed-length (x ∷ xs) o = ap (λ n. suc n) (pushed-length xs o)

pub pushed-other : (slots : Slots) (o : Option Unfinished) (m : ℕ) → m ≢ length slots → slot_at (slots ++ o ∷ []) m ≡ slot_at slots m
pushed-other [] o zero ne = absurd (ne refl)
pushed-other [] o (suc m) ne = refl
pushed-other (x ∷ xs) o zero ne = refl
pushed-other (x ∷ xs) o (suc m) ne = pushed-other xs o m (λ e. ne (ap (λ k. suc k) e))

pub pushed-in : (slots : Slots) (u : Unfinished) → unfinished_in (slots ++ Some u ∷ []) ≡ unfinished_in slots ++ u ∷ []
pushed-in slots u =
    let now = slots ++ Some u ∷ [] in
    let n = length slots in
    ap (λ k. filter_map (slot_at now) (below k)) (pushed-length slots (Some u))
    ∙ (ap (filter_map (slot_at now)) (below-more n 0 ∙ ap (λ k. below n ++ k ∷ []) (let e : 0 + n ≡ n = omega arith in e))
    ∙ (filter_map-append (slot_at now) (numbers_from 0 n) (n ∷ [])
    ∙ (λ i. same-below (slot_at now) (slot_at slots) n 0 (λ m le lt. pushed-other slots (Some u) m (λ e. omega arith)) i ++ cons_option (pushed-at slots (Some u) i) [])))

-- an operation changes or is done

module _ (slots now : Slots) (numbered : Numbered slots) (n : ℕ) (u : Unfinished) (is : slot_at slots n ≡ Some u)
    (others : (m : ℕ) → m ≢ n → slot_at now m ≡ slot_at slots m) (same : length now ≡ length slots) where
  pub changed-in : (next : Unfinished → Option Owing) → slot_at now n ≡ next_of (next u) u → with_owing n next (unfinished_in slots) ≡ unfinished_in now
  changed-in next here =
      with-from (slot_at slots) numbered (slot_at now) n next (λ m ne. others m (λ e. ne (sym e)))
      (here ∙ sym (ap (option_and_then (λ (x : Unfinished). option_map (λ owing. record x { owing = owing }) (next x))) is))
      (length slots) 0
      ∙ ap (λ k. filter_map (slot_at now) (below k)) (sym same)

-- a place that is written twice
module _ (slots : Slots) (place n : ℕ) (at : place ≡ n) (x o : Option Unfinished) where
  abbrev written : Slots
  written = slice_set (slice_set slots place x) place o

  pub written-length : length written ≡ length slots
  written-length = length-set (slice_set slots place x) place o ∙ length-set slots place x

  pub written-at : place < length slots → slot_at written n ≡ o
  written-at lt =
      ap (slot_at written) (sym at) ∙ get_or-set_same (slice_set slots place x) place o None (let same = length-set slots place x in omega arith)

  pub written-other : (m : ℕ) → m ≢ n → slot_at written m ≡ slot_at slots m
  written-other m ne =
      get_or-set_other (slice_set slots place x) place m o None (λ e. ne (e ∙ at)) ∙ get_or-set_other slots place m x None (λ e. ne (e ∙ at))

pub read-slot : (slots : Slots) (place n : ℕ) (x : Option Unfinished) → place ≡ n → place < length slots → x ≡ get_or slots place x → slot_at slots n ≡ x
read-slot slots place n x at lt is = ap (slot_at slots) (sym at) ∙ (get_or_default slots place None x lt ∙ sym is)

-- owed steps

not-owed-in : (c : ℕ) (owing : Owing) → owes_in c owing ≡ false → owed_in c owing ≡ None
not-owed-in c (Owing.Global d) is = ap (λ b. only_if b Phase.Global) is
not-owed-in c (Owing.Local cores) is = ap (λ b. only_if b Phase.Local) is

not-owed : (c : ℕ) (o : Option Unfinished) → owes c o ≡ false → option_and_then (step_in c) o ≡ None
not-owed c None is = refl
not-owed c (Some u) is = ap (option_map (λ p. (u.op, p))) (not-owed-in c u.owing is)

abbrev pub owed_of : ℕ → Option Unfinished → Option Phase
owed_of c o = option_and_then (λ (u : Unfinished). owed_in c u.owing) o

-- the step that core c owes to what is in place n
abbrev pub step_at : ℕ → ℕ → Option Unfinished → Option (OpId × Phase)
step_at c n o = option_map (λ p. (op_id n, p)) (owed_of c o)

step-numbered : (c n : ℕ) (o : Option Unfinished) → ((u : Unfinished) → o ≡ Some u → u.op.0 ≡ n) → option_and_then (step_in c) o ≡ step_at c n o
step-numbered c n None own = refl
step-numbered c n (Some u) own = ap (λ (k : ℕ). option_map (λ p. (op_id k, p)) (owed_in c u.owing)) (own u refl)

owed-in : (c : ℕ) (owing : Owing) → owes_in c owing ≡ true → (p : Phase) × (owed_in c owing ≡ Some p)
owed-in c (Owing.Global d) is = (Phase.Global, ap (λ b. only_if b Phase.Global) is)
owed-in c (Owing.Local cores) is = (Phase.Local, ap (λ b. only_if b Phase.Local) is)

owed-step : (c n : ℕ) (o : Option Unfinished) → owes c o ≡ true → (r : OpId × Phase) × (step_at c n o ≡ Some r)
owed-step c n None is = absurd (cc is)
owed-step c n (Some u) is = let p = owed-in c u.owing is in ((op_id n, p.0), ap (option_map (λ q. (op_id n, q))) p.1)

owed-cons : (c : ℕ) (o : Option Unfinished) (us : List Unfinished) → first_owed_in c (cons_option o us) ≡ option_or (option_and_then (step_in c) o) (first_owed_in c us)
owed-cons c None us = refl
owed-cons c (Some u) us = refl

module _ (c : ℕ) (e : ℕ → Option Unfinished) where
  no-owed : (w a : ℕ) → ((m : ℕ) → option_and_then (step_in c) (e m) ≡ None) → first_owed_in c (filter_map e (numbers_from a w)) ≡ None
  no-owed zero a none = refl
  no-owed (suc w) a none =
      owed-cons c (e a) (filter_map e (numbers_from (suc a) w))
      ∙ (ap (λ o. option_or o (first_owed_in c (filter_map e (numbers_from (suc a) w)))) (none a) ∙ no-owed w (suc a) none)

  least-owed : (w a n : ℕ) (r : OpId × Phase) → a ≤ n → n < a + w → ((m : ℕ) → m < n → option_and_then (step_in c) (e m) ≡ None)
      → option_and_then (step_in c) (e n) ≡ Some r → first_owed_in c (filter_map e (numbers_from a w)) ≡ Some r
  least-owed zero a n r le lt none here = absurd (omega arith)
  least-owed (suc w) a n r le lt none here =
      owed-cons c (e a) (filter_map e (numbers_from (suc a) w))
      ∙ ⊎_elim
      (λ same. ap (λ o. option_or o (first_owed_in c (filter_map e (numbers_from (suc a) w)))) (ap (λ k. option_and_then (step_in c) (e k)) same ∙ here))
      (λ ne. ap (λ o. option_or o (first_owed_in c (filter_map e (numbers_from (suc a) w)))) (none a (omega (arith, le, ne)))
      ∙ least-owed w (suc a) n r (omega (arith, le, ne)) (omega arith) none here)
      (cases_eq a n)

pub owed-within : (slots : Slots) (c n : ℕ) → owes c (slot_at slots n) ≡ true → n < length slots
owed-within slots c n is =
    ⊎_elim (λ lt. lt) (λ ge. absurd (let none : false ≡ true = sym (ap (owes c) (slot-past slots n ge)) ∙ is in cc none)) (cases_lt n (length slots))

-- the first step that a core owes, by the least operation of its set
pub first-owed-at : (slots : Slots) → Numbered slots → (c : ℕ) (test : ℕ → Bool) → ((n : ℕ) → test n ≡ owes c (slot_at slots n)) → (o : Option ℕ) → IsLeast test o
    → first_owed_in c (unfinished_in slots) ≡ option_and_then (λ n. step_at c n (slot_at slots n)) o
first-owed-at slots numbered c test same None none =
    no-owed c (slot_at slots) (length slots) 0 (λ m. not-owed c (slot_at slots m) (sym (same m) ∙ none m))
first-owed-at slots numbered c test same (Some n) least =
    let owed = owed-step c n (slot_at slots n) (sym (same n) ∙ least.0) in
    least-owed c (slot_at slots) (length slots) 0 n owed.0 (omega arith) (let lt = owed-within slots c n (sym (same n) ∙ least.0) in omega arith)
    (λ m lt. not-owed c (slot_at slots m) (sym (same m) ∙ least.1 m lt)) (step-numbered c n (slot_at slots n) (numbered n) ∙ owed.1)
    ∙ sym owed.1

-- an operation whose step is owed is kept

pub found-within : (slots : Slots) → Numbered slots → (n : ℕ) → IsSome (find_op n (unfinished_in slots)) → n < length slots
found-within slots numbered n some =
    ⊎_elim (λ lt. lt)
    (λ ge. absurd (let none : IsSome {T = Unfinished} None = subst IsSome (find-slot slots numbered n ∙ slot-past slots n ge) some in cc none))
    (cases_lt n (length slots))

pub found-there : (slots : Slots) → Numbered slots → (n : ℕ) → IsSome (find_op n (unfinished_in slots)) → slot_at slots n ≡ None → ⊥
found-there slots numbered n some is = let none : IsSome {T = Unfinished} None = subst IsSome (find-slot slots numbered n ∙ is) some in cc none

pub owed-there : (c : ℕ) (o : Option Unfinished) (p : Phase) → owed_of c o ≡ Some p → IsSome o
owed-there c None p is = absurd (cc is)
owed-there c (Some u) p is = refl
