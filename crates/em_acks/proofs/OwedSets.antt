-- Sets of operations, and the marks of the cores that owe a step.
use Rattle.std.proofs.Common.{◌≡◌, ◌≢◌, ℕ, ◌+◌, ◌*◌, ◌/◌, ◌%◌, ◌<◌, ◌≤◌, ◌==◌, ◌&&◌, ◌⊎◌, nat_lt, Bool, true, false, List, [], length, get_or, slice_set, Option, Some, if◌then◌else◌, arith, refl, ap, sym, ◌∙◌, subst, ⊎_elim}
use Rattle.std.proofs.lemmas.Bool.{cases_eq, cases_lt, eq-eqb, ne_eqb, lt-ltb, le-ltb}
use Rattle.std.proofs.lemmas.List.{get_or_default, get_or-set_same, get_or-set_other}
use Rattle.em_log.specs.Bounds.{operation_limit}
use Rattle.em_log.specs.History.{has}
use Rattle.em_acks.specs.declared.unfinished.Unfinished.{Unfinished}
use Rattle.em_acks.specs.declared.sets.OperationSet.{OperationSet}
use Rattle.em_acks.specs.Words.{IsLeast}
use Rattle.em_acks.specs.Sets.{contains, set_at, owes, no_operations, AreMarked}

abbrev pub NoneBelow : OperationSet → ℕ → Type 0
NoneBelow s n = (q : ℕ) → q < n → contains s q ≡ false

word_of : (w i : ℕ) → i < 64 → (64 * w + i) / 64 ≡ w
word_of w i lt = omega arith

bit_of : (w i : ℕ) → i < 64 → (64 * w + i) % 64 ≡ i
bit_of w i lt = omega arith

none-of : (b : Bool) → (b && false) ≡ false
none-of true = refl
none-of false = refl

module _ (s : OperationSet) (w : ℕ) where
  in-word : (q : ℕ) → q / 64 ≡ w → has (get_or s.words w []) (q % 64) ≡ false → contains s q ≡ false
  in-word q e none =
      ap (λ b. nat_lt q operation_limit && b) (ap (λ k. has (get_or s.words k []) (q % 64)) e ∙ none) ∙ none-of (nat_lt q operation_limit)

  pub none-in-word : NoneBelow s (64 * w) → ((i : ℕ) → has (get_or s.words w []) i ≡ false) → NoneBelow s (64 * (w + 1))
  none-in-word before none = λ q lt. ⊎_elim (λ below. before q below) (λ from. in-word q (omega arith) (none (q % 64))) (cases_lt q (64 * w))

  pub least-in-word : (i : ℕ) → w < 4 → i < 64 → NoneBelow s (64 * w) → has (get_or s.words w []) i ≡ true
      → ((j : ℕ) → j < i → has (get_or s.words w []) j ≡ false) → IsLeast (contains s) (Some (64 * w + i))
  least-in-word i few lt before here least = (
    (λ k. lt-ltb (64 * w + i) operation_limit (omega arith) k && has (get_or s.words (word_of w i lt k) []) (bit_of w i lt k)) ∙ here,
    λ q less. ⊎_elim (λ below. before q below) (λ from. in-word q (omega arith) (least (q % 64) (omega arith))) (cases_lt q (64 * w)),
  )

  pub none-there : NoneBelow s (64 * w) → 4 ≤ w → (q : ℕ) → contains s q ≡ false
  none-there before all q =
      ⊎_elim (λ below. before q below)
      (λ from. ap (λ b. b && has (get_or s.words (q / 64) []) (q % 64)) (le-ltb q operation_limit (omega arith)))
      (cases_lt q (64 * w))

-- marks

pub none-marked : (old : List OperationSet) (op : ℕ) (o : Option Unfinished) → AreMarked 0 old op o old
none-marked old op o = λ c m lt. sym (ap (λ b. if b && (m == op) then owes c o else contains (set_at old c) m) (le-ltb c 0 (omega arith)))

below-other : (c n : ℕ) → c ≢ n → nat_lt c (n + 1) ≡ nat_lt c n
below-other c n ne =
    ⊎_elim (λ lt. lt-ltb c (n + 1) (omega arith) ∙ sym (lt-ltb c n lt))
    (λ ge. le-ltb c (n + 1) (omega (arith, ge, ne)) ∙ sym (le-ltb c n ge))
    (cases_lt c n)

pub next-marked : (old now : List OperationSet) (set was : OperationSet) (op n : ℕ) (o : Option Unfinished) → n < length old → length now ≡ length old
    → AreMarked n old op o now → was ≡ set_at now n
    → ((m : ℕ) → contains set m ≡ (if m == op then owes n o else contains was m)) → AreMarked (n + 1) old op o (slice_set now n set)
next-marked old now set was op n o below same before at put = λ c m lt. by_core c m lt (cases_eq c n)
  where
    at_n : (m : ℕ) → contains (set_at (slice_set now n set) n) m ≡ (if nat_lt n (n + 1) && (m == op) then owes n o else contains (set_at old n) m)
    at_n m =
        ap (λ (s : OperationSet). contains s m) (get_or-set_same now n set no_operations (omega (arith, below, same)))
        ∙ (put m
        ∙ (ap (λ (s : OperationSet). if m == op then owes n o else contains s m) at
        ∙ (ap (λ b. if m == op then owes n o else b)
        (before n m below ∙ ap (λ b. if b && (m == op) then owes n o else contains (set_at old n) m) (le-ltb n n (omega arith)))
        ∙ sym (ap (λ b. if b && (m == op) then owes n o else contains (set_at old n) m) (lt-ltb n (n + 1) (omega arith))))))

    by_core : (c m : ℕ) → c < length old → (c ≡ n) ⊎ (c ≢ n)
        → contains (set_at (slice_set now n set) c) m ≡ (if nat_lt c (n + 1) && (m == op) then owes c o else contains (set_at old c) m)
    by_core c m lt is =
        ⊎_elim
        (λ e. subst (λ k. contains (set_at (slice_set now n set) k) m ≡ (if nat_lt k (n + 1) && (m == op) then owes k o else contains (set_at old k) m)) (sym e) (at_n m))
        (λ ne. ap (λ (s : OperationSet). contains s m) (get_or-set_other now n c set no_operations ne)
        ∙ (before c m lt ∙ ap (λ b. if b && (m == op) then owes c o else contains (set_at old c) m) (sym (below-other c n ne))))
        is

pub marked-all : (old new : List OperationSet) (op : ℕ) (o : Option Unfinished) → AreMarked (length old) old op o new
    → (c m : ℕ) → c < length old → contains (set_at new c) m ≡ (if m == op then owes c o else contains (set_at old c) m)
marked-all old new op o marked c m lt = marked c m lt ∙ ap (λ b. if b && (m == op) then owes c o else contains (set_at old c) m) (lt-ltb c (length old) lt)

-- where the operation is owed by the other cores as before, the mark of one core is all
pub marked-one : (old : List OperationSet) (set : OperationSet) (c op : ℕ) (o : Option Unfinished) → c < length old
    → ((m : ℕ) → contains set m ≡ (if m == op then owes c o else contains (set_at old c) m))
    → ((d : ℕ) → d < length old → d ≢ c → owes d o ≡ contains (set_at old d) op)
    → (d m : ℕ) → d < length old → contains (set_at (slice_set old c set) d) m ≡ (if m == op then owes d o else contains (set_at old d) m)
marked-one old set c op o there put others d m lt = by_core (cases_eq d c)
  where
    as_before : (d ≢ c) → contains (set_at old d) m ≡ (if m == op then owes d o else contains (set_at old d) m)
    as_before ne =
        ⊎_elim
        (λ e. ap (contains (set_at old d)) e ∙ (sym (others d lt ne) ∙ sym (ap (λ b. if b then owes d o else contains (set_at old d) m) (eq-eqb m op e))))
        (λ no. sym (ap (λ b. if b then owes d o else contains (set_at old d) m) (ne_eqb m op no)))
        (cases_eq m op)

    by_core : (d ≡ c) ⊎ (d ≢ c) → contains (set_at (slice_set old c set) d) m ≡ (if m == op then owes d o else contains (set_at old d) m)
    by_core is =
        ⊎_elim
        (λ e. ap (λ k. contains (set_at (slice_set old c set) k) m) e
        ∙ (ap (λ (s : OperationSet). contains s m) (get_or-set_same old c set no_operations there)
        ∙ (put m ∙ ap (λ k. if m == op then owes k o else contains (set_at old k) m) (sym e))))
        (λ ne. ap (λ (s : OperationSet). contains s m) (get_or-set_other old c d set no_operations ne) ∙ as_before ne)
        is

pub read-set : (sets : List OperationSet) (place c : ℕ) (x : OperationSet) → place ≡ c → c < length sets → x ≡ get_or sets place x → x ≡ set_at sets c
read-set sets place c x at lt is = is ∙ (get_or_default sets place x no_operations (omega arith) ∙ ap (set_at sets) at)
