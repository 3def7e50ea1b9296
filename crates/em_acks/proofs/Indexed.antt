-- What is kept beside the operations, once one has begun or changed.
use Rattle.std.proofs.Common.{◌≡◌, ◌≢◌, ℕ, ◌<◌, ◌==◌, ◌&&◌, Bool, true, false, List, [], ◌∷◌, length, Option, Some, None, if◌then◌else◌, arith, refl, ap, sym, ◌∙◌, subst, ⊎_elim}
use Rattle.std.proofs.lemmas.Bool.{cases_eq, eq-eqb, ne_eqb}
use Rattle.em_log.specs.declared.ids.OpId.{OpId}
use Rattle.em_log.specs.History.{has, without}
use Rattle.em_log.specs.Operations.{op_id}
use Rattle.em_acks.specs.declared.job.Job.{Job}
use Rattle.em_acks.specs.declared.job.Phase.{Phase}
use Rattle.em_acks.specs.declared.job.Target.{Target}
use Rattle.em_acks.specs.declared.unfinished.Owing.{Owing}
use Rattle.em_acks.specs.declared.unfinished.Unfinished.{Unfinished}
use Rattle.em_acks.specs.declared.sets.OperationSet.{OperationSet}
use Rattle.em_acks.specs.declared.pending.PendingOperations.{PendingOperations}
use Rattle.em_acks.specs.Operations.{only_if, is_target}
use Rattle.em_acks.specs.State.{owed_in}
use Rattle.em_acks.specs.Sets.{contains, set_at, owes, owes_in}
use Rattle.em_acks.specs.Slots.{slot_at, has_target}
use Rattle.em_acks.specs.Pending.{pending_at, is_done, HasPlaces}
use Rattle.em_acks.specs.Changes.{next_of, owing_acked, owing_left}
use Rattle.em_acks.specs.Whole.{IsIndexed}
use Rattle.em_acks.proofs.WordLemmas.{has-without_other}
use Rattle.em_acks.proofs.Places.{target-itself, target-swap, same-pending, same-number}
use Rattle.em_acks.proofs.Slots.{Slots, Numbered}

-- the operation in place n has come to be o, and no other has changed
module _ {cores : ℕ} {slots : Slots} {sets : List OperationSet} {pending : PendingOperations} (was : IsIndexed cores slots sets pending)
    (now : Slots) (n : ℕ) (o : Option Unfinished) (here : slot_at now n ≡ o) (others : (m : ℕ) → m ≢ n → slot_at now m ≡ slot_at slots m)
    (own : (u : Unfinished) → o ≡ Some u → u.op.0 ≡ n) where
  pub numbered-now : Numbered now
  numbered-now m u is =
      ⊎_elim (λ e. own u (sym here ∙ (ap (slot_at now) (sym e) ∙ is)) ∙ sym e) (λ ne. was.numbered m u (sym (others m ne) ∙ is)) (cases_eq m n)

  pub owed-now : (marked : List OperationSet)
      → ((c m : ℕ) → c < length sets → contains (set_at marked c) m ≡ (if m == n then owes c o else contains (set_at sets c) m))
      → (c m : ℕ) → c < cores → contains (set_at marked c) m ≡ owes c (slot_at now m)
  owed-now marked are c m lt =
      are c m (let count = was.set_count in omega arith)
      ∙ ⊎_elim
      (λ e. ap (λ b. if b then owes c o else contains (set_at sets c) m) (eq-eqb m n e) ∙ ap (owes c) (sym here ∙ ap (slot_at now) (sym e)))
      (λ ne. ap (λ b. if b then owes c o else contains (set_at sets c) m) (ne_eqb m n ne) ∙ (was.owed c m lt ∙ ap (owes c) (sym (others m ne))))
      (cases_eq m n)

-- an operation begins in place n, whose target has none
module _ {cores : ℕ} {slots : Slots} {sets : List OperationSet} {pending : PendingOperations} (was : IsIndexed cores slots sets pending)
    (now : Slots) (n : ℕ) (u : Unfinished) (here : slot_at now n ≡ Some u) (others : (m : ℕ) → m ≢ n → slot_at now m ≡ slot_at slots m)
    (own : u.op.0 ≡ n) (empty : slot_at slots n ≡ None) (free : pending_at pending u.target ≡ None)
    (marked : List OperationSet) (count : length marked ≡ length sets)
    (are : (c m : ℕ) → c < length sets → contains (set_at marked c) m ≡ (if m == n then owes c (Some u) else contains (set_at sets c) m))
    (places : PendingOperations) (whole : HasPlaces places)
    (put : (t : Target) → pending_at places t ≡ (if is_target u.target t then Some (op_id n) else pending_at pending t)) where
  own-only : (x : Unfinished) → ◌≡◌ {A = Option Unfinished} (Some u) (Some x) → x.op.0 ≡ n
  own-only x is = let e : u ≡ x = cc is in ap (λ (y : Unfinished). y.op.0) (sym e) ∙ own

  told-same : (x : Unfinished) → ◌≡◌ {A = Option Unfinished} (Some u) (Some x) → pending_at places x.target ≡ Some (op_id n)
  told-same x is =
      let e : u ≡ x = cc is in
      subst (λ (y : Unfinished). pending_at places y.target ≡ Some (op_id n)) e
      (put u.target ∙ ap (λ b. if b then Some (op_id n) else pending_at pending u.target) (target-itself u.target))

  told-other : (m : ℕ) (t : Target) (b : Bool) → is_target u.target t ≡ b → pending_at pending t ≡ Some (op_id m)
      → (if b then Some (op_id n) else pending_at pending t) ≡ Some (op_id m)
  told-other m t true same is =
      absurd (let none : ◌≡◌ {A = Option OpId} None (Some (op_id m)) = sym free ∙ (sym (same-pending pending u.target t same) ∙ is) in cc none)
  told-other m t false same is = is

  found-as : (t : Target) (op : OpId) (b : Bool) → is_target u.target t ≡ b
      → (if b then Some (op_id n) else pending_at pending t) ≡ Some op → has_target t (slot_at now op.0) ≡ true
  found-as t op true same is =
      let e : op_id n ≡ op = cc is in
      ap (λ (x : OpId). has_target t (slot_at now x.0)) (sym e) ∙ (ap (has_target t) here ∙ (target-swap t u.target ∙ same))
  found-as t op false same is =
      let has = was.found t op is in
      ap (has_target t) (others op.0 (λ e. let none : false ≡ true = sym (ap (has_target t) (ap (slot_at slots) e ∙ empty)) ∙ has in cc none)) ∙ has

  pub begun-indexed : IsIndexed cores now marked places
  begun-indexed = record {
    numbered = numbered-now was now n (Some u) here others own-only;
    set_count = count ∙ was.set_count;
    owed = owed-now was now n (Some u) here others own-only marked are;
    places = whole;
    told = λ m x is.
        ⊎_elim
        (λ e. told-same x (sym here ∙ (ap (slot_at now) (sym e) ∙ is)) ∙ ap (λ k. Some (op_id k)) (sym e))
        (λ ne. put x.target ∙ told-other m x.target (is_target u.target x.target) refl (was.told m x (sym (others m ne) ∙ is)))
        (cases_eq m n);
    found = λ t op is. found-as t op (is_target u.target t) refl (sym (put t) ∙ is);
  }

-- to the operation in place n something else is owed, or it is done
module _ {cores : ℕ} {slots : Slots} {sets : List OperationSet} {pending : PendingOperations} (was : IsIndexed cores slots sets pending)
    (now : Slots) (n : ℕ) (u : Unfinished) (before : slot_at slots n ≡ Some u) (owing : Option Owing) (here : slot_at now n ≡ next_of owing u)
    (others : (m : ℕ) → m ≢ n → slot_at now m ≡ slot_at slots m)
    (marked : List OperationSet) (count : length marked ≡ length sets)
    (are : (c m : ℕ) → c < length sets → contains (set_at marked c) m ≡ (if m == n then owes c (next_of owing u) else contains (set_at sets c) m))
    (places : PendingOperations) (whole : HasPlaces places)
    (released : (t : Target) → pending_at places t ≡ (if is_done (next_of owing u) && is_target u.target t then None else pending_at pending t)) where
  number : u.op.0 ≡ n
  number = was.numbered n u before

  own-next : (owing' : Option Owing) (x : Unfinished) → next_of owing' u ≡ Some x → x.op.0 ≡ n
  own-next None x is = absurd (cc is)
  own-next (Some w) x is = let e : ◌≡◌ {A = Unfinished} (record u { owing = w }) x = cc is in ap (λ (y : Unfinished). y.op.0) (sym e) ∙ number

  told-next : (owing' : Option Owing) (x : Unfinished) → next_of owing' u ≡ Some x
      → (if is_done (next_of owing' u) && is_target u.target x.target then None else pending_at pending x.target) ≡ Some (op_id n)
  told-next None x is = absurd (cc is)
  told-next (Some w) x is =
      let e : ◌≡◌ {A = Unfinished} (record u { owing = w }) x = cc is in
      ap (λ (y : Unfinished). pending_at pending y.target) (sym e) ∙ was.told n u before

  still-told : (m : ℕ) (t : Target) (d b : Bool) → m ≢ n → is_target u.target t ≡ b → pending_at pending t ≡ Some (op_id m)
      → (if d && b then None else pending_at pending t) ≡ Some (op_id m)
  still-told m t d true ne same is =
      absurd (ne (same-number m n (sym is ∙ (same-pending pending u.target t same ∙ was.told n u before))))
  still-told m t true false ne same is = is
  still-told m t false false ne same is = is

  still-has : (owing' : Option Owing) (t : Target) (op : OpId) → has_target t (Some u) ≡ true
      → (if is_done (next_of owing' u) && is_target u.target t then None else pending_at pending t) ≡ Some op → has_target t (next_of owing' u) ≡ true
  still-has (Some w) t op has is = has
  still-has None t op has is =
      absurd (let none : ◌≡◌ {A = Option OpId} None (Some op) = sym (ap (λ b. if b then None else pending_at pending t) (target-swap u.target t ∙ has)) ∙ is in cc none)

  was-pending : (t : Target) (op : OpId) (b : Bool) → (if b then None else pending_at pending t) ≡ Some op → pending_at pending t ≡ Some op
  was-pending t op true is = absurd (cc is)
  was-pending t op false is = is

  pub changed-indexed : IsIndexed cores now marked places
  changed-indexed = record {
    numbered = numbered-now was now n (next_of owing u) here others (own-next owing);
    set_count = count ∙ was.set_count;
    owed = owed-now was now n (next_of owing u) here others (own-next owing) marked are;
    places = whole;
    told = λ m x is.
        ⊎_elim
        (λ e. released x.target ∙ (told-next owing x (sym here ∙ (ap (slot_at now) (sym e) ∙ is)) ∙ ap (λ k. Some (op_id k)) (sym e)))
        (λ ne. released x.target
        ∙ still-told m x.target (is_done (next_of owing u)) (is_target u.target x.target) ne refl (was.told m x (sym (others m ne) ∙ is)))
        (cases_eq m n);
    found = λ t op is.
        let left = sym (released t) ∙ is in
        let has = was.found t op (was-pending t op (is_done (next_of owing u) && is_target u.target t) left) in
        ⊎_elim
        (λ e. ap (has_target t) (ap (slot_at now) e ∙ here)
        ∙ still-has owing t op (sym (ap (has_target t) (ap (slot_at slots) e ∙ before)) ∙ has) left)
        (λ ne. ap (has_target t) (others op.0 ne) ∙ has)
        (cases_eq op.0 n);
  }

-- an acknowledgement of core c changes nothing for another
module _ (c d : ℕ) (other : d ≢ c) (u : Unfinished) where
  after-all : (j : Job) → owes d (next_of (owing_left j c []) u) ≡ false
  after-all Job.Start = refl
  after-all Job.Stop = ne_eqb c d (λ e. other (sym e))
  after-all Job.Modify = refl

  after-left : (j : Job) (left : List ℕ) → owes d (next_of (owing_left j c left) u) ≡ has left d
  after-left j [] = after-all j
  after-left j (e ∷ left) = refl

  owes-other-in : (owing : Owing) → owed_in c owing ≡ Some Phase.Local → owes d (next_of (owing_acked c u.job owing) u) ≡ owes_in d owing
  owes-other-in (Owing.Global e) is = absurd (not-local (e.0 == c) is)
    where
      not-local : (b : Bool) → ◌≡◌ {A = Option Phase} (only_if b Phase.Global) (Some Phase.Local) → ⊥
      not-local true is' = cc is'
      not-local false is' = cc is'
  owes-other-in (Owing.Local cores) is = after-left u.job (without c cores) ∙ has-without_other c d cores other

  pub owes-other : owed_in c u.owing ≡ Some Phase.Local → owes d (next_of (owing_acked c u.job u.owing) u) ≡ owes d (Some u)
  owes-other is = owes-other-in u.owing is
