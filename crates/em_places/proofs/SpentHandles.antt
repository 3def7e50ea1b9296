-- What is known of a spent handle: it was minted, and an operation or an application has it among its notes.
use Rattle.std.proofs.Common.{◌≡◌, ℕ, suc, ◌≤◌, ◌==◌, Bool, true, List, [], ◌∷◌, Option, Some, None, refl, sym, ◌∙◌, subst, ap, if◌then◌else◌, arith}
use Rattle.em_laws.proofs.Usable.{Usable}
use Rattle.std.proofs.lemmas.Bool.{eq-eqb}
use Rattle.em_log.specs.declared.declarations.Declarations.{Declarations}
use Rattle.em_log.specs.declared.entry.Begun.{Begun}
use Rattle.em_log.specs.declared.entry.Event.{Event}
use Rattle.em_log.specs.declared.entry.What.{What}
use Rattle.em_log.specs.declared.ids.EventGroupId.{EventGroupId}
use Rattle.em_log.specs.declared.ids.Limits.{Limits}
use Rattle.em_log.specs.declared.ids.Note.{Note}
use Rattle.em_log.specs.declared.ids.OpId.{OpId}
use Rattle.em_log.specs.History.{Past, entry_by, has, minted_in, note_words}
use Rattle.em_log.specs.Handles.{Minting, minting_by, minting, Spending, spends, spending}
use Rattle.em_log.specs.Operations.{Operation, operation, operations, done}
use Rattle.em_log.specs.EventGroups.{applications, applied_notes}
use Rattle.em_log.specs.Lawful.{AllAllowed}
use Rattle.em_log.specs.Laws.{AreDifferent}
use Rattle.em_moments.proofs.Moments.{Moment, ApplyMoment, allowed-moment}
use Rattle.em_laws.specs.Minted.{with_handle, minted}
use Rattle.em_laws.proofs.Begun.{begun-kept, numbered}
use Rattle.em_laws.proofs.Cores.{Compared, Same, Other, compared, none-some}
use Rattle.em_laws.proofs.Dones.{Finished, FinishedChange, FinishedStart, FinishedStop, AllFinished, finished}
use Rattle.em_laws.proofs.Spent.{usable}
use Rattle.em_laws.proofs.Steps.{always-here}
use Rattle.em_places.proofs.Spending.{SpentBy, SpentBefore, SpentNow, spent-some}

-- it was minted

pub spent-minted : (past : Past) (h : ℕ) (s : Spending) → Usable past → spending past h ≡ Some s → (m : Minting) × (minting past h ≡ Some m)
spent-minted past h s usable is = by_minting (minting past h) refl
  where
    by_minting : (o : Option Minting) → minting past h ≡ o → (m : Minting) × (minting past h ≡ Some m)
    by_minting None at = absurd (let none = usable.unminted h at in cc (none, is))
    by_minting (Some m) at = (m, at)

minting-has : (past : Past) (h : ℕ) (m : Minting) → minting past h ≡ Some m → has (minted past) h ≡ true
minting-has [] h m is = absurd (none-some m is)
minting-has (e ∷ past) h m is = by_mint (minted_in e.what) is (minting-has past h m)
  where
    by_mint : (o : Option Event) → minting_by h e.core.0 o (minting past h) ≡ Some m → (minting past h ≡ Some m → has (minted past) h ≡ true) → has (with_handle o (minted past)) h ≡ true
    by_mint None is older = older is
    by_mint (Some v) is older = by_test (compared v.handle.0 h) is
      where
        by_test : Compared v.handle.0 h → (if v.handle.0 == h then Some (record { core = e.core.0; event = v }) else minting past h) ≡ Some m → has (v.handle.0 ∷ minted past) h ≡ true
        by_test (Same t same) is = rw t refl
        by_test (Other t ne) is = let there : has (minted past) h ≡ true = older (rw t at is) in rw t there

-- a handle that is minted now was not spent before
pub mint-unspent : (past : Past) (e : Event) → Usable past → AreDifferent (e.handle.0 ∷ minted past) → spending past e.handle.0 ≡ None
mint-unspent past e usable once = by_spent (spending past e.handle.0) refl
  where
    by_spent : (o : Option Spending) → spending past e.handle.0 ≡ o → o ≡ None
    by_spent None is = refl
    by_spent (Some s) is =
        let m = spent-minted past e.handle.0 s usable is in
        let there = minting-has past e.handle.0 m.0 m.1 in absurd (cc (there, once.0))

-- notes

pub begun-of : (k : Declarations) (l : Limits) (past : Past) (h : ℕ) (s : Spending) (op : OpId) (job : Begun) (notes : List Note) → AllAllowed k l past → spending past h ≡ Some s → s.what ≡ What.Begin op job notes
    → (o : Operation) × (operation past op.0 ≡ Some o) × (o.notes ≡ notes) × (has (note_words notes) h ≡ true)
begun-of k l [] h s op job notes all is what = absurd cc
begun-of k l (e ∷ past) h s op job notes all is what =
    by_spent (spent-some (spends past e.core.0 e.what h) past e (spending past h) s is) (λ t. begun-of k l past h s op job notes all.1 t what)
  where
    Known : Past → Type 0
    Known p = (o : Operation) × (operation p op.0 ≡ Some o) × (o.notes ≡ notes) × (has (note_words notes) h ≡ true)

    by_spent : SpentBy past e (spends past e.core.0 e.what h) (spending past h) s → (spending past h ≡ Some s → Known past) → Known (e ∷ past)
    by_spent (SpentBefore t) older =
        let k2 = older t in
        (k2.0, begun-kept k l past e.core.0 e.what op.0 k2.0 all.1 (allowed-moment k l past e all.1 all.0) k2.1, k2.2, k2.3)
    by_spent (SpentNow b t) older =
        let w : e.what ≡ What.Begin op job notes = sym (ap (λ (v : Spending). v.what) t) ∙ what in
        let now : operation (entry_by e.core.0 (What.Begin op job notes) ∷ past) op.0 ≡ Some (record { core = e.core.0; job = job; notes = notes }) = rw (eq-eqb op.0 op.0 refl) refl in (
          record { core = e.core.0; job = job; notes = notes },
          subst (λ v. operation (entry_by e.core.0 v ∷ past) op.0 ≡ Some (record { core = e.core.0; job = job; notes = notes })) (sym w) now,
          refl,
          subst (λ v. spends past e.core.0 v h ≡ true) w b,
        )

-- an operation that begins now is not done
pub not-done-yet : (k : Declarations) (l : Limits) (past : Past) (n : ℕ) → AllAllowed k l past → n ≡ operations past → done past n ≡ None
not-done-yet k l past n all is = by_done (done past n) refl
  where
    begun : Finished k past n → (o : Operation) × (operation past n ≡ Some o)
    begun (FinishedChange o g m at job acked) = (o, at)
    begun (FinishedStart o x at job f) = (o, at)
    begun (FinishedStop o x at job f) = (o, at)

    by_done : (o : Option Bool) → done past n ≡ o → o ≡ None
    by_done None at = refl
    by_done (Some b) at =
        let o = begun (always-here (AllFinished k) past (finished k l past all) n b at) in
        let lt = numbered k l past all n o.0 o.1 in absurd (omega (arith, lt, is))

-- what an apply spent is among its notes
pub apply-names : (past : Past) (h : ℕ) (s : Spending) (g : EventGroupId) (b n : ℕ) (notes : List Note) → spending past h ≡ Some s → s.what ≡ What.Apply g b n notes
    → has (note_words notes) h ≡ true
apply-names [] h s g b n notes is what = absurd cc
apply-names (e ∷ past) h s g b n notes is what =
    by_spent (spent-some (spends past e.core.0 e.what h) past e (spending past h) s is) (λ t. apply-names past h s g b n notes t what)
  where
    by_spent : SpentBy past e (spends past e.core.0 e.what h) (spending past h) s → (spending past h ≡ Some s → has (note_words notes) h ≡ true) → has (note_words notes) h ≡ true
    by_spent (SpentBefore t) older = older t
    by_spent (SpentNow v t) older =
        let w : e.what ≡ What.Apply g b n notes = sym (ap (λ (x : Spending). x.what) t) ∙ what in subst (λ x. spends past e.core.0 x h ≡ true) w v

-- an application's notes, while it is the last
record AppliedNotes (past : Past) (g b : ℕ) (notes : List Note) : Type 0 where
  reached : b ≤ applications past g
  current : applications past g ≡ b → applied_notes past g ≡ notes

notes-kept : (past : Past) (d : ℕ) (w : What) (g b : ℕ) (notes : List Note) → AppliedNotes past g b notes → AppliedNotes (entry_by d w ∷ past) g b notes
notes-kept past d (What.Apply i c n new) g b notes was = by_test (compared i.0 g)
  where
    by_test : Compared i.0 g → AppliedNotes (entry_by d (What.Apply i c n new) ∷ past) g b notes
    by_test (Same t e) =
        let le = was.reached in
        record { reached = rw t (omega (arith, le)); current = λ is. absurd (let now : suc (applications past g) ≡ b = rw t at is in omega (arith, le, now)) }
    by_test (Other f ne) = record { reached = rw f was.reached; current = λ is. rw f (was.current (rw f at is)) }
notes-kept past d w g b notes was = record { reached = was.reached; current = was.current }

applied-with : (k : Declarations) (l : Limits) (past : Past) (h : ℕ) (s : Spending) (g : EventGroupId) (b n : ℕ) (notes : List Note) → AllAllowed k l past → spending past h ≡ Some s → s.what ≡ What.Apply g b n notes
    → AppliedNotes past g.0 b notes
applied-with k l [] h s g b n notes all is what = absurd cc
applied-with k l (e ∷ past) h s g b n notes all is what =
    by_spent (spent-some (spends past e.core.0 e.what h) past e (spending past h) s is) (λ t. applied-with k l past h s g b n notes all.1 t what)
  where
    made : ApplyMoment k past e.core.0 g.0 b n notes → AppliedNotes (entry_by e.core.0 (What.Apply g b n notes) ∷ past) g.0 b notes
    made m =
        let own = eq-eqb g.0 g.0 refl in
        let number = m.number in
        record { reached = rw own (omega (arith, number)); current = λ is. rw own refl }

    by_spent : SpentBy past e (spends past e.core.0 e.what h) (spending past h) s → (spending past h ≡ Some s → AppliedNotes past g.0 b notes) → AppliedNotes (e ∷ past) g.0 b notes
    by_spent (SpentBefore t) older = notes-kept past e.core.0 e.what g.0 b notes (older t)
    by_spent (SpentNow v t) older =
        let w : e.what ≡ What.Apply g b n notes = sym (ap (λ (x : Spending). x.what) t) ∙ what in
        let m : Moment k l past e.core.0 (What.Apply g b n notes) = subst (Moment k l past e.core.0) w (allowed-moment k l past e all.1 all.0) in
        subst (λ x. AppliedNotes (entry_by e.core.0 x ∷ past) g.0 b notes) (sym w) (made m)

pub applied-list : (k : Declarations) (l : Limits) (past : Past) (h : ℕ) (s : Spending) (g : EventGroupId) (b n : ℕ) (notes : List Note) → AllAllowed k l past → spending past h ≡ Some s → s.what ≡ What.Apply g b n notes
    → applications past g.0 ≡ b → applied_notes past g.0 ≡ notes
applied-list k l past h s g b n notes all is what here = (applied-with k l past h s g b n notes all is what).current here
