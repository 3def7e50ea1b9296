-- A run after the reply to an ask: the answer fits, and what it spends the context holds.
use Rattle.std.proofs.Common.{◌≡◌, ℕ, Bool, true, false, ◌||◌, List, [], ◌∷◌, length, Option, Some, None, refl, sym, ap, subst, ◌∙◌, IsTrue, eq-eqb, if◌then◌else◌}
use Rattle.std.specs.Option.{option_or}
use Rattle.em_log.specs.declared.ask.Answer.{Answer}
use Rattle.em_log.specs.declared.ask.Ask.{Ask}
use Rattle.em_log.specs.declared.declarations.Declarations.{Declarations}
use Rattle.em_log.specs.declared.entry.Begun.{Begun}
use Rattle.em_log.specs.declared.entry.Event.{Event}
use Rattle.em_log.specs.declared.entry.What.{What}
use Rattle.em_log.specs.declared.fault.Fault.{Fault}
use Rattle.em_log.specs.declared.graph.Config.{Config}
use Rattle.em_log.specs.declared.ids.Limits.{Limits}
use Rattle.em_log.specs.declared.ids.Note.{Note}
use Rattle.em_log.specs.Answers.{answer_of, minted_answer, block}
use Rattle.em_log.specs.Declarations.{declarations_of}
use Rattle.em_log.specs.Handles.{held, rule}
use Rattle.em_log.specs.History.{Past, has, entry_by, note_words}
use Rattle.em_log.specs.Lawful.{Lawful}
use Rattle.em_log.specs.Leads.{lead, refusal, refused_or, own, call_of, claimed, dequeued, notes_refusal, begin_refusal, count_refusal, pending_fault, operations_fault, aims_at_object, aims_at_group, unless_created, unless_running, mask_fault}
use Rattle.em_log.specs.States.{state}
use Rattle.em_log.specs.Places.{waiting}
use Rattle.em_log.specs.WellFormed.{IsWellFormed}
use Rattle.em_log.specs.Works.{fits, may_be_refused, is_end}
use Rattle.em_core.specs.declared.core_run.CoreRun.{CoreRun}
use Rattle.em_core.specs.declared.core_run.Step.{Step}
use Rattle.em_core.specs.Spent.{words_in, spent, minted, Distinct, AreAmong, AreNew}
use Rattle.em_core.specs.Steps.{unreplied, FitsStep, AreHandles}
use Rattle.em_core.proofs.Leads.{lead-shows, event_in}
use Rattle.em_body.specs.contracts.run.BodyRunWork.TheImpl.{ghosts}
use Rattle.em_body.specs.Standings.{Run}
use Rattle.em_laws.proofs.Cores.{Compared, Same, Other, compared}
use Rattle.em_desk.specs.State.{DeskState}
use Rattle.em_drive.proofs.Single.{new-handle}

-- the answer fits the ask

fits-or : (k : Declarations) (past : Past) (c : ℕ) (a : Ask) (r : Option Fault) (w : What) → IsTrue (may_be_refused a) → IsTrue (fits a (answer_of w))
    → IsTrue (fits a (answer_of (refused_or k past c (call_of a) r w)))
fits-or k past c a None w may own = own
fits-or k past c a (Some f) w may own = may

fits-claimed : (o : Option Event) → IsTrue (fits Ask.Claim (minted_answer o))
fits-claimed None = refl
fits-claimed (Some e) = refl

fits-dequeued : (a : Ask) (o : Option Event) → IsTrue (fits a Answer.Nothing) → ((e : Event) → IsTrue (fits a (Answer.Minted e))) → IsTrue (fits a (minted_answer o))
fits-dequeued a None nothing some = nothing
fits-dequeued a (Some e) nothing some = some e

pub lead-fits : (k : Declarations) (past : Past) (c : ℕ) (a : Ask) → IsTrue (fits a (answer_of (lead k past c a)))
lead-fits k past c Ask.Claim = fits-claimed (claimed k past c)
lead-fits k past c (Ask.Say v) = refl
lead-fits k past c (Ask.End cells) = refl
lead-fits k past c Ask.Cell = refl
lead-fits k past c Ask.Fail = refl
lead-fits k past c (Ask.Dequeue q) =
    fits-or k past c (Ask.Dequeue q) (refusal k past c (Ask.Dequeue q)) (own k past c (Ask.Dequeue q)) refl
    (fits-dequeued (Ask.Dequeue q) (dequeued past (waiting k past q.0 c)) refl (λ e. refl))
lead-fits k past c a = fits-or k past c a (refusal k past c a) (own k past c a) refl refl

pub fits-answer : (k : Declarations) (past : Past) (c : ℕ) (run : CoreRun Run) (a : Ask) (x : Answer) → unreplied ghosts run ≡ Some (Step.Ask a)
    → x ≡ answer_of (lead k past c a) → FitsStep (unreplied ghosts run) x
fits-answer k past c run a x waits is =
    subst (λ (s : Option Step). FitsStep s x) (sym waits) (subst (λ (y : Answer). IsTrue (fits a y)) (sym is) (lead-fits k past c a))

-- notes

or-none : {A : Type 0} (o p : Option A) → option_or o p ≡ None → (o ≡ None) × (p ≡ None)
or-none None p h = (refl, h)
or-none (Some x) p h = absurd cc

unseen : (past : Past) (c w : ℕ) (b : Bool) → (if b then Some (Fault.SpentBySend (length past)) else rule past c w) ≡ None → (b ≡ false) × (rule past c w ≡ None)
unseen past c w true h = absurd cc
unseen past c w false h = (refl, h)

-- the notes of an operation that may begin
begin-notes : (past : Past) (c : ℕ) (aims : Begun → Bool) (o : Option Fault) (notes : List Note) → begin_refusal past c aims o notes ≡ None
    → notes_refusal past c [] notes ≡ None
begin-notes past c aims o notes none =
    let a = or-none (pending_fault past aims) (option_or o (option_or (operations_fault past) (notes_refusal past c [] notes))) none in
    let b = or-none o (option_or (operations_fault past) (notes_refusal past c [] notes)) a.1 in
    (or-none (operations_fault past) (notes_refusal past c [] notes) b.1).1

or-true : (b c : Bool) → c ≡ true → (b || c) ≡ true
or-true true c is = refl
or-true false c is = is

module _ (past : Past) (c : ℕ) where
  note-parts : (seen : List ℕ) (n : Note) (ns : List Note) → notes_refusal past c seen (n ∷ ns) ≡ None
      → (has seen n.word ≡ false) × (rule past c n.word ≡ None) × (notes_refusal past c (n.word ∷ seen) ns ≡ None)
  note-parts seen n ns ok =
      let parts = or-none (if has seen n.word then Some (Fault.SpentBySend (length past)) else rule past c n.word) (notes_refusal past c (n.word ∷ seen) ns) ok in
      let first = unseen past c n.word (has seen n.word) parts.0 in
      (first.0, first.1, parts.1)

  -- no word of the notes was seen before
  notes-new : (seen : List ℕ) (ns : List Note) → notes_refusal past c seen ns ≡ None → (h : ℕ) → has seen h ≡ true → has (note_words ns) h ≡ false
  notes-new seen [] ok h is = refl
  notes-new seen (n ∷ ns) ok h is =
      let parts = note-parts seen n ns ok in
      by_test parts.0 (compared n.word h) (notes-new (n.word ∷ seen) ns parts.2 h (or-true _ (has seen h) is))
    where
      by_test : has seen n.word ≡ false → Compared n.word h → has (note_words ns) h ≡ false → has (note_words (n ∷ ns)) h ≡ false
      by_test none (Same _ e) rest = absurd (cc (ap (has seen) e, none, is))
      by_test none (Other f _) rest = rw f rest

  notes-distinct : (seen : List ℕ) (ns : List Note) → notes_refusal past c seen ns ≡ None → Distinct (note_words ns)
  notes-distinct seen [] ok = tt
  notes-distinct seen (n ∷ ns) ok =
      let parts = note-parts seen n ns ok in
      let own : has (n.word ∷ seen) n.word ≡ true = let same = eq-eqb n.word n.word refl in rw same refl in
      (notes-new (n.word ∷ seen) ns parts.2 n.word own, notes-distinct (n.word ∷ seen) ns parts.2)

  notes-among : (hs seen : List ℕ) (ns : List Note) → ((w : ℕ) → rule past c w ≡ None → has hs w ≡ true) → notes_refusal past c seen ns ≡ None
      → AreAmong (note_words ns) hs
  notes-among hs seen [] holds ok = tt
  notes-among hs seen (n ∷ ns) holds ok =
      let parts = note-parts seen n ns ok in (holds n.word parts.1, notes-among hs (n.word ∷ seen) ns holds parts.2)

-- the handles

-- what the ask spends by this answer
pub record Spends (hs : List ℕ) (a : Ask) (x : Answer) : Type 0 where
  pub different : Distinct (spent a x)
  pub among : AreAmong (spent a x) hs

-- its words are different and among these
record AreWordsOf (hs : List ℕ) (a : Ask) : Type 0 where
  different : Distinct (words_in a)
  among : AreAmong (words_in a) hs

done-spends : (k : Declarations) (past : Past) (c : ℕ) (hs : List ℕ) (a : Ask) (r : Option Fault) (w : What) → answer_of w ≡ Answer.Done
    → (r ≡ None → AreWordsOf hs a) → Spends hs a (answer_of (refused_or k past c (call_of a) r w))
done-spends k past c hs a None w done words =
    subst (Spends hs a) (sym done) (record { different = (words refl).different; among = (words refl).among })
done-spends k past c hs a (Some f) w done words = record { different = tt; among = tt }

minted-spends : (hs : List ℕ) (a : Ask) (o : Option Event) → Spends hs a (minted_answer o)
minted-spends hs a None = record { different = tt; among = tt }
minted-spends hs a (Some e) = record { different = tt; among = tt }

refused-spends : (k : Declarations) (past : Past) (c : ℕ) (hs : List ℕ) (a : Ask) (r : Option Fault) (w : What) → Spends hs a (answer_of w)
    → Spends hs a (answer_of (refused_or k past c (call_of a) r w))
refused-spends k past c hs a None w own = own
refused-spends k past c hs a (Some f) w own = record { different = tt; among = tt }

module _ (k : Declarations) (past : Past) (c : ℕ) (hs : List ℕ) (holds : (w : ℕ) → rule past c w ≡ None → has hs w ≡ true) where
  -- the words of an ask that is not refused
  no-words : (a : Ask) → words_in a ≡ [] → AreWordsOf hs a
  no-words a none = record { different = subst Distinct (sym none) tt; among = subst (λ (ws : List ℕ). AreAmong ws hs) (sym none) tt }

  one-word : (a : Ask) (h : ℕ) → words_in a ≡ h ∷ [] → rule past c h ≡ None → AreWordsOf hs a
  one-word a h one may =
      record {
        different = subst Distinct (sym one) (refl, tt);
        among = subst (λ (ws : List ℕ). AreAmong ws hs) (sym one) (holds h may, tt);
      }

  notes-words : (a : Ask) (ns : List Note) → words_in a ≡ note_words ns → notes_refusal past c [] ns ≡ None → AreWordsOf hs a
  notes-words a ns are ok =
      record {
        different = subst Distinct (sym are) (notes-distinct past c [] ns ok);
        among = subst (λ (ws : List ℕ). AreAmong ws hs) (sym are) (notes-among past c hs [] ns holds ok);
      }

  words-of : (a : Ask) → refusal k past c a ≡ None → AreWordsOf hs a
  words-of (Ask.Free w) none = one-word (Ask.Free w) w refl none
  words-of (Ask.Send w q None) none = one-word (Ask.Send w q None) w refl (or-none (rule past c w) _ none).0
  words-of (Ask.Send w q (Some g)) none = one-word (Ask.Send w q (Some g)) w refl (or-none (rule past c w) _ none).0
  words-of (Ask.Keep w) none = one-word (Ask.Keep w) w refl none
  words-of (Ask.Apply g n notes) none = notes-words (Ask.Apply g n notes) notes refl (or-none (count_refusal past g.0 n) (notes_refusal past c [] notes) none).1
  words-of (Ask.Start x notes) none =
      notes-words (Ask.Start x notes) notes refl (begin-notes past c (aims_at_object x.0) (unless_created (state k past x.0)) notes none)
  words-of (Ask.Stop x notes) none =
      notes-words (Ask.Stop x notes) notes refl (begin-notes past c (aims_at_object x.0) (unless_running (state k past x.0)) notes none)
  words-of (Ask.Modify g m notes) none =
      notes-words (Ask.Modify g m notes) notes refl (begin-notes past c (aims_at_group g.0) (mask_fault k m) notes none)
  words-of a none = no-words a refl

  pub lead-spends : (a : Ask) → Spends hs a (answer_of (lead k past c a))
  lead-spends (Ask.Alloc p kind words) =
      refused-spends k past c hs (Ask.Alloc p kind words) (refusal k past c (Ask.Alloc p kind words)) (own k past c (Ask.Alloc p kind words))
      (record { different = tt; among = tt })
  lead-spends Ask.Claim = minted-spends hs Ask.Claim (claimed k past c)
  lead-spends (Ask.Dequeue q) =
      refused-spends k past c hs (Ask.Dequeue q) (refusal k past c (Ask.Dequeue q)) (own k past c (Ask.Dequeue q))
      (minted-spends hs (Ask.Dequeue q) (dequeued past (waiting k past q.0 c)))
  lead-spends a = done-spends k past c hs a (refusal k past c a) (own k past c a) refl (words-of a)

new-minted : (hs : List ℕ) (x : Answer) → ((e : Event) → x ≡ Answer.Minted e → has hs e.handle.0 ≡ false) → AreNew (minted x) hs
new-minted hs (Answer.Minted e) new = (new e refl, tt)
new-minted hs x new = tt

end-new : (k : Declarations) (past : Past) (c : ℕ) (hs : List ℕ) (a : Ask) (x : Answer) → is_end a ≡ true → x ≡ answer_of (lead k past c a) → AreNew (minted x) hs
end-new k past c hs (Ask.End cells) x ends is = subst (λ (y : Answer). AreNew (minted y) hs) (sym is) tt
end-new k past c hs a x ends is = absurd cc

-- what is minted is held by no context yet
pub answer-new : (g : Config) (l : Limits) (past : Past) (c : ℕ) (a : Ask) (x : Answer) → let k = declarations_of g in
    IsWellFormed g → Lawful k l (block k past (entry_by c (lead k past c a))) → x ≡ answer_of (lead k past c a)
    → AreNew (minted x) (held past c)
answer-new g l past c a x formed lawful is = by_end (is_end a) refl
  where
    by_end : (b : Bool) → is_end a ≡ b → AreNew (minted x) (held past c)
    by_end false mid =
        let k = declarations_of g in
        let shows = lead-shows c a x (lead k past c a) mid (record { shapes = k; past = past; is = refl; answer = sym is }) in
        new-minted (held past c) x (λ e minted. new-handle g l past c c (lead k past c a) e formed lawful (shows.minted ∙ ap event_in minted))
    by_end true ends = end-new (declarations_of g) past c (held past c) a x ends is

pub ask-handles : (g : Config) (l : Limits) (desk : DeskState) (now : Past) (c : ℕ) (run : CoreRun Run) (a : Ask) (x : Answer) → let k = declarations_of g in
    IsWellFormed g → unreplied ghosts run ≡ Some (Step.Ask a)
    → ((w : ℕ) → rule desk.past c w ≡ None → has (held desk.past c) w ≡ true) → Lawful k l now
    → now ≡ block k desk.past (entry_by c (lead k desk.past c a)) → x ≡ answer_of (lead k desk.past c a)
    → AreHandles (held desk.past c) (unreplied ghosts run) x
ask-handles g l desk now c run a x formed waits holds lawful new is =
    let k = declarations_of g in
    let spends : Spends (held desk.past c) a x =
    subst (Spends (held desk.past c) a) (sym is) (lead-spends k desk.past c (held desk.past c) holds a) in
    let fresh = answer-new g l desk.past c a x formed (subst (λ (h : Past). Lawful k l h) new lawful) is in
    subst (λ (s : Option Step). AreHandles (held desk.past c) s x) (sym waits)
    (record { different = spends.different; among = spends.among; new = fresh })
