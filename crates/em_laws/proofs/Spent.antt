-- How a handle is spent: once, and the notes of an ask each by that ask.
use Rattle.std.proofs.Common.{◌≡◌, ℕ, suc, ◌≤◌, ◌<◌, ◌==◌, Bool, true, false, ◌&&◌, List, [], ◌∷◌, length, Option, Some, None, refl, sym, ◌∙◌, subst, ap, if◌then◌else◌, arith}
use Rattle.std.specs.Option.{option_or}
use Rattle.em_log.specs.declared.declarations.Declarations.{Declarations}
use Rattle.em_log.specs.declared.entry.Entry.{Entry}
use Rattle.em_log.specs.declared.entry.What.{What}
use Rattle.em_log.specs.declared.entry.Event.{Event}
use Rattle.em_log.specs.declared.entry.Begun.{Begun}
use Rattle.em_log.specs.declared.fault.Fault.{Fault}
use Rattle.em_log.specs.declared.ids.Note.{Note}
use Rattle.em_log.specs.declared.ids.OpId.{OpId}
use Rattle.em_log.specs.declared.ids.EventGroupId.{EventGroupId}
use Rattle.em_log.specs.declared.ids.Limits.{Limits}
use Rattle.em_log.specs.History.{Past, entry_by, has, note_words, minted_in}
use Rattle.em_log.specs.Handles.{Minting, minting_by, minting, Spending, spends, spent_by, spending, rule_of, rule}
use Rattle.em_log.specs.Operations.{Operation, operation, op_id}
use Rattle.em_log.specs.EventGroups.{applications, busy, is_current, applied_notes}
use Rattle.em_log.specs.Places.{application_end}
use Rattle.em_log.specs.Leads.{notes_refusal}
use Rattle.em_log.specs.Lawful.{AllAllowed}
use Rattle.em_moments.proofs.Asked.{and-true}
use Rattle.em_moments.proofs.Moments.{Moment, BeginMoment, allowed-moment}
use Rattle.em_laws.proofs.Cores.{Compared, Same, Other, compared, eqb-eq}
use Rattle.em_laws.proofs.Begun.{BegunAfter, BegunBefore, BeginsNow, begun-after}
use Rattle.em_laws.proofs.Counts.{occ}

-- spending

spent-some : (b : Bool) (past : Past) (e : Entry) (s : Spending) → spent_by b past e (Some s) ≡ Some s
spent-some true past e s = refl
spent-some false past e s = refl

-- a handle stays spent as it was
pub spending-kept : (past : Past) (d : ℕ) (w : What) (h : ℕ) (s : Spending) → spending past h ≡ Some s → spending (entry_by d w ∷ past) h ≡ Some s
spending-kept past d w h s is = rw is (spent-some (spends past d w h) past (entry_by d w) s)

-- a handle that is spent now
pub spends-now : (past : Past) (d : ℕ) (w : What) (h : ℕ) → spending past h ≡ None → spends past d w h ≡ true
    → spending (entry_by d w ∷ past) h ≡ Some (record { before = past; core = d; what = w })
spends-now past d w h none now = rw (none, now) refl

pub spends-other : (past : Past) (d : ℕ) (w : What) (h : ℕ) → spends past d w h ≡ false → spending (entry_by d w ∷ past) h ≡ spending past h
spends-other past d w h not_now = rw not_now refl

pub record IsUsable (past : Past) (h : ℕ) : Type 0 where
  pub unspent : spending past h ≡ None
  pub origin : Minting
  pub minted : minting past h ≡ Some origin

-- a handle that may be used was minted and is not spent
pub usable : (past : Past) (c h : ℕ) → rule past c h ≡ None → IsUsable past h
usable past c h ok = by_rule (minting past h) refl (spending past h) refl ok
  where
    by_rule : (m : Option Minting) → minting past h ≡ m → (s : Option Spending) → spending past h ≡ s → rule_of c h m s ≡ None → IsUsable past h
    by_rule None at s is ok = absurd cc
    by_rule (Some m) at (Some s) is ok = absurd cc
    by_rule (Some m) at None is ok = record { unspent = is; origin = m; minted = at }

minting-some : (h c : ℕ) (o : Option Event) (m : Minting) → (n : Minting) × (minting_by h c o (Some m) ≡ Some n)
minting-some h c None m = (m, refl)
minting-some h c (Some e) m = by_test (e.handle.0 == h)
  where
    by_test : (b : Bool) → (n : Minting) × ((if b then Some (record { core = c; event = e }) else Some m) ≡ Some n)
    by_test true = (record { core = c; event = e }, refl)
    by_test false = (m, refl)

-- a minted handle stays minted
pub minting-kept : (past : Past) (d : ℕ) (w : What) (h : ℕ) (m : Minting) → minting past h ≡ Some m → (n : Minting) × (minting (entry_by d w ∷ past) h ≡ Some n)
minting-kept past d w h m is = let n = minting-some h d (minted_in w) m in (n.0, rw is n.1)

-- notes

or-none : {A : Type 0} (o p : Option A) → option_or o p ≡ None → (o ≡ None) × (p ≡ None)
or-none None p h = (refl, h)
or-none (Some x) p h = absurd cc

not-seen : (past : Past) (c w : ℕ) (b : Bool) → (if b then Some (Fault.SpentBySend (length past)) else rule past c w) ≡ None → (b ≡ false) × (rule past c w ≡ None)
not-seen past c w true h = absurd cc
not-seen past c w false h = (refl, h)

-- the words of notes that may be used
pub notes-usable : (past : Past) (c : ℕ) (seen : List ℕ) (ns : List Note) → notes_refusal past c seen ns ≡ None → (h : ℕ) → has (note_words ns) h ≡ true → rule past c h ≡ None
notes-usable past c seen [] ok h there = absurd cc
notes-usable past c seen (n ∷ ns) ok h there = by_test (compared n.word h) (notes-usable past c (n.word ∷ seen) ns both.1 h)
  where
    both : ((if has seen n.word then Some (Fault.SpentBySend (length past)) else rule past c n.word) ≡ None) × (notes_refusal past c (n.word ∷ seen) ns ≡ None)
    both = or-none _ _ ok

    by_test : Compared n.word h → (has (note_words ns) h ≡ true → rule past c h ≡ None) → rule past c h ≡ None
    by_test (Same _ e) later = ap (rule past c) (sym e) ∙ (not-seen past c n.word (has seen n.word) both.0).1
    by_test (Other f _) later = later (rw f at there)

pub record Distinct (seen : List ℕ) (ws : List ℕ) (h : ℕ) : Type 0 where
  pub once : occ h ws ≤ 1
  pub fresh : has seen h ≡ true → occ h ws ≡ 0

-- no word stands twice among them
pub notes-once : (past : Past) (c : ℕ) (seen : List ℕ) (ns : List Note) → notes_refusal past c seen ns ≡ None → (h : ℕ) → Distinct seen (note_words ns) h
notes-once past c seen [] ok h = record { once = omega arith; fresh = λ s. refl }
notes-once past c seen (n ∷ ns) ok h = by_test (compared n.word h) (notes-once past c (n.word ∷ seen) ns both.1 h)
  where
    both : ((if has seen n.word then Some (Fault.SpentBySend (length past)) else rule past c n.word) ≡ None) × (notes_refusal past c (n.word ∷ seen) ns ≡ None)
    both = or-none _ _ ok

    unseen : has seen n.word ≡ false
    unseen = (not-seen past c n.word (has seen n.word) both.0).0

    by_test : Compared n.word h → Distinct (n.word ∷ seen) (note_words ns) h → Distinct seen (n.word ∷ note_words ns) h
    by_test (Same t e) later =
        let none : occ h (note_words ns) ≡ 0 = later.fresh (rw t refl) in
        record {
          once = rw (t, none) (omega arith);
          fresh = λ s. absurd (cc (s, unseen, ap (has seen) e));
        }
    by_test (Other f e) later = record { once = rw f later.once; fresh = λ s. rw f (later.fresh (rw f s)) }

-- the notes of an operation are spent by its begin
pub record IsBegunBy (past : Past) (h n : ℕ) : Type 0 where
  pub before : Past
  pub core : ℕ
  pub op : OpId
  pub job : Begun
  pub notes : List Note
  pub spent : spending past h ≡ Some (record { before = before; core = core; what = What.Begin op job notes })
  pub number : op.0 ≡ n

pub record NotesSpent (past : Past) (n : ℕ) (notes : List Note) : Type 0 where
  pub spent : (h : ℕ) → has (note_words notes) h ≡ true → IsBegunBy past h n
  pub once : (h : ℕ) → occ h (note_words notes) ≤ 1

begun-by-kept : (past : Past) (d : ℕ) (w : What) (h n : ℕ) → IsBegunBy past h n → IsBegunBy (entry_by d w ∷ past) h n
begun-by-kept past d w h n b =
    record { before = b.before; core = b.core; op = b.op; job = b.job; notes = b.notes; spent = spending-kept past d w h _ b.spent; number = b.number }

next-notes : (k : Declarations) (l : Limits) (past : Past) (d : ℕ) (w : What) (n : ℕ) (o : Operation) → Moment k l past d w
    → (operation past n ≡ Some o → NotesSpent past n o.notes) → operation (entry_by d w ∷ past) n ≡ Some o → NotesSpent (entry_by d w ∷ past) n o.notes
next-notes k l past d w n o m older at = by_begun (begun-after past d w n o at)
  where
    now : BeginMoment k past d (op_id n) o.job o.notes → NotesSpent (entry_by d (What.Begin (op_id n) o.job o.notes) ∷ past) n o.notes
    now b = record {
      spent = λ h there.
          let u = usable past d h (notes-usable past d [] o.notes b.usable h there) in
          record {
            before = past;
            core = d;
            op = op_id n;
            job = o.job;
            notes = o.notes;
            spent = spends-now past d (What.Begin (op_id n) o.job o.notes) h u.unspent there;
            number = refl;
          };
      once = λ h. (notes-once past d [] o.notes b.usable h).once;
    }

    by_begun : BegunAfter past n o d w → NotesSpent (entry_by d w ∷ past) n o.notes
    by_begun (BegunBefore was) =
        let s = older was in record { spent = λ h there. begun-by-kept past d w h n (s.spent h there); once = s.once }
    by_begun (BeginsNow e core) =
        subst (λ v. NotesSpent (entry_by d v ∷ past) n o.notes) (sym e) (now (subst (Moment k l past d) e m))

pub notes-spent : (k : Declarations) (l : Limits) (past : Past) → AllAllowed k l past → (n : ℕ) (o : Operation) → operation past n ≡ Some o → NotesSpent past n o.notes
notes-spent k l [] all n o at = absurd (cc at)
notes-spent k l (e ∷ past) all n o at =
    next-notes k l past e.core.0 e.what n o (allowed-moment k l past e all.1 all.0) (notes-spent k l past all.1 n o) at

-- the notes of an application are spent by its apply
pub record IsAppliedBy (past : Past) (h g a : ℕ) : Type 0 where
  pub before : Past
  pub core : ℕ
  pub group : EventGroupId
  pub app : ℕ
  pub count : ℕ
  pub notes : List Note
  pub spent : spending past h ≡ Some (record { before = before; core = core; what = What.Apply group app count notes })
  pub same_group : group.0 ≡ g
  pub number : app ≡ a

pub record AppliedSpent (past : Past) (g : ℕ) : Type 0 where
  pub spent : (h : ℕ) → has (note_words (applied_notes past g)) h ≡ true → IsAppliedBy past h g (applications past g)
  pub once : (h : ℕ) → occ h (note_words (applied_notes past g)) ≤ 1

applied-by-kept : (past : Past) (d : ℕ) (w : What) (h g a : ℕ) → IsAppliedBy past h g a → IsAppliedBy (entry_by d w ∷ past) h g a
applied-by-kept past d w h g a b = record {
  before = b.before;
  core = b.core;
  group = b.group;
  app = b.app;
  count = b.count;
  notes = b.notes;
  spent = spending-kept past d w h _ b.spent;
  same_group = b.same_group;
  number = b.number;
}

next-applied : (k : Declarations) (l : Limits) (past : Past) (d : ℕ) (w : What) (g : ℕ) → Moment k l past d w → AppliedSpent past g → AppliedSpent (entry_by d w ∷ past) g
next-applied k l past d (What.Apply i a n notes) g m older = by_test (compared i.0 g)
  where
    now : Past
    now = entry_by d (What.Apply i a n notes) ∷ past

    by_test : Compared i.0 g → AppliedSpent now g
    by_test (Same t e) =
        let number : a ≡ applications now g = m.number ∙ omega arith ∙ ap suc (ap (applications past) e) ∙ (rw t refl) in
        record {
          spent = λ h there.
              let here : has (note_words notes) h ≡ true = rw t at there in
              let u = usable past d h (notes-usable past d [] notes m.usable h here) in
              record {
                before = past;
                core = d;
                group = i;
                app = a;
                count = n;
                notes = notes;
                spent = spends-now past d (What.Apply i a n notes) h u.unspent here;
                same_group = e;
                number = number;
              };
          once = λ h. rw t ((notes-once past d [] notes m.usable h).once);
        }
    by_test (Other f e) = record {
      spent = λ h there. rw f (applied-by-kept past d (What.Apply i a n notes) h g (applications past g) (older.spent h (rw f at there)));
      once = λ h. rw f (older.once h);
    }
next-applied k l past d w g m older =
    record { spent = λ h there. applied-by-kept past d w h g (applications past g) (older.spent h there); once = older.once }

pub applied-spent : (k : Declarations) (l : Limits) (past : Past) → AllAllowed k l past → (g : ℕ) → AppliedSpent past g
applied-spent k l [] all g = record { spent = λ h there. absurd cc; once = λ h. omega arith }
applied-spent k l (e ∷ past) all g = next-applied k l past e.core.0 e.what g (allowed-moment k l past e all.1 all.0) (applied-spent k l past all.1 g)

-- the end of applications

-- an application that is to come or is current has not ended
pub record Unended (past : Past) (g a : ℕ) : Type 0 where
  pub later : applications past g < a → application_end past g a ≡ None
  pub current : busy past g ≡ true → applications past g ≡ a → application_end past g a ≡ None

unended-apply : (past : Past) (d : ℕ) (h : EventGroupId) (b n : ℕ) (notes : List Note) (g a : ℕ) → Unended past g a → Unended (entry_by d (What.Apply h b n notes) ∷ past) g a
unended-apply past d h b n notes g a was = by_test (h.0 == g) refl
  where
    by_test : (v : Bool) → (h.0 == g) ≡ v → Unended (entry_by d (What.Apply h b n notes) ∷ past) g a
    by_test true is = record {
      later = λ lt. was.later (let more : suc (applications past g) < a = rw is at lt in omega (arith, more));
      current = λ on same. was.later (let now : suc (applications past g) ≡ a = rw is at same in omega (arith, now));
    }
    by_test false is = record {
      later = λ lt. was.later (rw is at lt);
      current = λ on same. was.current (rw is at on) (rw is at same);
    }

unended-notify : (past : Past) (d : ℕ) (h : EventGroupId) (b g a : ℕ) → is_current past h.0 b ≡ true → Unended past g a → Unended (entry_by d (What.Notify h b) ∷ past) g a
unended-notify past d h b g a now was = by_test (compared h.0 g) (compared b a)
  where
    number : applications past h.0 ≡ b
    number = eqb-eq _ b (and-true (busy past h.0) _ now).1

    by_test : Compared h.0 g → Compared b a → Unended (entry_by d (What.Notify h b) ∷ past) g a
    by_test (Same t e) (Same u f) =
        let here : applications past g ≡ a = ap (applications past) (sym e) ∙ number ∙ f in
        record { later = λ lt. absurd (omega (arith, lt, here)); current = λ on same. absurd (cc (rw t at on)) }
    by_test (Same t e) (Other u f) = record { later = λ lt. rw (t, u) (was.later lt); current = λ on same. absurd (cc (rw t at on)) }
    by_test (Other t e) v = record { later = λ lt. rw t (was.later lt); current = λ on same. rw t (was.current (rw t at on) same) }

unended-abort : (past : Past) (d : ℕ) (h : EventGroupId) (g a : ℕ) → Unended past g a → Unended (entry_by d (What.Abort h) ∷ past) g a
unended-abort past d h g a was = by_test (compared h.0 g) (compared (applications past g) a)
  where
    by_test : Compared h.0 g → Compared (applications past g) a → Unended (entry_by d (What.Abort h) ∷ past) g a
    by_test (Same t e) (Same u f) = record { later = λ lt. absurd (omega (arith, lt, f)); current = λ on same. absurd (cc (rw t at on)) }
    by_test (Same t e) (Other u f) = record { later = λ lt. rw (t, u) (was.later lt); current = λ on same. absurd (cc (rw t at on)) }
    by_test (Other t e) v = record { later = λ lt. rw t (was.later lt); current = λ on same. rw t (was.current (rw t at on) same) }

next-unended : (k : Declarations) (l : Limits) (past : Past) (d : ℕ) (w : What) (g a : ℕ) → Moment k l past d w → Unended past g a → Unended (entry_by d w ∷ past) g a
next-unended k l past d (What.Apply h b n notes) g a m was = unended-apply past d h b n notes g a was
next-unended k l past d (What.Notify h b) g a m was = unended-notify past d h b g a m.current was
next-unended k l past d (What.Abort h) g a m was = unended-abort past d h g a was
next-unended k l past d w g a m was = record { later = was.later; current = was.current }

pub unended : (k : Declarations) (l : Limits) (past : Past) → AllAllowed k l past → (g a : ℕ) → Unended past g a
unended k l [] all g a = record { later = λ lt. refl; current = λ on same. refl }
unended k l (e ∷ past) all g a = next-unended k l past e.core.0 e.what g a (allowed-moment k l past e all.1 all.0) (unended k l past all.1 g a)

-- an application that has notified stays so
pub notified-kept : (k : Declarations) (l : Limits) (past : Past) (d : ℕ) (w : What) (g a : ℕ) → AllAllowed k l past → Moment k l past d w
    → application_end past g a ≡ Some true → application_end (entry_by d w ∷ past) g a ≡ Some true
notified-kept k l past d (What.Notify h b) g a all m is = by_test ((h.0 == g) && (b == a))
  where
    by_test : (v : Bool) → (if v then Some true else application_end past g a) ≡ Some true
    by_test true = refl
    by_test false = is
notified-kept k l past d (What.Abort h) g a all m is = by_test (compared h.0 g) (compared (applications past g) a)
  where
    by_test : Compared h.0 g → Compared (applications past g) a → (if (h.0 == g) && (applications past g == a) then Some false else application_end past g a) ≡ Some true
    by_test (Same t e) (Same u f) =
        let none : application_end past g a ≡ None = (unended k l past all g a).current (ap (busy past) (sym e) ∙ m.busy) f in absurd (cc (none, is))
    by_test (Same t e) (Other u f) = rw (t, u) is
    by_test (Other t e) v = rw t is
notified-kept k l past d w g a all m is = is
