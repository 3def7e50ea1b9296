-- Each application notifies at most once.
use Rattle.std.proofs.Common.{◌≡◌, ℕ, suc, ◌≤◌, ◌<◌, ◌==◌, Bool, true, false, List, [], ◌∷◌, refl, sym, ◌∙◌, ap, arith}
use Rattle.em_log.specs.declared.declarations.Declarations.{Declarations}
use Rattle.em_log.specs.declared.entry.What.{What}
use Rattle.em_log.specs.declared.ids.Note.{Note}
use Rattle.em_log.specs.declared.ids.EventGroupId.{EventGroupId}
use Rattle.em_log.specs.declared.ids.Limits.{Limits}
use Rattle.em_log.specs.History.{Past, entry_by}
use Rattle.em_log.specs.EventGroups.{applications, busy, is_current}
use Rattle.em_log.specs.Lawful.{AllAllowed}
use Rattle.em_log.specs.Laws.{notifies}
use Rattle.em_moments.proofs.Asked.{and-true}
use Rattle.em_moments.proofs.Moments.{Moment, allowed-moment}
use Rattle.em_laws.proofs.Cores.{Compared, Same, Other, compared, eqb-eq}

-- an application that is to come or is current has not notified
record Notified (past : Past) (g a : ℕ) : Type 0 where
  later : applications past g < a → notifies past g a ≡ 0
  once : notifies past g a ≤ 1
  current : busy past g ≡ true → applications past g ≡ a → notifies past g a ≡ 0

notified-apply : (past : Past) (d : ℕ) (h : EventGroupId) (b n : ℕ) (notes : List Note) (g a : ℕ) → Notified past g a → Notified (entry_by d (What.Apply h b n notes) ∷ past) g a
notified-apply past d h b n notes g a was = by_test (h.0 == g) refl
  where
    by_test : (v : Bool) → (h.0 == g) ≡ v → Notified (entry_by d (What.Apply h b n notes) ∷ past) g a
    by_test true is = record {
      later = λ lt. was.later (let more : suc (applications past g) < a = rw is at lt in omega (arith, more));
      once = was.once;
      current = λ on same. was.later (let now : suc (applications past g) ≡ a = rw is at same in omega (arith, now));
    }
    by_test false is = record {
      later = λ lt. was.later (rw is at lt);
      once = was.once;
      current = λ on same. was.current (rw is at on) (rw is at same);
    }

notified-notify : (past : Past) (d : ℕ) (h : EventGroupId) (b g a : ℕ) → is_current past h.0 b ≡ true → Notified past g a → Notified (entry_by d (What.Notify h b) ∷ past) g a
notified-notify past d h b g a now was = by_test (compared h.0 g) (compared b a)
  where
    on : busy past h.0 ≡ true
    on = (and-true _ _ now).0

    number : applications past h.0 ≡ b
    number = eqb-eq _ b (and-true (busy past h.0) _ now).1

    by_test : Compared h.0 g → Compared b a → Notified (entry_by d (What.Notify h b) ∷ past) g a
    by_test (Same t e) (Same u f) =
        let here : applications past g ≡ a = ap (applications past) (sym e) ∙ number ∙ f in
        let none : notifies past g a ≡ 0 = was.current (ap (busy past) (sym e) ∙ on) here in
        record {
          later = λ lt. absurd (omega (arith, lt, here));
          once = rw (t, u, none) (omega arith);
          current = λ busy_now same. absurd (cc (rw t at busy_now));
        }
    by_test (Same t e) (Other u f) = record {
      later = λ lt. rw (t, u) (was.later lt);
      once = rw (t, u) was.once;
      current = λ busy_now same. absurd (cc (rw t at busy_now));
    }
    by_test (Other t e) v = record {
      later = λ lt. rw t (was.later lt);
      once = rw t was.once;
      current = λ busy_now same. rw t (was.current (rw t at busy_now) same);
    }

notified-abort : (past : Past) (d : ℕ) (h : EventGroupId) (g a : ℕ) → Notified past g a → Notified (entry_by d (What.Abort h) ∷ past) g a
notified-abort past d h g a was = by_test (h.0 == g) refl
  where
    by_test : (v : Bool) → (h.0 == g) ≡ v → Notified (entry_by d (What.Abort h) ∷ past) g a
    by_test true is = record { later = was.later; once = was.once; current = λ on same. absurd (cc (rw is at on)) }
    by_test false is = record { later = was.later; once = was.once; current = λ on same. was.current (rw is at on) same }

next-notified : (k : Declarations) (l : Limits) (past : Past) (d : ℕ) (w : What) (g a : ℕ) → Moment k l past d w → Notified past g a → Notified (entry_by d w ∷ past) g a
next-notified k l past d (What.Apply h b n notes) g a m was = notified-apply past d h b n notes g a was
next-notified k l past d (What.Notify h b) g a m was = notified-notify past d h b g a m.current was
next-notified k l past d (What.Abort h) g a m was = notified-abort past d h g a was
next-notified k l past d w g a m was = record { later = was.later; once = was.once; current = was.current }

notified : (k : Declarations) (l : Limits) (past : Past) → AllAllowed k l past → (g a : ℕ) → Notified past g a
notified k l [] all g a = record { later = λ lt. refl; once = omega arith; current = λ on same. refl }
notified k l (e ∷ past) all g a = next-notified k l past e.core.0 e.what g a (allowed-moment k l past e all.1 all.0) (notified k l past all.1 g a)

-- each application notifies at most once
pub notified-once : (k : Declarations) (l : Limits) (past : Past) → AllAllowed k l past → (g a : ℕ) → notifies past g a ≤ 1
notified-once k l past all g a = (notified k l past all g a).once
