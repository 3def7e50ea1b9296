-- Between asks the calls on event groups are refused by the steps as by the history, and a leaving counts down as there.
use Rattle.std.proofs.Common.{◌≡◌, ℕ, zero, suc, ◌+◌, ◌-◌, ◌<◌, ◌==◌, ◌&&◌, ◌||◌, not, Bool, true, false, List, [], ◌∷◌, Option, Some, None, if◌then◌else◌, arith, refl, ap, sym, ◌∙◌, subst}
use Rattle.std.specs.Prelude.{nat_lt}
use Rattle.std.proofs.lemmas.Bool.{eq-eqb, ne_eqb}
use Rattle.em_log.specs.declared.declarations.Declarations.{Declarations}
use Rattle.em_log.specs.declared.entry.What.{What}
use Rattle.em_log.specs.declared.fault.Fault.{Fault}
use Rattle.em_log.specs.declared.ids.Cells.{Cells}
use Rattle.em_log.specs.declared.ids.Limits.{Limits}
use Rattle.em_log.specs.declared.ids.Note.{Note}
use Rattle.em_log.specs.declared.ids.Stamp.{Stamp}
use Rattle.em_log.specs.History.{Past, entry_by}
use Rattle.em_log.specs.EventGroups.{is_stamp, open_stamp}
use Rattle.em_log.specs.EventGroups as log
use Rattle.em_log.specs.Leads.{count_limit}
use Rattle.em_log.specs.Tails.{note_results, notification}
use Rattle.em_log.specs.Lawful.{Lawful}
use Rattle.em_egroups.specs.declared.group.Counted.{Counted}
use Rattle.em_egroups.specs.Steps.{Left}
use Rattle.em_egroups.specs.Applications as part
use Rattle.em_egroups.specs.Refusals.{counted_to, counted}
use Rattle.em_context_parts.specs.EgroupSteps.{egroup_steps}
use Rattle.em_context_parts.specs.EgroupAlike.{EgroupsAlike, RefusalsAlike, left_by, told_of, Leaves}
use Rattle.em_context_parts.specs.Memberships.{HasCome, one_if}
use Rattle.em_context_parts.proofs.CountsLeft.{counts-left}
use Rattle.em_context_parts.proofs.Egroups.{all-fitting, egroups-alike, count-left}
use Rattle.em_context_parts.proofs.OpenMembers.{members-within}
use Rattle.em_context_parts.proofs.StampsCome.{open-come}
use Rattle.em_context_parts.proofs.Sums.{term-le}

-- between asks the same groups are busy
busy-between : (k : Declarations) (l : Limits) (past : Past) → Lawful k l past → (g : ℕ) → part.busy (egroup_steps past) g ≡ log.busy past g
busy-between k l past lawful g = (egroups-alike k l past lawful.each).busy g ∙ by_busy (log.busy past g) refl
  where
    by_busy : (b : Bool) → log.busy past g ≡ b → (b && not (log.count past g == 0)) ≡ b
    by_busy true on =
        let some = counts-left k l past lawful.each lawful.whole g on in
        ap not (ne_eqb (log.count past g) 0 (λ none. omega (arith, some, none)))
    by_busy false on = refl

module _ (k : Declarations) (l : Limits) (past : Past) (lawful : Lawful k l past) where
  alike : EgroupsAlike past
  alike = egroups-alike k l past lawful.each

  same-current : (g a : ℕ) → part.is_current (egroup_steps past) g a ≡ log.is_current past g a
  same-current g a = (λ i. busy-between k l past lawful g i && (alike.applications g i == a))

  pub refusals-alike : RefusalsAlike past
  refusals-alike = record {
    current = same-current;
    apply = λ g n.
        (λ i. if busy-between k l past lawful g i then Some (Fault.GroupBusy (alike.count g i))
        else if (n == 0) || nat_lt count_limit n then Some (Fault.BadCount 0)
        else None);
    stamp = λ g.
        (λ i. if not (busy-between k l past lawful g i) then Some (Fault.GroupIdle (record { 0 = g }))
        else if alike.total g i == part.members (egroup_steps past) g (alike.applications g i) then Some (Fault.BadCount (alike.total g i))
        else None)
        ∙ ap (λ m. if not (log.busy past g) then Some (Fault.GroupIdle (record { 0 = g }))
        else if log.total past g == m then Some (Fault.BadCount (log.total past g))
        else None)
        (alike.members g (log.applications past g));
    increment = λ s n.
        (λ i. if not (same-current s.group.0 s.app i) then Some (Fault.GroupIdle s.group)
        else if (n == 0) || nat_lt count_limit (alike.total s.group.0 i + n) then Some (Fault.BadCount (alike.total s.group.0 i))
        else None);
    abort = λ g. (λ i. if busy-between k l past lawful g.0 i then None else Some (Fault.GroupIdle g));
  }

  -- a receive of a member that is open has not left
  open-member : (c : ℕ) (s : Stamp) → c < k.cores → open_stamp past c ≡ Some s → log.departed past s.group.0 s.app < log.members past s.group.0 s.app
  open-member c s lt is =
      let within = members-within k l past lawful.each s.group.0 s.app in
      let term = term-le (λ d. one_if (is_stamp s.group.0 s.app (open_stamp past d))) c 0 k.cores (omega arith) (omega (arith, lt)) in
      let own : one_if (is_stamp s.group.0 s.app (open_stamp past c)) ≡ 1 = rw (is, eq-eqb s.group.0 s.group.0 refl, eq-eqb s.app s.app refl) refl in
      omega (arith, within, term, own)

  told-of : (now : Past) (c : ℕ) (s : Stamp) → notification k now c (Some s) ≡ told_of k now c s (left_by now s)
  told-of now c s = by_current (log.is_current now s.group.0 s.app)
    where
      results : List Note → List What
      results notes = note_results k (entry_by c (What.Notify s.group s.app) ∷ now) c notes

      by_count : (n : ℕ) → (if n == 0 then What.Notify s.group s.app ∷ results (log.applied_notes now s.group.0) else [])
          ≡ told_of k now c s (counted_to (log.applied_notes now s.group.0) n)
      by_count zero = refl
      by_count (suc n) = rw (ne_eqb (suc n) 0 (λ e. omega (arith, e))) refl

      by_current : (b : Bool) → (if b && (log.count now s.group.0 == 0) then What.Notify s.group s.app ∷ results (log.applied_notes now s.group.0) else [])
          ≡ told_of k now c s (if b then counted_to (log.applied_notes now s.group.0) (log.count now s.group.0) else Counted.Stale)
      by_current true = by_count (log.count now s.group.0)
      by_current false = refl

  counted-as : (s : Stamp) (n : ℕ) → part.count (Left s ∷ egroup_steps past) s.group.0 ≡ n
      → counted (egroup_steps past) s
      ≡ (if log.is_current past s.group.0 s.app then counted_to (log.applied_notes past s.group.0) n else Counted.Stale)
  counted-as s n is = (λ i. if same-current s.group.0 s.app i then counted_to (alike.notes s.group.0 i) (is i) else Counted.Stale)

  -- the count that is left, of an entry by which the receive of the stamp leaves
  left-count : (c : ℕ) (s : Stamp) → open_stamp past c ≡ Some s
      → part.count (Left s ∷ egroup_steps past) s.group.0
      ≡ log.total past s.group.0 - (if is_stamp s.group.0 (log.applications past s.group.0) (open_stamp past c)
      then suc (log.departed past s.group.0 (log.applications past s.group.0))
      else log.departed past s.group.0 (log.applications past s.group.0))
  left-count c s is =
      count-left s.group.0 past (all-fitting k l past lawful.each) s (subst (HasCome past) is (open-come k l past lawful.each c))
      ∙ ap (λ o. log.total past s.group.0 - (if is_stamp s.group.0 (log.applications past s.group.0) o
      then suc (log.departed past s.group.0 (log.applications past s.group.0))
      else log.departed past s.group.0 (log.applications past s.group.0))) (sym is)

  leaves : (c : ℕ) (w : What) (s : Stamp) → c < k.cores → open_stamp past c ≡ Some s → counted (egroup_steps past) s ≡ left_by (entry_by c w ∷ past) s
      → Leaves k past c w s
  leaves c w s lt is answer = record {
    member = open-member c s lt is;
    answer = answer;
    told = told-of (entry_by c w ∷ past) c s ∙ ap (told_of k (entry_by c w ∷ past) c s) (sym answer);
  }

  pub end-leaves : (c lost : ℕ) (cells : Option Cells) (s : Stamp) → c < k.cores → open_stamp past c ≡ Some s → Leaves k past c (What.End lost cells) s
  end-leaves c lost cells s lt is = leaves c (What.End lost cells) s lt is (counted-as s _ (left-count c s is))

  pub end_group-leaves : (c : ℕ) (s : Stamp) → c < k.cores → open_stamp past c ≡ Some s → Leaves k past c What.EndGroup s
  end_group-leaves c s lt is = leaves c What.EndGroup s lt is (counted-as s _ (left-count c s is))
