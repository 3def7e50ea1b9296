-- What a call of one core leaves of every core.
use Rattle.std.proofs.Common.{◌≡◌, ◌≢◌, ℕ, ◌<◌, ◌≤◌, ◌-◌, ◌==◌, Bool, true, false, List, [], ◌∷◌, length, get_or, set, Option, is_some, nat_lt, refl, sym, ap, ◌∙◌, subst, arith, eqb-true, eq-eqb, sum_by, if◌then◌else◌}
use Rattle.std.proofs.lemmas.List.{length-set, get_or-set_same, get_or-set_other}
use Rattle.em_log.specs.declared.declarations.Declarations.{Declarations}
use Rattle.em_log.specs.declared.entry.Entry.{Entry}
use Rattle.em_log.specs.declared.entry.What.{What}
use Rattle.em_log.specs.declared.ids.Limits.{Limits}
use Rattle.em_log.specs.Allowance.{allowance, cost_of_lead, left}
use Rattle.em_log.specs.Answers.{block}
use Rattle.em_log.specs.Contexts.{context}
use Rattle.em_log.specs.History.{Past, entry_by, entries_by, onto}
use Rattle.em_log.specs.Legal.{Lead, leads}
use Rattle.em_cores.specs.Others.{AreOfOthers}
use Rattle.em_cores.proofs.Onto.{same-after}
use Rattle.em_desk.specs.State.{DeskState, IsSameRun}
use Rattle.em_drive.specs.Going.{IsGrownBy}
use Rattle.em_drive.proofs.Took.{block-grown}
use Rattle.em_board_rows.specs.Cores.{HasOneQueue}
use Rattle.board_bench.specs.Known.{AllHaveLeft, HasLeft, LeavesOthers}

-- entries of core c are of another core than d

of-others : (c d : ℕ) → d ≢ c → (ws : List What) → AreOfOthers d (entries_by c ws)
of-others c d apart [] = tt
of-others c d apart (w ∷ ws) = (λ e. apart (sym e), of-others c d apart ws)

pub leaves : (c : ℕ) (old new : DeskState) → IsSameRun old new → IsGrownBy c old.past new.past → LeavesOthers c old new
leaves c old new run grown =
    record {
      run = run;
      contexts = λ d apart.
          ap (λ (h : Past). context h d) grown.1
          ∙ same-after (λ (h : Past). context h d) d (λ e h f. rw f refl) (entries_by c grown.0) old.past (of-others c d apart grown.0);
      rooms = λ d apart.
          ap (λ (h : Past). left old.declarations h d) grown.1
          ∙ ap (λ (ls : List Lead). allowance - sum_by (λ x. cost_of_lead x.what) ls)
          (same-after (λ (h : Past). leads old.declarations h d) d (λ e h f. rw f refl) (entries_by c grown.0) old.past (of-others c d apart grown.0));
    }

pub leaves-block : (c : ℕ) (old new : DeskState) (w : What) → IsSameRun old new → new.past ≡ block old.declarations old.past (entry_by c w) → LeavesOthers c old new
leaves-block c old new w run is = leaves c old new run (subst (IsGrownBy c old.past) (sym is) (block-grown old.declarations old.past c w))

-- the core itself has so much left now, and the others what they had

pub known-set : (old new : DeskState) (ns : List ℕ) (c n : ℕ) → AllHaveLeft old ns → LeavesOthers c old new → c < length ns
    → HasLeft old.declarations new.past c n → AllHaveLeft new (set ns c n)
known-set old new ns c n all others within has =
    let same = others.run in
    record {
      run = subst (λ (l : Limits). HasOneQueue new.declarations l) (sym same.limits) (subst (λ (k : Declarations). HasOneQueue k old.limits) (sym same.declarations) all.run);
      cores = length-set ns c n ∙ all.cores ∙ ap (λ (k : Declarations). k.cores) (sym same.declarations);
      each = λ d lt.
          subst (λ (k : Declarations). HasLeft k new.past d (get_or (set ns c n) d 0)) (sym same.declarations)
          (by_test d (d == c) refl (subst (λ (m : ℕ). d < m) (length-set ns c n) lt));
    }
  where
    by_test : (d : ℕ) (b : Bool) → (d == c) ≡ b → d < length ns → HasLeft old.declarations new.past d (get_or (set ns c n) d 0)
    by_test d true is lt =
        let e : d ≡ c = eqb-true d c is in
        subst (λ (m : ℕ). HasLeft old.declarations new.past m (get_or (set ns c n) m 0)) (sym e)
        (subst (HasLeft old.declarations new.past c) (sym (get_or-set_same ns c n 0 within)) has)
    by_test d false is lt =
        let apart : d ≢ c = λ e. absurd (cc (is, eq-eqb d c e)) in
        let was = all.each d lt in
        subst (HasLeft old.declarations new.past d) (sym (get_or-set_other ns c d n 0 apart))
        (record {
          open_context = ap (λ (o : Option What). is_some o) (others.contexts d apart) ∙ was.open_context;
          room = subst (λ (m : ℕ). get_or ns d 0 ≤ m) (sym (others.rooms d apart)) was.room;
        })
