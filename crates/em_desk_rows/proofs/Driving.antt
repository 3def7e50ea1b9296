-- What holds of a run before a move and after it.
use Rattle.std.proofs.Common.{◌≡◌, ℕ, suc, ◌+◌, ◌<◌, ◌≤◌, List, ◌∷◌, length, get_or, drop, drop-cons, arith, Some, None, refl, ap, subst, sym, ◌∙◌}
use Rattle.std.proofs.lemmas.List.{drop_all}
use Rattle.em_log.specs.declared.ask.Answer.{Answer}
use Rattle.em_log.specs.declared.ask.Ask.{Ask}
use Rattle.em_log.specs.declared.ask.Reply.{Reply}
use Rattle.em_log.specs.History.{Past, entry_by}
use Rattle.em_log.specs.Leads.{lead}
use Rattle.em_log.specs.Answers.{Takes, block}
use Rattle.em_desk.specs.State.{DeskState, IsSameRun, IsAnswered}
use Rattle.em_desk_rows.specs.declared.moves.Move.{Move}
use Rattle.em_desk_rows.specs.Moves.{MayTake, MayAsk, Moves, Drives, Leads, Makes, ask_of, with_past}

same-run : (old new : DeskState) → IsSameRun old new → new ≡ with_past old new.past
same-run old new run =
    let k : new.declarations ≡ old.declarations = run.declarations in
    let l : new.limits ≡ old.limits = run.limits in
    let h : new.halted ≡ old.halted = run.halted in
    let eta : new ≡ record { declarations = new.declarations; limits = new.limits; past = new.past; halted = new.halted } = refl in
    cc

-- the move at place i, and those after it
pub drives-at : (d : DeskState) (ms : List (ℕ × Move)) (i : ℕ) → i < length ms → Drives d (drop i ms)
    → Drives d (get_or ms i (0, Move.Take) ∷ drop (i + 1) ms)
drives-at d ms i lt drives =
    let next : i + 1 ≡ suc i = omega arith in
    rw next (subst (Drives d) (drop-cons ms i (0, Move.Take) lt) drives)

-- what holds of a run of moves before a take, and after it
pub takes-next : (d : DeskState) (m : ℕ × Move) (ms : List (ℕ × Move)) → Drives d (m ∷ ms) → ask_of m.1 ≡ None
    → MayTake d m.0
    × ((answer : Answer) (now : Past) → Takes d.declarations d.limits d.halted d.past m.0 answer now → Drives (with_past d now) ms)
takes-next d m ms drives is = subst (λ o. Moves d m.0 o (λ now. Drives now ms)) is drives

-- what holds of it before an ask, and after it
pub asks-next : (d : DeskState) (m : ℕ × Move) (ms : List (ℕ × Move)) (ask : Ask) → Drives d (m ∷ ms) → ask_of m.1 ≡ Some ask
    → MayAsk d m.0 ask × Drives (with_past d (block d.declarations d.past (entry_by m.0 (lead d.declarations d.past m.0 ask)))) ms
asks-next d m ms ask drives is = subst (λ o. Moves d m.0 o (λ now. Drives now ms)) is drives

pub drives-taken : (old new : DeskState) (m : ℕ × Move) (ms : List (ℕ × Move)) (answer : Answer) → Drives old (m ∷ ms) → ask_of m.1 ≡ None
    → IsSameRun old new → Takes old.declarations old.limits old.halted old.past m.0 answer new.past → Drives new ms
drives-taken old new m ms answer drives is run takes =
    subst (λ d. Drives d ms) (sym (same-run old new run)) ((takes-next old m ms drives is).1 answer new.past takes)

pub drives-asked : (old new : DeskState) (m : ℕ × Move) (ms : List (ℕ × Move)) (ask : Ask) (reply : Reply) → Drives old (m ∷ ms)
    → ask_of m.1 ≡ Some ask → IsAnswered old new m.0 (lead old.declarations old.past m.0 ask) reply → Drives new ms
drives-asked old new m ms ask reply drives is answered =
    subst (λ d. Drives d ms) (sym (same-run old new answered.run ∙ ap (with_past old) answered.past)) (asks-next old m ms ask drives is).1

-- the moves so far, with those that are left

pub makes-at : (d end : DeskState) (ms : List (ℕ × Move)) (i : ℕ) → i < length ms
    → Makes d (get_or ms i (0, Move.Take) ∷ drop (i + 1) ms) end → Makes d (drop i ms) end
makes-at d end ms i lt made =
    let next : suc i ≡ i + 1 = omega arith in
    let split : drop i ms ≡ get_or ms i (0, Move.Take) ∷ drop (i + 1) ms =
    drop-cons ms i (0, Move.Take) lt ∙ ap (λ n. get_or ms i (0, Move.Take) ∷ drop n ms) next
    in
    subst (λ xs. Makes d xs end) (sym split) made

pub makes-taken : (old new end : DeskState) (m : ℕ × Move) (ms : List (ℕ × Move)) (answer : Answer) → ask_of m.1 ≡ None
    → IsSameRun old new → Takes old.declarations old.limits old.halted old.past m.0 answer new.past → Makes new ms end → Makes old (m ∷ ms) end
makes-taken old new end m ms answer is run takes made =
    subst (λ o. Leads old m.0 o (λ now. Makes now ms end)) (sym is)
    (answer, (new.past, (takes, subst (λ d. Makes d ms end) (same-run old new run) made)))

pub makes-asked : (old new end : DeskState) (m : ℕ × Move) (ms : List (ℕ × Move)) (ask : Ask) (reply : Reply) → ask_of m.1 ≡ Some ask
    → IsAnswered old new m.0 (lead old.declarations old.past m.0 ask) reply → Makes new ms end → Makes old (m ∷ ms) end
makes-asked old new end m ms ask reply is answered made =
    subst (λ o. Leads old m.0 o (λ now. Makes now ms end)) (sym is)
    (subst (λ d. Makes d ms end) (same-run old new answered.run ∙ ap (with_past old) answered.past) made)

pub makes-end : (d : DeskState) (ms : List (ℕ × Move)) (i : ℕ) → length ms ≤ i → Makes d (drop i ms) d
makes-end d ms i all = subst (λ xs. Makes d xs d) (sym (drop_all i ms all)) refl
