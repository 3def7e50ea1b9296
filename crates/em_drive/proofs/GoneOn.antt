-- A run goes on after the reply to an ask.
use Rattle.std.proofs.Common.{◌≡◌, ◌⊎◌, inl, inr, ℕ, ◌<◌, ◌==◌, Bool, true, false, List, [], ◌∷◌, length, not, Option, Some, None, refl, sym, ap, subst, ◌∙◌, IsTrue, is_none}
use Rattle.em_log.specs.declared.ask.Answer.{Answer}
use Rattle.em_log.specs.declared.ask.Ask.{Ask}
use Rattle.em_log.specs.declared.ask.Context.{Context}
use Rattle.em_log.specs.declared.ask.Reply.{Reply}
use Rattle.em_log.specs.declared.declarations.Declarations.{Declarations}
use Rattle.em_log.specs.declared.entry.Event.{Event}
use Rattle.em_log.specs.declared.entry.What.{What}
use Rattle.em_log.specs.declared.fault.Fault.{Fault}
use Rattle.em_log.specs.declared.graph.Config.{Config}
use Rattle.em_log.specs.declared.ids.Limits.{Limits}
use Rattle.em_log.specs.Answers.{answer_of, minted_answer, block}
use Rattle.em_log.specs.Declarations.{declarations_of}
use Rattle.em_log.specs.Handles.{held, rule}
use Rattle.em_log.specs.History.{Past, has, entry_by, names, part, without_all}
use Rattle.em_log.specs.Lawful.{AllAllowed, Lawful}
use Rattle.em_log.specs.Leads.{lead}
use Rattle.em_log.specs.Legal.{EndedFollow}
use Rattle.em_log.specs.Tails.{tail_of}
use Rattle.em_log.specs.Works.{Exchange, is_end}
use Rattle.em_core.specs.declared.core_run.CoreRun.{CoreRun}
use Rattle.em_core.specs.declared.core_run.Step.{Step}
use Rattle.em_core.specs.Pieces.{Piece, history, open_context, open_after, exchanges}
use Rattle.em_core.specs.Stands.{HoldsHandles, IsOver, is_no_end}
use Rattle.em_core.specs.Steps.{unreplied, over, over_by, ToldNoRest, AreHandles, Grows, GrowsByAsk}
use Rattle.em_core.proofs.Parts.{LeftAlone, lead-grows, lead-part, part-held}
use Rattle.em_core.proofs.Standing.{open-after}
use Rattle.em_cores.proofs.Held.{names-others}
use Rattle.em_laws.specs.Minted.{HasSmallIndices}
use Rattle.em_laws.proofs.Fresh.{graph-small}
use Rattle.em_laws.proofs.Usable.{usable-after}
use Rattle.em_laws.proofs.Cores.{Compared, Same, Other, compared}
use Rattle.em_body.specs.contracts.run.BodyRunWork.TheImpl.{ghosts}
use Rattle.em_body.specs.Standings.{Made, Run}
use Rattle.em_desk.specs.State.{DeskState, IsAnswered}
use Rattle.em_drive.specs.Going.{IsGoing, IsAwaiting, IsGrownBy}
use Rattle.em_drive.specs.Readings.{IsCurrent, asked_entries}
use Rattle.em_drive.proofs.Answered.{ask-handles}
use Rattle.em_drive.proofs.Asked.{asked-reading, ended-kept}
use Rattle.em_drive.proofs.Asking.{WorkAsks, work-asks, work-ends}
use Rattle.em_drive.proofs.Ended.{ended-follows, ended-all, ended-context}
use Rattle.em_drive.proofs.Taking.{Told, lawful-of}
use Rattle.em_drive.proofs.Took.{block-grows, block-grown}
use Rattle.em_drive.proofs.Waiting.{IsAsking, Working, Ending, asking}

-- what the ask adds to the list of the run

abbrev pub asked_piece : Declarations → Past → ℕ → Ask → Piece
asked_piece k past c a =
    let w = lead k past c a in
    Piece.Answered w (tail_of k past (entry_by c w ∷ past) c w) a (answer_of w)

-- the open context after the reply, its exchanges and its entries
pub record Current (g : Config) (desk : DeskState) (c : ℕ) (m : List Piece) (a : Ask) : Type 0 where
  pub current : let k = declarations_of g in
      let n = asked_piece k desk.past c a ∷ m in
      IsCurrent g (block k desk.past (entry_by c (lead k desk.past c a))) c (open_context n) (exchanges n) (asked_entries n)
  pub ended : EndedFollow g (block (declarations_of g) desk.past (entry_by c (lead (declarations_of g) desk.past c a)))

work-no_end : (g : Config) (l : Limits) (desk : DeskState) (c : ℕ) (run : CoreRun Run) (going : IsGoing g l desk c run) (n : ℕ) (a : Ask)
    → (w : WorkAsks g desk c run going.pieces n) → ghosts.unanswered (ghosts.state run.work) ≡ Some a → is_end a ≡ false
work-no_end g l desk c run going n a w asks =
    let mid : IsTrue (is_no_end (Some a)) = subst (λ (o : Option Ask). IsTrue (is_no_end o)) asks w.at.no_end in
    not-end (is_end a) mid
  where
    not-end : (b : Bool) → IsTrue (not b) → b ≡ false
    not-end true is = absurd cc
    not-end false is = refl

goes-on : (g : Config) (l : Limits) (desk : DeskState) (c : ℕ) (run : CoreRun Run) (going : IsGoing g l desk c run) (a : Ask)
    → Lawful (declarations_of g) l desk.past → AllAllowed (declarations_of g) l (block (declarations_of g) desk.past (entry_by c (lead (declarations_of g) desk.past c a)))
    → IsAsking (ghosts.unanswered (ghosts.state run.work)) run.stage a → Current g desk c going.pieces a
goes-on g l desk c run going a lawful allowed (Working n is asks) =
    let m = going.pieces in
    let w = work-asks g l desk c run going n is in
    let mid = work-no_end g l desk c run going n a w asks in
    let still : open_after a (open_context m) ≡ Some w.at.context = open-after a (open_context m) mid ∙ w.at.is_open in
    let reading = asked-reading g l desk.past c w.at.context (exchanges m) (asked_entries m) a w.reading lawful.whole mid allowed in
    let given = lead (declarations_of g) desk.past c a in
    let now : Past = block (declarations_of g) desk.past (entry_by c given) in
    let es : List Exchange = record { ask = a; answer = answer_of given } ∷ exchanges m in
    let ws : List What = given ∷ asked_entries m in
    record {
      current = subst (λ (o : Option Context). IsCurrent g now c o es ws) (sym still) reading;
      ended = ended-kept g desk.past c a mid going.ended;
    }
goes-on g l desk c run going a lawful allowed (Ending cells is ends) =
    let m = going.pieces in
    let k = declarations_of g in
    let f : Made = record { graph = g; core = c } in
    let w = work-ends g l desk c run going cells is in
    let over : IsOver ghosts f (Some w.over.context) (exchanges m) (ghosts.state run.work) cells =
    subst (λ (o : Option Context). IsOver ghosts f o (exchanges m) (ghosts.state run.work) cells) w.over.is_open w.over in
    let follows = ended-follows g desk.past c w.over.context (exchanges m) (asked_entries m) (ghosts.state run.work) cells w.reading over in
    subst (Current g desk c m) (sym ends)
    (record {
      current = ended-context g desk.past c cells;
      ended = ended-all g desk.past c cells follows going.ended;
    })

-- the run after the reply

-- the same reply, of the declarations of the graph
pub record Replied (g : Config) (l : Limits) (desk now : DeskState) (c : ℕ) (a : Ask) (x : Answer) : Type 0 where
  pub past : now.past ≡ block (declarations_of g) desk.past (entry_by c (lead (declarations_of g) desk.past c a))
  pub answer : x ≡ answer_of (lead (declarations_of g) desk.past c a)
  pub graph : now.declarations ≡ declarations_of g
  pub limits : now.limits ≡ l
  pub running : now.halted ≡ false

pub replied : (g : Config) (l : Limits) (desk now : DeskState) (c : ℕ) (run : CoreRun Run) (a : Ask) (reply : Reply) → IsGoing g l desk c run
    → IsAnswered desk now c (lead desk.declarations desk.past c a) reply → Replied g l desk now c a reply.answer
replied g l desk now c run a reply going done =
    let graph = going.graph in
    record {
      past = subst (λ (k : Declarations). now.past ≡ block k desk.past (entry_by c (lead k desk.past c a))) graph done.past;
      answer = subst (λ (k : Declarations). reply.answer ≡ answer_of (lead k desk.past c a)) graph done.answer;
      graph = done.run.declarations ∙ graph;
      limits = done.run.limits ∙ going.limits;
      running = done.run.halted ∙ going.running;
    }

-- no entry of another core names what core c holds
pub left-alone : (k : Declarations) (l : Limits) (past : Past) (c : ℕ) → HasSmallIndices k → AllAllowed k l past → LeftAlone c past
left-alone k l [] c small all = tt
left-alone k l (e ∷ past) c small all = (by_core (compared e.core.0 c), left-alone k l past c small all.1)
  where
    by_core : Compared e.core.0 c → (without_all (names e.what) (held past c) ≡ held past c) ⊎ IsTrue (e.core.0 == c)
    by_core (Same t is) = inr t
    by_core (Other f apart) = inl (names-others k l e past c small all apart)

-- the list's context holds what the core holds
own-held : (g : Config) (l : Limits) (desk : DeskState) (c : ℕ) (run : CoreRun Run) (going : IsGoing g l desk c run) → Lawful (declarations_of g) l desk.past
    → held (history c going.pieces) c ≡ held desk.past c
own-held g l desk c run going lawful =
    ap (λ (h : Past). held h c) going.own
    ∙ part-held desk.past c (left-alone (declarations_of g) l desk.past c (graph-small g going.well_formed) lawful.each)

module _ (g : Config) (l : Limits) (desk now : DeskState) (c : ℕ) (run : CoreRun Run) (a : Ask) (x : Answer) (w : IsAwaiting (Some (Step.Ask a)) g l desk c run)
    (before : Lawful desk.declarations desk.limits desk.past) (after : Lawful now.declarations now.limits now.past)
    (r : Replied g l desk now c a x) where
  lawful-before : Lawful (declarations_of g) l desk.past
  lawful-before = lawful-of g l desk w.going.graph w.going.limits before

  lawful-after : Lawful (declarations_of g) l now.past
  lawful-after = lawful-of g l now r.graph r.limits after

  -- what the core may use it holds
  usable-held : (h : ℕ) → rule desk.past c h ≡ None → has (held desk.past c) h ≡ true
  usable-held h may =
      (usable-after (declarations_of g) l desk.past (graph-small g w.going.well_formed) lawful-before.each).held c h
      ∙ ap (λ (o : Option Fault). is_none o) may

  list-handles : AreHandles (held (history c w.going.pieces) c) (unreplied ghosts run) x
  list-handles =
      subst (λ (hs : List ℕ). AreHandles hs (unreplied ghosts run) x) (sym (own-held g l desk c run w.going lawful-before))
      (ask-handles g l desk now.past c run a x w.going.well_formed w.unreplied usable-held lawful-after r.past r.answer)

  pub ask-fits-handles : HoldsHandles ghosts run x
  ask-fits-handles =
      record {
        core = c;
        fixed = record { graph = g; core = c };
        pieces = w.going.pieces;
        stands = w.going.stands;
        handles = list-handles;
      }

  pub after-ask : (run' : CoreRun Run) → Told run run' x → unreplied ghosts run' ≡ None → over run' ≡ None → IsAwaiting None g l now c run'
  after-ask run' told none not_over =
      let going = w.going in
      let k = declarations_of g in
      let m = going.pieces in
      let n = asked_piece k desk.past c a ∷ m in
      let grown : Grows c (unreplied ghosts run) x m n =
      subst (λ (s : Option Step). Grows c s x m n) (sym w.unreplied)
      (subst (λ (y : Answer). GrowsByAsk c a y m n) (sym r.answer) (lead-grows k desk.past c a m)) in
      let next = goes-on g l desk c run going a lawful-before (subst (AllAllowed k l) r.past lawful-after.each)
      (asking (ghosts.unanswered (ghosts.state run.work)) run.stage a w.unreplied) in
      record {
        going = record {
          well_formed = going.well_formed;
          servable = going.servable;
          burst = going.burst;
          graph = r.graph;
          limits = r.limits;
          running = r.running;
          core = going.core;
          pieces = n;
          stands = told c (record { graph = g; core = c }) m n going.stands list-handles grown;
          own = lead-part k desk.past c a m going.own ∙ ap (λ (h : Past). part h c) (sym r.past);
          current = subst (λ (h : Past). IsCurrent g h c (open_context n) (exchanges n) (asked_entries n)) (sym r.past) next.current;
          ended = subst (EndedFollow g) (sym r.past) next.ended;
        };
        unreplied = none;
        over = not_over;
      }

pub ask-grown : (g : Config) (l : Limits) (desk now : DeskState) (c : ℕ) (a : Ask) (x : Answer) → Replied g l desk now c a x → IsGrownBy c desk.past now.past
ask-grown g l desk now c a x r =
    subst (IsGrownBy c desk.past) (sym r.past) (block-grown (declarations_of g) desk.past c (lead (declarations_of g) desk.past c a))

pub ask-grows : (g : Config) (l : Limits) (desk now : DeskState) (c : ℕ) (a : Ask) (x : Answer) → Replied g l desk now c a x → length desk.past < length now.past
ask-grows g l desk now c a x r = rw r.past (block-grows (declarations_of g) desk.past (entry_by c (lead (declarations_of g) desk.past c a)))

minted-rest : (o : Option Event) → ToldNoRest (minted_answer o)
minted-rest None = tt
minted-rest (Some e) = tt

entry-rest : (w : What) → ToldNoRest (answer_of w)
entry-rest (What.Fault asked f scope) = tt
entry-rest (What.Alloc p e) = tt
entry-rest (What.Claim o) = minted-rest o
entry-rest (What.Dequeue q o) = minted-rest o
entry-rest w = tt

-- no ask is answered by a context
pub answer-rest : (w : What) (x : Answer) → x ≡ answer_of w → ToldNoRest x
answer-rest w x is = subst ToldNoRest (sym is) (entry-rest w)

minted-goes_on : (o : Option Event) → over_by (minted_answer o) ≡ None
minted-goes_on None = refl
minted-goes_on (Some e) = refl

entry-goes_on : (w : What) → over_by (answer_of w) ≡ None
entry-goes_on (What.Fault asked f scope) = refl
entry-goes_on (What.Alloc p e) = refl
entry-goes_on (What.Claim o) = minted-goes_on o
entry-goes_on (What.Dequeue q o) = minted-goes_on o
entry-goes_on w = refl

-- nor does it end the run
pub answer-goes_on : (w : What) (x : Answer) → x ≡ answer_of w → over_by x ≡ None
answer-goes_on w x is = ap over_by is ∙ entry-goes_on w
