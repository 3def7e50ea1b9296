-- What holds after the end of a context.
use Rattle.std.proofs.Common.{◌≡◌, ◌≢◌, ℕ, List, [], ◌∷◌, length, Option, Some, None, refl, sym, ap, ◌∙◌, subst}
use Rattle.std.specs.Prelude.{slice_get}
use Rattle.std.specs.Option.{option_map, option_or, option_and_then}
use Rattle.em_log.specs.declared.body.Stmt.{Stmt}
use Rattle.em_log.specs.declared.graph.Config.{Config}
use Rattle.em_log.specs.declared.graph.EoDecl.{EoDecl}
use Rattle.em_log.specs.declared.ask.Ask.{Ask}
use Rattle.em_log.specs.declared.ask.Context.{Context}
use Rattle.em_log.specs.declared.entry.What.{What}
use Rattle.em_log.specs.declared.ids.Cells.{Cells}
use Rattle.em_log.specs.declared.work.Move.{Move}
use Rattle.em_log.specs.Answers.{block}
use Rattle.em_log.specs.Bodies.{Reading}
use Rattle.em_log.specs.Contexts as log
use Rattle.em_log.specs.Declarations.{declarations_of}
use Rattle.em_log.specs.Handles.{held}
use Rattle.em_log.specs.History.{Past, entry_by}
use Rattle.em_log.specs.Leads.{lead}
use Rattle.em_log.specs.Legal.{leads, AreLeads, body_in, body_of, declared_object, error_body_of, reading, cells_in, FollowsSoFar, FollowsToEnd, EndedFollow}
use Rattle.em_log.specs.Tails.{tail_of}
use Rattle.em_log.specs.Works.{Exchange}
use Rattle.em_core.specs.Pieces.{begun_by}
use Rattle.em_core.specs.Stands.{IsAt, IsOver}
use Rattle.em_core.proofs.Histories as histories
use Rattle.em_body.specs.contracts.run.BodyRunWork.TheImpl.{ghosts}
use Rattle.em_body.specs.Standings as work
use Rattle.em_body.specs.Standings.{Made, Standing, Does, Sets, Branches, Repeats, Writes, Asks, Steps, Ends, Goes, settled}
use Rattle.em_body.specs.Followed.{IsFollowed}
use Rattle.em_body.specs.Followed as body
use Rattle.em_body.proofs.Reaching.{followed}
use Rattle.em_body.proofs.Settled.{settled-asking}
use Rattle.em_drive.specs.Readings.{IsReading}
use Rattle.em_drive.proofs.Asked.{follows-tail, keeps-context, keeps-ended, tail-keeps}

-- followed

pub same-entry : (opened : Context) → begun_by opened ≡ work.entry_of opened
same-entry Context.Boot = refl
same-entry (Context.Receive r) = refl
same-entry (Context.GlobalStart op x) = refl
same-entry (Context.LocalStart op x) = refl
same-entry (Context.LocalStop op x) = refl
same-entry (Context.GlobalStop op x) = refl

-- the body of the context is that of the object that it was told
reading-body : (g : Config) (past : Past) (c : ℕ) (told : Context) (es : List Exchange) (ws : List What)
    → IsReading g past c told es ws → body_of g past c ≡ work.body_of g told
reading-body g past c told es ws r =
    let begun : log.context past c ≡ Some (work.entry_of told) = r.begun ∙ ap Some (same-entry told) in
    ap (λ (o : Option What). body_in g (declared_object g past c) o) begun
    ∙ ap (λ (o : Option ℕ). body_in g (option_and_then (slice_get g.eos) o) (Some (work.entry_of told))) r.object

-- so is the error body that serves it
reading-error : (g : Config) (past : Past) (c : ℕ) (told : Context) (es : List Exchange) (ws : List What)
    → IsReading g past c told es ws → error_body_of g past c ≡ work.error_body_of g told
reading-error g past c told es ws r =
    ap (λ (o : Option ℕ). option_or (option_and_then (λ (d : EoDecl). d.error) (option_and_then (slice_get g.eos) o)) g.error) r.object

-- the history's reading of the body is that of the body's own laws
reading-same : (g : Config) (past : Past) (c : ℕ) (told : Context) (es : List Exchange) (ws : List What)
    → IsReading g past c told es ws → reading g past c ≡ body.reading (record { graph = g; core = c }) told ws
reading-same g past c told es ws r =
    let s = reading-error g past c told es ws r in
    let b = reading-body g past c told es ws r in
    let f = r.first in
    let e = r.entries in
    rw (s, b, f, e) refl

followed-so_far : (g : Config) (past : Past) (c : ℕ) (told : Context) (es : List Exchange) (ws : List What) (s : Standing)
    → IsReading g past c told es ws → IsFollowed (record { graph = g; core = c }) told es ws s
    → FollowsSoFar g past c
followed-so_far g past c told es ws s r f =
    let k = declarations_of g in
    let same = reading-same g past c told es ws r in
    record {
      all = ap (λ (x : Reading). x.rest) same ∙ f.rest;
      leads = subst (λ ps. AreLeads k c ps (leads k past c)) (sym (ap (λ (x : Reading). x.pairs) same ∙ f.pairs)) r.each;
    }

-- a context has followed its body to each state that it reaches
pub so_far-follows : (g : Config) (past : Past) (c : ℕ) (told : Context) (es : List Exchange) (ws : List What) (s : Standing)
    → IsReading g past c told es ws
    → body.IsReached (record { graph = g; core = c }) told es s → FollowsSoFar g past c
so_far-follows g past c told es ws s r reached =
    followed-so_far g past c told es ws s r (followed (record { graph = g; core = c }) told es s reached ws r.read)

told-same : (x y : Context) → Some x ≡ Some y → x ≡ y
told-same x y same = cc

pub so-far : (g : Config) (past : Past) (c : ℕ) (told : Context) (es : List Exchange) (ws : List What) (now : Standing) (n : ℕ)
    → IsReading g past c told es ws
    → IsAt ghosts (record { graph = g; core = c }) (Some told) es now n → FollowsSoFar g past c
so-far g past c told es ws now n r at =
    so_far-follows g past c told es ws now r
    (subst (λ x. body.IsReached (record { graph = g; core = c }) x es now) (sym (told-same told at.context at.is_open)) at.reached)

-- the end

does-no_end : (q : Stmt) (was now : Standing) (m : Move) → Does q was m now → m ≢ Move.End
does-no_end q was now m (Sets i e is same new) ends = cc
does-no_end q was now m (Branches t first second has_else is same new) ends = cc
does-no_end q was now m (Repeats n block is same new) ends = cc
does-no_end q was now m (Writes i e cells is some same new) ends = cc
does-no_end q was now m (Asks does same new) ends = cc

moves-end : (was now : Standing) (m : Move) → Steps was m now → m ≡ Move.End
    → (was.asking ≡ None) × (was.left ≡ []) × (now ≡ was)
moves-end was now m (Ends none empty is same) ends = (none, empty, same)
moves-end was now m (Goes q none first does) ends = absurd (does-no_end q _ now m does ends)

cells-carried : (o : Option (List ℕ)) → cells_in (option_map (λ cs. record { 0 = cs }) o) ≡ o
cells-carried None = refl
cells-carried (Some cs) = refl

-- at its end a context has followed its body to the end
pub ended-follows : (g : Config) (past : Past) (c : ℕ) (told : Context) (es : List Exchange) (ws : List What) (now : Standing) (cells : Option Cells)
    → IsReading g past c told es ws
    → IsOver ghosts (record { graph = g; core = c }) (Some told) es now cells → FollowsToEnd g past c cells
ended-follows g past c told es ws now cells r over =
    let f : Made = record { graph = g; core = c } in
    let was : Standing = over.was in
    let reached : body.IsReached f told es was =
    subst (λ x. body.IsReached f x es was) (sym (told-same told over.context over.is_open)) over.reached in
    let all = followed f told es was reached ws r.read in
    let at_end = moves-end (settled was) now Move.End over.ends refl in
    let same = reading-same g past c told es ws r in
    record {
      so_far = followed-so_far g past c told es ws was r all;
      over = (
        (settled was).env,
        ap (λ (x : Reading). x.env) same ∙ all.over (sym (settled-asking was) ∙ at_end.0) at_end.1,
        ap cells_in (over.carried ∙ ap work.carried at_end.2) ∙ cells-carried (settled was).env.cells,
      );
    }

-- what the end's entry and what follows it leave

pub ended-all : (g : Config) (past : Past) (c : ℕ) (cells : Option Cells) → FollowsToEnd g past c cells → EndedFollow g past
    → EndedFollow g (block (declarations_of g) past (entry_by c (lead (declarations_of g) past c (Ask.End cells))))
ended-all g past c cells follows ended =
    let k = declarations_of g in
    let w = What.End (length (held past c)) cells in
    let after = tail_of k past (entry_by c w ∷ past) c w in
    keeps-ended g c after (entry_by c w ∷ past) (tail-keeps after (follows-tail k past c (Ask.End cells))) (follows, ended)

pub ended-context : (g : Config) (past : Past) (c : ℕ) (cells : Option Cells)
    → log.context (block (declarations_of g) past (entry_by c (lead (declarations_of g) past c (Ask.End cells)))) c ≡ None
ended-context g past c cells =
    let k = declarations_of g in
    let w = What.End (length (held past c)) cells in
    let after = tail_of k past (entry_by c w ∷ past) c w in
    keeps-context c after (entry_by c w ∷ past) (tail-keeps after (follows-tail k past c (Ask.End cells)))
    ∙ histories.entry-context c w past
