-- Where no context is open there is nothing to follow, and a run that has ended every context is legal.
use Rattle.std.proofs.Common.{◌≡◌, ℕ, ◌<◌, ◌==◌, ◌&&◌, Bool, true, false, List, [], ◌∷◌, Option, Some, None, refl, sym, ◌∙◌, ap, subst, slice_get, if◌then◌else◌}
use Rattle.std.specs.List.{list_all}
use Rattle.std.specs.Option.{option_and_then}
use Rattle.em_log.specs.declared.body.Stmt.{Stmt}
use Rattle.em_log.specs.declared.declarations.Declarations.{Declarations}
use Rattle.em_log.specs.declared.entry.What.{What}
use Rattle.em_log.specs.declared.graph.Config.{Config}
use Rattle.em_log.specs.declared.ids.Limits.{Limits}
use Rattle.em_log.specs.declared.ids.EndKind.{EndKind}
use Rattle.em_log.specs.Answers.{end_of}
use Rattle.em_log.specs.Bodies.{Reading, follow_all, serves}
use Rattle.em_log.specs.Contexts.{boot_ended, context, context_after, object_begun}
use Rattle.em_log.specs.Declarations.{below, declarations_of}
use Rattle.em_log.specs.Eligible.{is_between, is_idle}
use Rattle.em_log.specs.History.{Past}
use Rattle.em_log.specs.Lawful.{Lawful}
use Rattle.em_log.specs.Legal.{Lead, Legal, leads, leads_after, whats, reading, body_in, body_of, opening, error_body_of, AreLeads, FollowsSoFar, EndedFollow}
use Rattle.em_log.specs.Operations.{all_done}
use Rattle.em_moments.proofs.Asked.{and-true}
use Rattle.em_moments.proofs.Choices.{between-parts}
use Rattle.em_laws.proofs.Acks.{all-below}

-- leads

none-after : (k : Declarations) (past : Past) (was : Option What) (w : What) (ls : List Lead) → context_after w was ≡ None
    → leads_after k past was w ls ≡ []
none-after k past was (What.Enter b) ls is = refl
none-after k past was (What.Start q e s) ls is = refl
none-after k past was (What.End lost cells) ls is = refl
none-after k past None w ls is = refl
none-after k past (Some b) w ls is = absurd cc

pub closed-leads : (k : Declarations) (past : Past) (c : ℕ) → context past c ≡ None → leads k past c ≡ []
closed-leads k [] c none = refl
closed-leads k (e ∷ past) c none = by_test (e.core.0 == c) none (closed-leads k past c)
  where
    by_test : (b : Bool) → (if b then context_after e.what (context past c) else context past c) ≡ None
        → (context past c ≡ None → leads k past c ≡ [])
        → (if b then leads_after k past (context past c) e.what (leads k past c) else leads k past c) ≡ []
    by_test true is older = none-after k past (context past c) e.what (leads k past c) is
    by_test false is older = older is

-- readings

closed-body : (g : Config) (past : Past) (c : ℕ) → context past c ≡ None → body_of g past c ≡ []
closed-body g past c none =
    ap (λ (o : Option What). body_in g (option_and_then (slice_get g.eos) (object_begun (declarations_of g) past o)) o) none

closed-reading : (g : Config) (past : Past) (c : ℕ) → context past c ≡ None
    → reading g past c ≡ record { pairs = []; rest = []; env = Some (opening (declarations_of g) past c) }
closed-reading g past c none =
    let k = declarations_of g in
    ap (λ (b : List Stmt). follow_all (serves (error_body_of g past c)) b (opening k past c) (whats (leads k past c)))
    (closed-body g past c none)
    ∙ ap (λ (ls : List Lead). follow_all (serves (error_body_of g past c)) [] (opening k past c) (whats ls)) (closed-leads k past c none)

-- a core between contexts follows no body
pub closed-follows : (g : Config) (past : Past) (c : ℕ) → context past c ≡ None → FollowsSoFar g past c
closed-follows g past c none =
    let k = declarations_of g in
    let read = closed-reading g past c none in
    let shown : AreLeads k c [] (leads k past c) = subst (AreLeads k c []) (sym (closed-leads k past c none)) tt in
    record {
      all = ap (λ (r : Reading). r.rest) read;
      leads = subst (λ (r : Reading). AreLeads k c r.pairs (leads k past c)) (sym read) shown;
    }

-- whole runs

-- in a history that has ended so no context is open
ended-closed : (k : Declarations) (l : Limits) (past : Past) (end : EndKind) → end_of k l past ≡ Some end → (c : ℕ) → c < k.cores → context past c ≡ None
ended-closed k l past end ended c lt = by_idle (is_idle k past) refl
  where
    by_idle : (b : Bool) → is_idle k past ≡ b → context past c ≡ None
    by_idle true idle =
        let parts = and-true (boot_ended past && list_all (is_between k past) (below k.cores)) (all_done past) idle in
        let between = and-true (boot_ended past) (list_all (is_between k past) (below k.cores)) parts.0 in
        (between-parts k past c (all-below (is_between k past) c k.cores between.1 lt)).closed
    by_idle false busy = absurd (cc (rw busy at ended))

-- a run that has ended so is legal
pub whole-run : (g : Config) (l : Limits) (past : Past) (end : EndKind) → Lawful (declarations_of g) l past → EndedFollow g past
    → end_of (declarations_of g) l past ≡ Some end → Legal g l past
whole-run g l past end lawful follow ended =
    record {
      lawful = lawful;
      ended = follow;
      begun = λ c lt. closed-follows g past c (ended-closed (declarations_of g) l past end ended c lt);
    }
