-- A legal history: lawful, and each context follows its body.
use Rattle.std.specs.Prelude.{ℕ, ◌<◌, ◌==◌, ◌≡◌, List, [], ◌∷◌, ◌++◌, map, reverse, Option, Some, None, if◌then◌else◌, slice_get}
use Rattle.std.specs.Option.{option_or, option_map, option_map_or, option_and_then}
use Rattle.em_log.specs.declared.graph.Config.{Config}
use Rattle.em_log.specs.declared.graph.EoDecl.{EoDecl}
use Rattle.em_log.specs.declared.declarations.Declarations.{Declarations}
use Rattle.em_log.specs.declared.body.Stmt.{Stmt}
use Rattle.em_log.specs.declared.entry.Entry.{Entry}
use Rattle.em_log.specs.declared.entry.What.{What}
use Rattle.em_log.specs.declared.entry.Body.{Body}
use Rattle.em_log.specs.declared.ids.Limits.{Limits}
use Rattle.em_log.specs.declared.ids.Cells.{Cells}
use Rattle.em_log.specs.Declarations.{declarations_of}
use Rattle.em_log.specs.History.{Past}
use Rattle.em_log.specs.Contexts.{context, context_object}
use Rattle.em_log.specs.Atomic.{holds, cells}
use Rattle.em_log.specs.Leads.{lead}
use Rattle.em_log.specs.Lawful.{due, Lawful}
use Rattle.em_log.specs.Expressions.{Env, no_vars, no_event}
use Rattle.em_log.specs.Bodies.{Pair, Reading, follow_all, serves}

-- leads

-- the first entry of an ask, with the history before it
pub record Lead : Type 0 where
  pub before : Past
  pub what : What

abbrev pub lead_here : List Entry → Past → What → List Lead → List Lead
lead_here [] past w ls = ls ++ record { before = past; what = w } ∷ []
lead_here (d ∷ ds) past w ls = ls

abbrev pub leads_after : Declarations → Past → Option What → What → List Lead → List Lead
leads_after k past was (What.Enter b) ls = []
leads_after k past was (What.Start q e s) ls = []
leads_after k past was (What.End lost cells) ls = []
leads_after k past None w ls = []
leads_after k past (Some b) w ls = lead_here (due k past) past w ls

-- the leads of core c's open context so far, the entry that began it aside
abbrev pub leads : Declarations → Past → ℕ → List Lead
leads k [] c = []
leads k (e ∷ past) c =
    if e.core.0 == c then leads_after k past (context past c) e.what (leads k past c) else leads k past c

-- the entries of leads
abbrev pub whats : List Lead → List What
whats ls = map (λ l. l.what) ls

-- bodies

-- the body that an object has for a kind of context
abbrev pub body_for : Option What → EoDecl → List Stmt
body_for (Some (What.Start q e s)) d = d.receive
body_for (Some (What.Enter (Body.GlobalStart op))) d = d.start
body_for (Some (What.Enter (Body.LocalStart op))) d = d.lstart
body_for (Some (What.Enter (Body.LocalStop op))) d = d.lstop
body_for (Some (What.Enter (Body.GlobalStop op))) d = d.stop
body_for _ d = []

-- the object that core c's open context is of, as the graph declares it
abbrev pub declared_object : Config → Past → ℕ → Option EoDecl
declared_object g past c = option_and_then (slice_get g.eos) (context_object (declarations_of g) past c)

abbrev pub body_in : Config → Option EoDecl → Option What → List Stmt
body_in g object (Some (What.Enter Body.Boot)) = g.boot
body_in g object context = option_map_or (body_for context) object []

-- the body of core c's open context
abbrev pub body_of : Config → Past → ℕ → List Stmt
body_of g past c = body_in g (declared_object g past c) (context past c)

-- the error body that serves its faults: that of its object, else the global one
abbrev pub error_body_of : Config → Past → ℕ → Option (List Stmt)
error_body_of g past c = option_or (option_and_then (λ d. d.error) (declared_object g past c)) g.error

-- the environment in which a body begins

abbrev pub plain_env : ℕ → Env
plain_env c =
    record { vars = no_vars; event = no_event; me = 0; queue = 0; core = c; cells = None; ok = 1; fault = 0; detail = 0 }

abbrev pub opening_cells : Declarations → Past → ℕ → Option (List ℕ)
opening_cells k now c = option_map (cells k now) (holds k now c)

abbrev pub opening_after : Declarations → Past → ℕ → What → Env → Env
opening_after k now c (What.Start q e s) v =
    record (plain_env c) {
      event = record { kind = e.kind; words = e.words };
      me = e.handle.0;
      queue = q.0;
      cells = opening_cells k now c;
    }
opening_after k now c (What.Enter b) v = plain_env c
opening_after k now c w v = v

-- the environment in which core c's open context began
abbrev pub opening : Declarations → Past → ℕ → Env
opening k [] c = plain_env c
opening k (e ∷ past) c = if e.core.0 == c then opening_after k (e ∷ past) c e.what (opening k past c) else opening k past c

-- followed

-- how core c's open context goes through its body along its leads
abbrev pub reading : Config → Past → ℕ → Reading
reading g past c =
    let k = declarations_of g in
    follow_all (serves (error_body_of g past c)) (body_of g past c) (opening k past c) (whats (leads k past c))

-- each entry is the one that its ask gives at its place
abbrev pub AreLeads : Declarations → ℕ → List Pair → List Lead → Type 0
AreLeads k c [] [] = Unit {0}
AreLeads k c (p ∷ ps) (l ∷ ls) = (l.what ≡ lead k l.before c p.ask) × AreLeads k c ps ls
AreLeads k c [] (l ∷ ls) = ⊥
AreLeads k c (p ∷ ps) [] = ⊥

-- core c's open context has followed its body so far
pub record FollowsSoFar (g : Config) (past : Past) (c : ℕ) : Type 0 where
  pub all : (reading g past c).rest ≡ []
  pub leads : AreLeads (declarations_of g) c (reading g past c).pairs (leads (declarations_of g) past c)

abbrev pub cells_in : Option Cells → Option (List ℕ)
cells_in cells = option_map (λ cs. cs.0) cells

-- it has followed its body to the end, and ends with the body's cells
pub record FollowsToEnd (g : Config) (past : Past) (c : ℕ) (end : Option Cells) : Type 0 where
  pub so_far : FollowsSoFar g past c
  pub over : (v : Env) × ((reading g past c).env ≡ Some v) × (cells_in end ≡ v.cells)

abbrev pub EndFollows : Config → Past → ℕ → What → Type 0
EndFollows g past c (What.End lost end) = FollowsToEnd g past c end
EndFollows g past c w = Unit {0}

-- each context that has ended has followed its body to the end
abbrev pub EndedFollow : Config → Past → Type 0
EndedFollow g [] = Unit {0}
EndedFollow g (e ∷ past) = EndFollows g past e.core.0 e.what × EndedFollow g past

-- the history is one that this graph may have under these limits
pub record Legal (g : Config) (l : Limits) (past : Past) : Type 0 where
  pub lawful : Lawful (declarations_of g) l past
  pub ended : EndedFollow g past
  pub begun : (c : ℕ) → c < g.cores → FollowsSoFar g past c

-- the same of a whole history with its oldest entry first, as it is kept and printed
abbrev pub IsLegal : Config → Limits → List Entry → Type 0
IsLegal g l history = Legal g l (reverse history)

abbrev pub IsLawful : Declarations → Limits → List Entry → Type 0
IsLawful k l history = Lawful k l (reverse history)
