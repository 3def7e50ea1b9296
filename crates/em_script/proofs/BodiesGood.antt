-- The bodies of a graph that is read: their statements may stand where they do, and one that was not given is empty.
use Rattle.std.proofs.Common.{◌≡◌, ℕ, zero, suc, ◌<◌, ◌≤◌, Bool, true, false, List, [], ◌∷◌, ◌++◌, length, ltb, Option, Some, None, refl, sym, subst, ◌⊎◌, inl, inr, arith, ltb-true}
use Rattle.std.specs.Prelude.{◌||◌}
use Rattle.std.specs.List.{list_all, AllByRecursion}
use Rattle.em_log.specs.WellFormed.{Where, Boot, GlobalError, Receive, Start, OtherOfObject, is_expression, is_statement, is_unwritten}
use Rattle.em_log.specs.declared.body.Expr.{Expr}
use Rattle.em_log.specs.declared.body.Stmt.{Stmt}
use Rattle.em_log.specs.declared.graph.Config.{Config}
use Rattle.em_log.specs.declared.graph.EoDecl.{EoDecl}
use Rattle.em_script.specs.declared.draft.Frame.{Frame}
use Rattle.em_script.specs.declared.draft.Opened.TheVariants as opened
use Rattle.em_script.specs.declared.line.Line.{Line}
use Rattle.em_script.specs.declared.line.Line.TheVariants as lines
use Rattle.em_script.specs.declared.line.Part.{Part}
use Rattle.em_script.specs.declared.line.Part.TheVariants as parts
use Rattle.em_script.specs.declared.line.Place.{Place}
use Rattle.em_script.specs.declared.line.Place.TheVariants as places
use Rattle.em_script.specs.declared.phase.Phase.{Phase}
use Rattle.em_script.specs.declared.phase.Phase.TheVariants as phases
use Rattle.em_script.specs.Names.{Naming}
use Rattle.em_script.specs.State.{State, first_state, after, ended, turned, body_ended, with_body, with_body_at, with_part, new_eo, closed_block, else_of}
use Rattle.em_script.specs.Judging.{unless, where_of, where_of_part, may_stand_in, may_else}
use Rattle.em_script.proofs.Agreeing.{Extends, extends-then, extends-after, with_body_at-behind}
use Rattle.em_script.proofs.Fitting.{KnowsOnly, fits-plain, fits-expression}
use Rattle.em_script.proofs.ExpressionForm.{ExprFits}
use Rattle.em_script.proofs.Forms.{All-append}
use Rattle.em_script.proofs.OpenBodies.{IsOpenBody, begun, with-statement, with-opened, with-else, with-end, whole-body}
use Rattle.em_script.proofs.Standing.{Stands}
use Rattle.em_script.proofs.StatementForms.{StmtFits}
use Rattle.em_script.proofs.Told.{Told, knows-only, names_at}

-- ---- the bodies of an object

abbrev pub AreStated : Config → Where → List Stmt → Type 0
AreStated h w block = list_all (is_statement h w 16) block ≡ true

abbrev pub IsStated : Config → Where → Option (List Stmt) → Type 0
IsStated h w None = Unit {0}
IsStated h w (Some block) = AreStated h w block

pub record StatedObject (h : Config) (d : EoDecl) : Type 0 where
  pub receive : AreStated h Receive d.receive
  pub start : AreStated h Start d.start
  pub stop : AreStated h OtherOfObject d.stop
  pub lstart : AreStated h OtherOfObject d.lstart
  pub lstop : AreStated h OtherOfObject d.lstop
  pub error : IsStated h OtherOfObject d.error
  pub given_receive : (d.given.receive || is_unwritten d.receive) ≡ true
  pub given_start : (d.given.start || is_unwritten d.start) ≡ true
  pub given_stop : (d.given.stop || is_unwritten d.stop) ≡ true
  pub given_lstart : (d.given.lstart || is_unwritten d.lstart) ≡ true
  pub given_lstop : (d.given.lstop || is_unwritten d.lstop) ≡ true

stated-part : (h : Config) (p : Part) (b : List Stmt) (d : EoDecl) → AreStated h (where_of_part p) b → StatedObject h d → StatedObject h (with_part p b d)
stated-part h parts.Receive b d new o = record { receive = new; start = o.start; stop = o.stop; lstart = o.lstart; lstop = o.lstop; error = o.error; given_receive = refl; given_start = o.given_start; given_stop = o.given_stop; given_lstart = o.given_lstart; given_lstop = o.given_lstop }
stated-part h parts.Start b d new o = record { receive = o.receive; start = new; stop = o.stop; lstart = o.lstart; lstop = o.lstop; error = o.error; given_receive = o.given_receive; given_start = refl; given_stop = o.given_stop; given_lstart = o.given_lstart; given_lstop = o.given_lstop }
stated-part h parts.Stop b d new o = record { receive = o.receive; start = o.start; stop = new; lstart = o.lstart; lstop = o.lstop; error = o.error; given_receive = o.given_receive; given_start = o.given_start; given_stop = refl; given_lstart = o.given_lstart; given_lstop = o.given_lstop }
stated-part h parts.LocalStart b d new o = record { receive = o.receive; start = o.start; stop = o.stop; lstart = new; lstop = o.lstop; error = o.error; given_receive = o.given_receive; given_start = o.given_start; given_stop = o.given_stop; given_lstart = refl; given_lstop = o.given_lstop }
stated-part h parts.LocalStop b d new o = record { receive = o.receive; start = o.start; stop = o.stop; lstart = o.lstart; lstop = new; error = o.error; given_receive = o.given_receive; given_start = o.given_start; given_stop = o.given_stop; given_lstart = o.given_lstart; given_lstop = refl }
stated-part h parts.Error b d new o = record { receive = o.receive; start = o.start; stop = o.stop; lstart = o.lstart; lstop = o.lstop; error = new; given_receive = o.given_receive; given_start = o.given_start; given_stop = o.given_stop; given_lstart = o.given_lstart; given_lstop = o.given_lstop }

stated-new : (h : Config) (name : List ℕ) (running : Bool) → StatedObject h (new_eo name running)
stated-new h name running = record { receive = refl; start = refl; stop = refl; lstart = refl; lstop = refl; error = tt; given_receive = refl; given_start = refl; given_stop = refl; given_lstart = refl; given_lstop = refl }

stated-at : (h : Config) (n : ℕ) (p : Part) (b : List Stmt) (eos : List EoDecl) → AreStated h (where_of_part p) b → AllByRecursion (StatedObject h) eos → AllByRecursion (StatedObject h) (with_body_at n p b eos)
stated-at h n p b [] new all = tt
stated-at h zero p b (d ∷ ds) new all = (stated-part h p b d new all.0, all.1)
stated-at h (suc n) p b (d ∷ ds) new all = subst (AllByRecursion (StatedObject h)) (sym (with_body_at-behind n p b d ds)) (all.0, stated-at h n p b ds new all.1)

-- ---- the bodies of a graph

pub record StatedGraph (h g : Config) : Type 0 where
  pub boot : AreStated h Boot g.boot
  pub error : IsStated h GlobalError g.error
  pub eos : AllByRecursion (StatedObject h) g.eos

stated-body : (h : Config) (p : Place) (b : List Stmt) (g : Config) → AreStated h (where_of p) b → StatedGraph h g → StatedGraph h (with_body p b g)
stated-body h places.Boot b g new o = record { boot = new; error = o.error; eos = o.eos }
stated-body h places.Error b g new o = record { boot = o.boot; error = new; eos = o.eos }
stated-body h (places.Object eo p) b g new o = record { boot = o.boot; error = o.error; eos = stated-at h eo.0 p b g.eos new o.eos }

-- what stands open, by how far the reading has come
abbrev pub Opens : Phase → Config → List Stmt → List Frame → Type 0
Opens (phases.Body p) h block nest = IsOpenBody h (where_of p) block nest
Opens _ h block nest = (block ≡ []) × (nest ≡ [])

pub record GoodAt (h : Config) (s : State) : Type 0 where
  pub stated : StatedGraph h s.graph
  pub opens : Opens s.phase h s.block s.nest

-- the bodies are good in each graph that goes on from here
abbrev pub AreBodies : State → Type 0
AreBodies s = (h : Config) → Extends s.graph h → GoodAt h s

pub bodies-first : AreBodies first_state
bodies-first h ext = record { stated = record { boot = refl; error = tt; eos = tt }; opens = (refl, refl) }

-- ---- lines

closed-body : (p : Phase) (may : Bool) (h : Config) (block : List Stmt) (nest : List Frame) (q : Place) → Stands p may (lines.Body q) → Opens p h block nest → (block ≡ []) × (nest ≡ [])
closed-body phases.First may h block nest q stands o = absurd cc
closed-body phases.Declarations may h block nest q stands o = o
closed-body phases.Bodies may h block nest q stands o = o
closed-body (phases.Body p) may h block nest q stands o = absurd stands
closed-body phases.Done may h block nest q stands o = absurd stands

closed-done : (p : Phase) (may : Bool) (h : Config) (block : List Stmt) (nest : List Frame) → Stands p may lines.Done → Opens p h block nest → (block ≡ []) × (nest ≡ [])
closed-done phases.First may h block nest stands o = absurd cc
closed-done phases.Declarations may h block nest stands o = o
closed-done phases.Bodies may h block nest stands o = o
closed-done (phases.Body p) may h block nest stands o = absurd stands
closed-done phases.Done may h block nest stands o = absurd stands

stand-met : (b : Bool) → unless b 7 ≡ 12 → b ≡ true
stand-met true e = refl
stand-met false e = absurd (let n : ◌≡◌ {A = ℕ} 7 12 = e in omega arith)

room-met : (b : Bool) → unless b 10 ≡ 12 → b ≡ true
room-met true e = refl
room-met false e = absurd (let n : ◌≡◌ {A = ℕ} 10 12 = e in omega arith)

statement-at : (p : Phase) (may : Bool) (names : Naming) (h : Config) → KnowsOnly names h → (block : List Stmt) (nest : List Frame) (x : Stmt) → Stands p may (lines.Statement x) → StmtFits names x → may_stand_in p x ≡ true → Opens p h block nest → Opens p h (block ++ x ∷ []) nest
statement-at (phases.Body p) may names h k block nest x stands fits m o = with-statement names h (where_of p) block nest x fits (fits-plain names h k (where_of p) x fits m) o
statement-at phases.First may names h k block nest x stands fits m o = absurd cc
statement-at phases.Declarations may names h k block nest x stands fits m o = absurd cc
statement-at phases.Bodies may names h k block nest x stands fits m o = absurd cc
statement-at phases.Done may names h k block nest x stands fits m o = absurd stands

if-at : (p : Phase) (may : Bool) (h : Config) (block : List Stmt) (nest : List Frame) (e : Expr) → Stands p may (lines.If e) → is_expression e ≡ true → length nest < 16 → Opens p h block nest → Opens p h [] (record { before = block; opened = opened.If e } ∷ nest)
if-at (phases.Body p) may h block nest e stands good few o = with-opened h (where_of p) block nest (opened.If e) (λ d. good) few o
if-at phases.First may h block nest e stands good few o = absurd cc
if-at phases.Declarations may h block nest e stands good few o = absurd cc
if-at phases.Bodies may h block nest e stands good few o = absurd cc
if-at phases.Done may h block nest e stands good few o = absurd stands

repeat-at : (p : Phase) (may : Bool) (h : Config) (block : List Stmt) (nest : List Frame) (n : ℕ) → Stands p may (lines.Repeat n) → (1 ≤ n) × (n ≤ 256) → length nest < 16 → Opens p h block nest → Opens p h [] (record { before = block; opened = opened.Repeat n } ∷ nest)
repeat-at (phases.Body p) may h block nest n stands good few o = with-opened h (where_of p) block nest (opened.Repeat n) (λ d. good) few o
repeat-at phases.First may h block nest n stands good few o = absurd cc
repeat-at phases.Declarations may h block nest n stands good few o = absurd cc
repeat-at phases.Bodies may h block nest n stands good few o = absurd cc
repeat-at phases.Done may h block nest n stands good few o = absurd stands

else-at : (p : Phase) (may : Bool) (h : Config) (s : State) (nest : List Frame) → s.phase ≡ p → s.nest ≡ nest → Stands p may lines.Else → StatedGraph h s.graph → Opens p h s.block nest → GoodAt h (turned nest s)
else-at (phases.Body p) may h s [] at is stands g o = record { stated = g; opens = subst (λ q. Opens q h s.block s.nest) (sym at) (subst (λ n. IsOpenBody h (where_of p) s.block n) (sym is) o) }
else-at (phases.Body p) may h s (f ∷ fs) at is stands g o = record { stated = g; opens = subst (λ q. Opens q h [] (record { before = f.before; opened = else_of f.opened s.block } ∷ fs)) (sym at) (with-else h (where_of p) s.block f fs o) }
else-at phases.First may h s nest at is stands g o = absurd cc
else-at phases.Declarations may h s nest at is stands g o = absurd cc
else-at phases.Bodies may h s nest at is stands g o = absurd cc
else-at phases.Done may h s nest at is stands g o = absurd stands

body_end-at : (p : Phase) (may : Bool) (h : Config) (s : State) → s.nest ≡ [] → Stands p may lines.End → StatedGraph h s.graph → Opens p h s.block [] → GoodAt h (body_ended p s)
body_end-at (phases.Body p) may h s is stands g o = record { stated = stated-body h p s.block s.graph (whole-body h (where_of p) s.block o) g; opens = (refl, is) }
body_end-at phases.First may h s is stands g o = absurd cc
body_end-at phases.Declarations may h s is stands g o = absurd cc
body_end-at phases.Bodies may h s is stands g o = absurd cc
body_end-at phases.Done may h s is stands g o = absurd stands

end-in : (p : Phase) (may : Bool) (h : Config) (block : List Stmt) (f : Frame) (fs : List Frame) → Stands p may lines.End → Opens p h block (f ∷ fs) → Opens p h (f.before ++ closed_block f.opened block ∷ []) fs
end-in (phases.Body p) may h block f fs stands o = with-end h (where_of p) block f fs o
end-in phases.First may h block f fs stands o = absurd cc
end-in phases.Declarations may h block f fs stands o = absurd cc
end-in phases.Bodies may h block f fs stands o = absurd cc
end-in phases.Done may h block f fs stands o = absurd stands

end-at : (may : Bool) (h : Config) (s : State) (nest : List Frame) → s.nest ≡ nest → Stands s.phase may lines.End → StatedGraph h s.graph → Opens s.phase h s.block nest → GoodAt h (ended nest s)
end-at may h s [] is stands g o = body_end-at s.phase may h s is stands g o
end-at may h s (f ∷ fs) is stands g o = record { stated = g; opens = end-in s.phase may h s.block f fs stands o }

fits-statement : (names : Naming) (x : Stmt) (may : Bool) → ⊥ ⊎ StmtFits names x → StmtFits names x
fits-statement names x may (inl f) = absurd f
fits-statement names x may (inr f) = f

fits-if : (e : Expr) → ⊥ ⊎ (ExprFits e × Unit {0}) → is_expression e ≡ true
fits-if e (inl f) = absurd f
fits-if e (inr f) = fits-expression e f.0

fits-repeat : (n : ℕ) → ⊥ ⊎ (((1 ≤ n) × (n ≤ 256)) × Unit {0}) → (1 ≤ n) × (n ≤ 256)
fits-repeat n (inl f) = absurd f
fits-repeat n (inr f) = f.0

first-closed : (p : Phase) (may : Bool) (h : Config) (block : List Stmt) (nest : List Frame) (n : ℕ) → Stands p may (lines.Cores n) → Opens p h block nest → (block ≡ []) × (nest ≡ [])
first-closed phases.First may h block nest n stands o = o
first-closed phases.Declarations may h block nest n stands o = absurd cc
first-closed phases.Bodies may h block nest n stands o = absurd cc
first-closed (phases.Body p) may h block nest n stands o = absurd stands
first-closed phases.Done may h block nest n stands o = absurd stands

pub bodies-after : (l : Line) (s : State) → Told s l → AreBodies s → AreBodies (after l s)
bodies-after (lines.Cores n) s told b = λ h ext.
    let grows = extends-then s.graph (after (lines.Cores n) s).graph h (extends-after (lines.Cores n) s) ext in
    let o = b h grows in
    record { stated = record { boot = o.stated.boot; error = o.stated.error; eos = o.stated.eos }; opens = first-closed s.phase (may_else s.nest) h s.block s.nest n told.stands o.opens }
bodies-after (lines.Pool d) s told b = λ h ext.
    let grows = extends-then s.graph (after (lines.Pool d) s).graph h (extends-after (lines.Pool d) s) ext in
    let o = b h grows in
    record { stated = record { boot = o.stated.boot; error = o.stated.error; eos = o.stated.eos }; opens = o.opens }
bodies-after (lines.Group name mask) s told b = λ h ext.
    let grows = extends-then s.graph (after (lines.Group name mask) s).graph h (extends-after (lines.Group name mask) s) ext in
    let o = b h grows in
    record { stated = record { boot = o.stated.boot; error = o.stated.error; eos = o.stated.eos }; opens = o.opens }
bodies-after (lines.Agroup d) s told b = λ h ext.
    let grows = extends-then s.graph (after (lines.Agroup d) s).graph h (extends-after (lines.Agroup d) s) ext in
    let o = b h grows in
    record { stated = record { boot = o.stated.boot; error = o.stated.error; eos = o.stated.eos }; opens = o.opens }
bodies-after (lines.Queue d) s told b = λ h ext.
    let grows = extends-then s.graph (after (lines.Queue d) s).graph h (extends-after (lines.Queue d) s) ext in
    let o = b h grows in
    record { stated = record { boot = o.stated.boot; error = o.stated.error; eos = o.stated.eos }; opens = o.opens }
bodies-after (lines.Egroup name) s told b = λ h ext.
    let grows = extends-then s.graph (after (lines.Egroup name) s).graph h (extends-after (lines.Egroup name) s) ext in
    let o = b h grows in
    record { stated = record { boot = o.stated.boot; error = o.stated.error; eos = o.stated.eos }; opens = o.opens }
bodies-after (lines.Eo name running) s told b = λ h ext.
    let grows = extends-then s.graph (after (lines.Eo name running) s).graph h (extends-after (lines.Eo name running) s) ext in
    let o = b h grows in
    record { stated = record { boot = o.stated.boot; error = o.stated.error; eos = All-append (StatedObject h) s.graph.eos (new_eo name running ∷ []) o.stated.eos (stated-new h name running, tt) }; opens = o.opens }
bodies-after (lines.Body p) s told b = λ h ext.
    let grows = extends-then s.graph (after (lines.Body p) s).graph h (extends-after (lines.Body p) s) ext in
    let o = b h grows in
    let c = closed-body s.phase (may_else s.nest) h s.block s.nest p told.stands o.opens in
    record { stated = o.stated; opens = rw (c.0, c.1) (begun h (where_of p)) }
bodies-after lines.Done s told b = λ h ext.
    let grows = extends-then s.graph (after lines.Done s).graph h (extends-after lines.Done s) ext in
    let o = b h grows in
    record { stated = o.stated; opens = closed-done s.phase (may_else s.nest) h s.block s.nest told.stands o.opens }
bodies-after (lines.Statement x) s told b = λ h ext.
    let grows = extends-then s.graph (after (lines.Statement x) s).graph h (extends-after (lines.Statement x) s) ext in
    let o = b h grows in
    let fits = fits-statement (names_at s (lines.Statement x)) x (may_else s.nest) told.fits in
    record { stated = o.stated; opens = statement-at s.phase (may_else s.nest) (names_at s (lines.Statement x)) h (knows-only s (after (lines.Statement x) s).graph h told.agree grows) s.block s.nest x told.stands fits (stand-met (may_stand_in s.phase x) told.rule) o.opens }
bodies-after (lines.If e) s told b = λ h ext.
    let grows = extends-then s.graph (after (lines.If e) s).graph h (extends-after (lines.If e) s) ext in
    let o = b h grows in
    record { stated = o.stated; opens = if-at s.phase (may_else s.nest) h s.block s.nest e told.stands (fits-if e told.fits) (ltb-true (length s.nest) 16 (room-met (ltb (length s.nest) 16) told.rule)) o.opens }
bodies-after (lines.Repeat n) s told b = λ h ext.
    let grows = extends-then s.graph (after (lines.Repeat n) s).graph h (extends-after (lines.Repeat n) s) ext in
    let o = b h grows in
    record { stated = o.stated; opens = repeat-at s.phase (may_else s.nest) h s.block s.nest n told.stands (fits-repeat n told.fits) (ltb-true (length s.nest) 16 (room-met (ltb (length s.nest) 16) told.rule)) o.opens }
bodies-after lines.Else s told b = λ h ext.
    let grows = extends-then s.graph (after lines.Else s).graph h (extends-after lines.Else s) ext in
    let o = b h grows in
    else-at s.phase (may_else s.nest) h s s.nest refl refl told.stands o.stated o.opens
bodies-after lines.End s told b = λ h ext.
    let grows = extends-then s.graph (after lines.End s).graph h (extends-after lines.End s) ext in
    let o = b h grows in
    end-at (may_else s.nest) h s s.nest refl told.stands o.stated o.opens
