-- A graph that is found is well formed.
use Rattle.std.proofs.Common.{◌≡◌, ℕ, Bool, true, false, cond, ◌&&◌, leb, List, [], ◌∷◌, ◌++◌, Option, Some, None, Ok, refl, ap, subst, inl, arith}
use Rattle.std.specs.Prelude.{◌||◌}
use Rattle.std.specs.List.{list_all, AllByRecursion}
use Rattle.std.specs.Option.{option_map_or, option_or}
use Rattle.em_log.specs.Names.{is_name, are_different}
use Rattle.em_log.specs.Weights.{weight_of, steps_of}
use Rattle.em_log.specs.WellFormed.{Where, Boot, GlobalError, Receive, Start, OtherOfObject, is_statement, is_body, is_error_body, is_unwritten, are_given, are_bodies, names_of, IsWellFormed}
use Rattle.em_log.specs.declared.body.Stmt.{Stmt}
use Rattle.em_log.specs.declared.graph.Config.{Config}
use Rattle.em_log.specs.declared.graph.EoDecl.{EoDecl}
use Rattle.em_script.specs.declared.draft.Frame.{Frame}
use Rattle.em_script.specs.declared.line.Line.{Line}
use Rattle.em_script.specs.declared.line.Line.TheVariants as lines
use Rattle.em_script.specs.declared.named.Named.TheVariants as named
use Rattle.em_script.specs.declared.phase.Phase.{Phase}
use Rattle.em_script.specs.declared.phase.Phase.TheVariants as phases
use Rattle.em_script.specs.Lines.{lines}
use Rattle.em_script.specs.Names.{name_in}
use Rattle.em_script.specs.Reading.{script_of}
use Rattle.em_script.specs.State.{State, first_state, after, after_all, ended, turned, body_ended}
use Rattle.em_script.specs.Judging.{unless, may_else, is_light, is_light_error, is_light_object, are_light}
use Rattle.em_script.proofs.Judgments.{Said}
use Rattle.em_script.proofs.Running.{run-of-script, steps-keep}
use Rattle.em_script.proofs.Agreeing.{extends-same}
use Rattle.em_script.proofs.Arranging.{arrangement-first}
use Rattle.em_script.proofs.Standing.{Stands}
use Rattle.em_script.proofs.Forms.{and-both, and-true}
use Rattle.em_script.proofs.Reached.{Reached, sound-first, reached-after}
use Rattle.em_script.proofs.Told.{Told, said-told, names_at}
use Rattle.em_script.proofs.Limits.{WithinLimits, limits-first, limits-after}
use Rattle.em_script.proofs.Contents.{AreGood, GroupIsKnown, good-first, good-after}
use Rattle.em_script.proofs.CoresTold.{HasCores, cores-after, cores-done}
use Rattle.em_script.proofs.NamesApart.{AreNamed, named-first, named-after, differ-different}
use Rattle.em_script.proofs.QueuesGood.{AreQueues, queues-first, queues-after}
use Rattle.em_script.proofs.OrderKept.{InOrder, order-first, order-after, order-is}
use Rattle.em_script.proofs.BodiesGood.{AreStated, IsStated, StatedObject, AreBodies, bodies-first, bodies-after}

-- ---- bodies are light where the script is done

abbrev pub LightAt : Phase → Config → Type 0
LightAt phases.Done g = are_light g ≡ true
LightAt _ g = Unit {0}

light-met : (b l : Bool) → cond b (unless l 9) 11 ≡ 12 → l ≡ true
light-met true true e = refl
light-met true false e = absurd (let n : ◌≡◌ {A = ℕ} 9 12 = e in omega arith)
light-met false l e = absurd (let n : ◌≡◌ {A = ℕ} 11 12 = e in omega arith)

-- no line stands behind the last one
light-at : (p : Phase) (may : Bool) (l : Line) (g : Config) → Stands p may l → LightAt p g
light-at phases.First may l g stands = tt
light-at phases.Declarations may l g stands = tt
light-at phases.Bodies may l g stands = tt
light-at (phases.Body p) may l g stands = tt
light-at phases.Done may l g stands = absurd stands

light-body_ended : (p : Phase) (may : Bool) (l : Line) (s : State) → s.phase ≡ p → Stands p may l → LightAt (body_ended p s).phase (body_ended p s).graph
light-body_ended phases.First may l s is stands = rw is tt
light-body_ended phases.Declarations may l s is stands = rw is tt
light-body_ended phases.Bodies may l s is stands = rw is tt
light-body_ended (phases.Body p) may l s is stands = tt
light-body_ended phases.Done may l s is stands = absurd stands

light-ended : (nest : List Frame) (may : Bool) (l : Line) (s : State) → Stands s.phase may l → LightAt (ended nest s).phase (ended nest s).graph
light-ended [] may l s stands = light-body_ended s.phase may l s refl stands
light-ended (f ∷ fs) may l s stands = light-at s.phase may l s.graph stands

light-turned : (nest : List Frame) (may : Bool) (l : Line) (s : State) → Stands s.phase may l → LightAt (turned nest s).phase (turned nest s).graph
light-turned [] may l s stands = light-at s.phase may l s.graph stands
light-turned (f ∷ fs) may l s stands = light-at s.phase may l s.graph stands

light-after : (l : Line) (s : State) → Told s l → LightAt (after l s).phase (after l s).graph
light-after (lines.Cores n) s told = tt
light-after (lines.Pool d) s told = light-at s.phase (may_else s.nest) (lines.Pool d) (after (lines.Pool d) s).graph told.stands
light-after (lines.Group name mask) s told = light-at s.phase (may_else s.nest) (lines.Group name mask) (after (lines.Group name mask) s).graph told.stands
light-after (lines.Eo name running) s told = light-at s.phase (may_else s.nest) (lines.Eo name running) (after (lines.Eo name running) s).graph told.stands
light-after (lines.Agroup d) s told = light-at s.phase (may_else s.nest) (lines.Agroup d) (after (lines.Agroup d) s).graph told.stands
light-after (lines.Queue d) s told = light-at s.phase (may_else s.nest) (lines.Queue d) (after (lines.Queue d) s).graph told.stands
light-after (lines.Egroup name) s told = light-at s.phase (may_else s.nest) (lines.Egroup name) (after (lines.Egroup name) s).graph told.stands
light-after (lines.Body p) s told = tt
light-after lines.Done s told = light-met s.has_boot (are_light s.graph) told.rule
light-after (lines.Statement x) s told = light-at s.phase (may_else s.nest) (lines.Statement x) (after (lines.Statement x) s).graph told.stands
light-after (lines.If x) s told = light-at s.phase (may_else s.nest) (lines.If x) (after (lines.If x) s).graph told.stands
light-after (lines.Repeat n) s told = light-at s.phase (may_else s.nest) (lines.Repeat n) (after (lines.Repeat n) s).graph told.stands
light-after lines.Else s told = light-turned s.nest (may_else s.nest) lines.Else s told.stands
light-after lines.End s told = light-ended s.nest (may_else s.nest) lines.End s told.stands

-- ---- the run

group-known : (l : Line) (s : State) → Told s l → GroupIsKnown s l
group-known (lines.Cores n) s told = tt
group-known (lines.Pool d) s told = tt
group-known (lines.Group name mask) s told = tt
group-known (lines.Eo name running) s told = tt
group-known (lines.Agroup d) s told = told.agree.declared (name_in (after (lines.Agroup d) s).graph (named.Group d.group)) (named.Group d.group) (told.named refl).1.0
group-known (lines.Queue d) s told = tt
group-known (lines.Egroup name) s told = tt
group-known (lines.Body p) s told = tt
group-known lines.Done s told = tt
group-known (lines.Statement x) s told = tt
group-known (lines.If x) s told = tt
group-known (lines.Repeat n) s told = tt
group-known lines.Else s told = tt
group-known lines.End s told = tt

-- what holds of the graph of each state that a script reaches
record Kept (s : State) (says : List Line) : Type 0 where
  reached : Reached s says
  limits : WithinLimits s.graph
  good : AreGood s.graph
  cores : HasCores s
  named : AreNamed s
  queues : AreQueues s
  order : InOrder s
  bodies : AreBodies s
  light : LightAt s.phase s.graph

abbrev IsKept : State → Type 0
IsKept s = (says : List Line) × Kept s says

kept-first : IsKept first_state
kept-first = (
  [],
  record {
    reached = record { sound = sound-first; arrangement = arrangement-first };
    limits = limits-first;
    good = good-first;
    cores = inl refl;
    named = named-first;
    queues = queues-first;
    order = order-first;
    bodies = bodies-first;
    light = tt;
  },
)

kept-after : (s : State) (bytes : List ℕ) (l : Line) → Said s bytes l → IsKept s → IsKept (after l s)
kept-after s bytes l said kept =
    let k = kept.1 in
    let sound = k.reached.sound in
    let told = said-told s bytes l kept.0 said sound.agree sound.plain sound.cores k.reached.arrangement.held in (
      kept.0 ++ l ∷ [],
      record {
        reached = reached-after s bytes l kept.0 said k.reached;
        limits = limits-after l s told.rule k.limits;
        good = good-after (names_at s l) l s told.named (group-known l s told) (λ e. ap (λ (t : State). t.graph.groups) (told.first e)) k.good;
        cores = cores-after l s told k.cores;
        named = named-after l s told k.named;
        queues = queues-after l s told k.queues;
        order = order-after l s told k.order;
        bodies = bodies-after l s told k.bodies;
        light = light-after l s told;
      },
    )

-- ---- the graph

body-is : (g : Config) (w : Where) (error : Option (List Stmt)) (b : List Stmt) → AreStated g w b → is_light error b ≡ true → is_body g w error b ≡ true
body-is g w error b stated light =
    let weight = leb (weight_of (option_map_or (weight_of 0) error 0) b) 256 in
    let steps = leb (steps_of (option_map_or (steps_of 0) error 0) b) 65536 in
    let parts = and-true weight steps light in
    and-both (list_all (is_statement g w 16) b && weight) steps (and-both (list_all (is_statement g w 16) b) weight stated parts.0) parts.1

error_body-is : (g : Config) (w : Where) (o : Option (List Stmt)) → IsStated g w o → is_light_error o ≡ true → is_error_body g w o ≡ true
error_body-is g w None stated light = refl
error_body-is g w (Some b) stated light = body-is g w None b stated light

five : (a b c d e : Bool) → a ≡ true → b ≡ true → c ≡ true → d ≡ true → e ≡ true → (a && b && c && d && e) ≡ true
five a b c d e p q r s t = rw (p, q, r, s, t) refl

seven : (a b c d e f g : Bool) → a ≡ true → b ≡ true → c ≡ true → d ≡ true → e ≡ true → f ≡ true → g ≡ true → (a && b && c && d && e && f && g) ≡ true
seven a b c d e f g p q r s t u v = rw (p, q, r, s, t, u, v) refl

given-is : (g : Config) (d : EoDecl) → StatedObject g d → are_given d ≡ true
given-is g d o = five (d.given.receive || is_unwritten d.receive) (d.given.start || is_unwritten d.start) (d.given.stop || is_unwritten d.stop) (d.given.lstart || is_unwritten d.lstart) (d.given.lstop || is_unwritten d.lstop) o.given_receive o.given_start o.given_stop o.given_lstart o.given_lstop

object-is : (g : Config) (d : EoDecl) → StatedObject g d → is_light_object g.error d ≡ true → are_bodies g d ≡ true
object-is g d o light =
    let error = option_or d.error g.error in
    let a = and-true (is_light error d.receive && is_light error d.start && is_light error d.stop && is_light error d.lstart && is_light error d.lstop) (is_light_error d.error) light in
    let b = and-true (is_light error d.receive && is_light error d.start && is_light error d.stop && is_light error d.lstart) (is_light error d.lstop) a.0 in
    let c = and-true (is_light error d.receive && is_light error d.start && is_light error d.stop) (is_light error d.lstart) b.0 in
    let e = and-true (is_light error d.receive && is_light error d.start) (is_light error d.stop) c.0 in
    let f = and-true (is_light error d.receive) (is_light error d.start) e.0 in
    seven (is_body g Receive error d.receive) (is_body g Start error d.start) (is_body g OtherOfObject error d.stop) (is_body g OtherOfObject error d.lstart) (is_body g OtherOfObject error d.lstop) (is_error_body g OtherOfObject d.error) (are_given d)
    (body-is g Receive error d.receive o.receive f.0)
    (body-is g Start error d.start o.start f.1)
    (body-is g OtherOfObject error d.stop o.stop e.1)
    (body-is g OtherOfObject error d.lstart o.lstart c.1)
    (body-is g OtherOfObject error d.lstop o.lstop b.1)
    (error_body-is g OtherOfObject d.error o.error a.1)
    (given-is g d o)

objects-are : (g : Config) (ds : List EoDecl) → AllByRecursion (StatedObject g) ds → list_all (is_light_object g.error) ds ≡ true → list_all (are_bodies g) ds ≡ true
objects-are g [] all light = refl
objects-are g (d ∷ ds) all light =
    let p = and-true (is_light_object g.error d) (list_all (is_light_object g.error) ds) light in
    and-both (are_bodies g d) (list_all (are_bodies g) ds) (object-is g d all.0 p.0) (objects-are g ds all.1 p.1)

light-done : (p : Phase) (g : Config) → p ≡ phases.Done → LightAt p g → are_light g ≡ true
light-done p g is h = subst (λ q. LightAt q g) is h

well : (s : State) (says : List Line) → s.phase ≡ phases.Done → Kept s says → IsWellFormed s.graph
well s says done k =
    let g = s.graph in
    let stated = (k.bodies g (extends-same g)).stated in
    let light = light-done s.phase g done k.light in
    let a = and-true (is_light g.error g.boot && is_light_error g.error) (list_all (is_light_object g.error) g.eos) light in
    let b = and-true (is_light g.error g.boot) (is_light_error g.error) a.0 in
    record {
      few = record { cores = (cores-done s done k.cores, k.reached.sound.cores); pools = k.limits.pools; events = k.limits.events; groups = k.limits.groups; eos = k.limits.eos; agroups = k.limits.agroups; queues = k.limits.queues; egroups = k.limits.egroups };
      names = and-both (list_all is_name (names_of g)) (are_different (names_of g)) k.named.all (differ-different (names_of g) k.named.differ);
      order = order-is s k.order;
      pools = k.good.pools;
      groups = k.good.groups;
      agroups = k.good.agroups;
      queues = k.queues g (extends-same g);
      boot = body-is g Boot g.error g.boot stated.boot b.0;
      error = error_body-is g GlobalError g.error stated.error b.1;
      eos = objects-are g g.eos stated.eos a.1;
    }

-- what is found is well formed
pub well-found : (bytes : List ℕ) (g : Config) → script_of bytes ≡ Ok g → IsWellFormed g
well-found bytes g e =
    let run = run-of-script bytes g e in
    let kept = steps-keep IsKept kept-after (lines bytes) first_state run.says run.steps kept-first in
    subst IsWellFormed run.graph (well (after_all run.says first_state) kept.0 run.done kept.1)
