-- The limits on how much a graph declares.
use Rattle.std.proofs.Common.{◌≡◌, ℕ, ◌+◌, ◌<◌, ◌≤◌, Bool, true, false, ltb, leb, List, [], ◌∷◌, ◌++◌, length, map, refl, arith, length-append}
use Rattle.std.proofs.lemmas.Bool.{ltb-true, leb-true}
use Rattle.em_log.specs.Declarations.{pool_shape, event_total}
use Rattle.em_log.specs.declared.graph.Config.{Config}
use Rattle.em_log.specs.declared.graph.PoolDecl.{PoolDecl}
use Rattle.em_log.specs.declared.body.Stmt.{Stmt}
use Rattle.em_script.specs.declared.draft.Frame.{Frame}
use Rattle.em_script.specs.declared.line.Line.{Line}
use Rattle.em_script.specs.declared.line.Line.TheVariants as lines
use Rattle.em_script.specs.declared.line.Place.{Place}
use Rattle.em_script.specs.declared.line.Place.TheVariants as places
use Rattle.em_script.specs.declared.phase.Phase.{Phase}
use Rattle.em_script.specs.declared.phase.Phase.TheVariants as phases
use Rattle.em_script.specs.State.{State, first_state, after, ended, turned, body_ended, with_body, new_eo}
use Rattle.em_script.specs.Judging.{rule_of, unless}
use Rattle.em_script.proofs.Forms.{and-true}
use Rattle.em_script.proofs.Agreeing.{with_body_at-length}

-- the limits, apart from that on cores
pub record WithinLimits (g : Config) : Type 0 where
  pub pools : length g.pools ≤ 8
  pub events : event_total (map pool_shape g.pools) ≤ 4096
  pub groups : length g.groups ≤ 32
  pub eos : length g.eos ≤ 64
  pub agroups : length g.agroups ≤ 32
  pub queues : length g.queues ≤ 256
  pub egroups : length g.egroups ≤ 64

limit-met : (b : Bool) → unless b 10 ≡ 12 → b ≡ true
limit-met true e = refl
limit-met false e = absurd (let n : ◌≡◌ {A = ℕ} 10 12 = e in omega arith)

below : (n most : ℕ) → unless (ltb n most) 10 ≡ 12 → n < most
below n most e = ltb-true n most (limit-met (ltb n most) e)

events-more : (ds : List PoolDecl) (d : PoolDecl) → event_total (map pool_shape (ds ++ d ∷ [])) ≡ event_total (map pool_shape ds) + d.events
events-more [] d = omega arith
events-more (x ∷ ds) d = let e = events-more ds d in omega arith

limits-body : (p : Place) (b : List Stmt) (g : Config) → WithinLimits g → WithinLimits (with_body p b g)
limits-body places.Boot b g h = record { pools = h.pools; events = h.events; groups = h.groups; eos = h.eos; agroups = h.agroups; queues = h.queues; egroups = h.egroups }
limits-body places.Error b g h = record { pools = h.pools; events = h.events; groups = h.groups; eos = h.eos; agroups = h.agroups; queues = h.queues; egroups = h.egroups }
limits-body (places.Object eo p) b g h = record { pools = h.pools; events = h.events; groups = h.groups; eos = rw (with_body_at-length eo.0 p b g.eos) h.eos; agroups = h.agroups; queues = h.queues; egroups = h.egroups }

limits-body_ended : (p : Phase) (s : State) → WithinLimits s.graph → WithinLimits (body_ended p s).graph
limits-body_ended phases.First s h = h
limits-body_ended phases.Declarations s h = h
limits-body_ended phases.Bodies s h = h
limits-body_ended (phases.Body p) s h = limits-body p s.block s.graph h
limits-body_ended phases.Done s h = h

limits-ended : (nest : List Frame) (s : State) → WithinLimits s.graph → WithinLimits (ended nest s).graph
limits-ended [] s h = limits-body_ended s.phase s h
limits-ended (f ∷ fs) s h = h

limits-turned : (nest : List Frame) (s : State) → WithinLimits s.graph → WithinLimits (turned nest s).graph
limits-turned [] s h = h
limits-turned (f ∷ fs) s h = h

pub limits-first : WithinLimits first_state.graph
limits-first = record { pools = omega arith; events = omega arith; groups = omega arith; eos = omega arith; agroups = omega arith; queues = omega arith; egroups = omega arith }

-- a line that no rule refuses stays within them
pub limits-after : (l : Line) (s : State) → rule_of s l ≡ 12 → WithinLimits s.graph → WithinLimits (after l s).graph
limits-after (lines.Cores n) s e h = record { pools = h.pools; events = h.events; groups = h.groups; eos = h.eos; agroups = h.agroups; queues = h.queues; egroups = h.egroups }
limits-after (lines.Pool d) s e h =
    let p = and-true (ltb (length s.graph.pools) 8) (leb (event_total (map pool_shape s.graph.pools) + d.events) 4096) (limit-met _ e) in
    let few = ltb-true (length s.graph.pools) 8 p.0 in
    let room = leb-true (event_total (map pool_shape s.graph.pools) + d.events) 4096 p.1 in
    record { pools = omega (arith, length-append s.graph.pools (d ∷ [])); events = rw (events-more s.graph.pools d) room; groups = h.groups; eos = h.eos; agroups = h.agroups; queues = h.queues; egroups = h.egroups }
limits-after (lines.Group name mask) s e h = let few = below (length s.graph.groups) 32 e in record { pools = h.pools; events = h.events; groups = omega (arith, length-append s.graph.groups ((record { name = name; mask = record { 0 = mask } }) ∷ [])); eos = h.eos; agroups = h.agroups; queues = h.queues; egroups = h.egroups }
limits-after (lines.Eo name running) s e h = let few = below (length s.graph.eos) 64 e in record { pools = h.pools; events = h.events; groups = h.groups; eos = omega (arith, length-append s.graph.eos ((new_eo name running) ∷ [])); agroups = h.agroups; queues = h.queues; egroups = h.egroups }
limits-after (lines.Agroup d) s e h = let few = below (length s.graph.agroups) 32 e in record { pools = h.pools; events = h.events; groups = h.groups; eos = h.eos; agroups = omega (arith, length-append s.graph.agroups ((d) ∷ [])); queues = h.queues; egroups = h.egroups }
limits-after (lines.Queue d) s e h = let few = below (length s.graph.queues) 256 e in record { pools = h.pools; events = h.events; groups = h.groups; eos = h.eos; agroups = h.agroups; queues = omega (arith, length-append s.graph.queues ((d) ∷ [])); egroups = h.egroups }
limits-after (lines.Egroup name) s e h = let few = below (length s.graph.egroups) 64 e in record { pools = h.pools; events = h.events; groups = h.groups; eos = h.eos; agroups = h.agroups; queues = h.queues; egroups = omega (arith, length-append s.graph.egroups ((name) ∷ [])) }
limits-after (lines.Body p) s e h = h
limits-after lines.Done s e h = h
limits-after (lines.Statement x) s e h = h
limits-after (lines.If x) s e h = h
limits-after (lines.Repeat n) s e h = h
limits-after lines.Else s e h = limits-turned s.nest s h
limits-after lines.End s e h = limits-ended s.nest s h
