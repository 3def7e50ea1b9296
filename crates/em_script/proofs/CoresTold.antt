-- A graph that is found has cores.
use Rattle.std.proofs.Common.{◌≡◌, ◌≤◌, true, false, refl, sym, ap, subst, ◌∙◌, ◌⊎◌, inl, inr, arith}
use Rattle.em_script.specs.declared.line.Line.{Line}
use Rattle.em_script.specs.declared.line.Line.TheVariants as lines
use Rattle.em_script.specs.declared.phase.Phase.{Phase}
use Rattle.em_script.specs.declared.phase.Phase.TheVariants as phases
use Rattle.em_script.specs.State.{State, first_state, after}
use Rattle.em_script.specs.Judging.{may_else}
use Rattle.em_script.proofs.Standing.{tells_cores, Stands}
use Rattle.em_script.proofs.CoresRead.{ended-cores, turned-cores}
use Rattle.em_script.proofs.Told.{Told, cores-told}

-- the cores are told by the first line
abbrev pub HasCores : State → Type 0
HasCores s = (s ≡ first_state) ⊎ (1 ≤ s.graph.cores)

later : (s : State) (l : Line) → Told s l → tells_cores l ≡ false → HasCores s → 1 ≤ s.graph.cores
later s l told e (inr h) = h
later s l told e (inl is) =
    let stands : tells_cores l ≡ true = subst (λ (t : State). Stands t.phase (may_else t.nest) l) is told.stands in
    let n : false ≡ true = sym e ∙ stands in
    absurd cc

pub cores-after : (l : Line) (s : State) → Told s l → HasCores s → HasCores (after l s)
cores-after (lines.Cores n) s told h = inr (cores-told s n told)
cores-after (lines.Pool d) s told h = inr (later s (lines.Pool d) told refl h)
cores-after (lines.Group name mask) s told h = inr (later s (lines.Group name mask) told refl h)
cores-after (lines.Eo name running) s told h = inr (later s (lines.Eo name running) told refl h)
cores-after (lines.Agroup d) s told h = inr (later s (lines.Agroup d) told refl h)
cores-after (lines.Queue d) s told h = inr (later s (lines.Queue d) told refl h)
cores-after (lines.Egroup name) s told h = inr (later s (lines.Egroup name) told refl h)
cores-after (lines.Body p) s told h = inr (later s (lines.Body p) told refl h)
cores-after lines.Done s told h = inr (later s lines.Done told refl h)
cores-after (lines.Statement x) s told h = inr (later s (lines.Statement x) told refl h)
cores-after (lines.If x) s told h = inr (later s (lines.If x) told refl h)
cores-after (lines.Repeat n) s told h = inr (later s (lines.Repeat n) told refl h)
cores-after lines.Else s told h = inr (let k = later s lines.Else told refl h in let e = turned-cores s.nest s in omega arith)
cores-after lines.End s told h = inr (let k = later s lines.End told refl h in let e = ended-cores s.nest s in omega arith)

pub cores-done : (s : State) → s.phase ≡ phases.Done → HasCores s → 1 ≤ s.graph.cores
cores-done s done (inr h) = h
cores-done s done (inl is) = absurd (let e : ◌≡◌ {A = Phase} phases.First phases.Done = ap (λ (t : State). t.phase) (sym is) ∙ done in cc)
