use Rattle.std.proofs.Common.{◌≡◌, min, refl, ap, sym, ◌∙◌, leb}
use Rattle.std.proofs.lemmas.Bool.{le-leb, lt-leb}
use Rattle.em_log.specs.Weights.{weight_of, steps_of}
use Rattle.em_script.proofs.Weighing.{error_weight, error_steps, light-weight, light-steps, light-both, light-first}
use Rattle.em_script.proofs.weights.is_light.Goals as goal
use Rattle.em_script.proofs.weights.is_light.Goals.{in-Some, in-None}

pub returns-then-weight_of-le256 : goal.returns-then-weight_of-le256
returns-then-weight_of-le256 c =
    let error = c.args.error.now in
    let body = c.args.body.now in
    let heavy : c.match-error.heavy.0 ≡ min (error_weight error) 257 = elim c.match-error.branch [
      | in-Some w ↦ ap (λ p. p.0) w.heavy-is ∙ w.weight_of.ensures ∙ ap (λ b. min (weight_of 0 b) 257) w.as_slice.ensures ∙ rw w.in-Some.is refl
      | in-None w ↦ ap (λ p. p.0) w.heavy-is ∙ rw w.in-None.is refl
    ] in
    let long : c.match-error.heavy.1 ≡ min (error_steps error) 65537 = elim c.match-error.branch [
      | in-Some w ↦ ap (λ p. p.1) w.heavy-is ∙ w.steps_of.ensures ∙ ap (λ b. min (steps_of 0 b) 65537) w.as_slice-in-Some.ensures ∙ rw w.in-Some.is refl
      | in-None w ↦ ap (λ p. p.1) w.heavy-is ∙ rw w.in-None.is refl
    ] in
    let first = light-weight error body c.match-error.heavy.0 c.weight_of-2.result heavy (c.weight_of-2.ensures ∙ ap (λ b. min (weight_of c.match-error.heavy.0 b) 257) c.as_slice-2.ensures) in
    let second = light-steps error body c.match-error.heavy.1 c.steps_of-then-weight_of-le256.result long (c.steps_of-then-weight_of-le256.ensures ∙ ap (λ b. min (steps_of c.match-error.heavy.1 b) 65537) c.as_slice-then-weight_of-le256.ensures) in
    second ∙ light-both (leb (weight_of (error_weight error) body) 256) (leb (steps_of (error_steps error) body) 65536) (sym first ∙ le-leb c.weight_of-2.result 256 c.if-weight_of-le256.true)

pub returns-else-weight_of-le256 : goal.returns-else-weight_of-le256
returns-else-weight_of-le256 c =
    let error = c.args.error.now in
    let body = c.args.body.now in
    let heavy : c.match-error.heavy.0 ≡ min (error_weight error) 257 = elim c.match-error.branch [
      | in-Some w ↦ ap (λ p. p.0) w.heavy-is ∙ w.weight_of.ensures ∙ ap (λ b. min (weight_of 0 b) 257) w.as_slice.ensures ∙ rw w.in-Some.is refl
      | in-None w ↦ ap (λ p. p.0) w.heavy-is ∙ rw w.in-None.is refl
    ] in
    let first = light-weight error body c.match-error.heavy.0 c.weight_of-2.result heavy (c.weight_of-2.ensures ∙ ap (λ b. min (weight_of c.match-error.heavy.0 b) 257) c.as_slice-2.ensures) in
    first ∙ light-first (leb (weight_of (error_weight error) body) 256) (leb (steps_of (error_steps error) body) 65536) (sym first ∙ lt-leb c.weight_of-2.result 256 c.if-weight_of-le256.false)
