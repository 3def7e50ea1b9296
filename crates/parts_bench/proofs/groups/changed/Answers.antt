use Rattle.std.proofs.Common.{◌≡◌, ℕ, ◌==◌, ◌∷◌, Bool, true, false, List, Some, None, IsSome, if◌then◌else◌, refl, ap, sym, ◌∙◌, subst}
use Rattle.std.proofs.lemmas.Bool.{eq-eqb}
use Rattle.em_groups.specs.Steps.{GroupStep, Began, Finished}
use Rattle.em_groups.specs.Masks.{change}
use Rattle.parts_bench.proofs.groups.changed.Goals as goal

-- a change that is done is none
none_left : (steps : List GroupStep) (g m : ℕ) → ((h : ℕ) → change steps h ≡ None) → (h : ℕ) → change (Finished g ∷ Began g m ∷ steps) h ≡ None
none_left steps g m none h = by_test (g == h) (none h)
  where
    by_test : (b : Bool) → change steps h ≡ None → (if b then None else (if b then Some m else change steps h)) ≡ None
    by_test true _ = refl
    by_test false e = e

pub finish-requires : goal.finish-requires
finish-requires c =
    let began = c.in-Ok.ensures.stands c.requires.settled.graph c.requires.settled.steps c.requires.settled.stands in
    subst IsSome
    (sym (began.changes c.args.group.0
    ∙ ap (λ (b : Bool). if b then Some c.args.mask else change c.requires.settled.steps c.args.group.0) (eq-eqb c.args.group.0 c.args.group.0 refl)))
    refl

pub returns-in-Ok-clause-settled : goal.returns-in-Ok-clause-settled
returns-in-Ok-clause-settled c =
    let began = c.in-Ok.ensures.stands c.requires.settled.graph c.requires.settled.steps c.requires.settled.stands in
    record {
      graph = c.requires.settled.graph;
      steps = Finished c.args.group.0 ∷ Began c.args.group.0 c.args.mask ∷ c.requires.settled.steps;
      stands = c.finish.ensures.stands c.requires.settled.graph (Began c.args.group.0 c.args.mask ∷ c.requires.settled.steps) began;
      settled = none_left c.requires.settled.steps c.args.group.0 c.args.mask c.requires.settled.settled;
    }

pub returns-in-Err-clause-settled : goal.returns-in-Err-clause-settled
returns-in-Err-clause-settled c = record {
  graph = c.requires.settled.graph;
  steps = c.requires.settled.steps;
  stands = c.in-Err.ensures.stands c.requires.settled.graph c.requires.settled.steps c.requires.settled.stands;
  settled = c.requires.settled.settled;
}
