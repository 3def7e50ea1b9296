-- What a run keeps of where its body stands, and what that means.
use Rattle.std.specs.Option.{option_copied, option_map}
use Rattle.em_body.specs.Environments.{env_of}
use Rattle.em_body.specs.Standings as spec
use Rattle.em_body.specs.declared.standing.Outer.{Outer}
use Rattle.em_body.specs.declared.standing.Standing.{Standing}

abbrev pub outer_of : Outer → spec.Outer
outer_of o = record { variable = o.variable; env = env_of o.environment; left = o.stack }

abbrev pub standing_of : Standing → spec.Standing
standing_of s =
    record {
      env = env_of s.environment;
      left = s.stack;
      asking = option_copied s.asking;
      error = option_copied s.error;
      outer = option_map outer_of s.outer;
    }
