-- What a line comes to: the least rule that fails, or what it says.
use Rattle.std.specs.Prelude.{ℕ, ◌+◌, Bool, true, false, not, ◌&&◌, List, [], ◌∷◌, length, map, min, Option, Some, None, is_some, ◌==◌, nat_lt, nat_le, slice_index, slice_get, if◌then◌else◌}
use Rattle.std.specs.List.{list_all}
use Rattle.std.specs.Option.{option_map_or, option_or}
use Rattle.em_log.specs.declared.body.Stmt.{Stmt}
use Rattle.em_log.specs.declared.graph.Config.{Config}
use Rattle.em_log.specs.declared.graph.EoDecl.{EoDecl}
use Rattle.em_log.specs.Declarations.{pool_shape, event_total}
use Rattle.em_log.specs.Weights.{weight_of, steps_of}
use Rattle.em_log.specs.WellFormed.{Where, Boot, GlobalError, Receive, Start, OtherOfObject, may_begin, is_of_object, may_fail}
use Rattle.em_script.specs.declared.line.Line.{Line}
use Rattle.em_script.specs.declared.line.Line.TheVariants as lines
use Rattle.em_script.specs.declared.line.Part.{Part}
use Rattle.em_script.specs.declared.line.Part.TheVariants as parts
use Rattle.em_script.specs.declared.line.Place.{Place}
use Rattle.em_script.specs.declared.line.Place.TheVariants as places
use Rattle.em_script.specs.declared.phase.Phase.{Phase}
use Rattle.em_script.specs.declared.phase.Phase.TheVariants as phases
use Rattle.em_script.specs.declared.draft.Frame.{Frame}
use Rattle.em_script.specs.declared.draft.Opened.{Opened}
use Rattle.em_script.specs.declared.draft.Opened.TheVariants as opened
use Rattle.em_script.specs.declared.judging.Judged.{Judged}
use Rattle.em_script.specs.declared.judging.Judged.TheVariants as judgments
use Rattle.em_script.specs.Lines.{Rest, tokens, is_plain_line}
use Rattle.em_script.specs.Names.{reading}
use Rattle.em_script.specs.Statements.{read_body_line}
use Rattle.em_script.specs.Declarations.{read_top_line}
use Rattle.em_script.specs.State.{State}

-- a rule where it fails, or 12
abbrev pub unless : Bool → ℕ → ℕ
unless good rule = if good then 12 else rule

-- ---- where statements may stand

abbrev pub where_of_part : Part → Where
where_of_part parts.Receive = Receive
where_of_part parts.Start = Start
where_of_part _ = OtherOfObject

abbrev pub where_of : Place → Where
where_of places.Boot = Boot
where_of places.Error = GlobalError
where_of (places.Object eo p) = where_of_part p

abbrev pub may_stand_at : Where → Stmt → Bool
may_stand_at w (Stmt.Keep e) = is_of_object w
may_stand_at w (Stmt.Claim v) = is_of_object w
may_stand_at w (Stmt.Start x ns) = may_begin w
may_stand_at w (Stmt.Stop x ns) = may_begin w
may_stand_at w (Stmt.Modify n e ns) = may_begin w
may_stand_at w Stmt.Fail = may_fail w
may_stand_at w s = true

abbrev pub may_stand_in : Phase → Stmt → Bool
may_stand_in (phases.Body p) s = may_stand_at (where_of p) s
may_stand_in _ s = true

abbrev pub is_if : Opened → Bool
is_if (opened.If e) = true
is_if _ = false

-- whether the innermost block is an `if` without an `else`
abbrev pub may_else : List Frame → Bool
may_else nest = option_map_or (λ f. is_if f.opened) (slice_get nest 0) false

-- ---- bodies given before

abbrev pub has_part : Part → EoDecl → Bool
has_part parts.Receive d = d.given.receive
has_part parts.Start d = d.given.start
has_part parts.Stop d = d.given.stop
has_part parts.LocalStart d = d.given.lstart
has_part parts.LocalStop d = d.given.lstop
has_part parts.Error d = is_some d.error

abbrev pub is_given : State → Place → Bool
is_given s places.Boot = s.has_boot
is_given s places.Error = is_some s.graph.error
is_given s (places.Object eo p) = option_map_or (has_part p) (slice_get s.graph.eos eo.0) false

-- ---- weights and steps

-- a body whose faults are served by this error body, if there is one
abbrev pub is_light : Option (List Stmt) → List Stmt → Bool
is_light error body =
    nat_le (weight_of (option_map_or (weight_of 0) error 0) body) 256 && nat_le (steps_of (option_map_or (steps_of 0) error 0) body) 65536

abbrev pub is_light_error : Option (List Stmt) → Bool
is_light_error body = option_map_or (is_light None) body true

-- an object's bodies: its own error body serves their faults, else the one of the whole
abbrev pub is_light_object : Option (List Stmt) → EoDecl → Bool
is_light_object global d =
    let error = option_or d.error global in
    is_light error d.receive && is_light error d.start && is_light error d.stop && is_light error d.lstart && is_light error d.lstop
    && is_light_error d.error

abbrev pub are_light : Config → Bool
are_light g = is_light g.error g.boot && is_light_error g.error && list_all (is_light_object g.error) g.eos

-- ---- rules that the state decides

-- the least rule that fails of a line that has a form, apart from those of its names and numbers; or 12
abbrev pub rule_of : State → Line → ℕ
rule_of s (lines.Pool d) =
    unless (nat_lt (length s.graph.pools) 8 && nat_le (event_total (map pool_shape s.graph.pools) + d.events) 4096) 10
rule_of s (lines.Group name mask) = unless (nat_lt (length s.graph.groups) 32) 10
rule_of s (lines.Eo name running) = unless (nat_lt (length s.graph.eos) 64) 10
rule_of s (lines.Agroup d) = unless (nat_lt (length s.graph.agroups) 32) 10
rule_of s (lines.Queue d) = unless (nat_lt (length s.graph.queues) 256) 10
rule_of s (lines.Egroup name) = unless (nat_lt (length s.graph.egroups) 64) 10
rule_of s (lines.Body p) = unless (not (is_given s p)) 8
rule_of s (lines.Statement x) = unless (may_stand_in s.phase x) 7
rule_of s (lines.If e) = unless (nat_lt (length s.nest) 16) 10
rule_of s (lines.Repeat n) = unless (nat_lt (length s.nest) 16) 10
rule_of s lines.Done = if s.has_boot then unless (are_light s.graph) 9 else 11
rule_of s _ = 12

-- ---- lines

-- what a line says, by what may come next
abbrev pub read_by_phase : Phase → State → Rest → Option (Line × Rest)
read_by_phase (phases.Body p) s rest = read_body_line (reading s.table) (may_else s.nest) rest
read_by_phase phase s rest = read_top_line (reading s.table) s.graph.cores phase rest

abbrev pub told : Line → ℕ → Judged
told line rule = if rule == 12 then judgments.Says line else judgments.Refused rule

-- rule 2: the line has no form; else the least of the rules of its names and numbers and of those that the state decides
abbrev pub resolved : State → Option (Line × Rest) → Judged
resolved s None = judgments.Refused 2
resolved s (Some x) = told x.0 (min x.1.rule (rule_of s x.0))

-- nothing stands in the line, or a comment
abbrev pub is_skipped : List (List ℕ) → Bool
is_skipped [] = true
is_skipped (token ∷ tokens) = slice_index token 0 == 35

abbrev pub judge_tokens : State → List (List ℕ) → Judged
judge_tokens s ts =
    if is_skipped ts then judgments.Skipped else resolved s (read_by_phase s.phase s (record { tokens = ts; rule = 12 }))

-- rule 1: a byte that may not stand in a line
unfoldable pub judge : State → List ℕ → Judged
judge s line = if is_plain_line line then judge_tokens s (tokens line) else judgments.Refused 1
