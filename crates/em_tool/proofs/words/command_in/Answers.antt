use Rattle.std.proofs.Common.{rules, ◌≡◌, ◌∙◌, Some, IfSome, option_map, sym, ap, subst}
use Rattle.clap.specs.Words.{found_of}
use Rattle.em_tool.specs.Words.{IsCommand}
use Rattle.em_tool.specs.declared.commands.Command.{Command}
use Rattle.em_tool.proofs.Splitting.{all_values, given, no_burst, no_limit, no_order}
use Rattle.em_tool.proofs.words.command_in.Goals as goal

pub returns-in_default-get_str-clause-is_command : goal.returns-in_default-get_str-clause-is_command
returns-in_default-get_str-clause-is_command c =
    let whole = given c.args.matches.now c.in-Some.name.now (found_of c.in-Some.values.now) c.in-Some.ensures.name c.in-Some.ensures.rows in
    let same = no_limit _ _ _ _ _ whole (sym c.get_str.ensures ∙ ap (option_map (λ s. s.now)) c.in_default-get_str.is) in
    subst (λ t. IfSome c.check_of.result (IsCommand t)) (sym same) c.check_of.ensures.is_check

pub returns-in_default-get_str-clause-known : goal.returns-in_default-get_str-clause-known
returns-in_default-get_str-clause-known c asked is =
    let whole = given c.args.matches.now c.in-Some.name.now (found_of c.in-Some.values.now) c.in-Some.ensures.name c.in-Some.ensures.rows in
    let same = no_limit _ _ _ _ _ whole (sym c.get_str.ensures ∙ ap (option_map (λ s. s.now)) c.in_default-get_str.is) in
    c.check_of.ensures.known asked (subst (λ t. IsCommand t asked) same is)

pub returns-in_default-get_str-2-clause-is_command : goal.returns-in_default-get_str-2-clause-is_command
returns-in_default-get_str-2-clause-is_command c =
    let whole = given c.args.matches.now c.in-Some.name.now (found_of c.in-Some.values.now) c.in-Some.ensures.name c.in-Some.ensures.rows in
    let same = no_burst _ _ _ _ _ whole c.in-Some-get_str.limit.now (sym c.get_str.ensures ∙ ap (option_map (λ s. s.now)) c.in-Some-get_str.is)
    (sym c.get_str-2.ensures ∙ ap (option_map (λ s. s.now)) c.in_default-get_str-2.is) in
    subst (λ t. IfSome c.check_of-in_default-get_str-2.result (IsCommand t)) (sym same) c.check_of-in_default-get_str-2.ensures.is_check

pub returns-in_default-get_str-2-clause-known : goal.returns-in_default-get_str-2-clause-known
returns-in_default-get_str-2-clause-known c asked is =
    let whole = given c.args.matches.now c.in-Some.name.now (found_of c.in-Some.values.now) c.in-Some.ensures.name c.in-Some.ensures.rows in
    let same = no_burst _ _ _ _ _ whole c.in-Some-get_str.limit.now (sym c.get_str.ensures ∙ ap (option_map (λ s. s.now)) c.in-Some-get_str.is)
    (sym c.get_str-2.ensures ∙ ap (option_map (λ s. s.now)) c.in_default-get_str-2.is) in
    c.check_of-in_default-get_str-2.ensures.known asked (subst (λ t. IsCommand t asked) same is)

pub returns-in_default-get_str-3-clause-is_command : goal.returns-in_default-get_str-3-clause-is_command
returns-in_default-get_str-3-clause-is_command c =
    let whole = given c.args.matches.now c.in-Some.name.now (found_of c.in-Some.values.now) c.in-Some.ensures.name c.in-Some.ensures.rows in
    let same = no_order _ _ _ _ _ whole c.in-Some-get_str.limit.now c.in-Some-get_str-2.burst.now (sym c.get_str.ensures ∙ ap (option_map (λ s. s.now)) c.in-Some-get_str.is)
    (sym c.get_str-2.ensures ∙ ap (option_map (λ s. s.now)) c.in-Some-get_str-2.is) (sym c.get_str-3.ensures ∙ ap (option_map (λ s. s.now)) c.in_default-get_str-3.is) in
    subst (λ t. IfSome c.check_of-in_default-get_str-3.result (IsCommand t)) (sym same) c.check_of-in_default-get_str-3.ensures.is_check

pub returns-in_default-get_str-3-clause-known : goal.returns-in_default-get_str-3-clause-known
returns-in_default-get_str-3-clause-known c asked is =
    let whole = given c.args.matches.now c.in-Some.name.now (found_of c.in-Some.values.now) c.in-Some.ensures.name c.in-Some.ensures.rows in
    let same = no_order _ _ _ _ _ whole c.in-Some-get_str.limit.now c.in-Some-get_str-2.burst.now (sym c.get_str.ensures ∙ ap (option_map (λ s. s.now)) c.in-Some-get_str.is)
    (sym c.get_str-2.ensures ∙ ap (option_map (λ s. s.now)) c.in-Some-get_str-2.is) (sym c.get_str-3.ensures ∙ ap (option_map (λ s. s.now)) c.in_default-get_str-3.is) in
    c.check_of-in_default-get_str-3.ensures.known asked (subst (λ t. IsCommand t asked) same is)

pub returns-clause-is_command : goal.returns-clause-is_command
returns-clause-is_command c =
    let whole = given c.args.matches.now c.in-Some.name.now (found_of c.in-Some.values.now) c.in-Some.ensures.name c.in-Some.ensures.rows in
    let same = all_values _ _ _ _ _ whole c.in-Some-get_str.limit.now c.in-Some-get_str-2.burst.now c.in-Some-get_str-3.order.now (sym c.get_str.ensures ∙ ap (option_map (λ s. s.now)) c.in-Some-get_str.is)
    (sym c.get_str-2.ensures ∙ ap (option_map (λ s. s.now)) c.in-Some-get_str-2.is) (sym c.get_str-3.ensures ∙ ap (option_map (λ s. s.now)) c.in-Some-get_str-3.is) in
    subst (λ t. IfSome c.map.result (IsCommand t)) (sym same) (search rules)

pub returns-clause-known : goal.returns-clause-known
returns-clause-known c =
    let whole = given c.args.matches.now c.in-Some.name.now (found_of c.in-Some.values.now) c.in-Some.ensures.name c.in-Some.ensures.rows in
    let same = all_values _ _ _ _ _ whole c.in-Some-get_str.limit.now c.in-Some-get_str-2.burst.now c.in-Some-get_str-3.order.now (sym c.get_str.ensures ∙ ap (option_map (λ s. s.now)) c.in-Some-get_str.is)
    (sym c.get_str-2.ensures ∙ ap (option_map (λ s. s.now)) c.in-Some-get_str-2.is) (sym c.get_str-3.ensures ∙ ap (option_map (λ s. s.now)) c.in-Some-get_str-3.is) in
    subst (λ t. (asked : Command) → IsCommand t asked → c.map.result ≡ Some asked) (sym same) (search rules)
