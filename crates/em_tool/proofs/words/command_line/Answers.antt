use Rattle.std.proofs.Common.{rules, true, ◌≡◌, ◌∙◌, ap, ap₂, codes}
use Rattle.std.proofs.lemmas.Result.{IfOk-weaker}
use Rattle.clap.specs.Words.{App, app_of, rule_of, with_rule, with_subcommand}
use Rattle.clap.specs.Simple.{app_of_fields, on_top}
use Rattle.em_tool.specs.Splitting.{check_line, solo_line, value_rule}
use Rattle.em_tool.proofs.words.command_line.Goals as goal

pub returns : goal.returns
returns c =
    let limit : rule_of c.required-limit.result ≡ value_rule (codes "LIMIT") = search rules in
    let burst : rule_of c.required-burst.result ≡ value_rule (codes "BURST") = search rules in
    let order : rule_of c.required-order.result ≡ value_rule (codes "ORDER") = search rules in
    let one = c.in_ok-arg.ensures.shape (search rules) ∙ ap₂ with_rule c.new-4.ensures.app limit in
    let two = c.in_ok-arg-2.ensures.shape (search rules) ∙ ap₂ with_rule one burst in
    let solo : app_of c.in_ok-solo.solo ≡ solo_line = c.in_ok-solo.ensures.shape (search rules) ∙ ap₂ with_rule two order in
    let check : app_of c.new-check.result ≡ check_line = c.new-check.ensures.app in
    let unnamed = ap app_of_fields c.no_binary_name.ensures ∙ ap (on_top (λ s. record s { no_binary_name = true })) c.new-5.ensures.app in
    let first = c.in_ok-subcommand.ensures.shape (search rules) ∙ ap₂ with_subcommand unnamed (ap (λ (a : App). a.top) solo) in
    IfOk-weaker c.subcommand-2.result _ _ (λ line adds. adds.shape c.new-check.ensures.local ∙ ap₂ with_subcommand first (ap (λ (a : App). a.top) check)) c.subcommand-2.ensures
