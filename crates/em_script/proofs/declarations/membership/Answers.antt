use Rattle.std.proofs.Common.{sym, ap, subst, ◌∙◌}
use Rattle.std.specs.Prelude.{codes}
use Rattle.std.proofs.lemmas.Result.{err_from_is_err_and}
use Rattle.em_script.specs.Form.{Stops, given, agroup_name}
use Rattle.em_script.specs.Names.{reading}
use Rattle.em_script.specs.declared.line.Membership.TheVariants as memberships
use Rattle.em_script.proofs.Follows.{skipped, membership-in, given-stops}
use Rattle.em_script.proofs.declarations.membership.Goals as goal

pub returns-in_err-agroup : goal.returns-in_err-agroup
returns-in_err-agroup c =
    let p = err_from_is_err_and c.from_residual.result c.from_residual.ensures.1 in
    let names = reading c.args.names.now in
    let s = c.args.line.now in
    let after = skipped (codes "in") s c.word.new.self c.is_followed.result c.word.result c.is_followed.ensures c.if-is_followed.true c.word.ensures.at c.word.ensures.rest in
    let stop = given-stops (λ a. memberships.Agroup a) c.in_err-agroup.field-0.0 ((agroup_name names).read c.word.new.self) c.in_err-agroup.ensures in
    rw (p.1, p.2) (subst (λ r. Stops c.in_err-agroup.field-0.0 r) (ap (λ r. given (λ a. memberships.Agroup a) ((agroup_name names).read r)) after ∙ sym (membership-in names s (sym c.is_followed.ensures ∙ c.if-is_followed.true))) stop)

pub returns-then-is_followed : goal.returns-then-is_followed
returns-then-is_followed c =
    let names = reading c.args.names.now in
    let s = c.args.line.now in
    let after = skipped (codes "in") s c.word.new.self c.is_followed.result c.word.result c.is_followed.ensures c.if-is_followed.true c.word.ensures.at c.word.ensures.rest in
    membership-in names s (sym c.is_followed.ensures ∙ c.if-is_followed.true)
    ∙ ap (λ r. given (λ a. memberships.Agroup a) ((agroup_name names).read r)) (sym after)
    ∙ ap (given (λ a. memberships.Agroup a)) c.in_ok-agroup.ensures
