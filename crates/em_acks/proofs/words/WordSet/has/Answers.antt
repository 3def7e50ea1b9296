use Rattle.std.proofs.Common.{ap, ◌∙◌}
use Rattle.std.proofs.lemmas.Bool.{le-ltb}
use Rattle.em_log.specs.History.{has}
use Rattle.em_acks.proofs.WordLemmas.{member-has, none-above}
use Rattle.em_acks.proofs.words.WordSet.has.Goals as goal

pub returns-then-number-lt-WORD_BITS : goal.returns-then-number-lt-WORD_BITS
returns-then-number-lt-WORD_BITS c =
    member-has c.self.inside.bits c.args.number c.if-number-lt-WORD_BITS.true ∙ ap (λ l. has l c.args.number) c.self.view_is

pub returns-else-number-lt-WORD_BITS : goal.returns-else-number-lt-WORD_BITS
returns-else-number-lt-WORD_BITS c =
    le-ltb c.args.number 64 c.if-number-lt-WORD_BITS.false
    ∙ (none-above c.self.inside.bits c.args.number c.if-number-lt-WORD_BITS.false ∙ ap (λ l. has l c.args.number) c.self.view_is)
