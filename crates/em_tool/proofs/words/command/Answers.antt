use Rattle.std.proofs.Common.{◌≡◌, ◌∙◌, ◌⊎◌, inl, inr, [], true, false, IfOk, IfSome, map, string_bytes, refl, sym, ap, subst}
use Rattle.clap.specs.Words.{IsAmong, app_of, fault_of, is_simple, is_simple_and_free, kind_of, subcommand_of}
use Rattle.clap.specs.declared.error.kind.ErrorKind.TheVariants as kind
use Rattle.em_tool.specs.Splitting.{command_line, words_in}
use Rattle.em_tool.specs.Words.{IsCommand}
use Rattle.em_tool.proofs.CommandTexts.{commanded}
use Rattle.em_tool.proofs.Splitting.{simple, simple_alone, whole}
use Rattle.em_tool.proofs.words.command.Goals as goal

pub returns-then-not-are_values-clause-known : goal.returns-then-not-are_values-clause-known
returns-then-not-are_values-clause-known c asked is =
    let bad : false ≡ true = c.if-not-are_values.ensures.1 (commanded asked (map string_bytes c.args.words.now) is).0 in
    absurd (cc (bad))

pub returns-in-Ok-try_get_matches_from-clause-is_command : goal.returns-in-Ok-try_get_matches_from-clause-is_command
returns-in-Ok-try_get_matches_from-clause-is_command c =
    let texts = map string_bytes c.args.words.now in
    let line : app_of c.in-Ok.line ≡ command_line = c.in-Ok.ensures in
    let none = sym (ap (λ a. fault_of a texts) line) ∙ c.in-Ok-try_get_matches_from.ensures.kinds (ap is_simple_and_free line ∙ simple) in
    let rows = (c.in-Ok-try_get_matches_from.ensures.matches (ap is_simple line ∙ simple_alone)).1 ∙ ap (λ a. subcommand_of a texts) line in
    let values = c.if-not-are_values.ensures.0 refl in
    let same = ap words_in rows ∙ whole texts values none in
    subst (λ t. IfOk c.command_in.result (λ found. IfSome found (IsCommand t))) same c.command_in.ensures.is_command

pub returns-in-Ok-try_get_matches_from-clause-known : goal.returns-in-Ok-try_get_matches_from-clause-known
returns-in-Ok-try_get_matches_from-clause-known c asked is =
    let texts = map string_bytes c.args.words.now in
    let line : app_of c.in-Ok.line ≡ command_line = c.in-Ok.ensures in
    let none = sym (ap (λ a. fault_of a texts) line) ∙ c.in-Ok-try_get_matches_from.ensures.kinds (ap is_simple_and_free line ∙ simple) in
    let rows = (c.in-Ok-try_get_matches_from.ensures.matches (ap is_simple line ∙ simple_alone)).1 ∙ ap (λ a. subcommand_of a texts) line in
    let values = c.if-not-are_values.ensures.0 refl in
    let same = ap words_in rows ∙ whole texts values none in
    c.command_in.ensures.known asked (subst (λ t. IsCommand t asked) (sym same) is)

pub returns : goal.returns
returns c = record {
  is_command = tt;
  known = λ asked is.
      let texts = map string_bytes c.args.words.now in
      let line : app_of c.in-Ok.line ≡ command_line = c.in-Ok.ensures in
      let none = ap (λ a. fault_of a texts) line ∙ (commanded asked texts is).1 in
      let failed = c.in-Err.ensures.kinds (ap is_simple_and_free line ∙ simple) in
      let memory : (kind_of c.in-Err.error ≡ kind.OutOfMemory) ⊎ IsAmong (kind_of c.in-Err.error) [] = subst (λ ks. (kind_of c.in-Err.error ≡ kind.OutOfMemory) ⊎ IsAmong (kind_of c.in-Err.error) ks) none failed in
      absurd (elim memory [
        | inl h ↦ c.in_default-kind.not-OutOfMemory (c.kind.ensures ∙ h)
        | inr h ↦ h
      ]);
}
