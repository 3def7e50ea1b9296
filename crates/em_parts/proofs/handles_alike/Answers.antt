use Rattle.em_parts.proofs.Mintings.{same-generation, same-minting, same-last}
use Rattle.em_parts.proofs.Holdings.{same-held}
use Rattle.em_parts.proofs.Spendings.{same-rule}
use Rattle.em_parts.proofs.handles_alike.Goals as goal

pub returns : goal.returns
returns c = λ k l past all. record {
  generation = same-generation k past;
  minting = same-minting k past;
  last = same-last k past;
  held = λ c. same-held k l past c all;
  rule = λ c w. same-rule k l past c w all;
}
