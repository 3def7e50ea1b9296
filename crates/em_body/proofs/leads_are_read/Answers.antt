use Rattle.em_body.proofs.LeadsRead.{lead-read}
use Rattle.em_body.proofs.leads_are_read.Goals as goal

pub returns : goal.returns
returns c = lead-read
