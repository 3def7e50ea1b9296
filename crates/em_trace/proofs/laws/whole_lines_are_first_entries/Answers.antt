use Rattle.em_trace.proofs.FirstEntries.{first-entries}
use Rattle.em_trace.proofs.laws.whole_lines_are_first_entries.Goals as goal

pub returns : goal.returns
returns c = first-entries
