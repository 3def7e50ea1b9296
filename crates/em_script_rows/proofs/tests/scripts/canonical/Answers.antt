use Rattle.em_script_rows.proofs.tests.scripts.canonical.Goals as goal

pub print-requires : goal.print-requires
print-requires c = c.in-Ok.ensures.found.0
