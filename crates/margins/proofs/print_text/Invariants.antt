use Rattle.margins.specs.Program.{printed_margins}
use Rattle.margins.proofs.print_text.Given as goal

abbrev pub ghost-print_text : goal.ghost-print_text
ghost-print_text a = printed_margins
