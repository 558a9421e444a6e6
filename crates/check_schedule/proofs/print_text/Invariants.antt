use Rattle.check_schedule.specs.Program.{printed_sheet}
use Rattle.check_schedule.proofs.print_text.Given as goal

abbrev pub ghost-print_text : goal.ghost-print_text
ghost-print_text a = printed_sheet
