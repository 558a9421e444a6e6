use Rattle.freebusy_characters.specs.ParamValue.{qsafe_char}
use Rattle.freebusy_characters.proofs.is_quoted_string.Given as goal

abbrev pub ghost-are_characters : goal.ghost-are_characters
ghost-are_characters a = qsafe_char
