use Rattle.freebusy_characters.specs.ParamValue.{safe_char}
use Rattle.freebusy_characters.proofs.is_param_value.Given as goal

abbrev pub ghost-are_characters : goal.ghost-are_characters
ghost-are_characters a = safe_char
