-- Lists of arguments.
use Rattle.mz_logic.specs.TermStorage.{terms_of-inj}

pub ruleset term_rules = (terms_of-inj)
