-- The options and names of the program, as `clap` holds them.
use Rattle.std.specs.Prelude.{true, Some, codes}
use Rattle.clap.specs.Words.{App, Rule, new_app, new_rule, with_rule}
use Rattle.clap.specs.declared.builder.action.ArgAction.TheVariants.{Append, SetTrue}

-- `--workers` and `--generate`, each with one value; `--list`; and names, any number of them
abbrev pub workers_rule : Rule
workers_rule = record (new_rule (codes "workers")) { long = Some (codes "workers") }

abbrev pub generate_rule : Rule
generate_rule = record (new_rule (codes "generate")) { long = Some (codes "generate") }

abbrev pub list_rule : Rule
list_rule = record (new_rule (codes "list")) { long = Some (codes "list"); action = Some SetTrue }

abbrev pub names_rule : Rule
names_rule = record (new_rule (codes "names")) { action = Some Append }

-- no option but these, `--help` neither, and no word before them
abbrev pub bare_app : App
bare_app = record (new_app (codes "mizv")) { top = record (new_app (codes "mizv")).top { no_binary_name = true; disable_help_flag = true } }

abbrev pub program_app : App
program_app = with_rule (with_rule (with_rule (with_rule bare_app workers_rule) generate_rule) list_rule) names_rule
