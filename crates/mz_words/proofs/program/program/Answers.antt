use Rattle.std.proofs.Common.{◌≡◌, ◌∙◌, ap, ap₂, rules, true}
use Rattle.std.proofs.lemmas.Result.{IfOk-weaker}
use Rattle.clap.specs.Simple.{app_of_fields}
use Rattle.clap.specs.Words.{App, app_of, rule_of, with_rule}
use Rattle.clap.specs.declared.builder.command.Command.{Command}
use Rattle.clap.specs.declared.builder.command.Command.TheOpen.{Command-F}
use Rattle.mz_words.specs.Program.{bare_app, generate_rule, list_rule, names_rule, workers_rule}
use Rattle.mz_words.proofs.program.program.Goals as goal

pub returns : goal.returns
returns c =
    let workers_is : rule_of c.long-workers.result ≡ workers_rule = search rules in
    let generate_is : rule_of c.long-generate.result ≡ generate_rule = search rules in
    let list_is : rule_of c.action-list.result ≡ list_rule = search rules in
    let names_is : rule_of c.action-names.result ≡ names_rule = search rules in
    let bare_is : app_of c.disable_help_flag-bare.result ≡ bare_app = ap app_of_fields c.disable_help_flag-bare.ensures
    ∙ ap (λ (f : Command-F Command). app_of_fields (record f { disable_help_flag = true })) c.no_binary_name.ensures
    ∙ ap (λ (a : App). record a { top = record a.top { no_binary_name = true; disable_help_flag = true } }) c.new-5.ensures.app in
    IfOk-weaker c.arg-4.result _ _ (λ command h. h.shape (search rules) ∙ ap₂ with_rule (c.in_ok-arg-3.ensures.shape (search rules)
    ∙ ap₂ with_rule (c.in_ok-arg-2.ensures.shape (search rules)
    ∙ ap₂ with_rule (c.in_ok-arg.ensures.shape (search rules) ∙ ap₂ with_rule bare_is workers_is) generate_is) list_is) names_is) c.arg-4.ensures
