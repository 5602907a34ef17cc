use Rattle.std.proofs.Common.{◌≡◌, ◌∙◌, true, ap, ap₂, codes, rules}
use Rattle.std.proofs.lemmas.Result.{IfOk-weaker}
use Rattle.clap.specs.Simple.{App, app_of, app_of_fields, with_rule}
use Rattle.clap.specs.Walk.{rule_of}
use Rattle.jc_words.specs.Command.{option_rule, words_rule, bare_app}
use Rattle.jc_words.proofs.values.command.Goals as goal

abbrev without_help : App → App
without_help app = record app { top = record app.top { disable_help_flag = true } }

abbrev without_version : App → App
without_version app = record app { top = record app.top { disable_version_flag = true } }

pub returns : goal.returns
returns c =
    let words_is : rule_of c.action-words.result ≡ words_rule = search rules in
    let bare_is : app_of c.disable_version_flag.result ≡ bare_app =
    ap app_of_fields c.disable_version_flag.ensures ∙ ap without_version (ap app_of_fields c.disable_help_flag.ensures ∙ ap without_help c.new-2.ensures.app) in
    let options_are : app_of c.in_ok-arg-3.field-0 ≡ with_rule (with_rule (with_rule bare_app (option_rule (codes "out"))) (option_rule (codes "run"))) (option_rule (codes "steps")) =
    c.in_ok-arg-3.ensures.shape c.option-3.ensures.local
    ∙ ap₂ with_rule (c.in_ok-arg-2.ensures.shape c.option-2.ensures.local
    ∙ ap₂ with_rule (c.in_ok-arg.ensures.shape c.option.ensures.local ∙ ap₂ with_rule bare_is c.option.ensures.rule) c.option-2.ensures.rule) c.option-3.ensures.rule in
    IfOk-weaker c.arg-4.result _ _ (λ r added. added.shape (search rules) ∙ ap₂ with_rule options_are words_is) c.arg-4.ensures
