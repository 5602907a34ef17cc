-- The command of javag, as clap reads it: three options that take one value each, which isn't empty, and positional words.
use Rattle.std.specs.Prelude.{List, ℕ, true, Some, codes}
use Rattle.clap.specs.Words.{App, Rule, new_app, new_rule, with_rule}
use Rattle.clap.specs.declared.builder.action.ArgAction.TheVariants.{Set, Append}
use Rattle.clap.specs.declared.builder.value_parser.ValueParser.TheVariants.{NonEmptyString}

-- an option of this name that takes one value, which isn't empty
abbrev pub option_rule : List ℕ → Rule
option_rule name = record (new_rule name) { long = Some name; action = Some Set; parser = Some NonEmptyString }

-- where positional words go
abbrev pub words_rule : Rule
words_rule = record (new_rule (codes "words")) { action = Some Append }

-- the command without its arguments: it has no flags for help and the version
abbrev pub bare_app : App
bare_app =
    let app = new_app (codes "javag") in
    record app { top = record app.top { disable_help_flag = true; disable_version_flag = true } }

abbrev pub command_app : App
command_app = with_rule (with_rule (with_rule (with_rule bare_app (option_rule (codes "out"))) (option_rule (codes "run"))) (option_rule (codes "steps"))) words_rule
