use Rattle.std.proofs.Common.{rules, true, ap, ◌≡◌, ◌∙◌}
use Rattle.std.proofs.lemmas.Result.{IfOk-weaker}
use Rattle.std.specs.List.{fold}
use Rattle.clap.specs.Simple.{app_of_fields, on_top}
use Rattle.clap.specs.Words.{app_of, with_rule}
use Rattle.ca_words.specs.declared.words.Name.TheVariants.{Keypos, Seed, Clients, Lines}
use Rattle.ca_words.specs.Words.{empty_command, flag_rule, tree_names, with_option}
use Rattle.ca_words.proofs.options.command.Goals as goal

pub returns : goal.returns
returns c =
    let without_name = ap app_of_fields c.no_binary_name.ensures ∙ ap (on_top (λ s. record s { no_binary_name = true })) c.new.ensures.app in
    let without_help = ap app_of_fields c.disable_help_flag.ensures ∙ ap (on_top (λ s. record s { disable_help_flag = true })) without_name in
    let empty : app_of c.disable_version_flag-empty.result ≡ empty_command =
    ap app_of_fields c.disable_version_flag-empty.ensures ∙ ap (on_top (λ s. record s { disable_version_flag = true })) without_help in
    let one = c.in_ok-one.ensures ∙ ap (λ a. with_option a Keypos) empty in
    let two = c.in_ok-two.ensures ∙ ap (λ a. with_option a Seed) one in
    let three = c.in_ok-three.ensures ∙ ap (λ a. with_option a Clients) two in
    let four = c.in_ok-four.ensures ∙ ap (λ a. with_option a Lines) three in
    let all = c.in_ok-all.ensures ∙ ap (λ a. fold with_option a tree_names) four in
    IfOk-weaker c.with_flag.result _ _ (λ r h. h ∙ ap (λ a. with_rule a flag_rule) all) c.with_flag.ensures
