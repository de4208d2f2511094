use Rattle.std.proofs.Common.{◌≡◌, ◌∙◌, true, codes, ap, ap₂, rules}
use Rattle.std.proofs.lemmas.Result.{IfOk-weaker}
use Rattle.clap.specs.Simple.{App, app_of, app_of_fields, new_app, on_top, with_rule}
use Rattle.clap.specs.Walk.{rule_of}
use Rattle.script_program.specs.CommandLine.{bare_command, flag_option, value_option}
use Rattle.script_program.proofs.command.command_line.Goals as goal

pub returns : goal.returns
returns c =
    let unnamed : app_of c.no_binary_name.result ≡ on_top (λ s. record s { no_binary_name = true }) (new_app (codes "partscript")) =
    ap app_of_fields c.no_binary_name.ensures ∙ ap (on_top (λ s. record s { no_binary_name = true })) c.new.ensures.app in
    let helpless = ap app_of_fields c.disable_help_flag.ensures ∙ ap (on_top (λ s. record s { disable_help_flag = true })) unnamed in
    let bare : app_of c.disable_version_flag.result ≡ bare_command (codes "partscript") =
    ap app_of_fields c.disable_version_flag.ensures ∙ ap (on_top (λ s. record s { disable_version_flag = true })) helpless in
    let mode_is : rule_of c.long.result ≡ value_option (codes "mode") = search rules in
    let today_is : rule_of c.long-2.result ≡ value_option (codes "today") = search rules in
    let trail_is : rule_of c.action.result ≡ flag_option (codes "trail") = search rules in
    let seed_is : rule_of c.long-4.result ≡ value_option (codes "seed") = search rules in
    let modes = c.in_ok-arg.ensures.shape (search rules) ∙ ap₂ with_rule bare mode_is in
    let days = c.in_ok-arg-2.ensures.shape (search rules) ∙ ap₂ with_rule modes today_is in
    let trails = c.in_ok-arg-3.ensures.shape (search rules) ∙ ap₂ with_rule days trail_is in
    IfOk-weaker c.arg-4.result _ _ (λ r h. h.shape (search rules) ∙ ap₂ with_rule trails seed_is) c.arg-4.ensures
