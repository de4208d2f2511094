use Rattle.std.proofs.Common.{ℕ, List, ◌≡◌, ◌++◌, filter, ap, ◌∙◌, subst, Some, length, IfOk}
use Rattle.spec_reader.specs.declared.kind.ScriptTokenKind.TheVariants as kinds
use Rattle.spec_reader.specs.declared.token.Token.{Token}
use Rattle.spec_reader.specs.Tokens.{ends_by, noted, tokens_from}
use Rattle.spec_reader.proofs.TokenSteps.{tokens_of_utf8, tokens_of_others}
use Rattle.spec_reader.proofs.reader.read_tokens.Goals as goal

pub returns-in-Ok : goal.returns-in-Ok
returns-in-Ok c = c.in_ok-list.ensures ∙ tokens_of_utf8 c.args.text.now c.in-Ok.ensures.cases.1

pub returns-in-Err : goal.returns-in-Err
returns-in-Err c =
    subst (λ (z : List Token). IfOk c.up_to_fault.result (λ v. v.items ≡ z))
    (ap (λ (l : List Token). filter (ends_by c.valid_up_to.result) l ++ noted (Some kinds.Fault) c.valid_up_to.result (length c.args.text.now)) (c.deref.ensures.value ∙ c.in_ok-list.ensures)
    ∙ (ap (λ (n : ℕ). filter (ends_by n) (tokens_from 0 0 c.args.text.now) ++ noted (Some kinds.Fault) n (length c.args.text.now)) (c.valid_up_to.ensures ∙ c.in-Err.ensures.valid_len)
    ∙ tokens_of_others c.args.text.now c.in-Err.ensures.cases.0))
    c.up_to_fault.ensures
