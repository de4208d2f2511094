use Rattle.std.proofs.Common.{ap, ◌∙◌, Ok}
use Rattle.sql_ast.specs.Expressions.{tree}
use Rattle.sql_syntax.specs.Items.{ended}
use Rattle.sql_syntax.proofs.EndedCode.{found, syntax_stop, limit_stop}
use Rattle.sql_syntax.proofs.items.ended_at.Goals as goal

pub returns-in-None : goal.returns-in-None
returns-in-None c =
    found c.args.text.now c.args.n c.args.tokens.now c.first.result.now c.behind.result.now c.in-Some.word c.in-Some.rest.now c.same_kind.result _ c.first.ensures c.behind.ensures c.in-Some.ensures c.same_kind.ensures c.if-not-same_kind.false c.in-Ok.ensures
    ∙ ap (λ z. ended c.in-Some.word c.in-Some.rest.now (Ok (tree c.in-Ok.value, z))) c.in-None.ensures

pub returns-in-Some-split : goal.returns-in-Some-split
returns-in-Some-split c =
    found c.args.text.now c.args.n c.args.tokens.now c.first.result.now c.behind.result.now c.in-Some.word c.in-Some.rest.now c.same_kind.result _ c.first.ensures c.behind.ensures c.in-Some.ensures c.same_kind.ensures c.if-not-same_kind.false c.in-Ok.ensures
    ∙ ap (λ z. ended c.in-Some.word c.in-Some.rest.now (Ok (tree c.in-Ok.value, z))) c.in-Some-split.ensures

pub returns-in-Err-Syntax : goal.returns-in-Err-Syntax
returns-in-Err-Syntax c =
    found c.args.text.now c.args.n c.args.tokens.now c.first.result.now c.behind.result.now c.in-Some.word c.in-Some.rest.now c.same_kind.result _ c.first.ensures c.behind.ensures c.in-Some.ensures c.same_kind.ensures c.if-not-same_kind.false (syntax_stop c.in-Err-Syntax.field-0 c.in-Err-Syntax.field-0-0 _ c.in-Err-Syntax.field-0-is c.in-Err-Syntax.ensures)

pub returns-in-Err-Limit : goal.returns-in-Err-Limit
returns-in-Err-Limit c =
    found c.args.text.now c.args.n c.args.tokens.now c.first.result.now c.behind.result.now c.in-Some.word c.in-Some.rest.now c.same_kind.result _ c.first.ensures c.behind.ensures c.in-Some.ensures c.same_kind.ensures c.if-not-same_kind.false (limit_stop c.in-Err-Limit.field-0 c.in-Err-Limit.field-0-0 _ c.in-Err-Limit.field-0-is c.in-Err-Limit.ensures)
