use Rattle.std.proofs.Common.{true, refl, ap, ◌∙◌}
use Rattle.sql_ast.specs.Expressions.{tree, trees, call, call_of_all, negated, binary, in_list, between, is_null, inverted, all_of, any_of}
use Rattle.expression_binder.proofs.Trees.{negated_is, binary_is, null_is, not_is, between_is}
use Rattle.prepared_statements.proofs.Firsts.{noted_none}
use Rattle.prepared_statements.proofs.Operands.{call_is, call_of_all_is, in_is, all_is, any_is, none_at}
use Rattle.prepared_statements.proofs.parameter_places.note_at.Goals as goal

pub returns-in-Call : goal.returns-in-Call
returns-in-Call c = noted_none c.args.firsts.now _ (none_at c.args.kind (tree c.args.e.now) (call c.in-Call.field-0 (trees c.in-Call.field-1)) (ap tree c.in-Call.is ∙ call_is c.in-Call.field-0 c.in-Call.field-1) (λ k. refl))

pub returns-in-CallOfAll : goal.returns-in-CallOfAll
returns-in-CallOfAll c = noted_none c.args.firsts.now _ (none_at c.args.kind (tree c.args.e.now) (call_of_all c.in-CallOfAll.field-0) (ap tree c.in-CallOfAll.is ∙ call_of_all_is c.in-CallOfAll.field-0) (λ k. refl))

pub returns-in-Negated : goal.returns-in-Negated
returns-in-Negated c = noted_none c.args.firsts.now _ (none_at c.args.kind (tree c.args.e.now) (negated (tree c.in-Negated.field-0.value)) (ap tree c.in-Negated.is ∙ negated_is true c.in-Negated.field-0 c.in-Negated.field-0 c.in-Negated.field-0) (λ k. refl))

pub returns-in-Binary : goal.returns-in-Binary
returns-in-Binary c = noted_none c.args.firsts.now _ (none_at c.args.kind (tree c.args.e.now) (binary c.in-Binary.field-0 (tree c.in-Binary.field-1.value) (tree c.in-Binary.field-2.value)) (ap tree c.in-Binary.is ∙ binary_is true c.in-Binary.field-1 c.in-Binary.field-1 c.in-Binary.field-2 c.in-Binary.field-0) (λ k. refl))

pub returns-in-In : goal.returns-in-In
returns-in-In c = noted_none c.args.firsts.now _ (none_at c.args.kind (tree c.args.e.now) (in_list c.in-In.field-0 (tree c.in-In.field-1.value) (trees c.in-In.field-2)) (ap tree c.in-In.is ∙ in_is c.in-In.field-0 c.in-In.field-1 c.in-In.field-2) (λ k. refl))

pub returns-in-Between : goal.returns-in-Between
returns-in-Between c = noted_none c.args.firsts.now _ (none_at c.args.kind (tree c.args.e.now) (between c.in-Between.field-0 (tree c.in-Between.field-1.value) (tree c.in-Between.field-2.value) (tree c.in-Between.field-3.value)) (ap tree c.in-Between.is ∙ between_is c.in-Between.field-0 c.in-Between.field-1 c.in-Between.field-2 c.in-Between.field-3) (λ k. refl))

pub returns-in-IsNull : goal.returns-in-IsNull
returns-in-IsNull c = noted_none c.args.firsts.now _ (none_at c.args.kind (tree c.args.e.now) (is_null c.in-IsNull.field-0 (tree c.in-IsNull.field-1.value)) (ap tree c.in-IsNull.is ∙ null_is c.in-IsNull.field-0 c.in-IsNull.field-1 c.in-IsNull.field-1 c.in-IsNull.field-1) (λ k. refl))

pub returns-in-Not : goal.returns-in-Not
returns-in-Not c = noted_none c.args.firsts.now _ (none_at c.args.kind (tree c.args.e.now) (inverted (tree c.in-Not.field-0.value)) (ap tree c.in-Not.is ∙ not_is true c.in-Not.field-0 c.in-Not.field-0 c.in-Not.field-0) (λ k. refl))

pub returns-in-And : goal.returns-in-And
returns-in-And c = noted_none c.args.firsts.now _ (none_at c.args.kind (tree c.args.e.now) (all_of (trees c.in-And.field-0)) (ap tree c.in-And.is ∙ all_is c.in-And.field-0) (λ k. refl))

pub returns-in-Or : goal.returns-in-Or
returns-in-Or c = noted_none c.args.firsts.now _ (none_at c.args.kind (tree c.args.e.now) (any_of (trees c.in-Or.field-0)) (ap tree c.in-Or.is ∙ any_is c.in-Or.field-0) (λ k. refl))
