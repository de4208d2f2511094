use Rattle.std.proofs.Common.{◌≡◌, false, rules, arith, sym, subst}
use Rattle.std.proofs.lemmas.Grind.{common_steps}
use Rattle.sql_tokens.specs.declared.kind.TokenKind.TheVariants.{Fault}
use Rattle.sql_tokens.specs.Words.{is, word_kind}
use Rattle.sql_tokens.proofs.NoFault.{word_kind_sound}
use Rattle.sql_tokens.proofs.words.word_kind.Goals as goal

pub returns-clause-value : goal.returns-clause-value
unfolding word_kind
returns-clause-value c = first_of (search rules, grind (arith, common_steps))

pub returns-clause-kind : goal.returns-clause-kind
unfolding word_kind
returns-clause-kind c =
    let e : c.look_up.result ≡ word_kind c.args.word.now = first_of (search rules, grind (arith, common_steps)) in
    subst (λ k. is k Fault ≡ false) (sym e) (word_kind_sound c.args.word.now)
