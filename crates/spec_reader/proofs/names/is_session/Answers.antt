use Rattle.std.proofs.Common.{sym, ap, ◌∙◌}
use Rattle.std.specs.Str.{bytes_eq}
use Rattle.spec_reader.specs.declared.spec.SessionSpec.{SessionSpec}
use Rattle.spec_reader.proofs.Firsts.{any_passes, any_end}
use Rattle.spec_reader.proofs.names.is_session.Goals as goal

pub loop-session-preserved : goal.loop-session-preserved
loop-session-preserved c =
    any_passes (λ (s : SessionSpec). bytes_eq c.args.name.now s.name) c.args.sessions.now c.loop-session.session-index c.session-item.result c.loop-session-test.true (sym c.session-item.is)
    (ap (bytes_eq c.args.name.now) (sym c.as_bytes.ensures) ∙ sym c.if-eq.ensures) ∙ c.loop-session.invariant

pub returns : goal.returns
returns c = sym (any_end (λ (s : SessionSpec). bytes_eq c.args.name.now s.name) c.args.sessions.now c.loop-session.session-index c.loop-session-test.false) ∙ c.loop-session.invariant
