use Rattle.std.proofs.Common.{ap, ◌∙◌}
use Rattle.std.specs.Str.{bytes_eq}
use Rattle.spec_reader.specs.Faults.{session_of}
use Rattle.spec_reader.proofs.NameLaws.{shown_lookup}
use Rattle.spec_reader.proofs.step_names.StepNames.session_of.Goals as goal

pub returns : goal.returns
returns c =
    c.copied.ensures ∙ (c.get.ensures.value ∙ (shown_lookup (bytes_eq c.args.name.now) c.self.inside.sessions.entries ∙ ap (λ z. session_of z c.args.name.now) c.self.view_is))
