use Rattle.spec_reader.proofs.ScriptBack.{script_back}
use Rattle.spec_reader.proofs.laws.written_scripts_are_read_back.Goals as goal

pub returns : goal.returns
returns c = script_back
