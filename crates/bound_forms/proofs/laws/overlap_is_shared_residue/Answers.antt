use Rattle.bound_forms.proofs.Residues.{shared_residue}
use Rattle.bound_forms.proofs.laws.overlap_is_shared_residue.Goals as goal

pub returns : goal.returns
returns c = shared_residue
