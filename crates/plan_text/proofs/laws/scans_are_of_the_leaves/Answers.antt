use Rattle.plan_text.proofs.ScanLines.{of_the_leaves}
use Rattle.plan_text.proofs.laws.scans_are_of_the_leaves.Goals as goal

pub returns : goal.returns
returns c = of_the_leaves
