use Rattle.std.proofs.Common.{◌≡◌, ◌∷◌, rules}
use Rattle.schedule.proofs.Tasks.{first_known, others_known}
use Rattle.schedule.proofs.engine.Engine.open.Goals as goal

pub open_first-requires-clause-known : goal.open_first-requires-clause-known
open_first-requires-clause-known g c =
    let e : c.args.self.now.permutations.now ≡ c.in-Some.permutation.now ∷ c.in-Some.others.now = search rules in
    first_known c.args.self.now.sessions c.in-Some.permutation.now c.in-Some.others.now c.args.self.now.permutations.now e c.args.self.now.known_later

pub open_first-requires-clause-others : goal.open_first-requires-clause-others
open_first-requires-clause-others g c =
    let e : c.args.self.now.permutations.now ≡ c.in-Some.permutation.now ∷ c.in-Some.others.now = search rules in
    others_known c.args.self.now.sessions c.in-Some.permutation.now c.in-Some.others.now c.args.self.now.permutations.now e c.args.self.now.known_later
