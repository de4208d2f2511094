use Rattle.std.proofs.Common.{◌<◌, ◌≤◌, arith, length}
use Rattle.std.proofs.lemmas.Grind.{common_steps}
use Rattle.pg_values.proofs.Distinct.{room, placed-distinct, placed-below}
use Rattle.pg_values.proofs.session_list.SessionList.with.Goals as goal

pub bounds-places-self : goal.bounds-places-self
bounds-places-self c =
    let all : c.args.self.count ≤ length c.args.self.places = grind (arith, common_steps) in
    room c.args.self.places c.args.self.count c.args.session all c.args.self.apart c.args.self.small c.requires.small c.requires.new

pub invariant_of-result : goal.invariant_of-result
invariant_of-result c =
    let all : c.args.self.count ≤ length c.args.self.places = grind (arith, common_steps) in
    let short = room c.args.self.places c.args.self.count c.args.session all c.args.self.apart c.args.self.small c.requires.small c.requires.new in
    let some : c.args.self.count < length c.args.self.places = grind (arith, common_steps) in
    record {
      within = omega arith;
      apart = placed-distinct c.args.self.places c.args.self.count c.args.session some c.args.self.apart c.requires.new;
      small = placed-below c.args.self.places c.args.self.count c.args.session some c.args.self.small c.requires.small;
    }
