use Rattle.std.proofs.Common.{◌∙◌, sym}
use Rattle.part_bounds.proofs.RemainderLaws.{none_is}
use Rattle.part_bounds.proofs.remainder.find_remainder.Goals as goal

pub returns-clause-none : goal.returns-clause-none
returns-clause-none c =
    none_is c.args.bounds.now c.args.modulus c.args.remainder c.place_of-at.result c.requires.hashes c.requires.ordered c.place_of-at.ensures
    (λ within. sym c.if-stands_at-2.false ∙ c.stands_at-2.ensures.is within)
