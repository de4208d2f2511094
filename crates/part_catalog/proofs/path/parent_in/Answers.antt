use Rattle.std.proofs.Common.{◌≡◌, ◌∙◌, Some, ap, arith, get_or}
use Rattle.std.proofs.lemmas.Grind.{common_steps, elements}
use Rattle.part_catalog.specs.declared.stored.StoredEntry.{StoredEntry}
use Rattle.part_catalog.specs.Kept.{no_entry}
use Rattle.part_catalog.specs.Answers.{parent_told}
use Rattle.part_catalog.proofs.path.parent_in.Goals as goal

pub returns-in-Some : goal.returns-in-Some
returns-in-Some c =
    let same : get_or c.args.entries.now c.in-Some.at c.index-entries-at.result ≡ get_or c.args.entries.now c.in-Some.at no_entry = grind (arith, common_steps, elements, c.in-Some.ensures.within) in
    ap (λ (y : StoredEntry). Some y.entry.parent) same ∙ ap parent_told c.in-Some.ensures.is

pub returns-in-None : goal.returns-in-None
returns-in-None c = ap parent_told c.in-None.ensures.is
