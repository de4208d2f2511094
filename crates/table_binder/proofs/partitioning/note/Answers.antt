use Rattle.std.proofs.Common.{◌≡◌, ◌++◌, ◌∷◌, [], not, ap, sym, ◌∙◌, if◌then◌else◌}
use Rattle.std.specs.List.{list_any}
use Rattle.std.specs.Str.{bytes_eq}
use Rattle.table_binder.specs.Names.{bytes_of}
use Rattle.table_binder.proofs.NoteLaws.{any_named, put_new}
use Rattle.table_binder.proofs.partitioning.note.Goals as goal

pub returns-clause-new : goal.returns-clause-new
returns-clause-new c = c.in_ok-is_new.ensures.added ∙ ap not (any_named c.args.name.now c.args.earlier.now.keys)

pub returns-clause-noted : goal.returns-clause-noted
returns-clause-noted c =
    put_new c.args.earlier.now.keys _ c.args.name _ c.in_ok-is_new.ensures.keys
    ∙ ap (λ t. if t then bytes_of c.args.earlier.now.keys ++ c.args.name.now ∷ [] else bytes_of c.args.earlier.now.keys) (sym c.in_ok-is_new.ensures.added)
