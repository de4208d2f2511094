use Rattle.std.proofs.Common.{◌++◌, List, ap, map, ◌∙◌, sym}
use Rattle.sql_ast.specs.Expressions.{Tree, tree}
use Rattle.sql_written.specs.Marks.{text_of}
use Rattle.sql_written.specs.Written.{marks}
use Rattle.sql_written.proofs.WriteSteps.{on_ok}
use Rattle.sql_written.specs.Lists.{enclosed, list_of, parts}
use Rattle.sql_written.proofs.WriteParts.{list_there}
use Rattle.sql_written.proofs.parts.write_enclosed_values.Goals as goal

pub returns : goal.returns
returns c =
    let e = sym (list_there (map tree c.as_slice.result.now)) ∙ ap list_of c.as_slice.ensures in
    on_ok c.write_enclosed.result (λ k. k ∙ ap (λ (ts : List Tree). c.args.out.now.items ++ text_of (enclosed (parts marks ts))) e) c.write_enclosed.ensures
