use Rattle.std.proofs.Common.{◌≡◌, ◌∙◌, ◌<◌, Option, IfSome, true, false, ap, sym, subst, arith, length, map, get_or, List}
use Rattle.std.proofs.lemmas.Grind.{common_steps, elements}
use Rattle.std.proofs.lemmas.List.{length-map}
use Rattle.history.specs.History.{tx_events}
use Rattle.part_catalog.specs.declared.stored.StoredTable.{StoredTable}
use Rattle.part_catalog.specs.Kept.{KeptCatalogue, name_in, no_stored}
use Rattle.part_catalog.specs.Names.{NamesStand}
use Rattle.part_catalog.specs.Stands.{there_by}
use Rattle.part_catalog.proofs.Found.{from_here, named_and, IsNamed, newest_named, next_named, walk_begins, walk_goes, walk_ends, walk_shrinks, resolved_told}
use Rattle.part_catalog.proofs.catalog.Catalog.resolve.Goals as goal

pub loop-next-init : goal.loop-next-init
loop-next-init c =
    let K = c.args.self.now.tables in
    let tables = ap (λ (k : KeptCatalogue). k.tables) c.self.view_is in
    let names = subst (λ (ts : List StoredTable). NamesStand c.self.inside.names (map name_in ts)) tables c.self.invariant.0.named in
    let is = c.newest-next.ensures (map name_in K) names in
    record {
      known = newest_named K c.args.name.now c.newest-next.result is;
      found = λ h txs. walk_begins (there_by (tx_events h) c.args.session) K c.args.name.now c.newest-next.result is;
    }

pub returns-then-is_there : goal.returns-then-is_there
returns-then-is_there c h txs st =
    let K = c.args.self.now.tables in
    let j = c.in-Some.number in
    let f = there_by (tx_events h) c.args.session in
    let tables = ap (λ (k : KeptCatalogue). k.tables) c.self.view_is in
    let at : IsNamed K c.args.name.now j = subst (λ (o : Option _). IfSome o (IsNamed K c.args.name.now)) c.in-Some.is c.loop-next.invariant.known in
    let known : j < length c.self.inside.tables.items = omega (arith, at.0, ap (length {A = StoredTable}) tables) in
    let row : c.index.result.now ≡ get_or c.self.inside.tables.items j no_stored = grind (arith, common_steps, elements, c.index.ensures) in
    let holds : f (get_or K j no_stored) ≡ true = ap (λ (ts : List StoredTable). f (get_or ts j no_stored)) (sym tables) ∙ ap f (sym row) ∙ sym (c.is_there.ensures h txs) ∙ c.if-is_there.true in
    sym (walk_ends f K c.args.name.now j at holds)
    ∙ ap (from_here (named_and f K c.args.name.now)) (sym c.in-Some.is)
    ∙ c.loop-next.invariant.found h txs
    ∙ resolved_told c.args.self.now h c.args.session c.args.name.now st

pub loop-next-smaller : goal.loop-next-smaller
loop-next-smaller c =
    let K = c.args.self.now.tables in
    let j = c.in-Some.number in
    let tables = ap (λ (k : KeptCatalogue). k.tables) c.self.view_is in
    let names = subst (λ (ts : List StoredTable). NamesStand c.self.inside.names (map name_in ts)) tables c.self.invariant.0.named in
    let at : IsNamed K c.args.name.now j = subst (λ (o : Option _). IfSome o (IsNamed K c.args.name.now)) c.in-Some.is c.loop-next.invariant.known in
    let more = c.earlier-next.ensures (map name_in K) names (omega (arith, at.0, length-map K name_in)) in
    walk_shrinks K c.args.name.now j c.loop-next.next c.earlier-next.result c.in-Some.is at more

pub loop-next-preserved : goal.loop-next-preserved
loop-next-preserved c =
    let K = c.args.self.now.tables in
    let j = c.in-Some.number in
    let tables = ap (λ (k : KeptCatalogue). k.tables) c.self.view_is in
    let names = subst (λ (ts : List StoredTable). NamesStand c.self.inside.names (map name_in ts)) tables c.self.invariant.0.named in
    let at : IsNamed K c.args.name.now j = subst (λ (o : Option _). IfSome o (IsNamed K c.args.name.now)) c.in-Some.is c.loop-next.invariant.known in
    let more = c.earlier-next.ensures (map name_in K) names (omega (arith, at.0, length-map K name_in)) in
    let known : j < length c.self.inside.tables.items = omega (arith, at.0, ap (length {A = StoredTable}) tables) in
    let row : c.index.result.now ≡ get_or c.self.inside.tables.items j no_stored = grind (arith, common_steps, elements, c.index.ensures) in
    record {
      known = next_named K c.args.name.now j c.earlier-next.result at more;
      found = λ h txs.
          let f = there_by (tx_events h) c.args.session in
          let fails : f (get_or K j no_stored) ≡ false = ap (λ (ts : List StoredTable). f (get_or ts j no_stored)) (sym tables) ∙ ap f (sym row) ∙ sym (c.is_there.ensures h txs) ∙ c.if-is_there.false in
          walk_goes f K c.args.name.now j c.earlier-next.result at fails more
          ∙ ap (from_here (named_and f K c.args.name.now)) (sym c.in-Some.is)
          ∙ c.loop-next.invariant.found h txs;
    }

pub returns : goal.returns
returns c h txs st =
    let K = c.args.self.now.tables in
    let f = there_by (tx_events h) c.args.session in
    ap (from_here (named_and f K c.args.name.now)) (sym c.in_default.is)
    ∙ c.loop-next.invariant.found h txs
    ∙ resolved_told c.args.self.now h c.args.session c.args.name.now st
