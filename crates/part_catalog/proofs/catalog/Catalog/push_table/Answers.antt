use Rattle.std.proofs.Common.{◌≡◌, ◌∙◌, ◌++◌, ◌∷◌, [], None, ap, sym, subst, arith, List, length, map, ℕ}
use Rattle.std.proofs.lemmas.List.{length-map}
use Rattle.part_catalog.specs.declared.stored.StoredTable.{StoredTable}
use Rattle.part_catalog.specs.Names.{NamesStand}
use Rattle.part_catalog.specs.Kept.{KeptCatalogue, IsKept, name_in}
use Rattle.part_catalog.proofs.KeptTrees.{none_kept}
use Rattle.part_catalog.proofs.Listed.{kept_with_table}
use Rattle.part_catalog.proofs.catalog.Catalog.push_table.Goals as goal

pub invariant_of-self-2 : goal.invariant_of-self-2
invariant_of-self-2 c =
    let T = c.self.inside.tables.items in
    let count : length T ≡ length c.args.self.now.tables = ap (λ (k : KeptCatalogue). length k.tables) c.self.view_is in
    let number : c.args.table.id.number ≡ length (map name_in T) = omega (arith, c.requires.numbered, count, length-map T name_in) in
    let name : c.in_ok-name.name.items ≡ c.args.table.name = c.in_ok-name.ensures.items ∙ c.as_bytes.ensures in
    let names : NamesStand c.add.new.self (map name_in T ++ c.args.table.name ∷ []) = subst (λ (n : List ℕ). NamesStand c.add.new.self (map name_in T ++ n ∷ [])) name (c.in_ok-add.ensures.added (map name_in T) c.self.invariant.0.named number) in
    let below : c.push.new.self.items ≡ c.self.inside.below.items ++ [] ∷ [] = c.in-Ok.ensures.items ∙ ap (λ (l : List (List ℕ)). l ++ c.new.result ∷ []) c.in_ok-reserve-2.ensures.items ∙ ap (λ (x : List ℕ). c.self.inside.below.items ++ x ∷ []) c.new.ensures in
    let t : StoredTable = record { table = c.args.table; dropped = None } in
    let tables : c.push-2.new.self.items ≡ T ++ t ∷ [] = c.in-Ok-push.ensures.items ∙ ap (λ (l : List StoredTable). l ++ t ∷ []) c.in_ok-reserve.ensures.items in
    let k = kept_with_table T c.self.inside.entries.items c.self.inside.below.items c.self.inside.names c.add.new.self t c.self.invariant.0 (omega (arith, c.requires.few, count)) names in (
      subst (λ ts. IsKept ts c.self.inside.entries.items c.push.new.self.items c.add.new.self) (sym tables)
          (subst (λ ns. IsKept (T ++ t ∷ []) c.self.inside.entries.items ns c.add.new.self) (sym below) k),
      none_kept _ _ _ c.forget.ensures,
    )
