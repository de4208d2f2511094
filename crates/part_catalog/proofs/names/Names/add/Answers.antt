use Rattle.std.proofs.Common.{◌≡◌, ◌∙◌, ◌++◌, ap, sym, arith, List, length, ◌∷◌, [], Vec, Global, ℕ, Option, None, slice_index_or}
use Rattle.std.proofs.lemmas.Grind.{common_steps}
use Rattle.part_catalog.specs.Names.{last_below, has_name}
use Rattle.part_catalog.proofs.Keys.{newest_step, last_added, earlier_step}
use Rattle.part_catalog.proofs.names.Names.add.Goals as goal

pub returns : goal.returns
returns c = record {
  added = λ named st is.
      let before : c.in_ok-before.before ≡ last_below (has_name named c.args.name.items) (length named) = c.in_ok-before.ensures.old ∙ st.newest c.args.name.items in
      let pushed : c.push.new.self.items ≡ c.args.self.now.earlier.items ++ c.in_ok-before.before ∷ [] = c.in_ok-push.ensures.items ∙ ap (λ (l : List (Option ℕ)). l ++ c.in_ok-before.before ∷ []) c.in_ok-reserve.ensures.items in
      record {
        count = grind (arith, common_steps, st.count);
        newest = λ name. newest_step (λ (x : Vec ℕ Global). x.items) name _ _ c.args.name c.args.table _ _ c.in_ok-before.ensures.entries is (st.newest name) ∙ sym (last_added named c.args.name.items name);
        earlier = λ k lt. ap (λ (l : List (Option ℕ)). slice_index_or l k None) pushed ∙ earlier_step named c.args.name.items c.args.self.now.earlier.items c.in_ok-before.before st.count st.earlier before k lt;
      };
  err = tt;
}
