-- What is appended one after another is the text of a command.
use Rattle.std.proofs.Common.{◌≡◌, ℕ, Bool, true, false, List, [], ◌∷◌, ◌++◌, Result, refl, ap, ◌∙◌, subst}
use Rattle.std.specs.Prelude.{OnOk}
use Rattle.sql_ast.specs.Commands.{CommandTree, deallocates, drops}
use Rattle.sql_tokens.specs.declared.kind.TokenKind.TheVariants as kinds
use Rattle.sql_written.specs.Marks.{Mark, blank, bytes_of, text_of}
use Rattle.sql_written.specs.Spelling as spelled
use Rattle.sql_written.proofs.WriteSteps.{behind, on_ok}
use Rattle.sql_written.specs.Commands.{command_marks, exists_marks}
use Rattle.sql_written.specs.Lists.{names}
use Rattle.sql_written.specs.Words.{word}
use Rattle.sql_written.proofs.WriteParts.{one_mark}

exists_first : (b : Bool) (ms : List Mark) → exists_marks b [] ++ ms ≡ exists_marks b ms
exists_first true ms = refl
exists_first false ms = refl

module _ {A E : Type 0} (r : Result A E) where
  pub range_text : (ms ns : List Mark) (o0 o1 o2 o3 o4 : List ℕ) → o1 ≡ o0 ++ text_of (word kinds.For ∷ blank ∷ word kinds.Values ∷ blank ∷ word kinds.From ∷ blank ∷ []) → o2 ≡ o1 ++ text_of ms →
      o3 ≡ o2 ++ text_of (blank ∷ word kinds.To ∷ blank ∷ []) → OnOk r (o4 ≡ o3 ++ text_of ns) →
      OnOk r (o4 ≡ o0 ++ text_of (word kinds.For ∷ blank ∷ word kinds.Values ∷ blank ∷ word kinds.From ∷ blank ∷ (ms ++ blank ∷ word kinds.To ∷ blank ∷ ns)))
  range_text ms ns o0 o1 o2 o3 o4 h1 h2 h3 h4 =
      on_ok r (λ k. behind (word kinds.For ∷ blank ∷ word kinds.Values ∷ blank ∷ word kinds.From ∷ blank ∷ []) (ms ++ blank ∷ word kinds.To ∷ blank ∷ ns) o0 o1 o4 h1
      (behind ms (blank ∷ word kinds.To ∷ blank ∷ ns) o1 o2 o4 h2 (behind (blank ∷ word kinds.To ∷ blank ∷ []) ns o2 o3 o4 h3 k))) h4

  pub create_text : (z : List ℕ) (ms by : List Mark) (o0 o1 o2 o3 o4 o5 : List ℕ) → o1 ≡ o0 ++ text_of (word kinds.Create ∷ blank ∷ word kinds.Table ∷ blank ∷ []) → o2 ≡ o1 ++ bytes_of (spelled.name z) → o3 ≡ o2 ++ 32 ∷ [] →
      o4 ≡ o3 ++ text_of ms → OnOk r (o5 ≡ o4 ++ text_of by) → OnOk r (o5 ≡ o0 ++ text_of (word kinds.Create ∷ blank ∷ word kinds.Table ∷ blank ∷ spelled.name z ∷ blank ∷ (ms ++ by)))
  create_text z ms by o0 o1 o2 o3 o4 o5 h1 h2 h3 h4 h5 =
      on_ok r (λ k. behind (word kinds.Create ∷ blank ∷ word kinds.Table ∷ blank ∷ []) (spelled.name z ∷ blank ∷ (ms ++ by)) o0 o1 o5 h1
      (behind (spelled.name z ∷ []) (blank ∷ (ms ++ by)) o1 o2 o5 (one_mark (spelled.name z) o1 o2 h2) (behind (blank ∷ []) (ms ++ by) o2 o3 o5 h3 (behind ms by o3 o4 o5 h4 k)))) h5

  pub partition_text : (z p : List ℕ) (ms by : List Mark) (o0 o1 o2 o3 o4 o5 o6 o7 : List ℕ) → o1 ≡ o0 ++ text_of (word kinds.Create ∷ blank ∷ word kinds.Table ∷ blank ∷ []) → o2 ≡ o1 ++ bytes_of (spelled.name z) →
      o3 ≡ o2 ++ text_of (blank ∷ word kinds.Partition ∷ blank ∷ word kinds.Of ∷ blank ∷ []) → o4 ≡ o3 ++ bytes_of (spelled.name p) → o5 ≡ o4 ++ 32 ∷ [] → o6 ≡ o5 ++ text_of ms → OnOk r (o7 ≡ o6 ++ text_of by) →
      OnOk r (o7 ≡ o0 ++ text_of (word kinds.Create ∷ blank ∷ word kinds.Table ∷ blank ∷ spelled.name z ∷ blank ∷ word kinds.Partition ∷ blank ∷ word kinds.Of ∷ blank ∷ spelled.name p ∷ blank ∷ (ms ++ by)))
  partition_text z p ms by o0 o1 o2 o3 o4 o5 o6 o7 h1 h2 h3 h4 h5 h6 h7 =
      let rest = spelled.name p ∷ blank ∷ (ms ++ by) in
      on_ok r (λ k. behind (word kinds.Create ∷ blank ∷ word kinds.Table ∷ blank ∷ []) (spelled.name z ∷ blank ∷ word kinds.Partition ∷ blank ∷ word kinds.Of ∷ blank ∷ rest) o0 o1 o7 h1
      (behind (spelled.name z ∷ []) (blank ∷ word kinds.Partition ∷ blank ∷ word kinds.Of ∷ blank ∷ rest) o1 o2 o7 (one_mark (spelled.name z) o1 o2 h2)
      (behind (blank ∷ word kinds.Partition ∷ blank ∷ word kinds.Of ∷ blank ∷ []) rest o2 o3 o7 h3
      (behind (spelled.name p ∷ []) (blank ∷ (ms ++ by)) o3 o4 o7 (one_mark (spelled.name p) o3 o4 h4) (behind (blank ∷ []) (ms ++ by) o4 o5 o7 h5 (behind ms by o5 o6 o7 h6 k)))))) h7

  -- a command that is seen in another way
  pub same_command : (t u : CommandTree) (o0 o1 : List ℕ) → t ≡ u → OnOk r (o1 ≡ o0 ++ text_of (command_marks t)) → OnOk r (o1 ≡ o0 ++ text_of (command_marks u))
  same_command t u o0 o1 e h = subst (λ v. OnOk r (o1 ≡ o0 ++ text_of (command_marks v))) e h

  pub drop_text : (b : Bool) (zs ys : List (List ℕ)) (o0 o1 o2 o3 : List ℕ) → ys ≡ zs → o1 ≡ o0 ++ text_of (word kinds.Drop ∷ blank ∷ word kinds.Table ∷ blank ∷ []) → o2 ≡ o1 ++ text_of (exists_marks b []) →
      OnOk r (o3 ≡ o2 ++ text_of (names ys)) → OnOk r (o3 ≡ o0 ++ text_of (command_marks (drops b zs)))
  drop_text b zs ys o0 o1 o2 o3 e h1 h2 h3 =
      same_command (drops b ys) (drops b zs) o0 o3 (ap (λ l. drops b l) e)
      (on_ok r (λ k. behind (word kinds.Drop ∷ blank ∷ word kinds.Table ∷ blank ∷ []) (exists_marks b (names ys)) o0 o1 o3 h1
      (behind (exists_marks b []) (names ys) o1 o2 o3 h2 k ∙ ap (λ ns. o1 ++ text_of ns) (exists_first b (names ys)))) h3)

  pub lock_text : (ms mode : List Mark) (o0 o1 o2 o3 : List ℕ) → o1 ≡ o0 ++ text_of (word kinds.Lock ∷ blank ∷ word kinds.Table ∷ blank ∷ []) → o2 ≡ o1 ++ text_of ms → OnOk r (o3 ≡ o2 ++ text_of mode) →
      OnOk r (o3 ≡ o0 ++ text_of (word kinds.Lock ∷ blank ∷ word kinds.Table ∷ blank ∷ (ms ++ mode)))
  lock_text ms mode o0 o1 o2 o3 h1 h2 h3 =
      on_ok r (λ k. behind (word kinds.Lock ∷ blank ∷ word kinds.Table ∷ blank ∷ []) (ms ++ mode) o0 o1 o3 h1 (behind ms mode o1 o2 o3 h2 k)) h3

  pub deallocate_text : (z : List ℕ) (t : CommandTree) (o0 o1 o2 : List ℕ) → deallocates z ≡ t → o1 ≡ o0 ++ text_of (word kinds.Deallocate ∷ blank ∷ []) → OnOk r (o2 ≡ o1 ++ bytes_of (spelled.name z)) →
      OnOk r (o2 ≡ o0 ++ text_of (command_marks t))
  deallocate_text z t o0 o1 o2 e h1 h2 =
      same_command (deallocates z) t o0 o2 e
      (on_ok r (λ k. behind (word kinds.Deallocate ∷ blank ∷ []) (spelled.name z ∷ []) o0 o1 o2 h1 (one_mark (spelled.name z) o1 o2 k)) h2)
