-- A block has at most 1,024 statements.
use Rattle.std.proofs.Common.{◌≡◌, ◌≤◌, ℕ, Bool, true, false, List, [], ◌∷◌, length, Option, Some, None, nat_lt, refl, sym, subst, arith, length-append}
use Rattle.std.proofs.lemmas.Bool.{ltb-true}
use Rattle.grammar.specs.Reading.{both_texts, nothing_texts, one_texts}
use Rattle.grammar.specs.Repeats.{always, all_repeats, step_to}
use Rattle.sql_expressions.specs.Levels.{room_texts}
use Rattle.sql_tokens.specs.Classes.{a}
use Rattle.sql_tokens.specs.declared.kind.TokenKind.TheVariants as word
use Rattle.sql_tokens.specs.declared.token.Token.{Token}
use Rattle.sql_syntax.specs.Grammar.{and_maybe, block, first_of, join, maybe_statement}
use Rattle.sql_ast.specs.Statements.{StatementTree}
use Rattle.sql_syntax.specs.declared.parse.TheConstants.{MOST_STATEMENTS}

-- one stands only where there is room
has_room : (b : Bool) (P : List Token → Option StatementTree → Type 0) (ts : List Token) (x : StatementTree) → room_texts b P (nothing_texts None) ts (Some x) → b ≡ true
has_room true P ts x h = refl
has_room false P ts x h = let e = h.1 in cc

module _ (text : List ℕ) where
  one_more : (xs : List StatementTree) (ts : List Token) (x : Option StatementTree) → length xs ≤ MOST_STATEMENTS → (maybe_statement text (length xs)).texts ts x → length (and_maybe xs x) ≤ MOST_STATEMENTS
  one_more xs ts None h w = h
  one_more xs ts (Some x) h w =
      let r : nat_lt (length xs) MOST_STATEMENTS ≡ true = has_room (nat_lt (length xs) MOST_STATEMENTS) _ ts x w in
      let e = length-append xs (x ∷ []) in
      let l = ltb-true (length xs) MOST_STATEMENTS r in
      omega (arith, l, e)

  abbrev Next : List StatementTree → List Token → Token × Option StatementTree → Type 0
  Next xs = both_texts (one_texts (a word.Semicolon)) (maybe_statement text (length xs)).texts

  more : (steps : List (Token × Option StatementTree)) (xs : List StatementTree) (ts : List Token) (all : List StatementTree) → length xs ≤ MOST_STATEMENTS → all_repeats always join Next xs steps ts all → length all ≤ MOST_STATEMENTS
  more [] xs ts all h w = subst (λ (z : List StatementTree). length z ≤ MOST_STATEMENTS) (sym w.1) h
  more (s ∷ steps) xs ts all h w =
      let n = w.4 in
      more steps (step_to join xs s) w.2 all (one_more xs n.1 s.1 h n.4) w.5

  pub few : (ts : List Token) (all : List StatementTree) → (block text).texts ts all → length all ≤ MOST_STATEMENTS
  few ts all w =
      let v = w.1 in
      let first = one_more [] v.0 w.0.0 (omega arith) v.3 in
      subst (λ (z : List StatementTree). length z ≤ MOST_STATEMENTS) (sym w.2) (more v.4.0 (first_of w.0.0) v.1 w.0.1 first v.4.1)
