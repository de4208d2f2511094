-- The productions of scripts keep the law: one token of look-ahead decides how their texts are read.
use Rattle.std.proofs.Common.{◌≡◌, ℕ, true, false, ◌||◌, List, refl}
use Rattle.grammar.specs.Reading.{Class}
use Rattle.grammar.proofs.Build.{token, valued, wide, seq, alt, opt, repeated, after_token}
use Rattle.grammar.proofs.Chain.{none}
use Rattle.grammar.proofs.Laws.{Law}
use Rattle.grammar.proofs.WordLaws.{means_law, between_law, separated_law, some_law}
use Rattle.spec_reader.specs.Contents.{name_in, block_in}
use Rattle.spec_reader.specs.Scripts.{a, a_name, name, block, block_of, maybe_block, step_of, step, session_of, session, notices, marker_of, named_marker, marker, markers, or_none, maybe_markers, use_of, one_use, permutation, script_of, script}
use Rattle.spec_reader.specs.Words.{is}
use Rattle.spec_reader.specs.declared.kind.ScriptTokenKind.{ScriptTokenKind}
use Rattle.spec_reader.specs.declared.kind.ScriptTokenKind.TheVariants as word
use Rattle.spec_reader.specs.declared.token.Token.{Token}
use Rattle.spec_reader.specs.declared.written.WrittenMarker.TheVariants as written
use Rattle.spec_reader.proofs.KindLaws.{sample, apart, within}

name_law : (text : List ℕ) → Law (name text) a_name false none
name_law text = valued (name_in text) (token a_name (sample word.Name) refl)

block_law : (text : List ℕ) → Law (block text) (a word.Block) false none
block_law text = valued (block_in text) (token (a word.Block) (sample word.Block) refl)

block_of_law : (text : List ℕ) (k : ScriptTokenKind) → is k k ≡ true → Law (block_of text k) (a k) false none
block_of_law text k e = after_token (a k) (sample k) e (block_law text)

maybe_block_law : (text : List ℕ) (k : ScriptTokenKind) → is k k ≡ true → Law (maybe_block text k) (a k) true (a k)
maybe_block_law text k e = wide (opt (block_of_law text k e)) (λ t h. h) (λ t h. h)

step_law : (text : List ℕ) → Law (step text) (a word.Step) false none
step_law text = after_token (a word.Step) (sample word.Step) refl (valued step_of (seq (name_law text) (block_law text) (λ k h. refl)))

-- what may go on behind a session
abbrev after_session : Class Token
after_session t = a word.Step t || a word.Teardown t

session_law : (text : List ℕ) → Law (session text) (a word.Session) false after_session
session_law text =
    wide (after_token (a word.Session) (sample word.Session) refl (valued session_of
    (seq (name_law text)
    (seq (maybe_block_law text word.Setup refl)
    (seq (some_law (step_law text) (λ k h. refl)) (maybe_block_law text word.Teardown refl) (apart _ _ (λ t. refl) refl))
    (apart _ _ (λ t. refl) refl))
    (λ k h. refl))))
    (λ t h. h) (within _ _ (λ t. refl) refl)

notices_law : Law notices (a word.Notices) true (a word.Notices)
notices_law = wide (opt (after_token (a word.Notices) (sample word.Notices) refl (token (a word.Number) (sample word.Number) refl))) (λ t h. h) (λ t h. h)

named_marker_law : (text : List ℕ) → Law (named_marker text) a_name false (a word.Notices)
named_marker_law text = wide (valued marker_of (seq (name_law text) notices_law (λ k h. refl))) (within _ _ (λ t. refl) refl) (within _ _ (λ t. refl) refl)

abbrev begins_marker : Class Token
begins_marker t = a word.Star t || a_name t

marker_law : (text : List ℕ) → Law (marker text) begins_marker false (a word.Notices)
marker_law text =
    wide (alt (a word.Star) (means_law written.Waiting (token (a word.Star) (sample word.Star) refl)) (λ k h. h) (named_marker_law text) (apart _ _ (λ t. refl) refl))
    (λ t h. h) (within _ _ (λ t. refl) refl)

markers_law : (text : List ℕ) → Law (markers text) (a word.OpenParenthesis) false none
markers_law text =
    between_law (a word.OpenParenthesis) (sample word.OpenParenthesis) refl (a word.CloseParenthesis) (sample word.CloseParenthesis) refl
    (separated_law (a word.Comma) (sample word.Comma) refl (marker_law text) (apart _ _ (λ t. refl) refl)) (apart _ _ (λ t. refl) refl)

maybe_markers_law : (text : List ℕ) → Law (maybe_markers text) (a word.OpenParenthesis) true (a word.OpenParenthesis)
maybe_markers_law text = wide (valued or_none (opt (markers_law text))) (λ t h. h) (λ t h. h)

use_law : (text : List ℕ) → Law (one_use text) a_name false (a word.OpenParenthesis)
use_law text = wide (valued use_of (seq (name_law text) (maybe_markers_law text) (λ k h. refl))) (within _ _ (λ t. refl) refl) (within _ _ (λ t. refl) refl)

-- what may go on behind a permutation
abbrev after_permutation : Class Token
after_permutation t = a word.OpenParenthesis t || a_name t

permutation_law : (text : List ℕ) → Law (permutation text) (a word.Permutation) false after_permutation
permutation_law text = after_token (a word.Permutation) (sample word.Permutation) refl (some_law (use_law text) (apart _ _ (λ t. refl) refl))

-- what a script begins with, and what may go on behind one
abbrev pub begins_script : Class Token
begins_script t = a word.Setup t || (a word.Teardown t || a word.Session t)

abbrev pub after_script : Class Token
after_script t = after_session t || (a word.Session t || (after_permutation t || a word.Permutation t))

pub script_law : (text : List ℕ) → Law (script text) begins_script false after_script
script_law text =
    wide (valued script_of
    (seq (repeated (block_of_law text word.Setup refl) (λ k h. refl))
    (seq (maybe_block_law text word.Teardown refl)
    (seq (some_law (session_law text) (apart _ _ (λ t. refl) refl)) (repeated (permutation_law text) (apart _ _ (λ t. refl) refl)) (apart _ _ (λ t. refl) refl))
    (apart _ _ (λ t. refl) refl))
    (apart _ _ (λ t. refl) refl)))
    (within _ _ (λ t. refl) refl) (within _ _ (λ t. refl) refl)
