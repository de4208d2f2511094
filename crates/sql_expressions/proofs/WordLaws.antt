-- Rules of one token or a few keep the law.
use Rattle.std.proofs.Common.{◌≡◌, ℕ, Bool, true, false, ◌&&◌, ◌||◌, not, List, [], refl, sym, subst}
use Rattle.grammar.specs.KindClasses.{every}
use Rattle.grammar.specs.Reading.{Class, Rule, one_texts, nothing, as_value}
use Rattle.grammar.specs.Repeats.{second_of}
use Rattle.grammar.proofs.Laws.{Law, Disjoint, Within, head_eq}
use Rattle.grammar.proofs.Chain.{none}
use Rattle.grammar.proofs.KindClasses as sides
use Rattle.grammar.proofs.Build.{token, empty, valued, wide, then_by, alt, after_token, bar}
use Rattle.sql_tokens.specs.Contents.{string_in}
use Rattle.sql_tokens.specs.Words as words
use Rattle.sql_tokens.specs.declared.kind.TokenKind.{TokenKind}
use Rattle.sql_tokens.specs.declared.kind.TokenKind.TheVariants as word
use Rattle.sql_tokens.specs.declared.token.Token.{Token}
use Rattle.sql_tokens.proofs.EachKind.{each_kind}
use Rattle.sql_ast.specs.declared.leaf.Leaf.{Leaf}
use Rattle.sql_ast.specs.declared.leaf.Leaf.TheVariants as leaf
use Rattle.sql_tokens.specs.Classes.{a, a_name}
use Rattle.sql_expressions.specs.Words.{a_literal, is_long_name, is_long_text, no_longer, named, name, string, literal_of, literal, either_if, cast, dotted, column}

-- a token of each kind
abbrev pub sample : TokenKind → Token
sample k = record { kind = k; start = 0; end = 0 }

abbrev kind_of : Token → TokenKind
kind_of t = t.kind

complete : (p : TokenKind → Bool) → every p words.kinds_list ≡ true → (k : TokenKind) → p k ≡ true
complete p h k = each_kind p h k

-- the side conditions, by computation over the kinds
pub apart : (f c : Class Token) → ((t : Token) → (f t && c t) ≡ (f (sample t.kind) && c (sample t.kind))) → every (λ k. not (f (sample k) && c (sample k))) words.kinds_list ≡ true → Disjoint f c
apart f c same h = sides.apart kind_of words.kinds_list complete sample f c same h

pub within : (f g : Class Token) → ((t : Token) → (not (f t) || g t) ≡ (not (f (sample t.kind)) || g (sample t.kind))) → every (λ k. not (f (sample k)) || g (sample k)) words.kinds_list ≡ true → Within f g
within f g same h = sides.within kind_of words.kinds_list complete sample f g same h

-- one token that is not too long
first_true : (b d : Bool) → (b && d) ≡ true → b ≡ true
first_true true d h = refl
first_true false d h = cc

not_both : (b l : Bool) → l ≡ true → (b && not l) ≡ false
not_both true l h = rw h refl
not_both false l h = refl

of_either : (b l : Bool) → (l ≡ true → b ≡ true) → (l || (b && not l)) ≡ true → b ≡ true
of_either true l w h = refl
of_either false true w h = w refl
of_either false false w h = h

pub no_longer_law : (c long : Class Token) → Within long c → (t : Token) → (c t && not (long t)) ≡ true → Law (no_longer c long) c false none
no_longer_law c long w t e =
    wide {f' = c} {c' = none} (bar long (one_texts long) (λ k x b h. subst (λ (u : Token). long u ≡ true) (sym (head_eq h.0)) h.1) (λ b h. cc h.0) (λ k h. ([], k, (refl, h)))
    (token (λ k. c k && not (long k)) t e) (λ k h. not_both (c k) (long k) h))
    (λ k h. of_either (c k) (long k) (w k) h) (λ k h. h)

pub name_law : (text : List ℕ) → Law (name text) a_name false none
name_law text = valued (named text) (no_longer_law a_name (is_long_name text) (λ t h. first_true (a_name t) _ h) (sample word.Name) refl)

pub string_law : (text : List ℕ) → Law (string text) (a word.Text) false none
string_law text = valued (string_in text) (no_longer_law (a word.Text) (is_long_text text) (λ t h. first_true (a word.Text t) _ h) (sample word.Text) refl)

text_literal : Within (a word.Text) a_literal
text_literal = within (a word.Text) a_literal (λ t. refl) refl

pub literal_law : (text : List ℕ) → Law (literal text) a_literal false none
literal_law text = valued (literal_of text) (no_longer_law a_literal (is_long_text text) (λ t h. text_literal t (first_true (a word.Text t) _ h)) (sample word.Null) refl)

-- a cast, or nothing
cast_law : (l : Leaf) → Law (cast l) (a word.TypeCast) false none
cast_law l = valued (λ (t : Token). l) (after_token (a word.TypeCast) (sample word.TypeCast) refl (token (a word.Regclass) (sample word.Regclass) refl))

maybe_cast_law : (b : Bool) (l k : Leaf) → Law (either_if b (a word.TypeCast) (cast l) (nothing k)) (a word.TypeCast) true (a word.TypeCast)
maybe_cast_law true l k = wide (alt (a word.TypeCast) (cast_law l) (λ t h. h) (empty k) (λ t h. refl)) (within _ _ (λ t. refl) refl) (within _ _ (λ t. refl) refl)
maybe_cast_law false l k = wide (empty k) (λ t h. cc) (λ t h. cc)

dotted_law : (text table : List ℕ) → Law (dotted text table) (a word.Dot) false (a word.TypeCast)
dotted_law text table =
    wide (after_token (a word.Dot) (sample word.Dot) refl (valued second_of (then_by (name_law text) (λ x. maybe_cast_law (words.is x.0 word.Tableoid) (leaf.TableNameOf table) (leaf.ColumnOf table x.1)) (λ t h. refl))))
    (λ t h. h) (within _ _ (λ t. refl) refl)

-- what may stand behind the name of a column
abbrev pub behind_column : Class Token
behind_column t = a word.Dot t || (a word.Text t || a word.TypeCast t)

abbrev text_or_cast : Class Token
text_or_cast t = a word.Text t || a word.TypeCast t

maybe_date_law : (text : List ℕ) (b : Bool) {q : Rule Token Leaf} → Law q (a word.TypeCast) true (a word.TypeCast) → Law (either_if b (a word.Text) (as_value leaf.Date (string text)) q) text_or_cast true text_or_cast
maybe_date_law text true l =
    wide (alt (a word.Text) (valued leaf.Date (string_law text)) (λ t h. h) l (apart _ _ (λ t. refl) refl)) (within _ _ (λ t. refl) refl) (within _ _ (λ t. refl) refl)
maybe_date_law text false l = wide l (within _ _ (λ t. refl) refl) (within _ _ (λ t. refl) refl)

pub column_law : (text : List ℕ) (x : TokenKind × List ℕ) → Law (column text x) behind_column true behind_column
column_law text x =
    wide (alt (a word.Dot) (dotted_law text x.1) (λ t h. h)
    (maybe_date_law text (words.is x.0 word.Date) (maybe_cast_law (words.is x.0 word.Tableoid) leaf.TableName (leaf.Column x.1)))
    (apart _ _ (λ t. refl) refl))
    (within _ _ (λ t. refl) refl) (within _ _ (λ t. refl) refl)
