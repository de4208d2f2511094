-- Bounds of one level can stand side by side.
use Rattle.std.proofs.Common.{◌≡◌, ◌∙◌, sym, Option, ℕ, None, if◌then◌else◌, Bool, true, false, List, [], ◌∷◌, get_or, refl}
use Rattle.std.specs.List.{All}
use Rattle.std.proofs.lemmas.Bool.{lt-ltb}
use Rattle.std.proofs.lemmas.List.Elements.{All-nil, All-cons}
use Rattle.pg_values.specs.KeyKinds.{IsNotNull}
use Rattle.pg_values.specs.declared.value.Kind.{Kind}
use Rattle.pg_values.specs.declared.value.Value.{Value}
use Rattle.bound_forms.specs.declared.level.Level.{Level}
use Rattle.pg_values.specs.declared.strategy.Strategy.{Strategy}
use Rattle.pg_values.specs.declared.strategy.Strategy.TheVariants.{Range as ByRange, List as ByList, Hash as ByHash}
use Rattle.bound_forms.specs.declared.level.KeyColumn.{KeyColumn}
use Rattle.bound_forms.specs.declared.partition_bound.Bound.{Bound}
use Rattle.bound_forms.specs.declared.partition_bound.Bound.TheVariants.{Range, List as Listed, Hash, Default}
use Rattle.bound_forms.specs.Listed.{ListsFit, ValueOfKind}
use Rattle.bound_forms.specs.Bounds.{is_filled, are_siblings, BoundOfKind, BoundsFit, CanCompare}
use Rattle.bound_forms.specs.Moduli.{moduli_suit, modulus_of, bad_modulus}
use Rattle.bound_forms.specs.Levels.{only_kind, IsOf, AreOf, IsBoundAt, IsOfLevel, LevelBoundsFit, LevelBoundsCompare, LevelBoundsHaveAKind, LevelBoundsAreFilled}
use Rattle.bound_forms.proofs.KindLaws.{kinds_compare, points_compare, point_not_null, all_not_null}

-- values of one kind can be compared
kind_fits : (kind : Kind) (values others : List Value) → All (IsOf kind) values → All (IsOf kind) others → ListsFit values others
kind_fits kind values others h k i d lt j e le v w = kinds_compare (get_or values i d) (get_or others j e) kind (v, h i d lt v) (w, k j e le w)

pub lists_compare : (columns : List KeyColumn) (values others : List Value) → AreOf columns values → AreOf columns others → ListsFit values others
lists_compare columns values others h k = kind_fits (only_kind columns) values others h.kind k.kind

-- the values of two of one level can be compared
compare_at : (strategy : Strategy) (columns : List KeyColumn) (a b : Bound) → IsBoundAt strategy columns a → IsBoundAt strategy columns b → CanCompare a b
compare_at ByRange columns (Range l u) (Range m v) h k =
    (points_compare columns l m h.0.edges k.0.edges, points_compare columns l v h.0.edges k.1.edges, points_compare columns u m h.1.edges k.0.edges, points_compare columns u v h.1.edges k.1.edges)
compare_at ByRange columns (Range l u) Default h k = tt
compare_at ByRange columns (Range l u) (Listed others) h k = absurd k
compare_at ByRange columns (Range l u) (Hash n r) h k = absurd k
compare_at ByRange columns Default b h k = tt
compare_at ByRange columns (Listed values) b h k = absurd h
compare_at ByRange columns (Hash m r) b h k = absurd h
compare_at ByList columns (Listed values) (Listed others) h k = lists_compare columns values others h.0 k.0
compare_at ByList columns (Listed values) Default h k = tt
compare_at ByList columns (Listed values) (Range m v) h k = absurd k
compare_at ByList columns (Listed values) (Hash n r) h k = absurd k
compare_at ByList columns Default b h k = tt
compare_at ByList columns (Range l u) b h k = absurd h
compare_at ByList columns (Hash m r) b h k = absurd h
compare_at ByHash columns (Hash m r) b h k = tt
compare_at ByHash columns (Range l u) b h k = absurd h
compare_at ByHash columns (Listed values) b h k = absurd h
compare_at ByHash columns Default b h k = absurd h

siblings_at : (strategy : Strategy) (columns : List KeyColumn) (a b : Bound) → IsBoundAt strategy columns a → IsBoundAt strategy columns b → moduli_suit a b ≡ true → are_siblings a b ≡ true
siblings_at ByRange columns (Range l u) (Range m v) h k s = refl
siblings_at ByRange columns (Range l u) Default h k s = refl
siblings_at ByRange columns Default (Range m v) h k s = refl
siblings_at ByRange columns Default Default h k s = refl
siblings_at ByRange columns (Range l u) (Listed others) h k s = absurd k
siblings_at ByRange columns (Range l u) (Hash n r) h k s = absurd k
siblings_at ByRange columns Default (Listed others) h k s = absurd k
siblings_at ByRange columns Default (Hash n r) h k s = absurd k
siblings_at ByRange columns (Listed values) b h k s = absurd h
siblings_at ByRange columns (Hash m r) b h k s = absurd h
siblings_at ByList columns (Listed values) (Listed others) h k s = refl
siblings_at ByList columns (Listed values) Default h k s = refl
siblings_at ByList columns Default (Listed others) h k s = refl
siblings_at ByList columns Default Default h k s = refl
siblings_at ByList columns (Listed values) (Range m v) h k s = absurd k
siblings_at ByList columns (Listed values) (Hash n r) h k s = absurd k
siblings_at ByList columns Default (Range m v) h k s = absurd k
siblings_at ByList columns Default (Hash n r) h k s = absurd k
siblings_at ByList columns (Range l u) b h k s = absurd h
siblings_at ByList columns (Hash m r) b h k s = absurd h
siblings_at ByHash columns (Hash m r) (Hash n q) h k s = s
siblings_at ByHash columns (Hash m r) (Range l u) h k s = absurd k
siblings_at ByHash columns (Hash m r) (Listed others) h k s = absurd k
siblings_at ByHash columns (Hash m r) Default h k s = absurd k
siblings_at ByHash columns (Range l u) b h k s = absurd h
siblings_at ByHash columns (Listed values) b h k s = absurd h
siblings_at ByHash columns Default b h k s = absurd h

pub level_compare : LevelBoundsCompare
level_compare level a b h k = compare_at level.strategy level.columns a b h k

-- two of one level fit each other
pub level_fits : LevelBoundsFit
level_fits level a b h k s = (siblings_at level.strategy level.columns a b h k s, level_compare level a b h k)

-- a bound that does not suit another has a modulus
bad_has_modulus : (a b : Bound) → moduli_suit a b ≡ false → modulus_of a ≡ None → ⊥
bad_has_modulus (Hash m r) b bad none = cc
bad_has_modulus (Range l u) b bad none = cc
bad_has_modulus (Listed values) b bad none = cc
bad_has_modulus Default b bad none = cc

-- where no modulus is bad all suit
suit_all : (b : Bound) (bounds : List Bound) → bad_modulus b bounds ≡ None → All (λ a. moduli_suit a b ≡ true) bounds
suit_all b [] none = All-nil (λ a. moduli_suit a b ≡ true)
suit_all b (a ∷ bounds) none = by (moduli_suit a b) refl none (suit_all b bounds)
  where
    by : (t : Bool) → moduli_suit a b ≡ t → (if t then bad_modulus b bounds else modulus_of a) ≡ None → (bad_modulus b bounds ≡ None → All (λ a. moduli_suit a b ≡ true) bounds) → All (λ a. moduli_suit a b ≡ true) (a ∷ bounds)
    by true e g rest = All-cons (λ a. moduli_suit a b ≡ true) a bounds e (rest g)
    by false e g rest = absurd (bad_has_modulus a b e g)

-- and a further bound of their level fits each
unfaulted_fit : (level : Level) (b : Bound) (bounds : List Bound) → bad_modulus b bounds ≡ None → IsOfLevel level b → All (IsOfLevel level) bounds → All (λ a. BoundsFit a b) bounds
unfaulted_fit level b bounds none here all i d lt = level_fits level (get_or bounds i d) b (all i d lt) here (suit_all b bounds none i d lt)

-- so a search that answers none tells
pub none_tells_fit : (r : Option ℕ) (b : Bound) (bounds : List Bound) → r ≡ bad_modulus b bounds → r ≡ None → (level : Level) → IsOfLevel level b → All (IsOfLevel level) bounds → All (λ a. BoundsFit a b) bounds
none_tells_fit r b bounds is none level here all = unfaulted_fit level b bounds (sym is ∙ none) here all

list_of_kind : (columns : List KeyColumn) (values : List Value) → AreOf columns values → All (ValueOfKind IsNotNull) values
list_of_kind columns values h = all_not_null (only_kind columns) values h.kind

-- and each is one of the kind that has all values
kind_at : (strategy : Strategy) (columns : List KeyColumn) (b : Bound) → IsBoundAt strategy columns b → BoundOfKind IsNotNull b
kind_at ByRange columns (Range l u) h = (point_not_null columns l h.0.edges, point_not_null columns u h.1.edges, h.2)
kind_at ByRange columns (Listed values) h = absurd h
kind_at ByRange columns (Hash m r) h = absurd h
kind_at ByRange columns Default h = tt
kind_at ByList columns (Range l u) h = absurd h
kind_at ByList columns (Listed values) h = (list_of_kind columns values h.0, lists_compare columns values values h.0 h.0, h.1)
kind_at ByList columns (Hash m r) h = absurd h
kind_at ByList columns Default h = tt
kind_at ByHash columns (Range l u) h = absurd h
kind_at ByHash columns (Listed values) h = absurd h
kind_at ByHash columns (Hash m r) h = h.0
kind_at ByHash columns Default h = absurd h

pub level_kind : LevelBoundsHaveAKind
level_kind level b h = kind_at level.strategy level.columns b h

-- a bound of a kind is not empty
pub kind_filled : (P : Value → Type 0) (b : Bound) → BoundOfKind P b → is_filled b ≡ true
kind_filled P (Range l u) h = h.2
kind_filled P (Listed values) h = h.2
kind_filled P (Hash m r) h = lt-ltb r m h
kind_filled P Default h = refl

pub level_filled : LevelBoundsAreFilled
level_filled level b h = kind_filled IsNotNull b (level_kind level b h)
