use Rattle.std.proofs.Common.{◌≡◌, ◌≤◌, ◌<◌, ◌+◌, ◌++◌, ℕ, suc, List, [], ◌∷◌, length, drop, get_or, append_assoc, subst, sym, add-one, rules}
use Rattle.std.specs.List.{AllZip}
use Rattle.std.proofs.Math.Seq.{drop-cons}
use Rattle.std.proofs.lemmas.List.{append-nil, drop_all}
use Rattle.pg_values.specs.declared.value.Value.{Value}
use Rattle.pg_values.specs.declared.value.Kind.TheVariants.{Int4 as KInt4}
use Rattle.bound_forms.specs.declared.level.KeyColumn.{KeyColumn}
use Rattle.bound_forms.specs.Levels.{ComparesWith}
use Rattle.sql_shell.proofs.keys.key_values.Goals as goal

abbrev Suit : List KeyColumn → List Value → Type 0
Suit columns key = AllZip (λ c v. ComparesWith c.kind v) columns key

-- one value more
more : (columns : List KeyColumn) (i : ℕ) (d : KeyColumn) (done now : List Value) (v : Value) → i < length columns → now ≡ done ++ v ∷ [] → ComparesWith (get_or columns i d).kind v
    → ((rest : List Value) → Suit (drop i columns) rest → Suit columns (done ++ rest)) → (rest : List Value) → Suit (drop (i + 1) columns) rest → Suit columns (now ++ rest)
more columns i d done now v within pushed suits before rest h =
    let step : drop i columns ≡ get_or columns i d ∷ drop (suc i) columns = drop-cons columns i d within in
    let behind : Suit (drop (suc i) columns) rest = rw (add-one) at h in
    let P : List KeyColumn → Type 0 = λ cs. Suit cs (v ∷ rest) in
    rw pushed (rw (append_assoc done (v ∷ []) rest) (before (v ∷ rest) (subst P (sym step) (suits, behind))))

-- all of them
whole : (columns : List KeyColumn) (i : ℕ) (done : List Value) → length columns ≤ i → ((rest : List Value) → Suit (drop i columns) rest → Suit columns (done ++ rest)) → Suit columns done
whole columns i done end before =
    let P : List KeyColumn → Type 0 = λ cs. Suit cs [] in
    let last : Suit columns (done ++ []) = before [] (subst P (sym (drop_all i columns end)) tt) in
    subst (Suit columns) (append-nil done) last

pub loop-column-preserved : goal.loop-column-preserved
loop-column-preserved c =
    let d : KeyColumn = record { position = 0; kind = KInt4 } in
    more c.args.columns.now c.loop-column.column-index d c.loop-column.row c.push.new.self _ c.loop-column-test.true (search rules) c.in_ok-key_value.ensures c.loop-column.invariant

pub returns : goal.returns
returns c = whole c.args.columns.now c.loop-column.column-index c.loop-column.row c.loop-column-test.false c.loop-column.invariant
