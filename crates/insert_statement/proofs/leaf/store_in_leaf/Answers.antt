use Rattle.std.proofs.Common.{List, [], ◌∷◌, ◌∙◌, ap, map, sym, subst}
use Rattle.pg_values.specs.declared.value.Value.{Value}
use Rattle.statement_steps.proofs.Parts.{out_here}
use Rattle.statement_steps.proofs.Steps.{moved}
use Rattle.insert_statement.specs.Asked.{MayStore, put}
use Rattle.insert_statement.proofs.OwnLeaf.{own_may_store}
use Rattle.insert_statement.proofs.Told.{own_step}
use Rattle.insert_statement.proofs.leaf.store_in_leaf.Goals as goal

pub target_of-requires-clause-sound : goal.target_of-requires-clause-sound
target_of-requires-clause-sound c = record { h = c.requires.may.sound.0; stands = c.requires.may.sound.1 }

pub put_rows-requires-clause-rows : goal.put_rows-requires-clause-rows
put_rows-requires-clause-rows c =
    subst (λ ts. MayStore c.args.stores.now c.args.attempt.now.caller.session ts c.as_slice.result.now c.args.rows.items) (sym c.from_ref.ensures.value)
    (subst (λ ls. MayStore c.args.stores.now c.args.attempt.now.caller.session (c.in_ok-target.target ∷ []) ls c.args.rows.items) (sym (c.as_slice.ensures ∙ (c.in_ok-leaves.ensures ∙ ap (λ (rs : List (List Value)). map (λ (row : List Value). c.args.leaf) rs) c.deref.ensures.value)))
    (own_may_store c.args.stores.now c.args.attempt.now.caller c.args.table c.args.leaf c.in_ok-target.target c.args.rows.items c.requires.may
    (record { known = c.requires.known; leaf_is = c.requires.leaf; target_is = c.in_ok-target.ensures; rows_of = c.requires.rows; locked = c.requires.locked })))

pub returns-in_err-target : goal.returns-in_err-target
returns-in_err-target c = out_here c.from_residual.ensures.1

pub returns-in_err-leaves : goal.returns-in_err-leaves
returns-in_err-leaves c = out_here c.from_residual-in_err-leaves.ensures.1

pub returns : goal.returns
returns c =
    own_step c.put_rows.result c.args.stores.now c.put_rows.new.stores c.args.attempt.now.caller c.args.table c.args.leaf c.in_ok-target.target c.args.rows.items c.in_ok-target.ensures
    (moved (λ ls. put (c.in_ok-target.target ∷ []) c.args.attempt.now.caller ls c.args.rows.items) _ _ (c.as_slice.ensures ∙ (c.in_ok-leaves.ensures ∙ ap (λ (rs : List (List Value)). map (λ (row : List Value). c.args.leaf) rs) c.deref.ensures.value))
    (moved (λ ts. put ts c.args.attempt.now.caller c.as_slice.result.now c.args.rows.items) _ _ c.from_ref.ensures.value c.put_rows.ensures))
