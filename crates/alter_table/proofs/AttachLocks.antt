-- The locks of ATTACH PARTITION, and what stays so while more are got.
use Rattle.std.proofs.Common.{◌≡◌, ℕ, ◌<◌, List, ap, sym, ◌∙◌, subst, Result, Ok, Err, All, IfOk, map, length, slice_index_or}
use Rattle.pg_values.specs.declared.ids.TableNo.{TableNo}
use Rattle.pg_values.specs.declared.lock_mode.LockMode.TheVariants.{ShareUpdateExclusive, AccessExclusive}
use Rattle.row_router.specs.declared.path_part.PathPart.{PathPart}
use Rattle.row_router.specs.Trees.{TableTree}
use Rattle.tx_table.specs.Stands.{TableStands}
use Rattle.part_catalog.specs.Found.{resolved}
use Rattle.part_catalog.specs.Stands.{CatalogueStands}
use Rattle.bound_forms.specs.declared.partition_bound.Bound.{Bound}
use Rattle.part_ddl.specs.Below.{tables_from, IsTreeOf}
use Rattle.stores.specs.declared.stores.Stores.{Stores}
use Rattle.statement_steps.specs.Attempts.{MayAttempt, LocksStay}
use Rattle.statement_steps.specs.declared.caller.Caller.{Caller}
use Rattle.statement_steps.specs.declared.stop.Stop.{Stop}
use Rattle.statement_steps.specs.Asks.{locked, all_locked, named}
use Rattle.statement_steps.specs.Known.{IsKnownTo}
use Rattle.statement_steps.specs.Steps.{IsStep}
use Rattle.statement_steps.proofs.Steps.{same_step}
use Rattle.statement_steps.proofs.Held.{named_held, named_means}
use Rattle.ddl_steps.proofs.Below.{TreeLaws, here_of, tree_known}
use Rattle.ddl_steps.proofs.Locks.{tables_locked}
use Rattle.ddl_steps.proofs.Same.{same_resolved}
use Rattle.alter_table.specs.AskedOfAttached.{IsGuardedNamed, HasFamilyLocked, HasPlace, AreFrom, IsPathOf, SeesBoth}
use Rattle.alter_table.specs.Attached.{family_locked}
use Rattle.ddl_steps.specs.Locks.{IsLocked}

-- ---- the tables from one down

pub family_there : TreeLaws → (stores : Stores) (caller : Caller) (t : ℕ) (tables : List TableNo) → MayAttempt stores caller → IsKnownTo stores caller.session t → AreFrom stores caller.session t tables → All (λ x. IsKnownTo stores caller.session x.number) tables
family_there laws stores caller t tables may known are =
    let h = may.sound.0 in
    let stands = may.sound.1 in
    let here = here_of stores caller h may stands in
    subst (λ (ts : List TableNo). All (λ x. IsKnownTo stores caller.session x.number) ts) (sym (are h stands.all.txs stands.all.catalog)) (tree_known laws stores h caller.session here.0 t stands here.1 known)

pub family_step : (names : List (List ℕ)) (r : Result (Unit {0}) Stop) (old new : Stores) (caller : Caller) (t : ℕ) (tables : List TableNo) → AreFrom old caller.session t tables
    → IsStep (λ (u : Unit {0}). u) r old new caller caller.cmd (all_locked names caller.session AccessExclusive (map (λ x. x.number) tables)) → IsStep (λ (u : Unit {0}). u) r old new caller caller.cmd (family_locked names caller.session t)
family_step names r old new caller t tables are step =
    same_step (λ (u : Unit {0}). u) r old new caller caller.cmd (family_locked names caller.session t) (all_locked names caller.session AccessExclusive (map (λ x. x.number) tables))
    (λ h stands. ap (λ (ts : List TableNo). all_locked names caller.session AccessExclusive (map (λ x. x.number) ts) h) (sym (are h stands.all.txs stands.all.catalog))) step

pub family_is_locked : (names : List (List ℕ)) (r : Result (Unit {0}) Stop) (old new : Stores) (caller : Caller) (t : ℕ) (tables : List TableNo) → MayAttempt old caller → new ≡ record old { locks = new.locks } → AreFrom old caller.session t tables
    → IsStep (λ (u : Unit {0}). u) r old new caller caller.cmd (all_locked names caller.session AccessExclusive (map (λ x. x.number) tables)) → IfOk r (λ u. HasFamilyLocked new caller.session t)
family_is_locked names (Ok u) old new caller t tables may rest are step =
    λ h txs catalog. subst (λ (ts : List TableNo). All (λ x. IsLocked new caller.session x.number) ts) (are h (subst (λ (x : Stores). TableStands x.txs h) rest txs) (subst (λ (x : Stores). CatalogueStands x.catalog h) rest catalog)) (tables_locked names old new caller tables may step)
family_is_locked names (Err e) old new caller t tables may rest are step = tt

-- ---- the parent, which is locked in a weaker mode

pub named_guarded : (names : List (List ℕ)) (old new : Stores) (caller : Caller) (name : List ℕ) (table : TableNo) → MayAttempt old caller → new ≡ record old { locks = new.locks } → IsKnownTo new caller.session table.number
    → IsStep (λ (t : TableNo). t.number) (Ok table) old new caller caller.cmd (named names caller.session ShareUpdateExclusive name) → IsGuardedNamed new caller.session table.number
named_guarded names old new caller name table may rest known step =
    let s = may.sound in
    let a = step.is s.0 s.1 s.2 in
    let o = resolved s.0 caller.session name in
    record {
      name = name;
      named = λ h txs catalog.
          let t : TableStands old.txs h = subst (λ (x : Stores). TableStands x.txs h) rest txs in
          let c : CatalogueStands old.catalog h = subst (λ (x : Stores). CatalogueStands x.catalog h) rest catalog in
          sym (same_resolved old.txs old.catalog s.0 h s.1.all.txs t s.1.all.catalog c caller.session name) ∙ named_means names caller.session ShareUpdateExclusive name s.0 o table.number a.0;
      made = known.made;
      guarded = a.1.stands.all.locks.tells.held caller.session table.number ShareUpdateExclusive ∙ named_held names caller.session ShareUpdateExclusive name s.0 o table.number a.0;
    }

-- ---- further locks leave it so

module _ (old new : Stores) (s : ℕ) (rest : new ≡ record old { locks = new.locks }) where
  pub still_guarded : (t : ℕ) → LocksStay old new → IsGuardedNamed old s t → IsGuardedNamed new s t
  still_guarded t stay its = record {
    name = its.name;
    named = λ h txs catalog. its.named h (subst (λ (x : Stores). TableStands x.txs h) rest txs) (subst (λ (x : Stores). CatalogueStands x.catalog h) rest catalog);
    made = subst (λ (x : Stores). t < length x.catalog.tables) (sym rest) its.made;
    guarded = stay s t ShareUpdateExclusive its.guarded;
  }

  pub still_family : (t : ℕ) → LocksStay old new → HasFamilyLocked old s t → HasFamilyLocked new s t
  still_family t stay its h txs catalog k d lt =
      stay s (slice_index_or (tables_from h s t) k d).number AccessExclusive (its h (subst (λ (x : Stores). TableStands x.txs h) rest txs) (subst (λ (x : Stores). CatalogueStands x.catalog h) rest catalog) k d lt)

  pub still_from : (t : ℕ) (tables : List TableNo) → AreFrom old s t tables → AreFrom new s t tables
  still_from t tables its = subst (λ (x : Stores). AreFrom x s t tables) (sym rest) its

  pub still_sees : (p t : ℕ) (tree own : TableTree) (path : List PathPart) (tables : List TableNo) → SeesBoth old s p t tree own path tables → SeesBoth new s p t tree own path tables
  still_sees p t tree own path tables its = record {
    parent_tree = subst (λ (x : Stores). IsTreeOf x.txs x.catalog s p tree) (sym rest) its.parent_tree;
    parent_path = subst (λ (x : Stores). IsPathOf x s p path) (sym rest) its.parent_path;
    table_tree = subst (λ (x : Stores). IsTreeOf x.txs x.catalog s t own) (sym rest) its.table_tree;
    table_family = still_from t tables its.table_family;
  }

  pub still_placed : (p t : ℕ) (b : Bound) → HasPlace old s p t b → HasPlace new s p t b
  still_placed p t b its = subst (λ (x : Stores). HasPlace x s p t b) (sym rest) its
