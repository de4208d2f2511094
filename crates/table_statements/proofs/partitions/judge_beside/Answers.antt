use Rattle.std.proofs.Common.{◌≡◌, ◌∙◌, ℕ, zero, suc, Bool, false, [], refl, ap, sym, subst, Option, Ok}
use Rattle.pg_values.specs.Sets.{empty}
use Rattle.pg_values.specs.declared.ids.TableNo.{TableNo}
use Rattle.history.specs.History.{History}
use Rattle.ddl_steps.specs.Places.{default_scan}
use Rattle.ddl_steps.specs.Scans.{judged, watches}
use Rattle.ddl_steps.specs.Sessions.{those, those_below}
use Rattle.table_statements.proofs.partitions.judge_beside.Goals as goal

none_pass : (n : ℕ) (p : ℕ → Bool) → ((k : ℕ) → p k ≡ false) → those_below n p ≡ empty
none_pass zero p none = refl
none_pass (suc n) p none = let out = none n in rw out (none_pass n p none)

-- where there is nothing to scan, nobody is waited for
nothing_judged : (h : History) (s : ℕ) → judged h s [] ≡ Ok empty
unfolding those
nothing_judged h s = ap Ok (none_pass 128 (watches h s []) (λ r. refl))

pub default_of-requires-clause-siblings : goal.default_of-requires-clause-siblings
default_of-requires-clause-siblings c = c.trees_are_together.ensures c.args.stores.now c.requires.may.sound.0 c.args.attempt.now.caller.session c.requires.may.sound.1

pub ddl_tree-requires-clause-siblings : goal.ddl_tree-requires-clause-siblings
ddl_tree-requires-clause-siblings c = c.trees_are_together.ensures c.args.stores.now c.requires.may.sound.0 c.args.attempt.now.caller.session c.requires.may.sound.1

pub returns-in-None-clause-answer : goal.returns-in-None-clause-answer
returns-in-None-clause-answer c = λ h tells.
    let s = c.args.attempt.now.caller.session in
    let p = c.args.parent.number in
    let none = sym (c.default_of.ensures h tells.txs tells.catalog) ∙ c.in-None.is in
    subst (λ (o : Option TableNo). judged h s (default_scan h s p c.args.bound.now c.args.name.now o) ≡ Ok c.empty.result) (sym none) (nothing_judged h s ∙ ap Ok (sym c.empty.ensures.is))
