use Rattle.std.proofs.Common.{List, arith, subst, sym}
use Rattle.plan_tree.specs.Asks.{keeps_alone}
use Rattle.plan_tree.specs.declared.pruning.KeptParts.{KeptParts}
use Rattle.plan_tree.proofs.OnePart.{Parting, parting_begins, part_below, part_prunes, part_made, parts_made}
use Rattle.plan_tree.proofs.pruning.partitions_by.Goals as goal

pub loop-k-init : goal.loop-k-init
loop-k-init c = record {
  level = c.in-Level.level;
  bounds = c.in-Level.set;
  children = c.in-Level.children;
  shape = c.in-Level.is;
  are = c.as_slice-child-items.ensures;
  going =
      subst (λ (ps : List KeptParts). Parting (keeps_alone c.args.steps.now) c.args.tree.now c.in-Level.level c.in-Level.set c.as_slice-child-items.result.now c.kept_alone-kept.result 0 ps) (sym c.new-parts.ensures.items)
      (parting_begins (keeps_alone c.args.steps.now) c.args.tree.now c.in-Level.level c.in-Level.set c.in-Level.children c.as_slice-child-items.result.now c.kept_alone-kept.result
      c.in-Level.is c.as_slice-child-items.ensures c.requires c.kept_alone-kept.ensures);
}

pub keeps-requires : goal.keeps-requires
keeps-requires c =
    part_below (keeps_alone c.args.steps.now) c.args.tree.now c.as_slice-child-items.result.now c.kept_alone-kept.result c.loop-k.k c.loop-k.parts.items c.loop-k.invariant c.child-item.result c.loop-k-test.true c.child-item.is

pub prune_child-requires : goal.prune_child-requires
prune_child-requires c =
    part_prunes (keeps_alone c.args.steps.now) c.args.tree.now c.as_slice-child-items.result.now c.kept_alone-kept.result c.loop-k.k c.loop-k.parts.items c.loop-k.invariant c.child-item.result c.loop-k-test.true c.child-item.is

pub loop-k-preserved : goal.loop-k-preserved
loop-k-preserved c =
    part_made (keeps_alone c.args.steps.now) c.args.tree.now c.as_slice-child-items.result.now c.kept_alone-kept.result c.loop-k.k c.loop-k.parts.items c.loop-k.invariant c.child-item.result c.loop-k-test.true c.child-item.is
    c.keeps.result c.in_ok-prune_child-in-Level.field-0 c.push.new.self.items c.keeps.ensures c.in_ok-prune_child-in-Level.ensures.leaves c.in_ok-prune_child-in-Level.ensures.tables c.in_ok-push-in-Level.ensures.items

pub returns-after-loop-k-clause-tables : goal.returns-after-loop-k-clause-tables
returns-after-loop-k-clause-tables c =
    (parts_made (keeps_alone c.args.steps.now) c.args.tree.now c.as_slice-child-items.result.now c.kept_alone-kept.result c.loop-k.k c.loop-k.parts.items c.loop-k.invariant (omega arith)).0

pub returns-after-loop-k-clause-leaves : goal.returns-after-loop-k-clause-leaves
returns-after-loop-k-clause-leaves c =
    (parts_made (keeps_alone c.args.steps.now) c.args.tree.now c.as_slice-child-items.result.now c.kept_alone-kept.result c.loop-k.k c.loop-k.parts.items c.loop-k.invariant (omega arith)).1
