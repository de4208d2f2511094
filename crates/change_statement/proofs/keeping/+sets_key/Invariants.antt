use Rattle.std.proofs.Common.{◌≡◌, drop, map}
use Rattle.row_router.specs.Trees.{trees_of}
use Rattle.row_router.specs.Seen.{seen}
use Rattle.cond_logic.specs.Asked.{setting_meant}
use Rattle.statement_steps.specs.Gathered.{sets_key, sets_key_of}
use Rattle.change_statement.proofs.keeping.+sets_key.Given as goal

abbrev pub invariant-loop-child : goal.invariant-loop-child
invariant-loop-child l =
    sets_key_of (map setting_meant l.settings) (trees_of (map seen (drop l.child-index l.child-items))) ≡ sets_key (map setting_meant l.fn.settings) (seen l.fn.tree)
