use Rattle.std.proofs.Common.{Some, sym, subst}
use Rattle.tx_table.specs.Kept.{KeptTable}
use Rattle.tx_table.specs.Stands.{TableStands, MayBeHeld}
use Rattle.tx_table.proofs.Tables.{held_kept, hold_sound}
use Rattle.tx_table.proofs.table.TxTable.hold.Goals as goal

pub invariant_of-self : goal.invariant_of-self
invariant_of-self c = held_kept _ c.args.session (Some c.args.snap) c.self.invariant

pub returns-clause-sound : goal.returns-clause-sound
returns-clause-sound c h st =
    let M : KeptTable → Type 0 = λ k. MayBeHeld k c.args.session c.args.snap in
    let S : KeptTable → Type 0 = λ k. TableStands k h in
    hold_sound _ h c.args.session c.args.snap c.self.invariant (subst M (sym c.self.view_is) c.requires) (subst S (sym c.self.view_is) st)
