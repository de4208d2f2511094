use Rattle.std.proofs.Common.{subst}
use Rattle.history.specs.History.{tx_events}
use Rattle.history.specs.Transactions.{session_of}
use Rattle.part_catalog.specs.declared.new_table.CatalogRefused.{CatalogRefused}
use Rattle.part_catalog.specs.Full.{EntryRefused}
use Rattle.alter_table.proofs.Attaching.{AttachLaws, may_add, never_full, added_step, not_added}
use Rattle.alter_table.proofs.attached.add_entry.Goals as goal

pub add_entry-requires : goal.add_entry-requires
add_entry-requires c =
    let laws : AttachLaws = record { named = c.named_is_there.ensures; follow = c.attach_may_follow.ensures; passed = c.passed_have_places.ensures; none = c.none_breaks.ensures; siblings = c.sessions_have_siblings.ensures } in
    may_add laws c.args.stores.now c.args.caller c.args.parent c.args.table c.args.bound c.in-Some.by c.requires.may c.in-Some.ensures.is c.requires.locked c.requires.place

pub unreachable-requires-in-Err-Full : goal.unreachable-requires-in-Err-Full
unreachable-requires-in-Err-Full c =
    let laws : AttachLaws = record { named = c.named_is_there.ensures; follow = c.attach_may_follow.ensures; passed = c.passed_have_places.ensures; none = c.none_breaks.ensures; siblings = c.sessions_have_siblings.ensures } in
    never_full laws c.args.stores.now c.args.caller c.args.parent c.args.table c.args.bound c.in-Some.by c.requires.may c.in-Some.ensures.is c.requires.locked c.requires.place c.in-Err-Full.field-0-0
    (λ h txs cat. subst (λ (r : CatalogRefused). EntryRefused h (session_of (tx_events h) c.in-Some.by.number) c.args.parent.number c.args.table.number r) c.in-Err-Full.field-0-is (c.in-Err-Full.ensures.cause h txs cat))

pub returns-in-Ok : goal.returns-in-Ok
returns-in-Ok c =
    let laws : AttachLaws = record { named = c.named_is_there.ensures; follow = c.attach_may_follow.ensures; passed = c.passed_have_places.ensures; none = c.none_breaks.ensures; siblings = c.sessions_have_siblings.ensures } in
    added_step laws c.args.stores.now c.args.caller c.args.parent c.args.table c.args.bound c.in-Some.by c.requires.may c.in-Some.ensures.is c.requires.locked c.requires.place c.requires.clean c.add_entry.new.self c.in-Ok.ensures.added

pub returns-in-Err-NoMemory : goal.returns-in-Err-NoMemory
returns-in-Err-NoMemory c =
    let laws : AttachLaws = record { named = c.named_is_there.ensures; follow = c.attach_may_follow.ensures; passed = c.passed_have_places.ensures; none = c.none_breaks.ensures; siblings = c.sessions_have_siblings.ensures } in
    not_added laws c.args.stores.now c.args.caller c.args.parent c.args.table c.args.bound c.in-Some.by c.requires.may c.in-Some.ensures.is c.requires.locked c.requires.place c.add_entry.new.self
