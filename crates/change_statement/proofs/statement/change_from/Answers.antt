use Rattle.change_statement.specs.Changing.{begun, changing}
use Rattle.change_statement.proofs.Commands.{begun_by, gone_on, own_run}
use Rattle.change_statement.proofs.statement.change_from.Goals as goal

pub go_on-requires-clause-next : goal.go_on-requires-clause-next
go_on-requires-clause-next c = c.requires.rest.next

pub begin-requires-clause-next : goal.begin-requires-clause-next
begin-requires-clause-next c = c.requires.rest.next

pub go_on-requires-clause-own : goal.go_on-requires-clause-own
go_on-requires-clause-own c = own_run c.args.stores.now c.args.attempt.now.caller c.args.rest c.in-Some.rest c.requires.may c.requires.rest (λ h stands. c.in-Some.ensures h stands)

pub returns-in-Some : goal.returns-in-Some
returns-in-Some c =
    gone_on (λ g. changing c.args.change c.args.attempt.now.caller g) c.args.attempt.now.names.now c.args.rest c.in-Some.rest c.go_on.result c.args.stores.now c.go_on.new.stores c.args.attempt.now.caller (begun c.args.how c.args.attempt.now.names.now c.args.params.now c.args.attempt.now.caller c.args.change)
    (λ h stands. c.in-Some.ensures h stands) c.go_on.ensures

pub returns-in-None : goal.returns-in-None
returns-in-None c =
    begun_by (λ g. changing c.args.change c.args.attempt.now.caller g) c.args.attempt.now.names.now c.args.rest c.begin.result c.args.stores.now c.begin.new.stores c.args.attempt.now.caller (begun c.args.how c.args.attempt.now.names.now c.args.params.now c.args.attempt.now.caller c.args.change)
    (λ h stands. c.in-None.ensures h stands) c.begin.ensures
