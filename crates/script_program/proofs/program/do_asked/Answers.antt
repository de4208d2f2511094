use Rattle.std.proofs.Common.{◌≡◌, [], false, refl, sym, ◌∙◌, subst, List, ℕ}
use Rattle.std.proofs.KnownBytes.{Keeps-refl}
use Rattle.script_program.specs.Program.{Made, Making}
use Rattle.script_program.specs.Reading.{Unread}
use Rattle.script_program.specs.Work.{reads_input}
use Rattle.script_program.proofs.Endings.{ends_more}
use Rattle.script_program.proofs.program.do_asked.Goals as goal

pub read_and_do-requires : goal.read_and_do-requires
read_and_do-requires g c = sym c.reads_input.ensures ∙ c.if-reads_input.true

pub returns-else-reads_input : goal.returns-else-reads_input
returns-else-reads_input g c opened stands words call =
    let not : reads_input c.args.work ≡ false = sym c.reads_input.ensures ∙ c.if-reads_input.false in
    record {
      reading = Unread;
      read = (Keeps-refl _, refl);
      is = ends_more g.K.Sink g.E.Sink _ _ _ _ _ _ _ _ _ (λ o ends. Made c.args.work call not refl ends) (λ bytes begins. Making c.args.work call not refl begins) (c.do_work.ensures opened stands);
    }
