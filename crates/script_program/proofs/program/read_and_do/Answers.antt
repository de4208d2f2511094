use Rattle.std.proofs.Common.{[], refl}
use Rattle.script_program.specs.Lines.{too_large_line, read_line}
use Rattle.script_program.specs.Outcomes.{Stopped, refusal}
use Rattle.script_program.specs.Program.{Swamped, Unreadable, Read, InReading, Behind}
use Rattle.script_program.specs.Reading.{Partly, Whole, TooLong, Broken}
use Rattle.script_program.specs.declared.ended.Ended.TheVariants.{TooLarge, ReadFault}
use Rattle.script_program.proofs.Endings.{ends_more, nothing, nothing_of, told}
use Rattle.script_program.proofs.program.read_and_do.Goals as goal

pub returns-in-Ok : goal.returns-in-Ok
returns-in-Ok g c opened stands words call =
    let work = c.args.work in
    record {
      reading = Whole c.in-Ok.text.items;
      read = c.in-Ok.ensures.ok;
      is = ends_more g.K.Sink g.E.Sink _ _ _ _ _ _ _ _ _ (λ o ends. Read work c.in-Ok.text.items call c.requires refl ends) (λ bytes begins. Behind work c.in-Ok.text.items call c.requires refl begins)
          (rw c.deref.ensures.value at (c.do_work.ensures opened stands));
    }

pub returns-in-Err-TooLarge : goal.returns-in-Err-TooLarge
returns-in-Err-TooLarge g c opened stands words call =
    record {
      reading = TooLong;
      read = rw c.in-Err-TooLarge.field-0-is at c.in-Err-TooLarge.ensures.err;
      is = told g.K.Sink g.E.Sink _ _ _ _ _ _ _ (refusal TooLarge too_large_line) (Swamped c.args.work call c.requires refl refl) (nothing g.K.Sink _) c.answer.ensures;
    }

pub returns-in-Err-Fault : goal.returns-in-Err-Fault
returns-in-Err-Fault g c opened stands words call =
    record {
      reading = Broken;
      read = rw c.in-Err-Fault.field-0-is at c.in-Err-Fault.ensures.err;
      is = told g.K.Sink g.E.Sink _ _ _ _ _ _ _ (refusal ReadFault read_line) (Unreadable c.args.work call c.requires refl refl) (nothing g.K.Sink _) c.answer-in-Err-Fault.ensures;
    }

pub returns-in-Err-NoMemory : goal.returns-in-Err-NoMemory
returns-in-Err-NoMemory g c opened stands words call =
    record {
      reading = Partly;
      read = rw c.in-Err-NoMemory.field-0-is at c.in-Err-NoMemory.ensures.err;
      is = Stopped [] (InReading c.args.work call c.requires refl refl) refl (nothing_of g.K.Sink _ []) (nothing g.E.Sink _);
    }
