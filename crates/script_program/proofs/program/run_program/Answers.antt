use Rattle.std.proofs.Common.{[], None, refl, ◌≡◌, string_bytes, map}
use Rattle.std.proofs.KnownBytes.{Keeps-refl}
use Rattle.script_program.specs.Lines.{usage_line}
use Rattle.script_program.specs.Outcomes.{Stopped, refusal}
use Rattle.script_program.specs.Program.{Misused, InWords}
use Rattle.script_program.specs.Reading.{Unread}
use Rattle.script_program.specs.Work.{work_by}
use Rattle.script_program.specs.declared.ended.Ended.TheVariants.{Usage}
use Rattle.script_program.proofs.Endings.{nothing, nothing_of, told}
use Rattle.script_program.proofs.program.run_program.Goals as goal

pub returns-in-Ok : goal.returns-in-Ok
returns-in-Ok g c opened stands = c.do_asked.ensures opened stands (map string_bytes c.args.words.now) c.in-Ok.ensures

pub returns-in-Err-Usage : goal.returns-in-Err-Usage
returns-in-Err-Usage g c opened stands =
    let none : work_by (map string_bytes c.args.words.now) ≡ None = rw c.in-Err-Usage.field-0-is at c.in-Err-Usage.ensures in
    record {
      reading = Unread;
      read = (Keeps-refl _, refl);
      is = told g.K.Sink g.E.Sink _ _ _ _ _ _ _ (refusal Usage usage_line) (Misused none refl refl) (nothing g.K.Sink _) c.refuse_words.ensures;
    }

pub returns-in-Err-NoMemory : goal.returns-in-Err-NoMemory
returns-in-Err-NoMemory g c opened stands =
    record {
      reading = Unread;
      read = (Keeps-refl _, refl);
      is = Stopped [] (InWords refl refl) refl (nothing_of g.K.Sink _ []) (nothing g.E.Sink _);
    }
