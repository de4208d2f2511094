-- What words ask to do, by what they ask for.
use Rattle.std.proofs.Common.{Option, Err, ap, option_map}
use Rattle.script_program.specs.CommandLine.{IsRead}
use Rattle.script_program.specs.declared.asked.Asked.{Asked}
use Rattle.script_program.specs.declared.asked.WordsRefused.{WordsRefused}
use Rattle.script_program.specs.declared.asked.WordsRefused.TheVariants.{Usage, NoMemory}
use Rattle.script_program.specs.Work.{work_of}
use Rattle.script_program.specs.declared.work.Work.{Work}

-- words that ask for nothing ask to do nothing
pub nothing_asked : (asked : Option Asked) (e : WordsRefused) → IsRead {T = Asked} asked (Err e) → IsRead {T = Work} (option_map work_of asked) (Err e)
nothing_asked asked Usage none = ap (option_map work_of) none
nothing_asked asked NoMemory none = tt
