use Rattle.select_statement.proofs.Plain.{reads_its_scans}
use Rattle.select_statement.proofs.explaining.one_table_reads_its_scans.Goals as goal

pub returns : goal.returns
returns c = reads_its_scans c.one_item_is_read_once.ensures
