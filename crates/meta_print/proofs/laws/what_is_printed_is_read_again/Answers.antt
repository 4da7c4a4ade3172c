use Rattle.meta_print.proofs.ReadAgain.{tree_again, backup_again}
use Rattle.meta_print.proofs.laws.what_is_printed_is_read_again.Goals as goal

pub returns-clause-committed : goal.returns-clause-committed
returns-clause-committed c = tree_again

pub returns-clause-backup : goal.returns-clause-backup
returns-clause-backup c = backup_again
