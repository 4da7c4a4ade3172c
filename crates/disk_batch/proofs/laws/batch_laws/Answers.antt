use Rattle.std.proofs.Common.{refl}
use Rattle.disk_batch.specs.Laws.{Is}
use Rattle.disk_batch.proofs.Faulting.{faults_done}
use Rattle.disk_batch.proofs.Progressing.{writes_started, writes_next, foreign_on, own_done, flushes_started, batch_well}
use Rattle.disk_batch.proofs.laws.batch_laws.Goals as goal

pub returns : goal.returns
returns c = record {
  started = λ os flush rest told pv sector value. writes_started os flush rest told pv sector (Is value);
  elsewhere = λ view told pv sector value step. foreign_on view told pv sector (Is value) step;
  done = λ view told pv sector value tag disk work well fresh. own_done view told pv sector (Is value) tag disk work well fresh;
  next = λ view put puts o told pv sector value. writes_next view put puts o told pv sector (Is value);
  flushes = λ view os told pv sector value. flushes_started view os told pv sector (Is value);
  well = λ view told pv sector value. batch_well view told pv sector (Is value);
  lost = λ view tag disk. (refl, refl);
  risen = λ faults view old new done. faults_done faults old new done view;
}
