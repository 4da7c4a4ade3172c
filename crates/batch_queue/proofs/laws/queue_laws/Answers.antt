use Rattle.batch_queue.proofs.OverBases.{images_over}
use Rattle.batch_queue.proofs.Queued.{queue_goes_beside, queue_made, queue_rests_beside, queue_starts, queue_turns}
use Rattle.batch_queue.proofs.laws.queue_laws.Goals as goal

pub returns : goal.returns
returns c = record {
  made = queue_made;
  started = queue_starts;
  turned = queue_turns;
  rests_beside = queue_rests_beside;
  goes_beside = queue_goes_beside;
  images_over = images_over;
}
