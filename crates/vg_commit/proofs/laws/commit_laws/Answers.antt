use Rattle.disk_batch.proofs.Elsewhere.{completes_elsewhere, submits_elsewhere, works_elsewhere}
use Rattle.vg_commit.specs.CommitHolds.{is_own}
use Rattle.vg_commit.proofs.CommitBeside.{com_elsewhere, com_shows, fenced_shows, lost_shows, pre_elsewhere, pre_shows, ready_elsewhere}
use Rattle.vg_commit.proofs.CommitBeside.{ready_shows, whole_elsewhere, whole_shows}
use Rattle.vg_commit.proofs.CommitBuffers.{begins_buffered, brings_buffer, commits_buffered, goes_buffered, others_leave_buffers}
use Rattle.vg_commit.proofs.CommitBuffers.{publishes_buffered}
use Rattle.vg_commit.proofs.CommitLaws.{begins, commits_holding, goes_holding, publishes}
use Rattle.vg_commit.proofs.CommitRoom.{begins_spending, commits_spending, goes_spending, publishes_spending}
use Rattle.vg_commit.proofs.CommitTargets.{writes_its_areas}
use Rattle.vg_commit.proofs.laws.commit_laws.Goals as goal

pub returns : goal.returns
returns c = record {
  begins = begins;
  goes = goes_holding;
  publishes = publishes;
  commits = commits_holding;
  pre_elsewhere = pre_elsewhere;
  ready_elsewhere = ready_elsewhere;
  com_elsewhere = com_elsewhere;
  whole_elsewhere = whole_elsewhere;
  others_complete = λ commit tags old new done foreign completes. completes_elsewhere (is_own commit) tags old new done foreign completes;
  others_submit = λ commit tags old new op tag apart submits. submits_elsewhere (is_own commit) tags old new op tag apart submits;
  others_submit_all =
      λ commit tags old new works theirs apart submits. works_elsewhere (is_own commit) tags old new works theirs submits apart;
  writes_its_areas = writes_its_areas;
  begins_spending = begins_spending;
  goes_spending = goes_spending;
  publishes_spending = publishes_spending;
  commits_spending = commits_spending;
  begins_buffered = begins_buffered;
  brings_buffer = brings_buffer;
  goes_buffered = goes_buffered;
  publishes_buffered = publishes_buffered;
  commits_buffered = commits_buffered;
  others_leave_buffers = others_leave_buffers;
  pre_shows = pre_shows;
  ready_shows = ready_shows;
  com_shows = com_shows;
  whole_shows = whole_shows;
  lost_shows = lost_shows;
  fenced_shows = fenced_shows;
}
