use Rattle.image_scans.proofs.BesideScan.{scan_kept}
use Rattle.volume_history.proofs.Numbered.{numbered}
use Rattle.world_tracks.proofs.RunHistories.{run_history}
use Rattle.world_tracks.proofs.laws.runs_keep_histories.Goals as goal

pub returns : goal.returns
returns g c =
    let steps = c.steps_keep.ensures in
    let writes = c.writes_keep.ensures in
    let lives = c.lives_keep.ensures in
    let entries = c.entries_keep.ensures in
    let answers = c.answers_keep.ensures in
    run_history g.S.Shelf.state c.pieces_cover_requests.ensures.cover c.histories_stay.ensures.grow
    (record {
      steps = steps.steps;
      flushes = steps.flushes;
      flushed = steps.flushed;
      lost = steps.lost;
      submitted = writes.submitted;
      written = writes.written;
      bad = writes.bad;
      other = writes.other;
      lives = lives.lives;
      forgot = lives.forgot;
      begun = entries.begun;
      failed = entries.failed;
      took = entries.took;
      takes = entries.written;
      answered = answers.answered;
      ok = answers.ok;
      opening = c.places_begin.ensures.opening;
    })
    (record {
      parts = c.parts_make_consistent.ensures;
      volumes = c.places_hold.ensures.volumes;
      scans = scan_kept;
    })
    numbered
