-- A piece fails, has read, or has written.
use Rattle.std.proofs.Common.{◌≡◌, ◌≤◌, ◌<◌, All, ℕ, ◌+◌, ◌-◌, Bool, true, false, cond, ◌&&◌, ◌||◌, ◌==◌, IfSome, List, [], ◌∷◌, ◌++◌}
use Rattle.std.proofs.Common.{Option, None, Some, get_or, is_some, length, set, unwrap_or, refl, sym, ap, subst, ◌∙◌, arith, true≢false}
use Rattle.sector_base.specs.declared.places.Piece.{Piece}
use Rattle.command_table.specs.declared.command.Command.{Command}
use Rattle.line_answers.specs.declared.answer.Answer.{Answer}
use Rattle.line_answers.specs.declared.answer.Answer.TheVariants as answer
use Rattle.data_lines.specs.DataLines.{in_range, is_data}
use Rattle.line_table.specs.Steps as lines
use Rattle.line_table.specs.declared.journal.EntryKind.TheVariants as entry
use Rattle.line_table.specs.declared.journal.JournalEntry.{JournalEntry}
use Rattle.flush_plan.specs.Plans.{marks_of}
use Rattle.flush_waits.specs.declared.ticket.Waiter.TheVariants as waiter
use Rattle.flush_waits.specs.declared.ticket.Waiting.{Waiting}
use Rattle.flush_waits.specs.declared.waits.Awaited.{Awaited}
use Rattle.flush_waits.specs.declared.waits.Awaited.TheVariants.{Lost, Served, Stable, Unserved}
use Rattle.flush_waits.specs.Steps as waits
use Rattle.flush_waits.specs.Steps.{with_waiting}
use Rattle.flush_waits.specs.Waits.{DiskWaits, none_waits}
use Rattle.piece_table.specs.declared.live.LivePiece.{LivePiece}
use Rattle.piece_table.specs.declared.live.Stage.TheVariants.{Started, Taken}
use Rattle.piece_table.specs.Pieces.{live_at}
use Rattle.piece_table.specs.Steps as pieces
use Rattle.piece_table.specs.Steps.{live_of, no_live, with_live}
use Rattle.volume_history.specs.Chronicles.{ChronicleEntry}
use Rattle.world_acts.specs.declared.open_line.OpenLine.{OpenLine}
use Rattle.world_acts.specs.declared.open_line.Work.{Work}
use Rattle.world_acts.specs.declared.open_line.Work.TheVariants.{Read, Whole, Write}
use Rattle.world_acts.specs.declared.state.Core.{Core}
use Rattle.world_acts.specs.Acts.{Allowed, Fails, IsFailure, IsPartOf, Reads, World, Writes, after, world}
use Rattle.world_acts.specs.Counts.{is_line, is_taken, waiting}
use Rattle.world_acts.specs.OpenLines.{after_failure, after_filled, after_finished, filled, is_pv_failed, is_whole, open_at}
use Rattle.world_acts.specs.Orderly.{IsOrderly}
use Rattle.world_acts.specs.Rooms.{fail_room, fewer}
use Rattle.world_acts.proofs.LinesKept.{hit}
use Rattle.world_acts.proofs.PiecesKept.{piece_replaced, started_at}
use Rattle.world_acts.proofs.Tables.{Changes, all_changed, at_number, changes_both, own_at, removed}
use Rattle.world_acts.proofs.WaitsKept.{count_push, one_disk, waiting_on}
use Rattle.world_history.specs.Entries.{entries_of, fails, takes}
use Rattle.world_history.specs.Told.{IsLoss, IsOfThrough, IsTold, IsWorkOf, is_to_come, to_come}
use Rattle.world_history.proofs.OneLine.{is_failed, is_filled, is_finished, is_same, lines_both, worse}
use Rattle.world_history.proofs.PieceSettles.{kind, lost_sector, lost_still, opened, opened_at, own_told, part_of, piece_told, tells_failed}
use Rattle.world_history.proofs.PieceSettles.{tells_took, told, weighs, weighs_none}

-- ---- what a line answers then

-- it has failed, whatever it was to answer
pub worse_some : (failure : Option Answer) (why : Answer) → is_some (cond (is_pv_failed failure) failure (Some why)) ≡ true
worse_some None why = refl
worse_some (Some a) why =
    elim (is_pv_failed (Some a)) as (λ b. is_some (cond b (Some a) (Some why)) ≡ true) [
      | true ↦ refl
      | false ↦ refl
    ]

pub worse_loss : (command : Command) (failure : Option Answer) (b : Bool) (why : Answer) → IfSome failure (IsLoss command)
    → IsLoss command why
    → IfSome (cond b failure (Some why)) (IsLoss command)
worse_loss command failure true why was is = was
worse_loss command failure false why was is = is

worse_does : (command : Command) (key : Option ℕ) (work : Work) (failure : Option Answer) (b : Bool) (why : Answer)
    → is_whole work ≡ false
    → IsWorkOf command key work failure
    → IsLoss command why
    → IsWorkOf command key work (cond b failure (Some why))
worse_does command key (Read start buffer) failure b why part does loss = (does.0, does.1, worse_loss command failure b why does.2 loss)
worse_does command key Write failure b why part does loss = (does.0, does.1, worse_loss command failure b why does.2 loss)
worse_does command key (Whole answer) failure b why part does loss = absurd (true≢false part)

-- a line that reads or writes may answer that a disk failed
pub disk_lost : (command : Command) (pv : ℕ) → is_data command ≡ true → IsLoss command (answer.PvFailed pv)
disk_lost command pv is = record { says = rw (is) refl; bad = refl; unrefused = refl }

failure_lost : (c : Core) (piece : Piece) (command : Command) (key : Option ℕ) (work : Work) (failure : Option Answer) (why : Answer)
    → is_data command ≡ true
    → IsWorkOf command key work failure
    → IsPartOf work piece
    → IsFailure c piece why
    → IsLoss command why
failure_lost c piece command key work failure (answer.PvFailed pv) is does part fails = disk_lost command pv is
failure_lost c piece command key (Read start buffer) failure (answer.ReadFailed pv) is does part fails =
    record { says = does.0; bad = refl; unrefused = refl }
failure_lost c piece command key Write failure (answer.ReadFailed pv) is does part fails = absurd (true≢false (sym part ∙ fails.1))
failure_lost c piece command key (Whole a) failure (answer.ReadFailed pv) is does part fails = absurd part
failure_lost c piece command key work failure answer.Fine is does part fails = absurd fails
failure_lost c piece command key work failure (answer.Read sectors) is does part fails = absurd fails
failure_lost c piece command key work failure (answer.Listed volumes) is does part fails = absurd fails
failure_lost c piece command key work failure (answer.Refused refusal) is does part fails = absurd fails
failure_lost c piece command key work failure (answer.Fenced pv) is does part fails = absurd fails
failure_lost c piece command key work failure (answer.Stopped pv) is does part fails = absurd fails
failure_lost c piece command key work failure answer.Aborted is does part fails = absurd fails
failure_lost c piece command key work failure answer.NoMemory is does part fails = absurd fails

-- what has come of a read changes nothing of what it does
filled_part : (work : Work) (first : ℕ) (sectors : List (List ℕ)) → is_whole (filled work first sectors) ≡ is_whole work
filled_part (Read start buffer) first sectors = refl
filled_part Write first sectors = refl
filled_part (Whole answer) first sectors = refl

filled_does : (command : Command) (key : Option ℕ) (work : Work) (failure : Option Answer) (first : ℕ) (sectors : List (List ℕ))
    → IsWorkOf command key work failure
    → IsWorkOf command key (filled work first sectors) failure
filled_does command key (Read start buffer) failure first sectors does = does
filled_does command key Write failure first sectors does = does
filled_does command key (Whole answer) failure first sectors does = does

-- a piece that begins to wait is no line
abbrev get_disk : List DiskWaits → ℕ → DiskWaits
get_disk disks pv = get_or disks pv none_waits

waits_kept : (disks : List DiskWaits) (pv q number place : ℕ) (a : Awaited) → pv < length disks
    → waiting (is_line q)
    (set disks pv (with_waiting (get_disk disks pv) (record { waiter = waiter.Piece number; place = place }) a))
    ≤ waiting (is_line q) disks
waits_kept disks pv q number place a within =
    let d : DiskWaits = get_disk disks pv in
    let it : Waiting = record { waiter = waiter.Piece number; place = place } in
    let c = (one_disk disks pv (with_waiting d it a) within).counted (is_line q) in
    let same = on a in omega (arith, c, same)
  where
    on : (a : Awaited)
        → waiting_on (is_line q) (with_waiting (get_disk disks pv) (record { waiter = waiter.Piece number; place = place }) a)
        ≡ waiting_on (is_line q) (get_disk disks pv)
    on Stable = refl
    on Lost = refl
    on Served =
        let d : DiskWaits = get_disk disks pv in
        let e = count_push (is_line q) d.served (record { waiter = waiter.Piece number; place = place }) in omega (arith, e)
    on Unserved =
        let d : DiskWaits = get_disk disks pv in
        let e = count_push (is_line q) d.next (record { waiter = waiter.Piece number; place = place }) in omega (arith, e)

-- ---- the acts

-- the core after a piece failed, or read, or wrote, where this is the piece
abbrev failed_core : Core → ℕ → Answer → ℕ → LivePiece → Core
failed_core c number why moment l = record c {
  lines = lines.after_failed c.lines l.line l.piece moment;
  opens = after_finished (after_failure c.opens l.line why) l.line;
  pieces = pieces.after_leave (with_live c.pieces number (record l { ticket = None })) number;
  owed = fewer c.owed (fail_room l.piece (is_some l.ticket));
}

abbrev read_core : Core → ℕ → List (List ℕ) → ℕ → LivePiece → Core
read_core c number sectors moment l = record c {
  lines = lines.after_took c.lines l.line l.piece moment;
  opens = after_finished (after_filled c.opens l.line l.piece.first sectors) l.line;
  pieces = pieces.after_leave c.pieces number;
  owed = fewer c.owed (record { ops = 0; sectors = 0; writes = 0; waits = 0; entries = 1 });
}

-- where the write's place on its disk is this, and nothing waits for it, or the piece does
abbrev wrote_core : Core → ℕ → ℕ → ℕ → LivePiece → Core
wrote_core c number pv moment l = record c {
  lines = lines.after_took c.lines l.line l.piece moment;
  waits = (let wrote = waits.after_wrote c.waits number pv in
      waits.after_noted wrote l.piece.volume pv (marks_of wrote.plan pv).written);
  owed = fewer c.owed (record { ops = 0; sectors = 0; writes = 1; waits = 0; entries = 1 });
}

abbrev gone_core : Core → ℕ → ℕ → ℕ → LivePiece → Core
gone_core c number pv moment l =
    let d = wrote_core c number pv moment l in
    record d {
      opens = after_finished d.opens l.line;
      pieces = pieces.after_leave d.pieces number;
      waits = waits.after_forgot d.waits number pv;
    }

abbrev waiting_core : Core → ℕ → ℕ → ℕ → LivePiece → Core
waiting_core c number pv moment l =
    let d = wrote_core c number pv moment l in
    let place : ℕ = (marks_of d.waits.plan pv).written in
    record d {
      pieces = pieces.with_stage (with_live d.pieces number (record l { ticket = None })) number (Taken 1);
      waits = waits.after_wait d.waits (record { waiter = waiter.Piece number; place = place }) pv;
      owed = fewer d.owed (record { ops = 0; sectors = 0; writes = 0; waits = 1; entries = 0 });
    }

module _ {start : ℕ} {coming : ℕ → ℕ → ℕ} {w : World} {es : List ChronicleEntry} (t : IsTold start coming w es) (o : IsOrderly w)
    (number : ℕ) where
  abbrev c : Core
  c = w.core

  module _ (old : LivePiece) (at : live_at c.pieces.lives number ≡ Some old) (untaken : is_taken old.stage ≡ false) where
    abbrev is_through_line : List (ℕ × LivePiece) → Type 0
    is_through_line lives = All (IsOfThrough c.lines.begun) lives

    gone_through : {lives : List (ℕ × LivePiece)} → Changes number (Some old) None c.pieces.lives lives → is_through_line lives
    gone_through change =
        all_changed (IsOfThrough c.lines.begun) (IsOfThrough c.lines.begun) change t.through (λ q l apart there was. was) tt

    gone_counts : {lives : List (ℕ × LivePiece)} → Changes number (Some old) None c.pieces.lives lives → (q x : ℕ)
        → to_come q x lives + hit ((old.line == q) && in_range old.piece.first old.piece.count x) ≡ to_come q x c.pieces.lives
    gone_counts change q x =
        let s = change.summed (λ (e : ℕ × LivePiece). hit (is_to_come q x e)) in
        omega (arith, s, weighs number q x old untaken)

    abbrev mine : OpenLine
    mine = opened t o number old at untaken

    mine_at : open_at c.opens old.line ≡ Some mine
    mine_at = opened_at t o number old at untaken

    fails_from : (why : Answer) → IsFailure c old.piece why
        → IsTold start coming (world w.shelf (failed_core c number why w.shelf.steps old)) (fails w.shelf.steps old ++ es)
    fails_from why failure =
        let v : World = world w.shelf (failed_core c number why w.shelf.steps old) in
        let mid : LivePiece = record old { ticket = None } in
        let first : Changes number (Some old) (Some mid) c.pieces.lives (with_live c.pieces number mid).lives =
        piece_replaced c.pieces.lives number old mid o.tidy.pieces.single at in
        let change = changes_both first (removed (with_live c.pieces number mid).lives number mid first.single (own_at first)) in
        let k = kind t o number old at untaken in
        let is = told t o number old at untaken in
        let p : OpenLine = record mine { failure = worse c.opens old.line mine mine_at why } in
        let now = is_failed c.opens old.line mine mine_at why in
        let tells = tells_failed w.shelf.steps old.line old.piece in
        let gone = gone_counts change in
        let still : (q : ℕ) → waiting (is_line q) v.core.waits.disks ≤ waiting (is_line q) c.waits.disks = λ q. omega arith in
        let some : is_some p.failure ≡ true = worse_some mine.failure why in
        piece_told t o number old at untaken tells v gone still (record p { left = p.left - 1 })
        (ap (λ (l : List JournalEntry). l ++ record { kind = entry.Failed; line = old.line; piece = old.piece; moment = w.shelf.steps }
        ∷ []) t.journal) refl refl
        (omega arith) refl
        (gone_through change)
        (lines_both now (is_finished (after_failure c.opens old.line why) old.line p now.own))
        (own_told t o number old at untaken tells v gone still (record p { left = p.left - 1 }) refl k.part
        (worse_does is.0.0.command is.0.1 mine.work mine.failure (is_pv_failed mine.failure) why k.part is.2.does
        (failure_lost c old.piece is.0.0.command is.0.1 mine.work mine.failure why k.is_of_data is.2.does
        (part_of t o number old at untaken) failure))
        (λ none. absurd (true≢false (sym some ∙ ap (λ (x : Option Answer). is_some x) none)))
        (λ lost plain. lost_sector t o number old at untaken tells))

    reads_from : (sectors : List (List ℕ))
        → IsTold start coming (world w.shelf (read_core c number sectors w.shelf.steps old)) (takes w.shelf.steps old ++ es)
    reads_from sectors =
        let v : World = world w.shelf (read_core c number sectors w.shelf.steps old) in
        let change = removed c.pieces.lives number old o.tidy.pieces.single at in
        let k = kind t o number old at untaken in
        let is = told t o number old at untaken in
        let p : OpenLine = record mine { work = filled mine.work old.piece.first sectors } in
        let now = is_filled c.opens old.line mine mine_at old.piece.first sectors in
        let tells = tells_took w.shelf.steps old.line old.piece in
        let gone = gone_counts change in
        let still : (q : ℕ) → waiting (is_line q) v.core.waits.disks ≤ waiting (is_line q) c.waits.disks = λ q. omega arith in
        piece_told t o number old at untaken tells v gone still (record p { left = p.left - 1 })
        (ap (λ (l : List JournalEntry). l ++ record { kind = entry.Took; line = old.line; piece = old.piece; moment = w.shelf.steps } ∷ [])
        t.journal) refl refl
        (omega arith) refl
        (gone_through change)
        (lines_both now (is_finished (after_filled c.opens old.line old.piece.first sectors) old.line p now.own))
        (own_told t o number old at untaken tells v gone still (record p { left = p.left - 1 }) refl
        (filled_part mine.work old.piece.first sectors ∙ k.part)
        (filled_does is.0.0.command is.0.1 mine.work mine.failure old.piece.first sectors is.2.does)
        (λ none. (none, refl))
        (λ lost plain. lost_still t o number old at untaken tells v gone still (is.2.lost lost k.part plain)))

    -- it leaves at once
    wrote_from : (pv : ℕ)
        → IsTold start coming (world w.shelf (gone_core c number pv w.shelf.steps old)) (takes w.shelf.steps old ++ es)
    wrote_from pv =
        let v : World = world w.shelf (gone_core c number pv w.shelf.steps old) in
        let change = removed c.pieces.lives number old o.tidy.pieces.single at in
        let k = kind t o number old at untaken in
        let is = told t o number old at untaken in
        let tells = tells_took w.shelf.steps old.line old.piece in
        let gone = gone_counts change in
        let still : (q : ℕ) → waiting (is_line q) v.core.waits.disks ≤ waiting (is_line q) c.waits.disks = λ q. omega arith in
        piece_told t o number old at untaken tells v gone still (record mine { left = mine.left - 1 })
        (ap (λ (l : List JournalEntry). l ++ record { kind = entry.Took; line = old.line; piece = old.piece; moment = w.shelf.steps } ∷ [])
        t.journal) refl refl (omega arith) refl
        (gone_through change)
        (is_finished c.opens old.line mine mine_at)
        (own_told t o number old at untaken tells v gone still (record mine { left = mine.left - 1 }) refl k.part is.2.does
        (λ none. (none, refl))
        (λ lost plain. lost_still t o number old at untaken tells v gone still (is.2.lost lost k.part plain)))

    -- or waits for its flush
    waits_from : (pv : ℕ) → pv < length w.shelf.sizes → is_some old.ticket ≡ true
        → IsTold start coming (world w.shelf (waiting_core c number pv w.shelf.steps old)) (takes w.shelf.steps old ++ es)
    waits_from pv disk has =
        let v : World = world w.shelf (waiting_core c number pv w.shelf.steps old) in
        let mid : LivePiece = record old { ticket = None } in
        let new : LivePiece = record mid { stage = Taken 1 } in
        let first : Changes number (Some old) (Some mid) c.pieces.lives (with_live c.pieces number mid).lives =
        piece_replaced c.pieces.lives number old mid o.tidy.pieces.single at in
        let then : Changes number (Some mid) (Some new) (with_live c.pieces number mid).lives v.core.pieces.lives =
        subst (λ (x : LivePiece). Changes number (Some mid) (Some new) (with_live c.pieces number mid).lives
        (with_live (with_live c.pieces number mid) number (record x { stage = Taken 1 })).lives)
        (sym (ap (λ (x : Option LivePiece). unwrap_or x no_live) (own_at first)))
        (piece_replaced (with_live c.pieces number mid).lives number mid new first.single (own_at first)) in
        let change = changes_both first then in
        let k = kind t o number old at untaken in
        let is = told t o number old at untaken in
        let tells = tells_took w.shelf.steps old.line old.piece in
        let gone : (q x : ℕ) → to_come q x v.core.pieces.lives + hit ((old.line == q) && in_range old.piece.first old.piece.count x)
        ≡ to_come q x c.pieces.lives =
        λ q x. let s = change.summed (λ (e : ℕ × LivePiece). hit (is_to_come q x e)) in
        omega (arith, s, weighs number q x old untaken, weighs_none number q x new refl) in
        let within : pv < length c.waits.disks = omega (arith, disk, o.backed.places.many) in
        let still : (q : ℕ) → waiting (is_line q) v.core.waits.disks ≤ waiting (is_line q) c.waits.disks =
        λ q. waits_kept c.waits.disks pv q number _ _ within in
        let through : is_through_line v.core.pieces.lives =
        all_changed (IsOfThrough c.lines.begun) (IsOfThrough c.lines.begun) change t.through (λ q l apart there was. was)
        (λ waits. at_number (IsOfThrough c.lines.begun) c.pieces.lives number old t.through at
        (ap (λ (b : Bool). b || is_taken old.stage) has)) in
        piece_told t o number old at untaken tells v gone still mine
        (ap (λ (l : List JournalEntry). l ++ record { kind = entry.Took; line = old.line; piece = old.piece; moment = w.shelf.steps } ∷ [])
        t.journal) refl refl (omega arith) refl through
        (is_same c.opens old.line mine mine_at)
        (own_told t o number old at untaken tells v gone still mine refl k.part is.2.does
        (λ none. (none, refl))
        (λ lost plain. lost_still t o number old at untaken tells v gone still (is.2.lost lost k.part plain)))

  pub fail_told : (why : Answer) → Allowed w (Fails number why)
      → IsTold start coming (after w (Fails number why)) (entries_of w (Fails number why) ++ es)
  fail_told why allowed =
      let p = started_at c.pieces.lives number allowed.0 in
      let old : LivePiece = record { line = p.2.line; piece = p.2.piece; stage = Started p.0 p.1; ticket = p.2.ticket } in
      let is : live_of c.pieces number ≡ old = ap (λ (x : Option LivePiece). unwrap_or x no_live) p.2.at in
      subst (λ (l : LivePiece). IsTold start coming (world w.shelf (failed_core c number why w.shelf.steps l))
      (fails w.shelf.steps l ++ es))
      (sym is)
      (fails_from old p.2.at refl why (subst (λ (l : LivePiece). IsFailure c l.piece why) is allowed.2))

  pub read_told : (sectors : List (List ℕ)) → Allowed w (Reads number sectors)
      → IsTold start coming (after w (Reads number sectors)) (entries_of w (Reads number sectors) ++ es)
  read_told sectors allowed =
      let p = started_at c.pieces.lives number allowed.0 in
      let old : LivePiece = record { line = p.2.line; piece = p.2.piece; stage = Started p.0 p.1; ticket = p.2.ticket } in
      let is : live_of c.pieces number ≡ old = ap (λ (x : Option LivePiece). unwrap_or x no_live) p.2.at in
      subst (λ (l : LivePiece). IsTold start coming (world w.shelf (read_core c number sectors w.shelf.steps l))
      (takes w.shelf.steps l ++ es))
      (sym is)
      (reads_from old p.2.at refl sectors)

  pub write_told : (pv : ℕ) → Allowed w (Writes number pv)
      → IsTold start coming (after w (Writes number pv)) (entries_of w (Writes number pv) ++ es)
  write_told pv allowed =
      let p = started_at c.pieces.lives number allowed.0 in
      let old : LivePiece = record { line = p.2.line; piece = p.2.piece; stage = Started p.0 p.1; ticket = p.2.ticket } in
      let is : live_of c.pieces number ≡ old = ap (λ (x : Option LivePiece). unwrap_or x no_live) p.2.at in
      subst (λ (l : LivePiece). IsTold start coming
      (world w.shelf (cond (is_some l.ticket) (waiting_core c number pv w.shelf.steps l) (gone_core c number pv w.shelf.steps l)))
      (takes w.shelf.steps l ++ es)) (sym is)
      (elim (is_some old.ticket) as (λ b. is_some old.ticket ≡ b → IsTold start coming
      (world w.shelf (cond b (waiting_core c number pv w.shelf.steps old) (gone_core c number pv w.shelf.steps old)))
      (takes w.shelf.steps old ++ es)) [
        | true ↦ λ has. waits_from old p.2.at refl pv allowed.2 has
        | false ↦ λ none. wrote_from old p.2.at refl pv
      ] refl)
