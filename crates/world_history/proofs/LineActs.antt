-- A piece of a line enters, a line waits for a flush or fails, what a flush served waits no more, and a line waits for all others.
use Rattle.std.proofs.Common.{◌≡◌, ◌≤◌, ◌<◌, ◌⊎◌, All, ℕ, ◌+◌, ◌-◌, Bool, true, false, cond, ◌&&◌, ◌||◌, ◌==◌, IfSome, List, [], ◌∷◌}
use Rattle.std.proofs.Common.{◌++◌, Option, None, Some, inl, inr, get_or, is_some, length, option_map, set, slice_get, unwrap_or, refl, sym}
use Rattle.std.proofs.Common.{ap, subst, ◌∙◌, arith, true≢false}
use Rattle.std.specs.Option.{option_map_or}
use Rattle.std.proofs.lemmas.Bool.{eq-eqb}
use Rattle.std.proofs.lemmas.List.Elements.{All-append, All-cons, All-nil}
use Rattle.std.proofs.lemmas.List.Sums.{sum_by_push}
use Rattle.std.proofs.lemmas.Option.{none-some, same_Some}
use Rattle.sector_base.specs.declared.places.Piece.{Piece}
use Rattle.command_table.specs.declared.command.Command.{Command}
use Rattle.line_answers.specs.declared.answer.Answer.{Answer}
use Rattle.line_answers.specs.declared.answer.Answer.TheVariants as answer
use Rattle.line_answers.specs.declared.op_refusal.OpRefusal.{OpRefusal}
use Rattle.lvm_script.specs.declared.line.Line.{Line}
use Rattle.data_lines.specs.DataLines.{in_range, is_data, is_flush, is_through}
use Rattle.claim_table.specs.declared.claim.Entry.{Entry}
use Rattle.flush_waits.specs.declared.ticket.Waiter.{Waiter}
use Rattle.flush_waits.specs.declared.ticket.Waiter.TheVariants as waiter
use Rattle.flush_waits.specs.declared.ticket.Waiting.{Waiting}
use Rattle.flush_waits.specs.declared.waits.Awaited.{Awaited}
use Rattle.flush_waits.specs.declared.waits.Awaited.TheVariants.{Lost, Served, Stable, Unserved}
use Rattle.flush_waits.specs.Steps.{with_waiting}
use Rattle.flush_waits.specs.Waits.{DiskWaits, disk_waits, none_waits}
use Rattle.piece_table.specs.declared.live.LivePiece.{LivePiece}
use Rattle.piece_table.specs.declared.live.Stage.TheVariants.{Taken, Waiting as Unsubmitted}
use Rattle.piece_table.specs.Steps.{live_of, no_live}
use Rattle.volume_history.specs.Chronicles.{ChronicleEntry, begun_in}
use Rattle.world_acts.specs.declared.open_line.OpenLine.{OpenLine}
use Rattle.world_acts.specs.declared.open_line.Work.{Work}
use Rattle.world_acts.specs.declared.open_line.Work.TheVariants.{Read, Whole, Write}
use Rattle.world_acts.specs.declared.state.Core.{Core}
use Rattle.world_acts.specs.Acts.{Allowed, Awaits, Enters, Holds, IsPartOf, LineFails, MayLineFail, Releases, TellsDisk, World, after}
use Rattle.world_acts.specs.Acts.{core_released, line_of_waiter, released_at, world}
use Rattle.world_acts.specs.Counts.{is_line, is_piece, waiting}
use Rattle.world_acts.specs.OpenLines.{after_finished, is_pv_failed, is_whole, open_at}
use Rattle.world_acts.specs.Orderly.{IsLive, IsOrderly}
use Rattle.world_acts.specs.Steps.{after_released}
use Rattle.world_acts.proofs.LinesKept.{hit, open_is}
use Rattle.world_acts.proofs.PiecesKept.{PieceAt, awaiting_taken}
use Rattle.world_acts.proofs.Releasing.{FirstGone, first_gone, open_by_left}
use Rattle.world_acts.proofs.Tables.{all_changed, at_number, removed, some_of}
use Rattle.world_acts.proofs.WaitsKept.{count_push, one_disk, waiting_on}
use Rattle.world_history.specs.Told.{IsLoss, IsOfThrough, IsOnly, IsStill, IsTold, IsWorkOf, LineTold, is_to_come, to_come}
use Rattle.world_history.proofs.EntryLists.{begun_at}
use Rattle.world_history.proofs.OneLine.{LineIs, Standing, elsewhere, here, is_added, is_failed, is_finished, standing}
use Rattle.world_history.proofs.PieceActs.{disk_lost, worse_loss, worse_some}
use Rattle.world_history.proofs.PieceSettles.{data_line, no_flush, read_line, weighs, weighs_none, write_line}
use Rattle.world_history.proofs.Quiet.{line_still, quiet_told, waits_back, were_open}

module _ {start : ℕ} {coming : ℕ → ℕ → ℕ} {w : World} {es : List ChronicleEntry} (t : IsTold start coming w es) where
  abbrev c : Core
  c = w.core

  -- the line that was begun is the one that is told
  pub line_begun : (n : ℕ) (l : Line × Option ℕ) → begun_in es n ≡ Some l → slice_get c.lines.begun n ≡ Some l.0
  line_begun n l is =
      ap (λ (ls : List Line). slice_get ls n) (sym t.begun) ∙ sym (begun_at start es n t.ordered)
      ∙ ap (λ (x : Option (Line × Option ℕ)). option_map (λ y. y.0) x) is

  -- ---- a piece enters

  pub enter_told : (before : ℕ → ℕ → ℕ) (line : ℕ) (piece : Piece) (sectors : List (List ℕ)) (ticket : Option (Unit {0})) (entry : Entry)
      → ((q x : ℕ) → coming q x ≡ before q x + hit ((line == q) && in_range piece.first piece.count x))
      → Allowed w (Enters line piece sectors ticket entry)
      → IsTold start before (after w (Enters line piece sectors ticket entry)) es
  enter_told before line piece sectors ticket entry more allowed =
      let m = allowed.0 in
      let new : LivePiece = record { line = line; piece = piece; stage = Unsubmitted sectors; ticket = ticket } in
      let e : ℕ × LivePiece = (c.pieces.next, new) in
      let v : World = after w (Enters line piece sectors ticket entry) in
      let now = is_added c.opens line m.opened m.is_open in
      let counts : (q x : ℕ) → to_come q x v.core.pieces.lives + before q x ≡ to_come q x c.pieces.lives + coming q x =
      λ q x. let s : to_come q x (c.pieces.lives ++ e ∷ []) ≡ to_come q x c.pieces.lives + hit (is_to_come q x e) =
      sum_by_push (λ y. hit (is_to_come q x y)) c.pieces.lives e in
      omega (arith, s, weighs c.pieces.next q x new refl, more q x) in
      quiet_told t before v refl refl refl (omega arith)
      (λ n o at. line_of before v counts n o (standing now n o at))
      (All-append (IsOfThrough c.lines.begun) c.pieces.lives (e ∷ []) t.through
      (All-cons (IsOfThrough c.lines.begun) e [] (λ waits. sym m.waits ∙ or_false (is_some ticket) waits)
      (All-nil (IsOfThrough c.lines.begun))))
      (waits_back t v refl refl (were_open m.opened m.is_open now))
    where
      or_false : (b : Bool) → (b || false) ≡ true → b ≡ true
      or_false true is = refl
      or_false false is = is

      line_of : (before : ℕ → ℕ → ℕ) (v : World)
          → ((q x : ℕ) → to_come q x v.core.pieces.lives + before q x ≡ to_come q x c.pieces.lives + coming q x)
          → (n : ℕ) (o : OpenLine)
          → Standing line n (Some (record allowed.0.opened { left = allowed.0.opened.left + 1 })) c.opens o
          → LineTold (before n) v.core.pieces.lives c.waits.disks es n o
      line_of before v counts n o (here same is) =
          subst (λ (x : OpenLine). LineTold (before n) v.core.pieces.lives c.waits.disks es n x) (same_Some _ o is)
          (line_still allowed.0.opened (counts n) (omega arith)
          (t.lines n allowed.0.opened (subst (λ (k : ℕ). open_at c.opens k ≡ Some allowed.0.opened) same allowed.0.is_open)))
      line_of before v counts n o (elsewhere apart at) = line_still o (counts n) (omega arith) (t.lines n o at)

  -- ---- a line waits for a flush

  -- whether it is this line that waits more
  waits_more : (disks : List DiskWaits) (pv q line place : ℕ) (a : Awaited) → pv < length disks
      → waiting (is_line q) (set disks pv (with_waiting (get_or disks pv none_waits) (record { waiter = waiter.Line line; place = place })
      a))
      ≤ waiting (is_line q) disks + hit (line == q)
  waits_more disks pv q line place a within =
      let d : DiskWaits = get_or disks pv none_waits in
      let it : Waiting = record { waiter = waiter.Line line; place = place } in
      let one = (one_disk disks pv (with_waiting d it a) within).counted (is_line q) in
      let most = on a in omega (arith, one, most)
    where
      on : (a : Awaited)
          → waiting_on (is_line q) (with_waiting (get_or disks pv none_waits) (record { waiter = waiter.Line line; place = place }) a)
          ≤ waiting_on (is_line q) (get_or disks pv none_waits) + hit (line == q)
      on Stable = omega arith
      on Lost = omega arith
      on Served =
          let d : DiskWaits = get_or disks pv none_waits in
          let e = count_push (is_line q) d.served (record { waiter = waiter.Line line; place = place }) in omega (arith, e)
      on Unserved =
          let d : DiskWaits = get_or disks pv none_waits in
          let e = count_push (is_line q) d.next (record { waiter = waiter.Line line; place = place }) in omega (arith, e)

  -- a line that flushes and isn't refused may wait
  not_still : (command : Command) (failure : Option Answer) → is_flush command ≡ true → IfSome failure TellsDisk
      → IsStill command failure
      → ⊥
  not_still command failure flushes well (inl plain) = true≢false (sym flushes ∙ plain)
  not_still command failure flushes well (inr refused) =
      told_refused refused.0 (subst (λ (x : Option Answer). IfSome x TellsDisk) refused.1 well)
    where
      told_refused : (why : OpRefusal) → TellsDisk (answer.Refused why) → ⊥
      told_refused why tells = cc_of tells.1
        where
          cc_of : {pv : ℕ} → answer.Refused why ≡ answer.PvFailed pv → ⊥
          cc_of is = cc

  pub await_told : (o : IsOrderly w) (line pv : ℕ) → Allowed w (Awaits line pv) → IsTold start coming (after w (Awaits line pv)) es
  await_told o line pv m =
      let v : World = after w (Awaits line pv) in
      let now = is_added c.opens line m.opened m.is_open in
      let within : pv < length c.waits.disks = let disk = m.disk in omega (arith, disk, o.backed.places.many) in
      let more : (q : ℕ) → waiting (is_line q) v.core.waits.disks ≤ waiting (is_line q) c.waits.disks + hit (line == q) =
      λ q. waits_more c.waits.disks pv q line _ _ within in
      quiet_told t coming v refl refl refl (omega arith)
      (λ n x at. line_of v more n x (standing now n x at)) t.through
      (waits_back t v refl refl (were_open m.opened m.is_open now))
    where
      own : (v : World) → LineTold (coming line) c.pieces.lives v.core.waits.disks es line m.opened
      own v =
          let l = t.lines line m.opened m.is_open in
          let flushes : is_flush l.0.0.command ≡ true =
          sym (ap (λ (x : Option Line). option_map_or (λ y. is_flush y.command) x false) (line_begun line l.0 l.1)) ∙ m.flushes in (
            l.0,
            l.1,
            record {
              keyed = l.2.keyed;
              does = l.2.does;
              some = l.2.some;
              once = l.2.once;
              took = l.2.took;
              lost = l.2.lost;
              none = l.2.none;
              still = λ still. absurd (not_still l.0.0.command m.opened.failure flushes m.well still);
            },
          )

      line_of : (v : World)
          → ((q : ℕ) → waiting (is_line q) v.core.waits.disks ≤ waiting (is_line q) c.waits.disks + hit (line == q))
          → (n : ℕ) (x : OpenLine)
          → Standing line n (Some (record m.opened { left = m.opened.left + 1 })) c.opens x
          → LineTold (coming n) c.pieces.lives v.core.waits.disks es n x
      line_of v more n x (here same is) =
          subst (λ (y : OpenLine). LineTold (coming n) c.pieces.lives v.core.waits.disks es n y) (same_Some _ x is)
          (subst (λ (k : ℕ). LineTold (coming k) c.pieces.lives v.core.waits.disks es k m.opened) same (own v))
      line_of v more n x (elsewhere apart at) =
          let most = more n in
          let none : hit (line == n) ≡ 0 = ap hit apart in
          line_still x (λ y. refl) (omega (arith, most, none)) (t.lines n x at)

  -- ---- a line waits for all others

  pub hold_told : (line : ℕ) → Allowed w (Holds line) → IsTold start coming (after w (Holds line)) es
  hold_told line allowed =
      quiet_told t coming (after w (Holds line)) refl refl refl (omega arith) t.lines t.through
      (λ n x l at is wait. by n (t.waits n x l at is wait))
    where
      by : (n : ℕ) → (c.barrier ≡ Some n) ⊎ IsOnly w n → (Some line ≡ Some n) ⊎ IsOnly (after w (Holds line)) n
      by n (inl holds) = absurd (none-some n (sym allowed.0 ∙ holds))
      by n (inr only) = inr only

  -- ---- what a flush served

  -- the first that it served: a line, or a piece that took place
  pub record IsServed (pv : ℕ) (it : Waiting) : Type 0 where
    pub gone : FirstGone c.waits pv it
    pub first : released_at c pv ≡ Some it

  pub served_first : (pv : ℕ) → is_some (released_at c pv) ≡ true → (it : Waiting) × IsServed pv it
  served_first pv some = by (disk_waits c.waits pv).served refl
    where
      by : (l : List Waiting) → (disk_waits c.waits pv).served ≡ l → (it : Waiting) × IsServed pv it
      by [] served = absurd (true≢false (sym some ∙ ap (λ (l : List Waiting). is_some (slice_get l 0)) served))
      by (it ∷ rest) served = (
        it,
        record { gone = first_gone c.waits pv it rest served; first = ap (λ (l : List Waiting). slice_get l 0) served },
      )

  -- a line that waits is none that never does
  pub waiting_line : (pv line : ℕ) (it : Waiting) → IsServed pv it → it.waiter ≡ waiter.Line line → 0 < waiting (is_line line) c.waits.disks
  waiting_line pv line it served who =
      let s = served.gone.counted (is_line line) in
      let one : hit (is_line line it) ≡ 1 =
      ap (λ (x : Waiter). hit (is_line line (record it { waiter = x }))) who ∙ ap hit (eq-eqb line line refl) in
      omega (arith, s, one)

  pub taken_piece : (o : IsOrderly w) (pv number : ℕ) (it : Waiting) → IsServed pv it → it.waiter ≡ waiter.Piece number
      → (awaited : ℕ) × PieceAt c.pieces.lives number (Taken awaited)
  taken_piece o pv number it served who =
      let s = served.gone.counted (is_piece number) in
      let one : hit (is_piece number it) ≡ 1 =
      ap (λ (x : Waiter). hit (is_piece number (record it { waiter = x }))) who ∙ ap hit (eq-eqb number number refl) in
      awaiting_taken c.pieces.lives number (omega (arith, s, one, o.tidy.counts.awaited number))

  -- ---- a line fails as a whole

  -- a line that may fail so is through, where it reads or writes, else it flushes a volume; and it isn't refused
  record MayLose (command : Command) (failure : Option Answer) : Type 0 where
    through : is_data command ≡ true → is_through command ≡ true
    flushes : is_data command ≡ false → is_flush command ≡ true
    unrefused : (why : OpRefusal) → failure ≡ Some (answer.Refused why) → ⊥

  flush_loses : (command : Command) (failure : Option Answer) → is_flush command ≡ true → (IsStill command failure → ⊥)
      → MayLose command failure
  flush_loses command failure flushes waits = record {
    through = λ is. absurd (true≢false (sym flushes ∙ no_flush command is));
    flushes = λ other. flushes;
    unrefused = λ why is. waits (inr (why, is));
  }

  -- a line that never waits for a flush is none that does
  waits_flushes : (command : Command) (failure : Option Answer) → (IsStill command failure → ⊥) → is_flush command ≡ true
  waits_flushes command failure waits = by (is_flush command) refl
    where
      by : (b : Bool) → is_flush command ≡ b → b ≡ true
      by true e = refl
      by false e = absurd (waits (inl e))

  loss_unrefused : (command : Command) (failure : Option Answer) → IfSome failure (IsLoss command) → (why : OpRefusal)
      → failure ≡ Some (answer.Refused why)
      → ⊥
  loss_unrefused command failure loss why is =
      true≢false (subst (λ (x : Option Answer). IfSome x (IsLoss command)) is loss).unrefused

  may_lose : (o : IsOrderly w) (n : ℕ) (x : OpenLine) (at : open_at c.opens n ≡ Some x)
      (l : LineTold (coming n) c.pieces.lives c.waits.disks es n x)
      → (pv : ℕ)
      → MayLineFail c n pv
      → MayLose l.0.0.command x.failure
  may_lose o n x at l pv (inl may) =
      let flushes : is_flush l.0.0.command ≡ true =
      sym (ap (λ (y : Option Line). option_map_or (λ z. is_flush z.command) y false) (line_begun n l.0 l.1)) ∙ may.flushes in
      let well : IfSome x.failure TellsDisk = subst (λ (y : OpenLine). IfSome y.failure TellsDisk) (open_is c.opens n x at) may.well in
      flush_loses l.0.0.command x.failure flushes (not_still l.0.0.command x.failure flushes well)
  may_lose o n x at l pv (inr may) = by (served_first pv (some_released (released_at c pv) may.first))
    where
      some_released : (r : Option Waiting) → option_map (λ (it : Waiting). line_of_waiter c it.waiter) r ≡ Some n → is_some r ≡ true
      some_released None is = absurd (none-some n is)
      some_released (Some it) is = refl

      of : (it : Waiting) → IsServed pv it → (who : Waiter) → it.waiter ≡ who → line_of_waiter c who ≡ n
          → MayLose l.0.0.command x.failure
      of it served (waiter.Line k) who same =
          let some = waiting_line pv n it served (who ∙ ap waiter.Line same) in
          let waits : IsStill l.0.0.command x.failure → ⊥ = λ still. (let none = l.2.still still in omega (arith, some, none)) in
          flush_loses l.0.0.command x.failure (waits_flushes l.0.0.command x.failure waits) waits
      of it served (waiter.Piece number) who same = taken (taken_piece o pv number it served who)
        where
          taken : (awaited : ℕ) × PieceAt c.pieces.lives number (Taken awaited) → MayLose l.0.0.command x.failure
          taken p =
              let old : LivePiece = record { line = p.1.line; piece = p.1.piece; stage = Taken p.0; ticket = p.1.ticket } in
              let own : p.1.line ≡ n = sym (ap (λ (y : Option LivePiece). (unwrap_or y no_live).line) p.1.at) ∙ same in
              let live = at_number (IsLive c.lines.begun c.opens c.pieces.next) c.pieces.lives number old o.tidy.pieces.each p.1.at in
              let opened : live.of_line.opened ≡ x =
              same_Some live.of_line.opened x (sym live.of_line.is_open ∙ ap (open_at c.opens) own ∙ at) in
              let part : IsPartOf x.work p.1.piece = subst (λ (y : OpenLine). IsPartOf y.work p.1.piece) opened live.of_line.part in
              let k = data_line l.0.0.command l.0.1 x.work x.failure p.1.piece l.2.does part in
              let through : is_through l.0.0.command ≡ true =
              sym (ap (λ (y : Option Line). option_map_or (λ z. is_through z.command) y false) (line_begun n l.0 l.1))
              ∙ ap (λ (y : ℕ). option_map_or (λ (z : Line). is_through z.command) (slice_get c.lines.begun y) false) (sym own)
              ∙ at_number (IsOfThrough c.lines.begun) c.pieces.lives number old t.through p.1.at (or_true (is_some p.1.ticket)) in
              record {
                through = λ is. through;
                flushes = λ other. absurd (true≢false (sym k.is_of_data ∙ other));
                unrefused = loss_unrefused l.0.0.command x.failure (loss_of x.work x.failure p.1.piece l.2.does part);
              }
            where
              or_true : (b : Bool) → (b || true) ≡ true
              or_true true = refl
              or_true false = refl

              loss_of : (work : Work) (failure : Option Answer) (piece : Piece) → IsWorkOf l.0.0.command l.0.1 work failure
                  → IsPartOf work piece
                  → IfSome failure (IsLoss l.0.0.command)
              loss_of (Read start buffer) failure piece does part = does.2
              loss_of Write failure piece does part = does.2
              loss_of (Whole a) failure piece does part = absurd part

      by : (it : Waiting) × IsServed pv it → MayLose l.0.0.command x.failure
      by s =
          of s.0 s.1 s.0.waiter refl
          (same_Some (line_of_waiter c s.0.waiter) n
          (sym (ap (λ (y : Option Waiting). option_map (λ (it : Waiting). line_of_waiter c it.waiter) y) s.1.first) ∙ may.first))

  -- it still does what it did
  lost_does : (command : Command) (key : Option ℕ) (work : Work) (failure : Option Answer) (b : Bool) (pv : ℕ) → MayLose command failure
      → IsWorkOf command key work failure
      → IsWorkOf command key work (cond b failure (Some (answer.PvFailed pv)))
  lost_does command key (Read start buffer) failure b pv m does =
      (does.0, does.1, worse_loss command failure b (answer.PvFailed pv) does.2 (disk_lost command pv (read_line command does.0).0))
  lost_does command key Write failure b pv m does =
      (does.0, does.1, worse_loss command failure b (answer.PvFailed pv) does.2 (disk_lost command pv (write_line command does.0)))
  lost_does command key (Whole a) failure b pv m (inl refused) = absurd (m.unrefused refused.why refused.is)
  lost_does command key (Whole a) failure b pv m (inr whole) = inr (record {
    other = whole.other;
    kept = whole.kept;
    says = whole.says;
    good = whole.good;
    stands = whole.stands;
    none = whole.none;
    lost = lost b;
  })
    where
      lost : (b : Bool) → IfSome (cond b failure (Some (answer.PvFailed pv))) (λ why. (is_flush command ≡ true) × IsLoss command why)
      lost true = whole.lost
      lost false =
          let flushes : is_flush command ≡ true = m.flushes whole.other in
          (flushes, record { says = rw (whole.other, flushes) refl; bad = refl; unrefused = refl })

  reads_or_writes : (command : Command) (key : Option ℕ) (work : Work) (failure : Option Answer) → is_whole work ≡ false
      → IsWorkOf command key work failure
      → is_data command ≡ true
  reads_or_writes command key (Read start buffer) failure part does = (read_line command does.0).0
  reads_or_writes command key Write failure part does = write_line command does.0
  reads_or_writes command key (Whole a) failure part does = absurd (true≢false part)

  lost_told : (n : ℕ) (x : OpenLine) (pv : ℕ) (l : LineTold (coming n) c.pieces.lives c.waits.disks es n x)
      → MayLose l.0.0.command x.failure
      → LineTold (coming n) c.pieces.lives c.waits.disks es n
      (record x { failure = cond (is_pv_failed x.failure) x.failure (Some (answer.PvFailed pv)) })
  lost_told n x pv l m = (
    l.0,
    l.1,
    record {
      keyed = l.2.keyed;
      does = lost_does l.0.0.command l.0.1 x.work x.failure (is_pv_failed x.failure) pv m l.2.does;
      some = l.2.some;
      once = l.2.once;
      took =
          λ none. absurd (true≢false (sym (worse_some x.failure (answer.PvFailed pv)) ∙ ap (λ (y : Option Answer). is_some y) none));
      lost = λ some part plain.
          absurd (true≢false (sym (m.through (reads_or_writes l.0.0.command l.0.1 x.work x.failure part l.2.does)) ∙ plain));
      none = l.2.none;
      still = still;
    },
  )
    where
      unlike : (b : Bool) (why : OpRefusal) → cond b x.failure (Some (answer.PvFailed pv)) ≡ Some (answer.Refused why) → ⊥
      unlike true why is = m.unrefused why is
      unlike false why is = cc

      still : IsStill l.0.0.command (cond (is_pv_failed x.failure) x.failure (Some (answer.PvFailed pv)))
          → waiting (is_line n) c.waits.disks ≡ 0
      still (inl plain) = l.2.still (inl plain)
      still (inr refused) = absurd (unlike (is_pv_failed x.failure) refused.0 refused.1)

  pub line_fail_told : (o : IsOrderly w) (line : ℕ) (why : Answer) → Allowed w (LineFails line why)
      → IsTold start coming (after w (LineFails line why)) es
  line_fail_told o line why allowed =
      let found : (x : OpenLine) × (open_at c.opens line ≡ Some x) = some_of (open_at c.opens line) allowed.0 in
      subst (λ (a : Answer). IsTold start coming (after w (LineFails line a)) es) (sym allowed.1.is)
      (fails found.0 found.1 allowed.1.pv)
    where
      line_of : (x : OpenLine) → open_at c.opens line ≡ Some x → (pv n : ℕ) (y : OpenLine)
          → Standing line n (Some (record x { failure = cond (is_pv_failed x.failure) x.failure (Some (answer.PvFailed pv)) })) c.opens y
          → LineTold (coming n) c.pieces.lives c.waits.disks es n y
      line_of x at pv n y (here same is) =
          subst (λ (z : OpenLine). LineTold (coming n) c.pieces.lives c.waits.disks es n z) (same_Some _ y is)
          (subst (λ (k : ℕ). LineTold (coming k) c.pieces.lives c.waits.disks es k
          (record x { failure = cond (is_pv_failed x.failure) x.failure (Some (answer.PvFailed pv)) })) same
          (lost_told line x pv (t.lines line x at) (may_lose o line x at (t.lines line x at) allowed.1.pv allowed.1.may)))
      line_of x at pv n y (elsewhere apart is) = t.lines n y is

      fails : (x : OpenLine) → open_at c.opens line ≡ Some x → (pv : ℕ)
          → IsTold start coming (after w (LineFails line (answer.PvFailed pv))) es
      fails x at pv =
          let now = is_failed c.opens line x at (answer.PvFailed pv) in
          quiet_told t coming (after w (LineFails line (answer.PvFailed pv))) refl refl refl (omega arith)
          (λ n y is. line_of x at pv n y (standing now n y is)) t.through
          (waits_back t (after w (LineFails line (answer.PvFailed pv))) refl refl (were_open x at now))

  -- ---- it waits no more

  -- the line has less left, and nothing of it is to come that wasn't
  less_told : (d : Core) (line : ℕ) (x : OpenLine) → open_at c.opens line ≡ Some x → d.lines ≡ c.lines → d.barrier ≡ c.barrier
      → d.opens ≡ after_finished c.opens line
      → ((q : ℕ) → waiting (is_line q) d.waits.disks ≤ waiting (is_line q) c.waits.disks)
      → ((q x : ℕ) → to_come q x d.pieces.lives ≡ to_come q x c.pieces.lives)
      → All (IsOfThrough c.lines.begun) d.pieces.lives
      → IsTold start coming (world w.shelf d) es
  less_told d line x at lines barrier opens fewer counts through =
      let now : LineIs line (Some (record x { left = x.left - 1 })) c.opens d.opens =
      subst (λ y. LineIs line (Some (record x { left = x.left - 1 })) c.opens y) (sym opens) (is_finished c.opens line x at) in
      quiet_told t coming (world w.shelf d) (ap (λ y. y.journal) lines) (ap (λ y. y.begun) lines) (ap (λ y. y.answers) lines) (omega arith)
      (λ n y is. line_of n y (standing now n y is))
      (subst (λ (b : List Line). All (IsOfThrough b) d.pieces.lives) (ap (λ y. y.begun) (sym lines)) through)
      (waits_back t (world w.shelf d) (ap (λ y. y.begun) lines) barrier (were_open x at now))
    where
      line_of : (n : ℕ) (y : OpenLine) → Standing line n (Some (record x { left = x.left - 1 })) c.opens y
          → LineTold (coming n) d.pieces.lives d.waits.disks es n y
      line_of n y (here same is) =
          subst (λ (z : OpenLine). LineTold (coming n) d.pieces.lives d.waits.disks es n z) (same_Some _ y is)
          (line_still x (λ k. ap (λ m. m + coming n k) (counts n k)) (fewer n)
          (t.lines n x (subst (λ (k : ℕ). open_at c.opens k ≡ Some x) same at)))
      line_of n y (elsewhere apart is) = line_still y (λ k. ap (λ m. m + coming n k) (counts n k)) (fewer n) (t.lines n y is)

  pub release_told : (o : IsOrderly w) (pv : ℕ) → Allowed w (Releases pv) → IsTold start coming (after w (Releases pv)) es
  release_told o pv allowed = by (served_first pv allowed.1)
    where
      of : (it : Waiting) → IsServed pv it → (who : Waiter) → it.waiter ≡ who
          → IsTold start coming (world w.shelf (after_released c who pv)) es
      of it served (waiter.Line line) who =
          let some = waiting_line pv line it served who in
          let left = o.tidy.counts.left line in
          let found = open_by_left c.opens line (omega (arith, some, left)) in
          less_told (after_released c (waiter.Line line) pv) line found.0 found.1 refl refl refl
          (λ q. let s = served.gone.counted (is_line q) in omega (arith, s)) (λ q x. refl) t.through
      of it served (waiter.Piece number) who = taken (taken_piece o pv number it served who)
        where
          taken : (awaited : ℕ) × PieceAt c.pieces.lives number (Taken awaited)
              → IsTold start coming (world w.shelf (after_released c (waiter.Piece number) pv)) es
          taken p =
              let old : LivePiece = record { line = p.1.line; piece = p.1.piece; stage = Taken p.0; ticket = p.1.ticket } in
              let is : live_of c.pieces number ≡ old = ap (λ (y : Option LivePiece). unwrap_or y no_live) p.1.at in
              let live = at_number (IsLive c.lines.begun c.opens c.pieces.next) c.pieces.lives number old o.tidy.pieces.each p.1.at in
              let change = removed c.pieces.lives number old o.tidy.pieces.single p.1.at in
              less_told (after_released c (waiter.Piece number) pv) p.1.line live.of_line.opened live.of_line.is_open refl refl
              (ap (λ (l : LivePiece). after_finished c.opens l.line) is)
              (λ q. let s = served.gone.counted (is_line q) in omega (arith, s))
              (λ q x. let s = change.summed (λ (e : ℕ × LivePiece). hit (is_to_come q x e)) in
              omega (arith, s, weighs_none number q x old refl))
              (all_changed (IsOfThrough c.lines.begun) (IsOfThrough c.lines.begun) change t.through (λ q l apart there was. was) tt)

      by : (it : Waiting) × IsServed pv it → IsTold start coming (after w (Releases pv)) es
      by s =
          subst (λ (r : Option Waiting). IsTold start coming (world w.shelf (core_released c pv r)) es) (sym s.1.first)
          (of s.0 s.1 s.0.waiter refl)
