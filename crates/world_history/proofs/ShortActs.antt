-- Acts that enter nothing, and change nothing that is told of lines.
use Rattle.std.proofs.Common.{◌≡◌, ◌≤◌, All, ℕ, ◌+◌, ◌-◌, List, [], count_by, Option, None, Some, refl, sym, ap, subst, ◌∙◌, arith}
use Rattle.std.specs.Option.{option_map_or}
use Rattle.disk_model.specs.State.{State}
use Rattle.disk_model.specs.declared.ops.Done.{Done}
use Rattle.disk_model.specs.declared.ops.Op.{Op}
use Rattle.lvm_script.specs.declared.line.Line.{Line}
use Rattle.flush_waits.specs.declared.ticket.Waiting.{Waiting}
use Rattle.flush_waits.specs.Waits.{DiskWaits, disk_waits}
use Rattle.piece_table.specs.declared.live.Owner.{Owner}
use Rattle.piece_table.specs.declared.live.Stage.TheVariants.{Started}
use Rattle.piece_table.specs.Pieces.{owner_at}
use Rattle.piece_table.specs.Steps.{live_of, with_flying, with_stage}
use Rattle.volume_history.specs.Chronicles.{ChronicleEntry}
use Rattle.world_acts.specs.declared.state.Core.{Core}
use Rattle.world_acts.specs.Counts.{is_line, waiting}
use Rattle.world_acts.specs.Acts.{Allowed, Asks, AsksFlush, Ends, EndsFlush, Grows, Marks, Readies, Starts, Wakes, World, after, piece_at}
use Rattle.world_acts.specs.Acts.{world}
use Rattle.world_acts.specs.OpenLines.{open_at}
use Rattle.world_acts.specs.Orderly.{IsOrderly}
use Rattle.world_acts.proofs.Flushing.{wanted_within}
use Rattle.world_acts.proofs.Known.{owner_flies}
use Rattle.world_acts.proofs.PiecesKept.{flying_started, start_waits, waiting_at}
use Rattle.world_acts.proofs.Tables.{own_at, some_of}
use Rattle.world_acts.proofs.WaitsKept.{one_disk}
use Rattle.world_history.specs.Told.{IsOfThrough, IsTold, LineTold}
use Rattle.world_history.proofs.Quiet.{line_still, quiet_told, waits_back}
use Rattle.world_history.proofs.Stages.{ComeTheSame, come_both, flown, same_come, stage_changes}

module _ {start : ℕ} {coming : ℕ → ℕ → ℕ} {w : World} {es : List ChronicleEntry} (t : IsTold start coming w es) where
  -- the pieces change, and the shelf
  pub staged_told : (now : State) (d : Core) → w.shelf.steps ≤ now.steps → d.lines ≡ w.core.lines → d.opens ≡ w.core.opens
      → d.barrier ≡ w.core.barrier
      → ((q : ℕ) → waiting (is_line q) d.waits.disks ≤ waiting (is_line q) w.core.waits.disks)
      → ComeTheSame w.core.lines.begun w.core.pieces.lives d.pieces.lives
      → IsTold start coming (world now d) es
  staged_told now d steps lines opens barrier disks come =
      let v : World = world now d in
      quiet_told t coming v (ap (λ x. x.journal) lines) (ap (λ x. x.begun) lines) (ap (λ x. x.answers) lines) steps
      (λ n o at. line_still o (λ x. ap (λ k. k + coming n x) (come.counts n x)) (disks n)
      (t.lines n o (ap (λ x. open_at x n) (sym opens) ∙ at)))
      (subst (λ (x : List Line). All (IsOfThrough x) d.pieces.lives) (ap (λ x. x.begun) (sym lines)) (come.through t.through))
      (waits_back t v (ap (λ x. x.begun) lines) barrier
      (λ q x at. (x, ap (λ y. open_at y q) (sym opens) ∙ at)))

  pub wake_told : IsTold start coming (after w Wakes) es
  wake_told = staged_told w.shelf _ (omega arith) refl refl refl (λ q. omega arith) (same_come w.core.lines.begun w.core.pieces.lives)

  pub mark_told : (pv : ℕ) → IsTold start coming (after w (Marks pv)) es
  mark_told pv = staged_told w.shelf _ (omega arith) refl refl refl (λ q. omega arith) (same_come w.core.lines.begun w.core.pieces.lives)

  pub ready_told : (now : State) → Allowed w (Readies now) → IsTold start coming (after w (Readies now)) es
  ready_told now allowed =
      let same : now.steps ≡ w.shelf.steps = ap (λ (s : State). s.steps) allowed.0.same in
      staged_told now w.core (omega (arith, same)) refl refl refl (λ q. omega arith) (same_come w.core.lines.begun w.core.pieces.lives)

  pub end_flush_told : (done : Done) (now : State) → Allowed w (EndsFlush done now) → IsTold start coming (after w (EndsFlush done now)) es
  end_flush_told done now allowed =
      let more = allowed.0.steps in
      staged_told now _ (omega (arith, more)) refl refl refl (λ q. omega arith) (same_come w.core.lines.begun w.core.pieces.lives)

  -- a flush serves all that waits on its disk, of which the last one served nothing any more
  pub ask_flush_told : (pv tag : ℕ) (now : State) → Allowed w (AsksFlush pv tag now)
      → IsTold start coming (after w (AsksFlush pv tag now)) es
  ask_flush_told pv tag now allowed =
      let more = allowed.0.steps in
      let x : DiskWaits = disk_waits w.core.waits pv in
      let one = one_disk w.core.waits.disks pv (record { served = x.next; next = [] }) (wanted_within w.core.waits pv allowed.2).0 in
      staged_told now _ (omega (arith, more)) refl refl refl
      (λ q. let served : count_by (is_line q) x.served ≡ 0 = ap (λ (l : List Waiting). count_by (is_line q) l) allowed.3 in
      let c = one.counted (is_line q) in omega (arith, c, served))
      (same_come w.core.lines.begun w.core.pieces.lives)

  pub grow_told : (v : World) → Allowed w (Grows v) → IsTold start coming v es
  grow_told v grows =
      let same : v.shelf.steps ≡ w.shelf.steps = ap (λ (s : State). s.steps) grows.shelf in
      let is = grows.core in
      quiet_told t coming v (ap (λ (c : Core). c.lines.journal) is) (ap (λ (c : Core). c.lines.begun) is)
      (ap (λ (c : Core). c.lines.answers) is) (omega (arith, same))
      (λ n o at. subst (λ (c : Core). LineTold (coming n) c.pieces.lives c.waits.disks es n o) (sym is)
      (t.lines n o (ap (λ (c : Core). open_at c.opens n) (sym is) ∙ at)))
      (subst (λ (c : Core). All (IsOfThrough c.lines.begun) c.pieces.lives) (sym is) t.through)
      (waits_back t v (ap (λ (c : Core). c.lines.begun) is) (ap (λ (c : Core). c.barrier) is)
      (λ q x at. (x, ap (λ (c : Core). open_at c.opens q) (sym is) ∙ at)))

  module _ (o : IsOrderly w) where
    pub start_told : (number : ℕ) → Allowed w (Starts number) → IsTold start coming (after w (Starts number)) es
    start_told number allowed =
        let p = waiting_at w.core.pieces.lives number (start_waits w.core.pieces number allowed) in
        staged_told w.shelf _ (omega arith) refl refl refl (λ q. omega arith)
        (stage_changes w.core.lines.begun w.core.pieces number _ (Started 0 None) o.tidy.pieces.single p.1.at refl refl).come

    pub ask_told : (number : ℕ) (op : Op) (tag : ℕ) (now : State) → Allowed w (Asks number op tag now)
        → IsTold start coming (after w (Asks number op tag now)) es
    ask_told number op tag now allowed =
        let p = waiting_at w.core.pieces.lives number (start_waits w.core.pieces number allowed.2) in
        let more = allowed.0.steps in
        let first = stage_changes w.core.lines.begun w.core.pieces number _ (Started 0 None) o.tidy.pieces.single p.1.at refl refl in
        staged_told now _ (omega (arith, more)) refl refl refl (λ q. omega arith)
        (come_both first.come
        (flown w.core.lines.begun (with_stage w.core.pieces number (Started 0 None)) number _ (λ n. n + 1) first.change.single
        (own_at first.change) refl))

    pub end_told : (done : Done) (now : State) → Allowed w (Ends done now) → IsTold start coming (after w (Ends done now)) es
    end_told done now allowed =
        let c : Core = w.core in
        let owns : (x : Owner) × (owner_at c.pieces.owners done.tag ≡ Some x) = some_of (owner_at c.pieces.owners done.tag) allowed.2 in
        let number : piece_at c done.tag ≡ owns.0.piece = ap (λ (x : Option Owner). option_map_or (λ (y : Owner). y.piece) x 0) owns.1 in
        let p = flying_started c.pieces.lives owns.0.piece (owner_flies done.tag owns.0 o.tidy.owners owns.1) in
        let more = allowed.0.steps in
        staged_told now _ (omega (arith, more)) refl refl refl (λ q. omega arith)
        (subst (λ (n : ℕ). ComeTheSame c.lines.begun c.pieces.lives
        (with_stage c.pieces n (with_flying (live_of c.pieces n).stage (λ k. k - 1))).lives) (sym number)
        (flown c.lines.begun c.pieces owns.0.piece _ (λ k. k - 1) o.tidy.pieces.single p.2.at refl))
