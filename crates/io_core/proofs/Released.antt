-- What a disk's last flush served is released, one by one.
use Rattle.std.proofs.Common.{◌≡◌, ◌≢◌, ◌≤◌, ◌<◌, ℕ, ◌+◌, Bool, true, false, cond, nat_eq, List, [], ◌∷◌, length, get_or, set, drop}
use Rattle.std.proofs.Common.{◌-◌, Option, None, Some, IfSome, count_by, inl, inr, is_some, unwrap_or, option_map, slice_get, refl, sym, ap}
use Rattle.std.proofs.Common.{subst, ◌∙◌, arith}
use Rattle.std.specs.Option.{option_map_or}
use Rattle.std.proofs.lemmas.Bool.{cond_both, eq-eqb, eqb-false, eqb-true, leb-true}
use Rattle.std.proofs.lemmas.List.{get_or-set_other, get_or-set_same, length-drop, length-set, set-get_or, set-set}
use Rattle.std.proofs.lemmas.List.Sums.{get_or-le-sum_by}
use Rattle.std.proofs.lemmas.Option.{none-some, same_Some}
use Rattle.line_answers.specs.declared.answer.Answer.{Answer}
use Rattle.line_answers.specs.declared.answer.Answer.TheVariants.{PvFailed}
use Rattle.flush_plan.specs.Plans.{flight_of, marks_of}
use Rattle.flush_waits.specs.declared.ticket.Waiter.{Waiter}
use Rattle.flush_waits.specs.declared.ticket.Waiter.TheVariants as waiter
use Rattle.flush_waits.specs.declared.ticket.Waiting.{Waiting}
use Rattle.flush_waits.specs.Steps.{after_release}
use Rattle.flush_waits.specs.Waits.{DiskWaits, Waits, disk_waits, none_waits}
use Rattle.piece_table.specs.declared.live.LivePiece.{LivePiece}
use Rattle.piece_table.specs.declared.live.Stage.TheVariants.{Taken}
use Rattle.piece_table.specs.Pieces.{live_at}
use Rattle.piece_table.specs.Steps.{live_of}
use Rattle.world_acts.specs.declared.state.Core.{Core}
use Rattle.world_acts.specs.declared.open_line.OpenLine.{OpenLine}
use Rattle.world_acts.specs.Acts.{IsSettledWait, LineFails, Marks, Reaches, Releases, Runs, World, after, core_released, follows}
use Rattle.world_acts.specs.Acts.{line_of_waiter}
use Rattle.world_acts.specs.Acts.{line_released}
use Rattle.world_acts.specs.Acts.{flushed_acts, released_at, world}
use Rattle.world_acts.specs.Counts.{is_line, is_piece, waiting}
use Rattle.world_acts.specs.OpenLines.{Opens, after_failure, after_finished, is_pv_failed, left_of, no_open, open_at, open_of, with_open}
use Rattle.world_acts.specs.Orderly.{AreReleased, IsOrderly, IsTidy}
use Rattle.world_acts.specs.Steps.{after_line_fails, after_marks, after_released}
use Rattle.world_acts.proofs.LinesKept.{hit, line_failed}
use Rattle.world_acts.proofs.PiecesKept.{PieceAt, awaiting_taken}
use Rattle.world_acts.proofs.Orderly.{orderly_after}
use Rattle.world_acts.proofs.Reaching.{reaches_act, reaches_both}
use Rattle.world_acts.proofs.Tables.{some_of}
use Rattle.world_acts.proofs.WaitsKept.{count_first, waiting_on}
use Rattle.io_core.specs.Rest.{AreReleasedBut, IsCalm, first_released, just, no_one}
use Rattle.io_core.proofs.CalmActs.{calm_weaker, line_fails_calm, released_calm, same_calm}
use Rattle.io_core.proofs.FirstReleased.{IsLostWait, IsUpTo, StandsTo, first_line, first_stands, lost_wait}
use Rattle.io_core.proofs.LiveLines.{failed_some, finished_open, left_other, set_open}
use Rattle.io_core.proofs.Settled.{OfLine, of_line_at}

-- ---- who is the first

first_of : (l : List Waiting) (it : Waiting) → slice_get l 0 ≡ Some it → (rest : List Waiting) × (l ≡ it ∷ rest)
first_of [] it at = absurd (none-some it at)
first_of (x ∷ xs) it at = (xs, ap (λ (y : Waiting). y ∷ xs) (same_Some x it at))

-- it is counted among those that wait
waits_some : (disks : List DiskWaits) (pv : ℕ) (it : Waiting) (test : Waiting → Bool) → pv < length disks
    → slice_get (get_or disks pv none_waits).served 0 ≡ Some it
    → test it ≡ true
    → 0 < waiting test disks
waits_some disks pv it test within at passes =
    let p = first_of (get_or disks pv none_waits).served it at in
    let most : waiting_on test (get_or disks pv none_waits) ≤ waiting test disks =
    get_or-le-sum_by (waiting_on test) disks pv none_waits within in
    let here : count_by test (get_or disks pv none_waits).served ≡ hit (test it) + count_by test p.0 =
    ap (λ (l : List Waiting). count_by test l) p.1 ∙ count_first test it p.0 in
    let one : ◌≡◌ {A = ℕ} (hit (test it)) 1 = ap hit passes in
    omega (arith, most, here, one)

-- a piece took place, and has no operation in flight; of a line something is left
pub released_piece : (c : Core) (pv number : ℕ) (it : Waiting) → IsTidy c → pv < length c.waits.disks → released_at c pv ≡ Some it
    → it.waiter ≡ waiter.Piece number
    → (awaited : ℕ) × PieceAt c.pieces.lives number (Taken awaited)
released_piece c pv number it t within at who =
    let its : is_piece number it ≡ true =
    ap (λ (x : Waiter). is_piece number (record it { waiter = x })) who ∙ eq-eqb number number refl in
    let some : 0 < waiting (is_piece number) c.waits.disks = waits_some c.waits.disks pv it (is_piece number) within at its in
    awaiting_taken c.pieces.lives number (omega (arith, some, t.counts.awaited number))

pub released_line : (c : Core) (pv line : ℕ) (it : Waiting) → IsTidy c → pv < length c.waits.disks → released_at c pv ≡ Some it
    → it.waiter ≡ waiter.Line line
    → 0 < left_of c.opens line
released_line c pv line it t within at who =
    let its : is_line line it ≡ true =
    ap (λ (x : Waiter). is_line line (record it { waiter = x })) who ∙ eq-eqb line line refl in
    let some : 0 < waiting (is_line line) c.waits.disks = waits_some c.waits.disks pv it (is_line line) within at its in
    omega (arith, some, t.counts.left line)

left_open : (x : Option OpenLine) → 0 < option_map_or (λ (o : OpenLine). o.left) x 0 → is_some x ≡ true
left_open None some = absurd (omega (arith, some))
left_open (Some o) some = refl

-- ---- one is released

-- what waits on the disks without it
abbrev pub without_first : Waits → ℕ → List DiskWaits
without_first old pv = set old.disks pv (record (disk_waits old pv) { served = drop 1 (disk_waits old pv).served })

-- the first waits no more: its line is open, but may have nothing left
pub record ReleasesOne (w : World) (pv line : ℕ) (v : World) : Type 0 where
  pub calm : IsCalm no_one (just line) v.core
  pub opened : is_some (open_at v.core.opens line) ≡ true
  pub other : v.core.barrier ≢ Some line
  pub flights : (q : ℕ) → flight_of v.core.waits.plan q ≡ flight_of w.core.waits.plan q
  pub marks : v.core.waits.plan.marks ≡ w.core.waits.plan.marks
  pub disks : v.core.waits.disks ≡ without_first w.core.waits pv
  pub failed : v.core.failed ≡ w.core.failed

pub releases_one : (w : World) (pv line : ℕ) → IsOrderly w → pv < length w.core.waits.disks
    → Some line ≡ line_released w.core pv
    → IsCalm no_one no_one w.core
    → ReleasesOne w pv line (world w.shelf (core_released w.core pv (released_at w.core pv)))
releases_one w pv line o within is calm = by (released_at w.core pv) refl is
  where
    there : (it : Waiting) → released_at w.core pv ≡ Some it → (number : ℕ) → it.waiter ≡ waiter.Piece number
        → is_some (live_at w.core.pieces.lives number) ≡ true
    there it at number who = ap is_some (released_piece w.core pv number it o.tidy within at who).1.at

    made : (it : Waiting) (who : Waiter) → it.waiter ≡ who → released_at w.core pv ≡ Some it → line ≡ line_of_waiter w.core who
        → IsCalm no_one (just line) (after_released w.core who pv)
        → ReleasesOne w pv line (world w.shelf (after_released w.core who pv))
    made it (waiter.Line n) who at same quiet =
        let some : 0 < left_of w.core.opens n = released_line w.core pv n it o.tidy within at who in
        let p = some_of (open_at w.core.opens n) (left_open (open_at w.core.opens n) some) in
        record {
          calm = quiet;
          opened =
              subst (λ (k : ℕ). is_some (open_at (after_finished w.core.opens n) k) ≡ true) (sym same)
              (finished_open w.core.opens n p.0 p.1);
          other = subst (λ (k : ℕ). w.core.barrier ≢ Some k) (sym same) (left_other w n o some);
          flights = λ q. refl;
          marks = refl;
          disks = refl;
          failed = refl;
        }
    made it (waiter.Piece number) who at same quiet =
        let p : OfLine w number = of_line_at w number o (there it at number who) in
        let its : line ≡ p.live.line = same ∙ ap (λ (l : LivePiece). l.line) p.is in
        record {
          calm = quiet;
          opened =
              subst (λ (k : ℕ). is_some (open_at (after_finished w.core.opens (live_of w.core.pieces number).line) k) ≡ true) (sym same)
              (subst (λ (l : LivePiece). is_some (open_at (after_finished w.core.opens l.line) l.line) ≡ true) (sym p.is)
              (finished_open w.core.opens p.live.line p.of_line.opened p.of_line.is_open));
          other = subst (λ (k : ℕ). w.core.barrier ≢ Some k) (sym its) (left_other w p.live.line o p.left);
          flights = λ q. refl;
          marks = refl;
          disks = refl;
          failed = refl;
        }

    by : (x : Option Waiting) → released_at w.core pv ≡ x
        → Some line ≡ option_map (λ (it : Waiting). line_of_waiter w.core it.waiter) x
        → ReleasesOne w pv line (world w.shelf (core_released w.core pv x))
    by None at is = absurd (none-some line (sym is))
    by (Some it) at is =
        let same : line ≡ line_of_waiter w.core it.waiter = same_Some line (line_of_waiter w.core it.waiter) is in
        made it it.waiter refl at same
        (released_calm w.core it.waiter pv (just line) o.tidy.pieces.single (there it at)
        (eq-eqb (line_of_waiter w.core it.waiter) line (sym same))
        (calm_weaker no_one no_one no_one (just line) w.core (λ q not. not) (λ q not. refl) calm))

-- a line that is to answer so, one of which less is left, and what both make of it
abbrev bad : Answer → OpenLine → OpenLine
bad why p = record p { failure = Some why }

abbrev less : OpenLine → OpenLine
less p = record p { left = p.left - 1 }

abbrev both : Opens → ℕ → OpenLine → Answer → Bool → Opens
both opens line x why b = cond b (with_open opens line (less x)) (with_open opens line (bad why (less x)))

-- that a line fails, and that less is left of it, may come in any order
failed_finished : (opens : Opens) (line : ℕ) (o : OpenLine) (why : Answer) → open_at opens line ≡ Some o
    → after_finished (after_failure opens line why) line ≡ after_failure (after_finished opens line) line why
failed_finished opens line o why at = first (is_pv_failed x.failure) refl ∙ sym (later (is_pv_failed x.failure) refl) where
  x : OpenLine
  x = open_of opens line

  now : (p : OpenLine) → open_of (with_open opens line p) line ≡ p
  now p = ap (λ (y : Option OpenLine). unwrap_or y no_open) (set_open opens line o p at)

  twice : (p q : OpenLine) → with_open (with_open opens line p) line q ≡ with_open opens line q
  twice p q = ap (λ (l : List (Option OpenLine)). record opens { list = l }) (set-set opens.list line (Some p) (Some q))

  first : (b : Bool) → is_pv_failed x.failure ≡ b → after_finished (after_failure opens line why) line ≡ both opens line x why b
  first true is = ap (λ (b : Bool). after_finished (cond b opens (with_open opens line (bad why x))) line) is
  first false is =
      ap (λ (b : Bool). after_finished (cond b opens (with_open opens line (bad why x))) line) is
      ∙ ap (λ (p : OpenLine). with_open (with_open opens line (bad why x)) line (less p)) (now (bad why x)) ∙ twice (bad why x) (less (bad why x))

  later : (b : Bool) → is_pv_failed x.failure ≡ b → after_failure (after_finished opens line) line why ≡ both opens line x why b
  later b is =
      ap (λ (p : OpenLine). cond (is_pv_failed p.failure) (with_open opens line (less x)) (with_open (with_open opens line (less x)) line
      (bad why p))) (now (less x))
      ∙ ap (λ (c : Bool). cond c (with_open opens line (less x)) (with_open (with_open opens line (less x)) line (bad why (less x)))) is
      ∙ ap (λ (q : Opens). cond b (with_open opens line (less x)) q) (twice (less x) (bad why (less x)))

-- the line of the first that is released is open
released_open : (w : World) (pv line : ℕ) → IsOrderly w → pv < length w.core.waits.disks → Some line ≡ line_released w.core pv
    → (o : OpenLine) × (open_at w.core.opens line ≡ Some o)
released_open w pv line o within served = by (released_at w.core pv) refl served where
  of : (it : Waiting) (who : Waiter) → it.waiter ≡ who → released_at w.core pv ≡ Some it → line ≡ line_of_waiter w.core who
      → (o : OpenLine) × (open_at w.core.opens line ≡ Some o)
  of it (waiter.Line n) who at same =
      subst (λ (k : ℕ). (o : OpenLine) × (open_at w.core.opens k ≡ Some o)) (sym same)
      (some_of (open_at w.core.opens n) (left_open (open_at w.core.opens n) (released_line w.core pv n it o.tidy within at who)))
  of it (waiter.Piece number) who at same =
      let p : OfLine w number = of_line_at w number o (ap is_some (released_piece w.core pv number it o.tidy within at who).1.at) in
      let its : line ≡ p.live.line = same ∙ ap (λ (l : LivePiece). l.line) p.is in
      subst (λ (k : ℕ). (o : OpenLine) × (open_at w.core.opens k ≡ Some o)) (sym its) (p.of_line.opened, p.of_line.is_open)

  by : (x : Option Waiting) → released_at w.core pv ≡ x
      → Some line ≡ option_map (λ (it : Waiting). line_of_waiter w.core it.waiter) x
      → (o : OpenLine) × (open_at w.core.opens line ≡ Some o)
  by None at is = absurd (none-some line (sym is))
  by (Some it) at is = of it it.waiter refl at (same_Some line (line_of_waiter w.core it.waiter) is)

-- something is released
some_served : (c : Core) (line : ℕ) (x : Option Waiting) → Some line ≡ option_map (λ (it : Waiting). line_of_waiter c it.waiter) x
    → is_some x ≡ true
some_served c line None is = absurd (none-some line (sym is))
some_served c line (Some it) is = refl

-- it lasts
lasts_first : (w : World) (pv line : ℕ) (c : Core) → flight_of w.core.waits.plan pv ≡ None → Some line ≡ line_released w.core pv
    → c ≡ core_released w.core pv (released_at w.core pv)
    → IfSome (released_at w.core pv) (StandsTo w.core pv true)
    → Reaches follows w (world w.shelf c)
lasts_first w pv line c ended served is lasts =
    subst (λ (d : Core). Reaches follows w (world w.shelf d)) (sym is)
    (reaches_act follows w (Releases pv) refl
    (ended, some_served w.core line (released_at w.core pv) served, settled (released_at w.core pv) lasts))
  where
    settled : (x : Option Waiting) → IfSome x (StandsTo w.core pv true) → IfSome x (IsSettledWait w.core pv)
    settled None lasts = tt
    settled (Some it) lasts = inl (leb-true it.place (marks_of w.core.waits.plan pv).stable lasts)

-- that it fails, and that it waits no more, may come in any order
fails_first : (w : World) (pv line : ℕ) (c : Core) → IsOrderly w → pv < length w.core.waits.disks → flight_of w.core.waits.plan pv ≡ None
    → Some line ≡ line_released w.core pv
    → IsLostWait w.core pv
    → c ≡ core_released w.core pv (released_at w.core pv)
    → Reaches follows w (world w.shelf (after_line_fails c line (PvFailed pv)))
fails_first w pv line c o within ended served lost is =
    let why : Answer = PvFailed pv in
    let v : World = after w (LineFails line why) in
    let own : (x : OpenLine) × (open_at w.core.opens line ≡ Some x) = released_open w pv line o within served in
    let there : is_some (released_at w.core pv) ≡ true = some_served w.core line (released_at w.core pv) served in
    subst (λ (d : Core). Reaches follows w (world w.shelf d))
    (swapped own.0 own.1 (released_at w.core pv) served ∙ ap (λ (d : Core). after_line_fails d line why) (sym is))
    (reaches_both follows w v (after v (Releases pv))
    (reaches_act follows w (LineFails line why) refl (
      ap is_some own.1,
      record {
        pv = pv;
        is = refl;
        lost = lost.lost;
        may = inr (record { ended = ended; first = sym served; lost = lost.waited });
      },
    ))
    (reaches_act follows v (Releases pv) refl (ended, there, settled own.0 own.1 (released_at w.core pv) served)))
  where
    same_line : (who : Waiter) → line_of_waiter (after_line_fails w.core line (PvFailed pv)) who ≡ line_of_waiter w.core who
    same_line (waiter.Line n) = refl
    same_line (waiter.Piece number) = refl

    settled : (o : OpenLine) → open_at w.core.opens line ≡ Some o → (x : Option Waiting)
        → Some line ≡ option_map (λ (it : Waiting). line_of_waiter w.core it.waiter) x
        → IfSome x (IsSettledWait (after_line_fails w.core line (PvFailed pv)) pv)
    settled o at None is = tt
    settled o at (Some it) is =
        inr (subst (λ (n : ℕ). is_some (open_of (after_failure w.core.opens line (PvFailed pv)) n).failure ≡ true)
        (same_Some line (line_of_waiter w.core it.waiter) is ∙ sym (same_line it.waiter))
        (failed_some w.core.opens line o (PvFailed pv) at))

    of : (x : OpenLine) → open_at w.core.opens line ≡ Some x → (who : Waiter) → line ≡ line_of_waiter w.core who
        → after_released (after_line_fails w.core line (PvFailed pv)) who pv
        ≡ after_line_fails (after_released w.core who pv) line (PvFailed pv)
    of x at (waiter.Line n) same =
        subst (λ (k : ℕ). after_released (after_line_fails w.core line (PvFailed pv)) (waiter.Line k) pv
        ≡ after_line_fails (after_released w.core (waiter.Line k) pv) line (PvFailed pv)) same
        (ap (λ (q : Opens). record w.core { waits = after_release w.core.waits pv; opens = q })
        (failed_finished w.core.opens line x (PvFailed pv) at))
    of x at (waiter.Piece number) same =
        let d : Core = after_released w.core (waiter.Piece number) pv in
        ap (λ (k : ℕ). record d { opens = after_finished (after_failure w.core.opens line (PvFailed pv)) k }) (sym same)
        ∙ ap (λ (q : Opens). record d { opens = q }) (failed_finished w.core.opens line x (PvFailed pv) at)
        ∙ ap (λ (k : ℕ). record d { opens = after_failure (after_finished w.core.opens k) line (PvFailed pv) }) same

    swapped : (x : OpenLine) → open_at w.core.opens line ≡ Some x → (it : Option Waiting)
        → Some line ≡ option_map (λ (y : Waiting). line_of_waiter w.core y.waiter) it
        → core_released (after_line_fails w.core line (PvFailed pv)) pv it
        ≡ after_line_fails (core_released w.core pv it) line (PvFailed pv)
    swapped x at None is = absurd (none-some line (sym is))
    swapped x at (Some it) is = of x at it.waiter (same_Some line (line_of_waiter w.core it.waiter) is)

-- what is known as what the flush served that has ended is released
pub record MayRelease (w : World) (pv : ℕ) : Type 0 where
  pub orderly : IsOrderly w
  pub calm : IsCalm no_one no_one w.core
  pub disk : pv < length w.core.waits.disks
  pub ended : flight_of w.core.waits.plan pv ≡ None

-- the first waits no more, and its line fails too, unless what that waited for lasts
pub record WarnsOne (w : World) (pv line : ℕ) (v : World) : Type 0 where
  pub reaches : Reaches follows w v
  pub one : ReleasesOne w pv line v

pub warned : (w : World) (pv line : ℕ) (c : Core) (lasts : Bool) → MayRelease w pv → Some (line, lasts) ≡ first_released w.core pv
    → IfSome (released_at w.core pv) (IsUpTo (marks_of w.core.waits.plan pv).ended)
    → c ≡ core_released w.core pv (released_at w.core pv)
    → WarnsOne w pv line (world w.shelf (cond lasts c (after_line_fails c line (PvFailed pv))))
warned w pv line c lasts m first behind is =
    let why : Answer = PvFailed pv in
    let served : Some line ≡ line_released w.core pv = first_line w.core pv line lasts first in
    let stands : IfSome (released_at w.core pv) (StandsTo w.core pv lasts) = first_stands w.core pv line lasts first in
    let r : ReleasesOne w pv line (world w.shelf c) =
    subst (λ (x : Core). ReleasesOne w pv line (world w.shelf x)) (sym is)
    (releases_one w pv line m.orderly m.disk served m.calm) in
    let v : World = world w.shelf c in
    let d : Core = after_line_fails c line why in
    let p = some_of (open_at c.opens line) r.opened in
    let q = (line_failed c.opens line p.0 why p.1).lines line p.0 p.1 in
    cond_both lasts c d (λ (x : Core). WarnsOne w pv line (world w.shelf x))
    (λ t. record {
      reaches =
          lasts_first w pv line c m.ended served is
          (subst (λ (b : Bool). IfSome (released_at w.core pv) (StandsTo w.core pv b)) t stands);
      one = r;
    })
    (λ t. record {
      reaches =
          fails_first w pv line c m.orderly m.disk m.ended served
          (lost_wait w.core pv line served (subst (λ (b : Bool). IfSome (released_at w.core pv) (StandsTo w.core pv b)) t stands) behind)
          is;
      one = record {
        calm = line_fails_calm c line why no_one (just line) (eq-eqb line line refl) r.calm;
        opened = ap is_some q.1;
        other = r.other;
        flights = r.flights;
        marks = r.marks;
        disks = r.disks;
        failed = r.failed;
      };
    })

-- what the disk's failure leaves
pub marked_runs : (w : World) (pv : ℕ) (well : Bool) → pv < length w.shelf.sizes
    → Runs w (flushed_acts pv well) (world w.shelf (cond well w.core (after_marks w.core pv)))
marked_runs w pv true disk = refl
marked_runs w pv false disk = (disk, refl)

-- and it is orderly
pub marked_orderly : (w : World) (pv : ℕ) (well : Bool) → pv < length w.shelf.sizes → IsOrderly w
    → IsOrderly (world w.shelf (cond well w.core (after_marks w.core pv)))
marked_orderly w pv true disk o = o
marked_orderly w pv false disk o = orderly_after w (Marks pv) o disk

-- what waits on the disks, and what is calm, is the same
pub record IsMarked (c d : Core) : Type 0 where
  pub waits : d.waits ≡ c.waits
  pub calm : IsCalm no_one no_one c → IsCalm no_one no_one d

pub is_marked : (c : Core) (pv : ℕ) (well : Bool) → IsMarked c (cond well c (after_marks c pv))
is_marked c pv well =
    cond_both well c (after_marks c pv) (λ (x : Core). IsMarked c x)
    (λ t. record { waits = refl; calm = λ is. is })
    (λ t. record {
      waits = refl;
      calm = λ is. same_calm c (after_marks c pv) no_one no_one refl refl refl refl is;
    })

-- ---- all are released

-- what goes on on the disks, where one was released of a disk
pub record WaitsLess (old new : Waits) (pv : ℕ) : Type 0 where
  pub ended : flight_of new.plan pv ≡ None
  pub disk : pv < length new.disks
  pub fewer : length (disk_waits new pv).served < length (disk_waits old pv).served
  pub flights : (q : ℕ) → flight_of new.plan q ≡ flight_of old.plan q
  pub others : (q : ℕ) → nat_eq q pv ≡ false → disk_waits new q ≡ disk_waits old q

pub waits_less : (old new : Waits) (pv : ℕ) → pv < length old.disks → flight_of old.plan pv ≡ None → 0 < length (disk_waits old pv).served
    → ((q : ℕ) → flight_of new.plan q ≡ flight_of old.plan q)
    → new.disks ≡ without_first old pv
    → WaitsLess old new pv
waits_less old new pv within ended some flights disks =
    let d : DiskWaits = record (disk_waits old pv) { served = drop 1 (disk_waits old pv).served } in
    let own : disk_waits new pv ≡ d =
    ap (λ (l : List DiskWaits). get_or l pv none_waits) disks ∙ get_or-set_same old.disks pv d none_waits within in
    let long : length new.disks ≡ length old.disks = ap (λ (l : List DiskWaits). length l) disks ∙ length-set old.disks pv d in
    let served : length (disk_waits new pv).served ≡ length (drop 1 (disk_waits old pv).served) =
    ap (λ (x : DiskWaits). length x.served) own in
    record {
      ended = flights pv ∙ ended;
      disk = omega (arith, within, long);
      fewer = omega (arith, served, length-drop 1 (disk_waits old pv).served, some);
      flights = flights;
      others =
          λ q apart. ap (λ (l : List DiskWaits). get_or l q none_waits) disks
          ∙ get_or-set_other old.disks pv q d none_waits (eqb-false q pv apart);
    }

-- something was served where one is released
pub served_some : (c : Core) (pv line : ℕ) → Some line ≡ line_released c pv → 0 < length (disk_waits c.waits pv).served
served_some c pv line is = by (disk_waits c.waits pv).served is
  where
    by : (l : List Waiting) → Some line ≡ option_map (λ (it : Waiting). line_of_waiter c it.waiter) (slice_get l 0) → 0 < length l
    by [] is = absurd (none-some line (sym is))
    by (it ∷ rest) is = omega arith

-- and none where none is
pub served_none : (c : Core) (pv : ℕ) → None ≡ line_released c pv → (disk_waits c.waits pv).served ≡ []
served_none c pv is = by (disk_waits c.waits pv).served is
  where
    by : (l : List Waiting) → None ≡ option_map (λ (it : Waiting). line_of_waiter c it.waiter) (slice_get l 0) → l ≡ []
    by [] is = refl
    by (it ∷ rest) is = absurd (none-some (line_of_waiter c it.waiter) is)

pub stays_but : (c d : Core) (pv : ℕ) → WaitsLess c.waits d.waits pv → AreReleasedBut pv c → AreReleasedBut pv d
stays_but c d pv less are q apart none =
    ap (λ (x : DiskWaits). x.served) (less.others q apart) ∙ are q apart (sym (less.flights q) ∙ none)

pub all_released : (c : Core) (pv : ℕ) → (disk_waits c.waits pv).served ≡ [] → AreReleasedBut pv c → AreReleased c
all_released c pv none are q ended =
    elim (nat_eq q pv) as (λ b. nat_eq q pv ≡ b → (disk_waits c.waits q).served ≡ []) [
      | true ↦ λ t. subst (λ (n : ℕ). (disk_waits c.waits n).served ≡ []) (sym (eqb-true q pv t)) none
      | false ↦ λ t. are q t ended
    ] refl

-- where none is released nothing changes
pub released_none : (c : Core) (pv : ℕ) → None ≡ line_released c pv → core_released c pv (released_at c pv) ≡ c
released_none c pv is = by (released_at c pv) is
  where
    by : (x : Option Waiting) → None ≡ option_map (λ (it : Waiting). line_of_waiter c it.waiter) x → core_released c pv x ≡ c
    by None is = refl
    by (Some it) is = absurd (none-some (line_of_waiter c it.waiter) is)

-- nor of what waits
pub unserved_release : (old : Waits) (pv : ℕ) → None ≡ slice_get (disk_waits old pv).served 0 → after_release old pv ≡ old
unserved_release old pv is =
    let d : DiskWaits = disk_waits old pv in
    let none : d.served ≡ [] = empty d.served is in
    let same : record d { served = drop 1 d.served } ≡ d =
    λ i. record d { served = (ap (λ (l : List Waiting). drop 1 l) none ∙ sym none) i } in
    ap (λ (l : List DiskWaits). record old { disks = l })
    (ap (λ (x : DiskWaits). set old.disks pv x) same ∙ set-get_or old.disks pv none_waits)
  where
    empty : (l : List Waiting) → None ≡ slice_get l 0 → l ≡ []
    empty [] is = refl
    empty (it ∷ rest) is = absurd (none-some it is)

-- ---- the steps of the code

-- the first is a piece, or a line
pub released_as : (c : Core) (pv : ℕ) (it : Waiting) (who : Waiter) → Some it ≡ released_at c pv → it.waiter ≡ who
    → (after_released c who pv ≡ core_released c pv (released_at c pv)) × (Some (line_of_waiter c who) ≡ line_released c pv)
released_as c pv it who at is = (
  ap (λ (x : Waiter). after_released c x pv) (sym is) ∙ ap (λ (x : Option Waiting). core_released c pv x) at,
  ap (λ (x : Waiter). Some (line_of_waiter c x)) (sym is)
      ∙ ap (λ (x : Option Waiting). option_map (λ (w : Waiting). line_of_waiter c w.waiter) x) at,
)
