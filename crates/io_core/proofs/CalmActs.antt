-- What each act on a piece leaves calm.
use Rattle.std.proofs.Common.{◌≡◌, ◌<◌, ℕ, ◌+◌, ◌-◌, Bool, true, false, nat_eq, List, length, filter, Option, None, Some}
use Rattle.std.proofs.Common.{is_some, unwrap_or, refl, sym, ap, subst, ◌∙◌, arith, true≢false}
use Rattle.std.specs.List.{list_any}
use Rattle.std.proofs.lemmas.Bool.{cond_both, eq-eqb}
use Rattle.line_answers.specs.declared.answer.Answer.{Answer}
use Rattle.line_table.specs.Steps.{is_open}
use Rattle.claim_table.specs.Claims.{Claims}
use Rattle.claim_table.specs.Steps.{after_leave, has_number}
use Rattle.piece_table.specs.declared.live.LivePiece.{LivePiece}
use Rattle.piece_table.specs.declared.live.Stage.TheVariants.{Started, Taken}
use Rattle.piece_table.specs.Pieces.{Pieces, live_at}
use Rattle.piece_table.specs.Steps.{live_of, no_live, with_flying}
use Rattle.flush_waits.specs.declared.ticket.Waiter.TheVariants as waiter
use Rattle.flush_waits.specs.declared.ticket.Waiter.{Waiter}
use Rattle.flush_waits.specs.Steps as waits
use Rattle.flush_plan.specs.Plans.{marks_of}
use Rattle.world_acts.specs.declared.state.Core.{Core}
use Rattle.world_acts.specs.Acts.{line_of_waiter}
use Rattle.world_acts.specs.OpenLines.{Opens, after_failure, after_filled, after_finished, filled as filled_work, open_of}
use Rattle.world_acts.specs.Steps.{after_asks, after_fails, after_leaves, after_line_fails, after_reads, after_released, after_starts}
use Rattle.world_acts.specs.Steps.{after_stays, after_wakes, after_written, after_wrote}
use Rattle.world_acts.proofs.PiecesKept.{piece_replaced, with_piece}
use Rattle.world_acts.proofs.Tables.{AreSingle, Changes, changes_both, own_at, removed, some_of}
use Rattle.io_core.specs.Rest.{IsAsked, IsCalm, just, no_one}
use Rattle.io_core.proofs.Calm.{OthersStay, asked_changed, asked_same, others_both, others_failed, others_set, unfinished_but}
use Rattle.io_core.proofs.Calm.{unfinished_same}
use Rattle.io_core.proofs.Deferred.{IsReady, just_other, left_deferred, ready_deferred}

-- ---- what goes over

-- the line that waits for all others still finds another open
pub others_over : (c d : Core) → d.barrier ≡ c.barrier → d.lines.answers ≡ c.lines.answers
    → ((line : ℕ) → c.barrier ≡ Some line → 1 < length (filter is_open c.lines.answers))
    → (line : ℕ)
    → d.barrier ≡ Some line
    → 1 < length (filter is_open d.lines.answers)
others_over c d barrier answers others line is =
    subst (λ (x : List (ℕ × Option Answer)). 1 < length (filter is_open x)) (sym answers) (others line (sym barrier ∙ is))

-- with more that is exempt
pub calm_weaker : (pieces pieces' lines lines' : ℕ → Bool) (c : Core) → ((q : ℕ) → pieces' q ≡ false → pieces q ≡ false)
    → ((q : ℕ) → lines' q ≡ false → lines q ≡ false)
    → IsCalm pieces lines c
    → IsCalm pieces' lines' c
calm_weaker pieces pieces' lines lines' c fewer_pieces fewer_lines is = record {
  quiet = record {
    asked = asked_same pieces pieces' c c refl (λ q not deferred. deferred) fewer_pieces is.quiet.asked;
    unfinished = unfinished_same lines lines' c c refl refl fewer_lines is.quiet.unfinished;
  };
  others = is.others;
}

-- nothing of it changes
pub same_calm : (c d : Core) (pieces lines : ℕ → Bool) → d.pieces ≡ c.pieces → d.opens ≡ c.opens → d.barrier ≡ c.barrier
    → d.lines.answers ≡ c.lines.answers
    → IsCalm pieces lines c
    → IsCalm pieces lines d
same_calm c d pieces lines same opens barrier answers is = record {
  quiet = record {
    asked =
        asked_same pieces pieces c d (ap (λ (p : Pieces). p.lives) same)
        (λ q not deferred. ap (λ (p : Pieces). list_any (has_number q) p.claims.deferred) same ∙ deferred) (λ q not. not) is.quiet.asked;
    unfinished = unfinished_same lines lines c d opens barrier (λ q not. not) is.quiet.unfinished;
  };
  others = others_over c d barrier answers is.others;
}

-- a piece that isn't asked for is another now, which is; no line changes
pub staged_calm : (c d : Core) (number : ℕ) (old new : LivePiece) (lines : ℕ → Bool)
    → Changes number (Some old) (Some new) c.pieces.lives d.pieces.lives
    → IsAsked d (number, new)
    → d.pieces.claims ≡ c.pieces.claims
    → d.opens ≡ c.opens
    → d.barrier ≡ c.barrier
    → d.lines.answers ≡ c.lines.answers
    → IsCalm (just number) lines c
    → IsCalm no_one lines d
staged_calm c d number old new lines change asked claims opens barrier answers is = record {
  quiet = record {
    asked =
        asked_changed (just number) no_one c d change
        (λ q apart deferred. subst (λ (x : Claims). list_any (has_number q) x.deferred ≡ true) (sym claims) deferred)
        (λ q apart not. just_other number q apart) (λ not. asked) is.quiet.asked;
    unfinished = unfinished_same lines lines c d opens barrier (λ q not. not) is.quiet.unfinished;
  };
  others = others_over c d barrier answers is.others;
}

-- a piece leaves, and its line changes
pub left_calm : (c d : Core) (number line : ℕ) (old : LivePiece) (lines : ℕ → Bool)
    → Changes number (Some old) None c.pieces.lives d.pieces.lives
    → d.pieces.claims ≡ after_leave c.pieces.claims number
    → OthersStay line c.opens d.opens
    → d.barrier ≡ c.barrier
    → d.lines.answers ≡ c.lines.answers
    → lines line ≡ true
    → IsCalm (just number) lines c
    → IsCalm no_one lines d
left_calm c d number line old lines change claims others barrier answers exempt is = record {
  quiet = record {
    asked =
        asked_changed (just number) no_one c d change
        (λ q apart deferred. subst (λ (x : Claims). list_any (has_number q) x.deferred ≡ true) (sym claims)
        (left_deferred c.pieces.claims number q apart deferred))
        (λ q apart not. just_other number q apart) tt is.quiet.asked;
    unfinished = unfinished_but lines c d line exempt others barrier is.quiet.unfinished;
  };
  others = others_over c d barrier answers is.others;
}

-- one line changes
pub line_calm : (c d : Core) (line : ℕ) (pieces lines : ℕ → Bool) → d.pieces ≡ c.pieces → OthersStay line c.opens d.opens
    → d.barrier ≡ c.barrier
    → d.lines.answers ≡ c.lines.answers
    → lines line ≡ true
    → IsCalm pieces lines c
    → IsCalm pieces lines d
line_calm c d line pieces lines same others barrier answers exempt is = record {
  quiet = record {
    asked =
        asked_same pieces pieces c d (ap (λ (p : Pieces). p.lives) same)
        (λ q not deferred. ap (λ (p : Pieces). list_any (has_number q) p.claims.deferred) same ∙ deferred) (λ q not. not) is.quiet.asked;
    unfinished = unfinished_but lines c d line exempt others barrier is.quiet.unfinished;
  };
  others = others_over c d barrier answers is.others;
}

-- a line that has one less left
pub others_finished : (opens : Opens) (line : ℕ) → OthersStay line opens (after_finished opens line)
others_finished opens line = others_set opens line (Some (record (open_of opens line) { left = (open_of opens line).left - 1 }))

-- ---- acts

-- the first that may is to start
pub wakes_calm : (c : Core) (number : ℕ) (lines : ℕ → Bool) → IsReady c.pieces.claims number → IsCalm no_one lines c
    → IsCalm (just number) lines (after_wakes c)
wakes_calm c number lines ready is = record {
  quiet = record {
    asked =
        asked_same no_one (just number) c (after_wakes c) refl
        (λ q not deferred. ready_deferred c.pieces.claims number q ready (apart number q not) deferred) (λ q not. refl) is.quiet.asked;
    unfinished = unfinished_same lines lines c (after_wakes c) refl refl (λ q not. not) is.quiet.unfinished;
  };
  others = is.others;
}
  where
    apart : (number q : ℕ) → just number q ≡ false → nat_eq number q ≡ false
    apart number q not = just_other q number not

-- a piece starts, and its operation is submitted
pub asks_calm : (c : Core) (number tag : ℕ) (l : LivePiece) (lines : ℕ → Bool) → AreSingle c.pieces.lives
    → live_at c.pieces.lives number ≡ Some l
    → IsCalm (just number) lines c
    → IsCalm no_one lines (after_asks c number tag)
asks_calm c number tag l lines single at is =
    let mid : LivePiece = record (live_of c.pieces number) { stage = Started 0 None } in
    let s : Core = after_starts c number in
    let d : Core = after_asks c number tag in
    let then : LivePiece = live_of s.pieces number in
    let new : LivePiece = record then { stage = with_flying then.stage (λ n. n + 1) } in
    let first : Changes number (Some l) (Some mid) c.pieces.lives s.pieces.lives = piece_replaced c.pieces.lives number l mid single at in
    let is_mid : then ≡ mid = ap (λ (x : Option LivePiece). unwrap_or x no_live) (own_at first) in
    let change : Changes number (Some l) (Some new) c.pieces.lives d.pieces.lives =
    changes_both first (piece_replaced s.pieces.lives number mid new first.single (own_at first)) in
    staged_calm c d number l new lines change
    (subst (λ (x : LivePiece). IsAsked d (number, record x { stage = with_flying x.stage (λ n. n + 1) })) (sym is_mid)
    (record { waits = λ t. absurd (true≢false (sym t)); flies = λ t. omega arith; stays = λ t. absurd (true≢false (sym t)) }))
    refl refl refl refl is

-- a piece that has failed leaves
pub fails_calm : (c : Core) (number moment : ℕ) (why : Answer) (l : LivePiece) (lines : ℕ → Bool) → AreSingle c.pieces.lives
    → live_at c.pieces.lives number ≡ Some l
    → lines (live_of c.pieces number).line ≡ true
    → IsCalm (just number) lines c
    → IsCalm no_one lines (after_fails c number why moment)
fails_calm c number moment why l lines single at exempt is =
    let x : LivePiece = live_of c.pieces number in
    let mid : LivePiece = record x { ticket = None } in
    let d : Core = after_fails c number why moment in
    let first : Changes number (Some l) (Some mid) c.pieces.lives (with_piece c.pieces.lives number mid) =
    piece_replaced c.pieces.lives number l mid single at in
    let change : Changes number (Some l) None c.pieces.lives d.pieces.lives =
    changes_both first (removed (with_piece c.pieces.lives number mid) number mid first.single (own_at first)) in
    left_calm c d number x.line l lines change refl
    (others_both x.line c.opens (after_failure c.opens x.line why) d.opens (others_failed c.opens x.line why)
    (others_finished (after_failure c.opens x.line why) x.line))
    refl refl exempt is

-- one that is only started is still exempt
pub starts_calm : (c : Core) (number : ℕ) (l : LivePiece) (lines : ℕ → Bool) → AreSingle c.pieces.lives
    → live_at c.pieces.lives number ≡ Some l
    → IsCalm (just number) lines c
    → IsCalm (just number) lines (after_starts c number)
starts_calm c number l lines single at is =
    let mid : LivePiece = record (live_of c.pieces number) { stage = Started 0 None } in
    let d : Core = after_starts c number in
    let change : Changes number (Some l) (Some mid) c.pieces.lives d.pieces.lives = piece_replaced c.pieces.lives number l mid single at in
    record {
      quiet = record {
        asked =
            asked_changed (just number) (just number) c d change (λ q apart deferred. deferred) (λ q apart not. not)
            (λ not. absurd (true≢false (sym (itself number) ∙ not))) is.quiet.asked;
        unfinished = unfinished_same lines lines c d refl refl (λ q not. not) is.quiet.unfinished;
      };
      others = is.others;
    }
  where
    itself : (n : ℕ) → just n n ≡ true
    itself n = eq-eqb n n refl

-- a read that took place
pub reads_calm : (c : Core) (number moment : ℕ) (sectors : List (List ℕ)) (l : LivePiece) (lines : ℕ → Bool) → AreSingle c.pieces.lives
    → live_at c.pieces.lives number ≡ Some l
    → lines (live_of c.pieces number).line ≡ true
    → IsCalm (just number) lines c
    → IsCalm no_one lines (after_reads c number sectors moment)
reads_calm c number moment sectors l lines single at exempt is =
    let x : LivePiece = live_of c.pieces number in
    let d : Core = after_reads c number sectors moment in
    let filled : Opens = after_filled c.opens x.line x.piece.first sectors in
    left_calm c d number x.line l lines (removed c.pieces.lives number l single at) refl
    (others_both x.line c.opens filled d.opens
    (others_set c.opens x.line
    (Some (record (open_of c.opens x.line) { work = filled_work (open_of c.opens x.line).work x.piece.first sectors })))
    (others_finished filled x.line))
    refl refl exempt is

-- a piece that took place leaves, however it was exempt
pub leaves_calm : (c : Core) (number pv : ℕ) (l : LivePiece) (lines : ℕ → Bool) → AreSingle c.pieces.lives
    → live_at c.pieces.lives number ≡ Some l
    → lines (live_of c.pieces number).line ≡ true
    → IsCalm (just number) lines c
    → IsCalm no_one lines (after_leaves c number pv)
leaves_calm c number pv l lines single at exempt is =
    let x : LivePiece = live_of c.pieces number in
    left_calm c (after_leaves c number pv) number x.line l lines (removed c.pieces.lives number l single at) refl
    (others_finished c.opens x.line) refl refl exempt is

-- a write that took place, and stays until its flush
pub stays_calm : (c : Core) (number pv place : ℕ) (l : LivePiece) (lines : ℕ → Bool) → AreSingle c.pieces.lives
    → live_at c.pieces.lives number ≡ Some l
    → IsCalm (just number) lines c
    → IsCalm no_one lines (after_stays c number pv place)
stays_calm c number pv place l lines single at is =
    let mid : LivePiece = record (live_of c.pieces number) { ticket = None } in
    let lives : List (ℕ × LivePiece) = with_piece c.pieces.lives number mid in
    let new : LivePiece = record (unwrap_or (live_at lives number) no_live) { stage = Taken 1 } in
    let d : Core = after_stays c number pv place in
    let first : Changes number (Some l) (Some mid) c.pieces.lives lives = piece_replaced c.pieces.lives number l mid single at in
    let change : Changes number (Some l) (Some new) c.pieces.lives d.pieces.lives =
    changes_both first (piece_replaced lives number mid new first.single (own_at first)) in
    staged_calm c d number l new lines change
    (record { waits = λ t. absurd (true≢false (sym t)); flies = λ t. absurd (true≢false (sym t)); stays = λ t. omega arith })
    refl refl refl refl is

pub wrote_calm : (c : Core) (number pv moment : ℕ) (l : LivePiece) (lines : ℕ → Bool) → AreSingle c.pieces.lives
    → live_at c.pieces.lives number ≡ Some l
    → lines (live_of c.pieces number).line ≡ true
    → IsCalm (just number) lines c
    → IsCalm no_one lines (after_wrote c number pv moment)
wrote_calm c number pv moment l lines single at exempt is =
    let written : Core = after_written c number pv moment in
    let over : IsCalm (just number) lines written = same_calm c written (just number) lines refl refl refl refl is in
    let place : ℕ = (marks_of written.waits.plan pv).written in
    cond_both (is_some (live_of c.pieces number).ticket) (after_stays written number pv place) (after_leaves written number pv)
    (λ (x : Core). IsCalm no_one lines x) (λ t. stays_calm written number pv place l lines single at over)
    (λ t. leaves_calm written number pv l lines single at exempt over)

-- one that waits for its flush, or a line that does, is released
pub released_calm : (c : Core) (who : Waiter) (pv : ℕ) (lines : ℕ → Bool) → AreSingle c.pieces.lives
    → ((number : ℕ) → who ≡ waiter.Piece number → is_some (live_at c.pieces.lives number) ≡ true)
    → lines (line_of_waiter c who) ≡ true
    → IsCalm no_one lines c
    → IsCalm no_one lines (after_released c who pv)
released_calm c (waiter.Line line) pv lines single there exempt is =
    let d : Core = after_released c (waiter.Line line) pv in
    line_calm c d line no_one lines refl (others_finished c.opens line) refl refl exempt is
released_calm c (waiter.Piece number) pv lines single there exempt is =
    let p = some_of (live_at c.pieces.lives number) (there number refl) in
    let mid : Core = record c { waits = waits.after_release c.waits pv } in
    let over : IsCalm (just number) lines mid =
    same_calm c mid (just number) lines refl refl refl refl
    (calm_weaker no_one (just number) lines lines c (λ q not. refl) (λ q not. not) is) in
    leaves_calm mid number pv p.0 lines single p.1 exempt over

-- a line is to answer so
pub line_fails_calm : (c : Core) (line : ℕ) (why : Answer) (pieces lines : ℕ → Bool) → lines line ≡ true → IsCalm pieces lines c
    → IsCalm pieces lines (after_line_fails c line why)
line_fails_calm c line why pieces lines exempt is =
    line_calm c (after_line_fails c line why) line pieces lines refl (others_failed c.opens line why) refl refl exempt is
