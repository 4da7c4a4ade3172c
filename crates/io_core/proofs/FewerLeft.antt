-- What goes on once an operation has completed leaves no more of any line.
use Rattle.std.proofs.Common.{◌≡◌, ◌≤◌, ℕ, zero, suc, ◌-◌, true, List, [], ◌∷◌, get_or, set, Option, None, Some, is_some}
use Rattle.std.proofs.Common.{unwrap_or, refl, sym, arith, true≢false}
use Rattle.std.specs.Option.{option_map_or}
use Rattle.std.proofs.lemmas.Bool.{cond_both}
use Rattle.flush_waits.specs.declared.ticket.Waiter.{Waiter}
use Rattle.flush_waits.specs.declared.ticket.Waiter.TheVariants as waiter
use Rattle.flush_waits.specs.declared.ticket.Waiting.{Waiting}
use Rattle.flush_plan.specs.Plans.{marks_of}
use Rattle.line_answers.specs.declared.answer.Answer.{Answer}
use Rattle.piece_table.specs.Steps.{live_of}
use Rattle.world_acts.specs.declared.state.Core.{Core}
use Rattle.world_acts.specs.declared.open_line.OpenLine.{OpenLine}
use Rattle.world_acts.specs.Acts.{Act, Answers, Asks, AsksFlush, Awaits, Begins, Ends, EndsFlush, Enters, Fails, Grows, Holds}
use Rattle.world_acts.specs.Acts.{LineFails, Marks, Passes, Reaches, Readies, Reads, Releases, Starts, Wakes, World, Writes}
use Rattle.world_acts.specs.Acts.{after, core_released, goes_on, released_at}
use Rattle.world_acts.specs.OpenLines.{Opens, after_closed, after_failure, after_filled, after_finished, is_pv_failed, left_of, no_open}
use Rattle.world_acts.specs.OpenLines.{open_at, open_of, with_open}
use Rattle.world_acts.specs.Steps.{after_leaves, after_released, after_stays, after_written}
use Rattle.world_acts.proofs.Reaching.{reaches_keep}

-- no more is left of any line
abbrev pub FewerLeft : Opens → Opens → Type 0
FewerLeft old new = (q : ℕ) → left_of new q ≤ left_of old q

abbrev left_in : Option OpenLine → ℕ
left_in o = option_map_or (λ (x : OpenLine). x.left) o 0

set_fewer : (list : List (Option OpenLine)) (line : ℕ) (o : Option OpenLine) → left_in o ≤ left_in (get_or list line None) → (q : ℕ)
    → left_in (get_or (set list line o) q None) ≤ left_in (get_or list q None)
set_fewer [] line o fewer q = omega arith
set_fewer (x ∷ list) zero o fewer zero = fewer
set_fewer (x ∷ list) zero o fewer (suc q) = omega arith
set_fewer (x ∷ list) (suc line) o fewer zero = omega arith
set_fewer (x ∷ list) (suc line) o fewer (suc q) = set_fewer list line o fewer q

left_open : (o : Option OpenLine) → (unwrap_or o no_open).left ≡ left_in o
left_open None = refl
left_open (Some x) = refl

closed_fewer : (opens : Opens) (line : ℕ) → FewerLeft opens (after_closed opens line)
closed_fewer opens line = set_fewer opens.list line None (omega arith)

finished_fewer : (opens : Opens) (line : ℕ) → FewerLeft opens (after_finished opens line)
finished_fewer opens line =
    let is : (open_of opens line).left ≡ left_of opens line = left_open (open_at opens line) in
    set_fewer opens.list line (Some (record (open_of opens line) { left = (open_of opens line).left - 1 })) (omega (arith, is))

failed_fewer : (opens : Opens) (line : ℕ) (why : Answer) → FewerLeft opens (after_failure opens line why)
failed_fewer opens line why =
    let is : (open_of opens line).left ≡ left_of opens line = left_open (open_at opens line) in
    cond_both (is_pv_failed (open_of opens line).failure) opens
    (with_open opens line (record (open_of opens line) { failure = Some why })) (λ (x : Opens). FewerLeft opens x)
    (λ t q. omega arith)
    (λ t. set_fewer opens.list line (Some (record (open_of opens line) { failure = Some why })) (omega (arith, is)))

filled_fewer : (opens : Opens) (line first : ℕ) (sectors : List (List ℕ)) → FewerLeft opens (after_filled opens line first sectors)
filled_fewer opens line first sectors =
    let is : (open_of opens line).left ≡ left_of opens line = left_open (open_at opens line) in
    set_fewer opens.list line _ (omega (arith, is))

fewer_both : (old mid new : Opens) → FewerLeft old mid → FewerLeft mid new → FewerLeft old new
fewer_both old mid new a b q = omega (arith, a q, b q)

released_fewer : (c : Core) (pv : ℕ) (first : Option Waiting) → FewerLeft c.opens (core_released c pv first).opens
released_fewer c pv None = λ q. omega arith
released_fewer c pv (Some it) = of it.waiter
  where
    of : (x : Waiter) → FewerLeft c.opens (after_released c x pv).opens
    of (waiter.Line line) = finished_fewer c.opens line
    of (waiter.Piece number) = finished_fewer c.opens (live_of c.pieces number).line

fewer_act : (w : World) (a : Act) → goes_on a ≡ true → FewerLeft w.core.opens (after w a).core.opens
fewer_act w (Begins line opened) is = absurd (true≢false (sym is))
fewer_act w (Enters line piece sectors ticket entry) is = absurd (true≢false (sym is))
fewer_act w (Awaits line pv) is = absurd (true≢false (sym is))
fewer_act w (LineFails line why) is = failed_fewer w.core.opens line why
fewer_act w (Answers line) is = closed_fewer w.core.opens line
fewer_act w (Holds line) is = λ q. omega arith
fewer_act w (Passes line) is = closed_fewer w.core.opens line
fewer_act w Wakes is = λ q. omega arith
fewer_act w (Starts number) is = λ q. omega arith
fewer_act w (Asks number op tag now) is = λ q. omega arith
fewer_act w (Ends done now) is = absurd (true≢false (sym is))
fewer_act w (Marks pv) is = λ q. omega arith
fewer_act w (Fails number why) is =
    let line : ℕ = (live_of w.core.pieces number).line in
    fewer_both w.core.opens (after_failure w.core.opens line why) (after_finished (after_failure w.core.opens line why) line)
    (failed_fewer w.core.opens line why) (finished_fewer (after_failure w.core.opens line why) line)
fewer_act w (Writes number pv) is =
    let written : Core = after_written w.core number pv w.shelf.steps in
    cond_both (is_some (live_of w.core.pieces number).ticket) (after_stays written number pv (marks_of written.waits.plan pv).written)
    (after_leaves written number pv) (λ (d : Core). FewerLeft w.core.opens d.opens) (λ t q. omega arith)
    (λ t. finished_fewer w.core.opens (live_of w.core.pieces number).line)
fewer_act w (Reads number sectors) is =
    let l = live_of w.core.pieces number in
    fewer_both w.core.opens (after_filled w.core.opens l.line l.piece.first sectors)
    (after_finished (after_filled w.core.opens l.line l.piece.first sectors) l.line)
    (filled_fewer w.core.opens l.line l.piece.first sectors)
    (finished_fewer (after_filled w.core.opens l.line l.piece.first sectors) l.line)
fewer_act w (AsksFlush pv tag now) is = λ q. omega arith
fewer_act w (EndsFlush done now) is = absurd (true≢false (sym is))
fewer_act w (Releases pv) is = released_fewer w.core pv (released_at w.core pv)
fewer_act w (Readies now) is = absurd (true≢false (sym is))
fewer_act w (Grows v) is = absurd (true≢false (sym is))

pub left_falls : (w v : World) → Reaches goes_on w v → FewerLeft w.core.opens v.core.opens
left_falls w v goes =
    reaches_keep goes_on (λ (x : World). FewerLeft w.core.opens x.core.opens)
    (λ x a is allowed fewer. fewer_both w.core.opens x.core.opens (after x a).core.opens fewer (fewer_act x a is)) w v goes
    (λ q. omega arith)
