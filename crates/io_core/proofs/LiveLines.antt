-- The line of a piece under way is open, has something left, may have entries, and isn't the one that waits for all others.
use Rattle.std.proofs.Common.{◌≡◌, ◌≢◌, ◌<◌, ℕ, zero, suc, ◌-◌, Bool, true, false, List, [], ◌∷◌, map, get_or, Option}
use Rattle.std.proofs.Common.{None, Some}
use Rattle.std.proofs.Common.{is_some, unwrap_or, slice_get, IfSome, refl, sym, ap, subst, arith, true≢false}
use Rattle.std.specs.Option.{option_map_or}
use Rattle.std.proofs.lemmas.Bool.{cond_both}
use Rattle.std.proofs.lemmas.List.{get_or-set_same}
use Rattle.line_answers.specs.declared.answer.Answer.{Answer}
use Rattle.line_table.specs.Steps.{is_open, may_enter}
use Rattle.piece_table.specs.declared.live.LivePiece.{LivePiece}
use Rattle.piece_table.specs.Pieces.{live_at}
use Rattle.world_acts.specs.declared.state.Core.{Core}
use Rattle.world_acts.specs.declared.open_line.OpenLine.{OpenLine}
use Rattle.world_acts.specs.Acts.{World}
use Rattle.world_acts.specs.OpenLines.{IsBarrier, Opens, after_failure, after_finished, is_pv_failed, left_of, no_open, open_at}
use Rattle.world_acts.specs.OpenLines.{open_of, with_open}
use Rattle.world_acts.specs.Orderly.{IsLive, IsOfLine, IsOrderly, IsTidy}
use Rattle.world_acts.proofs.Leaving.{something_left}
use Rattle.world_acts.proofs.LinesKept.{open_within}
use Rattle.world_acts.proofs.Tables.{at_number, removed}

pub live_open : (w : World) (number : ℕ) (l : LivePiece) → IsOrderly w → live_at w.core.pieces.lives number ≡ Some l
    → IsOfLine w.core.opens l
live_open w number l o at =
    (at_number (IsLive w.core.lines.begun w.core.opens w.core.pieces.next) w.core.pieces.lives number l o.tidy.pieces.each at).of_line

pub left_tidy : (c : Core) (number : ℕ) (l : LivePiece) → IsTidy c → live_at c.pieces.lives number ≡ Some l → 0 < left_of c.opens l.line
left_tidy c number l t at = something_left (removed c.pieces.lives number l t.pieces.single at) t.counts

pub live_left : (w : World) (number : ℕ) (l : LivePiece) → IsOrderly w → live_at w.core.pieces.lives number ≡ Some l
    → 0 < left_of w.core.opens l.line
live_left w number l o at = left_tidy w.core number l o.tidy at

-- the one that waits for all others has nothing left
pub left_other : (w : World) (line : ℕ) → IsOrderly w → 0 < left_of w.core.opens line → w.core.barrier ≢ Some line
left_other w line o some is =
    let b : IsBarrier w.core.opens line = subst (λ (x : Option ℕ). IfSome x (IsBarrier w.core.opens)) is o.tidy.lines.holds in
    let left : left_of w.core.opens line ≡ b.opened.left =
    ap (λ (x : Option OpenLine). option_map_or (λ (y : OpenLine). y.left) x 0) b.is_open in
    omega (arith, some, left, b.alone)

pub live_other : (w : World) (number : ℕ) (l : LivePiece) → IsOrderly w → live_at w.core.pieces.lives number ≡ Some l
    → w.core.barrier ≢ Some l.line
live_other w number l o at = left_other w l.line o (live_left w number l o at)

-- lines without an answer are open, and the other way round
entered_at : (opens : List (Option OpenLine)) (answers : List (ℕ × Option Answer)) (line : ℕ) → map is_some opens ≡ map is_open answers
    → is_some (get_or opens line None) ≡ true
    → option_map_or is_open (slice_get answers line) false ≡ true
entered_at [] answers line same some = absurd (true≢false (sym some))
entered_at (o ∷ os) [] line same some = absurd (cons_nil (is_some o) (map is_some os) same)
  where
    cons_nil : (b : Bool) (bs : List Bool) → (b ∷ bs) ≡ [] → ⊥
    cons_nil b bs e = cc
entered_at (o ∷ os) (a ∷ rest) zero same some = head (is_some o) (is_open a) (map is_some os) (map is_open rest) same some
  where
    head : (b c : Bool) (bs cs : List Bool) → (b ∷ bs) ≡ (c ∷ cs) → b ≡ true → c ≡ true
    head b c bs cs e is = cc
entered_at (o ∷ os) (a ∷ rest) (suc line) same some =
    entered_at os rest line (tail (is_some o) (is_open a) (map is_some os) (map is_open rest) same) some
  where
    tail : (b c : Bool) (bs cs : List Bool) → (b ∷ bs) ≡ (c ∷ cs) → bs ≡ cs
    tail b c bs cs e = cc

pub entered : (w : World) (line : ℕ) → IsOrderly w → is_some (open_at w.core.opens line) ≡ true → may_enter w.core.lines line ≡ true
entered w line o some = entered_at w.core.opens.list w.core.lines.answers line o.tidy.lines.opened some

-- ---- a line that is another now

pub set_open : (opens : Opens) (line : ℕ) (o p : OpenLine) → open_at opens line ≡ Some o → open_at (with_open opens line p) line ≡ Some p
set_open opens line o p at = get_or-set_same opens.list line (Some p) None (open_within opens line o at)

-- one that has one less left is open
pub finished_open : (opens : Opens) (line : ℕ) (o : OpenLine) → open_at opens line ≡ Some o
    → is_some (open_at (after_finished opens line) line) ≡ true
finished_open opens line o at =
    ap is_some (set_open opens line o (record (open_of opens line) { left = (open_of opens line).left - 1 }) at)

-- one that was let fail has a failure, this or the one before
pv_failed : (failure : Option Answer) → is_pv_failed failure ≡ true → is_some failure ≡ true
pv_failed None is = absurd (true≢false (sym is))
pv_failed (Some why) is = refl

pub failed_some : (opens : Opens) (line : ℕ) (o : OpenLine) (why : Answer) → open_at opens line ≡ Some o
    → is_some (open_of (after_failure opens line why) line).failure ≡ true
failed_some opens line o why at =
    let p : OpenLine = record (open_of opens line) { failure = Some why } in
    cond_both (is_pv_failed (open_of opens line).failure) opens (with_open opens line p)
    (λ (x : Opens). is_some (open_of x line).failure ≡ true) (pv_failed (open_of opens line).failure)
    (λ t. ap (λ (x : Option OpenLine). is_some (unwrap_or x no_open).failure) (set_open opens line o p at))
