-- Pieces at other stages, that enter and that leave: what they count for.
use Rattle.std.proofs.Common.{◌≡◌, ◌≤◌, All, ℕ, Bool, true, false, not, ◌&&◌, ◌||◌, ◌==◌, List}
use Rattle.std.proofs.Common.{Option, Some, is_some, slice_get, unwrap_or, refl, sym, ap, subst, ◌∙◌, arith}
use Rattle.std.proofs.lemmas.List.Sums.{sum_by-le-sum_by}
use Rattle.lvm_script.specs.declared.line.Line.{Line}
use Rattle.piece_table.specs.declared.live.LivePiece.{LivePiece}
use Rattle.piece_table.specs.declared.live.Stage.{Stage}
use Rattle.piece_table.specs.declared.live.Stage.TheVariants.{Started, Taken, Waiting}
use Rattle.piece_table.specs.Pieces.{Pieces, live_at}
use Rattle.piece_table.specs.Steps.{live_of, no_live, with_flying, with_live, with_stage}
use Rattle.std.specs.Option.{option_map_or}
use Rattle.data_lines.specs.DataLines.{in_range, is_through}
use Rattle.world_acts.specs.Counts.{is_taken, pieces_of}
use Rattle.world_acts.proofs.LinesKept.{hit}
use Rattle.world_acts.proofs.PiecesKept.{piece_replaced}
use Rattle.world_acts.proofs.Tables.{AreSingle, Changes, all_changed, at_number}
use Rattle.world_history.specs.Told.{IsOfThrough, is_to_come, to_come}

-- whether the line of this number is through
abbrev pub through_of : List Line → ℕ → Bool
through_of begun n = option_map_or (λ (l : Line). is_through l.command) (slice_get begun n) false

-- the pieces to come are the same, and each that waits for its flush is of a line that is through as before
pub record ComeTheSame (begun : List Line) (old new : List (ℕ × LivePiece)) : Type 0 where
  pub counts : (q x : ℕ) → to_come q x new ≡ to_come q x old
  pub through : All (IsOfThrough begun) old → All (IsOfThrough begun) new

pub same_come : (begun : List Line) (lives : List (ℕ × LivePiece)) → ComeTheSame begun lives lives
same_come begun lives = record { counts = λ q x. refl; through = λ all. all }

-- one piece changes for another, of the same line and sectors, that hasn't taken place either
pub come_changed : {begun : List Line} {number : ℕ} {old new : LivePiece} {lives lives' : List (ℕ × LivePiece)}
    → Changes number (Some old) (Some new) lives lives'
    → new.line ≡ old.line
    → new.piece ≡ old.piece
    → new.ticket ≡ old.ticket
    → is_taken old.stage ≡ false
    → is_taken new.stage ≡ false
    → ComeTheSame begun lives lives'
come_changed {begun} {number} {old} {new} {lives} {lives'} change line piece ticket untaken untaken' = record {
  counts =
      λ q x. let s = change.summed (λ (e : ℕ × LivePiece). hit (is_to_come q x e)) in
      let a : hit (is_to_come q x (number, new)) ≡ hit (is_to_come q x (number, old)) =
      (λ i. hit ((line i == q) && (not ((untaken' ∙ sym untaken) i) && in_range (piece i).first (piece i).count x))) in
      omega (arith, s, a);
  through =
      λ all. all_changed (IsOfThrough begun) (IsOfThrough begun) change all (λ q l apart at is. is)
      (λ waits. ap (through_of begun) line
      ∙ at_number (IsOfThrough begun) lives number old all change.was
      ((λ i. is_some (sym ticket i) || (untaken ∙ sym untaken') i) ∙ waits));
}

-- a piece comes to another stage, at which it hasn't taken place either
pub record StageChanges (begun : List Line) (number : ℕ) (l : LivePiece) (stage : Stage) (old new : List (ℕ × LivePiece)) : Type 0 where
  pub change : Changes number (Some l) (Some (record l { stage = stage })) old new
  pub come : ComeTheSame begun old new

pub stage_changes : (begun : List Line) (pieces : Pieces) (number : ℕ) (l : LivePiece) (stage : Stage) → AreSingle pieces.lives
    → live_at pieces.lives number ≡ Some l
    → is_taken l.stage ≡ false
    → is_taken stage ≡ false
    → StageChanges begun number l stage pieces.lives (with_stage pieces number stage).lives
stage_changes begun pieces number l stage single at untaken untaken' =
    let is : live_of pieces number ≡ l = ap (λ (x : Option LivePiece). unwrap_or x no_live) at in
    let change : Changes number (Some l) (Some (record l { stage = stage })) pieces.lives (with_stage pieces number stage).lives =
    subst (λ (x : LivePiece). Changes number (Some l) (Some (record l { stage = stage })) pieces.lives
    (with_live pieces number (record x { stage = stage })).lives) (sym is)
    (piece_replaced pieces.lives number l (record l { stage = stage }) single at) in
    record { change = change; come = come_changed change refl refl refl untaken untaken' }

pub come_both : {begun : List Line} {old mid new : List (ℕ × LivePiece)} → ComeTheSame begun old mid → ComeTheSame begun mid new
    → ComeTheSame begun old new
come_both a b = record { counts = λ q x. b.counts q x ∙ a.counts q x; through = λ all. b.through (a.through all) }

-- as many operations more or less in flight
pub flown_untaken : (stage : Stage) (f : ℕ → ℕ) → is_taken stage ≡ false → is_taken (with_flying stage f) ≡ false
flown_untaken (Waiting sectors) f is = is
flown_untaken (Started flying lost) f is = is
flown_untaken (Taken awaited) f is = is

pub flown : (begun : List Line) (pieces : Pieces) (number : ℕ) (l : LivePiece) (f : ℕ → ℕ) → AreSingle pieces.lives
    → live_at pieces.lives number ≡ Some l
    → is_taken l.stage ≡ false
    → ComeTheSame begun pieces.lives (with_stage pieces number (with_flying (live_of pieces number).stage f)).lives
flown begun pieces number l f single at untaken =
    let is : is_taken (live_of pieces number).stage ≡ false =
    ap (λ (x : Option LivePiece). is_taken (unwrap_or x no_live).stage) at ∙ untaken in
    (stage_changes begun pieces number l (with_flying (live_of pieces number).stage f) single at untaken
    (flown_untaken (live_of pieces number).stage f is)).come

-- what is to come of a line is among its pieces under way
pub come_within : (n x : ℕ) (lives : List (ℕ × LivePiece)) → to_come n x lives ≤ pieces_of n lives
come_within n x lives =
    sum_by-le-sum_by (λ (e : ℕ × LivePiece). hit (is_to_come n x e)) (λ (e : ℕ × LivePiece). hit (e.1.line == n)) lives
    (λ e. fewer_hits (e.1.line == n) _)
  where
    fewer_hits : (a b : Bool) → hit (a && b) ≤ hit a
    fewer_hits true true = omega arith
    fewer_hits true false = omega arith
    fewer_hits false b = omega arith
