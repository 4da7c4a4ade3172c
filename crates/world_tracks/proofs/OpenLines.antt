-- A line that is open isn't answered, and what is known of one that writes a piece.
use Rattle.std.proofs.Common.{◌≡◌, ℕ, zero, suc, ◌==◌, ◌&&◌, Bool, true, false, not, List, [], ◌∷◌, Option, None, Some, get_or, is_some}
use Rattle.std.proofs.Common.{map, option_map, unwrap_or, refl, sym, ap, ◌∙◌, true≢false}
use Rattle.command_table.specs.declared.command.Command.{Command}
use Rattle.line_answers.specs.declared.answer.Answer.{Answer}
use Rattle.list_laws.proofs.Bools.{not_true}
use Rattle.sector_base.specs.declared.places.Piece.{Piece}
use Rattle.data_lines.specs.DataLines.{in_range, writes}
use Rattle.line_table.specs.Steps.{is_open as is_open_line}
use Rattle.piece_table.specs.declared.live.LivePiece.{LivePiece}
use Rattle.volume_history.specs.Chronicles.{ChronicleEntry, answer_in, has_answer, is_answered}
use Rattle.world_acts.specs.declared.open_line.OpenLine.{OpenLine}
use Rattle.world_acts.specs.declared.open_line.Work.{Work}
use Rattle.world_acts.specs.declared.open_line.Work.TheVariants.{Read, Whole, Write}
use Rattle.world_acts.specs.Acts.{IsPartOf, World}
use Rattle.world_acts.specs.Counts.{is_taken}
use Rattle.world_acts.specs.OpenLines.{is_whole, open_at}
use Rattle.world_acts.specs.Orderly.{IsOrderly}
use Rattle.world_acts.proofs.LinesKept.{hit}
use Rattle.world_history.specs.Told.{IsTold, IsWorkOf, answer_at, is_to_come}

-- ---- answers

abbrev tail_of : List Bool → List Bool
tail_of [] = []
tail_of (b ∷ bs) = bs

-- an open line has none in the table
none_yet : (list : List (Option OpenLine)) (answers : List (ℕ × Option Answer)) (n : ℕ) → map is_some list ≡ map is_open_line answers
    → is_some (get_or list n None) ≡ true
    → is_some (answer_at answers n) ≡ false
none_yet [] answers n same is = absurd (true≢false (sym is))
none_yet (o ∷ list) [] n same is = refl
none_yet (o ∷ list) (a ∷ answers) zero same is =
    not_true (is_some a.1) (sym (ap (λ (l : List Bool). get_or l 0 false) same) ∙ is)
none_yet (o ∷ list) (a ∷ answers) (suc n) same is = none_yet list answers n (ap tail_of same) is

mapped_none : {A B : Type 0} (f : A → B) (o : Option A) → is_some (option_map f o) ≡ is_some o
mapped_none f None = refl
mapped_none f (Some x) = refl

has_any : (o : Option (ℕ × Answer)) → has_answer (λ a. true) o ≡ is_some o
has_any None = refl
has_any (Some a) = refl

-- nor in the history
pub open_unanswered : {start : ℕ} {coming : ℕ → ℕ → ℕ} {w : World} {es : List ChronicleEntry} → IsOrderly w → IsTold start coming w es
    → (n : ℕ) (x : OpenLine) → open_at w.core.opens n ≡ Some x
    → is_answered es n ≡ false
open_unanswered {start} {coming} {w} {es} o t n x at =
    has_any (answer_in es n) ∙ sym (mapped_none (λ (a : ℕ × Answer). a.1) (answer_in es n))
    ∙ ap (λ (a : Option Answer). is_some a) (t.answers n)
    ∙ none_yet w.core.opens.list w.core.lines.answers n o.tidy.lines.opened (ap is_some at)

-- ---- lines that write

-- a line of which this is a part writes, and names a volume
pub record IsWriteLine (command : Command) (key : Option ℕ) (work : Work) : Type 0 where
  pub writing : writes command ≡ true
  pub stands : is_some key ≡ true
  pub part : is_whole work ≡ false

pub write_line : (c : Command) (key : Option ℕ) (work : Work) (failure : Option Answer) (piece : Piece) → piece.write ≡ true
    → IsWorkOf c key work failure
    → IsPartOf work piece
    → IsWriteLine c key work
write_line c key (Read first buffer) failure piece write does part = absurd (true≢false (sym write ∙ part.0))
write_line c key Write failure piece write does part = record { writing = does.0; stands = does.1; part = refl }
write_line c key (Whole answer) failure piece write does part = absurd part

-- the volume that it names
pub some_key : (key : Option ℕ) (own : ℕ) → is_some key ≡ true → own ≡ unwrap_or key 0 → key ≡ Some own
some_key None own stands keyed = absurd (true≢false (sym stands))
some_key (Some k) own stands keyed = ap Some (sym keyed)

-- what a piece that hasn't taken place counts for
pub piece_counts : (number q x : ℕ) (l : LivePiece) → is_taken l.stage ≡ false
    → hit (is_to_come q x (number, l)) ≡ hit ((l.line == q) && in_range l.piece.first l.piece.count x)
piece_counts number q x l untaken =
    ap (λ (b : Bool). hit ((l.line == q) && (not b && in_range l.piece.first l.piece.count x))) untaken
