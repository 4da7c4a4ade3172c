-- Steps that add no entry: what stays told.
use Rattle.std.proofs.Common.{◌≡◌, ◌≤◌, All, ℕ, ◌+◌, List, Option, Some, is_some, length, slice_get, inl, inr, sym, ap, subst}
use Rattle.std.proofs.Common.{◌∙◌, ◌⊎◌, arith}
use Rattle.line_answers.specs.declared.answer.Answer.{Answer}
use Rattle.lvm_script.specs.declared.line.Line.{Line}
use Rattle.flush_waits.specs.Waits.{DiskWaits}
use Rattle.piece_table.specs.declared.live.LivePiece.{LivePiece}
use Rattle.volume_history.specs.Chronicles.{ChronicleEntry}
use Rattle.world_acts.specs.declared.open_line.OpenLine.{OpenLine}
use Rattle.world_acts.specs.Acts.{World}
use Rattle.world_acts.specs.Counts.{is_line, waiting}
use Rattle.world_acts.specs.OpenLines.{Opens, open_at}
use Rattle.world_acts.proofs.Tables.{some_of}
use Rattle.world_history.specs.Told.{IsOfThrough, IsOnly, IsTold, IsWaiting, LineTold, answer_at, to_come}
use Rattle.world_history.proofs.OneLine.{LineIs, Standing, elsewhere, here, standing}

-- what stays told of a line whose pieces and waits count for no more
pub line_still : {coming coming' : ℕ → ℕ} {lives lives' : List (ℕ × LivePiece)} {disks disks' : List DiskWaits} {es : List ChronicleEntry}
    {n : ℕ} (o : OpenLine)
    → ((x : ℕ) → to_come n x lives' + coming' x ≡ to_come n x lives + coming x)
    → waiting (is_line n) disks' ≤ waiting (is_line n) disks
    → LineTold coming lives disks es n o
    → LineTold coming' lives' disks' es n o
line_still o counts waits l = (
  l.0,
  l.1,
  record {
    keyed = l.2.keyed;
    does = l.2.does;
    some = l.2.some;
    once = λ x. let was = l.2.once x in let same = counts x in omega (arith, was, same);
    took = l.2.took;
    lost = l.2.lost;
    none = l.2.none;
    still = λ still. let was = l.2.still still in omega (arith, was, waits);
  },
)

-- lines that are open now were so before
abbrev pub WereOpen : Opens → Opens → Type 0
WereOpen old new = (q : ℕ) (x : OpenLine) → open_at new q ≡ Some x → (y : OpenLine) × (open_at old q ≡ Some y)

pub were_same : (opens : Opens) → WereOpen opens opens
were_same opens q x at = (x, at)

pub were_open : {line : ℕ} {p : Option OpenLine} {old new : Opens} (o : OpenLine) → open_at old line ≡ Some o → LineIs line p old new
    → WereOpen old new
were_open {line} {p} {old} o at is q x there = by (standing is q x there)
  where
    by : Standing line q p old x → (y : OpenLine) × (open_at old q ≡ Some y)
    by (here same own) = (o, subst (λ (k : ℕ). open_at old k ≡ Some o) same at)
    by (elsewhere apart own) = (x, own)

-- the wait that isn't the line that waits for all others is open alone
only_back : (w v : World) (n : ℕ) → WereOpen w.core.opens v.core.opens → IsOnly w n → IsOnly v n
only_back w v n were only q opened =
    let now = some_of (open_at v.core.opens q) opened in
    let was = were q now.0 now.1 in
    only q (ap is_some was.1)

pub waits_back : {start : ℕ} {coming : ℕ → ℕ → ℕ} {w : World} {es : List ChronicleEntry} (t : IsTold start coming w es) (v : World)
    → v.core.lines.begun ≡ w.core.lines.begun
    → v.core.barrier ≡ w.core.barrier
    → WereOpen w.core.opens v.core.opens
    → (n : ℕ) (o : OpenLine) (line : Line) → open_at v.core.opens n ≡ Some o → slice_get v.core.lines.begun n ≡ Some line
    → IsWaiting v n line
waits_back {start} {coming} {w} t v begun barrier were n o line at is wait =
    let was = were n o at in
    by (t.waits n was.0 line was.1 (ap (λ (l : List Line). slice_get l n) (sym begun) ∙ is) wait)
  where
    by : (w.core.barrier ≡ Some n) ⊎ IsOnly w n → (v.core.barrier ≡ Some n) ⊎ IsOnly v n
    by (inl holds) = inl (barrier ∙ holds)
    by (inr only) = inr (only_back w v n were only)

-- nothing is entered
pub quiet_told : {start : ℕ} {coming : ℕ → ℕ → ℕ} {w : World} {es : List ChronicleEntry} (t : IsTold start coming w es)
    (coming' : ℕ → ℕ → ℕ) (v : World)
    → v.core.lines.journal ≡ w.core.lines.journal
    → v.core.lines.begun ≡ w.core.lines.begun
    → v.core.lines.answers ≡ w.core.lines.answers
    → w.shelf.steps ≤ v.shelf.steps
    → ((n : ℕ) (o : OpenLine) → open_at v.core.opens n ≡ Some o
    → LineTold (coming' n) v.core.pieces.lives v.core.waits.disks es n o)
    → All (IsOfThrough v.core.lines.begun) v.core.pieces.lives
    → ((n : ℕ) (o : OpenLine) (line : Line) → open_at v.core.opens n ≡ Some o → slice_get v.core.lines.begun n ≡ Some line
    → IsWaiting v n line)
    → IsTold start coming' v es
quiet_told t coming' v journal begun answers steps lines through waits = record {
  journal = t.journal ∙ sym journal;
  ordered = t.ordered;
  moment = (let most = t.moment in omega (arith, most, steps));
  committed = t.committed;
  count = t.count ∙ ap (λ (l : List Line). length l) (sym begun);
  begun = t.begun ∙ sym begun;
  answers = λ n. t.answers n ∙ ap (λ (l : List (ℕ × Option Answer)). answer_at l n) (sym answers);
  lines = lines;
  through = through;
  waits = waits;
}
