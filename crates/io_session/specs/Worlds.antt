-- What is said of worlds.
use Rattle.std.specs.Prelude.{◌≡◌, ℕ, Bool, true, false, List}
use Rattle.line_table.specs.declared.journal.JournalEntry.{JournalEntry}

-- where memory was wanted, all that is seen of the world is as it was
pub record KeepsAll {W L : Type 0} (begun : W → List L) (journal : W → List JournalEntry) (in_flight left : W → ℕ)
    (is_due is_done : W → Bool) (allows : W → L → Bool) (old new : W) : Type 0 where
  pub same_begun : begun new ≡ begun old
  pub same_journal : journal new ≡ journal old
  pub same_in_flight : in_flight new ≡ in_flight old
  pub same_left : left new ≡ left old
  pub same_due : is_due new ≡ is_due old
  pub same_done : is_done new ≡ is_done old
  pub same_allowed : (line : L) → allows new line ≡ allows old line

-- each line that was begun is answered, and any line may begin
pub record IsIdle {W L : Type 0} (is_done : W → Bool) (allows : W → L → Bool) (world : W) : Type 0 where
  pub all_answered : is_done world ≡ true
  pub any_may_begin : (line : L) → allows world line ≡ true

-- a wait found nothing in flight: what is due and done is as it was, and the world was idle unless a commit was due
pub record IsDrained {W L : Type 0} (in_flight : W → ℕ) (is_due is_done : W → Bool) (allows : W → L → Bool) (old new : W) : Type 0 where
  pub none_in_flight : in_flight new ≡ 0
  pub same_due : is_due new ≡ is_due old
  pub same_done : is_done new ≡ is_done old
  pub idle : is_due old ≡ false → IsIdle is_done allows old
