-- How `IsQuiet` and `IsCalm` go over to another core: the two halves of `IsQuiet`, the pieces that are asked for and the lines that are
-- unfinished, go over one by one.
use Rattle.std.proofs.Common.{◌≡◌, ◌<◌, ◌⊎◌, ℕ, Bool, true, false, cond, nat_eq, List, Option, None, Some, IfSome, All, set}
use Rattle.std.proofs.Common.{inl, inr, refl, sym, subst, ◌∙◌, true≢false}
use Rattle.std.specs.List.{list_any}
use Rattle.std.specs.Option.{option_map_or}
use Rattle.std.proofs.lemmas.Bool.{eqb-true, eqb-false}
use Rattle.std.proofs.lemmas.List.{get_or-set_other}
use Rattle.std.proofs.lemmas.List.Elements.{All-weaker}
use Rattle.line_answers.specs.declared.answer.Answer.{Answer}
use Rattle.claim_table.specs.Steps.{has_number}
use Rattle.piece_table.specs.declared.live.LivePiece.{LivePiece}
use Rattle.world_acts.specs.declared.state.Core.{Core}
use Rattle.world_acts.specs.declared.open_line.OpenLine.{OpenLine}
use Rattle.world_acts.specs.OpenLines.{Opens, after_failure, is_pv_failed, open_at, open_of, with_open}
use Rattle.world_acts.proofs.Tables.{Changes, all_changed}
use Rattle.io_core.specs.Rest.{IsAsked, IsUnfinished}

-- ---- lines

-- apart from those that pass the test, each open line is unfinished
abbrev pub AreUnfinished : (ℕ → Bool) → Core → Type 0
AreUnfinished lines c = (line : ℕ) → lines line ≡ false → IsUnfinished c line

-- each other line is open as it was
abbrev pub OthersStay : ℕ → Opens → Opens → Type 0
OthersStay line old new = (q : ℕ) → nat_eq line q ≡ false → open_at new q ≡ open_at old q

pub others_set : (opens : Opens) (line : ℕ) (o : Option OpenLine)
    → OthersStay line opens (record opens { list = set opens.list line o })
others_set opens line o q apart = get_or-set_other opens.list line q o None (λ e. eqb-false line q apart (sym e))

pub others_failed : (opens : Opens) (line : ℕ) (why : Answer) → OthersStay line opens (after_failure opens line why)
others_failed opens line why =
    elim (is_pv_failed (open_of opens line).failure) as (λ b. OthersStay line opens
    (cond b opens (with_open opens line (record (open_of opens line) { failure = Some why })))) [
      | true ↦ λ q apart. refl
      | false ↦ others_set opens line (Some (record (open_of opens line) { failure = Some why }))
    ]

pub others_both : (line : ℕ) (old mid new : Opens) → OthersStay line old mid → OthersStay line mid new → OthersStay line old new
others_both line old mid new a b q apart = b q apart ∙ a q apart

-- the same, by what is known of the line
abbrev pub IsUnfinishedAs : Option OpenLine → Option ℕ → ℕ → Type 0
IsUnfinishedAs opened barrier line =
    (opened ≡ None) ⊎ ((0 < option_map_or (λ (o : OpenLine). o.left) opened 0) ⊎ (barrier ≡ Some line))

unfinished_over : (opened : Option OpenLine) (old new : Option ℕ) (line : ℕ) → (old ≡ Some line → new ≡ Some line)
    → IsUnfinishedAs opened old line
    → IsUnfinishedAs opened new line
unfinished_over opened old new line waits (inl none) = inl none
unfinished_over opened old new line waits (inr (inl left)) = inr (inl left)
unfinished_over opened old new line waits (inr (inr is)) = inr (inr (waits is))

-- one line changes, which is unfinished now or still exempt
pub unfinished_changed : (lines now : ℕ → Bool) (c d : Core) (line : ℕ) → OthersStay line c.opens d.opens
    → ((q : ℕ) → nat_eq line q ≡ false → c.barrier ≡ Some q → d.barrier ≡ Some q)
    → ((q : ℕ) → nat_eq line q ≡ false → now q ≡ false → lines q ≡ false)
    → (now line ≡ false → IsUnfinished d line)
    → AreUnfinished lines c
    → AreUnfinished now d
unfinished_changed lines now c d line others waits weaker own are q not =
    elim (nat_eq line q) as (λ b. nat_eq line q ≡ b → IsUnfinished d q) [
      | true ↦ λ t. subst (λ (n : ℕ). now n ≡ false → IsUnfinished d n) (eqb-true line q t) own not
      | false ↦ λ t.
          subst (λ (o : Option OpenLine). IsUnfinishedAs o d.barrier q) (sym (others q t))
          (unfinished_over (open_at c.opens q) c.barrier d.barrier q (waits q t) (are q (weaker q t not)))
    ] refl

-- one line changes, which is exempt before and after
pub unfinished_but : (lines : ℕ → Bool) (c d : Core) (line : ℕ) → lines line ≡ true → OthersStay line c.opens d.opens
    → d.barrier ≡ c.barrier
    → AreUnfinished lines c
    → AreUnfinished lines d
unfinished_but lines c d line exempt others barrier are =
    unfinished_changed lines lines c d line others (λ q apart is. barrier ∙ is) (λ q apart not. not)
    (λ not. absurd (true≢false (sym exempt ∙ not))) are

-- no line changes
pub unfinished_same : (lines now : ℕ → Bool) (c d : Core) → d.opens ≡ c.opens → d.barrier ≡ c.barrier
    → ((q : ℕ) → now q ≡ false → lines q ≡ false)
    → AreUnfinished lines c
    → AreUnfinished now d
unfinished_same lines now c d opens barrier weaker are q not =
    subst (λ (o : Opens). IsUnfinishedAs (open_at o q) d.barrier q) (sym opens)
    (subst (λ (b : Option ℕ). IsUnfinishedAs (open_at c.opens q) b q) (sym barrier) (are q (weaker q not)))

-- ---- pieces

-- apart from those that pass the test, each piece is asked for
abbrev pub AreAsked : (ℕ → Bool) → Core → Type 0
AreAsked pieces c = All (λ (e : ℕ × LivePiece). pieces e.0 ≡ false → IsAsked c e) c.pieces.lives

-- whether the piece is deferred
abbrev pub is_deferred : Core → ℕ → Bool
is_deferred c number = list_any (has_number number) c.pieces.claims.deferred

pub asked_over : (c d : Core) (e : ℕ × LivePiece) → (is_deferred c e.0 ≡ true → is_deferred d e.0 ≡ true) → IsAsked c e → IsAsked d e
asked_over c d e stays is = record { waits = λ w. stays (is.waits w); flies = is.flies; stays = is.stays }

-- one piece changes, comes or leaves, which is asked for now, gone, or still exempt; each other deferred one stays so
pub asked_changed : (pieces now : ℕ → Bool) (c d : Core) {number : ℕ} {old new : Option LivePiece}
    → Changes number old new c.pieces.lives d.pieces.lives
    → ((q : ℕ) → nat_eq number q ≡ false → is_deferred c q ≡ true → is_deferred d q ≡ true)
    → ((q : ℕ) → nat_eq number q ≡ false → now q ≡ false → pieces q ≡ false)
    → IfSome new (λ l. now number ≡ false → IsAsked d (number, l))
    → AreAsked pieces c
    → AreAsked now d
asked_changed pieces now c d {number} {old} {new} changes stays weaker own are =
    all_changed (λ (e : ℕ × LivePiece). pieces e.0 ≡ false → IsAsked c e) (λ (e : ℕ × LivePiece). now e.0 ≡ false → IsAsked d e) changes
    are (λ q l apart at is not. asked_over c d (q, l) (stays q apart) (is (weaker q apart not))) own

-- no piece changes; each deferred one that isn't exempt stays so
pub asked_same : (pieces now : ℕ → Bool) (c d : Core) → d.pieces.lives ≡ c.pieces.lives
    → ((q : ℕ) → now q ≡ false → is_deferred c q ≡ true → is_deferred d q ≡ true)
    → ((q : ℕ) → now q ≡ false → pieces q ≡ false)
    → AreAsked pieces c
    → AreAsked now d
asked_same pieces now c d same stays weaker are =
    subst (λ (l : List (ℕ × LivePiece)). All (λ (e : ℕ × LivePiece). now e.0 ≡ false → IsAsked d e) l) (sym same)
    (All-weaker (λ (e : ℕ × LivePiece). pieces e.0 ≡ false → IsAsked c e) (λ (e : ℕ × LivePiece). now e.0 ≡ false → IsAsked d e)
    (λ e is not. asked_over c d e (stays e.0 not) (is (weaker e.0 not))) c.pieces.lives are)
