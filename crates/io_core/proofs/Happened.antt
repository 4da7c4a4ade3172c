-- What events make of the lines that were begun, of the journal, and of what is left to do.
use Rattle.std.proofs.Common.{◌≡◌, ◌≤◌, ◌<◌, ℕ, ◌+◌, Bool, true, false, List, [], ◌∷◌, ◌++◌, length, Option, None, Some, MatchBool}
use Rattle.std.proofs.Common.{refl, sym, ap, subst, ◌∙◌, arith}
use mathlib.Core.List.{IsPrefix}
use Rattle.std.specs.List.{list_any}
use Rattle.lvm_script.specs.declared.line.Line.{Line}
use Rattle.line_table.specs.declared.journal.JournalEntry.{JournalEntry}
use Rattle.line_table.specs.Steps.{is_open}
use Rattle.disk_model.specs.State.{State}
use Rattle.disk_model.specs.declared.ops.Done.{Done}
use Rattle.world_acts.specs.declared.state.Core.{Core}
use Rattle.world_acts.specs.Acts.{Act, Allowed, Begins, IsGrown, Reaches, World, after, carries_on, follows, goes_on, left_in}
use Rattle.world_acts.specs.Orderly.{IsOrderly}
use Rattle.world_acts.proofs.Lasting.{begun_reaches, journal_reaches}
use Rattle.world_acts.proofs.Left.{left_ended, left_flushed, left_reaches}
use Rattle.world_acts.proofs.Orderly.{orderly_after}
use Rattle.world_acts.proofs.Reaching.{going_carried, reaches_act, reaches_both, reaches_none}
use Rattle.io_core.proofs.Continued.{carried_reaches, follows_going}
use Rattle.io_core.specs.declared.beginning.Begun.{Begun}
use Rattle.io_core.specs.Events.{Follows, IsBegunAs, IsCompleted, IsIdle, ending}

-- ---- a line is begun

pub begun_more : (w v : World) (line : Line) {begun : Begun} → IsBegunAs w line begun v
    → v.core.lines.begun ≡ w.core.lines.begun ++ line ∷ []
begun_more w v line is =
    let b = is.begins in
    begun_reaches (after is.grown (Begins line b.opened)) v (carried_reaches b.carried)
    ∙ ap (λ (c : Core). c.lines.begun ++ line ∷ []) is.grows.core

pub begun_longer : (w v : World) (line : Line) {begun : Begun} → IsBegunAs w line begun v
    → IsPrefix w.core.lines.journal v.core.lines.journal
begun_longer w v line is =
    let b = is.begins in
    let any : Act → Bool = λ a. true in
    let mid : World = after is.grown (Begins line b.opened) in
    let on : Reaches carries_on mid v = carried_reaches b.carried in
    let goes : Reaches any mid v = record { acts = on.acts; all = λ k d within. refl; run = on.run } in
    subst (λ (es : List JournalEntry). IsPrefix es v.core.lines.journal) (ap (λ (c : Core). c.lines.journal) is.grows.core)
    (journal_reaches any is.grown v
    (reaches_both any is.grown mid v (reaches_act any is.grown (Begins line b.opened) refl b.may) goes))

-- ---- an operation completes

-- what a flush or a piece's operation leaves, at its end
ended_begun : (w : World) (piece : Option ℕ) (done : Done) (now : State)
    → (after w (ending piece done now)).core.lines.begun ≡ w.core.lines.begun
ended_begun w None done now = refl
ended_begun w (Some piece) done now = refl

ended_journal : (w : World) (piece : Option ℕ) (done : Done) (now : State)
    → (after w (ending piece done now)).core.lines.journal ≡ w.core.lines.journal
ended_journal w None done now = refl
ended_journal w (Some piece) done now = refl

ended_left : (w : World) (piece : Option ℕ) (done : Done) (now : State) → Allowed w (ending piece done now)
    → left_in (after w (ending piece done now)) + 1 ≡ left_in w
ended_left w None done now may = left_flushed w done now may
ended_left w (Some piece) done now may = left_ended w done now may

follows_begun : (w v : World) (done : Done) (now : State) → Follows w done now v → v.core.lines.begun ≡ w.core.lines.begun
follows_begun w v done now is =
    let mid : World = after w (ending is.piece done now) in
    begun_reaches mid v (going_carried mid v (follows_going w v done now is)) ∙ ended_begun w is.piece done now

follows_longer : (w v : World) (done : Done) (now : State) → Follows w done now v → IsPrefix w.core.lines.journal v.core.lines.journal
follows_longer w v done now is =
    let mid : World = after w (ending is.piece done now) in
    subst (λ (es : List JournalEntry). IsPrefix es v.core.lines.journal) (ended_journal w is.piece done now)
    (journal_reaches goes_on mid v (follows_going w v done now is))

pub follows_left : (w v : World) (done : Done) (now : State) → IsOrderly w → Follows w done now v → left_in v < left_in w
follows_left w v done now o is =
    let mid : World = after w (ending is.piece done now) in
    let rest : left_in v ≤ left_in mid = left_reaches mid v (orderly_after w (ending is.piece done now) o is.allowed)
    (follows_going w v done now is) in
    omega (arith, rest, ended_left w is.piece done now is.allowed)

-- ---- an operation completes, or none does

pub turned_begun : (w v : World) (b : Bool) (X : Type 0) → MatchBool b (IsCompleted w v × X) (IsIdle w v)
    → v.core.lines.begun ≡ w.core.lines.begun
turned_begun w v true X made = follows_begun w v made.0.done made.0.now made.0.completes
turned_begun w v false X made = ap (λ (c : Core). c.lines.begun) made.same

pub turned_longer : (w v : World) (b : Bool) (X : Type 0) → MatchBool b (IsCompleted w v × X) (IsIdle w v)
    → IsPrefix w.core.lines.journal v.core.lines.journal
turned_longer w v true X made = follows_longer w v made.0.done made.0.now made.0.completes
turned_longer w v false X made =
    subst (λ (c : Core). IsPrefix w.core.lines.journal c.lines.journal) (sym made.same)
    (journal_reaches follows w w (reaches_none follows w))

-- ---- more is spare

-- what is seen of a world is as it was
pub record SeemsSame (w v : World) : Type 0 where
  pub begun : v.core.lines.begun ≡ w.core.lines.begun
  pub journal : v.core.lines.journal ≡ w.core.lines.journal
  pub in_flight : length v.shelf.in_flight ≡ length w.shelf.in_flight
  pub left : left_in v ≡ left_in w
  pub unanswered : list_any is_open v.core.lines.answers ≡ list_any is_open w.core.lines.answers
  pub barrier : v.core.barrier ≡ w.core.barrier

pub grown_seems : (w v : World) → IsGrown w v → SeemsSame w v
grown_seems w v is = record {
  begun = ap (λ (c : Core). c.lines.begun) is.core;
  journal = ap (λ (c : Core). c.lines.journal) is.core;
  in_flight = ap (λ (s : State). length s.in_flight) is.shelf;
  left = λ i. length (is.shelf i).in_flight + (is.core i).owed.ops;
  unanswered = ap (λ (c : Core). list_any is_open c.lines.answers) is.core;
  barrier = ap (λ (c : Core). c.barrier) is.core;
}
