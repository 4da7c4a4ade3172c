-- A line that is open is told to be.
use Rattle.std.proofs.Common.{◌≡◌, ◌<◌, ℕ, zero, suc, Bool, true, false, not, nat_lt, List, [], ◌∷◌, Option, None, Some, get_or, length}
use Rattle.std.proofs.Common.{is_some, map, option_map, refl, sym, ap, ◌∙◌, arith, true≢false}
use Rattle.line_answers.specs.declared.answer.Answer.{Answer}
use Rattle.list_laws.proofs.Bools.{and_both, lt_true, not_false, not_true}
use Rattle.line_table.specs.Steps.{is_open as is_open_line}
use Rattle.volume_history.specs.Chronicles.{ChronicleEntry, answer_in, count_begun, has_answer, is_answered, is_open}
use Rattle.world_acts.specs.declared.open_line.OpenLine.{OpenLine}
use Rattle.world_acts.specs.Acts.{World}
use Rattle.world_acts.specs.OpenLines.{open_at}
use Rattle.world_acts.specs.Orderly.{IsOrderly}
use Rattle.world_acts.proofs.Begun.{open_begun}
use Rattle.world_history.specs.Told.{IsTold, answer_at}

abbrev pub tail_of : List Bool → List Bool
tail_of [] = []
tail_of (b ∷ bs) = bs

-- an open line has no answer
unanswered : (list : List (Option OpenLine)) (answers : List (ℕ × Option Answer)) (n : ℕ) → map is_some list ≡ map is_open_line answers
    → is_some (get_or list n None) ≡ true
    → is_some (answer_at answers n) ≡ false
unanswered [] answers n same is = absurd (true≢false (sym is))
unanswered (o ∷ list) [] n same is = cc
unanswered (o ∷ list) (a ∷ answers) zero same is =
    not_true (is_some a.1) (sym (ap (λ (l : List Bool). get_or l 0 false) same) ∙ is)
unanswered (o ∷ list) (a ∷ answers) (suc n) same is = unanswered list answers n (ap tail_of same) is

-- one that was begun and has none is open
opened : (list : List (Option OpenLine)) (answers : List (ℕ × Option Answer)) (n : ℕ) → map is_some list ≡ map is_open_line answers
    → n < length answers
    → is_some (answer_at answers n) ≡ false
    → is_some (get_or list n None) ≡ true
opened list [] n same below none = absurd (omega (arith, below))
opened [] (a ∷ answers) n same below none = cc
opened (o ∷ list) (a ∷ answers) zero same below none =
    ap (λ (l : List Bool). get_or l 0 false) same ∙ not_false (is_some a.1) none
opened (o ∷ list) (a ∷ answers) (suc n) same below none = opened list answers n (ap tail_of same) (omega (arith, below)) none

mapped_none : {A B : Type 0} (f : A → B) (o : Option A) → is_some (option_map f o) ≡ is_some o
mapped_none f None = refl
mapped_none f (Some x) = refl

has_any : (o : Option (ℕ × Answer)) → has_answer (λ a. true) o ≡ is_some o
has_any None = refl
has_any (Some a) = refl

module _ {start : ℕ} {coming : ℕ → ℕ → ℕ} {w : World} {es : List ChronicleEntry} (t : IsTold start coming w es) (o : IsOrderly w) where
  -- a line is answered where its entries say so
  pub answered_told : (n : ℕ) → is_answered es n ≡ is_some (answer_at w.core.lines.answers n)
  answered_told n =
      has_any (answer_in es n) ∙ sym (mapped_none (λ (a : ℕ × Answer). a.1) (answer_in es n))
      ∙ ap (λ (x : Option Answer). is_some x) (t.answers n)

  pub open_told : (n : ℕ) (x : OpenLine) → open_at w.core.opens n ≡ Some x → is_open es n ≡ true
  open_told n x at =
      let below : n < count_begun es = (let within = open_begun n x o.tidy.lines at in omega (arith, within, t.count)) in
      and_both (nat_lt n (count_begun es)) (not (is_answered es n)) (lt_true n (count_begun es) below)
      (not_false (is_answered es n)
      (answered_told n ∙ unanswered w.core.opens.list w.core.lines.answers n o.tidy.lines.opened (ap is_some at)))

  -- and the other way round
  pub told_open : (n : ℕ) → n < count_begun es → is_answered es n ≡ false → is_some (open_at w.core.opens n) ≡ true
  told_open n below none =
      opened w.core.opens.list w.core.lines.answers n o.tidy.lines.opened (omega (arith, below, t.count, o.tidy.lines.many))
      (sym (answered_told n) ∙ none)
