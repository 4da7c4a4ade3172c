-- What the lines of a session came to: memory was wanted for one of them, or each was begun; and each that was begun is answered, under its
-- number.
use Rattle.std.proofs.Common.{◌≡◌, ◌⊎◌, ℕ, Bool, true, false, All, List, [], ◌++◌, length, length-append, map, Option, None, Some}
use Rattle.std.proofs.Common.{get_or, is_some, inl, inr, refl, sym, ap, subst, ◌∙◌, arith, true≢false}
use Rattle.std.specs.List.{list_any}
use Rattle.std.proofs.lemmas.List.{nil_from_length}
use Rattle.line_answers.specs.declared.answer.Answer.{Answer}
use Rattle.lvm_script.specs.declared.line.Line.{Line}
use Rattle.disk_model.specs.State.{State}
use Rattle.line_table.specs.Steps.{is_open}
use Rattle.vg_found.specs.declared.found.Found.{Found}
use Rattle.list_laws.proofs.Bools.{not_true}
use Rattle.list_laws.proofs.Inserted.{none_at}
use Rattle.io_session.specs.Desks.{unbegun}
use Rattle.world_history.proofs.PlainAnswers.{HasPlainAnswers, IsPlain, SaidPlain, run_plain}
use Rattle.session_run.specs.Running.{RunsLines, unbegun_answers}
use Rattle.session_run.specs.Status.{is_wanting}
use Rattle.session_run.specs.declared.running.RanLines.{RanLines}

-- a line that was begun is answered, and by none of the answers that only other commands have
abbrev pub IsAnswered : ℕ × Option Answer → Type 0
IsAnswered line = (said : Answer) × (line.1 ≡ Some said) × IsPlain said

-- each of these lines was begun, in order
pub record AreAllBegun (lines : List Line) (answers unbegun : List (ℕ × Option Answer)) : Type 0 where
  pub none : unbegun ≡ []
  pub numbers : map (λ (a : ℕ × Option Answer). a.0) answers ≡ map (λ (l : Line). l.number) lines

-- memory was wanted for one of these
abbrev pub IsWanting : List (ℕ × Option Answer) → Type 0
IsWanting answers = list_any (λ (l : ℕ × Option Answer). is_wanting l.1) answers ≡ true

-- ---- lines without an answer

answered : (line : ℕ × Option Answer) → is_open line ≡ false → SaidPlain line → IsAnswered line
answered (number, None) is plain = absurd (true≢false is)
answered (number, Some said) is plain = (said, refl, plain)

all_answered : (answers : List (ℕ × Option Answer)) → list_any is_open answers ≡ false → All SaidPlain answers → All IsAnswered answers
all_answered answers none plain =
    λ k d within. answered (get_or answers k d) (none_at is_open answers k d none within) (plain k d within)

-- ---- lines that weren't begun

nothing_left : (begun rest script : List Line) → begun ≡ script → begun ++ rest ≡ script → rest ≡ []
nothing_left begun rest script all whole =
    nil_from_length rest
    (omega (arith, length-append begun rest, ap (λ (l : List Line). length l) whole, ap (λ (l : List Line). length l) all))

module _ {S : Type 0} (state : S → State) (found : Found) (shelf : S) (lines : List Line) (ran : RanLines S)
    (runs : RunsLines state found shelf lines ran) where
  plain : HasPlainAnswers runs.run.world.core × (runs.run.wanted ≡ true → is_some runs.run.refused ≡ true)
  plain =
      run_plain state runs.start lines found _ _ runs.run.world runs.run.wanted runs.run.refused runs.opened runs.carried.continued

  pub lines_answered : All IsAnswered ran.answers.items
  lines_answered =
      subst (λ (answers : List (ℕ × Option Answer)). All IsAnswered answers) (sym runs.answers)
      (all_answered runs.run.world.core.lines.answers
      (not_true (list_any is_open runs.run.world.core.lines.answers) runs.carried.all_answered) plain.0.answers)

  -- by the line that came back, if one did
  by_refused : (refused : Option Line) → (runs.run.wanted ≡ true → is_some refused ≡ true)
      → runs.run.world.core.lines.begun ++ unbegun refused runs.run.rest.items ≡ lines
      → ran.unbegun.items ≡ unbegun_answers refused runs.run.rest.items
      → IsWanting ran.unbegun.items ⊎ AreAllBegun lines ran.answers.items ran.unbegun.items
  by_refused (Some line) some whole is = inl (subst IsWanting (sym is) refl)
  by_refused None some whole is = inr (by runs.run.wanted refl)
    where
      by : (wanted : Bool) → runs.run.wanted ≡ wanted → AreAllBegun lines ran.answers.items ran.unbegun.items
      by true wanted = absurd (true≢false (sym (some wanted)))
      by false wanted =
          let all : runs.run.world.core.lines.begun ≡ lines = runs.carried.all_begun wanted in
          let left : runs.run.rest.items ≡ [] = nothing_left runs.run.world.core.lines.begun runs.run.rest.items lines all whole in
          record {
            none = is ∙ ap (λ (rest : List Line). unbegun_answers None rest) left;
            numbers =
                ap (λ (answers : List (ℕ × Option Answer)). map (λ (a : ℕ × Option Answer). a.0) answers) runs.answers
                ∙ plain.0.numbers ∙ ap (λ (begun : List Line). map (λ (l : Line). l.number) begun) all;
          }

  pub lines_begun : IsWanting ran.unbegun.items ⊎ AreAllBegun lines ran.answers.items ran.unbegun.items
  lines_begun = by_refused runs.run.refused plain.1 runs.carried.whole_script runs.unbegun
