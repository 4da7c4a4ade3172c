-- The lines of a history, with their answers.
use Rattle.std.proofs.Common.{◌≡◌, ℕ, suc, ◌+◌, ◌==◌, List, [], ◌∷◌, ◌++◌, Option, length, option_map, refl, sym, ap, ◌∙◌, arith}
use Rattle.line_answers.specs.declared.answer.Answer.{Answer}
use Rattle.lvm_script.specs.declared.line.Line.{Line}
use Rattle.list_laws.proofs.Bools.{and_cases, eq_of}
use Rattle.volume_history.specs.Chronicles.{Answered, Begun, Changed, ChronicleEntry, Failed, GivenUp, Opened, Took, answer_in, count_begun}
use Rattle.volume_history.specs.Chronicles.{may_begin}
use Rattle.volume_history.specs.Legal.{AllOrdered}
use Rattle.volume_history.specs.Runs.{lines_of}
use Rattle.world_history.specs.Ordered.{lines_with}
use Rattle.world_history.specs.Told.{answer_at, begun_list}
use Rattle.world_history.proofs.EntryLists.{counted}

with_pushed : (at : ℕ) (lines : List Line) (line : Line) (answers : List (ℕ × Option Answer))
    → lines_with at (lines ++ line ∷ []) answers ≡ lines_with at lines answers ++ (line, answer_at answers (at + length lines)) ∷ []
with_pushed at [] line answers =
    let e : at + 0 ≡ at = omega arith in ap (λ (k : ℕ). (line, answer_at answers k) ∷ []) (sym e)
with_pushed at (l ∷ lines) line answers =
    let e : at + 1 + length lines ≡ at + suc (length lines) = omega arith in
    ap (λ (ls : List (Line × Option Answer)). (l, answer_at answers at) ∷ ls)
    (with_pushed (at + 1) lines line answers
    ∙ ap (λ (k : ℕ). lines_with (at + 1) lines answers ++ (line, answer_at answers k) ∷ []) e)

pub lines_told : (start : ℕ) (all es : List ChronicleEntry) (answers : List (ℕ × Option Answer)) → AllOrdered start es
    → ((n : ℕ) → option_map (λ (a : ℕ × Answer). a.1) (answer_in all n) ≡ answer_at answers n)
    → lines_of all es ≡ lines_with 0 (begun_list es) answers
lines_told start all [] answers ordered each = refl
lines_told start all (Begun m k line key ∷ es) answers ordered each =
    let here : k ≡ count_begun es =
    eq_of k (count_begun es) (and_cases (k == count_begun es) (may_begin es line) ordered.0.order).0 in
    let place : k ≡ 0 + length (begun_list es) = omega (arith, here, counted es) in
    (λ i. lines_told start all es answers ordered.1 each i ++ (line, (each k ∙ ap (answer_at answers) place) i) ∷ [])
    ∙ sym (with_pushed 0 (begun_list es) line answers)
lines_told start all (Opened m k version ∷ es) answers ordered each = lines_told start all es answers ordered.1 each
lines_told start all (Took m k piece ∷ es) answers ordered each = lines_told start all es answers ordered.1 each
lines_told start all (Changed m k version ∷ es) answers ordered each = lines_told start all es answers ordered.1 each
lines_told start all (GivenUp m k ∷ es) answers ordered each = lines_told start all es answers ordered.1 each
lines_told start all (Failed m k piece ∷ es) answers ordered each = lines_told start all es answers ordered.1 each
lines_told start all (Answered m k answer ∷ es) answers ordered each = lines_told start all es answers ordered.1 each
