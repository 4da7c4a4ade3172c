-- The exit status of the answers of two lists of lines.
use Rattle.std.proofs.Common.{◌≡◌, ◌∙◌, ℕ, Bool, true, false, if◌then◌else◌, List, ◌++◌, Option, refl, ap}
use Rattle.std.specs.Prelude.{◌||◌}
use Rattle.std.specs.List.{list_any}
use Rattle.std.proofs.lemmas.List.Folds.{list_any-append}
use Rattle.line_answers.specs.declared.answer.Answer.{Answer}
use Rattle.session_run.specs.Status.{is_device, is_refusal, is_wanting, status_of_lines}
use Rattle.lvm_run.specs.Sessions.{first_status}

-- by the three tests
abbrev by_tests : Bool → Bool → Bool → ℕ
by_tests wanting device refusal = if wanting then 2 else if device then 6 else if refusal then 5 else 0

of_both : (w d r v e s : Bool) → by_tests (w || v) (d || e) (r || s) ≡ first_status (by_tests w d r) (by_tests v e s)
of_both true d r v e s = refl
of_both false true r true e s = refl
of_both false true r false true s = refl
of_both false true r false false true = refl
of_both false true r false false false = refl
of_both false false true true e s = refl
of_both false false true false true s = refl
of_both false false true false false true = refl
of_both false false true false false false = refl
of_both false false false true e s = refl
of_both false false false false true s = refl
of_both false false false false false true = refl
of_both false false false false false false = refl

abbrev pub wants : ℕ × Option Answer → Bool
wants line = is_wanting line.1

abbrev pub fails : ℕ × Option Answer → Bool
fails line = is_device line.1

abbrev pub refuses : ℕ × Option Answer → Bool
refuses line = is_refusal line.1

pub status_of_two : (xs ys : List (ℕ × Option Answer))
    → status_of_lines (xs ++ ys) ≡ first_status (status_of_lines xs) (status_of_lines ys)
status_of_two xs ys =
    ap (λ (b : Bool). by_tests b (list_any fails (xs ++ ys)) (list_any refuses (xs ++ ys))) (list_any-append wants xs ys)
    ∙ ap (λ (b : Bool). by_tests (list_any wants xs || list_any wants ys) b (list_any refuses (xs ++ ys))) (list_any-append fails xs ys)
    ∙ ap (λ (b : Bool). by_tests (list_any wants xs || list_any wants ys) (list_any fails xs || list_any fails ys) b)
    (list_any-append refuses xs ys)
    ∙ of_both (list_any wants xs) (list_any fails xs) (list_any refuses xs) (list_any wants ys) (list_any fails ys) (list_any refuses ys)
