-- The same lines stay open, each with its volume and its work (`SameLines`), where one is another now, or more or less of it is left.
use Rattle.std.proofs.Common.{◌≡◌, ℕ, ◌+◌, ◌-◌, true, false, cond, nat_eq, option_map, Option, None, Some}
use Rattle.std.proofs.Common.{refl, sym, ap, subst, ◌∙◌}
use Rattle.std.proofs.lemmas.Bool.{eqb-true, eqb-false}
use Rattle.std.proofs.lemmas.List.{get_or-set_other, get_or-set_same}
use Rattle.line_answers.specs.declared.answer.Answer.{Answer}
use Rattle.world_acts.specs.declared.open_line.OpenLine.{OpenLine}
use Rattle.world_acts.specs.declared.open_line.Work.{Work}
use Rattle.world_acts.specs.OpenLines.{Opens, after_added, after_failure, after_finished, is_pv_failed, open_at, open_of, with_open}
use Rattle.world_acts.proofs.LinesKept.{open_is, open_within}
use Rattle.io_core.specs.Rest.{SameLines, kind_at}

abbrev pub kind_of : Option OpenLine → Option (ℕ × Work)
kind_of opened = option_map (λ (o : OpenLine). (o.key, o.work)) opened

pub same_lines : (opens : Opens) → SameLines opens opens
same_lines opens line = refl

pub same_both : (old mid new : Opens) → SameLines old mid → SameLines mid new → SameLines old new
same_both old mid new a b line = b line ∙ a line

pub same_open : (opens : Opens) (line : ℕ) (o p : OpenLine) → open_at opens line ≡ Some o → kind_of (Some p) ≡ kind_of (Some o)
    → SameLines opens (with_open opens line p)
same_open opens line o p at kind q =
    elim (nat_eq line q) as (λ b. nat_eq line q ≡ b → kind_at (with_open opens line p) q ≡ kind_at opens q) [
      | true ↦ λ t. subst (λ (n : ℕ). kind_at (with_open opens line p) n ≡ kind_at opens n) (eqb-true line q t)
          (ap kind_of (get_or-set_same opens.list line (Some p) None (open_within opens line o at)) ∙ kind ∙ sym (ap kind_of at))
      | false ↦ λ t. ap kind_of (get_or-set_other opens.list line q (Some p) None (λ e. eqb-false line q t (sym e)))
    ] refl

pub same_added : (opens : Opens) (line : ℕ) (o : OpenLine) → open_at opens line ≡ Some o → SameLines opens (after_added opens line)
same_added opens line o at =
    subst (λ (x : OpenLine). SameLines opens (with_open opens line (record x { left = x.left + 1 }))) (sym (open_is opens line o at))
    (same_open opens line o (record o { left = o.left + 1 }) at refl)

pub same_finished : (opens : Opens) (line : ℕ) (o : OpenLine) → open_at opens line ≡ Some o → SameLines opens (after_finished opens line)
same_finished opens line o at =
    subst (λ (x : OpenLine). SameLines opens (with_open opens line (record x { left = x.left - 1 }))) (sym (open_is opens line o at))
    (same_open opens line o (record o { left = o.left - 1 }) at refl)

pub same_failed : (opens : Opens) (line : ℕ) (o : OpenLine) (why : Answer) → open_at opens line ≡ Some o
    → SameLines opens (after_failure opens line why)
same_failed opens line o why at =
    elim (is_pv_failed (open_of opens line).failure) as (λ b. SameLines opens
    (cond b opens (with_open opens line (record (open_of opens line) { failure = Some why })))) [
      | true ↦ same_lines opens
      | false ↦
          subst (λ (x : OpenLine). SameLines opens (with_open opens line (record x { failure = Some why })))
          (sym (open_is opens line o at)) (same_open opens line o (record o { failure = Some why }) at refl)
    ]
