-- Open lines that fail were failing, or have just begun to.
use Rattle.std.proofs.Common.{◌≡◌, ◌⊎◌, ℕ, ◌+◌, ◌-◌, List, Option, None, Some, inl, inr, refl, sym, ap, subst, ◌∙◌}
use Rattle.std.proofs.lemmas.Bool.{cond_both}
use Rattle.std.proofs.lemmas.Option.{none-some, same_Some}
use Rattle.line_answers.specs.declared.answer.Answer.{Answer}
use Rattle.world_acts.specs.declared.open_line.OpenLine.{OpenLine}
use Rattle.world_acts.specs.OpenLines.{Opens, after_added, after_closed, after_failure, after_filled, after_finished, filled, is_pv_failed}
use Rattle.world_acts.specs.OpenLines.{open_at, open_of, with_open}
use Rattle.world_acts.proofs.LinesKept.{open_is}
use Rattle.world_tracks.proofs.WaitSteps.{set_keeps}

-- a line that is open now was, and failed so
pub record WasFailing (old : Opens) (n : ℕ) (why : Answer) : Type 0 where
  pub opened : OpenLine
  pub is_open : open_at old n ≡ Some opened
  pub fails : opened.failure ≡ Some why

-- each line that fails did
abbrev pub FailedBefore : Opens → Opens → Type 0
FailedBefore old new = (n : ℕ) (p : OpenLine) (why : Answer) → open_at new n ≡ Some p → p.failure ≡ Some why → WasFailing old n why

pub before_itself : (opens : Opens) → FailedBefore opens opens
before_itself opens n p why at fails = record { opened = p; is_open = at; fails = fails }

pub before_both : (old mid new : Opens) → FailedBefore old mid → FailedBefore mid new → FailedBefore old new
before_both old mid new a b n p why at fails =
    let m : WasFailing mid n why = b n p why at fails in a n m.opened why m.is_open m.fails

-- an open line is another now, which fails as it did
before_set : (opens : Opens) (line : ℕ) (o p : OpenLine) → open_at opens line ≡ Some o → p.failure ≡ (open_of opens line).failure
    → FailedBefore opens (with_open opens line p)
before_set opens line o p at failure n q why is fails =
    set_keeps
    (λ (x : Option OpenLine). (r : OpenLine) → x ≡ Some r → r.failure ≡ Some why → WasFailing opens n why) opens.list line n (Some p)
    None (λ r is fails. before_itself opens n r why is fails)
    (λ e r is fails. subst (λ (k : ℕ). WasFailing opens k why) e
    (record {
      opened = o;
      is_open = at;
      fails =
          ap (λ (x : OpenLine). x.failure) (sym (open_is opens line o at)) ∙ sym failure
          ∙ ap (λ (x : OpenLine). x.failure) (same_Some p r is) ∙ fails;
    })) q is fails

pub before_added : (opens : Opens) (line : ℕ) (o : OpenLine) → open_at opens line ≡ Some o → FailedBefore opens (after_added opens line)
before_added opens line o at =
    before_set opens line o (record (open_of opens line) { left = (open_of opens line).left + 1 }) at refl

pub before_finished : (opens : Opens) (line : ℕ) (o : OpenLine) → open_at opens line ≡ Some o
    → FailedBefore opens (after_finished opens line)
before_finished opens line o at =
    before_set opens line o (record (open_of opens line) { left = (open_of opens line).left - 1 }) at refl

pub before_filled : (opens : Opens) (line first : ℕ) (sectors : List (List ℕ)) (o : OpenLine) → open_at opens line ≡ Some o
    → FailedBefore opens (after_filled opens line first sectors)
before_filled opens line first sectors o at =
    before_set opens line o (record (open_of opens line) { work = filled (open_of opens line).work first sectors }) at refl

pub before_closed : (opens : Opens) (line : ℕ) → FailedBefore opens (after_closed opens line)
before_closed opens line n q why is fails =
    set_keeps
    (λ (x : Option OpenLine). (r : OpenLine) → x ≡ Some r → r.failure ≡ Some why → WasFailing opens n why) opens.list line n None None
    (λ r is fails. before_itself opens n r why is fails) (λ e r is fails. absurd (none-some r is)) q is fails

-- but one, which fails so now
abbrev pub FailedBut : ℕ → Answer → Opens → Opens → Type 0
FailedBut line this old new =
    (n : ℕ) (p : OpenLine) (why : Answer) → open_at new n ≡ Some p → p.failure ≡ Some why
    → WasFailing old n why ⊎ ((n ≡ line) × (why ≡ this))

pub but_failed : (opens : Opens) (line : ℕ) (this : Answer) (o : OpenLine) → open_at opens line ≡ Some o
    → FailedBut line this opens (after_failure opens line this)
but_failed opens line this o at =
    let p : OpenLine = record (open_of opens line) { failure = Some this } in
    cond_both (is_pv_failed (open_of opens line).failure) opens (with_open opens line p) (λ (x : Opens). FailedBut line this opens x)
    (λ t n q why is fails. inl (before_itself opens n q why is fails))
    (λ t n q why is fails. set_keeps
    (λ (x : Option OpenLine). (r : OpenLine) → x ≡ Some r → r.failure ≡ Some why
    → WasFailing opens n why ⊎ ((n ≡ line) × (why ≡ this))) opens.list line n (Some p) None
    (λ r is fails. inl (before_itself opens n r why is fails))
    (λ e r is fails. inr (sym e, same_Some why this (sym fails ∙ ap (λ (x : OpenLine). x.failure) (sym (same_Some p r is))))) q is fails)

-- and then one has less left
pub but_then : (line : ℕ) (this : Answer) (old mid new : Opens) → FailedBut line this old mid → FailedBefore mid new
    → FailedBut line this old new
but_then line this old mid new a b n p why at fails =
    let m : WasFailing mid n why = b n p why at fails in a n m.opened why m.is_open m.fails
