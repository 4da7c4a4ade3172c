-- A step of one open line: what it leaves of the others, and what stays told of them.
use Rattle.std.proofs.Common.{◌≡◌, ℕ, ◌+◌, ◌-◌, Bool, true, false, cond, ◌==◌, List, Option, None, Some, set, refl, sym, ap, subst, ◌∙◌}
use Rattle.std.proofs.lemmas.Bool.{eqb-false, eqb-true}
use Rattle.std.proofs.lemmas.List.{get_or-set_other, get_or-set_same}
use Rattle.line_answers.specs.declared.answer.Answer.{Answer}
use Rattle.world_acts.specs.declared.open_line.OpenLine.{OpenLine}
use Rattle.world_acts.specs.OpenLines.{Opens, after_added, after_closed, after_failure, after_filled, after_finished, filled, is_pv_failed}
use Rattle.world_acts.specs.OpenLines.{open_at, with_open}
use Rattle.world_acts.proofs.LinesKept.{open_is, open_within}

-- the line is this one now, or isn't open, and the others are as they were
pub record LineIs (line : ℕ) (p : Option OpenLine) (old new : Opens) : Type 0 where
  pub own : open_at new line ≡ p
  pub others : (q : ℕ) → (line == q) ≡ false → open_at new q ≡ open_at old q

-- what stands at a place
pub data Standing (line q : ℕ) (p : Option OpenLine) (old : Opens) (x : OpenLine) : Type 0 where
  here : line ≡ q → p ≡ Some x → Standing line q p old x
  elsewhere : (line == q) ≡ false → open_at old q ≡ Some x → Standing line q p old x

module _ {line : ℕ} {p : Option OpenLine} {old new : Opens} (is : LineIs line p old new) where
  pub standing : (q : ℕ) (x : OpenLine) → open_at new q ≡ Some x → Standing line q p old x
  standing q x at = by (line == q) refl
    where
      by : (b : Bool) → (line == q) ≡ b → Standing line q p old x
      by true e =
          let same : line ≡ q = eqb-true line q e in
          here same (sym is.own ∙ ap (open_at new) same ∙ at)
      by false e = elsewhere e (sym (is.others q e) ∙ at)

  pub lines_both : {r : Option OpenLine} {then : Opens} → LineIs line r new then → LineIs line r old then
  lines_both later = record { own = later.own; others = λ q apart. later.others q apart ∙ is.others q apart }

-- ---- the steps

module _ (opens : Opens) (line : ℕ) (o : OpenLine) (at : open_at opens line ≡ Some o) where
  placed : (p : Option OpenLine) → LineIs line p opens (record opens { list = set opens.list line p })
  placed p = record {
    own = get_or-set_same opens.list line p None (open_within opens line o at);
    others = λ q apart. get_or-set_other opens.list line q p None (λ e. eqb-false line q apart (sym e));
  }

  pub is_with : (p : OpenLine) → LineIs line (Some p) opens (with_open opens line p)
  is_with p = placed (Some p)

  pub is_closed : LineIs line None opens (after_closed opens line)
  is_closed = placed None

  pub is_same : LineIs line (Some o) opens opens
  is_same = record { own = at; others = λ q apart. refl }

  pub is_added : LineIs line (Some (record o { left = o.left + 1 })) opens (after_added opens line)
  is_added =
      subst (λ (x : OpenLine). LineIs line (Some (record o { left = o.left + 1 })) opens
      (with_open opens line (record x { left = x.left + 1 })))
      (sym (open_is opens line o at)) (is_with (record o { left = o.left + 1 }))

  pub is_finished : LineIs line (Some (record o { left = o.left - 1 })) opens (after_finished opens line)
  is_finished =
      subst (λ (x : OpenLine). LineIs line (Some (record o { left = o.left - 1 })) opens
      (with_open opens line (record x { left = x.left - 1 })))
      (sym (open_is opens line o at)) (is_with (record o { left = o.left - 1 }))

  pub is_filled : (first : ℕ) (sectors : List (List ℕ))
      → LineIs line (Some (record o { work = filled o.work first sectors })) opens (after_filled opens line first sectors)
  is_filled first sectors =
      let p : OpenLine = record o { work = filled o.work first sectors } in
      subst (λ (x : OpenLine). LineIs line (Some p) opens (with_open opens line (record x { work = filled x.work first sectors })))
      (sym (open_is opens line o at)) (is_with p)

  -- it is to answer so, unless it was to answer that a disk failed
  abbrev pub worse : Answer → Option Answer
  worse why = cond (is_pv_failed o.failure) o.failure (Some why)

  pub is_failed : (why : Answer) → LineIs line (Some (record o { failure = worse why })) opens (after_failure opens line why)
  is_failed why =
      subst (λ (x : OpenLine). LineIs line (Some (record o { failure = worse why })) opens
      (cond (is_pv_failed x.failure) opens (with_open opens line (record x { failure = Some why })))) (sym (open_is opens line o at))
      (by (is_pv_failed o.failure))
    where
      by : (b : Bool) → LineIs line (Some (record o { failure = cond b o.failure (Some why) })) opens
          (cond b opens (with_open opens line (record o { failure = Some why })))
      by true = is_same
      by false = is_with (record o { failure = Some why })
