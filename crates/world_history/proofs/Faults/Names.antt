-- Which disks answers name, those that were given and those that open lines would give now.
use Rattle.std.proofs.Common.{◌≡◌, ◌≤◌, ◌<◌, ℕ, Bool, true, false, nat_eq, All, List, Option, None, Some, get_or, set as set_at, length}
use Rattle.std.proofs.Common.{option_and_then, unwrap_or, inl, inr, ⊎_elim, refl, sym, ap, subst, ◌∙◌}
use Rattle.std.specs.FinSet as set
use Rattle.std.specs.Ordering.{nat_cmp}
use Rattle.std.proofs.lemmas.Bool.{cases_lt, cond_both, eqb-true}
use Rattle.std.proofs.lemmas.List.{get_or_past}
use Rattle.std.proofs.lemmas.List.Elements.{All-set, All-weaker}
use Rattle.std.proofs.lemmas.Option.{none-some, same_Some}
use Rattle.line_answers.specs.declared.answer.Answer.{Answer}
use Rattle.line_answers.specs.declared.answer.Answer.TheVariants as answer
use Rattle.flush_plan.specs.declared.records.Marks.{Marks}
use Rattle.flush_plan.specs.Plans.{Plan, marks_of, no_marks}
use Rattle.flush_plan.proofs.Flights.{mark_other, mark_written}
use Rattle.world_acts.specs.declared.open_line.OpenLine.{OpenLine}
use Rattle.world_acts.specs.declared.open_line.Work.{Work}
use Rattle.world_acts.specs.declared.open_line.Work.TheVariants.{Read, Whole, Write}
use Rattle.world_acts.specs.declared.state.Core.{Core}
use Rattle.world_acts.specs.Acts.{IsLost}
use Rattle.world_acts.specs.OpenLines.{Opens, after_failure, after_filled, answer_of, filled, is_pv_failed, no_open, open_of, with_open}
use Rattle.world_acts.specs.OpenLines.{work_answer}
use Rattle.world_history.specs.Faults.{disk_named}

-- a flush of the disk has ended, and one didn't go well since its last one that did
abbrev pub IsBehind : Marks → Type 0
IsBehind m = m.stable < m.ended

-- it holds of the disk that an answer names, if it names one; of that of a line, as it is open now; and of one that has its answer
abbrev pub Names : (ℕ → Type 0) → Answer → Type 0
Names R said = (pv : ℕ) → disk_named said ≡ Some pv → R pv

abbrev pub OpenNames : (ℕ → Type 0) → Option OpenLine → Type 0
OpenNames R line = Names R (answer_of (unwrap_or line no_open))

abbrev pub SaidNames : (ℕ → Type 0) → ℕ × Option Answer → Type 0
SaidNames R line = (pv : ℕ) → option_and_then disk_named line.1 ≡ Some pv → R pv

-- it holds of each disk that is lost, and of each that an answer names
pub record NamesOnly (R : ℕ → Type 0) (c : Core) : Type 0 where
  pub failed : (pv : ℕ) → set.contains c.failed pv ≡ true → R pv
  pub behind : (pv : ℕ) → IsBehind (marks_of c.waits.plan pv) → R pv
  pub opens : All (OpenNames R) c.opens.list
  pub answers : All (SaidNames R) c.lines.answers

-- so does what holds of more disks
pub names_more : {R S : ℕ → Type 0} → ((pv : ℕ) → R pv → S pv) → (c : Core) → NamesOnly R c → NamesOnly S c
names_more {R} {S} up c n = record {
  failed = λ pv is. up pv (n.failed pv is);
  behind = λ pv is. up pv (n.behind pv is);
  opens = All-weaker (OpenNames R) (OpenNames S) (λ line named pv is. up pv (named pv is)) c.opens.list n.opens;
  answers = All-weaker (SaidNames R) (SaidNames S) (λ line named pv is. up pv (named pv is)) c.lines.answers n.answers;
}

module _ (R : ℕ → Type 0) where
  -- the same is lost, open and answered
  pub names_still : (c d : Core) → d.failed ≡ c.failed → d.waits.plan.marks ≡ c.waits.plan.marks → d.opens.list ≡ c.opens.list
      → d.lines.answers ≡ c.lines.answers
      → NamesOnly R c
      → NamesOnly R d
  names_still c d failed marks opens answers n = record {
    failed = λ pv is. n.failed pv (ap (λ (s : set.FinSet nat_cmp). set.contains s pv) (sym failed) ∙ is);
    behind = λ pv is. n.behind pv (subst (λ (l : List Marks). IsBehind (get_or l pv no_marks)) marks is);
    opens = subst (λ (l : List (Option OpenLine)). All (OpenNames R) l) (sym opens) n.opens;
    answers = subst (λ (l : List (ℕ × Option Answer)). All (SaidNames R) l) (sym answers) n.answers;
  }

  -- ---- one answer

  pub names_none : (said : Answer) → disk_named said ≡ None → Names R said
  names_none said none pv is = absurd (none-some pv (sym none ∙ is))

  pub names_one : (said : Answer) (pv : ℕ) → disk_named said ≡ Some pv → R pv → Names R said
  names_one said pv one holds q is = subst R (same_Some pv q (sym one ∙ is)) holds

  -- it names a lost disk
  pub names_lost : (c : Core) (why : Answer) (pv : ℕ) → why ≡ answer.PvFailed pv → IsLost c pv → NamesOnly R c → Names R why
  names_lost c why pv is lost n = names_one why pv (ap disk_named is) (by lost)
    where
      by : IsLost c pv → R pv
      by (inl failed) = n.failed pv failed
      by (inr behind) = n.behind pv behind

  -- ---- open lines

  pub open_names : (opens : Opens) (line : ℕ) → All (OpenNames R) opens.list → Names R (answer_of (open_of opens line))
  open_names opens line all =
      ⊎_elim (λ (lt : line < length opens.list). all line None lt)
      (λ (ge : length opens.list ≤ line). subst (OpenNames R) (sym (get_or_past opens.list line None ge)) (names_none answer.Fine refl))
      (cases_lt line (length opens.list))

  with_names : (opens : Opens) (line : ℕ) (o : OpenLine) → Names R (answer_of o) → All (OpenNames R) opens.list
      → All (OpenNames R) (with_open opens line o).list
  with_names opens line o named all = All-set (OpenNames R) opens.list line (Some o) named all

  -- so much is left of one now
  pub left_names : (opens : Opens) (line left : ℕ) → All (OpenNames R) opens.list
      → All (OpenNames R) (with_open opens line (record (open_of opens line) { left = left })).list
  left_names opens line left all = with_names opens line (record (open_of opens line) { left = left }) (open_names opens line all) all

  -- it is to answer so
  pub failure_names : (opens : Opens) (line : ℕ) (why : Answer) → Names R why → All (OpenNames R) opens.list
      → All (OpenNames R) (after_failure opens line why).list
  failure_names opens line why named all =
      cond_both (is_pv_failed (open_of opens line).failure) opens
      (with_open opens line (record (open_of opens line) { failure = Some why })) (λ (x : Opens). All (OpenNames R) x.list) (λ is. all)
      (λ is. with_names opens line (record (open_of opens line) { failure = Some why }) named all)

  -- sectors that it reads have come
  pub filled_names : (opens : Opens) (line first : ℕ) (sectors : List (List ℕ)) → All (OpenNames R) opens.list
      → All (OpenNames R) (after_filled opens line first sectors).list
  filled_names opens line first sectors all =
      let o : OpenLine = open_of opens line in
      with_names opens line (record o { work = filled o.work first sectors })
      (subst (λ (x : Option ℕ). (pv : ℕ) → x ≡ Some pv → R pv) (sym (same o.failure o.work)) (open_names opens line all)) all
    where
      same : (failure : Option Answer) (work : Work)
          → disk_named (unwrap_or failure (work_answer (filled work first sectors))) ≡ disk_named (unwrap_or failure (work_answer work))
      same (Some why) work = refl
      same None (Read start buffer) = refl
      same None Write = refl
      same None (Whole said) = refl

  -- ---- marks

  -- those of one disk are others now
  pub marked_behind : (plan : Plan) (disk : ℕ) (m : Marks) → disk < length plan.marks
      → ((pv : ℕ) → IsBehind (marks_of plan pv) → R pv)
      → (IsBehind m → R disk)
      → (pv : ℕ) → IsBehind (get_or (set_at plan.marks disk m) pv no_marks)
      → R pv
  marked_behind plan disk m within others own pv = by (nat_eq disk pv) refl
    where
      by : (b : Bool) → nat_eq disk pv ≡ b → IsBehind (get_or (set_at plan.marks disk m) pv no_marks) → R pv
      by true e is =
          let same : disk ≡ pv = eqb-true disk pv e in
          subst R same
          (own (subst IsBehind
          (ap (λ (n : ℕ). get_or (set_at plan.marks disk m) n no_marks) (sym same) ∙ mark_written plan.marks disk m no_marks within) is))
      by false e is = others pv (subst IsBehind (mark_other plan.marks disk pv m no_marks e) is)
