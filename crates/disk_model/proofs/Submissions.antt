-- Operations that are submitted one after another.
use Rattle.std.proofs.Common.{◌≡◌, ◌≤◌, ◌<◌, ℕ, List, [], ◌∷◌, ◌++◌, All, Option, Some, None, option_map, refl, sym, ap, subst, ◌∙◌, arith}
use Rattle.std.proofs.Common.{append_assoc, length-append}
use Rattle.std.proofs.lemmas.List.{append-nil}
use Rattle.std.proofs.lemmas.List.Sums.{sum_by-append}
use Rattle.std.proofs.lemmas.List.Elements.{All-append, All-cons, All-nil}
use Rattle.disk_model.specs.declared.ops.Op.{Op}
use Rattle.disk_model.specs.Steps.{Work, Submitted, Record, step_on, sectors_of_work}
use Rattle.disk_model.specs.Record.{Operation}
use Rattle.disk_model.specs.Operations.{work_of}
use Rattle.disk_model.specs.Calls.{Submits}
use Rattle.disk_model.specs.State.{State}
use Rattle.disk_model.specs.Submitting.{BringsAt, SubmitsAll, submitted_on}
use Rattle.disk_model.specs.Durability.{OnlyLeaves}
use Rattle.disk_model.proofs.Durable.{write_submitted}

-- one submission more is told
told_more : (os : List Operation) (o : Operation) (told : Record)
    → submitted_on (os ++ o ∷ []) told ≡ step_on (Submitted o.tag o.work) (submitted_on os told)
told_more [] o told = refl
told_more (p ∷ os) o told = told_more os o (step_on (Submitted p.tag p.work) told)

told_maps : (os : List Operation) (o : Operation) (told : Option Record)
    → option_map (submitted_on (os ++ o ∷ [])) told ≡ option_map (step_on (Submitted o.tag o.work)) (option_map (submitted_on os) told)
told_maps os o None = refl
told_maps os o (Some told) = ap Some (told_more os o told)

told_none : (told : Option Record) → told ≡ option_map (submitted_on []) told
told_none None = refl
told_none (Some told) = refl

-- nothing was submitted yet
pub submits_none : (state : State) → SubmitsAll state [] state
submits_none state = record {
  fresh = All-nil (λ (o : Operation). state.next_tag ≤ o.tag);
  below = All-nil (λ (o : Operation). o.tag < state.next_tag);
  next = omega arith;
  in_flight = sym (append-nil state.in_flight);
  ready = λ t r. r;
  told = told_none state.told;
  spare_ops = omega arith;
  spare_sectors = omega arith;
  steps = omega arith;
  faults = refl;
  sizes = refl;
}

below_later : (os : List Operation) (n m : ℕ) → n ≤ m → All (λ (o : Operation). o.tag < n) os → All (λ (o : Operation). o.tag < m) os
below_later os n m le all i d lt = let b = all i d lt in omega (arith, b)

-- one operation more was submitted
pub submits_more : (old mid new : State) (os : List Operation) (op : Op) (tag : ℕ) → SubmitsAll old os mid → Submits mid op tag new
    → SubmitsAll old (os ++ record { tag = tag; work = work_of op } ∷ []) new
submits_more old mid new os op tag s one =
    let o : Operation = record { tag = tag; work = work_of op } in
    let P : Operation → Type 0 = λ p. old.next_tag ≤ p.tag in
    let Q : Operation → Type 0 = λ p. p.tag < new.next_tag in
    record {
      fresh = All-append P os (o ∷ []) s.fresh (All-cons P o [] (omega (arith, one.fresh, s.next)) (All-nil P));
      below =
          All-append Q os (o ∷ []) (below_later os mid.next_tag new.next_tag (omega (arith, one.fresh, one.next)) s.below)
          (All-cons Q o [] one.next (All-nil Q));
      next = omega (arith, one.fresh, one.next, s.next);
      in_flight = one.in_flight ∙ ap (λ (l : List Operation). l ++ o ∷ []) s.in_flight ∙ append_assoc old.in_flight os (o ∷ []);
      ready = λ t r. one.ready t (s.ready t r);
      told = one.told ∙ ap (option_map (step_on (Submitted tag (work_of op)))) s.told ∙ sym (told_maps os o old.told);
      spare_ops = omega (arith, one.spare_ops, s.spare_ops, length-append os (o ∷ []));
      spare_sectors =
          omega (arith, one.spare_sectors, s.spare_sectors, sum_by-append (λ (p : Operation). sectors_of_work p.work) os (o ∷ []));
      steps = omega (arith, one.steps, s.steps, length-append os (o ∷ []));
      faults = one.faults ∙ s.faults;
      sizes = one.sizes ∙ s.sizes;
    }

-- a submission that brings only a value with P to the sector leaves only such
pub submitted_leaves : (o : Operation) (told : Record) (pv sector : ℕ) (P : List ℕ → Type 0) → BringsAt o.work pv sector P
    → OnlyLeaves told pv sector P → OnlyLeaves (step_on (Submitted o.tag o.work) told) pv sector P
submitted_leaves o told pv sector P b h =
    write_submitted told pv sector o.tag o.work P P h (λ v p. p)
    (λ span sectors e inside. let brings = subst (λ (w : Work). BringsAt w pv sector P) e b in brings inside)
