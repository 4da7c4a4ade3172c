-- What single rows tell where none refuses.
use Rattle.std.proofs.Common.{◌≡◌, Bool, true, false, not, cond, List, [], ◌∷◌, Option, Some, None, refl, ◌≢◌, ◌==◌}
use Rattle.std.specs.List.{AllByRecursion as Each}
use Rattle.std.proofs.lemmas.Bool.{eq-eqb}
use Rattle.line_answers.specs.declared.op_refusal.OpRefusal.{OpRefusal}
use Rattle.line_answers.specs.declared.op_refusal.OpRefusal.TheVariants.{SeqnoEnd}
use Rattle.meta_model.specs.declared.group.Group.{Group}
use Rattle.group_plan.specs.Judging.{first_refusal}
use Rattle.group_plan.specs.Committing.{seqno_row}

-- none of the rows holds
pub none_holds : (rows : List (Option OpRefusal)) → first_refusal rows ≡ None → Each (λ row. row ≡ None) rows
none_holds [] none = tt
none_holds (None ∷ rows) none = (refl, none_holds rows none)
none_holds (Some refusal ∷ rows) none = absurd cc

-- a test that would refuse fails
pub test_fails : (b : Bool) (refusal : OpRefusal) → cond b (Some refusal) None ≡ None → b ≡ false
test_fails true refusal none = absurd cc
test_fails false refusal none = refl

-- one without which it would be refused holds
pub test_holds : (b : Bool) (refusal : OpRefusal) → cond (not b) (Some refusal) None ≡ None → b ≡ true
test_holds true refusal none = refl
test_holds false refusal none = absurd cc

pub seqno_left : (group : Group) → seqno_row group ≡ None → group.seqno ≢ 4294967295
seqno_left group none same = by (group.seqno == 4294967295) (eq-eqb group.seqno 4294967295 same) none where
  by : (b : Bool) → b ≡ true → ◌≡◌ {A = Option OpRefusal} (cond b (Some SeqnoEnd) None) None → ⊥
  by true is made = cc
  by false is made = cc
