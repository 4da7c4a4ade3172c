-- Rows one after another: the first refusal is that of the first part that refuses.
use Rattle.std.proofs.Common.{◌≡◌, List, [], ◌∷◌, ◌++◌, Option, Some, None, Result, Ok, Err, refl, ap, ◌∙◌}
use Rattle.std.specs.Option.{option_or}
use Rattle.line_answers.specs.declared.op_refusal.OpRefusal.{OpRefusal}
use Rattle.group_plan.specs.Judging.{IsRefusedBy, Judges, first_refusal}
use Rattle.group_plan.specs.Plans.{Plans}
use Rattle.group_plan.specs.declared.refusal.PlanRefusal.{PlanRefusal}
use Rattle.group_plan.specs.declared.refusal.PlanRefusal.TheVariants.{NoMemory, Refused}
use Rattle.group_plan.specs.declared.state.Change.{Change}

or_assoc : (a b c : Option OpRefusal) → option_or a (option_or b c) ≡ option_or (option_or a b) c
or_assoc None b c = refl
or_assoc (Some x) b c = refl

refusal-append : (front back : List (Option OpRefusal))
    → first_refusal (front ++ back) ≡ option_or (first_refusal front) (first_refusal back)
refusal-append [] back = refl
refusal-append (row ∷ front) back = ap (option_or row) (refusal-append front back) ∙ or_assoc row (first_refusal front) (first_refusal back)

-- the first part refuses
pub refused_front : (front back : List (Option OpRefusal)) (e : PlanRefusal) → IsRefusedBy (first_refusal front) e
    → IsRefusedBy (first_refusal (front ++ back)) e
refused_front front back NoMemory is = tt
refused_front front back (Refused refusal) is =
    refusal-append front back ∙ ap (λ (o : Option OpRefusal). option_or o (first_refusal back)) is

-- it doesn't, and the second does
pub refused_back : (front back : List (Option OpRefusal)) (e : PlanRefusal) → first_refusal front ≡ None
    → IsRefusedBy (first_refusal back) e → IsRefusedBy (first_refusal (front ++ back)) e
refused_back front back NoMemory none is = tt
refused_back front back (Refused refusal) none is =
    refusal-append front back ∙ ap (λ (o : Option OpRefusal). option_or o (first_refusal back)) none ∙ is

pub one_row : (row : Option OpRefusal) (e : PlanRefusal) → IsRefusedBy row e → IsRefusedBy (first_refusal (row ∷ [])) e
one_row row NoMemory is = tt
one_row row (Refused refusal) is = ap (λ (o : Option OpRefusal). option_or o None) is

pub none_row : (row : Option OpRefusal) → row ≡ None → first_refusal (row ∷ []) ≡ None
none_row row none = ap (λ (o : Option OpRefusal). option_or o None) none

pub none_both : (front back : List (Option OpRefusal)) → first_refusal front ≡ None → first_refusal back ≡ None
    → first_refusal (front ++ back) ≡ None
none_both front back none none' = refusal-append front back ∙ ap (λ (o : Option OpRefusal). option_or o (first_refusal back)) none ∙ none'

-- what the second part plans is planned, where the first doesn't refuse
pub plans_back : (front back : List (Option OpRefusal)) (wanted : Change) (result : Result Change PlanRefusal) → first_refusal front ≡ None
    → Plans back wanted result → Plans (front ++ back) wanted result
plans_back front back wanted (Ok change) none plans = (none_both front back none plans.0, plans.1)
plans_back front back wanted (Err e) none plans = refused_back front back e none plans

-- the rows of the second part are judged, where the first doesn't refuse
pub judges_back : {A : Type 0} (front back : List (Option OpRefusal)) (result : Result A PlanRefusal) → first_refusal front ≡ None
    → Judges result (first_refusal back) → Judges result (first_refusal (front ++ back))
judges_back front back (Ok x) none judges = none_both front back none judges
judges_back front back (Err e) none judges = refused_back front back e none judges

-- where none of both refuses, none of the second does
pub front_passes : (front back : List (Option OpRefusal)) → first_refusal (front ++ back) ≡ None → first_refusal back ≡ None
front_passes [] back none = none
front_passes (None ∷ front) back none = front_passes front back none
front_passes (Some refusal ∷ front) back none = absurd cc

-- nor does one of the first
pub back_passes : (front back : List (Option OpRefusal)) → first_refusal (front ++ back) ≡ None → first_refusal front ≡ None
back_passes [] back none = refl
back_passes (None ∷ front) back none = back_passes front back none
back_passes (Some refusal ∷ front) back none = absurd cc

-- nor does the last one
pub last_passes : (front : List (Option OpRefusal)) (last : Option OpRefusal) → first_refusal (front ++ last ∷ []) ≡ None → last ≡ None
last_passes front None none = refl
last_passes front (Some refusal) none = absurd (let last = front_passes front (Some refusal ∷ []) none in cc)
