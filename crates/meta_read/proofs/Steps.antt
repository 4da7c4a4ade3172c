-- Reading in steps: what stands after a step that gave its value, and after one that was refused.
use Rattle.std.proofs.Common.{◌≡◌, Bool, true, false, if◌then◌else◌, Result, Ok, Err, refl, ap, sym, ◌∙◌, subst}
use Rattle.meta_model.specs.Keys.{Read, ◌>>=◌}
use Rattle.meta_model.specs.declared.refusal.GroupRefusal.{GroupRefusal}
use Rattle.meta_model.specs.declared.refusal.GroupRefusal.TheVariants.{NoMemory}
use Rattle.meta_read.specs.Reading.{GivesBy, Refuses}

-- the step gave its value, and what follows gives the answer
pub then_gives : {A B C : Type 0} (view : B → A) (step : Read C) (follow : C → Read A) (x : C) (answer : Result B GroupRefusal)
    → step ≡ Ok x → GivesBy view (follow x) answer → GivesBy view (step >>= follow) answer
then_gives view step follow x answer is gives = subst (λ (s : Read _). GivesBy view (s >>= follow) answer) (sym is) gives

-- the step was refused
pub refused_first : {A B C D : Type 0} (view : B → A) (view_first : D → C) (step : Read C) (follow : C → Read A) (refusal : GroupRefusal)
    → GivesBy view_first step (Err refusal) → GivesBy view (step >>= follow) (Err refusal)
refused_first view view_first step follow NoMemory gives = tt
refused_first view view_first step follow refusal gives = ap (λ s. s >>= follow) gives

-- it is refused so, and this refusal is given
pub refused_by : {A B : Type 0} (view : B → A) (wanted : Read A) (why refusal : GroupRefusal) → wanted ≡ Err why → Refuses why refusal
    → GivesBy view wanted (Err refusal)
refused_by view wanted why NoMemory is refuses = tt
refused_by view wanted why refusal is refuses = is ∙ ap Err (sym refuses)

-- the pair of these
abbrev pub paired : {A B : Type 0} → B → A → Read (A × B)
paired y x = Ok (x, y)

-- a test before a pair is made, or with it
pub tested_pair : {A B : Type 0} (is_good : Bool) (x : A) (y : B) (why : GroupRefusal)
    → ((if is_good then Ok x else Err why) >>= paired y) ≡ (if is_good then paired y x else Err why)
tested_pair true x y why = refl
tested_pair false x y why = refl
