-- The test of moving volumes is the rule's: a way down meets the PVMOVE volume.
use Rattle.std.proofs.Common.{◌≡◌, ℕ, zero, suc, ◌≤◌, ◌↔◌, Bool, true, false, ◌||◌, IsTrue, List, [], ◌∷◌, length, Option, Some, None}
use Rattle.std.proofs.Common.{⊎_elim, refl, sym, ap, subst, ◌∙◌, arith}
use Rattle.std.specs.Prelude.{Contains, slice_get, option_map, unwrap_or}
use Rattle.std.specs.List.{list_any}
use Rattle.std.proofs.lemmas.Bool.{or_cases, false≢true}
use Rattle.meta_model.specs.declared.group.Group.{Group}
use Rattle.meta_model.specs.declared.lv.Lv.{Lv}
use Rattle.volume_rules.specs.Legs.{IsWayDown}
use Rattle.volume_rules.specs.Rules.{DepthIsAtMostThree, IsPvmove, IsMoving}
use Rattle.volume_rules.specs.Moving.{has_pvmove, leads_to_pvmove, named_by}
use Rattle.volume_rules.proofs.LegRuns.{contains_later, contains_first}
use Rattle.volume_rules.proofs.NamedVolumes.{names_from, names_to}

any_is : (test : ℕ → Bool) (xs : List ℕ) → list_any test xs ≡ true → (x : ℕ) × Contains xs x × (test x ≡ true)
any_is test [] is = absurd (false≢true is)
any_is test (x ∷ xs) is =
    ⊎_elim (λ here. (x, contains_first x xs, here))
    (λ later. let rest = any_is test xs later in (rest.0, contains_later x rest.0 xs rest.1, rest.2))
    (or_cases (test x) (list_any test xs) is)

or_second : (a b : Bool) → b ≡ true → (a || b) ≡ true
or_second true b is = refl
or_second false b is = is

or_first : (a b : Bool) → a ≡ true → (a || b) ≡ true
or_first true b is = refl
or_first false b is = absurd (false≢true is)

is_any : (test : ℕ → Bool) (xs : List ℕ) (x : ℕ) → Contains xs x → test x ≡ true → list_any test xs ≡ true
is_any test [] x at is = absurd (omega (arith, at.1))
is_any test (y ∷ xs) x (zero, lt, same) is = or_first (test y) (list_any test xs) (ap test same ∙ is)
is_any test (y ∷ xs) x (suc k, lt, same) is = or_second (test y) (list_any test xs) (is_any test xs x (k, omega arith, same) is)

true_is : (b : Bool) → b ≡ true → IsTrue b
true_is true is = grind arith
true_is false is = absurd (false≢true is)

is_true : (b : Bool) → IsTrue b → b ≡ true
is_true true is = refl
is_true false is = grind arith

pvmove_of : (group : Group) (lv : ℕ) (o : Option (List ℕ × Lv)) → slice_get group.lvs lv ≡ o
    → unwrap_or (option_map (λ (v : List ℕ × Lv). v.1.status.pvmove) o) false ≡ true → IsPvmove group lv
pvmove_of group lv None is has = absurd (false≢true has)
pvmove_of group lv (Some v) is has = (v.1, (v.0, is), true_is v.1.status.pvmove has)

of_pvmove : (group : Group) (lv : ℕ) → IsPvmove group lv → has_pvmove group lv ≡ true
of_pvmove group lv is =
    ap (λ (o : Option (List ℕ × Lv)). unwrap_or (option_map (λ (v : List ℕ × Lv). v.1.status.pvmove) o) false) is.1.1
    ∙ is_true is.0.status.pvmove is.2

moving_from : (group : Group) (steps lv : ℕ) → leads_to_pvmove group steps lv ≡ true → IsMoving group lv
moving_from group zero lv is = ([], tt, (lv, contains_first lv [], pvmove_of group lv (slice_get group.lvs lv) refl is))
moving_from group (suc steps) lv is =
    ⊎_elim
    (λ here. ([], tt, (lv, contains_first lv [], pvmove_of group lv (slice_get group.lvs lv) refl here)))
    (λ later.
    let one = any_is (λ below. leads_to_pvmove group steps below) (named_by group lv) later in
    let rest = moving_from group steps one.0 one.2 in
    (one.0 ∷ rest.0, (names_to group lv one.0 one.1, rest.1), (rest.2.0, contains_later lv rest.2.0 (one.0 ∷ rest.0) rest.2.1, rest.2.2)))
    (or_cases (has_pvmove group lv) (list_any (λ below. leads_to_pvmove group steps below) (named_by group lv)) is)

moving_to : (group : Group) (steps lv : ℕ) (way : List ℕ) (last : ℕ) → IsWayDown group (lv ∷ way) → Contains (lv ∷ way) last
    → IsPvmove group last → length way ≤ steps → leads_to_pvmove group steps lv ≡ true
moving_to group zero lv way last is (zero, lt, same) pvmove short = of_pvmove group lv (subst (IsPvmove group) (sym same) pvmove)
moving_to group (suc steps) lv way last is (zero, lt, same) pvmove short =
    or_first (has_pvmove group lv) _ (of_pvmove group lv (subst (IsPvmove group) (sym same) pvmove))
moving_to group steps lv [] last is (suc k, lt, same) pvmove short = absurd (omega arith)
moving_to group zero lv (b ∷ way) last is (suc k, lt, same) pvmove short = absurd (omega arith)
moving_to group (suc steps) lv (b ∷ way) last is (suc k, lt, same) pvmove short =
    or_second (has_pvmove group lv) _
    (is_any (λ below. leads_to_pvmove group steps below) (named_by group lv) b (names_from group lv b is.0)
    (moving_to group steps b way last is.1 (k, omega arith, same) pvmove (omega arith)))

pub moving_is : (group : Group) (lv : ℕ) → DepthIsAtMostThree group → (leads_to_pvmove group 4 lv ≡ true) ↔ IsMoving group lv
moving_is group lv depth = (
  moving_from group 4 lv,
  λ moving. moving_to group 4 lv moving.0 moving.2.0 moving.1 moving.2.1 moving.2.2 (depth.ends lv moving.0 moving.1),
)
