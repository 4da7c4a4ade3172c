-- A group without a visible volume that isn't moving, and without those that go with it, keeps all rules, and a tree stands for it.
use Rattle.std.proofs.Common.{◌≡◌, ◌<◌, ℕ, zero, suc, ◌+◌, Bool, true, false, not, ◌||◌, ◌&&◌, List, [], ◌∷◌, ◌++◌, length, get_or, Option}
use Rattle.std.proofs.Common.{Some, None, refl, sym, ap, subst, ◌∙◌, arith}
use Rattle.std.specs.Prelude.{◌≢◌, ◌==◌, slice_get, Contains, IsSomeAnd}
use Rattle.std.specs.List.{list_all, list_any, range_with_len}
use Rattle.std.proofs.lemmas.Bool.{eq-eqb, false≢true, true≢false}
use Rattle.std.proofs.lemmas.Bool.Decides.{nat_tests}
use Rattle.std.proofs.lemmas.List.Elements.{Contains-push}
use Rattle.std.proofs.lemmas.Option.{slice_get_within}
use Rattle.meta_model.specs.Standing.{HasTree}
use Rattle.meta_model.specs.declared.group.Group.{Group}
use Rattle.meta_model.specs.declared.lv.Lv.{Lv}
use Rattle.meta_print.proofs.GroupFrom.{printable}
use Rattle.meta_print.proofs.ReadAgain.{has_tree}
use Rattle.volume_rules.proofs.LegRuns.{IsRunOf, contains_first, contains_later, run_is}
use Rattle.volume_rules.proofs.MovingVolumes.{moving_is}
use Rattle.volume_rules.proofs.NamedVolumes.{names_from, names_to}
use Rattle.volume_rules.specs.Legs.{IsWayDown, LiesOn}
use Rattle.volume_rules.specs.Moving.{leads_to_pvmove, named_by}
use Rattle.volume_rules.specs.Rules.{IsAccepted, IsMoving, IsPvmove}
use Rattle.volume_rules.specs.declared.rule.Rule.TheVariants as rule
use Rattle.group_edits.proofs.OneNamed.{both_true}
use Rattle.group_edits.proofs.StayingRules.{staying_accepted, staying_printable}
use Rattle.group_edits.proofs.Whole.{IsWhole, seqno_below}
use Rattle.group_edits.specs.Removing.{goes_with, has_leg_on, lv_numbers, stays, without_volume}
use Rattle.group_edits.specs.Visible.{IsVisible}

-- ---- lists

pub any_found : {X : Type 0} (p : X → Bool) (xs : List X) → list_any p xs ≡ true → (x : X) × Contains xs x × (p x ≡ true)
any_found p [] is = absurd (false≢true is)
any_found {X = X} p (x ∷ xs) is = by (p x) refl is (λ later. any_found p xs later) where
  by : (b : Bool) → p x ≡ b → (b || list_any p xs) ≡ true → (list_any p xs ≡ true → (y : X) × Contains xs y × (p y ≡ true))
      → (y : X) × Contains (x ∷ xs) y × (p y ≡ true)
  by true passes made later = (x, contains_first x xs, passes)
  by false passes made later = let found = later made in (found.0, contains_later x found.0 xs found.1, found.2)

any_there : {X : Type 0} (p : X → Bool) (xs : List X) (x : X) (k : ℕ) → k < length xs → get_or xs k x ≡ x → p x ≡ true
    → list_any p xs ≡ true
any_there p [] x k within is passes = absurd (omega (arith, within))
any_there p (y ∷ xs) x zero within is passes = ap (λ (b : Bool). b || list_any p xs) (ap p is ∙ passes)
any_there p (y ∷ xs) x (suc k) within is passes = or_true (p y) (list_any p xs) (any_there p xs x k (omega (arith, within)) is passes) where
  or_true : (a b : Bool) → b ≡ true → (a || b) ≡ true
  or_true true b is = refl
  or_true false b is = is

all_there : {X : Type 0} (p : X → Bool) (xs : List X) (x : X) (k : ℕ) → k < length xs → get_or xs k x ≡ x → list_all p xs ≡ true
    → p x ≡ true
all_there p [] x k within is all = absurd (omega (arith, within))
all_there p (y ∷ xs) x zero within is all = sym (ap p is) ∙ (both_true (p y) (list_all p xs) all).0
all_there p (y ∷ xs) x (suc k) within is all = all_there p xs x k (omega (arith, within)) is (both_true (p y) (list_all p xs) all).1

all_more : {X : Type 0} (p q : X → Bool) → ((x : X) → p x ≡ true → q x ≡ true) → (xs : List X) → list_all p xs ≡ true → list_all q xs ≡ true
all_more p q more [] all = refl
all_more p q more (x ∷ xs) all =
    let both = both_true (p x) (list_all p xs) all in
    ap (λ (b : Bool). b && list_all q xs) (more x both.0) ∙ all_more p q more xs both.1

in_range : (a n k : ℕ) → k < n → Contains (range_with_len a n) (a + k)
in_range a zero k below = absurd (omega (arith, below))
in_range a (suc n) zero below =
    subst (Contains (a ∷ range_with_len (a + 1) n)) (let e : a ≡ a + 0 = omega arith in e) (contains_first a (range_with_len (a + 1) n))
in_range a (suc n) (suc k) below =
    subst (Contains (a ∷ range_with_len (a + 1) n)) (let e : a + 1 + k ≡ a + suc k = omega arith in e)
    (contains_later a (a + 1 + k) (range_with_len (a + 1) n) (in_range (a + 1) n k (omega (arith, below))))

pub same_number : (a b : ℕ) → (a == b) ≡ true → a ≡ b
same_number a b is = grind (arith, nat_tests)

-- ---- which volumes go

abbrev last_of : ℕ → List ℕ → ℕ
last_of a [] = a
last_of a (x ∷ xs) = last_of x xs

module _ (group : Group) where
  longer : (a : ℕ) (way : List ℕ) (b m : ℕ) → IsWayDown group (a ∷ way) → last_of a way ≡ b → LiesOn group b m
      → IsWayDown group (a ∷ (way ++ m ∷ []))
  longer a [] b m down is lies = (subst (λ (x : ℕ). LiesOn group x m) (sym is) lies, tt)
  longer a (x ∷ way) b m down is lies = (down.0, longer x way b m down.1 is lies)

  last_longer : (a : ℕ) (way : List ℕ) (m : ℕ) → last_of a (way ++ m ∷ []) ≡ m
  last_longer a [] m = refl
  last_longer a (x ∷ way) m = last_longer x way m

  has_leg : (n m : ℕ) → LiesOn group n m → has_leg_on group m n ≡ true
  has_leg n m lies =
      let within = names_from group n m lies in any_there (λ (below : ℕ). below == m) (named_by group n) m within.0 within.1 within.2
      (eq-eqb m m refl)

  pub leg_lies : (n m : ℕ) → has_leg_on group m n ≡ true → LiesOn group n m
  leg_lies n m is =
      let found = any_found (λ (below : ℕ). below == m) (named_by group n) is in
      names_to group n m (subst (Contains (named_by group n)) (same_number found.0 m found.2) found.1)

  -- a volume whose leg lies on another has a number
  numbered : (n m : ℕ) → LiesOn group n m → Contains (lv_numbers group) n
  numbered n m lies =
      let run : IsRunOf group.lvs 0 lies.0 = run_is group lies.0 lies.1 in
      let at : run.nth ≡ n = omega (arith, run.lv_is, lies.2) in
      let within : run.nth < length group.lvs = slice_get_within group.lvs run.nth run.volume run.is_volume in
      subst (Contains (lv_numbers group)) (let e : 0 + run.nth ≡ n = omega (arith, at) in e) (in_range 0 (length group.lvs) run.nth within)

implied : (b g h : Bool) → (g ≡ true → h ≡ true) → (not b || g) ≡ true → (not b || h) ≡ true
implied true g h more is = more is
implied false g h more is = refl

the_rest : (b g : Bool) → b ≡ true → (not b || g) ≡ true → g ≡ true
the_rest true g is made = made
the_rest false g is made = absurd (false≢true is)

module _ (group : Group) (removed : ℕ) where
  -- legs lead down to it from the removed one
  abbrev Reaches : ℕ → Type 0
  Reaches n = (way : List ℕ) × IsWayDown group (removed ∷ way) × (last_of removed way ≡ n)

  reaches : (steps n : ℕ) → goes_with group removed steps n ≡ true → Reaches n
  reaches zero n is = ([], tt, sym (same_number n removed is))
  reaches (suc steps) n is = by (n == removed) refl is (λ x goes. reaches steps x goes) where
    by : (b : Bool) → (n == removed) ≡ b → (b
        || (list_any (has_leg_on group n) (lv_numbers group)
        && list_all (λ upper. not (has_leg_on group n upper) || goes_with group removed steps upper) (lv_numbers group))) ≡ true
        → ((x : ℕ) → goes_with group removed steps x ≡ true → Reaches x) → Reaches n
    by true same made later = ([], tt, sym (same_number n removed same))
    by false same made later =
        let both =
        both_true (list_any (has_leg_on group n) (lv_numbers group))
        (list_all (λ upper. not (has_leg_on group n upper) || goes_with group removed steps upper) (lv_numbers group)) made in
        let found = any_found (has_leg_on group n) (lv_numbers group) both.0 in
        let goes : goes_with group removed steps found.0 ≡ true =
        the_rest (has_leg_on group n found.0) (goes_with group removed steps found.0) found.2
        (all_there (λ upper. not (has_leg_on group n upper) || goes_with group removed steps upper) (lv_numbers group) found.0 found.1.0
        found.1.1 found.1.2 both.1)
        in
        let upper : Reaches found.0 = later found.0 goes in (
          upper.0 ++ n ∷ [],
          longer group removed upper.0 found.0 n upper.1 upper.2 (leg_lies group found.0 n found.2),
          last_longer group removed upper.0 n,
        )

  -- what goes in some steps goes in one more
  goes_more : (steps n : ℕ) → goes_with group removed steps n ≡ true → goes_with group removed (suc steps) n ≡ true
  goes_more zero n is =
      ap (λ (b : Bool). b || (list_any (has_leg_on group n) (lv_numbers group)
      && list_all (λ upper. not (has_leg_on group n upper) || goes_with group removed zero upper) (lv_numbers group))) is
  goes_more (suc steps) n is = by (n == removed) is (λ x goes. goes_more steps x goes) where
    by : (b : Bool) → (b || (list_any (has_leg_on group n) (lv_numbers group)
        && list_all (λ upper. not (has_leg_on group n upper) || goes_with group removed steps upper) (lv_numbers group))) ≡ true
        → ((x : ℕ) → goes_with group removed steps x ≡ true → goes_with group removed (suc steps) x ≡ true)
        → (b || (list_any (has_leg_on group n) (lv_numbers group)
        && list_all (λ upper. not (has_leg_on group n upper) || goes_with group removed (suc steps) upper) (lv_numbers group))) ≡ true
    by true made later = refl
    by false made later =
        let both =
        both_true (list_any (has_leg_on group n) (lv_numbers group))
        (list_all (λ upper. not (has_leg_on group n upper) || goes_with group removed steps upper) (lv_numbers group)) made in
        ap (λ (b : Bool). b && list_all (λ upper. not (has_leg_on group n upper) || goes_with group removed (suc steps) upper)
        (lv_numbers group)) both.0
        ∙ all_more (λ upper. not (has_leg_on group n upper) || goes_with group removed steps upper)
        (λ upper. not (has_leg_on group n upper) || goes_with group removed (suc steps) upper)
        (λ x passes. implied (has_leg_on group n x) (goes_with group removed steps x) (goes_with group removed (suc steps) x) (later x)
        passes) (lv_numbers group) both.1

  module _ (accepted : IsAccepted group) (row : List ℕ × Lv) (there : slice_get group.lvs removed ≡ Some row)
      (seen : row.1.status.visible ≡ true) where
    -- what one that stays lies on stays
    goes_up : (n m : ℕ) → LiesOn group n m → goes_with group removed 4 m ≡ true → goes_with group removed 4 n ≡ true
    goes_up n m lies goes = by (m == removed) refl goes where
      by : (b : Bool) → (m == removed) ≡ b → (b
          || (list_any (has_leg_on group m) (lv_numbers group)
          && list_all (λ upper. not (has_leg_on group m upper) || goes_with group removed 3 upper) (lv_numbers group))) ≡ true
          → goes_with group removed 4 n ≡ true
      by true same made =
          let at : m ≡ removed = same_number m removed same in
          absurd (true≢false (sym seen ∙ (accepted rule.Depth).hidden n removed row.1 (subst (LiesOn group n) at lies) (row.0, there)))
      by false same made =
          let both =
          both_true (list_any (has_leg_on group m) (lv_numbers group))
          (list_all (λ upper. not (has_leg_on group m upper) || goes_with group removed 3 upper) (lv_numbers group)) made in
          let within = numbered group n m lies in
          goes_more 3 n
          (the_rest (has_leg_on group m n) (goes_with group removed 3 n) (has_leg group n m lies)
          (all_there (λ upper. not (has_leg_on group m upper) || goes_with group removed 3 upper) (lv_numbers group) n within.0 within.1
          within.2 both.1))

    pub closed : (n m : ℕ) → stays group removed n ≡ true → LiesOn group n m → stays group removed m ≡ true
    unfolding stays
    closed n m is lies = by (goes_with group removed 4 m) refl where
      by : (b : Bool) → goes_with group removed 4 m ≡ b → not b ≡ true
      by true goes = absurd (true≢false (sym is ∙ ap not (goes_up n m lies goes)))
      by false goes = refl

    upper_stays : leads_to_pvmove group 4 removed ≡ false → (n m : ℕ) → LiesOn group n m → IsPvmove group m → stays group removed n ≡ true
    unfolding stays
    upper_stays still n m lies is = by (goes_with group removed 4 n) refl where
      by : (b : Bool) → goes_with group removed 4 n ≡ b → not b ≡ true
      by false goes = refl
      by true goes =
          let way : Reaches n = reaches 4 n goes in
          let moving : IsMoving group removed = (
            way.0 ++ m ∷ [],
            longer group removed way.0 n m way.1 way.2 lies,
            (m, contains_later removed m (way.0 ++ m ∷ []) (Contains-push way.0 m), is),
          )
          in
          absurd (true≢false (sym ((moving_is group removed (accepted rule.Depth)).1 moving) ∙ still))

    without_whole : HasTree group → leads_to_pvmove group 4 removed ≡ false → group.seqno < 4294967295
        → IsWhole (without_volume group removed)
    without_whole tree still below = record {
      accepted = staying_accepted group (stays group removed) closed (upper_stays still) accepted below;
      tree =
          has_tree (without_volume group removed)
          (staying_printable group (stays group removed) closed (upper_stays still) accepted below (printable group tree));
    }

-- where the volume is visible
pub removed_whole : (group : Group) (number : ℕ) → IsVisible group number → leads_to_pvmove group 4 number ≡ false
    → group.seqno ≢ 4294967295 → IsAccepted group → HasTree group → IsWhole (without_volume group number)
removed_whole group number visible still other accepted tree = by (slice_get group.lvs number) refl visible where
  by : (o : Option (List ℕ × Lv)) → slice_get group.lvs number ≡ o → IsSomeAnd o (λ (row : List ℕ × Lv). row.1.status.visible ≡ true)
      → IsWhole (without_volume group number)
  by None there seen = absurd seen
  by (Some row) there seen = without_whole group number accepted row there seen tree still (seqno_below group accepted other)

-- it is one of the group's
pub visible_stands : (group : Group) (number : ℕ) → IsVisible group number → number < length group.lvs
visible_stands group number visible = by (slice_get group.lvs number) refl visible where
  by : (o : Option (List ℕ × Lv)) → slice_get group.lvs number ≡ o → IsSomeAnd o (λ (row : List ℕ × Lv). row.1.status.visible ≡ true)
      → number < length group.lvs
  by None there seen = absurd seen
  by (Some row) there seen = slice_get_within group.lvs number row there
