-- Tables by number: what holds of each entry, and what a change of one entry makes of look-ups and sums.
use Rattle.std.proofs.Common.{◌≡◌, ◌≤◌, ◌<◌, ℕ, suc, ◌+◌, Bool, true, false, cond, not, ◌||◌, nat_eq, List, [], ◌∷◌, ◌++◌, length, get_or}
use Rattle.std.proofs.Common.{set, count_by, option_map, IsSome, swap_remove, Option, None, Some, is_some, IfSome, All, position, sum_by}
use Rattle.std.proofs.Common.{refl, sym, ap, subst, ◌∙◌, arith, true≢false}
use Rattle.std.specs.Cmp.{nat_eq_equiv}
use Rattle.std.specs.List.{IsDistinct, list_any, position_or_len}
use Rattle.std.specs.Option.{option_map_or}
use Rattle.std.specs.Map.{keys_of, lookup, set_value}
use Rattle.std.proofs.lemmas.Bool.{eqb-true, eq-eqb}
use Rattle.std.proofs.lemmas.List.{map-append}
use Rattle.std.proofs.lemmas.List.Edits.{insert_end}
use Rattle.std.proofs.lemmas.List.Sums.{get_or-le-sum_by, sum_by_push, sum_by-set, sum_by-swap_remove}
use Rattle.std.proofs.lemmas.Map.{keys-set_value, lookup-insert, lookup-set_value, none_passes_from_lookup}
use Rattle.std.proofs.lemmas.Map.Entries.{lookup_from_place, place_from_lookup}
use Rattle.std.proofs.lemmas.Map.Keys.{IsDistinct-push}
use Rattle.std.proofs.lemmas.Option.{get_or_from_slice_get, none-some, same_Some, slice_get-get_or, slice_get_within}
use Rattle.indexmap.specs.IndexMap.{swap_remove_entry}
use Rattle.indexmap.proofs.MapLemmas.{Found-position, some_index, swap_remove_entry-found}
use Rattle.indexmap.proofs.RemoveLemmas.{swap_out}

module _ {X : Type 0} where
  -- each number is there once
  abbrev pub AreSingle : List (ℕ × X) → Type 0
  AreSingle es = IsDistinct nat_eq (keys_of es)

  -- what an entry counts for, if there is one
  abbrev pub weight : (ℕ × X → ℕ) → ℕ → Option X → ℕ
  weight f number None = 0
  weight f number (Some x) = f (number, x)

  -- what holds of all entries holds of the one with a number
  pub at_number : (P : ℕ × X → Type 0) (es : List (ℕ × X)) (number : ℕ) (x : X) → All P es → lookup (nat_eq number) es ≡ Some x
      → P (number, x)
  at_number P es number x all at =
      let e = place_from_lookup (nat_eq number) es x at in
      subst (λ (k : ℕ). P (k, x)) (sym (eqb-true number e.1 e.3))
      (subst P (get_or_from_slice_get es e.0 (e.1, x) (e.1, x) e.2) (all e.0 (e.1, x) (slice_get_within es e.0 (e.1, x) e.2)))

  -- and the other way round
  pub all_numbers : (P : ℕ × X → Type 0) (es : List (ℕ × X)) → AreSingle es
      → ((number : ℕ) (x : X) → lookup (nat_eq number) es ≡ Some x → P (number, x)) → All P es
  all_numbers P es single each k d within =
      let e : ℕ × X = get_or es k d in
      each e.0 e.1 (lookup_from_place nat_eq_equiv es k e.0 e.1 single (slice_get-get_or es k d within))

  none_among : (test : ℕ → Bool) (es : List (ℕ × X)) → lookup test es ≡ None → list_any test (keys_of es) ≡ false
  none_among test [] none = refl
  none_among test (e ∷ es) none =
      elim (test e.0) as (λ b. cond b (Some e.1) (lookup test es) ≡ None → (b || list_any test (keys_of es)) ≡ false) [
        | true ↦ λ h. absurd (none-some e.1 (sym h))
        | false ↦ λ h. none_among test es h
      ] none

  by_keys : (test : ℕ → Bool) (es : List (ℕ × X)) → position_or_len test (keys_of es) ≡ position_or_len (λ (e : ℕ × X). test e.0) es
  by_keys test [] = refl
  by_keys test (e ∷ es) = ap (λ n. cond (not (test e.0)) (1 + n) 0) (by_keys test es)

  -- where the entry with a number stands
  placed : (number : ℕ) (es : List (ℕ × X)) (x : X) (d : ℕ × X) → lookup (nat_eq number) es ≡ Some x
      → (position_or_len (λ (e : ℕ × X). nat_eq number e.0) es < length es)
      × (get_or es (position_or_len (λ (e : ℕ × X). nat_eq number e.0) es) d ≡ (number, x))
  placed number [] x d at = absurd (none-some x at)
  placed number (e ∷ es) x d at =
      elim (nat_eq number e.0) as (λ b. nat_eq number e.0 ≡ b → cond b (Some e.1) (lookup (nat_eq number) es) ≡ Some x
      → (cond (not b) (1 + position_or_len (λ (e : ℕ × X). nat_eq number e.0) es) 0 < length (e ∷ es))
      × (get_or (e ∷ es) (cond (not b) (1 + position_or_len (λ (e : ℕ × X). nat_eq number e.0) es) 0) d ≡ (number, x))) [
        | true ↦ λ t h. (omega arith, λ i. (sym (eqb-true number e.0 t) i, same_Some e.1 x h i))
        | false ↦ λ t h.
            let rest = placed number es x d h in
            let next : 1 + position_or_len (λ (e : ℕ × X). nat_eq number e.0) es
            ≡ suc (position_or_len (λ (e : ℕ × X). nat_eq number e.0) es) = omega arith in
            (omega (arith, rest.0), rw (next) rest.1)
      ] refl at

  replaces : (es : List (ℕ × X)) (number : ℕ) (x : X) → is_some (lookup (nat_eq number) es) ≡ true
      → set es (position_or_len (λ (e : ℕ × X). nat_eq number e.0) es) (number, x) ≡ set_value (nat_eq number) es x
  replaces [] number x some = absurd (true≢false (sym some))
  replaces (e ∷ es) number x some =
      let i : ℕ = position_or_len (λ (e : ℕ × X). nat_eq number e.0) es in
      elim (nat_eq number e.0) as (λ b. nat_eq number e.0 ≡ b → is_some (cond b (Some e.1) (lookup (nat_eq number) es)) ≡ true
      → set (e ∷ es) (cond (not b) (1 + i) 0) (number, x) ≡ cond b ((e.0, x) ∷ es) (e ∷ set_value (nat_eq number) es x)) [
        | true ↦ λ t h. λ j. (eqb-true number e.0 t j, x) ∷ es
        | false ↦ λ t h. let next : 1 + i ≡ suc i = omega arith in
            rw (next) (ap (λ (l : List (ℕ × X)). e ∷ l) (replaces es number x h))
      ] refl some

  -- the one table is the other but for one number, where the one has this and the other that
  pub record Changes (number : ℕ) (old new : Option X) (es fs : List (ℕ × X)) : Type 0 where
    pub was : lookup (nat_eq number) es ≡ old
    pub found : (q : ℕ) → lookup (nat_eq q) fs ≡ cond (nat_eq number q) new (lookup (nat_eq q) es)
    pub summed : (f : ℕ × X → ℕ) → sum_by f fs + weight f number old ≡ sum_by f es + weight f number new
    pub single : AreSingle fs

  -- an entry that came
  pub appended : (es : List (ℕ × X)) (number : ℕ) (x : X) → AreSingle es → lookup (nat_eq number) es ≡ None
      → Changes number None (Some x) es (es ++ (number, x) ∷ [])
  appended es number x single none = record {
    was = none;
    found =
        λ q. ap (λ (l : List (ℕ × X)). lookup (nat_eq q) l) (sym (insert_end es (number, x)))
        ∙ lookup-insert nat_eq_equiv number x q es (length es) (none_passes_from_lookup (nat_eq number) es none);
    summed = λ f. let e : sum_by f (es ++ (number, x) ∷ []) ≡ sum_by f es + f (number, x) = sum_by_push f es (number, x) in omega arith;
    single =
        subst (λ (l : List ℕ). IsDistinct nat_eq l) (sym (map-append (λ (e : ℕ × X). e.0) es ((number, x) ∷ [])))
        (IsDistinct-push nat_eq_equiv (keys_of es) number single (none_among (nat_eq number) es none));
  }

  -- an entry that is another now, by its number and by its place
  pub revalued : (es : List (ℕ × X)) (number : ℕ) (old new : X) → AreSingle es → lookup (nat_eq number) es ≡ Some old
      → Changes number (Some old) (Some new) es (set_value (nat_eq number) es new)
  revalued es number old new single at =
      let p = placed number es old (number, old) at in
      let i : ℕ = position_or_len (λ (e : ℕ × X). nat_eq number e.0) es in
      let same : set es i (number, new) ≡ set_value (nat_eq number) es new = replaces es number new (ap is_some at) in
      record {
        was = at;
        found =
            λ q. lookup-set_value nat_eq_equiv (nat_eq number) (nat_eq_equiv.congr number) q new es
            (subst (λ (o : Option X). IsSome o) (sym at) refl);
        summed =
            λ f. let e : sum_by f (set es i (number, new)) + f (get_or es i (number, old)) ≡ sum_by f es + f (number, new) =
            sum_by-set f es i (number, new) (number, old) p.0 in
            let to : sum_by f (set es i (number, new)) ≡ sum_by f (set_value (nat_eq number) es new) =
            ap (λ (l : List (ℕ × X)). sum_by f l) same in
            let at : f (get_or es i (number, old)) ≡ f (number, old) = ap f p.1 in omega (arith, e, to, at);
        single = subst (λ (l : List ℕ). IsDistinct nat_eq l) (sym (keys-set_value (nat_eq number) es new)) single;
      }

  pub replaced : (es : List (ℕ × X)) (number : ℕ) (old new : X) → AreSingle es → lookup (nat_eq number) es ≡ Some old
      → Changes number (Some old) (Some new) es (set es (position_or_len (λ (e : ℕ × X). nat_eq number e.0) es) (number, new))
  replaced es number old new single at =
      subst (λ (l : List (ℕ × X)). Changes number (Some old) (Some new) es l) (sym (replaces es number new (ap is_some at)))
      (revalued es number old new single at)

  -- an entry that left
  pub removed : (es : List (ℕ × X)) (number : ℕ) (old : X) → AreSingle es → lookup (nat_eq number) es ≡ Some old
      → Changes number (Some old) None es (swap_remove_entry (nat_eq number) es)
  removed es number old single at = by (position (nat_eq number) (keys_of es)) refl
    where
      by : (r : Option ℕ) → position (nat_eq number) (keys_of es) ≡ r
          → Changes number (Some old) None es (swap_remove_entry (nat_eq number) es)
      by None none = absurd (true≢false (sym (ap is_some at) ∙ sym (some_index (nat_eq number) es) ∙ ap is_some none))
      by (Some i) is =
          let seen = Found-position (nat_eq number) es i is in
          let p = placed number es old (number, old) at in
          let here : i ≡ position_or_len (λ (e : ℕ × X). nat_eq number e.0) es = sym seen.or_len ∙ by_keys (nat_eq number) es in
          let entry : get_or es i (number, old) ≡ (number, old) = ap (λ (k : ℕ). get_or es k (number, old)) here ∙ p.1 in
          let same : swap_remove_entry (nat_eq number) es ≡ swap_remove es i (number, old) =
          swap_remove_entry-found (nat_eq number) es i (number, old) is in
          let out =
          swap_out nat_eq nat_eq_equiv (nat_eq number) (nat_eq_equiv.congr number) es i (number, old) is
          (slice_get-get_or es i (number, old) seen.within ∙ ap Some entry) single (swap_remove_entry (nat_eq number) es) same in
          record {
            was = at;
            found = out.updated.0;
            summed =
                λ f. let e : sum_by f (swap_remove es i (number, old)) + f (get_or es i (number, old)) ≡ sum_by f es =
                sum_by-swap_remove f es i (number, old) seen.within in
                let at : f (get_or es i (number, old)) ≡ f (number, old) = ap f entry in
                let to : sum_by f (swap_remove_entry (nat_eq number) es) ≡ sum_by f (swap_remove es i (number, old)) = ap (sum_by f) same in
                omega arith;
            single = out.unique;
          }

  -- two changes of one number
  changed_twice : (b : Bool) (a c d : Option X) → cond b a (cond b c d) ≡ cond b a d
  changed_twice true a c d = refl
  changed_twice false a c d = refl

  pub changes_both : {number : ℕ} {old mid new : Option X} {es fs gs : List (ℕ × X)} → Changes number old mid es fs
      → Changes number mid new fs gs
      → Changes number old new es gs
  changes_both {number} {old} {mid} {new} {es} {fs} {gs} a b = record {
    was = a.was;
    found =
        λ q. b.found q ∙ ap (λ (o : Option X). cond (nat_eq number q) new o) (a.found q)
        ∙ changed_twice (nat_eq number q) new mid (lookup (nat_eq q) es);
    summed =
        λ f. let s : sum_by f fs + weight f number old ≡ sum_by f es + weight f number mid = a.summed f in
        let t : sum_by f gs + weight f number mid ≡ sum_by f fs + weight f number new = b.summed f in omega arith;
    single = b.single;
  }

  -- what holds of all entries, and of the new one
  pub all_changed : (P Q : ℕ × X → Type 0) {number : ℕ} {old new : Option X} {es fs : List (ℕ × X)} → Changes number old new es fs
      → All P es
      → ((q : ℕ) (x : X) → nat_eq number q ≡ false → lookup (nat_eq q) es ≡ Some x → P (q, x) → Q (q, x))
      → IfSome new (λ x. Q (number, x))
      → All Q fs
  all_changed P Q {number} {old} {new} {es} {fs} c all weaker own =
      all_numbers Q fs c.single (λ q x at. by q x (sym (c.found q) ∙ at) new own)
    where
      here : (q : ℕ) (x : X) (o : Option X) → IfSome o (λ y. Q (number, y)) → number ≡ q → o ≡ Some x → Q (q, x)
      here q x None own is some = absurd (none-some x some)
      here q x (Some y) own is some =
          subst (λ (k : ℕ). Q (k, x)) is (subst (λ (z : X). Q (number, z)) (same_Some y x some) own)

      by : (q : ℕ) (x : X) → cond (nat_eq number q) new (lookup (nat_eq q) es) ≡ Some x → (o : Option X) → IfSome new (λ y. Q (number, y))
          → Q (q, x)
      by q x at o own =
          elim (nat_eq number q) as (λ b. nat_eq number q ≡ b → cond b new (lookup (nat_eq q) es) ≡ Some x → Q (q, x)) [
            | true ↦ λ t h. here q x new own (eqb-true number q t) h
            | false ↦ λ t h. weaker q x t h (at_number P es q x all h)
          ] refl at

  -- a number that entries give
  pub counted_at : {number : ℕ} {old new : Option X} {es fs : List (ℕ × X)} → Changes number old new es fs → (f : X → ℕ) (q : ℕ)
      → option_map_or f (lookup (nat_eq q) fs) 0 + cond (nat_eq number q) (option_map_or f old 0) 0
      ≡ option_map_or f (lookup (nat_eq q) es) 0 + cond (nat_eq number q) (option_map_or f new 0) 0
  counted_at {number} {old} {new} {es} {fs} c f q = by (nat_eq number q) refl (c.found q)
    where
      by : (b : Bool) → nat_eq number q ≡ b → lookup (nat_eq q) fs ≡ cond b new (lookup (nat_eq q) es)
          → option_map_or f (lookup (nat_eq q) fs) 0 + cond b (option_map_or f old 0) 0
          ≡ option_map_or f (lookup (nat_eq q) es) 0 + cond b (option_map_or f new 0) 0
      by true t e =
          let now : option_map_or f (lookup (nat_eq q) fs) 0 ≡ option_map_or f new 0 = ap (λ (o : Option X). option_map_or f o 0) e in
          let was : option_map_or f (lookup (nat_eq q) es) 0 ≡ option_map_or f old 0 =
          ap (λ (o : Option X). option_map_or f o 0) (subst (λ (k : ℕ). lookup (nat_eq k) es ≡ old) (eqb-true number q t) c.was) in
          omega arith
      by false t e =
          let same : option_map_or f (lookup (nat_eq q) fs) 0 ≡ option_map_or f (lookup (nat_eq q) es) 0 =
          ap (λ (o : Option X). option_map_or f o 0) e in
          omega arith

  -- what entries give stays the same
  pub kept_at : {Y : Type 0} {number : ℕ} {old new : Option X} {es fs : List (ℕ × X)} → Changes number old new es fs → (g : X → Y)
      → option_map g new ≡ option_map g old
      → (q : ℕ)
      → option_map g (lookup (nat_eq q) fs) ≡ option_map g (lookup (nat_eq q) es)
  kept_at {Y} {number} {old} {new} {es} {fs} c g same q = by (nat_eq number q) refl (c.found q)
    where
      by : (b : Bool) → nat_eq number q ≡ b → lookup (nat_eq q) fs ≡ cond b new (lookup (nat_eq q) es)
          → option_map g (lookup (nat_eq q) fs) ≡ option_map g (lookup (nat_eq q) es)
      by true t e =
          ap (λ (o : Option X). option_map g o) e ∙ same
          ∙ sym (ap (λ (o : Option X). option_map g o) (subst (λ (k : ℕ). lookup (nat_eq k) es ≡ old) (eqb-true number q t) c.was))
      by false t e = ap (λ (o : Option X). option_map g o) e

  -- another number has what it had
  pub other_at : {number : ℕ} {old new : Option X} {es fs : List (ℕ × X)} → Changes number old new es fs → (q : ℕ)
      → nat_eq number q ≡ false
      → lookup (nat_eq q) fs ≡ lookup (nat_eq q) es
  other_at {number} {old} {new} {es} {fs} c q apart =
      c.found q ∙ ap (λ (b : Bool). cond b new (lookup (nat_eq q) es)) apart

  -- and the number has the new entry
  pub own_at : {number : ℕ} {old new : Option X} {es fs : List (ℕ × X)} → Changes number old new es fs → lookup (nat_eq number) fs ≡ new
  own_at {number} {old} {new} {es} {fs} c =
      c.found number ∙ ap (λ (b : Bool). cond b new (lookup (nat_eq number) es)) (eq-eqb number number refl)

  -- where nothing changes
  unchanged_at : (b : Bool) (x y : Option X) → (b ≡ true → x ≡ y) → y ≡ cond b x y
  unchanged_at true x y same = sym (same refl)
  unchanged_at false x y same = refl

  pub unchanged : (es : List (ℕ × X)) (number : ℕ) → AreSingle es
      → Changes number (lookup (nat_eq number) es) (lookup (nat_eq number) es) es es
  unchanged es number single = record {
    was = refl;
    found =
        λ q. unchanged_at (nat_eq number q) (lookup (nat_eq number) es) (lookup (nat_eq q) es)
        (λ t. ap (λ (k : ℕ). lookup (nat_eq k) es) (eqb-true number q t));
    summed = λ f. refl;
    single = single;
  }

-- none passes, where none is counted
pub no_hit : (b : Bool) → cond b 1 0 ≤ 0 → b ≡ false
no_hit true h = absurd (omega (arith, h))
no_hit false h = refl

pub none_counted : {X : Type 0} (test : X → Bool) (xs : List X) → count_by test xs ≡ 0 → All (λ (x : X). test x ≡ false) xs
none_counted test xs none k d within =
    no_hit (test (get_or xs k d))
    (let most : cond (test (get_or xs k d)) 1 0 ≤ count_by test xs = get_or-le-sum_by (λ x. cond (test x) 1 0) xs k d within in
    omega (arith, none, most))

pub no_count : (b : Bool) → ◌≡◌ {A = ℕ} (cond b 0 0) 0
no_count true = refl
no_count false = refl

pub some_of : {X : Type 0} (o : Option X) → is_some o ≡ true → (x : X) × (o ≡ Some x)
some_of None some = absurd (true≢false (sym some))
some_of (Some x) some = (x, refl)
