-- What the rows tell of a backup that none of them refuses.
use Rattle.std.proofs.Common.{◌≡◌, ◌≢◌, ◌≤◌, ◌<◌, ℕ, ◌+◌, Bool, true, false, not, ◌||◌, ◌==◌, cond, drop, List, [], ◌∷◌, length, map}
use Rattle.std.proofs.Common.{Option, Some, None, refl, sym, ap, subst, ◌∙◌, arith}
use Rattle.std.specs.Prelude.{All, IfSome, filter, is_some, nat_lt, slice_get}
use Rattle.std.specs.List.{AllByRecursion as Each, list_any}
use Rattle.std.specs.Cmp.Lexicographic.{slice_cmp, slice_partial_cmp}
use Rattle.std.specs.Ordering.{MatchOrdering, is_le, is_some_and, nat_cmp, ordering_then}
use Rattle.std.specs.declared.cmp.Ordering.{Ordering}
use Rattle.std.specs.declared.cmp.Ordering.TheVariants.{Less, Equal, Greater}
use Rattle.std.proofs.lemmas.Bool.{eq-eqb, ltb-true, true≢false}
use Rattle.std.proofs.lemmas.Bool.Decides.{nat_tests}
use Rattle.std.proofs.lemmas.Cmp.{same_from_slice_cmp_tested}
use Rattle.std.proofs.lemmas.List.Elements.{All-from_recursion, recursion_from_All}
use Rattle.std.specs.Str.{bytes_eq}
use Rattle.list_laws.proofs.Walks.{next_got}
use Rattle.meta_model.specs.declared.group.Group.{Group}
use Rattle.meta_model.specs.declared.pv.Pv.{Pv}
use Rattle.scan_rules.proofs.Scanning.{same_bytes_tells}
use Rattle.vg_found.specs.declared.disk.Disk.{Disk}
use Rattle.vg_found.specs.Disks.{disk_with, disks_of}
use Rattle.group_plan.proofs.Passed.{both_false}
use Rattle.group_plan.proofs.StateFacts.{IsBelow, listed_are, listed_below}
use Rattle.group_plan.specs.Ids.{has_pv_id}
use Rattle.group_plan.specs.Judging.{first_refusal}
use Rattle.group_plan.specs.State.{IsState}
use Rattle.group_plan.specs.declared.state.GroupState.{GroupState}
use Rattle.vg_plans.proofs.PassedRows.{sound_passes}
use Rattle.vg_plans.specs.Vgcfgrestore.{disks_held, id_lacked, ids_lacked, least_of, lesser, sound_tests}

-- ---- rows

-- neither group has the last number of a version
pub sound_seqnos : (state : GroupState) (found said : Group) → first_refusal (sound_tests state found said) ≡ None
    → (found.seqno ≢ 4294967295) × (said.seqno ≢ 4294967295)
sound_seqnos state found said none =
    let parts =
    both_false (found.seqno == 4294967295) (said.seqno == 4294967295) (sound_passes state found said none).seqnos in (
      λ same. true≢false (sym (eq-eqb found.seqno 4294967295 same) ∙ parts.0),
      λ same. true≢false (sym (eq-eqb said.seqno 4294967295 same) ∙ parts.1),
    )

-- ---- physical volumes

pub no_least : (texts : List (List ℕ)) (text : List ℕ) → least_of (Some text) texts ≡ None → ⊥
no_least [] text none = cc
no_least (other ∷ texts) text none = no_least texts (lesser (Some text) other) none

pub no_some : (o : Option (List ℕ)) → is_some o ≡ false → o ≡ None
no_some None none = refl
no_some (Some text) none = absurd cc

one_listed : (found : Group) (pv : List ℕ × Pv) (rest : List (List ℕ × Pv)) (b : Bool) → has_pv_id found pv.1.id ≡ b
    → least_of None (map (λ (row : List ℕ × Pv). row.1.id) (cond (not b) (pv ∷ rest) rest)) ≡ None
    → (has_pv_id found pv.1.id ≡ true) × (least_of None (map (λ (row : List ℕ × Pv). row.1.id) rest) ≡ None)
one_listed found pv rest true is none = (is, none)
one_listed found pv rest false is none = absurd (no_least (map (λ (row : List ℕ × Pv). row.1.id) rest) pv.1.id none)

all_listed : (found : Group) (pvs : List (List ℕ × Pv)) → least_of None (ids_lacked found pvs) ≡ None
    → Each (λ (pv : List ℕ × Pv). has_pv_id found pv.1.id ≡ true) pvs
all_listed found [] none = tt
all_listed found (pv ∷ pvs) none =
    let parts =
    one_listed found pv (filter (λ (row : List ℕ × Pv). not (has_pv_id found row.1.id)) pvs) (has_pv_id found pv.1.id) refl none in
    (parts.0, all_listed found pvs parts.1)

-- what holds of the disk of an id holds of one with the same id
module _ (P : ℕ → Type 0) (disks : List Disk) where
  by_test : (id own : List ℕ) (b any : Bool) → bytes_eq own id ≡ b → (b || any) ≡ true → P (disk_with disks own)
      → (any ≡ true → P (disk_with disks id)) → P (disk_with disks id)
  by_test id own true any same has here later = subst (λ (l : List ℕ). P (disk_with disks l)) (same_bytes_tells own id same) here
  by_test id own false any same has here later = later has

  on_one : (id : List ℕ) (pvs : List (List ℕ × Pv)) → Each P (map (λ (pv : List ℕ × Pv). disk_with disks pv.1.id) pvs)
      → list_any (λ (pv : List ℕ × Pv). bytes_eq pv.1.id id) pvs ≡ true → P (disk_with disks id)
  on_one id [] holds has = absurd cc
  on_one id (pv ∷ pvs) holds has =
      by_test id pv.1.id (bytes_eq pv.1.id id) (list_any (λ (row : List ℕ × Pv). bytes_eq row.1.id id) pvs) refl has holds.0
      (on_one id pvs holds.1)

  on_all : (found : Group) (pvs : List (List ℕ × Pv)) → Each P (disks_of found disks)
      → Each (λ (pv : List ℕ × Pv). has_pv_id found pv.1.id ≡ true) pvs → Each P (map (λ (pv : List ℕ × Pv). disk_with disks pv.1.id) pvs)
  on_all found [] holds listed = tt
  on_all found (pv ∷ pvs) holds listed = (on_one pv.1.id found.pvs holds listed.0, on_all found pvs holds listed.1)

-- what holds of the disks of the group in force holds of those of the text's
sound_on : (P : ℕ → Type 0) (state : GroupState) → IsState state → (found said : Group) → state.group ≡ Some found → All P state.disk_of
    → first_refusal (sound_tests state found said) ≡ None → All P (disks_of said state.disks)
sound_on P state is found said there holds none =
    let lacked =
    both_false (is_some (id_lacked found said)) (is_some (id_lacked said found)) (sound_passes state found said none).same_pvs in
    let all : All P (disks_of found state.disks) = subst (All P) (listed_are state found is there) holds in
    All-from_recursion P (disks_of said state.disks)
    (on_all P state.disks found said.pvs (recursion_from_All P (disks_of found state.disks) all)
    (all_listed found said.pvs (no_some (id_lacked found said) lacked.0)))

-- each physical volume of the text's group is on one of 64 disks
pub sound_disks : (state : GroupState) → IsState state → (found said : Group) → state.group ≡ Some found
    → first_refusal (sound_tests state found said) ≡ None → All IsBelow (disks_of said state.disks)
sound_disks state is found said there none = sound_on IsBelow state is found said there (listed_below state found is there) none

-- and on one of those that there are
pub sound_listed : (state : GroupState) → IsState state → (found said : Group) → state.group ≡ Some found
    → first_refusal (sound_tests state found said) ≡ None → All (λ n. n < length state.disks) (disks_of said state.disks)
sound_listed state is found said there none =
    sound_on (λ n. n < length state.disks) state is found said there
    (subst (λ (o : Option Group). IfSome o (λ g. All (λ n. n < length state.disks) state.disk_of)) there is.there) none

-- ---- those that a disk holds

below_by : (n most : ℕ) (rest : List ℕ) (b : Bool) → nat_lt n most ≡ b → most ≤ 64 → Each IsBelow rest
    → Each IsBelow (cond b (n ∷ rest) rest)
below_by n most rest true is few below = (let less : n < most = ltb-true n most is in omega (arith, less, few), below)
below_by n most rest false is few below = below

each_below : (most : ℕ) → most ≤ 64 → (ns : List ℕ) → Each IsBelow (filter (λ n. nat_lt n most) ns)
each_below most few [] = tt
each_below most few (n ∷ ns) = below_by n most (filter (λ m. nat_lt m most) ns) (nat_lt n most) refl few (each_below most few ns)

-- where each is on one of them, these are all
all_held : (most : ℕ) (ns : List ℕ) → Each (λ n. n < most) ns → filter (λ n. nat_lt n most) ns ≡ ns
all_held most [] below = refl
all_held most (n ∷ ns) below =
    let first = below.0 in
    let less : nat_lt n most ≡ true = grind (arith, nat_tests) in
    ap (λ (b : Bool). cond b (n ∷ filter (λ m. nat_lt m most) ns) (filter (λ m. nat_lt m most) ns)) less
    ∙ ap (λ (l : List ℕ). n ∷ l) (all_held most ns below.1)

pub disks_all_held : (state : GroupState) (said : Group) → All (λ n. n < length state.disks) (disks_of said state.disks)
    → disks_held said state.disks ≡ disks_of said state.disks
disks_all_held state said below =
    all_held (length state.disks) (disks_of said state.disks)
    (recursion_from_All (λ n. n < length state.disks) (disks_of said state.disks) below)

pub held_below : (state : GroupState) → IsState state → (said : Group) → All IsBelow (disks_held said state.disks)
held_below state is said =
    All-from_recursion IsBelow (disks_held said state.disks) (each_below (length state.disks) is.few (disks_of said state.disks))

-- ---- the least that is lacked

lacked_by : (least : Option (List ℕ)) (pv : List ℕ × Pv) (rest : List (List ℕ × Pv)) (b : Bool)
    → least_of least (map (λ (row : List ℕ × Pv). row.1.id) (cond (not b) (pv ∷ rest) rest))
    ≡ least_of (cond b least (Some (lesser least pv.1.id))) (map (λ (row : List ℕ × Pv). row.1.id) rest)
lacked_by least pv rest true = refl
lacked_by least pv rest false = refl

pub lacked_next : (other : Group) (least new : Option (List ℕ)) (pvs : List (List ℕ × Pv)) (place : ℕ) (row : List ℕ × Pv)
    (whole : Option (List ℕ)) → slice_get pvs place ≡ Some row
    → new ≡ cond (has_pv_id other row.1.id) least (Some (lesser least row.1.id))
    → least_of least (ids_lacked other (drop place pvs)) ≡ whole → least_of new (ids_lacked other (drop (place + 1) pvs)) ≡ whole
lacked_next other least new pvs place row whole is made all =
    ap (λ (l : Option (List ℕ)). least_of l (ids_lacked other (drop (place + 1) pvs))) made
    ∙ sym (lacked_by least row (filter (λ (pv : List ℕ × Pv). not (has_pv_id other pv.1.id)) (drop (place + 1) pvs))
    (has_pv_id other row.1.id))
    ∙ sym (ap (λ (l : List (List ℕ × Pv)). least_of least (ids_lacked other l)) (next_got pvs place row is)) ∙ all

-- ---- texts in order

in_order : (x y : ℕ) (xs ys : List ℕ) (o : Ordering) → o ≡ nat_cmp x y
    → MatchOrdering o (is_le (slice_cmp nat_cmp (x ∷ xs) (y ∷ ys)) ≡ is_le Less)
    (is_le (slice_cmp nat_cmp (x ∷ xs) (y ∷ ys)) ≡ is_le (slice_cmp nat_cmp xs ys))
    (is_le (slice_cmp nat_cmp (x ∷ xs) (y ∷ ys)) ≡ is_le Greater)
in_order x y xs ys Less is = ap (λ (o : Ordering). is_le (ordering_then o (slice_cmp nat_cmp xs ys))) (sym is)
in_order x y xs ys Equal is = ap (λ (o : Ordering). is_le (ordering_then o (slice_cmp nat_cmp xs ys))) (sym is)
in_order x y xs ys Greater is = ap (λ (o : Ordering). is_le (ordering_then o (slice_cmp nat_cmp xs ys))) (sym is)

-- what a comparison of two slices answers
pub at_most : (xs ys : List ℕ) (r : Bool) → r ≡ is_some_and is_le (slice_partial_cmp (λ x y. Some (nat_cmp x y)) xs ys)
    → r ≡ is_le (slice_cmp nat_cmp xs ys)
at_most = same_from_slice_cmp_tested nat_cmp is_le (λ xs ys. is_le (slice_cmp nat_cmp xs ys)) refl (λ y ys. refl) (λ x xs. refl) in_order
