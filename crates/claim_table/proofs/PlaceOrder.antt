-- What the order of places says of volumes and sectors.
use Rattle.std.proofs.Common.{◌≡◌, ◌<◌, ◌≤◌, ℕ, max, min, Bool, true, false, cond, nat_eq, nat_le, nat_lt, ◌&&◌, ◌||◌, List, length}
use Rattle.std.proofs.Common.{get_or, refl, sym, subst, ◌∙◌, arith}
use Rattle.std.specs.Prelude.{Option}
use Rattle.std.specs.Cmp.{IsTotalOrder, bool_cmp_total}
use Rattle.std.specs.List.{list_any}
use Rattle.std.specs.List.Sorted.{IsPartitionedBy, IsPartitionPoint}
use Rattle.std.specs.Ordering.{bool_cmp, is_eq, is_lt, nat_cmp, ordering_then}
use Rattle.std.specs.declared.cmp.Ordering.{Ordering}
use Rattle.std.specs.declared.cmp.Ordering.TheVariants.{Less, Equal, Greater}
use Rattle.std.proofs.lemmas.Bool.{false≢true, ltb-true, ltb-false, leb-true, eqb-true, eqb-false, lt-ltb, le-ltb, le-leb, eq-eqb, ne_eqb}
use Rattle.std.proofs.lemmas.Bool.{and_right, and_parts, and_from}
use Rattle.std.proofs.lemmas.Cmp.{nat_cmp_total, on_total, then_total}
use Rattle.std.proofs.lemmas.List.{get_or_default}
use Rattle.std.proofs.lemmas.List.Folds.{list_any_at, list_any_none}
use Rattle.sector_base.specs.declared.places.Piece.{Piece}
use Rattle.claim_table.specs.declared.placed.Placed.{Placed}
use Rattle.claim_table.specs.Extents.{end_of}
use Rattle.claim_table.specs.Places.{is_below, is_met, is_past, meets, piece_of, placed_cmp}
use Rattle.claim_table.specs.Sorted.{IsAscending}

-- volumes don't fall
pub volumes_rise : (a b : Placed) → is_lt (placed_cmp b a) ≡ false → a.volume ≤ b.volume
volumes_rise a b h =
    elim (nat_lt b.volume a.volume) as (λ t. nat_lt b.volume a.volume ≡ t → a.volume ≤ b.volume) [
      | true ↦ λ t. absurd (grind (arith, t, h))
      | false ↦ λ t. ltb-false b.volume a.volume t
    ] refl

-- nor do first sectors within one
pub firsts_rise : (a b : Placed) → is_lt (placed_cmp b a) ≡ false → a.volume ≡ b.volume → a.first ≤ b.first
firsts_rise a b h same =
    elim (nat_lt b.first a.first) as (λ t. nat_lt b.first a.first ≡ t → a.first ≤ b.first) [
      | true ↦ λ t. absurd (grind (arith, t, h, same))
      | false ↦ λ t. ltb-false b.first a.first t
    ] refl

-- where a place lies past the piece's end, those behind it do
pub past_rises : (p : Piece) (a b : Placed) → is_lt (placed_cmp b a) ≡ false → is_past p a ≡ true → is_past p b ≡ true
past_rises p a b rise h =
    let up : a.volume ≤ b.volume = volumes_rise a b rise in
    elim (nat_eq b.volume p.volume) as (λ t. nat_eq b.volume p.volume ≡ t
    → cond t (nat_le (end_of p) b.first) (nat_lt p.volume b.volume) ≡ true) [
      | true ↦ λ t. elim (nat_eq a.volume p.volume) as
          (λ s. nat_eq a.volume p.volume ≡ s → cond s (nat_le (end_of p) a.first) (nat_lt p.volume a.volume) ≡ true
          → nat_le (end_of p) b.first ≡ true) [
            | true ↦ λ s g.
                let same : a.volume ≡ b.volume = eqb-true a.volume p.volume s ∙ sym (eqb-true b.volume p.volume t) in
                le-leb (end_of p) b.first (omega (arith, leb-true (end_of p) a.first g, firsts_rise a b rise same))
            | false ↦ λ s g. absurd (omega (arith, ltb-true p.volume a.volume g, eqb-true b.volume p.volume t, up))
          ] refl h
      | false ↦ λ t. elim (nat_eq a.volume p.volume) as
          (λ s. nat_eq a.volume p.volume ≡ s → cond s (nat_le (end_of p) a.first) (nat_lt p.volume a.volume) ≡ true
          → nat_lt p.volume b.volume ≡ true) [
            | true ↦ λ s g. lt-ltb p.volume b.volume (omega (arith, eqb-true a.volume p.volume s, eqb-false b.volume p.volume t, up))
            | false ↦ λ s g. lt-ltb p.volume b.volume (omega (arith, ltb-true p.volume a.volume g, up))
          ] refl h
    ] refl

-- what lies past the piece's end isn't met
pub past_unmet : (p : Piece) (limit : Option ℕ) (e : Placed) → is_past p e ≡ true → is_met p limit e ≡ false
past_unmet p limit e h =
    elim (nat_eq e.volume p.volume) as (λ t. nat_eq e.volume p.volume ≡ t
    → cond t (nat_le (end_of p) e.first) (nat_lt p.volume e.volume) ≡ true
    → (is_below limit e.number && ((e.write || p.write) && (t && nat_lt (max e.first p.first) (min (end_of (piece_of e)) (end_of p)))))
    ≡ false) [
      | true ↦ λ t g. and_right (is_below limit e.number) _
          (and_right (e.write || p.write) _ (le-ltb (max e.first p.first) (min (end_of (piece_of e)) (end_of p))
          (omega (arith, leb-true (end_of p) e.first g))))
      | false ↦ λ t g. and_right (is_below limit e.number) _ (and_right (e.write || p.write) false refl)
    ] refl h

-- from one that lies past its end on, none is met
pub past_from : (p : Piece) (limit : Option ℕ) (places : List Placed) (at : ℕ) (e : Placed) → IsAscending placed_cmp places
    → at < length places → is_past p (get_or places at e) ≡ true
    → (k : ℕ) (d : Placed) → at ≤ k → k < length places → is_met p limit (get_or places k d) ≡ false
past_from p limit places at e up within past_there k d le lt =
    let past : is_past p (get_or places at d) ≡ true =
    subst (λ (x : Placed). is_past p x ≡ true) (get_or_default places at e d within) past_there in
    elim (nat_eq at k) as (λ t. nat_eq at k ≡ t → is_met p limit (get_or places k d) ≡ false) [
      | true ↦ λ t. past_unmet p limit (get_or places k d) (subst (λ (n : ℕ). is_past p (get_or places n d) ≡ true) (eqb-true at k t) past)
      | false ↦ λ t. past_unmet p limit (get_or places k d)
          (past_rises p (get_or places at d) (get_or places k d) (up at k d (omega (arith, eqb-false at k t)) lt) past)
    ] refl

-- where neither those before a place are met nor those from it on, none is
pub none_met : (p : Piece) (limit : Option ℕ) (places : List Placed) (at : ℕ)
    → ((k : ℕ) (d : Placed) → k < at → is_met p limit (get_or places k d) ≡ false)
    → ((k : ℕ) (d : Placed) → at ≤ k → k < length places → is_met p limit (get_or places k d) ≡ false)
    → list_any (is_met p limit) places ≡ false
none_met p limit places at before behind = list_any_none (is_met p limit) places (λ k d lt.
    elim (nat_lt k at) as (λ t. nat_lt k at ≡ t → is_met p limit (get_or places k d) ≡ false) [
      | true ↦ λ t. before k d (ltb-true k at t)
      | false ↦ λ t. behind k d (ltb-false k at t) lt
    ] refl)

-- one that is met has its number
pub one_met : (p : Piece) (limit : Option ℕ) (places : List Placed) (at : ℕ) (d : Placed) → at < length places
    → is_met p limit (get_or places at d) ≡ true
    → list_any (λ e. is_below limit e.number && (nat_eq e.number (get_or places at d).number && meets p e)) places ≡ true
one_met p limit places at d lt met =
    let e : Placed = get_or places at d in
    list_any_at (λ x. is_below limit x.number && (nat_eq x.number e.number && meets p x)) places at d lt
    (and_from (is_below limit e.number) _ (and_parts (is_below limit e.number) (meets p e) met).0
    (and_from (nat_eq e.number e.number) (meets p e) (eq-eqb e.number e.number refl)
    (and_parts (is_below limit e.number) (meets p e) met).1))

-- tests of volumes divide the places
pub volumes_partitioned : (places : List Placed) (volume : ℕ) → IsAscending placed_cmp places
    → IsPartitionedBy (λ e. nat_lt e.volume volume) places
volumes_partitioned places volume up i j d le lt below =
    elim (nat_eq i j) as (λ t. nat_eq i j ≡ t → nat_lt (get_or places i d).volume volume ≡ true) [
      | true ↦ λ t. subst (λ (n : ℕ). nat_lt (get_or places n d).volume volume ≡ true) (sym (eqb-true i j t)) below
      | false ↦ λ t. lt-ltb (get_or places i d).volume volume
          (omega (
            arith,
            ltb-true (get_or places j d).volume volume below,
            volumes_rise (get_or places i d) (get_or places j d) (up i j d (omega (arith, eqb-false i j t)) lt),
          ))
    ] refl

-- where the first place that isn't below the volume is of another, none is of it
pub volume_nowhere : (places : List Placed) (volume at : ℕ) → IsAscending placed_cmp places
    → IsPartitionPoint (λ e. nat_lt e.volume volume ≡ true) (λ e. nat_lt e.volume volume ≡ false) places at
    → ((d : Placed) → at < length places → nat_eq (get_or places at d).volume volume ≡ false)
    → list_any (λ e. nat_eq e.volume volume) places ≡ false
volume_nowhere places volume at up parts here = list_any_none (λ e. nat_eq e.volume volume) places (λ k d lt.
    elim (nat_lt k at) as (λ t. nat_lt k at ≡ t → nat_eq (get_or places k d).volume volume ≡ false) [
      | true ↦ λ t. ne_eqb (get_or places k d).volume volume
          (λ e. omega (arith, e, ltb-true (get_or places k d).volume volume (parts.0 k d (omega arith) (ltb-true k at t))))
      | false ↦ λ t.
          let le : at ≤ k = ltb-false k at t in
          let above : volume ≤ (get_or places at d).volume =
          ltb-false (get_or places at d).volume volume (parts.1 at d (omega arith) (omega arith)) in
          let other = eqb-false (get_or places at d).volume volume (here d (omega arith)) in
          elim (nat_eq at k) as (λ s. nat_eq at k ≡ s → nat_eq (get_or places k d).volume volume ≡ false) [
            | true ↦ λ s. subst (λ (n : ℕ). nat_eq (get_or places n d).volume volume ≡ false) (eqb-true at k s) (here d (omega arith))
            | false ↦ λ s. ne_eqb (get_or places k d).volume volume
                (λ e. omega (
                  arith,
                  e,
                  above,
                  other,
                  volumes_rise (get_or places at d) (get_or places k d)
                      (up at k d (omega (arith, eqb-false at k s)) lt),
                ))
          ] refl
    ] refl)

-- of the volume is the first place that isn't below it, or none
pub volume_at : (places : List Placed) (volume at : ℕ) (d : Placed) → IsAscending placed_cmp places
    → IsPartitionPoint (λ e. nat_lt e.volume volume ≡ true) (λ e. nat_lt e.volume volume ≡ false) places at
    → at < length places → nat_eq (get_or places at d).volume volume ≡ list_any (λ e. nat_eq e.volume volume) places
volume_at places volume at d up parts within =
    elim (nat_eq (get_or places at d).volume volume) as
    (λ b. nat_eq (get_or places at d).volume volume ≡ b → b ≡ list_any (λ e. nat_eq e.volume volume) places) [
      | true ↦ λ here. sym (list_any_at (λ e. nat_eq e.volume volume) places at d within here)
      | false ↦ λ here. sym (volume_nowhere places volume at up parts
          (λ e lt. subst (λ (x : Placed). nat_eq x.volume volume ≡ false) (get_or_default places at d e lt) here))
    ] refl

-- places that compare alike are one
then_equal : (a b : ℕ) (o : Ordering) → is_eq (ordering_then (nat_cmp a b) o) ≡ true → (a ≡ b) × (is_eq o ≡ true)
then_equal a b o h =
    elim (nat_lt a b) as (λ t. nat_lt a b ≡ t → is_eq (ordering_then (cond t Less (cond (nat_eq a b) Equal Greater)) o) ≡ true
    → (a ≡ b) × (is_eq o ≡ true)) [
      | true ↦ λ t g. absurd (false≢true g)
      | false ↦ λ t. elim (nat_eq a b) as (λ s. nat_eq a b ≡ s → is_eq (ordering_then (cond s Equal Greater) o) ≡ true
          → (a ≡ b) × (is_eq o ≡ true)) [
            | true ↦ λ s g. (eqb-true a b s, g)
            | false ↦ λ s g. absurd (false≢true g)
          ] refl
    ] refl h

bools_equal : (a b : Bool) → is_eq (bool_cmp a b) ≡ true → a ≡ b
bools_equal false false h = refl
bools_equal false true h = absurd (false≢true h)
bools_equal true false h = absurd (false≢true h)
bools_equal true true h = refl

pub one_place : (a b : Placed) → is_eq (placed_cmp a b) ≡ true → a ≡ b
one_place a b h =
    let v = then_equal a.volume b.volume _ h in
    let f = then_equal a.first b.first _ v.1 in
    let n = then_equal a.number b.number _ f.1 in
    let c = then_equal a.count b.count _ n.1 in
    let w = bools_equal a.write b.write c.1 in
    λ i. record { volume = v.0 i; first = f.0 i; number = n.0 i; count = c.0 i; write = w i }

-- the order of places is total
pub places_total : IsTotalOrder placed_cmp
places_total =
    then_total (on_total (λ (e : Placed). e.volume) nat_cmp_total)
    (then_total (on_total (λ (e : Placed). e.first) nat_cmp_total)
    (then_total (on_total (λ (e : Placed). e.number) nat_cmp_total)
    (then_total (on_total (λ (e : Placed). e.count) nat_cmp_total) (on_total (λ (e : Placed). e.write) bool_cmp_total))))
