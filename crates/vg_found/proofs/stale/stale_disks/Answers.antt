-- One area more.
use Rattle.std.proofs.Common.{◌≡◌, ◌<◌, ℕ, ◌+◌, Bool, true, false, ◌||◌, ◌==◌, List, length, drop, get_or, refl, sym, ap, ◌∙◌, add-one}
use Rattle.std.proofs.Common.{arith, drop-cons}
use Rattle.std.specs.Cmp.{nat_cmp_total, unsigned_tied}
use Rattle.std.specs.FinSet as set
use Rattle.std.specs.FinSet.{FinSet, contains-empty, contains-insert}
use Rattle.std.specs.List.{list_any}
use Rattle.std.specs.Ordering.{nat_cmp}
use Rattle.std.proofs.lemmas.Bool.Decides.{nat_tests}
use Rattle.vg_found.specs.StaleAreas.{is_on}
use Rattle.vg_found.proofs.stale.stale_disks.Goals as goal

any_at : (pv : ℕ) (areas : List (ℕ × ℕ)) (i : ℕ) (d : ℕ × ℕ) → i < length areas
    → list_any (is_on pv) (drop i areas) ≡ (((get_or areas i d).0 == pv) || list_any (is_on pv) (drop (i + 1) areas))
any_at pv areas i d within = rw add-one (ap (list_any (is_on pv)) (drop-cons areas i d within))

same_either_way : (a b : ℕ) → (a == b) ≡ (b == a)
same_either_way a b = grind (arith, nat_tests)

turned : (here before rest : Bool) → ((here || before) || rest) ≡ (before || (here || rest))
turned true true rest = refl
turned true false rest = refl
turned false before rest = refl

one_more : (areas : List (ℕ × ℕ)) (i : ℕ) (d : ℕ × ℕ) (old new : FinSet nat_cmp) → i < length areas
    → new ≡ set.insert old (get_or areas i d).0
    → ((pv : ℕ) → (set.contains old pv || list_any (is_on pv) (drop i areas)) ≡ list_any (is_on pv) areas)
    → (pv : ℕ) → (set.contains new pv || list_any (is_on pv) (drop (i + 1) areas)) ≡ list_any (is_on pv) areas
one_more areas i d old new within is so_far pv =
    let disk : ℕ = (get_or areas i d).0 in
    let rest : Bool = list_any (is_on pv) (drop (i + 1) areas) in
    ap (λ (s : FinSet nat_cmp). set.contains s pv || rest) is
    ∙ ap (λ (b : Bool). b || rest) (contains-insert nat_cmp_total old disk pv
    ∙ ap (λ (b : Bool). b || set.contains old pv) (unsigned_tied pv disk ∙ same_either_way pv disk))
    ∙ turned (disk == pv) (set.contains old pv) rest
    ∙ ap (λ (b : Bool). set.contains old pv || b) (sym (any_at pv areas i d within))
    ∙ so_far pv

pub loop-disk-init : goal.loop-disk-init
loop-disk-init c pv =
    ap (λ (b : Bool). b || list_any (is_on pv) c.args.stale.now)
    (ap (λ (s : FinSet nat_cmp). set.contains s pv) c.new-disks.ensures ∙ contains-empty nat_cmp pv)

pub loop-disk-preserved : goal.loop-disk-preserved
loop-disk-preserved c =
    one_more c.args.stale.now c.loop-disk.disk-index _ c.loop-disk.disks c.insert.new.self c.loop-disk-test.true c.insert.ensures
    c.loop-disk.invariant
