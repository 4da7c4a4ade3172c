-- Setting a mark puts its number into the set, clearing it takes the number out.
use Rattle.std.proofs.Common.{◌≡◌, ◌<◌, ℕ, suc, Bool, true, false, not, ◌&&◌, ◌||◌, ◌==◌, IsTrue, List, [], ◌∷◌, length, get_or, set, refl}
use Rattle.std.proofs.Common.{sym, ap, ◌∙◌, arith}
use Rattle.std.proofs.lemmas.Bool.{true≢false}
use Rattle.std.specs.Ordering.{nat_cmp}
use Rattle.std.specs.Cmp.{nat_cmp_total, unsigned_tied}
use Rattle.std.specs.List.{list_any}
use Rattle.std.specs.FinSet.{FinSet, contains, empty, insert, remove, from_list, contains-empty, contains-insert, contains-remove, same_set}
use Rattle.std.specs.FinSet.{nat_cmp-IsAntisymmetric}
use Rattle.std.proofs.lemmas.Bool.Decides.{nat_tests}
use Rattle.std.proofs.lemmas.Grind.{common_steps}
use Rattle.sector_base.specs.PvSets.{places_from}
use Rattle.sector_base.specs.PvSetPlaces.{contains-places_from}

or_second : (a b : Bool) → (a || b) ≡ false → b ≡ false
or_second true b h = absurd (true≢false h)
or_second false b h = h

pub not-false : (a : Bool) → IsTrue (not a) → a ≡ false
not-false true h = absurd (true≢false (sym h))
not-false false h = refl

pub contains-marks : (marks : List Bool) (q : ℕ) → contains (from_list {R = nat_cmp} (places_from 0 marks)) q ≡ get_or marks q false
contains-marks marks q = ap (contains (from_list {R = nat_cmp} (places_from 0 marks))) (omega arith) ∙ contains-places_from marks 0 q

get_or-set_true : (marks : List Bool) (k q : ℕ) → k < length marks → get_or (set marks k true) q false ≡ ((q == k) || get_or marks q false)
get_or-set_true marks k q h = grind (arith, nat_tests, common_steps)

get_or-set_false : (marks : List Bool) (k q : ℕ) → k < length marks
    → get_or (set marks k false) q false ≡ (not (q == k) && get_or marks q false)
get_or-set_false marks k q h = grind (arith, nat_tests, common_steps)

pub places_from-insert : (marks : List Bool) (k : ℕ) → k < length marks
    → from_list {R = nat_cmp} (places_from 0 (set marks k true)) ≡ insert (from_list (places_from 0 marks)) k
places_from-insert marks k h =
    same_set nat_cmp_total nat_cmp-IsAntisymmetric _ _ (λ q.
    contains-marks (set marks k true) q ∙ get_or-set_true marks k q h
    ∙ sym (contains-insert nat_cmp_total (from_list (places_from 0 marks)) k q
    ∙ ap (λ (t : Bool). t || contains (from_list {R = nat_cmp} (places_from 0 marks)) q) (unsigned_tied q k)
    ∙ ap (λ (t : Bool). (q == k) || t) (contains-marks marks q)))

pub places_from-remove : (marks : List Bool) (k : ℕ) → k < length marks
    → from_list {R = nat_cmp} (places_from 0 (set marks k false)) ≡ remove (from_list (places_from 0 marks)) k
places_from-remove marks k h =
    same_set nat_cmp_total nat_cmp-IsAntisymmetric _ _ (λ q.
    contains-marks (set marks k false) q ∙ get_or-set_false marks k q h
    ∙ sym (contains-remove nat_cmp_total (from_list (places_from 0 marks)) k q
    ∙ ap (λ (t : Bool). not t && contains (from_list {R = nat_cmp} (places_from 0 marks)) q) (unsigned_tied q k)
    ∙ ap (λ (t : Bool). not (q == k) && t) (contains-marks marks q)))

-- no number is in the set where no mark passes
pub empty-list_any : (p : Bool → Bool) → p true ≡ true → (marks : List Bool) (first : ℕ) → list_any p marks ≡ false
    → from_list {R = nat_cmp} (places_from first marks) ≡ empty
empty-list_any p passes [] first none = refl
empty-list_any p passes (true ∷ marks) first none = absurd (true≢false (sym (ap (λ (t : Bool). t || list_any p marks) passes) ∙ none))
empty-list_any p passes (false ∷ marks) first none = empty-list_any p passes marks (suc first) (or_second (p false) (list_any p marks) none)

none_passes : (p : Bool → Bool) → p false ≡ false → (marks : List Bool) → ((k : ℕ) → get_or marks k false ≡ false)
    → list_any p marks ≡ false
none_passes p fails [] each = refl
none_passes p fails (mark ∷ marks) each =
    ap (λ (m : Bool). p m || list_any p marks) (each 0)
    ∙ ap (λ (t : Bool). t || list_any p marks) fails
    ∙ none_passes p fails marks (λ k. each (suc k))

-- no mark passes where the set is empty
pub list_any-empty : (p : Bool → Bool) → p false ≡ false → (marks : List Bool) → from_list {R = nat_cmp} (places_from 0 marks) ≡ empty
    → list_any p marks ≡ false
list_any-empty p fails marks none =
    none_passes p fails marks (λ k. sym (contains-marks marks k) ∙ ap (λ (s : FinSet nat_cmp). contains s k) none
    ∙ contains-empty nat_cmp k)
