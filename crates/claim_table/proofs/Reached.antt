-- The claims after any calls, and what a conflict is.
use Rattle.std.proofs.Common.{◌≡◌, ◌<◌, ℕ, zero, suc, max, min, Bool, true, false, cond, ◌&&◌, ◌||◌, nat_eq, nat_lt, List}
use Rattle.std.proofs.Common.{[], ◌∷◌, ◌++◌, length, get_or, take, refl, sym, subst, ◌∙◌, arith}
use Rattle.std.specs.Prelude.{Contains, None, Option, Some, remove}
use Rattle.std.specs.List.{insert, list_any}
use Rattle.std.specs.Option.{option_map_or}
use Rattle.std.proofs.lemmas.Bool.{true≢false, and_from, and_parts, eq-eqb, eqb-true, false_from_ne_true, lt-ltb, ltb-true}
use Rattle.std.proofs.lemmas.List.{get_or_default}
use Rattle.std.proofs.lemmas.List.Folds.{Any-from_list_any, list_any_at}
use Rattle.std.proofs.lemmas.List.Sorted.{Contains-permutation, IsPermutation-insert, IsPermutation-remove, IsPermutation-sym}
use Rattle.std.proofs.lemmas.List.Sorted.{IsPermutation-to_front}
use Rattle.list_laws.proofs.Positions.{any_within}
use Rattle.claim_table.specs.declared.claim.Claim.{Claim}
use Rattle.claim_table.specs.declared.claim.By.TheVariants.{Piece, Region, Suspended}
use Rattle.claim_table.specs.declared.claim.Entry.TheVariants.{Started, Deferred}
use Rattle.claim_table.specs.Claims.{Claims, IsApart, clashes_with, conflicts, is_shut_out, is_suspended, lies_in, ready_at}
use Rattle.claim_table.specs.Conflict.{clash}
use Rattle.claim_table.specs.Extents.{end_of, overlaps}
use Rattle.claim_table.specs.Laws.{Call, Reserves, Enters, Relocates, Leaves, Readies, Closes, Opens, Suspends, Resumes}
use Rattle.claim_table.specs.Laws.{ClashesShareSectors, FreeWithoutConflict, IsCall, NoneStartsSuspended, StartedAreApart}
use Rattle.claim_table.specs.Laws.{StartsInOrder, after_call, after_calls}
use Rattle.claim_table.specs.Steps.{has_number, no_claim, number_at, place_by_number, without}
use Rattle.claim_table.proofs.Apart.{apart_by_close, apart_by_enter, apart_by_leave, apart_by_open, apart_by_ready, apart_by_resume}
use Rattle.claim_table.proofs.Apart.{apart_by_set_region, apart_by_suspend}
use Rattle.claim_table.proofs.FreePieces.{conflict_blocks, free_earlier, free_running, ready_is_free}
use Rattle.claim_table.proofs.Passing.{none_at}

-- a clash is a sector in common
pub clashes_share : ClashesShareSectors
clashes_share c d = (
  (λ h.
      let w = and_parts (c.piece.write || d.piece.write) (overlaps c.piece d.piece) h in
      let v =
      and_parts (nat_eq c.piece.volume d.piece.volume)
      (nat_lt (max c.piece.first d.piece.first) (min (end_of c.piece) (end_of d.piece))) w.1 in
      let lt : max c.piece.first d.piece.first < min (end_of c.piece) (end_of d.piece) =
      ltb-true (max c.piece.first d.piece.first) (min (end_of c.piece) (end_of d.piece)) v.1 in (
        w.0,
        eqb-true c.piece.volume d.piece.volume v.0,
        (max c.piece.first d.piece.first, omega arith, omega (arith, lt), omega arith, omega (arith, lt)),
      )),
  (λ h.
      and_from (c.piece.write || d.piece.write) (overlaps c.piece d.piece) h.0
      (and_from (nat_eq c.piece.volume d.piece.volume) (nat_lt (max c.piece.first d.piece.first) (min (end_of c.piece) (end_of d.piece)))
      (eq-eqb c.piece.volume d.piece.volume h.1)
      (lt-ltb (max c.piece.first d.piece.first) (min (end_of c.piece) (end_of d.piece)) (omega (arith, h.2.1, h.2.2, h.2.3, h.2.4))))),
)

-- where no number clashes, none does
no_clash : (c : Claim) (others : List Claim) → ((number : ℕ) → clashes_with c number others ≡ false)
    → list_any (λ d. clash d c) others ≡ false
no_clash c others none = false_from_ne_true (list_any (λ d. clash d c) others) (λ h.
    let found = Any-from_list_any (λ (d : Claim). clash d c) others h in
    let passes : (nat_eq (get_or others found.0 found.1).number found.1.number && clash (get_or others found.0 found.1) c) ≡ true =
    rw (found.3) (and_from (nat_eq found.1.number found.1.number) (clash found.1 c) (eq-eqb found.1.number found.1.number refl)
    found.4) in
    true≢false (sym (list_any_at (λ (d : Claim). nat_eq d.number found.1.number && clash d c) others found.0 found.1 found.2 passes)
    ∙ none found.1.number))

-- where none of two passes, the one doesn't, nor the other
or_first : (a b : Bool) → (a || b) ≡ false → a ≡ false
or_first true b h = h
or_first false b h = refl

or_second : (a b : Bool) → (a || b) ≡ false → b ≡ false
or_second true b h = cc
or_second false b h = h

-- a region that shuts a piece out is one that it conflicts with
not_shut_out : (c : Claim) (closed : Option ℕ)
    → ((region : ℕ) → (option_map_or (λ r. nat_eq r region) closed false && lies_in region c) ≡ false)
    → option_map_or (λ region. lies_in region c) closed false ≡ false
not_shut_out c None none = refl
not_shut_out c (Some region) none =
    false_from_ne_true (lies_in region c) (λ h. true≢false
    (sym (and_from (nat_eq region region) (lies_in region c) (eq-eqb region region refl) h) ∙ none region))

pub free_without : FreeWithoutConflict
free_without claims earlier c = (
  (λ free by. false_from_ne_true (conflicts claims earlier c by) (λ h. true≢false (sym free ∙ conflict_blocks claims earlier c by h))),
  (λ none.
      let started : list_any (λ d. clash d c) claims.started ≡ false =
      no_clash c claims.started (λ number. or_first (clashes_with c number claims.started) (clashes_with c number earlier)
      (none (Piece number))) in
      let before : list_any (λ d. clash d c) earlier ≡ false =
      no_clash c earlier (λ number. or_second (clashes_with c number claims.started) (clashes_with c number earlier)
      (none (Piece number))) in
      let open_to : is_shut_out claims c ≡ false = not_shut_out c claims.closed (λ region. none (Region region)) in
      let runs : is_suspended claims c.piece.volume ≡ false =
      false_from_ne_true (is_suspended claims c.piece.volume)
      (λ h. true≢false (sym (and_from (is_suspended claims c.piece.volume) (nat_eq c.piece.volume c.piece.volume) h
      (eq-eqb c.piece.volume c.piece.volume refl)) ∙ none (Suspended c.piece.volume))) in
      rw (started, before, open_to, runs) refl),
)

-- each call keeps the started pieces apart
apart_step : (claims : Claims) (call : Call) → IsCall claims call → IsApart claims → IsApart (after_call claims call)
apart_step claims (Reserves pieces) may apart = record { pairwise = apart.pairwise; outside = apart.outside }
apart_step claims (Enters c entry) may apart = apart_by_enter claims c entry may.3 apart
apart_step claims (Relocates number region) may apart = apart_by_set_region claims number region apart
apart_step claims (Leaves number) may apart = apart_by_leave claims number apart
apart_step claims Readies may apart = apart_by_ready claims may apart
apart_step claims (Closes region) may apart = apart_by_close claims region may.1 apart
apart_step claims (Opens region) may apart = apart_by_open claims apart
apart_step claims (Suspends volume) may apart = apart_by_suspend claims volume apart
apart_step claims (Resumes volume) may apart = apart_by_resume claims volume apart

pub started_apart : StartedAreApart
started_apart [] are = record { pairwise = λ i j d lt within. absurd (omega arith); outside = λ k d lt. absurd (omega arith) }
started_apart (call ∷ before) are = apart_step (after_calls before) call are.0 (started_apart before are.1)

-- an item of a list is its first, or one of the others
first_or_other : (x c : Claim) (xs : List Claim) (k : ℕ) → k < length (x ∷ xs) → get_or (x ∷ xs) k c ≡ c → (G : Type 0) → (x ≡ c → G)
    → (Contains xs c → G) → G
first_or_other x c xs zero lt is G first other = first is
first_or_other x c xs (suc k) lt is G first other = other (k, omega arith, is)

-- what is left was there
was_there : (xs : List Claim) (n : ℕ) (c : Claim) → n < length xs → Contains (remove xs n) c → Contains xs c
was_there xs n c lt there =
    let x : Claim = get_or xs n no_claim in
    Contains-permutation (x ∷ remove xs n) xs c
    (IsPermutation-sym xs (x ∷ remove xs n) (IsPermutation-remove xs n x lt (get_or_default xs n no_claim x lt)))
    (suc there.0, omega (arith, there.1), there.2)

-- a piece that a call started is of no suspended volume
newly_started : (claims : Claims) (call : Call) (c : Claim) → IsCall claims call → Contains (after_call claims call).started c
    → (Contains claims.started c → ⊥) → is_suspended claims c.piece.volume ≡ false
newly_started claims (Reserves pieces) c may there new = absurd (new there)
newly_started claims (Enters x Started) c may there new =
    let moved = Contains-permutation (claims.started ++ x ∷ []) (x ∷ claims.started) c (IsPermutation-to_front claims.started x) there in
    first_or_other x c claims.started moved.0 moved.1 moved.2 (is_suspended claims c.piece.volume ≡ false)
    (λ same. subst (λ (y : Claim). is_suspended claims y.piece.volume ≡ false) same (free_running claims claims.deferred x may.3))
    (λ old. absurd (new old))
newly_started claims (Enters x (Deferred by)) c may there new = absurd (new there)
newly_started claims (Relocates number region) c may there new = absurd (new there)
newly_started claims (Leaves number) c may there new =
    elim (list_any (has_number number) claims.started) as
    (λ b. list_any (has_number number) claims.started ≡ b
    → Contains (cond b (record claims { started = without claims.started number })
    (record claims { deferred = without claims.deferred number })).started c → is_suspended claims c.piece.volume ≡ false) [
      | true ↦ λ here left. absurd (new (was_there claims.started (number_at claims.started number) c
          (any_within (has_number number) claims.started here) left))
      | false ↦ λ gone left. absurd (new left)
    ] refl there
newly_started claims Readies c may there new =
    let x : Claim = get_or claims.deferred (ready_at claims) no_claim in
    let at : ℕ = place_by_number claims.started x.number in
    let moved =
    Contains-permutation (insert claims.started at x) (x ∷ claims.started) c
    (IsPermutation-sym (x ∷ claims.started) (insert claims.started at x) (IsPermutation-insert claims.started at x)) there in
    first_or_other x c claims.started moved.0 moved.1 moved.2 (is_suspended claims c.piece.volume ≡ false)
    (λ same. subst (λ (y : Claim). is_suspended claims y.piece.volume ≡ false) same
    (free_running claims _ x (ready_is_free claims [] claims.deferred no_claim may))) (λ old. absurd (new old))
newly_started claims (Closes region) c may there new = absurd (new there)
newly_started claims (Opens region) c may there new = absurd (new there)
newly_started claims (Suspends volume) c may there new = absurd (new there)
newly_started claims (Resumes volume) c may there new = absurd (new there)

pub none_starts_suspended : NoneStartsSuspended
none_starts_suspended before call c are there new = newly_started (after_calls before) call c are.0 there new

-- the piece that is ready first passes over none that it clashes with
pub starts_in_order : StartsInOrder
starts_in_order before are =
    let claims : Claims = after_calls before in
    let c : Claim = get_or claims.deferred (ready_at claims) no_claim in
    none_at (λ (d : Claim). clash d c) (take (ready_at claims) claims.deferred)
    (free_earlier claims (take (ready_at claims) claims.deferred) c (ready_is_free claims [] claims.deferred no_claim are.0))
