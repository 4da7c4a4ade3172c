-- Started pieces stay apart: each call keeps it.
use Rattle.std.proofs.Common.{◌≡◌, ◌<◌, ◌≤◌, ℕ, max, min, Bool, true, false, not, ◌||◌, nat_eq, nat_le, [], ◌∷◌, length, get_or, cond, refl}
use Rattle.std.proofs.Common.{◌∙◌, arith}
use Rattle.std.specs.Prelude.{Option, None, Some}
use Rattle.std.specs.List.{insert, list_any}
use Rattle.std.proofs.lemmas.Cmp.{nat_eq_equiv}
use Rattle.std.proofs.lemmas.List.Elements.{All-cons, All-push}
use Rattle.std.proofs.lemmas.List.Quantifiers.{all_pairs_push, all_pairs_remove}
use Rattle.std.proofs.lemmas.List.Sorted.{All-permutation, IsPermutation-insert}
use Rattle.std.proofs.lemmas.List.Sums.{prefix_len-le-length}
use Rattle.claim_table.specs.declared.claim.Claim.{Claim}
use Rattle.claim_table.specs.declared.claim.Entry.{Entry}
use Rattle.claim_table.specs.declared.claim.Entry.TheVariants.{Started, Deferred}
use Rattle.claim_table.specs.Conflict.{clash}
use Rattle.claim_table.specs.Extents.{end_of}
use Rattle.claim_table.specs.Claims.{Claims, IsApart, IsEntry, is_shut_out, lies_in, ready_at}
use Rattle.claim_table.specs.Steps.{after_enter, after_leave, after_ready, after_set_region, after_suspend, after_resume, has_number}
use Rattle.claim_table.specs.Steps.{no_claim, number_at, place_by_number, without}
use Rattle.list_laws.proofs.Positions.{any_within, all_remove}
use Rattle.claim_table.proofs.Ascending.{pairs_insert}
use Rattle.claim_table.proofs.Passing.{none_at}
use Rattle.claim_table.proofs.FreePieces.{free_started, free_outside, ready_is_free}

-- a piece that enters
pub apart_by_enter : (claims : Claims) (c : Claim) (e : Entry) → IsEntry claims c e → IsApart claims → IsApart (after_enter claims c e)
apart_by_enter claims c Started free apart = record {
  pairwise =
      all_pairs_push (λ (a b : Claim). clash a b ≡ false) claims.started c apart.pairwise
      (none_at (λ (d : Claim). clash d c) claims.started (free_started claims claims.deferred c free));
  outside =
      All-push (λ (a : Claim). is_shut_out claims a ≡ false) claims.started c apart.outside (free_outside claims claims.deferred c free);
}
apart_by_enter claims c (Deferred by) conflict apart = record { pairwise = apart.pairwise; outside = apart.outside }

-- the order of two pieces is no matter
or_swap : (a b : Bool) → (a || b) ≡ (b || a)
or_swap true true = refl
or_swap true false = refl
or_swap false true = refl
or_swap false false = refl

pub clash_swap : (c d : Claim) → clash c d ≡ clash d c
clash_swap c d =
    let writes : (c.piece.write || d.piece.write) ≡ (d.piece.write || c.piece.write) = or_swap c.piece.write d.piece.write in
    let volumes : nat_eq c.piece.volume d.piece.volume ≡ nat_eq d.piece.volume c.piece.volume =
    nat_eq_equiv.symm c.piece.volume d.piece.volume in
    let firsts : max c.piece.first d.piece.first ≡ max d.piece.first c.piece.first = omega arith in
    let ends : min (end_of c.piece) (end_of d.piece) ≡ min (end_of d.piece) (end_of c.piece) = omega arith in
    rw (writes, volumes, firsts, ends) refl

-- a deferred piece that starts
pub apart_by_ready : (claims : Claims) → ready_at claims < length claims.deferred → IsApart claims → IsApart (after_ready claims)
apart_by_ready claims lt apart =
    let c : Claim = get_or claims.deferred (ready_at claims) no_claim in
    let at : ℕ = place_by_number claims.started c.number in
    let free = ready_is_free claims [] claims.deferred no_claim lt in
    let apart_from : (k : ℕ) (d : Claim) → k < length claims.started → clash (get_or claims.started k d) c ≡ false =
    none_at (λ (d : Claim). clash d c) claims.started (free_started claims _ c free) in
    let within : at ≤ length claims.started = prefix_len-le-length (λ (d : Claim). not (nat_le c.number d.number)) claims.started in
    record {
      pairwise =
          pairs_insert (λ (a b : Claim). clash a b ≡ false) claims.started c at apart.pairwise within
          (λ k d below. apart_from k d (omega arith))
          (λ k d from below. clash_swap c (get_or claims.started k d) ∙ apart_from k d below);
      outside =
          All-permutation (λ (a : Claim). is_shut_out claims a ≡ false) (c ∷ claims.started) (insert claims.started at c)
          (IsPermutation-insert claims.started at c)
          (All-cons (λ (a : Claim). is_shut_out claims a ≡ false) c claims.started (free_outside claims _ c free) apart.outside);
    }

-- a piece that leaves
pub apart_by_leave : (claims : Claims) (number : ℕ) → IsApart claims → IsApart (after_leave claims number)
apart_by_leave claims number apart =
    elim (list_any (has_number number) claims.started) as
    (λ b. list_any (has_number number) claims.started ≡ b
    → IsApart (cond b (record claims { started = without claims.started number })
    (record claims { deferred = without claims.deferred number }))) [
      | true ↦ λ here. record {
        pairwise =
            all_pairs_remove (λ (a b : Claim). clash a b ≡ false) claims.started (number_at claims.started number)
            (any_within (has_number number) claims.started here) apart.pairwise;
        outside =
            all_remove (λ (a : Claim). is_shut_out claims a ≡ false) claims.started (number_at claims.started number)
            (any_within (has_number number) claims.started here) apart.outside;
      }
      | false ↦ λ gone. record { pairwise = apart.pairwise; outside = apart.outside }
    ] refl

-- a region that is closed where no started piece lies in it, and one that is opened
pub apart_by_close : (claims : Claims) (region : ℕ) → list_any (lies_in region) claims.started ≡ false → IsApart claims
    → IsApart (record claims { closed = Some region })
apart_by_close claims region clear apart = record { pairwise = apart.pairwise; outside = none_at (lies_in region) claims.started clear }

pub apart_by_open : (claims : Claims) → IsApart claims → IsApart (record claims { closed = None })
apart_by_open claims apart = record { pairwise = apart.pairwise; outside = λ k d lt. refl }

-- the other calls change neither
pub apart_by_set_region : (claims : Claims) (number : ℕ) (region : Option ℕ) → IsApart claims
    → IsApart (after_set_region claims number region)
apart_by_set_region claims number region apart = record { pairwise = apart.pairwise; outside = apart.outside }

pub apart_by_suspend : (claims : Claims) (volume : ℕ) → IsApart claims → IsApart (after_suspend claims volume)
apart_by_suspend claims volume apart = record { pairwise = apart.pairwise; outside = apart.outside }

pub apart_by_resume : (claims : Claims) (volume : ℕ) → IsApart claims → IsApart (after_resume claims volume)
apart_by_resume claims volume apart = record { pairwise = apart.pairwise; outside = apart.outside }
