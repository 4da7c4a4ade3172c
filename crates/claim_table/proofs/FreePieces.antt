-- What it means that a piece conflicts with nothing.
use Rattle.std.proofs.Common.{◌≡◌, ◌<◌, ℕ, zero, suc, Bool, true, false, not, cond, ◌&&◌, ◌||◌, ◌==◌, List, [], ◌∷◌, ◌++◌, length, get_or}
use Rattle.std.proofs.Common.{take, drop, ◌+◌, ◌≤◌, refl, sym, ap, ◌∙◌, append_assoc, append-nil, arith}
use Rattle.std.specs.Prelude.{IsTrue, IfNone, IfSome, Option, Some, None, is_some, slice_get}
use Rattle.std.specs.Option.{option_map, option_map_or}
use Rattle.std.specs.List.{list_any}
use Rattle.std.proofs.lemmas.Bool.{not-true, eqb-true}
use Rattle.std.proofs.lemmas.List.{drop_more, take_more, drop_all}
use Rattle.claim_table.specs.declared.claim.Claim.{Claim}
use Rattle.claim_table.specs.declared.claim.By.{By}
use Rattle.claim_table.specs.declared.claim.By.TheVariants.{Piece, Region, Suspended}
use Rattle.claim_table.specs.Conflict.{clash}
use Rattle.claim_table.specs.Claims.{Claims, conflicts, is_free, is_shut_out, is_suspended, lies_in, ready_after}
use Rattle.claim_table.specs.Steps.{no_claim}
use Rattle.claim_table.proofs.Passing.{and_left, and_right, any_second}

-- no started piece clashes with it
pub free_started : (claims : Claims) (earlier : List Claim) (c : Claim) → IsTrue (is_free claims earlier c)
    → list_any (λ d. clash d c) claims.started ≡ false
free_started claims earlier c free = not-true _ (and_left _ _ (and_left _ _ (and_left _ _ free)))

-- nor does one that was deferred earlier
pub free_earlier : (claims : Claims) (earlier : List Claim) (c : Claim) → IsTrue (is_free claims earlier c)
    → list_any (λ d. clash d c) earlier ≡ false
free_earlier claims earlier c free = not-true _ (and_right _ _ (and_left _ _ (and_left _ _ free)))

-- it doesn't lie in the closed region
pub free_outside : (claims : Claims) (earlier : List Claim) (c : Claim) → IsTrue (is_free claims earlier c) → is_shut_out claims c ≡ false
free_outside claims earlier c free = not-true _ (and_right _ _ (and_left _ _ free))

-- its volume isn't suspended: none newly starts while it is
pub free_running : (claims : Claims) (earlier : List Claim) (c : Claim) → IsTrue (is_free claims earlier c)
    → is_suspended claims c.piece.volume ≡ false
free_running claims earlier c free = not-true _ (and_right _ _ free)

-- the first that is ready conflicts with nothing, those before it among what it waits for
pub ready_is_free : (claims : Claims) (earlier later : List Claim) (d : Claim) → ready_after claims earlier later < length later
    → IsTrue (is_free claims (earlier ++ take (ready_after claims earlier later) later) (get_or later (ready_after claims earlier later) d))
ready_is_free claims earlier [] d lt = absurd (omega arith)
ready_is_free claims earlier (c ∷ later) d lt =
    let next : ℕ = ready_after claims (earlier ++ c ∷ []) later in
    elim (is_free claims earlier c) as (λ b. is_free claims earlier c ≡ b → cond b 0 (suc next) < length (c ∷ later)
    → IsTrue (is_free claims (earlier ++ take (cond b 0 (suc next)) (c ∷ later)) (get_or (c ∷ later) (cond b 0 (suc next)) d))) [
      | true ↦ λ free within. rw (append-nil earlier) free
      | false ↦ λ free within. rw (← append_assoc earlier (c ∷ []) (take next later))
          (ready_is_free claims (earlier ++ c ∷ []) later d (omega arith))
    ] refl lt

-- one of four obstacles is enough
pub any_blocks : (a b c d : Bool) → (a || b || c || d) ≡ true → (not a && not b && not c && not d) ≡ false
any_blocks true b c d h = refl
any_blocks false true c d h = refl
any_blocks false false true d h = refl
any_blocks false false false d h = ap not h

or_left : (a b : Bool) → a ≡ true → (a || b) ≡ true
or_left true b h = refl
or_left false b h = cc

or_right : (a b : Bool) → b ≡ true → (a || b) ≡ true
or_right true b h = refl
or_right false b h = h

-- a piece that conflicts with something isn't free
pub conflict_blocks : (claims : Claims) (earlier : List Claim) (c : Claim) (by : By) → IsTrue (conflicts claims earlier c by)
    → is_free claims earlier c ≡ false
conflict_blocks claims earlier c (Piece number) h =
    elim (list_any (λ d. (d.number == number) && clash d c) claims.started) as
    (λ b. list_any (λ d. (d.number == number) && clash d c) claims.started ≡ b
    → (b || list_any (λ d. (d.number == number) && clash d c) earlier) ≡ true → is_free claims earlier c ≡ false) [
      | true ↦ λ s g. any_blocks _ _ _ _ (or_left _ _
          (or_left _ _ (or_left _ _ (any_second (λ (d : Claim). d.number == number) (λ (d : Claim). clash d c) claims.started s))))
      | false ↦ λ s g. any_blocks _ _ _ _ (or_left _ _
          (or_left _ _ (or_right _ _ (any_second (λ (d : Claim). d.number == number) (λ (d : Claim). clash d c) earlier g))))
    ] refl h
conflict_blocks claims earlier c (Region region) h =
    let shut : is_shut_out claims c ≡ true =
    elim claims.closed as (λ (o : Option ℕ). (option_map_or (λ r. r == region) o false && lies_in region c) ≡ true
    → option_map_or (λ r. lies_in r c) o false ≡ true) [
      | Some r ↦ λ g. let same : r ≡ region = eqb-true r region (and_left _ _ g) in rw same (and_right _ _ g)
      | None ↦ λ g. g
    ] h in
    any_blocks _ _ _ _ (or_left _ _ (or_right _ _ shut))
conflict_blocks claims earlier c (Suspended volume) h =
    let same : c.piece.volume ≡ volume = eqb-true c.piece.volume volume (and_right _ _ h) in
    let suspended : is_suspended claims c.piece.volume ≡ true = rw same (and_left _ _ h) in
    any_blocks _ _ _ _ (or_right _ _ suspended)

-- the first that is ready is among the pieces that wait, or at their end
pub ready_within : (claims : Claims) (earlier later : List Claim) → ready_after claims earlier later ≤ length later
ready_within claims earlier [] = omega arith
ready_within claims earlier (c ∷ later) =
    elim (is_free claims earlier c) as (λ b. cond b 0 (suc (ready_after claims (earlier ++ c ∷ []) later)) ≤ length (c ∷ later)) [
      | true ↦ omega arith
      | false ↦ omega (arith, ready_within claims (earlier ++ c ∷ []) later)
    ]

-- a piece that isn't free is passed over
pub ready_step : (claims : Claims) (all : List Claim) (at : ℕ) (d : Claim) → at < length all
    → is_free claims (take at all) (get_or all at d) ≡ false
    → ready_after claims (take at all) (drop at all) ≡ suc (ready_after claims (take (at + 1) all) (drop (at + 1) all))
ready_step claims all at d lt blocked = rw (drop_more all at d lt, take_more all at d lt, blocked) refl

-- a piece that is free is the first
pub ready_here : (claims : Claims) (all : List Claim) (at : ℕ) (d : Claim) → at < length all
    → is_free claims (take at all) (get_or all at d) ≡ true
    → ready_after claims (take at all) (drop at all) ≡ 0
ready_here claims all at d lt free = rw (drop_more all at d lt, free) refl

-- there is none behind the last
pub ready_end : (claims : Claims) (earlier all : List Claim) (at : ℕ) → length all ≤ at → ready_after claims earlier (drop at all) ≡ 0
ready_end claims earlier all at end = rw (drop_all at all end) refl

-- what is answered of a place where no piece waits, and of one where a piece does
pub ready_none : (all : List Claim) (at : ℕ) → length all ≤ at → option_map (λ (c : Claim). c.number) (slice_get all at) ≡ None
ready_none [] at end = refl
ready_none (c ∷ all) zero end = absurd (omega arith)
ready_none (c ∷ all) (suc at) end = ready_none all at (omega arith)

pub ready_some : (all : List Claim) (at : ℕ) (x : Claim) → at < length all → x ≡ get_or all at no_claim
    → option_map (λ (c : Claim). c.number) (slice_get all at) ≡ Some x.number
ready_some [] at x lt item = absurd (omega arith)
ready_some (c ∷ all) zero x lt item = ap (λ (y : Claim). Some y.number) (sym item)
ready_some (c ∷ all) (suc at) x lt item = ready_some all at x (omega arith) item

-- whether a piece is answered something that it conflicts with is whether it isn't free
pub blocked_is : (claims : Claims) (earlier : List Claim) (x : Claim) (o : Option By) (r : Bool)
    → IfNone o (IsTrue (is_free claims earlier x)) → IfSome o (λ by. IsTrue (conflicts claims earlier x by)) → r ≡ is_some o
    → r ≡ not (is_free claims earlier x)
blocked_is claims earlier x None r none some is = is ∙ sym (ap not none)
blocked_is claims earlier x (Some by) r none some is = is ∙ sym (ap not (conflict_blocks claims earlier x by some))
