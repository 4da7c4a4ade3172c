-- Why a request is refused.
use Rattle.std.proofs.Common.{◌≡◌, ℕ, ◌<◌, ◌≤◌, ◌&&◌, true, List, Some, length, nat_lt, sym, ap, ◌∙◌, arith}
use Rattle.std.proofs.lemmas.Bool.{and_from, cond-false, cond-true, le-ltb, lt-ltb}
use Rattle.extent_alloc.specs.Free.{longest, total}
use Rattle.extent_alloc.specs.Refusals.{more_legs_refusal, one_leg_refusal}
use Rattle.extent_alloc.specs.declared.part.PvRun.{PvRun}
use Rattle.extent_alloc.specs.declared.refusal.AllocRefusal.TheVariants.{NoRun, NoSpace, TooFewPvs}
use Rattle.extent_alloc.specs.declared.request.Request.{Request}

pub no_space : (want : Request) (runs : List PvRun) (free : ℕ) → free ≡ total runs → free < want.extents
    → one_leg_refusal want runs ≡ Some (NoSpace want.extents free)
no_space want runs free is less =
    cond-true (nat_lt (total runs) want.extents) _ _ (lt-ltb (total runs) want.extents (omega (arith, is, less)))
    ∙ ap (λ n. Some (NoSpace want.extents n)) (sym is)

pub no_run : (want : Request) (runs : List PvRun) (long : ℕ) → want.extents ≤ total runs → want.contiguous ≡ true → long ≡ longest runs
    → long < want.extents → one_leg_refusal want runs ≡ Some (NoRun want.extents long)
no_run want runs long enough contiguous is less =
    cond-false (nat_lt (total runs) want.extents) _ _ (le-ltb (total runs) want.extents enough)
    ∙ cond-true (want.contiguous && nat_lt (longest runs) want.extents) _ _
    (and_from _ _ contiguous (lt-ltb (longest runs) want.extents (omega (arith, is, less))))
    ∙ ap (λ n. Some (NoRun want.extents n)) (sym is)

pub too_few : (want : Request) (fit : List ℕ) (count : ℕ) → count ≡ length fit → count < want.legs
    → more_legs_refusal want fit ≡ Some (TooFewPvs want.legs count)
too_few want fit count is less =
    cond-true (nat_lt (length fit) want.legs) _ _ (lt-ltb (length fit) want.legs (omega (arith, is, less)))
    ∙ ap (λ n. Some (TooFewPvs want.legs n)) (sym is)
