use Rattle.std.proofs.Common.{refl, subst, sym, Result, Ok, Err, MatchResult}
use Rattle.std.specs.Prelude.{IsOk, IsUtf8}
use Rattle.lvm_id.proofs.Groups.{IsUtf8-hyphen_form}
use Rattle.lvm_id.proofs.id.LvmIdDisplay.fmt.Goals as goal

-- a read that fails only where a fact doesn't hold
IsOk-read : {T E : Type 0} (r : Result T E) (P : T → Type 0) (U : Type 0) (Q : E → Type 0) → U → MatchResult r P (λ e. ¬ U × Q e) → IsOk r
IsOk-read (Ok x) P U Q holds cases = refl
IsOk-read (Err e) P U Q holds cases = absurd (cases.0 holds)

pub unwrap-requires : goal.unwrap-requires
unwrap-requires g c =
    IsOk-read c.from_utf8.result _ _ _ (subst IsUtf8 (sym c.hyphen.ensures.value)
    (IsUtf8-hyphen_form c.args.self.now c.hyphen.ensures.valid)) c.from_utf8.ensures.cases
