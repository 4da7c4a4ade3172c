-- From what every image has to what a sector's values have.
use Rattle.std.proofs.Common.{◌≡◌, ℕ, Bool, true, false, ◌==◌, ◌&&◌, cond, arith, List, Option, refl, sym, ap, subst, ◌∙◌, eq-eqb}
use Rattle.std.proofs.lemmas.Bool.Decides.{nat_tests}
use Rattle.disk_model.specs.Steps.{Image, Record, now_after}
use Rattle.disk_model.specs.CrashValues.{MayLeave, IsImage}
use Rattle.disk_model.specs.Record.{IsRecord}
use Rattle.disk_model.specs.Durability.{OnlyLeaves}
use Rattle.disk_model.proofs.NowStands.{now_image}

-- an image with one sector replaced
with_value : Image → ℕ → ℕ → List ℕ → Image
with_value image pv sector value pv' sector' = cond ((pv' == pv) && (sector' == sector)) value (image pv' sector')

module _ (told : Record) (is : IsRecord told.steps) (pv sector : ℕ) (write : Option ℕ) (value : List ℕ)
    (may : MayLeave told.opened told.steps pv sector write value) where
  here_or_now : (pv' sector' : ℕ) (a b : Bool) → (pv' == pv) ≡ a → (sector' == sector) ≡ b
      → (w : Option ℕ) × MayLeave told.opened told.steps pv' sector' w (cond (a && b) value (now_after told.opened told.steps pv' sector'))
  here_or_now pv' sector' true true e f = (
    write,
    subst (λ (s : ℕ). MayLeave told.opened told.steps pv' s write value) (sym (equal sector' sector f))
        (subst (λ (p : ℕ). MayLeave told.opened told.steps p sector write value) (sym (equal pv' pv e)) may),
  )
    where
      equal : (x y : ℕ) → (x == y) ≡ true → x ≡ y
      equal x y h = grind (arith, nat_tests)
  here_or_now pv' sector' true false e f = now_image told is pv' sector'
  here_or_now pv' sector' false b e f = now_image told is pv' sector'

  -- there is an image with this value of the sector
  value_in_image : IsImage told (with_value (now_after told.opened told.steps) pv sector value)
  unfolding with_value
  value_in_image pv' sector' = here_or_now pv' sector' (pv' == pv) (sector' == sector) refl refl

  value_there : with_value (now_after told.opened told.steps) pv sector value pv sector ≡ value
  unfolding with_value
  value_there =
      ap (λ (b : Bool). cond (b && (sector == sector)) value (now_after told.opened told.steps pv sector)) (eq-eqb pv pv refl)
      ∙ ap (λ (b : Bool). cond b value (now_after told.opened told.steps pv sector)) (eq-eqb sector sector refl)

-- what every image has in a sector, each of its possible values has
pub leaves_by_images : (told : Record) (pv sector : ℕ) (Q : List ℕ → Type 0) → IsRecord told.steps
    → ((image : Image) → IsImage told image → Q (image pv sector)) → OnlyLeaves told pv sector Q
leaves_by_images told pv sector Q is every = record {
  each =
      λ write value may. subst Q (value_there told is pv sector write value may)
      (every (with_value (now_after told.opened told.steps) pv sector value) (value_in_image told is pv sector write value may));
}
