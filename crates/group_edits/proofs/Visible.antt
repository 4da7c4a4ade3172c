-- The visible volume of a name is found by looking along the volumes.
use Rattle.std.proofs.Common.{◌≡◌, ℕ, ◌+◌, Bool, true, false, ◌&&◌, cond, List, drop, Option, Some, refl, sym, ap, subst, ◌∙◌, arith}
use Rattle.std.specs.Prelude.{slice_get, IsSomeAnd}
use Rattle.std.specs.Str.{bytes_eq}
use Rattle.meta_model.specs.declared.group.Group.{Group}
use Rattle.meta_model.specs.declared.lv.Lv.{Lv}
use Rattle.list_laws.proofs.Walks.{next_got}
use Rattle.group_edits.proofs.OneNamed.{IsVisibleAt, visible_at}
use Rattle.group_edits.specs.Visible.{IsVisible, visible_from, visible_named}

module _ (name : List ℕ) (rows : List (List ℕ × Lv)) (n : ℕ) (row : List ℕ × Lv) (there : slice_get rows n ≡ Some row) where
  next : visible_from n name (drop n rows)
      ≡ cond (row.1.status.visible && bytes_eq row.0 name) (Some (n, row.1)) (visible_from (n + 1) name (drop (n + 1) rows))
  next = ap (visible_from n name) (next_got rows n row there)

  -- it is this one
  pub found_here : row.1.status.visible ≡ true → bytes_eq row.0 name ≡ true → visible_from n name (drop n rows) ≡ Some (n, row.1)
  found_here seen same =
      next ∙ ap (λ (b : Bool). cond (b && bytes_eq row.0 name) (Some (n, row.1)) (visible_from (n + 1) name (drop (n + 1) rows))) seen
      ∙ ap (λ (b : Bool). cond b (Some (n, row.1)) (visible_from (n + 1) name (drop (n + 1) rows))) same

  -- it isn't, since it is hidden
  pub past_hidden : row.1.status.visible ≡ false → visible_from n name (drop n rows) ≡ visible_from (n + 1) name (drop (n + 1) rows)
  past_hidden hidden =
      next ∙ ap (λ (b : Bool). cond (b && bytes_eq row.0 name) (Some (n, row.1)) (visible_from (n + 1) name (drop (n + 1) rows))) hidden

  -- or has another name
  pub past_other : bytes_eq row.0 name ≡ false → visible_from n name (drop n rows) ≡ visible_from (n + 1) name (drop (n + 1) rows)
  past_other other = next ∙ by row.1.status.visible where
    by : (seen : Bool) → cond (seen && bytes_eq row.0 name) (Some (n, row.1)) (visible_from (n + 1) name (drop (n + 1) rows))
        ≡ visible_from (n + 1) name (drop (n + 1) rows)
    by true = ap (λ (b : Bool). cond b (Some (n, row.1)) (visible_from (n + 1) name (drop (n + 1) rows))) other
    by false = refl

-- the volume that stands there
pub is_seen : (group : Group) (n : ℕ) (row : List ℕ × Lv) → slice_get group.lvs n ≡ Some row → row.1.status.visible ≡ true
    → IsVisible group n
is_seen group n row there seen =
    subst (λ (o : Option (List ℕ × Lv)). IsSomeAnd o (λ (r : List ℕ × Lv). r.1.status.visible ≡ true)) (sym there) seen

-- ---- the volume of a name

pub named_is_visible : (group : Group) (name : List ℕ) (v : ℕ × Lv) → visible_named group name ≡ Some v → IsVisible group v.0
named_is_visible group name v found =
    let at : IsVisibleAt 0 name group.lvs v = visible_at group name v found in
    let place : at.k ≡ v.0 = (let p = at.place in omega (arith, p)) in
    is_seen group v.0 at.row (ap (slice_get group.lvs) (sym place) ∙ at.there) at.visible
