-- The legs of a group lie apart exactly where the runs that are sorted do.
use Rattle.std.proofs.Common.{◌≡◌, ℕ, ◌↔◌, List, [], ◌∷◌, ◌++◌, length, map, get_or, refl, sym, ap, subst, ◌∙◌, arith}
use Rattle.std.specs.Prelude.{AllPairs}
use Rattle.std.proofs.lemmas.List.{get_or-map, length-map}
use Rattle.std.proofs.lemmas.List.Quantifiers.{all_pairs_push}
use Rattle.std.proofs.lemmas.List.Elements.{Contains-get_or}
use Rattle.meta_model.specs.declared.group.Group.{Group}
use Rattle.meta_model.specs.declared.segment.On.{On}
use Rattle.meta_model.specs.declared.segment.On.TheVariants as on
use Rattle.volume_rules.specs.Legs.{LegRun, runs_of, LieApart, IsInRun, IsUsed}
use Rattle.volume_rules.specs.Rules.{LegsLieApart}
use Rattle.meta_model.specs.declared.extent_span.ExtentSpan.{ExtentSpan}
use Rattle.volume_rules.specs.Sorting.{NoExtentInBoth, on_number, run_to_sort}

same_on : (a b : On) → on_number a ≡ on_number b → a ≡ b
same_on (on.Pv a) (on.Pv b) same = let e : a ≡ b = omega arith in ap on.Pv e
same_on (on.Pv a) (on.Lv b) same = absurd (omega arith)
same_on (on.Lv a) (on.Pv b) same = absurd (omega arith)
same_on (on.Lv a) (on.Lv b) same = let e : a ≡ b = omega arith in ap on.Lv e

apart_to : (a b : LegRun) → LieApart a b → NoExtentInBoth (run_to_sort a) (run_to_sort b)
apart_to a b apart extent same x y z w = apart b.on extent (same_on a.on b.on same, x, y) (refl, z, w)

apart_from : (a b : LegRun) → NoExtentInBoth (run_to_sort a) (run_to_sort b) → LieApart a b
apart_from a b apart on extent here there = apart extent (ap on_number (here.0 ∙ sym there.0)) here.1 here.2 there.1 there.2

pub apart_in_order : (group : Group) → LegsLieApart group ↔ AllPairs NoExtentInBoth (map run_to_sort (runs_of group))
apart_in_order group =
    let runs : List LegRun = runs_of group in
    let long : length (map run_to_sort runs) ≡ length runs = length-map runs run_to_sort in (
      λ apart i j d less within.
          let some : LegRun = record { lv = 0; segment = 0; leg = 0; on = on.Pv 0; first = 0; count = 0 } in
          subst (λ x. NoExtentInBoth x (get_or (map run_to_sort runs) j d)) (sym (get_or-map run_to_sort runs i some d (omega arith)))
          (subst (NoExtentInBoth (run_to_sort (get_or runs i some))) (sym (get_or-map run_to_sort runs j some d (omega arith)))
          (apart_to (get_or runs i some) (get_or runs j some) (apart i j some less (omega arith)))),
      λ apart i j d less within.
          let e : ExtentSpan = run_to_sort d in
          apart_from (get_or runs i d) (get_or runs j d)
          (subst (λ x. NoExtentInBoth x (run_to_sort (get_or runs j d))) (get_or-map run_to_sort runs i d e (omega arith))
          (subst (NoExtentInBoth (get_or (map run_to_sort runs) i e)) (get_or-map run_to_sort runs j d e (omega arith))
          (apart i j e less (omega arith)))),
    )

-- a run of extents that lie in no leg lies apart from all
pub free_run_apart : (group : Group) (run : LegRun) → LegsLieApart group
    → ((on : On) (extent : ℕ) → IsInRun on extent run → IsUsed group on extent → ⊥) → AllPairs LieApart (runs_of group ++ run ∷ [])
free_run_apart group run apart free =
    all_pairs_push LieApart (runs_of group) run apart
    (λ k d lt on extent here there. free on extent there (get_or (runs_of group) k d, Contains-get_or (runs_of group) k d lt, here))
