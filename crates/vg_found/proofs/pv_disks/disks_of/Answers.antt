-- One physical volume more.
use Rattle.std.proofs.Common.{◌≡◌, ℕ, ◌+◌, List, [], ◌∷◌, ◌++◌, Some, drop, map, sym, ap, ◌∙◌, append_assoc}
use Rattle.std.specs.Prelude.{slice_get}
use Rattle.std.proofs.lemmas.List.{at_drop_more}
use Rattle.std.proofs.lemmas.Option.{get_or_from_slice_get, slice_get_within}
use Rattle.meta_model.specs.declared.pv.Pv.{Pv}
use Rattle.vg_found.specs.Disks.{disk_with, disks_of}
use Rattle.vg_found.proofs.pv_disks.disks_of.Goals as goal

one_more : {X : Type 0} (f : X → ℕ) (xs : List X) (i : ℕ) (x : X) (before after whole : List ℕ) (n : ℕ) → slice_get xs i ≡ Some x → n ≡ f x
    → after ≡ before ++ n ∷ [] → before ++ map f (drop i xs) ≡ whole
    → after ++ map f (drop (i + 1) xs) ≡ whole
one_more f xs i x before after whole n here is pushed so_far =
    ap (λ (l : List ℕ). l ++ map f (drop (i + 1) xs)) pushed
    ∙ append_assoc before (n ∷ []) (map f (drop (i + 1) xs))
    ∙ ap (λ (m : ℕ). before ++ m ∷ map f (drop (i + 1) xs)) (is ∙ ap f (sym (get_or_from_slice_get xs i x x here)))
    ∙ ap (λ (l : List ℕ). before ++ l) (sym (at_drop_more (map f) xs i x (slice_get_within xs i x here)))
    ∙ so_far

pub loop-number-preserved : goal.loop-number-preserved
loop-number-preserved c =
    one_more (λ (pv : List ℕ × Pv). disk_with c.args.disks.now pv.1.id) c.args.group.now.pvs c.loop-number.number
    (c.get.result.0.now, c.get.result.1.now) c.loop-number.numbers.items c.push.new.self.items
    (disks_of c.args.group.now c.args.disks.now) c.disk_with.result c.get.ensures c.disk_with.ensures c.in_ok-push.ensures.items
    c.loop-number.invariant
