-- A group without volumes keeps the rules, but for the number of its physical volumes, and can be printed.
use Rattle.std.proofs.Common.{◌≡◌, ◌≤◌, ◌<◌, ℕ, ◌%◌, ◌^◌, Some, None, List, [], ◌∷◌, length, refl, sym, ap, subst, arith}
use Rattle.std.specs.Prelude.{is_none, slice_get}
use Rattle.lvm_id.specs.LvmId.{IsId}
use Rattle.lvm_name.specs.Names.{group_name_refusal}
use Rattle.meta_model.specs.declared.group.Group.{Group}
use Rattle.meta_model.specs.declared.lv.Lv.{Lv}
use Rattle.meta_print.proofs.Printable.{IsPrintable}
use Rattle.volume_rules.specs.Depths.{load}
use Rattle.volume_rules.specs.Legs.{IsWayDown, LiesOn, runs_of}
use Rattle.volume_rules.specs.Rules.{Keeps, counts, number_of}
use Rattle.volume_rules.specs.declared.rule.Rule.{Rule}
use Rattle.volume_rules.specs.declared.rule.Rule.TheVariants.{Numbers, Ids, Volumes, Segments, Extents, Follows, Stripes, Mirrors, Within}
use Rattle.volume_rules.specs.declared.rule.Rule.TheVariants.{Apart, Depth, Moved, Pvmove, Locked}
use Rattle.group_edits.proofs.PrintedIds.{id_again}
use Rattle.group_edits.proofs.PushedRules.{IsBase}
use Rattle.vg_plans.specs.Vgcreate.{empty_group}

module _ (id name : List ℕ) (extent_size : ℕ) where
  abbrev new : Group
  new = empty_group id name extent_size

  no_run : (lv below : ℕ) → LiesOn new lv below → ⊥
  unfolding runs_of
  no_run lv below lies = let within : lies.1.0 < 0 = lies.1.1 in omega (arith, within)

  no_way : (lv below : ℕ) (way : List ℕ) → IsWayDown new (lv ∷ below ∷ way) → ⊥
  no_way lv below way is = no_run lv below is.0

  short : (lv : ℕ) (way : List ℕ) → IsWayDown new (lv ∷ way) → way ≡ []
  short lv [] is = refl
  short lv (below ∷ way) is = absurd (no_way lv below way is)

  no_row : (a : ℕ) (row : List ℕ × Lv) → slice_get new.lvs a ≡ Some row → ⊥
  no_row a row is = cc

  apart_kept : Keeps new Apart
  unfolding runs_of
  apart_kept i j d before within = absurd (omega (arith, within))

  within_kept : Keeps new Within
  unfolding runs_of
  within_kept k d within = absurd (omega (arith, within))

  keeps : 8 ≤ extent_size → extent_size ≤ 2 ^ 31 → extent_size % 8 ≡ 0 → (rule : Rule) → (number_of rule ≡ 3 → ⊥) → Keeps new rule
  keeps least most whole Numbers other = record {
    seqno = (omega arith, omega arith);
    extent_size = (least, most, whole);
    limits = (omega arith, omega arith, omega arith);
    pvs = (λ k d within. absurd (omega (arith, within)));
    lvs = (λ k d within. absurd (omega (arith, within)));
  }
  keeps least most whole Ids other = λ i j d before within. absurd (omega (arith, before, within))
  keeps least most whole Volumes other = absurd (other refl)
  keeps least most whole Segments other = record { few = omega arith; some = (λ k d within. absurd (omega (arith, within))) }
  keeps least most whole Extents other = (λ k d within. absurd (omega (arith, within)))
  keeps least most whole Follows other = (λ k d within. absurd (omega (arith, within)))
  keeps least most whole Stripes other = (λ k d within. absurd (omega (arith, within)))
  keeps least most whole Mirrors other = (λ k d within. absurd (omega (arith, within)))
  keeps least most whole Within other = within_kept
  keeps least most whole Apart other = apart_kept
  keeps least most whole Depth other = record {
    hidden = λ lv below volume lies is. absurd (no_run lv below lies);
    ends = λ lv way is. let none : length way ≡ 0 = ap length (short lv way is) in omega (arith, none);
    few = λ lv way is. subst (λ (w : List ℕ). load (counts new) w ≤ 3) (sym (short lv way is)) (omega arith);
  }
  keeps least most whole Moved other = (λ k d within. absurd (omega (arith, within)))
  keeps least most whole Pvmove other =
      record {
        one = λ a b is_a is_b. absurd (no_row a (is_a.1.0, is_a.0) is_a.1.1);
        whole = λ number own lv is has. absurd (no_row number (own, lv) is);
      }
  keeps least most whole Locked other = λ number lv is has. absurd (no_row number (is.0, lv) is.1)

  pub empty_base : 8 ≤ extent_size → extent_size ≤ 2 ^ 31 → extent_size % 8 ≡ 0 → IsBase new
  empty_base least most whole = record { kept = keeps least most whole; lvs = omega arith; max_lv = λ some. omega arith }

  pub empty_printable : IsId id → group_name_refusal name ≡ None → extent_size ≤ 2 ^ 31 → IsPrintable new
  empty_printable is named most = record {
    name_is = ap is_none named;
    id_again = id_again id is;
    seqno_fits = omega arith;
    extent_fits = omega (arith, most);
    max_lv_fits = omega arith;
    max_pv_fits = omega arith;
    copies_fits = omega arith;
    pv_names = tt;
    lv_names = tt;
    each_pv = tt;
    each_lv = tt;
  }
