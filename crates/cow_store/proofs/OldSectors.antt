-- A sector of the snapshot.
use Rattle.std.proofs.Common.{◌≡◌, ◌<◌, ℕ, cond, nat_lt, Bool, true, false, List, length, Option, Some, None, Result, Ok, Err, IfOk, IfSome}
use Rattle.std.proofs.Common.{refl, sym, ap, subst, ◌∙◌, arith}
use Rattle.std.proofs.lemmas.Bool.Decides.{nat_tests}
use Rattle.disk_model.specs.Record.{IsRecord}
use Rattle.disk_model.specs.Steps.{Image, Record, now_after}
use Rattle.disk_model.proofs.NowStands.{now_image}
use Rattle.cow_store.specs.declared.refusal.CowRefusal.TheVariants.{PastEnd, Spent}
use Rattle.cow_store.specs.Answers.{end_of, origin_of, refused_at}
use Rattle.cow_store.specs.Calls.{IsOld}
use Rattle.cow_store.specs.Layout.{Lengths, lengths_of, slots_in}
use Rattle.cow_store.specs.Views.{CowView, IsStore}
use Rattle.cow_store.specs.Snapshot.{old_sector, snapshot}
use Rattle.cow_store.specs.Stands.{IsKept, IsWhole, Past}
use Rattle.cow_store.proofs.Images.{opened_entries, same_opens, whole}

-- where all is kept, the sector by the entries is that of the snapshot, and what it was
pub old_is : (lengths : Lengths) (past : Past) (entries : List ℕ) (t : Record) (at : ℕ) → IsRecord t.steps
    → length entries ≡ slots_in lengths.store → at < lengths.origin → IsKept lengths past entries t
    → (old_sector (length entries) entries (now_after t.opened t.steps) at ≡ past.was at)
    × (old_sector (length entries) entries (now_after t.opened t.steps) at ≡ snapshot lengths (now_after t.opened t.steps) at)
old_is lengths past entries t at is many lt k =
    let now : Image = now_after t.opened t.steps in
    let leaves = now_image t is in
    let w : IsWhole lengths past now =
    whole lengths past entries k.table k.chunks k.found now
    (λ v sector. (k.right v sector).each (leaves v sector).0 (now v sector) (leaves v sector).1) in
    let opens_so =
    same_opens lengths now (λ v. k.table)
    (λ sector within. ((k.right 1 sector).each (leaves 1 sector).0 (now 1 sector) (leaves 1 sector).1).stands refl within) ∙ k.found in
    let same : old_sector (length entries) entries now at ≡ snapshot lengths now at =
    ap (λ (n : ℕ). old_sector n entries now at) many
    ∙ ap (λ (l : List ℕ). old_sector (slots_in lengths.store) l now at) (sym (opened_entries lengths now entries opens_so)) in
    (same ∙ w.same at lt, same)

-- a call that isn't refused
pub not_refused : (view : CowView) (at : ℕ) → refused_at view at ≡ None → (view.spent ≡ false) × (at < origin_of view)
not_refused view at none = by view.spent refl (nat_lt at (origin_of view)) refl none
  where
    by : (s : Bool) → view.spent ≡ s → (b : Bool) → nat_lt at (origin_of view) ≡ b
        → cond s (Some Spent) (cond b None (Some (PastEnd (end_of at) (origin_of view)))) ≡ None
        → (view.spent ≡ false) × (at < origin_of view)
    by true e b f none = absurd (let h : Some Spent ≡ None = none in cc)
    by false e true f none = (e, grind (arith, nat_tests))
    by false e false f none = absurd (let h : Some (PastEnd (end_of at) (origin_of view)) ≡ None = none in cc)

-- the sector that was read is that of the snapshot
pub is_old : (view : CowView) (at : ℕ) (sector : List ℕ) (t : Record) → IsStore view → IsRecord t.steps → refused_at view at ≡ None
    → sector ≡ old_sector (length view.entries) view.entries (now_after t.opened t.steps) at → IsOld view at sector t
is_old view at sector t store is none value =
    let going = not_refused view at none in
    record {
      value = value;
      was = λ past s.
          let h = old_is (lengths_of view.vols.sizes) past view.entries t at is store.slots going.1 (s.kept going.0) in
          (value ∙ h.0, value ∙ h.1);
    }

-- what holds of an answer, where the volumes tell their record
pub each_ok : {T E : Type 0} (r : Result T E) (a b : Option Record) (P Q : T → Record → Type 0) → a ≡ b
    → ((x : T) (t : Record) → b ≡ Some t → P x t → Q x t) → IfOk r (λ x. IfSome a (P x)) → IfOk r (λ x. IfSome b (Q x))
each_ok (Err e) a b P Q same make h = tt
each_ok (Ok x) a b P Q same make h = by b refl (subst (λ (o : Option Record). IfSome o (P x)) same h)
  where
    by : (o : Option Record) → b ≡ o → IfSome o (P x) → IfSome o (Q x)
    by None e h = tt
    by (Some t) e h = make x t e h
