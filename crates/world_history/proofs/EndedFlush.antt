-- The flush that has ended: it is one of the plan's.
use Rattle.std.proofs.Common.{◌≡◌, ◌<◌, ◌||◌, ℕ, suc, ◌+◌, Bool, true, false, nat_eq, IsTrue, List, [], ◌∷◌, length, Option, None, Some}
use Rattle.std.proofs.Common.{cond, not, find}
use Rattle.std.proofs.Common.{option_map, refl, sym, ap, subst, ◌∙◌, arith, slice_index_or}
use Rattle.std.specs.List.{list_any, position_or_len}
use Rattle.std.proofs.lemmas.Bool.{eqb-true}
use Rattle.std.proofs.lemmas.Option.{none-some, same_Some}
use Rattle.list_laws.proofs.Members.{in_list}
use Rattle.disk_model.specs.Operations.{Lies, work_of}
use Rattle.disk_model.specs.State.{State}
use Rattle.disk_model.specs.Steps.{Flushing, Work as DiskWork}
use Rattle.disk_model.specs.declared.ops.Done.{Done}
use Rattle.disk_model.specs.declared.ops.Op.{Op}
use Rattle.disk_model.specs.declared.ops.Op.TheVariants.{Flush as FlushOp, Read as ReadOp, Write as WriteOp}
use Rattle.flush_plan.specs.declared.records.Flush.{Flush}
use Rattle.flush_plan.specs.Plans.{flush_of, is_in_flight}
use Rattle.piece_table.specs.declared.live.Owner.{Owner}
use Rattle.world_acts.specs.Acts.{Allowed, EndsFlush, World}
use Rattle.world_acts.specs.Orderly.{IsOrderly}
use Rattle.world_acts.specs.Owners.{flush_at, owned_work, piece_work}
use Rattle.world_history.proofs.Contents.Tagged.{tagged}

-- ---- the first that passes a test

module _ {X : Type 0} (test : X → Bool) where
  -- one does
  pub found_any : (xs : List X) (x : X) → find test xs ≡ Some x → list_any test xs ≡ true
  found_any [] x is = absurd (none-some x is)
  found_any (y ∷ xs) x is =
      elim (test y) as (λ b. cond b (Some y) (find test xs) ≡ Some x → (b || list_any test xs) ≡ true) [
        | true ↦ λ h. refl
        | false ↦ λ h. found_any xs x h
      ] is

  -- and it stands where the first does
  pub found_first : (xs : List X) (x d : X) → find test xs ≡ Some x → slice_index_or xs (position_or_len test xs) d ≡ x
  found_first [] x d is = absurd (none-some x is)
  found_first (y ∷ xs) x d is =
      elim (test y) as (λ b. cond b (Some y) (find test xs) ≡ Some x
      → slice_index_or (y ∷ xs) (cond (not b) (1 + position_or_len test xs) 0) d ≡ x) [
        | true ↦ λ h. same_Some y x h
        | false ↦ λ h. let next : 1 + position_or_len test xs ≡ suc (position_or_len test xs) = omega arith in
            rw (next) (found_first xs x d h)
      ] is

  -- it passes
  pub found_passes : (xs : List X) (x : X) → find test xs ≡ Some x → test x ≡ true
  found_passes [] x is = absurd (none-some x is)
  found_passes (y ∷ xs) x is =
      elim (test y) as (λ b. test y ≡ b → cond b (Some y) (find test xs) ≡ Some x → test x ≡ true) [
        | true ↦ λ t h. subst (λ (z : X). test z ≡ true) (same_Some y x h) t
        | false ↦ λ t h. found_passes xs x h
      ] refl is

-- ---- the flush

-- it is one of the plan's, on this disk
pub record WasFlush (w : World) (done : Done) : Type 0 where
  pub pv : ℕ
  pub does : work_of done.op ≡ Flushing pv
  pub flies : IsTrue (is_in_flight w.core.waits.plan done.tag)
  pub its : (flush_of w.core.waits.plan done.tag).pv ≡ pv
  pub tagged : (flush_of w.core.waits.plan done.tag).tag ≡ done.tag
  pub within : pv < length w.core.waits.plan.marks

module _ (w : World) (done : Done) (now : State) (o : IsOrderly w) (may : Allowed w (EndsFlush done now)) where
  -- a flush lies on a disk
  lies : (op : Op) (pv : ℕ) → work_of op ≡ Flushing pv → Lies w.shelf.sizes op → pv < length w.shelf.sizes
  lies (FlushOp disk) pv does is =
      let same : disk ≡ pv = ap disk_in does in omega (arith, same, is)
    where
      disk_in : DiskWork → ℕ
      disk_in (Flushing n) = n
      disk_in _ = 0
  lies (ReadOp span sectors) pv does is = absurd (cc)
  lies (WriteOp span sectors) pv does is = absurd (cc)

  pub was_flush : WasFlush w done
  was_flush =
      by (flush_at w.core.waits.plan done.tag) refl
      (sym (ap (λ (x : Option Owner). owned_work w.core.pieces.lives (piece_work w.core) (flush_at w.core.waits.plan done.tag) x) may.2)
      ∙ sym (o.backed.known.owned done.tag)
      ∙ tagged w.shelf.in_flight (record { tag = done.tag; work = work_of done.op }) o.backed.lawful.order
      (in_list w.shelf.in_flight _ may.0.was))
    where
      first : (f : Flush) → flush_at w.core.waits.plan done.tag ≡ Some f → flush_of w.core.waits.plan done.tag ≡ f
      first f at =
          found_first (λ (x : Flush). nat_eq x.tag done.tag) w.core.waits.plan.flushes f (record { tag = 0; pv = 0; after = 0 }) at

      by : (f : Option Flush) → flush_at w.core.waits.plan done.tag ≡ f
          → option_map (λ (x : Flush). Flushing x.pv) f ≡ Some (work_of done.op)
          → WasFlush w done
      by None at is = absurd (none-some (work_of done.op) is)
      by (Some f) at is =
          let does : work_of done.op ≡ Flushing f.pv = sym (same_Some (Flushing f.pv) (work_of done.op) is) in
          let disk : f.pv < length w.shelf.sizes = lies done.op f.pv does may.0.lies in
          record {
            pv = f.pv;
            does = does;
            flies = found_any (λ (x : Flush). nat_eq x.tag done.tag) w.core.waits.plan.flushes f at;
            its = ap (λ (x : Flush). x.pv) (first f at);
            tagged =
                ap (λ (x : Flush). x.tag) (first f at)
                ∙ eqb-true f.tag done.tag (found_passes (λ (x : Flush). nat_eq x.tag done.tag) w.core.waits.plan.flushes f at);
            within = omega (arith, disk, o.backed.places.many, o.tidy.flushes.marks);
          }
