-- Each image is one on the way of the queue's batches, over a base of its own.
use Rattle.std.proofs.Common.{◌≡◌, ◌⊎◌, ℕ, suc, ◌+◌, Bool, true, false, IsTrue, List, [], ◌∷◌, ◌++◌, length, take, All, inl, inr, ⊎_elim}
use Rattle.std.proofs.Common.{refl, sym, ap, ◌∙◌, arith}
use Rattle.std.proofs.Math.Seq.{take-append-add, take-append_seam}
use Rattle.std.proofs.lemmas.List.Elements.{All-head, All-tail}
use Rattle.std.proofs.lemmas.List.{length-append}
use Rattle.disk_model.specs.CrashValues.{IsImage}
use Rattle.disk_model.specs.Durability.{AllLeave}
use Rattle.disk_model.specs.Record.{IsRecord}
use Rattle.disk_model.specs.Steps.{Image, Record, now_after}
use Rattle.disk_model.proofs.NowStands.{now_image}
use Rattle.disk_batch.specs.InTurn.{Put, ShareNoSector, with_batches, with_writes}
use Rattle.disk_batch.specs.WriteAll.{CanLeave}
use Rattle.disk_batch.specs.Writes.{IsWrittenBy}
use Rattle.disk_batch.proofs.FrontBatches.{batches_kept}
use Rattle.disk_batch.proofs.InTurn.{batches_append}
use Rattle.disk_batch.proofs.WritesOnImages.{written_is, written_kept}
use Rattle.batch_queue.specs.Lasting.{After, AreOwn, Between, IsOnWayOver, Lot, in_order}

-- ---- one sector

-- where a sector's value comes from: a value that it could have at the start, over which it is what it is
record FromStart (lot : Lot) (batches : List (List Put)) (pv sector : ℕ) (value : List ℕ) : Type 0 where
  first : List ℕ
  could : CanLeave lot.start pv sector first
  over : (base : Image) → base pv sector ≡ first → with_batches batches base pv sector ≡ value

last_batch : (older : List (List Put)) (puts : List Put) (base : Image) (pv sector : ℕ)
    → with_batches (older ++ puts ∷ []) base pv sector ≡ with_writes puts (with_batches older base) pv sector
last_batch older puts base pv sector = ap (λ (i : Image). i pv sector) (batches_append older (puts ∷ []) base)

module _ (lot : Lot) (is : IsRecord lot.start.steps) where
  some_value : (pv sector : ℕ) → CanLeave lot.start pv sector (now_after lot.start.opened lot.start.steps pv sector)
  some_value pv sector = now_image lot.start is pv sector

  written_from : (older : List (List Put)) (puts : List Put) (pv sector : ℕ) (value : List ℕ) → ShareNoSector puts
      → IsWrittenBy puts pv sector value → FromStart lot (older ++ puts ∷ []) pv sector value
  written_from older puts pv sector value apart by = record {
    first = now_after lot.start.opened lot.start.steps pv sector;
    could = some_value pv sector;
    over = λ base e. last_batch older puts base pv sector ∙ sym (written_is puts (with_batches older base) pv sector value apart by);
  }

  after_from : (through : List (List Put)) (pv sector : ℕ) (value : List ℕ) → All ShareNoSector through → After lot through pv sector value
      → FromStart lot (in_order through) pv sector value
  after_from [] pv sector value apart after = record { first = value; could = after; over = λ base e. e }
  after_from (puts ∷ older) pv sector value apart (inl by) =
      written_from (in_order older) puts pv sector value (All-head ShareNoSector puts older apart) by
  after_from (puts ∷ older) pv sector value apart (inr kept) =
      let rest = after_from older pv sector value (All-tail ShareNoSector puts older apart) kept.1 in
      record {
        first = rest.first;
        could = rest.could;
        over =
            λ base e. last_batch (in_order older) puts base pv sector
            ∙ written_kept puts (with_batches (in_order older) base) pv sector kept.0 ∙ rest.over base e;
      }

-- ---- all sectors

module _ (lot : Lot) (is : IsRecord lot.start.steps) (through : List (List Put)) (puts : List Put) (rest : List (List Put))
    (own : AreOwn lot (in_order through ++ puts ∷ []))
    (apart_through : All ShareNoSector through) (apart : ShareNoSector puts) (image : Image) where
  -- what a base has in a sector, over which the image has what it has there
  record Chosen (pv sector : ℕ) : Type 0 where
    first : List ℕ
    could : IsTrue (lot.mine pv sector) → CanLeave lot.start pv sector first
    other : lot.mine pv sector ≡ false → first ≡ image pv sector
    over : (base : Image) → base pv sector ≡ first
        → (image pv sector ≡ with_batches (in_order through) base pv sector)
        ⊎ (image pv sector ≡ with_batches (in_order through ++ puts ∷ []) base pv sector)

  own_chosen : (pv sector : ℕ) → lot.mine pv sector ≡ true → Between lot through puts pv sector (image pv sector) → Chosen pv sector
  own_chosen pv sector mine (inl after) =
      let from = after_from lot is through pv sector (image pv sector) apart_through after in
      record {
        first = from.first;
        could = λ it. from.could;
        other = λ not. absurd (let e : true ≡ false = sym mine ∙ not in cc);
        over = λ base e. inl (sym (from.over base e));
      }
  own_chosen pv sector mine (inr by) =
      let from = written_from lot is (in_order through) puts pv sector (image pv sector) apart by in
      record {
        first = from.first;
        could = λ it. from.could;
        other = λ not. absurd (let e : true ≡ false = sym mine ∙ not in cc);
        over = λ base e. inr (sym (from.over base e));
      }

  other_chosen : (pv sector : ℕ) → lot.mine pv sector ≡ false → Chosen pv sector
  other_chosen pv sector others = record {
    first = image pv sector;
    could = λ it. absurd (let e : true ≡ false = sym it ∙ others in cc);
    other = λ not. refl;
    over = λ base e. inr (sym (batches_kept (in_order through ++ puts ∷ []) base pv sector (own.own pv sector others) ∙ e));
  }

  module _ (between : (pv sector : ℕ) → IsTrue (lot.mine pv sector) → Between lot through puts pv sector (image pv sector)) where
    chosen : (pv sector : ℕ) → (b : Bool) → lot.mine pv sector ≡ b → Chosen pv sector
    chosen pv sector true e = own_chosen pv sector e (between pv sector e)
    chosen pv sector false e = other_chosen pv sector e

    base_of : Image
    base_of pv sector = (chosen pv sector (lot.mine pv sector) refl).first

    front : take (length (in_order through)) (in_order through ++ puts ∷ rest) ≡ in_order through
    front = take-append_seam (in_order through) (puts ∷ rest)

    longer : take (suc (length (in_order through))) (in_order through ++ puts ∷ rest) ≡ in_order through ++ puts ∷ []
    longer =
        let e : suc (length (in_order through)) ≡ length (in_order through) + 1 = omega arith in
        ap (λ (n : ℕ). take n (in_order through ++ puts ∷ rest)) e ∙ take-append-add (in_order through) (puts ∷ rest) 1

    over_base : IsOnWayOver lot (in_order through ++ puts ∷ rest) image
    unfolding base_of chosen
    over_base = record {
      base = base_of;
      could = λ pv sector it. (chosen pv sector (lot.mine pv sector) refl).could it;
      others = λ pv sector not. (chosen pv sector (lot.mine pv sector) refl).other not;
      first = record {
        count = length (in_order through);
        among = let e = length-append (in_order through) (puts ∷ rest) in omega (arith, e);
        either = λ pv sector.
            let c = (chosen pv sector (lot.mine pv sector) refl).over base_of refl in
            ⊎_elim
            (λ a. inl (a ∙ sym (ap (λ (l : List (List Put)). with_batches l base_of pv sector) front)))
            (λ b. inr (b ∙ sym (ap (λ (l : List (List Put)). with_batches l base_of pv sector) longer)))
            c;
      };
    }

-- so each image is, while a batch is on its way or lost; and at rest, with the next one ahead
pub images_over : (lot : Lot) → IsRecord lot.start.steps → (through : List (List Put)) (puts : List Put) (rest : List (List Put))
    → AreOwn lot (in_order through ++ puts ∷ []) → All ShareNoSector through → ShareNoSector puts
    → (told : Record) → AllLeave lot.mine (Between lot through puts) told → (image : Image) → IsImage told image
    → IsOnWayOver lot (in_order through ++ puts ∷ rest) image
images_over lot is through puts rest own apart_through apart told leaves image possible =
    over_base lot is through puts rest own apart_through apart image
    (λ pv sector it. let m = possible pv sector in (leaves pv sector it).each m.0 (image pv sector) m.1)
