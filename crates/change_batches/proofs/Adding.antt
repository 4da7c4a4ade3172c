-- Batches while they are put together: what they write so far, and that each can be carried out.
use Rattle.std.proofs.Common.{◌≡◌, ◌<◌, ℕ, List, [], ◌∷◌, ◌++◌, length, map, Option, Some, None, refl, sym, ap, subst, ◌∙◌, arith}
use Rattle.std.specs.Prelude.{All}
use Rattle.std.specs.Ordering.{nat_cmp}
use Rattle.std.specs.FinSet.{FinSet}
use Rattle.std.proofs.lemmas.List.{append-nil, append_assoc, map-append}
use Rattle.std.proofs.lemmas.List.Elements.{All-append, All-cons, All-nil, All-push}
use Rattle.mda_header.specs.declared.header.Locn.{Locn}
use Rattle.mda_ring.specs.declared.area.Area.{Area}
use Rattle.conf_text.specs.Printed.{printed}
use Rattle.meta_model.specs.declared.group.Group.{Group}
use Rattle.meta_print.specs.Layout.{tree_of}
use Rattle.disk_batch.specs.Batches.{writes_of}
use Rattle.disk_batch.specs.InTurn.{CanRun, Put}
use Rattle.disk_batch.specs.declared.batch.Batch.{Batch}
use Rattle.vg_commit.specs.declared.prepared.Prepared.{Prepared}
use Rattle.vg_commit.specs.Preparing.{AreWithin, IsPrepared}
use Rattle.vg_commit.proofs.CommitCanRun.{headers_can_run, publish_can_run, texts_can_run}
use Rattle.group_plan.specs.Judging.{set_of}
use Rattle.change_batches.specs.Batches.{batch_if, commit_batches}
use Rattle.change_batches.specs.Building.{Is, IsAdded, IsTextAdded, areas_on, disks_written}
use Rattle.change_batches.proofs.DisksWritten.{AreApart, runs}

-- a batch is added where there is a write
pub added_none : (puts : List Put) (old new : List Batch) → length puts ≡ 0 → new ≡ old → IsAdded puts old new
added_none [] old new none same = same
added_none (put ∷ puts) old new none same = absurd (omega (arith, none))

pub added_one : (puts : List Put) (old new : List Batch) (batch : Batch) → 0 < length puts → new ≡ old ++ batch ∷ []
    → Is puts (set_of (disks_written puts)) batch → IsAdded puts old new
added_one [] old new batch some behind is = absurd (omega (arith, some))
added_one (put ∷ puts) old new batch some behind is = (batch, behind, is)

-- a batch more
pub added_writes : (puts : List Put) (old new : List Batch) → IsAdded puts old new → map writes_of new ≡ map writes_of old ++ batch_if puts
added_writes [] old new is = ap (map writes_of) is ∙ sym (append-nil (map writes_of old))
added_writes (put ∷ puts) old new is =
    ap (map writes_of) is.1 ∙ map-append writes_of old (is.0 ∷ []) ∙ ap (λ (w : List Put). map writes_of old ++ w ∷ []) is.2.writes

pub added_run : (sizes : List ℕ) (puts : List Put) (old new : List Batch) → IsAdded puts old new → AreApart sizes puts
    → All (CanRun sizes) old → All (CanRun sizes) new
added_run sizes [] old new is are all = subst (All (CanRun sizes)) (sym is) all
added_run sizes (put ∷ puts) old new is are all =
    subst (All (CanRun sizes)) (sym is.1) (All-push (CanRun sizes) old is.0 all (runs sizes put puts is.0 are is.2))

-- the three of a commit are added
module _ (text : List ℕ) (areas : List (Area × Option Locn)) (flush : FinSet nat_cmp) (prepared : Prepared)
    (is : IsPrepared prepared areas flush text) where
  abbrev three : List Batch
  three = prepared.texts ∷ prepared.headers ∷ prepared.publish ∷ []

  same : {X : Type 0} {x y z x' y' z' : X} → x ≡ x' → y ≡ y' → z ≡ z' → (x ∷ y ∷ z ∷ []) ≡ (x' ∷ y' ∷ z' ∷ [])
  same e f g = cc

  three_run : (sizes : List ℕ) → AreWithin sizes areas flush → All (CanRun sizes) three
  three_run sizes within =
      All-cons (CanRun sizes) prepared.texts (prepared.headers ∷ prepared.publish ∷ [])
      (texts_can_run text areas flush is.committed is.room sizes within prepared.texts is.texts is.text_disks)
      (All-cons (CanRun sizes) prepared.headers (prepared.publish ∷ [])
      (headers_can_run text areas flush is.committed is.room sizes within prepared.headers is.headers is.header_disks)
      (All-cons (CanRun sizes) prepared.publish []
      (publish_can_run text areas flush is.committed is.room sizes within prepared.publish is.publish is.publish_disks)
      (All-nil (CanRun sizes))))

  behind_all : (texts headers publish : Batch) (old first second new : List Batch)
      → (texts ≡ prepared.texts) × (headers ≡ prepared.headers) × (publish ≡ prepared.publish)
      → first ≡ old ++ texts ∷ [] → second ≡ first ++ headers ∷ [] → new ≡ second ++ publish ∷ [] → new ≡ old ++ three
  behind_all texts headers publish old first second new parts a b c =
      c
      ∙ ap (λ (l : List Batch). l ++ publish ∷ []) (b ∙ ap (λ (l : List Batch). l ++ headers ∷ []) a)
      ∙ append_assoc (old ++ texts ∷ []) (headers ∷ []) (publish ∷ [])
      ∙ append_assoc old (texts ∷ []) (headers ∷ publish ∷ [])
      ∙ ap (λ (l : List Batch). old ++ l) (same parts.0 parts.1 parts.2)

  pub text_added : (texts headers publish : Batch) (old first second new : List Batch)
      → (texts ≡ prepared.texts) × (headers ≡ prepared.headers) × (publish ≡ prepared.publish)
      → first ≡ old ++ texts ∷ [] → second ≡ first ++ headers ∷ [] → new ≡ second ++ publish ∷ []
      → IsTextAdded text areas flush old new
  text_added texts headers publish old first second new parts a b c =
      let behind : new ≡ old ++ three = behind_all texts headers publish old first second new parts a b c in
      record {
        writes =
            ap (map writes_of) behind ∙ map-append writes_of old three
            ∙ ap (λ (l : List (List Put)). map writes_of old ++ l) (same is.texts is.headers is.publish);
        run = λ sizes within all. subst (All (CanRun sizes)) (sym behind) (All-append (CanRun sizes) old three all (three_run sizes within));
        read = is.read;
      }

-- the same of a text, areas and disks that were first put into a run of bytes, a list and a set
pub added_for : (text shown : List ℕ) (listed disk_of : List ℕ) (all areas on : List (Area × Option Locn)) (flush : FinSet nat_cmp)
    (old new : List Batch) → text ≡ shown → listed ≡ disk_of → flush ≡ set_of listed → all ≡ areas → on ≡ areas_on flush all
    → IsTextAdded text on flush old new → IsTextAdded shown (areas_on (set_of disk_of) areas) (set_of disk_of) old new
added_for text shown listed disk_of all areas on flush old new same_text same_listed is_set same_all is_on is =
    let set : flush ≡ set_of disk_of = is_set ∙ ap set_of same_listed in
    subst (λ (t : List ℕ). IsTextAdded t (areas_on (set_of disk_of) areas) (set_of disk_of) old new) same_text
    (subst (λ (s : FinSet nat_cmp). IsTextAdded text (areas_on s areas) s old new) set
    (subst (λ (l : List (Area × Option Locn)). IsTextAdded text l flush old new) (is_on ∙ ap (areas_on flush) same_all) is))

-- where a group is committed
abbrev pub CommitAdded : Option Group → List (Area × Option Locn) → FinSet nat_cmp → ℕ → List Batch → List Batch → Type 0
CommitAdded None areas flush now old new = new ≡ old
CommitAdded (Some group) areas flush now old new = IsTextAdded (printed (tree_of group now)) areas flush old new

module _ (areas : List (Area × Option Locn)) (flush : FinSet nat_cmp) (now : ℕ) (old new : List Batch) where
  pub commit_writes : (group : Option Group) → CommitAdded group areas flush now old new
      → map writes_of new ≡ map writes_of old ++ commit_batches group now areas
  commit_writes None is = ap (map writes_of) is ∙ sym (append-nil (map writes_of old))
  commit_writes (Some group) is = is.writes

  pub commit_run : (sizes : List ℕ) (group : Option Group) → CommitAdded group areas flush now old new
      → ((g : Group) → group ≡ Some g → AreWithin sizes areas flush) → All (CanRun sizes) old → All (CanRun sizes) new
  commit_run sizes None is within all = subst (All (CanRun sizes)) (sym is) all
  commit_run sizes (Some group) is within all = is.run sizes (within group refl) all
