-- The entry of a slot is put: a crash leaves the table without it or with it, and both are whole.
use Rattle.std.proofs.Common.{◌≡◌, ◌≢◌, ◌⊎◌, ◌<◌, ℕ, ◌+◌, ◌/◌, ◌%◌, ◌^◌, ◌==◌, cond, Bool, true, false, List, [], ◌∷◌, length, All}
use Rattle.std.proofs.Common.{Contains}
use Rattle.std.proofs.Common.{Some, None, Ok, inl, inr, ⊎_elim, refl, sym, ap, subst, ◌∙◌, arith, eq-eqb}
use Rattle.std.proofs.lemmas.Bool.Decides.{eqb_tells}
use Rattle.disk_model.specs.Brought.{BringOnly}
use Rattle.disk_model.specs.CarriesOut.{with_operation}
use Rattle.disk_model.specs.CrashValues.{MayLeave}
use Rattle.disk_model.specs.Durability.{EachOnlyLeaves, OnlyLeaves}
use Rattle.disk_model.specs.Puts.{one_sector}
use Rattle.disk_model.specs.Record.{IsRecord}
use Rattle.disk_model.specs.Steps.{Image, Reading, Writing, Flushing, Submitted, Record, now_after}
use Rattle.disk_model.proofs.NowStands.{now_has}
use Rattle.cow_store.specs.Entries.{chunks_of, free_slot, slot_of, with_chunk}
use Rattle.cow_store.specs.Layout.{Lengths, chunks_in, entry_sector, slot_start, slots_in, table_sectors, with_entry}
use Rattle.cow_store.specs.Opening.{opens}
use Rattle.cow_store.specs.Stands.{IsKept, IsPromised, IsRight, IsWhole, Past}
use Rattle.cow_store.specs.VolStates.{AreOneByOne, WritesWell}
use Rattle.cow_store.specs.Writing.{GoesOn, IsSaved, PutsEntry, giving, unchanged}
use Rattle.cow_store.proofs.CandidateValues.{AreCandidates}
use Rattle.cow_store.proofs.GoodEntries.{chunks_given}
use Rattle.cow_store.proofs.Goes.{goes_both, goes_operation, promise_failed}
use Rattle.cow_store.proofs.Images.{whole}
use Rattle.cow_store.proofs.Moments.{candidates_after, only_completed, promise_after}
use Rattle.cow_store.proofs.Operations.{one_more}
use Rattle.cow_store.proofs.Overtaken.{lasts_flushed}
use Rattle.cow_store.proofs.PutTable.{free_there, put_away, put_opens, put_table, put_there}
use Rattle.cow_store.proofs.SectorWrites.{brings_one, now_elsewhere, now_written, reads_one}
use Rattle.cow_store.proofs.Slots.{slot_given}

-- the value is right with the entry or without it
pub record IsRightOrPut (lengths : Lengths) (was : ℕ → List ℕ) (entries more : List ℕ) (table : ℕ → List ℕ) (at : ℕ) (put : List ℕ)
    (v sector : ℕ)
    (value : List ℕ) : Type 0 where
  pub stands : v ≡ 1 → sector < 1 + table_sectors (slots_in lengths.store) → sector ≢ at → value ≡ table sector
  pub either : v ≡ 1 → sector ≡ at → (value ≡ table at) ⊎ (value ≡ put)
  pub saved : v ≡ 1 → (x slot : ℕ) → x < lengths.origin → slot_of more (x / 8) ≡ Some slot
      → sector ≡ slot_start (slots_in lengths.store) slot + x % 8 → value ≡ was x
  pub unsaved : v ≡ 0 → sector < lengths.origin → slot_of entries (sector / 8) ≡ None → value ≡ was sector

module _ (lengths : Lengths) (past : Past) (entries : List ℕ) (chunk slot : ℕ) (free : free_slot entries ≡ Some slot)
    (new : slot_of entries chunk ≡ None) (may : Contains past.chunks chunk) (among : slot < slots_in lengths.store)
    (within : chunk < chunks_in lengths.origin) (small : chunk + 1 < 2 ^ 64) (table : ℕ → List ℕ)
    (long : length (table (entry_sector slot)) ≡ 512) (chunks : All (Contains past.chunks) (chunks_of entries))
    (found : opens lengths (λ v. table) ≡ Ok entries) where
  abbrev more : List ℕ
  more = with_chunk entries slot chunk

  abbrev at : ℕ
  at = entry_sector slot

  abbrev put : List ℕ
  put = with_entry (table (entry_sector slot)) slot chunk

  abbrev pub Either : ℕ → ℕ → List ℕ → Type 0
  Either = IsRightOrPut lengths past.was entries (with_chunk entries slot chunk) table (entry_sector slot)
      (with_entry (table (entry_sector slot)) slot chunk)

  abbrev pub With : ℕ → ℕ → List ℕ → Type 0
  With = IsRight lengths past.was (with_chunk entries slot chunk) (put_table table slot chunk long small)

  given : (c : ℕ) → slot_of (with_chunk entries slot chunk) c ≡ cond (chunk == c) (Some slot) (slot_of entries c)
  given c =
      slot_given entries slot chunk c 0 (free_there entries slot free) new
      ∙ ap (λ (n : ℕ). cond (chunk == c) (Some n) (slot_of entries c)) (omega arith)

  -- a chunk that has a slot keeps it
  stays : (c other : ℕ) → slot_of entries c ≡ Some other → slot_of (with_chunk entries slot chunk) c ≡ Some other
  stays c other has =
      given c
      ∙ ap (λ (b : Bool). cond b (Some slot) (slot_of entries c))
      (⊎_elim (λ same. absurd (let e : Some other ≡ None = sym has ∙ ap (slot_of entries) (sym same.1) ∙ new in cc)) (λ away. away.0)
      (eqb_tells chunk c))
      ∙ has

  -- one that has none then had none before
  had_none : (c : ℕ) → slot_of (with_chunk entries slot chunk) c ≡ None → slot_of entries c ≡ None
  had_none c none =
      ⊎_elim
      (λ same. absurd (let e : Some slot ≡ None =
      sym (ap (λ (b : Bool). cond b (Some slot) (slot_of entries c)) same.0) ∙ sym (given c) ∙ none in cc))
      (λ away. sym (ap (λ (b : Bool). cond b (Some slot) (slot_of entries c)) away.0) ∙ sym (given c) ∙ none)
      (eqb_tells chunk c)

  -- one that has a slot then is the chunk, or had it before
  was_or_new : (c other : ℕ) → slot_of (with_chunk entries slot chunk) c ≡ Some other
      → ((chunk ≡ c) × (slot ≡ other)) ⊎ (slot_of entries c ≡ Some other)
  was_or_new c other has =
      ⊎_elim
      (λ same. inl (
        same.1,
        (let e : Some slot ≡ Some other =
            sym (ap (λ (b : Bool). cond b (Some slot) (slot_of entries c)) same.0) ∙ sym (given c) ∙ has in cc),
      ))
      (λ away. inr (sym (ap (λ (b : Bool). cond b (Some slot) (slot_of entries c)) away.0) ∙ sym (given c) ∙ has))
      (eqb_tells chunk c)

  -- an image of such values is whole
  pub makes : (image : Image) → ((v sector : ℕ) → Either v sector (image v sector)) → IsWhole lengths past image
  makes image each =
      ⊎_elim
      (λ (old : image 1 at ≡ table at).
      whole lengths past entries table chunks found image
      (λ v sector. record {
        stands = λ on lt.
            ⊎_elim
            (λ here. ap (λ (n : ℕ). image n sector) on ∙ ap (image 1) here.1 ∙ old ∙ ap table (sym here.1))
            (λ away. (each v sector).stands on lt away.1) (eqb_tells sector at);
        saved = λ on x other lt has there. (each v sector).saved on x other lt (stays (x / 8) other has) there;
        unsaved = (each v sector).unsaved;
      }))
      (λ (now : image 1 at ≡ put).
      whole lengths past (with_chunk entries slot chunk) (put_table table slot chunk long small)
      (chunks_given (Contains past.chunks) entries slot chunk may chunks)
      (put_opens table slot chunk long small lengths entries among found new (free_there entries slot free) within) image
      (λ v sector. record {
        stands = λ on lt.
            ⊎_elim
            (λ here. ap (λ (n : ℕ). image n sector) on ∙ ap (image 1) here.1 ∙ now
            ∙ sym (put_there table slot chunk long small sector here.1))
            (λ away. (each v sector).stands on lt away.1 ∙ sym (put_away table slot chunk long small sector away.1)) (eqb_tells sector at);
        saved = (each v sector).saved;
        unsaved = λ on lt none. (each v sector).unsaved on lt (had_none (sector / 8) none);
      }))
      ((each 1 at).either refl refl)

  -- the values are such where all was right, and the slot holds what the chunk was
  pub before_put : (t : Record) → EachOnlyLeaves (IsRight lengths past.was entries table) t
      → ((x : ℕ) → x < lengths.origin → x / 8 ≡ chunk
      → OnlyLeaves t 1 (slot_start (slots_in lengths.store) slot + x % 8) (λ v. v ≡ past.was x))
      → EachOnlyLeaves Either t
  before_put t right holds v sector = record {
    each = λ write value leaves.
        let r = (right v sector).each write value leaves in
        record {
          stands = λ on lt other. r.stands on lt;
          either = λ on here. inl (r.stands on (omega (arith, here, among)) ∙ ap table here);
          saved = λ on x other lt has there.
              ⊎_elim
              (λ is. (holds x lt (sym is.0)).each write value
              (subst (λ (n : ℕ). MayLeave t.opened t.steps 1 n write value)
              (there ∙ ap (λ (n : ℕ). slot_start (slots_in lengths.store) n + x % 8) (sym is.1))
              (subst (λ (n : ℕ). MayLeave t.opened t.steps n sector write value) on leaves)))
              (λ old. r.saved on x other lt old there) (was_or_new (x / 8) other has);
          unsaved = r.unsaved;
        };
  }

  -- the put value is such a value
  pub put_either : Either 1 at put
  put_either = record {
    stands = λ on lt other. absurd (other refl);
    either = λ on here. inr refl;
    saved = λ on x other lt has there. absurd (omega (arith, there, among));
    unsaved = λ on. absurd (omega arith);
  }

  -- after the flush the entry stands
  pub after_flush : (t : Record) → EachOnlyLeaves Either t → OnlyLeaves t 1 at (λ v. v ≡ put) → EachOnlyLeaves With t
  after_flush t each lasts v sector = record {
    each = λ write value leaves.
        let r = (each v sector).each write value leaves in
        record {
          stands = λ on lt.
              ⊎_elim
              (λ here. lasts.each write value
              (subst (λ (n : ℕ). MayLeave t.opened t.steps 1 n write value) here.1
              (subst (λ (n : ℕ). MayLeave t.opened t.steps n sector write value) on leaves))
              ∙ sym (put_there table slot chunk long small sector here.1))
              (λ away. r.stands on lt away.1 ∙ sym (put_away table slot chunk long small sector away.1)) (eqb_tells sector at);
          saved = r.saved;
          unsaved = λ on lt none. r.unsaved on lt (had_none (sector / 8) none);
        };
  }

-- the record goes on by a read of the entry's sector, a write of it, and a flush
module _ (lengths : Lengths) (chunk slot : ℕ) (among : slot < slots_in lengths.store) (within : chunk < chunks_in lengths.origin)
    (small : chunk + 1 < 2 ^ 64) (a : Record) (is : IsRecord a.steps) (read : List ℕ)
    (was : read ≡ now_after a.opened a.steps 1 (entry_sector slot))
    (long : length read ≡ 512) (tag tag' : ℕ) (fresh fresh' : List Bool) where
  abbrev value : List ℕ
  value = with_entry read slot chunk

  abbrev pub read_told : Record
  read_told = with_operation tag (Reading (one_sector 1 (entry_sector slot))) true fresh a

  abbrev pub written_told : Bool → Record
  written_told well =
      with_operation tag' (Writing (one_sector 1 (entry_sector slot)) (with_entry read slot chunk ∷ [])) well fresh'
      (with_operation tag (Reading (one_sector 1 (entry_sector slot))) true fresh a)

  abbrev pub flushed_told : ℕ → Bool → List Bool → Record
  flushed_told tag'' well fresh'' =
      with_operation tag'' (Flushing 1) well fresh''
      (with_operation tag' (Writing (one_sector 1 (entry_sector slot)) (with_entry read slot chunk ∷ [])) true fresh'
      (with_operation tag (Reading (one_sector 1 (entry_sector slot))) true fresh a))

  module _ (past : Past) (entries : List ℕ) (s : IsSaved lengths chunk slot a past entries) (p : IsPromised lengths past a)
      (k : IsKept lengths past entries a) where
    table_at : k.table (entry_sector slot) ≡ read
    table_at =
        sym (was ∙ now_has a 1 (entry_sector slot) (λ v. v ≡ k.table (entry_sector slot)) is
        (record { each = λ write v leaves. ((k.right 1 (entry_sector slot)).each write v leaves).stands refl (omega (arith, among)) }))

    long_table : length (k.table (entry_sector slot)) ≡ 512
    long_table = ap (λ (l : List ℕ). length l) table_at ∙ long

    makes_right : (image : Image) → ((v sector : ℕ) → IsRight lengths past.was entries k.table v sector (image v sector))
        → IsWhole lengths past image
    makes_right image right = whole lengths past entries k.table k.chunks k.found image right

    abbrev Either' : ℕ → ℕ → List ℕ → Type 0
    Either' = IsRightOrPut lengths past.was entries (with_chunk entries slot chunk) k.table (entry_sector slot)
        (with_entry (k.table (entry_sector slot)) slot chunk)

    makes_either : (image : Image) → ((v sector : ℕ) → Either' v sector (image v sector)) → IsWhole lengths past image
    makes_either =
        makes lengths past entries chunk slot s.free s.new s.may among within small k.table long_table k.chunks k.found

    p1 : IsPromised lengths past read_told
    p1 =
        promise_after lengths past (IsRight lengths past.was entries k.table) makes_right a p k.right k.candidates k.one_by_one k.well tag
        (Reading (one_sector 1 (entry_sector slot))) tt true fresh

    c1 : AreCandidates past.start 0 (λ sector. sector < lengths.origin) read_told
    c1 =
        candidates_after lengths past (IsRight lengths past.was entries k.table) makes_right a p k.right k.candidates k.one_by_one k.well
        tag
        (Reading (one_sector 1 (entry_sector slot))) tt true fresh

    either1 : EachOnlyLeaves Either' read_told
    either1 =
        before_put lengths past entries chunk slot s.free s.new s.may among within small k.table long_table k.chunks k.found read_told
        (only_completed lengths past (IsRight lengths past.was entries k.table) makes_right a p k.right k.candidates k.one_by_one k.well tag
        (Reading (one_sector 1 (entry_sector slot))) tt true fresh)
        (λ x lt e. record { each = λ write v leaves. (s.holds x lt e).each write v leaves })

    brings : BringOnly Either' (Submitted tag' (Writing (one_sector 1 (entry_sector slot)) (with_entry read slot chunk ∷ [])) ∷ [])
    brings =
        brings_one Either' tag' 1 (entry_sector slot) (with_entry read slot chunk)
        (subst (λ (l : List ℕ). Either' 1 (entry_sector slot) (with_entry l slot chunk)) table_at
        (put_either lengths past entries chunk slot s.free s.new s.may among within small k.table long_table k.chunks k.found))

    -- the write leaves the promise, whether it went well or not
    pub p2 : (well : Bool) → IsPromised lengths past (written_told well)
    p2 well =
        promise_after lengths past Either' makes_either read_told p1 either1 c1
        (one_more a tag (Reading (one_sector 1 (entry_sector slot))) true fresh k.one_by_one) k.well tag'
        (Writing (one_sector 1 (entry_sector slot)) (with_entry read slot chunk ∷ [])) brings well fresh'

    one2 : AreOneByOne (written_told true).steps
    one2 =
        one_more read_told tag' (Writing (one_sector 1 (entry_sector slot)) (with_entry read slot chunk ∷ [])) true fresh'
        (one_more a tag (Reading (one_sector 1 (entry_sector slot))) true fresh k.one_by_one)

    wells2 : WritesWell (written_told true).steps
    wells2 = (refl, k.well)

    either2 : EachOnlyLeaves Either' (written_told true)
    either2 =
        only_completed lengths past Either' makes_either read_told p1 either1 c1
        (one_more a tag (Reading (one_sector 1 (entry_sector slot))) true fresh k.one_by_one) k.well tag'
        (Writing (one_sector 1 (entry_sector slot)) (with_entry read slot chunk ∷ [])) brings true fresh'

    c2 : AreCandidates past.start 0 (λ sector. sector < lengths.origin) (written_told true)
    c2 =
        candidates_after lengths past Either' makes_either read_told p1 either1 c1
        (one_more a tag (Reading (one_sector 1 (entry_sector slot))) true fresh k.one_by_one) k.well tag'
        (Writing (one_sector 1 (entry_sector slot)) (with_entry read slot chunk ∷ [])) brings true fresh'

    -- so does the flush
    pub p3 : (tag'' : ℕ) (well : Bool) (fresh'' : List Bool) → IsPromised lengths past (flushed_told tag'' well fresh'')
    p3 tag'' well fresh'' =
        promise_after lengths past Either' makes_either (written_told true) (p2 true) either2 c2 one2 wells2 tag'' (Flushing 1) tt well
        fresh''

    -- and where it went well the entry stands
    pub k3 : (tag'' : ℕ) (fresh'' : List Bool) → IsKept lengths past (with_chunk entries slot chunk) (flushed_told tag'' true fresh'')
    k3 tag'' fresh'' =
        let told : Record = flushed_told tag'' true fresh'' in
        let lasts = lasts_flushed (written_told true).opened 1 (entry_sector slot) tag'' fresh'' (written_told true).steps one2 wells2 in
        let now : now_after told.opened told.steps 1 (entry_sector slot) ≡ with_entry (k.table (entry_sector slot)) slot chunk =
        now_written read_told tag' 1 (entry_sector slot) (with_entry read slot chunk) fresh' 1 (entry_sector slot)
        ∙ ap (λ (b : Bool). cond b (with_entry read slot chunk) (now_after read_told.opened read_told.steps 1 (entry_sector slot)))
        (eq-eqb (entry_sector slot) (entry_sector slot) refl)
        ∙ ap (λ (l : List ℕ). with_entry l slot chunk) (sym table_at) in
        record {
          one_by_one = one_more (written_told true) tag'' (Flushing 1) true fresh'' one2;
          well = wells2;
          chunks = chunks_given (Contains past.chunks) entries slot chunk s.may k.chunks;
          table = put_table k.table slot chunk long_table small;
          found =
              put_opens k.table slot chunk long_table small lengths entries among k.found s.new (free_there entries slot s.free) within;
          right =
              after_flush lengths past entries chunk slot s.free s.new s.may among within small k.table long_table k.chunks k.found told
              (only_completed lengths past Either' makes_either (written_told true) (p2 true) either2 c2 one2 wells2 tag'' (Flushing 1) tt
              true
              fresh'')
              (record { each = λ write v leaves. lasts.each write v leaves ∙ now });
          candidates =
              candidates_after lengths past Either' makes_either (written_told true) (p2 true) either2 c2 one2 wells2 tag'' (Flushing 1) tt
              true
              fresh'';
        }

  goes1 : GoesOn true a read_told
  goes1 = goes_operation a tag (Reading (one_sector 1 (entry_sector slot))) true fresh

  goes2 : (well : Bool) → GoesOn well a (written_told well)
  goes2 well =
      goes_both a read_told (written_told well) well goes1
      (goes_operation read_told tag' (Writing (one_sector 1 (entry_sector slot)) (with_entry read slot chunk ∷ [])) well fresh')

  origin2 : (well : Bool) (sector : ℕ)
      → now_after (written_told well).opened (written_told well).steps 0 sector ≡ now_after a.opened a.steps 0 sector
  origin2 well sector =
      now_elsewhere read_told tag' 1 (entry_sector slot) (with_entry read slot chunk) well fresh' 0 sector (λ on. absurd (omega arith))

  -- the write of the entry failed
  pub entry_unwritten : PutsEntry lengths chunk slot false a (written_told false)
  entry_unwritten = record {
    goes = goes2 false;
    origin = origin2 false;
    promise = λ past entries s p k. (p2 past entries s p k false, λ went. absurd (let h : false ≡ true = went in cc));
  }

  -- it went well, and then the flush or not
  pub entry_flushed : (tag'' : ℕ) (well : Bool) (fresh'' : List Bool)
      → PutsEntry lengths chunk slot well a (flushed_told tag'' well fresh'')
  entry_flushed tag'' true fresh'' = record {
    goes =
        goes_both a (written_told true) (flushed_told tag'' true fresh'') true (goes2 true)
        (goes_operation (written_told true) tag'' (Flushing 1) true fresh'');
    origin = origin2 true;
    promise = λ past entries s p k. (p3 past entries s p k tag'' true fresh'', λ went. k3 past entries s p k tag'' fresh'');
  }
  entry_flushed tag'' false fresh'' = record {
    goes =
        goes_both a (written_told true) (flushed_told tag'' false fresh'') false (goes2 true)
        (goes_operation (written_told true) tag'' (Flushing 1) false fresh'');
    origin = origin2 true;
    promise = λ past entries s p k.
        (p3 past entries s p k tag'' false fresh'', λ went. absurd (let h : false ≡ true = went in cc));
  }

-- the read of it failed
pub entry_unread : (lengths : Lengths) (chunk slot tag at : ℕ) (fresh : List Bool) (t : Record)
    → PutsEntry lengths chunk slot false t (with_operation tag (Reading (one_sector 1 at)) false fresh t)
entry_unread lengths chunk slot tag at fresh t = record {
  goes = goes_operation t tag (Reading (one_sector 1 at)) false fresh;
  origin = λ sector. refl;
  promise =
      promise_failed lengths (IsSaved lengths chunk slot t) unchanged (giving chunk slot) t
      (with_operation tag (Reading (one_sector 1 at)) false fresh t)
      (reads_one lengths t tag false fresh 1 at (IsSaved lengths chunk slot t));
}
