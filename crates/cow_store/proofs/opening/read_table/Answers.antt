use Rattle.std.proofs.Common.{◌≡◌, ◌+◌, ◌*◌, ◌∙◌, ℕ, [], List, length, min, true, false, ap, refl, subst, sym, arith}
use Rattle.std.proofs.lemmas.Result.{err_from_is_err_and}
use Rattle.sector_base.specs.Fields.{field}
use Rattle.disk_model.specs.Puts.{one_sector}
use Rattle.disk_model.specs.Since.{KeepsSectors}
use Rattle.disk_model.specs.Steps.{Reading, now_after}
use Rattle.disk_model.proofs.KeptSectors.{keeps_told_both, keeps_told_nothing}
use Rattle.disk_model.proofs.WhereTold.{told_at}
use Rattle.cow_store.specs.declared.refusal.CowRefusal.{CowRefusal}
use Rattle.cow_store.specs.Layout.{chunks_in, entry_place, lengths_of}
use Rattle.cow_store.specs.Reading.{IsFirstBad, IsReadTo}
use Rattle.cow_store.specs.Snapshot.{entry_in}
use Rattle.cow_store.proofs.Goes.{told_by}
use Rattle.cow_store.proofs.OpenedTable.{ends_bad, entries_of, none_read, told_all}
use Rattle.cow_store.proofs.ReadTable.{some_read}
use Rattle.cow_store.proofs.SectorWrites.{read_keeps}
use Rattle.cow_store.proofs.opening.read_table.Goals as goal

pub loop-k-init : goal.loop-k-init
loop-k-init g c =
    let s0 = g.V.Vols.state c.args.vols.now in
    let chunks = chunks_in (lengths_of s0.sizes).origin in
    let none : min (64 * 0) (length c.args.table.now) ≡ 0 = omega arith in
    record {
      spends = record { spare = omega arith; faults = λ v. omega arith; sizes = refl };
      keeps = keeps_told_nothing s0.told s0.told refl;
      len = refl;
      some = (λ slot. 0, none_read chunks _ _ (λ slot. 0) c.args.table.now c.requires.empty none);
      entries =
          told_all s0.told
          (λ t. IsReadTo chunks (min (64 * 0) (length c.args.table.now)) (entry_in (now_after t.opened t.steps)) c.args.table.now)
          (λ t e. none_read chunks _ _ (entry_in (now_after t.opened t.steps)) c.args.table.now c.requires.empty none);
    }

pub returns-in_err-sector-clause-keeps : goal.returns-in_err-sector-clause-keeps
returns-in_err-sector-clause-keeps g c =
    let s0 = g.V.Vols.state c.args.vols.now in
    let s1 = g.V.Vols.state c.loop-k.vols in
    let s2 = g.V.Vols.state c.read_sector.new.vols in
    keeps_told_both [] [] s0.told s1.told s2.told c.loop-k.invariant.keeps
    (told_by s1 (Reading (one_sector 1 (1 + c.loop-k.k))) false s2 (λ t t'. KeepsSectors t [] t') c.in_err-sector.ensures.operates
    (λ t e tag fresh. read_keeps t tag 1 (1 + c.loop-k.k) false fresh))

pub returns-in_err-take_entries-clause-keeps : goal.returns-in_err-take_entries-clause-keeps
returns-in_err-take_entries-clause-keeps g c =
    let s0 = g.V.Vols.state c.args.vols.now in
    let s1 = g.V.Vols.state c.loop-k.vols in
    let s2 = g.V.Vols.state c.read_sector.new.vols in
    keeps_told_both [] [] s0.told s1.told s2.told c.loop-k.invariant.keeps
    (told_by s1 (Reading (one_sector 1 (1 + c.loop-k.k))) true s2 (λ t t'. KeepsSectors t [] t') c.in_ok-sector.ensures.operates
    (λ t e tag fresh. read_keeps t tag 1 (1 + c.loop-k.k) true fresh))

-- the same by equal numbers
moved : (a b n m : ℕ) (read : ℕ → ℕ) (entries : List ℕ) → a ≡ b → n ≡ m → IsReadTo a n read entries → IsReadTo b m read entries
moved a b n m read entries first next r =
    subst (λ (x : ℕ). IsReadTo x m read entries) first (subst (λ (x : ℕ). IsReadTo a x read entries) next r)

bad_moved : (a b n m : ℕ) (read : ℕ → ℕ) (why : CowRefusal) → a ≡ b → n ≡ m → IsFirstBad a n read why → IsFirstBad b m read why
bad_moved a b n m read why first next bad =
    subst (λ (x : ℕ). IsFirstBad x m read why) first (subst (λ (x : ℕ). IsFirstBad a x read why) next bad)

pub returns-in_err-take_entries-clause-entries : goal.returns-in_err-take_entries-clause-entries
returns-in_err-take_entries-clause-entries g c =
    let s0 = g.V.Vols.state c.args.vols.now in
    let s1 = g.V.Vols.state c.loop-k.vols in
    let s2 = g.V.Vols.state c.read_sector.new.vols in
    let k = c.loop-k.k in
    let kept = c.loop-k.invariant in
    let origin = (lengths_of s0.sizes).origin in
    let chunks : ℕ = c.chunks_of-chunks.result in
    let is : chunks ≡ chunks_in origin = c.chunks_of-chunks.ensures ∙ ap chunks_in c.sectors.ensures in
    let here : min (64 * k) (length c.args.table.now) ≡ 64 * k = omega (arith, c.loop-k-test.true, c.requires.tables) in
    let sector = c.in_ok-sector.sector in
    let p = err_from_is_err_and c.from_residual-in_err-take_entries.result c.from_residual-in_err-take_entries.ensures.1 in
    let some =
    some_read chunks (64 * k) (λ slot. field 8 sector (entry_place slot)) c.loop-k.table
    (kept.some.0, moved (chunks_in origin) chunks _ _ kept.some.0 c.loop-k.table (sym is) here kept.some.1) in
    rw (p.1, p.2)
    (ends_bad origin (length c.args.table.now) s0 s2 some.0 c.in_err-take_entries.field-0.0
    (bad_moved chunks (chunks_in origin) _ _ some.0 c.in_err-take_entries.field-0.0 is kept.len
    (c.in_err-take_entries.ensures.entries some.0 some.1 (λ slot low high. some.2 slot low)))
    (λ t e.
    bad_moved chunks (chunks_in origin) _ _ (entry_in (now_after t.opened t.steps)) c.in_err-take_entries.field-0.0 is kept.len
    (c.in_err-take_entries.ensures.entries (entry_in (now_after t.opened t.steps))
    (moved (chunks_in origin) chunks _ _ (entry_in (now_after t.opened t.steps)) c.loop-k.table (sym is) here
    (told_at (λ u. IsReadTo (chunks_in origin) (min (64 * k) (length c.args.table.now)) (entry_in (now_after u.opened u.steps))
    c.loop-k.table)
    s0.told t kept.entries e))
    (entries_of s0.told s1.told k sector t kept.keeps c.in_ok-sector.ensures.value e))))

pub loop-k-preserved : goal.loop-k-preserved
loop-k-preserved g c =
    let s0 = g.V.Vols.state c.args.vols.now in
    let s1 = g.V.Vols.state c.loop-k.vols in
    let s2 = g.V.Vols.state c.read_sector.new.vols in
    let k = c.loop-k.k in
    let kept = c.loop-k.invariant in
    let o = c.in_ok-sector.ensures.operates in
    let origin = (lengths_of s0.sizes).origin in
    let chunks : ℕ = c.chunks_of-chunks.result in
    let is : chunks ≡ chunks_in origin = c.chunks_of-chunks.ensures ∙ ap chunks_in c.sectors.ensures in
    let here : min (64 * k) (length c.args.table.now) ≡ 64 * k = omega (arith, c.loop-k-test.true, c.requires.tables) in
    let next : min (64 * k + 64) (length c.loop-k.table) ≡ min (64 * (k + 1)) (length c.args.table.now) = omega (arith, kept.len) in
    let sector = c.in_ok-sector.sector in
    let some =
    some_read chunks (64 * k) (λ slot. field 8 sector (entry_place slot)) c.loop-k.table
    (kept.some.0, moved (chunks_in origin) chunks _ _ kept.some.0 c.loop-k.table (sym is) here kept.some.1) in
    record {
      spends = record {
        spare = omega (arith, kept.spends.spare, o.spare);
        faults = λ v. let same : s2.faults v ≡ s1.faults v = o.faults v in omega (arith, kept.spends.faults v, same);
        sizes = o.sizes ∙ kept.spends.sizes;
      };
      keeps =
          keeps_told_both [] [] s0.told s1.told s2.told kept.keeps
          (told_by s1 (Reading (one_sector 1 (1 + k))) true s2 (λ t t'. KeepsSectors t [] t') o
          (λ t e tag fresh. read_keeps t tag 1 (1 + k) true fresh));
      len = c.take_entries.ensures.len ∙ kept.len;
      some = (
        some.0,
        moved chunks (chunks_in origin) _ _ some.0 c.take_entries.new.table is next
            (c.in_ok-take_entries.ensures.entries some.0 some.1 (λ slot low high. some.2 slot low)),
      );
      entries =
          told_all s0.told
          (λ t. IsReadTo (chunks_in origin) (min (64 * (k + 1)) (length c.args.table.now)) (entry_in (now_after t.opened t.steps))
          c.take_entries.new.table)
          (λ t e.
          moved chunks (chunks_in origin) _ _ (entry_in (now_after t.opened t.steps)) c.take_entries.new.table is next
          (c.in_ok-take_entries.ensures.entries (entry_in (now_after t.opened t.steps))
          (moved (chunks_in origin) chunks _ _ (entry_in (now_after t.opened t.steps)) c.loop-k.table (sym is) here
          (told_at (λ u. IsReadTo (chunks_in origin) (min (64 * k) (length c.args.table.now)) (entry_in (now_after u.opened u.steps))
          c.loop-k.table)
          s0.told t kept.entries e))
          (entries_of s0.told s1.told k sector t kept.keeps c.in_ok-sector.ensures.value e)));
    }
