-- A world of which nothing was begun: its volumes are laid out, and it is kept.
use Rattle.std.proofs.Common.{◌≡◌, ◌≤◌, ◌<◌, ℕ, ◌+◌, true, false, cond, not, ◌&&◌, nat_eq, nat_lt, List, [], ◌∷◌, length, get_or}
use Rattle.std.proofs.Common.{map, replicate, All, AllPairs, IfSome, Option, None, Some, option_map, position, slice_get, slice_index_or}
use Rattle.std.proofs.Common.{inl, refl, sym, ap, subst, ◌∙◌, arith}
use Rattle.std.specs.List.{AllByRecursion}
use Rattle.std.specs.Option.{option_and_then}
use Rattle.std.proofs.lemmas.Bool.{eqb-true, ltb-false, ltb-true}
use Rattle.std.proofs.lemmas.List.{get_or-replicate, get_or_past, length-replicate}
use Rattle.std.proofs.lemmas.List.Elements.{All-from_recursion, All-nil}
use Rattle.std.proofs.lemmas.List.Quantifiers.{position-Some}
use Rattle.std.proofs.lemmas.Option.{none-some, same_Some}
use Rattle.list_laws.proofs.Pairs.{Pairs, pairs_to}
use Rattle.sector_base.specs.declared.places.At.{At}
use Rattle.line_table.specs.Steps.{no_lines}
use Rattle.disk_model.specs.State.{IsLawful, State}
use Rattle.meta_model.specs.declared.group.Group.{Group}
use Rattle.meta_model.specs.declared.lv.Lv.{Lv}
use Rattle.volume_rules.specs.declared.rule.Rule.TheVariants as rule
use Rattle.volume_rules.specs.Rules.{IsAccepted}
use Rattle.volume_view.specs.Places.{primary}
use Rattle.flush_waits.specs.Waits.{DiskWaits, new_waits, none_waits}
use Rattle.piece_table.specs.declared.live.LivePiece.{LivePiece}
use Rattle.piece_table.specs.Pieces.{flying_of, no_pieces}
use Rattle.world_acts.specs.declared.state.Core.{Core}
use Rattle.world_acts.specs.declared.volumes.VolumeRow.{VolumeRow}
use Rattle.world_acts.specs.declared.volumes.Volumes.{Volumes}
use Rattle.world_acts.specs.Acts.{world}
use Rattle.world_acts.specs.OpenLines.{no_opens}
use Rattle.world_acts.specs.Steps.{new_core}
use Rattle.world_acts.specs.Volumes.{AreLaidOut, lv_of, numbers_of, on_disk, place_of, rows_at_opening, visible_numbers, visible_rows}
use Rattle.world_acts.proofs.Opened.{new_orderly}
use Rattle.world_acts.proofs.RoomsKept.{no_room}
use Rattle.io_core.specs.Rest.{IsAsked, IsAtRest, IsKept, IsPlain}

-- ---- the rows of the visible volumes

-- rows stand in order
abbrev StandsBefore : VolumeRow → VolumeRow → Type 0
StandsBefore r s = (r.key < s.key) × (r.lv < s.lv)

rows_listed : (key number : ℕ) (lvs : List (List ℕ × Lv))
    → map (λ (r : VolumeRow). r.lv) (visible_rows key number lvs) ≡ visible_numbers number lvs
rows_listed key number [] = refl
rows_listed key number (row ∷ rows) =
    elim row.1.status.visible as (λ b. map (λ (r : VolumeRow). r.lv)
    (cond b (record { key = key; lv = number } ∷ visible_rows (key + 1) (number + 1) rows) (visible_rows key (number + 1) rows))
    ≡ cond b (number ∷ visible_numbers (number + 1) rows) (visible_numbers (number + 1) rows)) [
      | true ↦ ap (λ (l : List ℕ). number ∷ l) (rows_listed (key + 1) (number + 1) rows)
      | false ↦ rows_listed key (number + 1) rows
    ]

rows_above : (r : VolumeRow) (key number : ℕ) (lvs : List (List ℕ × Lv)) → r.key < key → r.lv < number
    → AllByRecursion (StandsBefore r) (visible_rows key number lvs)
rows_above r key number [] below before = tt
rows_above r key number (row ∷ rows) below before =
    elim row.1.status.visible as (λ b. AllByRecursion (StandsBefore r)
    (cond b (record { key = key; lv = number } ∷ visible_rows (key + 1) (number + 1) rows) (visible_rows key (number + 1) rows))) [
      | true ↦ ((below, before), rows_above r (key + 1) (number + 1) rows (omega (arith, below)) (omega (arith, before)))
      | false ↦ rows_above r key (number + 1) rows below (omega (arith, before))
    ]

rows_sorted : (key number : ℕ) (lvs : List (List ℕ × Lv)) → Pairs StandsBefore (visible_rows key number lvs)
rows_sorted key number [] = tt
rows_sorted key number (row ∷ rows) =
    elim row.1.status.visible as (λ b. Pairs StandsBefore
    (cond b (record { key = key; lv = number } ∷ visible_rows (key + 1) (number + 1) rows) (visible_rows key (number + 1) rows))) [
      | true ↦ (
        rows_above (record { key = key; lv = number }) (key + 1) (number + 1) rows (omega arith) (omega arith),
        rows_sorted (key + 1) (number + 1) rows,
      )
      | false ↦ rows_sorted key (number + 1) rows
    ]

-- their keys are below their number
keys_below : (bound key number : ℕ) (lvs : List (List ℕ × Lv)) → key + length (visible_rows key number lvs) ≤ bound
    → AllByRecursion (λ (r : VolumeRow). r.key < bound) (visible_rows key number lvs)
keys_below bound key number [] most = tt
keys_below bound key number (row ∷ rows) most =
    elim row.1.status.visible as (λ b. key + length
    (cond b (record { key = key; lv = number } ∷ visible_rows (key + 1) (number + 1) rows) (visible_rows key (number + 1) rows)) ≤ bound
    → AllByRecursion (λ (r : VolumeRow). r.key < bound)
    (cond b (record { key = key; lv = number } ∷ visible_rows (key + 1) (number + 1) rows) (visible_rows key (number + 1) rows))) [
      | true ↦ λ h. (omega (arith, h), keys_below bound (key + 1) (number + 1) rows (omega (arith, h)))
      | false ↦ λ h. keys_below bound key (number + 1) rows h
    ] most

-- and they are no more than all volumes
rows_few : (key number : ℕ) (lvs : List (List ℕ × Lv)) → length (visible_rows key number lvs) ≤ length lvs
rows_few key number [] = omega arith
rows_few key number (row ∷ rows) =
    elim row.1.status.visible as (λ b. length
    (cond b (record { key = key; lv = number } ∷ visible_rows (key + 1) (number + 1) rows) (visible_rows key (number + 1) rows))
    ≤ length (row ∷ rows)) [
      | true ↦ let rest = rows_few (key + 1) (number + 1) rows in omega (arith, rest)
      | false ↦ let rest = rows_few key (number + 1) rows in omega (arith, rest)
    ]

opened_listed : (group : Option Group) → map (λ (r : VolumeRow). r.lv) (rows_at_opening group) ≡ numbers_of group
opened_listed None = refl
opened_listed (Some g) = rows_listed 0 0 g.lvs

opened_sorted : (group : Option Group) → AllPairs StandsBefore (rows_at_opening group)
opened_sorted None = pairs_to StandsBefore [] tt
opened_sorted (Some g) = pairs_to StandsBefore (visible_rows 0 0 g.lvs) (rows_sorted 0 0 g.lvs)

opened_keys : (group : Option Group) → All (λ (r : VolumeRow). r.key < length (rows_at_opening group)) (rows_at_opening group)
opened_keys None = All-nil (λ (r : VolumeRow). r.key < 0)
opened_keys (Some g) =
    let n : ℕ = length (visible_rows 0 0 g.lvs) in
    All-from_recursion (λ (r : VolumeRow). r.key < n) (visible_rows 0 0 g.lvs) (keys_below n 0 0 g.lvs (omega arith))

pub opened_few : (group : Option Group) → IfSome group IsAccepted → length (rows_at_opening group) ≤ 1024
opened_few None accepted = omega arith
opened_few (Some g) accepted = let all = rows_few 0 0 g.lvs in let few = (accepted rule.Volumes).lvs in omega (arith, all, few)

-- ---- the volumes are laid out

-- where the sectors of what was found lie on disks of these sizes
abbrev pub ArePlacesOn : List ℕ → Option Group → List ℕ → Type 0
ArePlacesOn sizes group disk_of =
    IfSome group (λ (g : Group). (lv x : ℕ) (at : At) → primary g lv x ≡ Some at
    → (slice_index_or disk_of at.pv 0 < length sizes) × (at.sector < slice_index_or sizes (slice_index_or disk_of at.pv 0) 0))

abbrev LiesIn : List ℕ → At → Type 0
LiesIn sizes at = (at.pv < length sizes) × (at.sector < slice_index_or sizes at.pv 0)

placed_on : (volumes : Volumes) (sizes : List ℕ) → ArePlacesOn sizes volumes.group volumes.disk_of → (key x : ℕ) (at : At)
    → place_of volumes key x ≡ Some at
    → LiesIn sizes at
placed_on volumes sizes places key x at is = by volumes.group places is
  where
    there : (g : Group) (lv : ℕ)
        → ((lv x : ℕ) (at : At) → primary g lv x ≡ Some at
        → (slice_index_or volumes.disk_of at.pv 0 < length sizes)
        × (at.sector < slice_index_or sizes (slice_index_or volumes.disk_of at.pv 0) 0))
        → (a : Option At)
        → primary g lv x ≡ a
        → option_map (on_disk volumes) a ≡ Some at
        → LiesIn sizes at
    there g lv each None found h = absurd (none-some at h)
    there g lv each (Some a) found h = subst (LiesIn sizes) (same_Some (on_disk volumes a) at h) (each lv x a found)

    numbered : (g : Group)
        → ((lv x : ℕ) (at : At) → primary g lv x ≡ Some at
        → (slice_index_or volumes.disk_of at.pv 0 < length sizes)
        × (at.sector < slice_index_or sizes (slice_index_or volumes.disk_of at.pv 0) 0))
        → (number : Option ℕ)
        → option_and_then (λ (lv : ℕ). option_map (on_disk volumes) (primary g lv x)) number ≡ Some at
        → LiesIn sizes at
    numbered g each None h = absurd (none-some at h)
    numbered g each (Some lv) h = there g lv each (primary g lv x) refl h

    by : (group : Option Group) → ArePlacesOn sizes group volumes.disk_of
        → option_and_then (λ (g : Group). option_and_then (λ (lv : ℕ). option_map (on_disk volumes) (primary g lv x)) (lv_of volumes key))
        group ≡ Some at
        → LiesIn sizes at
    by None places h = absurd (none-some at h)
    by (Some g) places h = numbered g places (lv_of volumes key) h

pub laid_out : (volumes : Volumes) (sizes : List ℕ) → IfSome volumes.group IsAccepted
    → IfSome volumes.group (λ (g : Group). length g.pvs ≤ length volumes.disk_of)
    → ArePlacesOn sizes volumes.group volumes.disk_of
    → volumes.rows.items ≡ rows_at_opening volumes.group
    → AreLaidOut volumes sizes
laid_out volumes sizes accepted disks places rows = record {
  accepted = accepted;
  disks = disks;
  listed = ap (λ (l : List VolumeRow). map (λ (r : VolumeRow). r.lv) l) rows ∙ opened_listed volumes.group;
  sorted = subst (λ (l : List VolumeRow). AllPairs StandsBefore l) (sym rows) (opened_sorted volumes.group);
  placed = placed_on volumes sizes places;
}

-- the keys of the volumes are below their number
opened_below : (volumes : Volumes) → volumes.rows.items ≡ rows_at_opening volumes.group → (key lv : ℕ) → lv_of volumes key ≡ Some lv
    → key < length volumes.rows.items
opened_below volumes rows key lv is = by (position (λ (r : VolumeRow). nat_eq r.key key) volumes.rows.items) refl is
  where
    all : All (λ (r : VolumeRow). r.key < length volumes.rows.items) volumes.rows.items
    all = subst (λ (l : List VolumeRow). All (λ (r : VolumeRow). r.key < length l) l) (sym rows) (opened_keys volumes.group)

    by : (at : Option ℕ) → position (λ (r : VolumeRow). nat_eq r.key key) volumes.rows.items ≡ at
        → option_and_then (λ (n : ℕ). option_map (λ (r : VolumeRow). r.lv) (slice_get volumes.rows.items n)) at ≡ Some lv
        → key < length volumes.rows.items
    by None found h = absurd (none-some lv h)
    by (Some n) found h =
        let d : VolumeRow = record { key = 0; lv = 0 } in
        let there = position-Some (λ (r : VolumeRow). nat_eq r.key key) volumes.rows.items n d found in
        subst (λ (k : ℕ). k < length volumes.rows.items) (eqb-true (get_or volumes.rows.items n d).key key there.1) (all n d there.0)

-- ---- nothing was begun

none_at : (n pv : ℕ) → get_or (replicate n none_waits) pv none_waits ≡ none_waits
none_at n pv =
    elim (nat_lt pv n) as (λ b. nat_lt pv n ≡ b → get_or (replicate n none_waits) pv none_waits ≡ none_waits) [
      | true ↦ λ t. get_or-replicate n pv none_waits none_waits (ltb-true pv n t)
      | false ↦ λ t.
          let long : length (replicate n none_waits) ≡ n = length-replicate n none_waits in
          get_or_past (replicate n none_waits) pv none_waits (omega (arith, long, ltb-false pv n t))
    ] refl

new_rest : (c : Core) (disks volumes : ℕ) → IsAtRest (new_core c disks volumes)
new_rest c disks volumes =
    let d : Core = new_core c disks volumes in
    record {
      settled = record {
        calm = record {
          quiet = record {
            asked = All-nil (λ (e : ℕ × LivePiece). false ≡ false → IsAsked d e);
            unfinished = λ line not. inl refl;
          };
          others = λ line is. absurd (none-some line is);
        };
        ready = refl;
        released = λ pv none. ap (λ (x : DiskWaits). x.served) (none_at disks pv);
      };
      flushed = λ pv within. ap (λ (x : DiskWaits). not (nat_eq (length x.next) 0) && true) (none_at disks pv);
    }

new_plain : (c : Core) (disks volumes : ℕ) → IsPlain (new_core c disks volumes)
new_plain c disks volumes =
    record { closed = refl; suspended = refl; once = All-nil (λ (e : ℕ × LivePiece). flying_of e.1.stage ≤ 1) }

-- a core in which nothing was begun, over so many disks
pub record IsNew (c : Core) (disks : ℕ) : Type 0 where
  pub lines : c.lines ≡ no_lines
  pub opens : c.opens ≡ no_opens
  pub pieces : c.pieces ≡ no_pieces
  pub waits : c.waits ≡ new_waits disks (length c.volumes.rows.items)
  pub barrier : c.barrier ≡ None
  pub owed : c.owed ≡ no_room

is_new : (c : Core) (disks : ℕ) → IsNew c disks → new_core c disks (length c.volumes.rows.items) ≡ c
is_new c disks new =
    λ i. record c {
      lines = sym new.lines i;
      opens = sym new.opens i;
      pieces = sym new.pieces i;
      waits = sym new.waits i;
      barrier = sym new.barrier i;
      owed = sym new.owed i;
    }

pub new_kept : (s : State) (c : Core) → IsLawful s → s.in_flight ≡ [] → length s.sizes ≤ 64 → AreLaidOut c.volumes s.sizes
    → c.volumes.rows.items ≡ rows_at_opening c.volumes.group
    → IsNew c (length s.sizes)
    → IsKept (world s c)
new_kept s c lawful idle few laid rows new =
    let n : ℕ = length c.volumes.rows.items in
    let disks : ℕ = length s.sizes in
    subst (λ (d : Core). IsKept (world s d)) (is_new c disks new)
    (record {
      orderly = new_orderly (world s c) n lawful idle laid few (opened_below c.volumes rows);
      rest = new_rest c disks n;
      plain = new_plain c disks n;
    })

-- over volumes as they were found
pub opened_kept : (s : State) (c : Core) (v : Volumes) → IsLawful s → s.in_flight ≡ [] → length s.sizes ≤ 64 → IfSome v.group IsAccepted
    → IfSome v.group (λ (g : Group). length g.pvs ≤ length v.disk_of)
    → ArePlacesOn s.sizes v.group v.disk_of
    → v.rows.items ≡ rows_at_opening v.group
    → c.volumes ≡ v
    → c.lines ≡ no_lines
    → c.opens ≡ no_opens
    → c.pieces ≡ no_pieces
    → c.waits ≡ new_waits (length s.sizes) (length v.rows.items)
    → c.barrier ≡ None
    → c.owed ≡ no_room
    → IsKept (world s c)
opened_kept s c v lawful idle few accepted disks places rows is lines opens pieces waits barrier owed =
    new_kept s c lawful idle few
    (subst (λ (x : Volumes). AreLaidOut x s.sizes) (sym is) (laid_out v s.sizes accepted disks places rows))
    (subst (λ (x : Volumes). x.rows.items ≡ rows_at_opening x.group) (sym is) rows)
    (record {
      lines = lines;
      opens = opens;
      pieces = pieces;
      waits = waits ∙ ap (λ (x : Volumes). new_waits (length s.sizes) (length x.rows.items)) (sym is);
      barrier = barrier;
      owed = owed;
    })
