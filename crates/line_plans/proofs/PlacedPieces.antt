-- Where the pieces of a request on a volume stand.
use Rattle.std.proofs.Common.{◌≡◌, ◌<◌, ◌≤◌, ℕ, zero, suc, ◌+◌, ◌-◌, ◌*◌, ◌/◌, Bool, true, false, cond, List, [], ◌∷◌, length, get_or}
use Rattle.std.proofs.Common.{Option, Some, None, refl, sym, ap, subst, ◌∙◌}
use Rattle.std.proofs.Common.{inl, inr, arith}
use Rattle.std.specs.Prelude.{AllPairs, Contains, IfSome, find, nat_eq, nat_lt, option_map, slice_get, unwrap_or}
use Rattle.std.specs.List.{position_or_len}
use Rattle.std.specs.Option.{option_and_then, option_map_or}
use Rattle.std.proofs.lemmas.Bool.{ne_eqb}
use Rattle.std.proofs.lemmas.List.Elements.{All-contains, Contains-get_or}
use Rattle.std.proofs.lemmas.List.Folds.{find_at}
use Rattle.std.proofs.lemmas.Option.{get_or_from_slice_get, same_Some, slice_get_within}
use Rattle.sector_base.specs.declared.places.At.{At}
use Rattle.sector_base.specs.declared.places.Piece.{Piece}
use Rattle.meta_model.specs.declared.group.Group.{Group}
use Rattle.meta_model.specs.declared.lv.Lv.{Lv}
use Rattle.meta_model.specs.declared.segment.On.TheVariants as on
use Rattle.volume_rules.specs.Extents.{extents_of}
use Rattle.volume_rules.specs.Rules.{IsAccepted}
use Rattle.volume_view.specs.Places.{at_on, primary}
use Rattle.volume_view.proofs.PrimariesStand.{primary_stands}
use Rattle.volume_view.proofs.SideBySide.{down_later}
use Rattle.list_laws.proofs.Bools.{eq_to, lt_true}
use Rattle.list_laws.proofs.Members.{In, in_list}
use Rattle.seg_place.specs.Sectors.{sectors_of}
use Rattle.piece_split.specs.Laws.{Cover, IsInOneBlock, PiecesAreCut, PiecesAreOfRequest, PiecesCoverRequest}
use Rattle.piece_split.specs.Pieces.{pieces_of}
use Rattle.world_acts.specs.declared.volumes.VolumeRow.{VolumeRow}
use Rattle.world_acts.specs.declared.volumes.Volumes.{Volumes}
use Rattle.world_acts.specs.Volumes.{AreLaidOut, IsPlaced, has_sector, lv_of, on_disk, place_of}

-- ---- the pieces of a request

-- what holds of each
pub record IsPieceOf (key start count : ℕ) (write : Bool) (piece : Piece) : Type 0 where
  pub volume : piece.volume ≡ key
  pub writing : piece.write ≡ write
  pub some : 1 ≤ piece.count
  pub block : (k : ℕ) → k < piece.count → (piece.first + k) / 8 ≡ piece.first / 8
  pub from : start ≤ piece.first
  pub to : piece.first + piece.count ≤ start + count

cover_on : (from to : ℕ) (pieces : List Piece) → Cover from to pieces → from ≤ to
cover_on from to [] ends = omega arith
cover_on from to (piece ∷ pieces) (starts, rest) =
    let later : piece.first + piece.count ≤ to = cover_on (piece.first + piece.count) to pieces rest in omega (arith, starts)

covered : (from to : ℕ) (pieces : List Piece) (piece : Piece) → Cover from to pieces → In pieces piece
    → (from ≤ piece.first) × (piece.first + piece.count ≤ to)
covered from to [] piece covers among = absurd among
covered from to (first ∷ pieces) piece (starts, rest) (inl same) =
    let later : first.first + first.count ≤ to = cover_on (first.first + first.count) to pieces rest in
    let at : first.first ≡ piece.first = ap (λ (p : Piece). p.first) same in
    let many : first.count ≡ piece.count = ap (λ (p : Piece). p.count) same in
    (omega (arith, starts), omega arith)
covered from to (first ∷ pieces) piece (starts, rest) (inr later) =
    let bounds = covered (first.first + first.count) to pieces piece rest later in (omega (arith, starts, bounds.0), bounds.1)

pub piece_of : (key start count : ℕ) (write : Bool) (piece : Piece) → PiecesCoverRequest → PiecesAreOfRequest → PiecesAreCut
    → Contains (pieces_of key start count write) piece → IsPieceOf key start count write piece
piece_of key start count write piece cover request cut among =
    let pieces : List Piece = pieces_of key start count write in
    let kind = All-contains (λ (p : Piece). (p.volume ≡ key) × (p.write ≡ write)) pieces piece (request key start count write) among in
    let block : IsInOneBlock piece = All-contains IsInOneBlock pieces piece (cut key start count write).0 among in
    let bounds = covered start (start + count) pieces piece (cover key start count write) (in_list pieces piece among) in
    record { volume = kind.0; writing = kind.1; some = block.0; block = block.1; from = bounds.0; to = bounds.1 }

-- of one that is read at a place
pub item_of : (key start count : ℕ) (write : Bool) (items : List Piece) (k : ℕ) (d : Piece) → PiecesCoverRequest → PiecesAreOfRequest
    → PiecesAreCut → items ≡ pieces_of key start count write → k < length items → IsPieceOf key start count write (get_or items k d)
item_of key start count write items k d cover request cut is within =
    piece_of key start count write (get_or items k d) cover request cut
    (subst (λ (l : List Piece). Contains l (get_or items k d)) is (Contains-get_or items k d within))

-- ---- the row of a key

-- no two rows have the same key
row_of_key : (rows : List VolumeRow) (k : ℕ) (row : VolumeRow) → AllPairs (λ (r s : VolumeRow). (r.key < s.key) × (r.lv < s.lv)) rows
    → slice_get rows k ≡ Some row → find (λ (r : VolumeRow). nat_eq r.key row.key) rows ≡ Some row
row_of_key [] k row sorted is = absurd cc
row_of_key (first ∷ rows) zero row sorted is =
    let same : first ≡ row = same_Some first row is in
    ap (λ (b : Bool). cond b (Some first) (find (λ (r : VolumeRow). nat_eq r.key row.key) rows))
    (eq_to first.key row.key (ap (λ (r : VolumeRow). r.key) same))
    ∙ ap (λ (r : VolumeRow). Some r) same
row_of_key (first ∷ rows) (suc k) row sorted is =
    let within : k < length rows = slice_get_within rows k row is in
    let pair = sorted 0 (suc k) row (omega arith) (omega arith) in
    let less : first.key < row.key = subst (λ (r : VolumeRow). first.key < r.key) (get_or_from_slice_get rows k row row is) pair.0 in
    ap (λ (b : Bool). cond b (Some first) (find (λ (r : VolumeRow). nat_eq r.key row.key) rows))
    (ne_eqb first.key row.key (λ e. omega arith))
    ∙ row_of_key rows k row (λ i j d lt end. sorted (suc i) (suc j) d (omega arith) (omega arith)) is

module _ (volumes : Volumes) (row : VolumeRow) where
  -- the number of a row's key is the row's
  key_of_row : (k : ℕ) → AllPairs (λ (r s : VolumeRow). (r.key < s.key) × (r.lv < s.lv)) volumes.rows.items
      → slice_get volumes.rows.items k ≡ Some row → lv_of volumes row.key ≡ Some row.lv
  key_of_row k sorted is =
      let rows : List VolumeRow = volumes.rows.items in
      let test : VolumeRow → Bool = λ r. nat_eq r.key row.key in
      let at : slice_get rows (position_or_len test rows) ≡ Some row = sym (find_at test rows) ∙ row_of_key rows k row sorted is in
      let within : position_or_len test rows < length rows = slice_get_within rows (position_or_len test rows) row at in
      ap (λ (b : Bool). option_and_then (λ (n : ℕ). option_map (λ (r : VolumeRow). r.lv) (slice_get rows n))
      (cond b (Some (position_or_len test rows)) None)) (lt_true (position_or_len test rows) (length rows) within)
      ∙ ap (λ (o : Option VolumeRow). option_map (λ (r : VolumeRow). r.lv) o) at

  -- also where it was found by its number
  pub key_found : (lv : ℕ) → AllPairs (λ (r s : VolumeRow). (r.key < s.key) × (r.lv < s.lv)) volumes.rows.items
      → find (λ (r : VolumeRow). nat_eq r.lv lv) volumes.rows.items ≡ Some row → lv_of volumes row.key ≡ Some row.lv
  key_found lv sorted found =
      key_of_row (position_or_len (λ (r : VolumeRow). nat_eq r.lv lv) volumes.rows.items) sorted
      (sym (find_at (λ (r : VolumeRow). nat_eq r.lv lv) volumes.rows.items) ∙ found)

-- ---- places

-- each sector of a volume has its place
has_place : (group : Group) (lv x : ℕ) → IsAccepted group → x < sectors_of group lv → (at : At) × (primary group lv x ≡ Some at)
unfolding sectors_of
has_place group lv x accepted lt = by (slice_get group.lvs lv) refl lt where
  by : (o : Option (List ℕ × Lv)) → slice_get group.lvs lv ≡ o
      → x < unwrap_or (option_map (λ (v : List ℕ × Lv). extents_of v.1 * group.extent_size) o) 0
      → (at : At) × (primary group lv x ≡ Some at)
  by None is below = absurd (omega arith)
  by (Some volume) is below = primary_stands group lv x volume accepted is below

-- and so much further on in its block of eight sectors it is as much further on
place_later : (group : Group) (lv x k : ℕ) (at : At) → IsAccepted group → (x + k) / 8 ≡ x / 8 → primary group lv x ≡ Some at
    → primary group lv (x + k) ≡ Some (at_on k at)
unfolding primary
place_later group lv x k at accepted same is = down_later group 5 (on.Lv lv) x k at accepted (sym same) is

module _ (volumes : Volumes) (sizes : List ℕ) (group : Group) (row : VolumeRow) (laid : AreLaidOut volumes sizes)
    (here : volumes.group ≡ Some group) (stands : lv_of volumes row.key ≡ Some row.lv) where
  accepted : IsAccepted group
  accepted = subst (λ (o : Option Group). IfSome o IsAccepted) here laid.accepted

  placed_at : (x : ℕ) (at : At) → primary group row.lv x ≡ Some at → place_of volumes row.key x ≡ Some (on_disk volumes at)
  placed_at x at is =
      ap (λ (o : Option Group). option_and_then (λ (g : Group). option_and_then (λ (lv : ℕ). option_map (on_disk volumes) (primary g lv x))
      (lv_of volumes row.key)) o) here
      ∙ ap (λ (o : Option ℕ). option_and_then (λ (lv : ℕ). option_map (on_disk volumes) (primary group lv x)) o) stands
      ∙ ap (λ (o : Option At). option_map (on_disk volumes) o) is

  has : (x : ℕ) → x < sectors_of group row.lv → has_sector volumes row.key x ≡ true
  has x lt =
      ap (λ (o : Option Group). option_map_or (λ (g : Group). option_map_or (λ (lv : ℕ). nat_lt x (sectors_of g lv)) (lv_of volumes row.key)
      false) o false) here
      ∙ ap (λ (o : Option ℕ). option_map_or (λ (lv : ℕ). nat_lt x (sectors_of group lv)) o false) stands
      ∙ lt_true x (sectors_of group row.lv) lt

  -- a piece of a request within the volume stands on a disk
  pub piece_placed : (start count : ℕ) (write : Bool) (piece : Piece) → start + count ≤ sectors_of group row.lv
      → IsPieceOf row.key start count write piece → IsPlaced volumes sizes piece
  piece_placed start count write piece within is =
      let first : piece.first < sectors_of group row.lv = omega (arith, is.some, is.to) in
      let p = has_place group row.lv piece.first accepted first in
      let at : At = on_disk volumes p.0 in
      let each : (k : ℕ) → k < piece.count
      → place_of volumes row.key (piece.first + k) ≡ Some (record { pv = at.pv; sector = at.sector + k }) =
      (λ k lt. placed_at (piece.first + k) (at_on k p.0) (place_later group row.lv piece.first k p.0 accepted (is.block k lt) p.1)) in
      let last : ℕ = piece.count - 1 in
      let some : 0 < piece.count = omega (arith, is.some) in
      let ends =
      laid.placed row.key (piece.first + last) (record { pv = at.pv; sector = at.sector + last }) (each last (omega (arith, some))) in (
        at,
        record {
          some = some;
          inside = subst (λ (key : ℕ). has_sector volumes key piece.first ≡ true) (sym is.volume) (has piece.first first);
          each =
              subst (λ (key : ℕ). (k : ℕ) → k < piece.count
              → place_of volumes key (piece.first + k) ≡ Some (record { pv = at.pv; sector = at.sector + k })) (sym is.volume) each;
          disk = ends.0;
          within = (let e = ends.1 in omega (arith, some, e));
        },
      )
