-- What open lines have brought: it stays where a step is told or an entry is another line's, and grows where a piece of a read takes
-- place.
use Rattle.std.proofs.Common.{◌≡◌, ◌≤◌, ℕ, ◌+◌, ◌-◌, Bool, true, false, cond, ◌==◌, ◌&&◌, ◌||◌, List, [], ◌∷◌, length, Option, Some}
use Rattle.std.proofs.Common.{nat_le, nat_lt, get_or, refl, sym, ap, ◌∙◌, arith, true≢false}
use Rattle.std.specs.Option.{option_and_then}
use Rattle.std.proofs.lemmas.Bool.{and_parts, eq-eqb, leb-true}
use Rattle.sector_base.specs.declared.places.Piece.{Piece}
use Rattle.lvm_script.specs.declared.line.Line.{Line}
use Rattle.data_lines.specs.DataLines.{in_range, range_of}
use Rattle.disk_model.specs.Steps.{Step}
use Rattle.line_table.specs.Machine.{PlainState, sector_of}
use Rattle.volume_history.specs.Chronicles.{Answered, AreUpto, Begun, Changed, ChronicleEntry, Failed, GivenUp, Opened, Origin, Took}
use Rattle.volume_history.specs.Chronicles.{begun_in, origin_on, piece_covers, took_at}
use Rattle.volume_history.specs.Legal.{read_sector}
use Rattle.volume_history.specs.Replay.{plain_state}
use Rattle.volume_history.proofs.EarlierMoments.{replay_stays}
use Rattle.world_history.specs.Contents.{HasRead}

-- ---- a step is told

-- what reads gave is the same
pub reads_stay : (step : Step) (o : Origin) (es : List ChronicleEntry) (n key x : ℕ) → o.first ≤ length o.told.steps
    → AreUpto (length o.told.steps) es
    → read_sector (origin_on step o) es n key x ≡ read_sector o es n key x
reads_stay step o [] n key x first upto = refl
reads_stay step o (Begun m n' line k ∷ es) n key x first upto = reads_stay step o es n key x first upto.1
reads_stay step o (Opened m n' version ∷ es) n key x first upto = reads_stay step o es n key x first upto.1
reads_stay step o (Took m n' piece ∷ es) n key x first upto =
    by ((n' == n) && piece_covers piece key x) (reads_stay step o es n key x first upto.1)
  where
    by : (b : Bool) → read_sector (origin_on step o) es n key x ≡ read_sector o es n key x
        → cond b (sector_of (plain_state (origin_on step o) es) key x) (read_sector (origin_on step o) es n key x)
        ≡ cond b (sector_of (plain_state o es) key x) (read_sector o es n key x)
    by true older = ap (λ (s : PlainState). sector_of s key x) (replay_stays step o es first upto.1)
    by false older = older
reads_stay step o (Changed m n' version ∷ es) n key x first upto = reads_stay step o es n key x first upto.1
reads_stay step o (GivenUp m n' ∷ es) n key x first upto = reads_stay step o es n key x first upto.1
reads_stay step o (Failed m n' piece ∷ es) n key x first upto = reads_stay step o es n key x first upto.1
reads_stay step o (Answered m n' answer ∷ es) n key x first upto = reads_stay step o es n key x first upto.1

pub read_step : {o : Origin} {es : List ChronicleEntry} {n key start : ℕ} {buffer : List (List ℕ)} (step : Step)
    → o.first ≤ length o.told.steps
    → AreUpto (length o.told.steps) es
    → HasRead o es n key start buffer
    → HasRead (origin_on step o) es n key start buffer
read_step {o} {es} {n} {key} step first upto h = record {
  range = h.range;
  each = λ x took. ((h.each x took).0, (h.each x took).1 ∙ sym (reads_stay step o es n key x first upto));
}

-- ---- an entry

-- an entry that begins another line, or none, and takes no piece of this one
abbrev pub IsBeside : ChronicleEntry → ℕ → Type 0
IsBeside (Begun m n' line k) n = (n' == n) ≡ false
IsBeside (Took m n' piece) n = (n' == n) ≡ false
IsBeside e n = Unit {0}

pub read_beside : {o : Origin} {es : List ChronicleEntry} {n key start : ℕ} {buffer : List (List ℕ)} (e : ChronicleEntry) → IsBeside e n
    → HasRead o es n key start buffer
    → HasRead o (e ∷ es) n key start buffer
read_beside {o} {es} {n} {key} {start} {buffer} (Begun m n' line k) beside h = record {
  range =
      ap (λ (b : Bool). option_and_then (λ (l : Line × Option ℕ). range_of l.0.command) (cond b (Some (line, k)) (begun_in es n))) beside
      ∙ h.range;
  each = h.each;
}
read_beside (Opened m n' version) beside h = record { range = h.range; each = h.each }
read_beside {o} {es} {n} {key} {start} {buffer} (Took m n' piece) beside h = record {
  range = h.range;
  each = by (n' == n) beside;
}
  where
    by : (b : Bool) → b ≡ false → (x : ℕ) → ((b && piece_covers piece key x) || took_at es n key x) ≡ true
        → (start ≤ x)
        × (get_or buffer (x - start) []
        ≡ cond (b && piece_covers piece key x) (sector_of (plain_state o es) key x) (read_sector o es n key x))
    by true is x took = absurd (true≢false is)
    by false is x took = h.each x took
read_beside (Changed m n' version) beside h = record { range = h.range; each = h.each }
read_beside (GivenUp m n') beside h = record { range = h.range; each = h.each }
read_beside (Failed m n' piece) beside h = record { range = h.range; each = h.each }
read_beside (Answered m n' answer) beside h = record { range = h.range; each = h.each }

-- ---- a piece of the read takes place

-- of a sector that lies in the piece, or doesn't
abbrev inside : Piece → ℕ → Bool
inside piece x = in_range piece.first piece.count x

-- what is put at its place in the buffer: the piece's sectors there, and all else stays
pub record IsPut (start : ℕ) (piece : Piece) (sectors old new : List (List ℕ)) : Type 0 where
  pub length : length new ≡ length old
  pub at :
      (x : ℕ) → start ≤ x
      → get_or new (x - start) [] ≡ cond (inside piece x) (get_or sectors (x - piece.first) []) (get_or old (x - start) [])

pub read_piece : {o : Origin} {es : List ChronicleEntry} {n key start : ℕ} {buffer new : List (List ℕ)} (m : ℕ) (piece : Piece)
    (sectors : List (List ℕ))
    → piece.volume ≡ key
    → start ≤ piece.first
    → IsPut start piece sectors buffer new
    → ((x : ℕ) → inside piece x ≡ true → get_or sectors (x - piece.first) [] ≡ sector_of (plain_state o es) key x)
    → HasRead o es n key start buffer
    → HasRead o (Took m n piece ∷ es) n key start new
read_piece {o} {es} {n} {key} {start} {buffer} {new} m piece sectors own low put brought h = record {
  range = h.range ∙ ap (λ (k : ℕ). Some (start, k)) (sym put.length);
  each = λ x took. by x (n == n) (piece.volume == key) (eq-eqb n n refl) (eq-eqb piece.volume key own) took;
}
  where
    at : (x : ℕ) (b : Bool) → inside piece x ≡ b → (b || took_at es n key x) ≡ true
        → (start ≤ x) × (get_or new (x - start) [] ≡ cond b (sector_of (plain_state o es) key x) (read_sector o es n key x))
    at x true is took =
        let from : piece.first ≤ x =
        leb-true piece.first x (and_parts (nat_le piece.first x) (nat_lt x (piece.first + piece.count)) is).0 in
        let le : start ≤ x = omega (arith, low, from) in
        (le, put.at x le ∙ ap (λ (c : Bool). cond c (get_or sectors (x - piece.first) []) (get_or buffer (x - start) [])) is ∙ brought x is)
    at x false is took =
        let older = h.each x took in (
          older.0,
          put.at x older.0 ∙ ap (λ (c : Bool). cond c (get_or sectors (x - piece.first) []) (get_or buffer (x - start) [])) is ∙ older.1,
        )

    by : (x : ℕ) (p q : Bool) → p ≡ true → q ≡ true → ((p && (q && inside piece x)) || took_at es n key x) ≡ true
        → (start ≤ x)
        × (get_or new (x - start) []
        ≡ cond (p && (q && inside piece x)) (sector_of (plain_state o es) key x) (read_sector o es n key x))
    by x true true is its took = at x (inside piece x) refl took
    by x false q is its took = absurd (true≢false (sym is))
    by x true false is its took = absurd (true≢false (sym its))
