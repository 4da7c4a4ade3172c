-- An operation of a piece has completed: whose it was, and that the settling of it keeps all other pieces in flight.
use Rattle.std.proofs.Common.{◌-◌, ◌∙◌, ◌≡◌, ℕ, Bool, Contains, List, None, Option, Some, ap, cond, eq-eqb, false, is_some, nat_eq}
use Rattle.std.proofs.Common.{option_map, refl, slice_get, sym, true, true≢false, unwrap_or}
use Rattle.std.specs.Option.{option_map_or}
use Rattle.std.proofs.lemmas.Bool.{cond_both, eqb-true}
use Rattle.std.proofs.lemmas.List.Elements.{All-contains}
use Rattle.std.proofs.lemmas.Option.{none-some, same_Some}
use Rattle.line_answers.specs.declared.answer.Answer.{Answer}
use Rattle.lvm_script.specs.declared.line.Line.{Line}
use Rattle.disk_model.specs.Operations.{work_of}
use Rattle.disk_model.specs.State.{State}
use Rattle.disk_model.specs.Steps.{Flushing, Reading, Record, Work as DiskWork, Writing}
use Rattle.disk_model.specs.declared.ops.Done.{Done}
use Rattle.disk_model.specs.declared.ops.Op.TheVariants.{Flush as FlushOp}
use Rattle.flush_plan.specs.Plans.{marks_of}
use Rattle.piece_table.specs.Pieces.{flying_at, live_at, owner_at}
use Rattle.piece_table.specs.Steps.{live_of, no_live, with_flying, without_ticket}
use Rattle.piece_table.specs.declared.live.LivePiece.{LivePiece}
use Rattle.piece_table.specs.declared.live.Owner.{Owner}
use Rattle.piece_table.specs.declared.live.Stage.TheVariants.{Taken}
use Rattle.volume_history.specs.Chronicles.{ChronicleEntry, is_answered}
use Rattle.world_acts.specs.Acts.{Allowed, Ends, Fails, Reads, World, Writes, after, piece_at}
use Rattle.world_acts.specs.Orderly.{IsOrderly}
use Rattle.world_acts.specs.Owners.{line_of, values_of}
use Rattle.world_acts.specs.Steps.{after_leaves, after_stays, after_written}
use Rattle.world_acts.specs.Volumes.{span_of}
use Rattle.world_acts.specs.declared.state.Core.{Core}
use Rattle.world_acts.proofs.Orderly.{orderly_after}
use Rattle.world_acts.proofs.Tables.{AreSingle, Changes, none_counted, own_at, removed}
use Rattle.world_history.specs.Told.{IsTold as HasEntries, none_coming}
use Rattle.world_history.proofs.Contents.EndedPiece.{EndedPiece, ended_piece}
use Rattle.world_tracks.specs.Lives.{lives_in}
use Rattle.world_tracks.proofs.ActWaits.{HasFree, stage_change, started, ticket_change}
use Rattle.world_tracks.proofs.LivesLess.{without}
use Rattle.world_tracks.proofs.LivesStay.{lives_same, seen_of}
use Rattle.world_tracks.proofs.OpenLines.{open_unanswered}

-- ---- the other pieces

-- all but the piece with this number stay, with their lines and volumes
pub record KeepsOthers (number : ℕ) (c d : Core) : Type 0 where
  pub volumes : d.volumes ≡ c.volumes
  pub begun : d.lines.begun ≡ c.lines.begun
  pub owners : d.pieces.owners ≡ c.pieces.owners
  pub lives : (k : ℕ) → nat_eq number k ≡ false → live_at d.pieces.lives k ≡ live_at c.pieces.lives k

-- one change keeps the others
others : {number : ℕ} {old new : Option LivePiece} {es fs : List (ℕ × LivePiece)} → Changes number old new es fs → (k : ℕ)
    → nat_eq number k ≡ false → live_at fs k ≡ live_at es k
others {number} {old} {new} {es} {fs} c k is = c.found k ∙ ap (λ (b : Bool). cond b new (live_at es k)) is

-- the piece fails, or its read takes place
pub keeps_fails : (v : World) (number : ℕ) (why : Answer) → IsOrderly v → Allowed v (Fails number why)
    → KeepsOthers number v.core (after v (Fails number why)).core
keeps_fails v number why o may =
    let x : HasFree v number = started v number o may.0 in
    let one = ticket_change v.core.pieces number x.piece.live o.tidy.pieces.single x.piece.at in
    record {
      volumes = refl;
      begun = refl;
      owners = refl;
      lives =
          λ k is. others (removed (without_ticket v.core.pieces number).lives number (record x.piece.live { ticket = None }) one.single
          (own_at one)) k is
          ∙ others one k is;
    }

pub keeps_reads : (v : World) (number : ℕ) (sectors : List (List ℕ)) → IsOrderly v → Allowed v (Reads number sectors)
    → KeepsOthers number v.core (after v (Reads number sectors)).core
keeps_reads v number sectors o may =
    let x : HasFree v number = started v number o may.0 in
    record {
      volumes = refl;
      begun = refl;
      owners = refl;
      lives = λ k is. others (removed v.core.pieces.lives number x.piece.live o.tidy.pieces.single x.piece.at) k is;
    }

-- or its write does: it stays, or leaves
pub keeps_writes : (v : World) (number pv : ℕ) → IsOrderly v → Allowed v (Writes number pv)
    → KeepsOthers number v.core (after v (Writes number pv)).core
keeps_writes v number pv o may =
    cond_both (is_some (live_of v.core.pieces number).ticket) (after_stays d number pv (marks_of d.waits.plan pv).written)
    (after_leaves d number pv) (λ (k : Core). KeepsOthers number v.core k) (λ is. stays) (λ is. leaves)
  where
    d : Core
    d = after_written v.core number pv v.shelf.steps

    x : HasFree v number
    x = started v number o may.0

    stays : KeepsOthers number v.core (after_stays (after_written v.core number pv v.shelf.steps) number pv
        (marks_of (after_written v.core number pv v.shelf.steps).waits.plan pv).written)
    stays =
        let one = ticket_change v.core.pieces number x.piece.live o.tidy.pieces.single x.piece.at in
        let two =
        stage_change (without_ticket v.core.pieces number) number (record x.piece.live { ticket = None }) (Taken 1) one.single
        (own_at one) in
        record {
          volumes = refl;
          begun = refl;
          owners = refl;
          lives = λ k is. others two k is ∙ others one k is;
        }

    leaves : KeepsOthers number v.core (after_leaves (after_written v.core number pv v.shelf.steps) number pv)
    leaves = record {
      volumes = refl;
      begun = refl;
      owners = refl;
      lives = λ k is. others (removed v.core.pieces.lives number x.piece.live o.tidy.pieces.single x.piece.at) k is;
    }

-- ---- whose it was

-- the operation of this tag was of the piece with this number
pub record EndedBy (w : World) (es : List ChronicleEntry) (told : Record) (done : Done) (now : State) (number : ℕ) : Type 0 where
  pub owner : Owner
  pub its : owner.piece ≡ number
  pub at : owner_at w.core.pieces.owners done.tag ≡ Some owner
  pub piece : EndedPiece w es (work_of done.op) number
  pub there : live_at w.core.pieces.lives owner.piece ≡ Some piece.live
  pub unanswered : is_answered es piece.live.line ≡ false
  pub single : AreSingle w.core.pieces.owners

-- it is so known
owned_by : (number : ℕ) (o : Option Owner) → Some number ≡ option_map (λ (x : Owner). x.piece) o
    → (owner : Owner) × ((owner.piece ≡ number) × (o ≡ Some owner))
owned_by number None whose = absurd (none-some number (sym whose))
owned_by number (Some owner) whose = (owner, (sym (same_Some number owner.piece whose), refl))

module _ (start : ℕ) {w : World} {es : List ChronicleEntry} (o : IsOrderly w) (t : HasEntries start none_coming w es) (told : Record)
    (done : Done) (now : State) (may : Allowed w (Ends done now)) (number : ℕ)
    (whose : Some number ≡ option_map (λ (x : Owner). x.piece) (owner_at w.core.pieces.owners done.tag)) where
  pub ended_by : EndedBy w es told done now number
  ended_by =
      let own = owned_by number (owner_at w.core.pieces.owners done.tag) whose in
      let e : EndedPiece w es (work_of done.op) number = ended_piece o t done now may.0 number whose in
      record {
        owner = own.0;
        its = own.1.0;
        at = own.1.1;
        piece = e;
        there = ap (λ (n : ℕ). live_at w.core.pieces.lives n) own.1.0 ∙ e.at;
        unanswered = open_unanswered o t e.live.line e.opened e.is_open;
        single = o.tidy.owners.single;
      }

-- ---- what is in flight then

module _ {w : World} {es : List ChronicleEntry} {told : Record} {done : Done} {now : State} {number : ℕ} (o : IsOrderly w)
    (may : Allowed w (Ends done now)) (x : EndedBy w es told done now number) where
  abbrev w1 : World
  w1 = after w (Ends done now)

  its_number : piece_at w.core done.tag ≡ number
  its_number = ap (λ (y : Option Owner). option_map_or (λ (z : Owner). z.piece) y 0) x.at ∙ x.its

  -- the completion keeps all other pieces
  kept : (k : ℕ) → nat_eq number k ≡ false → live_at w1.core.pieces.lives k ≡ live_at w.core.pieces.lives k
  kept k is =
      let n : ℕ = piece_at w.core done.tag in
      others (stage_change w.core.pieces n x.piece.live (with_flying (live_of w.core.pieces n).stage (λ f. f - 1)) o.tidy.pieces.single
      (ap (λ (m : ℕ). live_at w.core.pieces.lives m) its_number ∙ x.piece.at)) k (ap (λ (m : ℕ). nat_eq m k) its_number ∙ is)

  -- and the piece keeps its line and its sectors
  pub live_ended : live_of (after w (Ends done now)).core.pieces number
      ≡ record x.piece.live { stage = with_flying (live_of w.core.pieces (piece_at w.core done.tag)).stage (λ f. f - 1) }
  live_ended =
      let n : ℕ = piece_at w.core done.tag in
      ap (λ (m : ℕ). live_of w1.core.pieces m) (sym its_number)
      ∙ ap (λ (l : Option LivePiece). unwrap_or l no_live)
      (own_at (stage_change w.core.pieces n x.piece.live (with_flying (live_of w.core.pieces n).stage (λ f. f - 1)) o.tidy.pieces.single
      (ap (λ (m : ℕ). live_at w.core.pieces.lives m) its_number ∙ x.piece.at)))

  -- it was no flush
  pub no_flush : (pv : ℕ) → done.op ≡ FlushOp pv → ⊥
  no_flush pv op =
      let live : LivePiece = x.piece.live in
      cond_both live.piece.write (Writing (span_of w.core.volumes live.piece) (values_of (line_of w.core live) live.piece))
      (Reading (span_of w.core.volumes live.piece)) (λ (k : DiskWork). Flushing pv ≡ k → ⊥)
      (λ writes same. true≢false (ap flushes same)) (λ reads same. true≢false (ap flushes same)) (sym (ap work_of op) ∙ x.piece.did)
    where
      flushes : DiskWork → Bool
      flushes (Flushing pv) = true
      flushes k = false

  -- no operation that is left is of the piece
  none_left : flying_at w1.core.pieces number ≡ 0 → (tag : ℕ) (owner : Owner)
      → Contains (without done.tag w.core.pieces.owners) (tag, owner) → nat_eq number owner.piece ≡ false
  none_left none tag owner has = by (nat_eq number owner.piece) refl
    where
      o1 : IsOrderly (after w (Ends done now))
      o1 = orderly_after w (Ends done now) o may

      other : nat_eq owner.piece number ≡ false
      other =
          All-contains (λ (e : ℕ × Owner). nat_eq e.1.piece number ≡ false) (without done.tag w.core.pieces.owners) (tag, owner)
          (none_counted (λ (e : ℕ × Owner). nat_eq e.1.piece number) (without done.tag w.core.pieces.owners)
          (sym (o1.tidy.owners.flying number) ∙ none)) has

      by : (b : Bool) → nat_eq number owner.piece ≡ b → b ≡ false
      by true is = absurd (true≢false (sym (eq-eqb owner.piece number (sym (eqb-true number owner.piece is))) ∙ other))
      by false is = refl

  -- so the others are what is in flight, once it is settled
  pub lives_settled : (d : Core) → KeepsOthers number (after w (Ends done now)).core d
      → flying_at (after w (Ends done now)).core.pieces number ≡ 0
      → lives_in d d.pieces.owners ≡ lives_in w.core (without done.tag w.core.pieces.owners)
  lives_settled d keeps none =
      ap (λ (os : List (ℕ × Owner)). lives_in d os) keeps.owners
      ∙ lives_same w.core d (without done.tag w.core.pieces.owners) keeps.volumes
      (λ tag owner owned.
      let other = none_left none tag owner owned in
      ap (λ (l : Option LivePiece). seen_of l) (keeps.lives owner.piece other ∙ kept owner.piece other))
      (λ tag owner l owned at. ap (λ (ls : List Line). slice_get ls l.line) keeps.begun)
