-- Memory that is taken makes more spare, and changes nothing else.
use Rattle.std.proofs.Common.{◌≡◌, ◌≤◌, ℕ, ◌+◌, max, refl, sym, ap, subst, ◌∙◌, arith}
use Rattle.std.specs.Prelude.{length}
use Rattle.disk_model.specs.Calls.{Reserves}
use Rattle.disk_model.specs.State.{IsLawful, State}
use Rattle.line_table.specs.Steps.{Lines}
use Rattle.flush_waits.specs.Waits.{Waits}
use Rattle.flush_waits.specs.Steps as waits_steps
use Rattle.piece_table.specs.Pieces.{Pieces}
use Rattle.piece_table.specs.Steps as piece_steps
use Rattle.world_acts.specs.declared.room.Room.{Room}
use Rattle.world_acts.specs.declared.state.Core.{Core}
use Rattle.world_acts.specs.Acts.{IsGrown, World, world}
use Rattle.world_acts.specs.OpenLines.{Opens}
use Rattle.world_acts.specs.Rooms.{IsCounted, more}
use Rattle.line_plans.specs.declared.preparing.Plan.{Plan}
use Rattle.line_plans.specs.Plans.{HasRoomFor, HasTables, plan_room}

-- ---- each table

pub record LinesGrow (old new : Lines) : Type 0 where
  pub same : new ≡ record old { spare_lines = new.spare_lines; spare_entries = new.spare_entries }
  pub lines : old.spare_lines ≤ new.spare_lines
  pub entries : old.spare_entries ≤ new.spare_entries

pub record OpensGrow (old new : Opens) : Type 0 where
  pub same : new ≡ record old { spare = new.spare }
  pub spare : old.spare ≤ new.spare

pub record WaitsGrow (old new : Waits) : Type 0 where
  pub same : new ≡ record old { plan = record old.plan { spare = new.plan.spare }; room = new.room }
  pub writes : old.plan.spare ≤ new.plan.spare
  pub room : old.room ≤ new.room

pub record PiecesGrow (old new : Pieces) : Type 0 where
  pub same : new ≡ record old { claims = record old.claims { spare = new.claims.spare }; spare_ops = new.spare_ops }
  pub claims : old.claims.spare ≤ new.claims.spare
  pub owners : old.spare_ops ≤ new.spare_ops

pub opens_none : (old new : Opens) → new ≡ old → OpensGrow old new
opens_none old new is = subst (OpensGrow old) (sym is) (record { same = refl; spare = omega arith })

pub lines_none : (old new : Lines) → new ≡ old → LinesGrow old new
lines_none old new is = subst (LinesGrow old) (sym is) (record { same = refl; lines = omega arith; entries = omega arith })

pub waits_none : (old new : Waits) → new ≡ old → WaitsGrow old new
waits_none old new is = subst (WaitsGrow old) (sym is) (record { same = refl; writes = omega arith; room = omega arith })

pub pieces_none : (old new : Pieces) → new ≡ old → PiecesGrow old new
pieces_none old new is = subst (PiecesGrow old) (sym is) (record { same = refl; claims = omega arith; owners = omega arith })

abbrev more_opens : Opens → Opens
more_opens old = record old { spare = max 1 old.spare }

abbrev more_lines : Lines → ℕ → Lines
more_lines old entries = record old { spare_lines = max 1 old.spare_lines; spare_entries = max entries old.spare_entries }

pub opens_more : (old new : Opens) → new ≡ more_opens old → OpensGrow old new
opens_more old new is = subst (OpensGrow old) (sym is) (record { same = refl; spare = omega arith })

pub lines_more : (old new : Lines) (entries : ℕ) → new ≡ more_lines old entries → LinesGrow old new
lines_more old new entries is = subst (LinesGrow old) (sym is) (record { same = refl; lines = omega arith; entries = omega arith })

pub waits_more : (old new : Waits) (writes room : ℕ) → new ≡ waits_steps.after_reserve old writes room → WaitsGrow old new
waits_more old new writes room is = subst (WaitsGrow old) (sym is) (record { same = refl; writes = omega arith; room = omega arith })

pub pieces_more : (old new : Pieces) (pieces ops : ℕ) → new ≡ piece_steps.after_reserve old pieces ops → PiecesGrow old new
pieces_more old new pieces ops is = subst (PiecesGrow old) (sym is) (record { same = refl; claims = omega arith; owners = omega arith })

-- ---- all of them

abbrev with_tables : Core → Opens → Lines → Waits → Pieces → Core
with_tables c opens lines waits pieces = record c { opens = opens; lines = lines; waits = waits; pieces = pieces }

pub tables_grow : (shelf : State) (c : Core) (opens : Opens) (lines : Lines) (waits : Waits) (pieces : Pieces) → IsLawful shelf
    → OpensGrow c.opens opens → LinesGrow c.lines lines → WaitsGrow c.waits waits → PiecesGrow c.pieces pieces
    → IsGrown (world shelf c) (world shelf (with_tables c opens lines waits pieces))
tables_grow shelf c opens lines waits pieces lawful o l w p = record {
  lawful = lawful;
  shelf = refl;
  core = λ i. record c { opens = o.same i; lines = l.same i; waits = w.same i; pieces = p.same i };
  ops = omega arith;
  sectors = omega arith;
  lines = l.lines;
  entries = l.entries;
  opens = o.spare;
  claims = p.claims;
  owners = p.owners;
  writes = w.writes;
  waits = w.room;
}

-- and they have room then
pub tables_have : (c : Core) (opens : Opens) (lines : Lines) (waits : Waits) (pieces : Pieces) (count entries : ℕ) (room : Room)
    → entries ≡ room.entries + 1 → opens ≡ more_opens c.opens → lines ≡ more_lines c.lines entries
    → waits ≡ waits_steps.after_reserve c.waits room.writes room.waits → pieces ≡ piece_steps.after_reserve c.pieces count room.ops
    → HasTables (with_tables c opens lines waits pieces) count room
tables_have c opens lines waits pieces count entries room is o l w p =
    let writes : waits.plan.spare ≡ max room.writes c.waits.plan.spare = ap (λ (x : Waits). x.plan.spare) w in
    let more : waits.room ≡ max room.waits c.waits.room = ap (λ (x : Waits). x.room) w in
    let kept : lines.spare_entries ≡ max entries c.lines.spare_entries = ap (λ (x : Lines). x.spare_entries) l in
    let begun : lines.spare_lines ≡ max 1 c.lines.spare_lines = ap (λ (x : Lines). x.spare_lines) l in
    let open_lines : opens.spare ≡ max 1 c.opens.spare = ap (λ (x : Opens). x.spare) o in
    let claims : pieces.claims.spare ≡ max count c.pieces.claims.spare = ap (λ (x : Pieces). x.claims.spare) p in
    let ops : pieces.spare_ops ≡ max room.ops c.pieces.spare_ops = ap (λ (x : Pieces). x.spare_ops) p in
    record {
      writes = omega arith;
      waits = omega arith;
      entries = omega arith;
      owners = omega arith;
      lines = omega arith;
      opens = omega arith;
      claims = omega arith;
    }

-- ---- the shelf

pub shelf_grown : (w : World) (now : State) (ops sectors : ℕ) → IsLawful now → Reserves w.shelf ops sectors now
    → IsGrown w (record w { shelf = now })
shelf_grown w now ops sectors lawful r = record {
  lawful = lawful;
  shelf = r.same;
  core = refl;
  ops = r.more_ops;
  sectors = r.more_sectors;
  lines = omega arith;
  entries = omega arith;
  opens = omega arith;
  claims = omega arith;
  owners = omega arith;
  writes = omega arith;
  waits = omega arith;
}

-- what is owed stays
pub owed_stays : (w v : World) → IsGrown w v → v.core.owed ≡ w.core.owed
owed_stays w v g = ap (λ (c : Core). c.owed) g.core

-- there is room for the plan
pub has_room : (old : World) (now : World) (plan : Plan) (room : Room) (ops sectors : ℕ) (shelf : State) → IsGrown old now
    → room ≡ more old.core.owed (plan_room plan) → IsCounted room → HasTables now.core (length plan.pieces.items) room
    → Reserves shelf ops sectors now.shelf → ops ≡ room.ops → sectors ≡ room.sectors → HasRoomFor now plan
has_room old now plan room ops sectors shelf g is counted tables reserves of_ops of_sectors =
    let all : more now.core.owed (plan_room plan) ≡ room = ap (λ (r : Room). more r (plan_room plan)) (owed_stays old now g) ∙ sym is in
    let o : (more now.core.owed (plan_room plan)).ops ≡ room.ops = ap (λ (r : Room). r.ops) all in
    let s : (more now.core.owed (plan_room plan)).sectors ≡ room.sectors = ap (λ (r : Room). r.sectors) all in
    let w : (more now.core.owed (plan_room plan)).writes ≡ room.writes = ap (λ (r : Room). r.writes) all in
    let t : (more now.core.owed (plan_room plan)).waits ≡ room.waits = ap (λ (r : Room). r.waits) all in
    let e : (more now.core.owed (plan_room plan)).entries ≡ room.entries = ap (λ (r : Room). r.entries) all in
    record {
      borne = record {
        counted = subst IsCounted (sym all) counted;
        ops = omega (arith, o, of_ops, reserves.ops);
        sectors = omega (arith, s, of_sectors, reserves.sectors);
        writes = omega (arith, w, tables.writes);
        waits = omega (arith, t, tables.waits);
        entries = omega (arith, e, tables.entries);
        owners = omega (arith, o, tables.owners);
      };
      lines = tables.lines;
      begun = omega (arith, e, tables.entries);
      opens = tables.opens;
      claims = tables.claims;
    }
