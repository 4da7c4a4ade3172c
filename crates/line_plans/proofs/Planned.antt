-- That what a line is cut into is its plan.
use Rattle.std.proofs.Common.{◌≡◌, ◌<◌, ◌≤◌, ℕ, ◌+◌, ◌^◌, Bool, true, false, List, [], ◌∷◌, length, get_or, map, Option, Some, None, inl}
use Rattle.std.proofs.Common.{inr, refl, sym, ap, subst, ◌∙◌, arith}
use Rattle.std.specs.Prelude.{All, Contains, IfSome, is_some, replicate}
use Rattle.std.specs.Option.{option_and_then, option_map_or}
use Rattle.std.proofs.lemmas.Bool.{false≢true}
use Rattle.std.proofs.lemmas.List.{length-replicate}
use Rattle.std.proofs.lemmas.List.FromFn.{length-map-range_with_len}
use Rattle.std.proofs.lemmas.List.Elements.{Contains-get_or}
use Rattle.sector_base.specs.declared.places.Piece.{Piece}
use Rattle.command_table.specs.declared.command.Command.{Command}
use Rattle.command_table.specs.declared.command.Command.TheVariants as verb
use Rattle.command_table.specs.declared.command.Path.{Path}
use Rattle.line_answers.specs.declared.answer.Answer.TheVariants as answer
use Rattle.line_answers.specs.declared.op_refusal.OpRefusal.{OpRefusal}
use Rattle.lvm_script.specs.declared.line.Line.{Line}
use Rattle.data_lines.specs.DataLines.{is_flush, is_through, range_of, value_for, volume_named, writes, zero_sector}
use Rattle.meta_model.specs.declared.group.Group.{Group}
use Rattle.volume_rules.specs.Rules.{IsAccepted}
use Rattle.list_laws.proofs.Members.{In, has_member, in_list}
use Rattle.seg_place.specs.Sectors.{sectors_of}
use Rattle.piece_split.specs.Laws.{PiecesAreCut, PiecesAreOfRequest, PiecesCoverRequest}
use Rattle.piece_split.specs.Pieces.{pieces_of}
use Rattle.group_plan.specs.Judging.{IsRefusedBy, first_refusal}
use Rattle.group_plan.specs.declared.refusal.PlanRefusal.{PlanRefusal}
use Rattle.group_plan.specs.declared.refusal.PlanRefusal.TheVariants.{NoMemory, Refused}
use Rattle.world_acts.specs.declared.open_line.OpenLine.{OpenLine}
use Rattle.world_acts.specs.declared.open_line.Work.{Work}
use Rattle.world_acts.specs.declared.open_line.Work.TheVariants.{Read, Whole, Write}
use Rattle.world_acts.specs.declared.state.Core.{Core}
use Rattle.world_acts.specs.declared.volumes.VolumeRow.{VolumeRow}
use Rattle.world_acts.specs.declared.volumes.Volumes.{Volumes}
use Rattle.world_acts.specs.OpenLines.{is_whole}
use Rattle.world_acts.specs.Volumes.{AreLaidOut, IsPlaced, lv_of}
use Rattle.line_plans.specs.declared.preparing.NewPiece.{NewPiece}
use Rattle.line_plans.specs.declared.preparing.Plan.{Plan}
use Rattle.line_plans.specs.Judging.{IsFoundIn, number_on, refusal_of, rows_on}
use Rattle.line_plans.specs.Plans.{AreForDisks, IsAlone, IsBroughtBy, IsCut, IsFlushing, IsPlanFor, IsPlanned, IsReadInto, IsRefusal}
use Rattle.line_plans.specs.Plans.{MayBeOf}
use Rattle.line_plans.specs.Plans.{key_for, key_of, opened_for, opened_on, opened_refused, pieces_for, work_for}
use Rattle.line_plans.proofs.Judged.{few_sectors}
use Rattle.line_plans.proofs.PlacedPieces.{IsPieceOf, key_found, piece_of, piece_placed}

none_of : {X : Type 0} (P : X → Type 0) (xs : List X) → xs ≡ [] → All P xs
none_of P xs none k d lt = absurd (let long : length xs ≡ 0 = ap length none in omega arith)

in_mapped : (news : List NewPiece) (new : NewPiece) → In news new → In (map (λ (n : NewPiece). n.piece) news) new.piece
in_mapped [] new among = absurd among
in_mapped (first ∷ news) new (inl same) = inl (ap (λ (n : NewPiece). n.piece) same)
in_mapped (first ∷ news) new (inr later) = inr (in_mapped news new later)

-- ---- lines without pieces

pub alone_planned : (volumes : Volumes) (sizes : List ℕ) (line : Line) (plan : Plan) (opened : OpenLine)
    → opened ≡ opened_for volumes line.command
    → pieces_for volumes line.command ≡ []
    → (is_flush line.command ≡ true → (is_whole opened.work ≡ true) × (is_some opened.failure ≡ true))
    → IsAlone opened plan → IsPlanned volumes sizes line plan
alone_planned volumes sizes line plan opened is none refused alone = record {
  opened = alone.opened ∙ is;
  cut = ap (map (λ (new : NewPiece). new.piece)) alone.pieces ∙ sym none;
  pieces = none_of (MayBeOf volumes sizes plan.opened (Some line)) plan.pieces.items alone.pieces;
  tickets = inl (record {
    none = ap length alone.tickets;
    refused = (λ flush. subst (λ (o : OpenLine). (is_whole o.work ≡ true) × (is_some o.failure ≡ true)) (sym alone.opened) (refused flush));
  });
}

-- a list of the volumes, and a wait for all others
pub whole_planned : (core : Core) (line : Line) (plan : Plan) (command : Command) → line.command ≡ command → volume_named command ≡ None
    → IsAlone (opened_on 0 (work_for core.volumes command)) plan → IsPlanFor core line plan
whole_planned core line plan command is none alone sizes laid disks =
    let volumes : Volumes = core.volumes in
    let free : refusal_of volumes.group command ≡ None =
    ap (option_and_then (λ (path : Path). first_refusal (rows_on volumes.group path (writes command) (range_of command)))) none in
    let key : key_for volumes command ≡ 0 =
    ap (λ (o : Option Path). option_map_or (key_of volumes) (option_and_then (number_on volumes.group) o) 0) none in
    let opened : opened_for volumes command ≡ opened_on 0 (work_for volumes command) =
    ap (λ (o : Option OpRefusal). option_map_or (opened_refused (key_for volumes command)) o
    (opened_on (key_for volumes command) (work_for volumes command))) free
    ∙ ap (λ (k : ℕ). opened_on k (work_for volumes command)) key in
    let range : range_of command ≡ None = no_range command none in
    let pieces : pieces_for volumes command ≡ [] =
    ap (λ (o : Option OpRefusal). option_map_or (λ (refusal : OpRefusal). []) o
    (option_map_or (λ (r : ℕ × ℕ). pieces_of (key_for volumes command) r.0 r.1 (writes command)) (range_of command) [])) free
    ∙ ap (λ (o : Option (ℕ × ℕ)). option_map_or (λ (r : ℕ × ℕ). pieces_of (key_for volumes command) r.0 r.1 (writes command)) o []) range in
    alone_planned volumes sizes line plan (opened_on 0 (work_for volumes command))
    (sym (ap (opened_for volumes) is ∙ opened)) (ap (pieces_for volumes) is ∙ pieces)
    (λ flush. absurd (no_flush command none (sym (ap is_flush is) ∙ flush))) alone
  where
    no_flush : (c : Command) → volume_named c ≡ None → is_flush c ≡ true → ⊥
    no_flush (verb.Flush path) named flush = cc
    no_flush c named flush = false≢true flush

    no_range : (c : Command) → volume_named c ≡ None → range_of c ≡ None
    no_range (verb.Read path start count) named = absurd cc
    no_range (verb.Fill path start count value through) named = absurd cc
    no_range (verb.Write path start hex through) named = absurd cc
    no_range c named = refl

-- ---- lines that are judged

-- what is known of a line on a path with these sectors
pub record Names (command : Command) (path : Path) (range : Option (ℕ × ℕ)) (writing : Bool) : Type 0 where
  pub volume : volume_named command ≡ Some path
  pub sectors : range_of command ≡ range
  pub kind : writes command ≡ writing

module _ (volumes : Volumes) (command : Command) (path : Path) (range : Option (ℕ × ℕ)) (writing : Bool)
    (names : Names command path range writing) where
  same_refusal : refusal_of volumes.group command ≡ first_refusal (rows_on volumes.group path writing range)
  same_refusal =
      ap (option_and_then (λ (p : Path). first_refusal (rows_on volumes.group p (writes command) (range_of command)))) names.volume
      ∙ ap (λ (b : Bool). first_refusal (rows_on volumes.group path b (range_of command))) names.kind
      ∙ ap (λ (r : Option (ℕ × ℕ)). first_refusal (rows_on volumes.group path writing r)) names.sectors

  key_path : key_for volumes command ≡ option_map_or (key_of volumes) (number_on volumes.group path) 0
  key_path = ap (λ (o : Option Path). option_map_or (key_of volumes) (option_and_then (number_on volumes.group) o) 0) names.volume

  -- it is refused
  pub refused_planned : (core : Core) (line : Line) (plan : Plan) (why : PlanRefusal) → core.volumes ≡ volumes → line.command ≡ command
      → IsRefusedBy (first_refusal (rows_on volumes.group path writing range)) why
      → IsRefusal (option_map_or (key_of volumes) (number_on volumes.group path) 0) why plan → IsPlanFor core line plan
  refused_planned core line plan NoMemory same is refuses made sizes laid disks = absurd made
  refused_planned core line plan (Refused refusal) same is refuses made sizes laid disks =
      let why : refusal_of volumes.group command ≡ Some refusal = same_refusal ∙ refuses in
      subst (λ (v : Volumes). IsPlanned v sizes line plan) (sym same)
      (alone_planned volumes sizes line plan
      (opened_refused (option_map_or (key_of volumes) (number_on volumes.group path) 0) refusal)
      (sym (ap (opened_for volumes) is
      ∙ ap (λ (o : Option OpRefusal). option_map_or (opened_refused (key_for volumes command)) o
      (opened_on (key_for volumes command) (work_for volumes command))) why
      ∙ ap (λ (k : ℕ). opened_refused k refusal) key_path))
      (ap (pieces_for volumes) is
      ∙ ap (λ (o : Option OpRefusal). option_map_or (λ (refusal : OpRefusal). []) o
      (option_map_or (λ (r : ℕ × ℕ). pieces_of (key_for volumes command) r.0 r.1 (writes command)) (range_of command) [])) why)
      (λ flush. (refl, refl)) made)

  module _ (row : VolumeRow) (none : first_refusal (rows_on volumes.group path writing range) ≡ None)
      (found : IsFoundIn volumes path range row) where
    free : refusal_of volumes.group command ≡ None
    free = same_refusal ∙ none

    key_is : key_for volumes command ≡ row.key
    key_is =
        key_path
        ∙ ap (λ (o : Option ℕ). option_map_or (key_of volumes) o 0) found.number
        ∙ ap (λ (o : Option VolumeRow). option_map_or (λ (r : VolumeRow). r.key) o 0) found.listed

    opened_is : opened_for volumes command ≡ opened_on row.key (work_for volumes command)
    opened_is =
        ap (λ (o : Option OpRefusal). option_map_or (opened_refused (key_for volumes command)) o
        (opened_on (key_for volumes command) (work_for volumes command))) free
        ∙ ap (λ (k : ℕ). opened_on k (work_for volumes command)) key_is

    pieces_are : pieces_for volumes command
        ≡ option_map_or (λ (r : ℕ × ℕ). pieces_of row.key r.0 r.1 writing) range []
    pieces_are =
        ap (λ (o : Option OpRefusal). option_map_or (λ (refusal : OpRefusal). []) o
        (option_map_or (λ (r : ℕ × ℕ). pieces_of (key_for volumes command) r.0 r.1 (writes command)) (range_of command) [])) free
        ∙ ap (λ (k : ℕ). option_map_or (λ (r : ℕ × ℕ). pieces_of k r.0 r.1 (writes command)) (range_of command) []) key_is
        ∙ ap (λ (b : Bool). option_map_or (λ (r : ℕ × ℕ). pieces_of row.key r.0 r.1 b) (range_of command) []) names.kind
        ∙ ap (λ (o : Option (ℕ × ℕ)). option_map_or (λ (r : ℕ × ℕ). pieces_of row.key r.0 r.1 writing) o []) names.sectors

    -- there is a group
    has_group : (group : Group) × (volumes.group ≡ Some group)
    has_group = by volumes.group refl found.number where
      by : (o : Option Group) → volumes.group ≡ o → number_on o path ≡ Some row.lv → (group : Group) × (volumes.group ≡ Some group)
      by None here number = absurd cc
      by (Some group) here number = (group, here)

    stands : (sizes : List ℕ) → AreLaidOut volumes sizes → lv_of volumes row.key ≡ Some row.lv
    stands sizes laid = key_found volumes row row.lv laid.sorted found.listed

    -- it flushes its volume
    pub flush_planned : (core : Core) (line : Line) (plan : Plan) → core.volumes ≡ volumes → line.command ≡ command
        → is_flush command ≡ true → range ≡ None
        → work_for volumes command ≡ Whole answer.Fine → IsFlushing row.key (length core.waits.disks) plan → IsPlanFor core line plan
    flush_planned core line plan same is flushes no_range work made sizes laid disks =
        let opened : plan.opened ≡ opened_for volumes command = made.opened ∙ sym (opened_is ∙ ap (opened_on row.key) work) in
        subst (λ (v : Volumes). IsPlanned v sizes line plan) (sym same) (record {
          opened = opened ∙ sym (ap (opened_for volumes) is);
          cut =
              ap (map (λ (new : NewPiece). new.piece)) made.pieces
              ∙ sym (ap (pieces_for volumes) is ∙ pieces_are
              ∙ ap (λ (o : Option (ℕ × ℕ)). option_map_or (λ (r : ℕ × ℕ). pieces_of row.key r.0 r.1 writing) o []) no_range);
          pieces = none_of (MayBeOf volumes sizes plan.opened (Some line)) plan.pieces.items made.pieces;
          tickets = inr (subst (λ (o : OpenLine). AreForDisks volumes sizes o (Some line) (length plan.tickets.items))
              (sym made.opened) (record {
                many = made.tickets ∙ disks;
                whole = refl;
                flushes = ap is_flush is ∙ flushes;
                well = refl;
                stands = ap (λ (o : Option ℕ). is_some o) (stands sizes (subst (λ (v : Volumes). AreLaidOut v sizes) same laid));
              }));
        })

    module _ (start count : ℕ) (sectors : range ≡ Some (start, count)) where
      inside : (group : Group) → volumes.group ≡ Some group → start + count ≤ sectors_of group row.lv
      inside group here =
          subst (λ (o : Option Group). IfSome o (λ (g : Group). start + count ≤ sectors_of g row.lv)) here
          (subst (λ (o : Option (ℕ × ℕ)). IfSome o (λ (r : ℕ × ℕ). IfSome volumes.group (λ (g : Group). r.0 + r.1 ≤ sectors_of g row.lv)))
          sectors found.within)

      -- its sectors can be counted
      pub sectors_fit : (sizes : List ℕ) → AreLaidOut volumes sizes → start + count < 2 ^ 64
      sectors_fit sizes laid =
          let accepted : IsAccepted has_group.0 = subst (λ (o : Option Group). IfSome o IsAccepted) has_group.1 laid.accepted in
          let few : sectors_of has_group.0 row.lv < 2 ^ 48 = few_sectors has_group.0 row.lv accepted in
          let within : start + count ≤ sectors_of has_group.0 row.lv = inside has_group.0 has_group.1 in
          omega arith

      placed : (sizes : List ℕ) (piece : Piece) → AreLaidOut volumes sizes → IsPieceOf row.key start count writing piece
          → IsPlaced volumes sizes piece
      placed sizes piece laid is =
          piece_placed volumes sizes has_group.0 row laid has_group.1 (stands sizes laid) start count writing piece
          (inside has_group.0 has_group.1) is

      -- each piece may be one of the line, where what its test says of one of the request is enough
      cut_planned : (core : Core) (line : Line) (plan : Plan) (work : Work) (Suits : NewPiece → Type 0) → core.volumes ≡ volumes
          → line.command ≡ command → work_for volumes command ≡ work
          → PiecesCoverRequest → PiecesAreOfRequest → PiecesAreCut
          → ((sizes : List ℕ) (new : NewPiece) → Suits new → IsPieceOf row.key start count writing new.piece
          → IsPlaced volumes sizes new.piece → MayBeOf volumes sizes (opened_on row.key work) (Some line) new)
          → IsCut (opened_on row.key work) (pieces_of row.key start count writing) Suits plan → IsPlanFor core line plan
      cut_planned core line plan work Suits same is does cover request cuts suits made sizes laid_core disks =
          let laid : AreLaidOut volumes sizes = subst (λ (v : Volumes). AreLaidOut v sizes) same laid_core in
          let news : List NewPiece = plan.pieces.items in
          let among : (new : NewPiece) → Contains news new → Contains (pieces_of row.key start count writing) new.piece =
          (λ new has. subst (λ (ps : List Piece). Contains ps new.piece) made.cut (mapped news new has)) in
          subst (λ (v : Volumes). IsPlanned v sizes line plan) (sym same) (record {
            opened = made.opened ∙ sym (ap (opened_for volumes) is ∙ opened_is ∙ ap (opened_on row.key) does);
            cut =
                made.cut
                ∙ sym (ap (pieces_for volumes) is ∙ pieces_are
                ∙ ap (λ (o : Option (ℕ × ℕ)). option_map_or (λ (r : ℕ × ℕ). pieces_of row.key r.0 r.1 writing) o []) sectors);
            pieces = (λ k d lt.
                let new : NewPiece = get_or news k d in
                let piece : IsPieceOf row.key start count writing new.piece =
                piece_of row.key start count writing new.piece cover request cuts (among new (Contains-get_or news k d lt)) in
                subst (λ (o : OpenLine). MayBeOf volumes sizes o (Some line) new) (sym made.opened)
                (suits sizes new (made.suit k d lt) piece (placed sizes new.piece laid piece)));
            tickets = inl (record {
              none = ap length made.tickets;
              refused = (λ flush. absurd (no_flush command (names.sectors ∙ sectors) (sym (ap is_flush is) ∙ flush)));
            });
          })
        where
          no_flush : (c : Command) → range_of c ≡ Some (start, count) → is_flush c ≡ true → ⊥
          no_flush (verb.Flush path) sectors flush = cc
          no_flush c sectors flush = false≢true flush

          mapped : (news : List NewPiece) (new : NewPiece) → Contains news new → Contains (map (λ (n : NewPiece). n.piece) news) new.piece
          mapped news new has =
              has_member (map (λ (n : NewPiece). n.piece) news) new.piece (in_mapped news new (in_list news new has))

-- ---- reads and writes

read_suits : (volumes : Volumes) (sizes : List ℕ) (line : Line) (key start count : ℕ) (new : NewPiece) → is_through line.command ≡ false
    → IsReadInto new
    → IsPieceOf key start count false new.piece → IsPlaced volumes sizes new.piece
    → MayBeOf volumes sizes (opened_on key (Read start (replicate count zero_sector))) (Some line) new
read_suits volumes sizes line key start count new plain suits is placed = record {
  key = is.volume;
  part = (is.writing, is.from, (let long = length-replicate count zero_sector in omega (arith, is.to, long)));
  placed = placed;
  many = suits.0;
  brought = (λ write. absurd (false≢true (sym is.writing ∙ write)));
  through = (λ some. absurd (false≢true (sym (ap (λ (o : Option (Unit {0})). is_some o) suits.1) ∙ some)));
  waits = ap (λ (o : Option (Unit {0})). is_some o) suits.1 ∙ sym plain;
}

write_suits : (volumes : Volumes) (sizes : List ℕ) (line : Line) (key start count : ℕ) (new : NewPiece) → IsBroughtBy line.command new
    → IsPieceOf key start count true new.piece → IsPlaced volumes sizes new.piece
    → MayBeOf volumes sizes (opened_on key Write) (Some line) new
write_suits volumes sizes line key start count new suits is placed = record {
  key = is.volume;
  part = is.writing;
  placed = placed;
  many = ap length suits.0 ∙ length-map-range_with_len (value_for line.command) new.piece.first new.piece.count;
  brought = (λ write. suits.0);
  through = (λ some. is.writing);
  waits = suits.1;
}

module _ (core : Core) (line : Line) (path : Path) (row : VolumeRow) (start count : ℕ) (plan : Plan) (cover : PiecesCoverRequest)
    (request : PiecesAreOfRequest) (cuts : PiecesAreCut) (found : IsFoundIn core.volumes path (Some (start, count)) row) where
  pub read_planned : line.command ≡ verb.Read path start count
      → first_refusal (rows_on core.volumes.group path false (Some (start, count))) ≡ None
      → IsCut (opened_on row.key (Read start (replicate count zero_sector))) (pieces_of row.key start count false) IsReadInto plan
      → IsPlanFor core line plan
  read_planned is none made =
      cut_planned core.volumes (verb.Read path start count) path (Some (start, count)) false
      (record { volume = refl; sectors = refl; kind = refl }) row none found start count refl core line plan
      (Read start (replicate count zero_sector)) IsReadInto refl is refl cover request cuts
      (λ sizes new suits piece placed. read_suits core.volumes sizes line row.key start count new (ap is_through is) suits piece placed)
      made

  pub write_planned : Names line.command path (Some (start, count)) true
      → first_refusal (rows_on core.volumes.group path true (Some (start, count))) ≡ None
      → IsCut (opened_on row.key Write) (pieces_of row.key start count true) (IsBroughtBy line.command) plan
      → IsPlanFor core line plan
  write_planned names none made =
      cut_planned core.volumes line.command path (Some (start, count)) true names row none found start count refl core line plan
      Write (IsBroughtBy line.command) refl refl (writes_work core.volumes line.command names.kind) cover request cuts
      (λ sizes new suits piece placed. write_suits core.volumes sizes line row.key start count new suits piece placed) made
    where
      writes_work : (volumes : Volumes) (c : Command) → writes c ≡ true → work_for volumes c ≡ Write
      writes_work volumes (verb.Fill path start count value through) writing = refl
      writes_work volumes (verb.Write path start hex through) writing = refl
      writes_work volumes c writing = absurd (false≢true writing)
