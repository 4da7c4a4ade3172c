-- A line is begun: that is in order, and its sectors are to come.
use Rattle.std.proofs.Common.{◌≡◌, ◌<◌, ◌⊎◌, All, ℕ, zero, suc, ◌+◌, Bool, true, false, cond, not, ◌&&◌, ◌||◌, ◌==◌, List, []}
use Rattle.std.proofs.Common.{◌∷◌, ◌++◌, Option, None, Some, count_by, get_or, inl, inr, is_none, is_some, length, map, option_map}
use Rattle.std.proofs.Common.{slice_get, unwrap_or, refl, sym, ap, subst, ◌∙◌, arith, true≢false}
use Rattle.std.specs.Option.{option_and_then, option_map_or}
use Rattle.std.specs.Str.{bytes_eq}
use Rattle.std.proofs.lemmas.Bool.{eq-eqb, eqb-false, eqb-true}
use Rattle.std.proofs.lemmas.List.{get_or_past, get_or_push, length-map, length_push}
use Rattle.std.proofs.lemmas.List.Sums.{sum_by-le}
use Rattle.std.proofs.lemmas.Option.{none-some, same_Some}
use Rattle.command_table.specs.declared.command.Command.{Command}
use Rattle.command_table.specs.declared.command.Command.TheVariants as command
use Rattle.command_table.specs.declared.command.Path.{Path}
use Rattle.line_answers.specs.declared.answer.Answer.{Answer}
use Rattle.line_answers.specs.declared.answer.Answer.TheVariants as answer
use Rattle.line_answers.specs.declared.op_refusal.OpRefusal.{OpRefusal}
use Rattle.line_answers.specs.declared.op_refusal.OpRefusal.TheVariants.{UnknownGroup, UnknownVolume}
use Rattle.lvm_script.specs.declared.line.Line.{Line}
use Rattle.list_laws.proofs.Bools.{and_both, eq_to}
use Rattle.data_lines.specs.DataLines.{covers_sector, is_command, is_data, is_flush, is_through, range_covers, range_of, runs_beside}
use Rattle.data_lines.specs.DataLines.{volume_named, writes}
use Rattle.line_table.specs.Steps.{is_open as is_open_line}
use Rattle.line_table.specs.declared.journal.EntryKind.TheVariants as entry
use Rattle.meta_model.specs.declared.group.Group.{Group}
use Rattle.meta_model.specs.declared.lv.Lv.{Lv}
use Rattle.piece_split.specs.Laws.{PiecesCoverRequest}
use Rattle.piece_split.specs.Pieces.{pieces_of}
use Rattle.group_edits.specs.Visible.{visible_named}
use Rattle.group_plan.specs.Judging.{first_refusal, refused_if}
use Rattle.piece_table.specs.declared.live.LivePiece.{LivePiece}
use Rattle.volume_history.specs.Chronicles.{Begun, ChronicleEntry, begun_in, count_begun, every, is_running, may_begin, open_among}
use Rattle.volume_history.specs.Chronicles.{runs_of, settled_at}
use Rattle.volume_history.specs.Commands.{is_move, is_wait}
use Rattle.volume_history.specs.Runs.{zero_piece}
use Rattle.world_acts.specs.declared.open_line.OpenLine.{OpenLine}
use Rattle.world_acts.specs.declared.open_line.Work.{Work}
use Rattle.world_acts.specs.declared.open_line.Work.TheVariants.{Read, Whole, Write}
use Rattle.world_acts.specs.declared.state.Core.{Core}
use Rattle.world_acts.specs.declared.volumes.Volumes.{Volumes}
use Rattle.world_acts.specs.Acts.{IsPartOf, World, world}
use Rattle.world_acts.specs.Counts.{is_line, pieces_of as pieces_under_way, waiting}
use Rattle.world_acts.specs.OpenLines.{is_whole, left_of, open_at}
use Rattle.world_acts.specs.Orderly.{IsLive, IsOrderly}
use Rattle.world_acts.specs.Rooms.{one}
use Rattle.world_acts.specs.Steps.{after_begins}
use Rattle.world_acts.proofs.Begun.{open_begun}
use Rattle.world_acts.proofs.LinesKept.{hit}
use Rattle.world_acts.proofs.Tables.{some_of}
use Rattle.line_plans.specs.Judging.{number_named, number_on, refusal_of, rows_on}
use Rattle.line_plans.specs.Plans.{key_for, key_of, opened_for, opened_on, opened_refused, pieces_for, work_for}
use Rattle.world_history.specs.Entries.{key_told}
use Rattle.world_history.specs.Told.{IsLineTold, IsOfThrough, IsOnly, IsSessionLine, IsTold, IsWorkOf}
use Rattle.world_history.specs.Told.{LineTold, answer_at, none_coming, to_come}
use Rattle.world_history.proofs.Covering.{coming_of, covering, covers_once}
use Rattle.world_history.proofs.EntryLists.{IsUntold, every_open, pushed_at, pushed_other, untold}
use Rattle.world_history.proofs.LineActs.{line_begun}
use Rattle.world_history.proofs.OpenTold.{told_open}
use Rattle.world_history.proofs.Stages.{come_within}
use Rattle.world_history.proofs.PieceSettles.{read_line, write_line}

-- one line more is open, and the others are as they were
pub other_open : (opened : OpenLine) (list : List (Option OpenLine)) (q : ℕ) → (length list ≡ q → ⊥)
    → get_or (list ++ Some opened ∷ []) q None ≡ get_or list q None
other_open opened [] zero apart = absurd (apart refl)
other_open opened [] (suc q) apart = refl
other_open opened (x ∷ list) zero apart = refl
other_open opened (x ∷ list) (suc q) apart = other_open opened list q (λ e. apart (ap suc e))

-- ---- how the line is judged

rows_pass : (a b c d : Option OpRefusal) → first_refusal (a ∷ b ∷ c ∷ d ∷ []) ≡ None → (a ≡ None) × (c ≡ None)
rows_pass (Some x) b c d is = absurd (none-some x (sym is))
rows_pass None (Some x) c d is = absurd (none-some x (sym is))
rows_pass None None (Some x) d is = absurd (none-some x (sym is))
rows_pass None None None d is = (refl, refl)

unrefused : (b : Bool) (why : OpRefusal) → refused_if b why ≡ None → b ≡ false
unrefused true why is = absurd (none-some why (sym is))
unrefused false why is = refl

-- a line that isn't refused names a volume that is there
path_stands : (group : Option Group) (path : Path) (writing : Bool) (range : Option (ℕ × ℕ))
    → first_refusal (rows_on group path writing range) ≡ None
    → is_some (number_on group path) ≡ true
path_stands None path writing range is = absurd (none-some (UnknownGroup path.vg) (sym is))
path_stands (Some g) path writing range is =
    let rows = rows_pass _ _ _ _ is in
    let named : bytes_eq g.name path.vg ≡ true = truly (bytes_eq g.name path.vg) (unrefused _ (UnknownGroup path.vg) rows.0) in
    rw (named) (there (visible_named g path.lv) (unrefused _ (UnknownVolume path.lv) rows.1))
  where
    truly : (b : Bool) → not b ≡ false → b ≡ true
    truly true is = refl
    truly false is = absurd (true≢false is)

    there : (o : Option (ℕ × Lv)) → is_none o ≡ false → is_some (option_map (λ (v : ℕ × Lv). v.0) o) ≡ true
    there None is = absurd (true≢false is)
    there (Some v) is = refl

named_stands : (group : Option Group) (c : Command) → refusal_of group c ≡ None → is_some (volume_named c) ≡ true
    → is_some (number_named group c) ≡ true
named_stands group c is named = by (volume_named c) is named
  where
    by : (o : Option Path)
        → option_and_then (λ (path : Path). first_refusal (rows_on group path (writes c) (range_of c))) o ≡ None
        → is_some o ≡ true
        → is_some (option_and_then (number_on group) o) ≡ true
    by None is named = absurd (true≢false (sym named))
    by (Some path) is named = path_stands group path (writes c) (range_of c) is

-- one that is refused names a volume
refused_names : (group : Option Group) (c : Command) (why : OpRefusal) → refusal_of group c ≡ Some why → is_some (volume_named c) ≡ true
refused_names group c why is = by (volume_named c) is
  where
    by : (o : Option Path)
        → option_and_then (λ (path : Path). first_refusal (rows_on group path (writes c) (range_of c))) o ≡ Some why
        → is_some o ≡ true
    by None is = absurd (none-some why is)
    by (Some path) is = refl

-- ---- what it does

does_for : (volumes : Volumes) (c : Command) (key : Option ℕ) → runs_beside c ≡ true
    → (is_some (volume_named c) ≡ true → is_some key ≡ true)
    → (volume_named c ≡ None → key ≡ None)
    → IsWorkOf c key (work_for volumes c) None
does_for volumes (command.Read path first count) key beside stands none = (refl, stands refl, tt)
does_for volumes (command.Fill path first count value through) key beside stands none = (refl, stands refl, tt)
does_for volumes (command.Write path first hex through) key beside stands none = (refl, stands refl, tt)
does_for volumes (command.Flush path) key beside stands none = inr (record {
  other = refl;
  kept = refl;
  says = refl;
  good = refl;
  stands = λ flushes. stands refl;
  none = λ plain. absurd (true≢false plain);
  lost = tt;
})
does_for volumes command.List key beside stands none = inr (record {
  other = refl;
  kept = refl;
  says = refl;
  good = refl;
  stands = λ flushes. absurd (true≢false (sym flushes));
  none = λ plain. none refl;
  lost = tt;
})
does_for volumes command.Wait key beside stands none = inr (record {
  other = refl;
  kept = refl;
  says = refl;
  good = refl;
  stands = λ flushes. absurd (true≢false (sym flushes));
  none = λ plain. none refl;
  lost = tt;
})
does_for volumes c key beside stands none = absurd (true≢false (sym beside))

-- what its pieces cover
hit_is : (b : Bool) → hit b ≡ one b
hit_is true = refl
hit_is false = refl

range_once : (law : PiecesCoverRequest) (key x : ℕ) (writing : Bool) (r : Option (ℕ × ℕ))
    → covering x (option_map_or (λ (r : ℕ × ℕ). pieces_of key r.0 r.1 writing) r []) ≡ one (range_covers r x)
range_once law key x writing None = refl
range_once law key x writing (Some r) =
    covers_once r.0 (r.0 + r.1) (pieces_of key r.0 r.1 writing) x (law key r.0 r.1 writing) ∙ hit_is _

sectors_for : (volumes : Volumes) (c : Command) (x : ℕ)
    → one (range_covers (range_of c) x) ≡ one (not (is_whole (work_for volumes c)) && covers_sector c x)
sectors_for volumes (command.Read path first count) x = refl
sectors_for volumes (command.Fill path first count value through) x = refl
sectors_for volumes (command.Write path first hex through) x = refl
sectors_for volumes c x = refl

command_named : (c : Command) → is_command c ≡ true → is_some (volume_named c) ≡ true → ⊥
command_named (command.Read path first count) is named = true≢false (sym is)
command_named (command.Fill path first count value through) is named = true≢false (sym is)
command_named (command.Write path first hex through) is named = true≢false (sym is)
command_named (command.Flush path) is named = true≢false (sym is)
command_named c is named = true≢false (sym named)

command_plain : (c : Command) → is_command c ≡ true → (is_data c ≡ false) × (is_flush c ≡ false)
command_plain c is = by (is_data c) (is_flush c) is
  where
    by : (a b : Bool) → not (a || b) ≡ true → (a ≡ false) × (b ≡ false)
    by true b is = absurd (true≢false (sym is))
    by false true is = absurd (true≢false (sym is))
    by false false is = (refl, refl)

wait_command : (c : Command) → is_wait c ≡ true → is_command c ≡ true
wait_command command.Wait is = refl
wait_command c is = absurd (true≢false (sym is))

none_by : {X : Type 0} (test : X → Bool) (xs : List X) → All (λ (x : X). test x ≡ false) xs → count_by test xs ≡ 0
none_by test xs all =
    let most =
    sum_by-le (λ x. hit (test x)) 0 xs (λ k d within.
    (let none : hit (test (get_or xs k d)) ≡ 0 = ap hit (all k d within) in omega (arith, none))) in
    omega (arith, most)

module _ {start : ℕ} {w : World} {es : List ChronicleEntry} (t : IsTold start none_coming w es) (o : IsOrderly w)
    (busy : (q : ℕ) (y : OpenLine) → open_at w.core.opens q ≡ Some y → 0 < y.left) where
  abbrev c : Core
  c = w.core

  abbrev n : ℕ
  n = length c.lines.begun

  -- ---- no command is open

  no_command : (q : ℕ) (y : OpenLine) (at : open_at c.opens q ≡ Some y) → is_command (t.lines q y at).0.0.command ≡ true → ⊥
  no_command q y at is = by (t.lines q y at) is y.work refl (t.lines q y at).2.does
    where
      by : (l : LineTold (λ x. 0) c.pieces.lives c.waits.disks es q y) → is_command l.0.0.command ≡ true → (work : Work) → y.work ≡ work
          → IsWorkOf l.0.0.command l.0.1 work y.failure
          → ⊥
      by l is (Read first buffer) same does = true≢false (sym (read_line l.0.0.command does.0).0 ∙ (command_plain l.0.0.command is).0)
      by l is Write same does = true≢false (sym (write_line l.0.0.command does.0) ∙ (command_plain l.0.0.command is).0)
      by l is (Whole a) same (inl refused) = command_named l.0.0.command is refused.names
      by l is (Whole a) same (inr whole) =
          let still : waiting (is_line q) c.waits.disks ≡ 0 = l.2.still (inl (command_plain l.0.0.command is).1) in
          let pieces : pieces_under_way q c.pieces.lives ≡ 0 = none_by (λ (e : ℕ × LivePiece). e.1.line == q) c.pieces.lives no_piece in
          let left : left_of c.opens q ≡ y.left = ap (λ (z : Option OpenLine). option_map_or (λ (k : OpenLine). k.left) z 0) at in
          let counted = o.tidy.counts.left q in
          let some = busy q y at in
          absurd (omega (arith, still, pieces, left, counted, some))
        where
          no_part : (e : ℕ × LivePiece) → IsLive c.lines.begun c.opens c.pieces.next e → (b : Bool) → (e.1.line == q) ≡ b → b ≡ false
          no_part e live true here =
              let own : e.1.line ≡ q = eqb-true e.1.line q here in
              let opened : live.of_line.opened ≡ y =
              same_Some live.of_line.opened y (sym live.of_line.is_open ∙ ap (open_at c.opens) own ∙ at) in
              absurd (subst (λ (z : Work). IsPartOf z e.1.piece) (ap (λ (z : OpenLine). z.work) opened ∙ same) live.of_line.part)
          no_part e live false here = refl

          no_piece : All (λ (e : ℕ × LivePiece). (e.1.line == q) ≡ false) c.pieces.lives
          no_piece k d within = no_part (get_or c.pieces.lives k d) (o.tidy.pieces.each k d within) _ refl

  -- so a line may be begun
  none_open : (test : (ℕ × Line) → Bool) → ((q : ℕ) (l : Line) → is_command l.command ≡ false → test (q, l) ≡ true)
      → every test (open_among es es) ≡ true
  none_open test passes =
      every_open test start es es t.ordered
      (λ q l below begun unanswered. let found = some_of (open_at c.opens q) (told_open t o q below unanswered) in
      let told = t.lines q found.0 found.1 in
      let same : told.0 ≡ l = same_Some told.0 l (sym told.1 ∙ begun) in
      passes q l.0 (subst (λ (k : Line × Option ℕ). is_command k.0.command ≡ false) same
      (plain (is_command told.0.0.command) refl (no_command q found.0 found.1))))
    where
      plain : (b : Bool) {a : Bool} → a ≡ b → (a ≡ true → ⊥) → a ≡ false
      plain true e none = absurd (none e)
      plain false e none = e

  may : (line : Line) → may_begin es line ≡ true
  may line =
      and_both (every (λ q. not (is_wait q.1.command)) (open_among es es)) _
      (none_open (λ q. not (is_wait q.1.command))
      (λ q l plain. ap not (not_wait (is_wait l.command) refl (λ is. true≢false (sym (wait_command l.command is) ∙ plain)))))
      (or_last (not (is_command line.command)) _
      (and_both (every (λ q. not (is_command q.1.command) || is_move q.1.command) (open_among es es)) (not (is_running es))
      (none_open (λ q. not (is_command q.1.command) || is_move q.1.command) (λ q l plain. rw (plain) refl))
      (ap (λ p. not (runs_of es p)) t.committed)))
    where
      or_last : (a b : Bool) → b ≡ true → (a || b) ≡ true
      or_last true b is = refl
      or_last false b is = is

      not_wait : (b : Bool) {a : Bool} → a ≡ b → (a ≡ true → ⊥) → a ≡ false
      not_wait true e none = absurd (none e)
      not_wait false e none = e

  -- ---- nothing is there of it yet

  pub places : length c.opens.list ≡ n
  places =
      let a : length (map is_some c.opens.list) ≡ length c.opens.list = length-map c.opens.list is_some in
      let b : length (map is_open_line c.lines.answers) ≡ length c.lines.answers = length-map c.lines.answers is_open_line in
      let same : length (map is_some c.opens.list) ≡ length (map is_open_line c.lines.answers) =
      ap (λ (l : List Bool). length l) o.tidy.lines.opened in
      omega (arith, o.tidy.lines.many, a, b, same)

  nothing : (pieces_under_way n c.pieces.lives ≡ 0) × (waiting (is_line n) c.waits.disks ≡ 0)
  nothing =
      let past : open_at c.opens n ≡ None = get_or_past c.opens.list n None (omega (arith, places)) in
      let none : left_of c.opens n ≡ 0 = ap (λ (z : Option OpenLine). option_map_or (λ (k : OpenLine). k.left) z 0) past in
      let counted = o.tidy.counts.left n in
      (omega (arith, none, counted), omega (arith, none, counted))

  module _ (law : PiecesCoverRequest) (line : Line) (session : IsSessionLine line) where
    abbrev key : Option ℕ
    key = key_told c.volumes line

    abbrev es' : List ChronicleEntry
    es' = Begun w.shelf.steps n line key ∷ es

    abbrev coming : ℕ → ℕ → ℕ
    coming = coming_of n (pieces_for c.volumes line.command)

    yet : IsUntold es n
    yet = untold start es n t.ordered (omega (arith, t.count))

    keyed : key_for c.volumes line.command ≡ unwrap_or key 0
    keyed = by (number_named c.volumes.group line.command)
      where
        by : (o : Option ℕ) → option_map_or (key_of c.volumes) o 0 ≡ unwrap_or (option_map (key_of c.volumes) o) 0
        by None = refl
        by (Some lv) = refl

    -- each of its sectors is to come, where these pieces cover it
    once_by : (work : Work) (own x : ℕ) → coming n x ≡ one (not (is_whole work) && covers_sector line.command x)
        → one (settled_at es' n own x) + (to_come n x c.pieces.lives + coming n x)
        ≡ one (not (is_whole work) && covers_sector line.command x)
    once_by work own x is =
        let most = come_within n x c.pieces.lives in
        let none : one (settled_at es' n own x) ≡ 0 = ap one (yet.settled own x) in
        omega (arith, most, nothing.0, none, is)

    coming_is : (x : ℕ) → coming n x ≡ covering x (pieces_for c.volumes line.command)
    coming_is x = ap (λ (b : Bool). cond b (covering x (pieces_for c.volumes line.command)) 0) (eq-eqb n n refl)

    own_told : LineTold (coming n) c.pieces.lives c.waits.disks es' n (opened_for c.volumes line.command)
    own_told = (
      (line, key),
      ap (λ (b : Bool). cond b (Some (line, key)) (begun_in es n)) (eq-eqb n n refl),
      by (refusal_of c.volumes.group line.command) refl,
    )
      where
        named : is_some (volume_named line.command) ≡ true → refusal_of c.volumes.group line.command ≡ None → is_some key ≡ true
        named some is =
            there (number_named c.volumes.group line.command) (named_stands c.volumes.group line.command is some)
          where
            there : (o : Option ℕ) → is_some o ≡ true → is_some (option_map (key_of c.volumes) o) ≡ true
            there None is = is
            there (Some lv) is = refl

        unnamed : volume_named line.command ≡ None → key ≡ None
        unnamed none =
            ap (λ (o : Option Path). option_map (key_of c.volumes) (option_and_then (number_on c.volumes.group) o)) none

        by : (r : Option OpRefusal) → refusal_of c.volumes.group line.command ≡ r
            → (let x : OpenLine = option_map_or (opened_refused (key_for c.volumes line.command)) r
            (opened_on (key_for c.volumes line.command) (work_for c.volumes line.command)) in
            IsLineTold (coming n) c.pieces.lives c.waits.disks es' n line key x.key x.work x.failure)
        by (Some why) is = record {
          keyed = keyed;
          does = inl (record { why = why; is = refl; names = refused_names c.volumes.group line.command why is });
          some = session.some;
          once = λ x. once_by (Whole answer.Fine) _ x (coming_is x ∙ rw (is) refl);
          took = λ none. absurd (none-some (answer.Refused why) (sym none));
          lost = λ some part. absurd (true≢false part);
          none = λ whole. yet.took;
          still = λ still. nothing.1;
        }
        by None is = record {
          keyed = keyed;
          does =
              does_for c.volumes line.command key session.beside (λ some. named some is) unnamed;
          some = session.some;
          once = λ x. once_by (work_for c.volumes line.command) _ x
              (coming_is x ∙ rw (is) (range_once law (key_for c.volumes line.command) x (writes line.command) (range_of line.command))
              ∙ sectors_for c.volumes line.command x);
          took = λ none x settled. absurd (true≢false (sym settled ∙ yet.settled _ x));
          lost = λ some. absurd (true≢false (sym some));
          none = λ whole. yet.took;
          still = λ still. nothing.1;
        }

    -- the line is begun, and this line waits for all others then
    pub begin_told : (opened : OpenLine) → opened ≡ opened_for c.volumes line.command → (barrier : Option ℕ)
        → (is_wait line.command ≡ true → (barrier ≡ Some n) ⊎ ((q : ℕ) (y : OpenLine) → open_at c.opens q ≡ Some y → ⊥))
        → IsTold start coming (world w.shelf (record (after_begins c line opened w.shelf.steps) { barrier = barrier })) es'
    begin_told opened is barrier waits = record {
      journal =
          (λ i. t.journal i ++ record { kind = entry.Begun; line = n; piece = zero_piece (same_key i); moment = w.shelf.steps } ∷ []);
      ordered = (
        record {
          moments = t.moment;
          order = and_both (n == count_begun es) (may_begin es line) (eq_to n (count_begun es) (sym t.count)) (may line);
          makes = tt;
        },
        t.ordered,
      );
      moment = omega arith;
      committed = t.committed;
      count = (let more : length (c.lines.begun ++ line ∷ []) ≡ n + 1 = length_push c.lines.begun line in omega (arith, more, t.count));
      begun = ap (λ (l : List Line). l ++ line ∷ []) t.begun;
      answers = λ q. t.answers q ∙ sym (no_answer c.lines.answers q);
      lines = λ q y at. line_of q y (n == q) refl at;
      through = λ k d within. through_still (get_or c.pieces.lives k d) (o.tidy.pieces.each k d within) (t.through k d within);
      waits = λ q y l at begun wait. wait_of q y l (n == q) refl at begun wait;
    }
      where
        same_key : unwrap_or key 0 ≡ opened.key
        same_key = sym (ap (λ (x : OpenLine). x.key) is ∙ opened_key (refusal_of c.volumes.group line.command) ∙ keyed)
          where
            opened_key : (r : Option OpRefusal)
                → (option_map_or (opened_refused (key_for c.volumes line.command)) r
                (opened_on (key_for c.volumes line.command) (work_for c.volumes line.command))).key
                ≡ key_for c.volumes line.command
            opened_key None = refl
            opened_key (Some why) = refl

        no_answer : (answers : List (ℕ × Option Answer)) (q : ℕ) → answer_at (answers ++ (line.number, None) ∷ []) q ≡ answer_at answers q
        no_answer [] zero = refl
        no_answer [] (suc q) = refl
        no_answer (a ∷ answers) zero = refl
        no_answer (a ∷ answers) (suc q) = no_answer answers q

        -- which line stands where
        old_open : (q : ℕ) (y : OpenLine) → (n == q) ≡ false → get_or (c.opens.list ++ Some opened ∷ []) q None ≡ Some y
            → open_at c.opens q ≡ Some y
        old_open q y apart at = sym (other_open opened c.opens.list q (λ e. eqb-false n q apart (sym places ∙ e))) ∙ at

        own_open : (q : ℕ) (y : OpenLine) → (n == q) ≡ true → get_or (c.opens.list ++ Some opened ∷ []) q None ≡ Some y → opened ≡ y
        own_open q y here at =
            same_Some opened y (sym (get_or_push c.opens.list (Some opened) None q (places ∙ eqb-true n q here)) ∙ at)

        line_of : (q : ℕ) (y : OpenLine) (b : Bool) → (n == q) ≡ b → get_or (c.opens.list ++ Some opened ∷ []) q None ≡ Some y
            → LineTold (coming q) c.pieces.lives c.waits.disks es' q y
        line_of q y true here at =
            subst (λ (k : ℕ). LineTold (coming k) c.pieces.lives c.waits.disks es' k y) (eqb-true n q here)
            (subst (λ (x : OpenLine). LineTold (coming n) c.pieces.lives c.waits.disks es' n x) (sym is ∙ own_open q y here at) own_told)
        line_of q y false apart at =
            let l = t.lines q y (old_open q y apart at) in (
              l.0,
              rw (apart) l.1,
              record {
                keyed = l.2.keyed;
                does = l.2.does;
                some = l.2.some;
                once = λ x. let none : coming q x ≡ 0 = rw (apart) refl in let was = l.2.once x in omega (arith, none, was);
                took = l.2.took;
                lost = λ some part plain. let z = l.2.lost some part plain in
                    record { sector = z.sector; covered = z.covered; settled = z.settled; not_taken = z.not_taken };
                none = l.2.none;
                still = l.2.still;
              },
            )

        through_still : (e : ℕ × LivePiece) → IsLive c.lines.begun c.opens c.pieces.next e → IsOfThrough c.lines.begun e
            → IsOfThrough (c.lines.begun ++ line ∷ []) e
        through_still e live was waits' =
            let within = open_begun e.1.line live.of_line.opened o.tidy.lines live.of_line.is_open in
            ap (λ (x : Option Line). option_map_or (λ (z : Line). is_through z.command) x false)
            (pushed_other c.lines.begun line e.1.line (λ s. omega (arith, s, within)))
            ∙ was waits'

        wait_of : (q : ℕ) (y : OpenLine) (l : Line) (b : Bool) → (n == q) ≡ b
            → get_or (c.opens.list ++ Some opened ∷ []) q None ≡ Some y
            → slice_get (c.lines.begun ++ line ∷ []) q ≡ Some l
            → is_wait l.command ≡ true
            → (barrier ≡ Some q)
            ⊎ IsOnly (world w.shelf (record (after_begins c line opened w.shelf.steps) { barrier = barrier })) q
        wait_of q y l true here at begun wait =
            let same : n ≡ q = eqb-true n q here in
            let own : line ≡ l = same_Some line l (sym (pushed_at c.lines.begun line q same) ∙ begun) in
            alone (waits (ap (λ (z : Line). is_wait z.command) own ∙ wait))
          where
            alone : (barrier ≡ Some n) ⊎ ((q : ℕ) (y : OpenLine) → open_at c.opens q ≡ Some y → ⊥)
                → (barrier ≡ Some q)
                ⊎ IsOnly (world w.shelf (record (after_begins c line opened w.shelf.steps) { barrier = barrier })) q
            alone (inl holds) = inl (holds ∙ ap Some (eqb-true n q here))
            alone (inr none) = inr (λ k some. by k (n == k) refl some)
              where
                by : (k : ℕ) (b : Bool) → (n == k) ≡ b → is_some (get_or (c.opens.list ++ Some opened ∷ []) k None) ≡ true → k ≡ q
                by k true e some = sym (eqb-true n k e) ∙ eqb-true n q here
                by k false e some =
                    let found = some_of (get_or (c.opens.list ++ Some opened ∷ []) k None) some in
                    absurd (none k found.0 (old_open k found.0 e found.1))
        wait_of q y l false apart at begun wait =
            let was = old_open q y apart at in
            let told = t.lines q y was in
            let same : told.0.0 ≡ l =
            same_Some told.0.0 l (sym (line_begun t q told.0 told.1) ∙ sym (pushed_other c.lines.begun line q (λ e. eqb-false n q apart e))
            ∙ begun) in
            absurd (no_command q y was (wait_command told.0.0.command (ap (λ (z : Line). is_wait z.command) same ∙ wait)))
