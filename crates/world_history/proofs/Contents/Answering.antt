-- What lines answer: a read what the machine had of each sector as it took place, a list the volumes; the others give nothing.
use Rattle.std.proofs.Common.{◌≡◌, ◌<◌, ℕ, zero, suc, ◌+◌, Bool, true, false, cond, if◌then◌else◌, ◌&&◌, List, [], ◌∷◌}
use Rattle.std.proofs.Common.{length, map, Option, Some}
use Rattle.std.proofs.Common.{None, get_or, is_none, is_some, unwrap_or, inl, inr, refl, sym, ap, ◌∙◌, arith, true≢false}
use Rattle.std.proofs.lemmas.Bool.{eq-eqb}
use Rattle.std.proofs.lemmas.Option.{none-some, same_Some}
use Rattle.std.specs.List.{range_with_len}
use Rattle.std.specs.Option.{option_and_then}
use Rattle.command_table.specs.declared.command.Command.{Command}
use Rattle.command_table.specs.declared.command.Command.TheVariants as command
use Rattle.line_answers.specs.declared.answer.Answer.{Answer}
use Rattle.line_answers.specs.declared.answer.Answer.TheVariants as answer
use Rattle.lvm_script.specs.declared.line.Line.{Line}
use Rattle.data_lines.specs.DataLines.{covers_sector, is_data, is_read, range_of, volume_named}
use Rattle.line_table.specs.Machine.{list_of}
use Rattle.volume_history.specs.Chronicles.{ChronicleEntry, Origin, Took, begun_in, took_at}
use Rattle.volume_history.specs.Commands.{is_good, may_say, removes}
use Rattle.volume_history.specs.Legal.{GivesMachine, read_sector, read_values, sectors_in, state_taken}
use Rattle.volume_history.specs.Replay.{plain_state}
use Rattle.volume_history.specs.Runs.{zero_piece}
use Rattle.world_acts.specs.declared.open_line.Work.{Work}
use Rattle.world_acts.specs.declared.open_line.Work.TheVariants.{Read, Whole, Write}
use Rattle.world_acts.specs.declared.volumes.Volumes.{Volumes}
use Rattle.world_acts.specs.OpenLines.{is_whole, work_answer}
use Rattle.line_plans.specs.Plans.{listed_of}
use Rattle.world_history.specs.Told.{IsRefusedLine, IsWorkOf}
use Rattle.world_history.proofs.EntryLists.{in_range_at}
use Rattle.world_history.specs.Contents.{HasBrought, HasRead}

-- ---- a read

-- a list that has f of each number of a range
ranged : (f : ℕ → List ℕ) (first count : ℕ) (xs : List (List ℕ)) → length xs ≡ count
    → ((i : ℕ) → i < count → get_or xs i [] ≡ f (first + i))
    → xs ≡ map f (range_with_len first count)
ranged f first zero [] many each = refl
ranged f first zero (x ∷ xs) many each = absurd (omega (arith, many))
ranged f first (suc count) [] many each = absurd (omega (arith, many))
ranged f first (suc count) (x ∷ xs) many each =
    let here : x ≡ f first = each 0 (omega arith) ∙ ap f (omega arith) in
    let later : xs ≡ map f (range_with_len (first + 1) count) =
    ranged f (first + 1) count xs (omega (arith, many)) (λ i lt. each (suc i) (omega (arith, lt)) ∙ ap f (omega arith)) in
    λ i. here i ∷ later i

pub read_gives : (o : Origin) (es : List ChronicleEntry) (n key start : ℕ) (buffer : List (List ℕ)) (line : Line)
    → HasRead o es n key start buffer
    → begun_in es n ≡ Some (line, Some key)
    → ((x : ℕ) → covers_sector line.command x ≡ true → took_at es n key x ≡ true)
    → buffer ≡ read_values o es n (begun_in es n)
read_gives o es n key start buffer line h begun took =
    let range : range_of line.command ≡ Some (start, length buffer) =
    ap (λ (b : Option (Line × Option ℕ)). option_and_then (λ (l : Line × Option ℕ). range_of l.0.command) b) (sym begun) ∙ h.range in
    let covered : (i : ℕ) → i < length buffer → covers_sector line.command (start + i) ≡ true =
    λ i lt. rw (range) (in_range_at start (length buffer) i lt) in
    ranged (λ (x : ℕ). read_sector o es n key x) start (length buffer) buffer refl
    (λ i lt. ap (λ (k : ℕ). get_or buffer k []) (omega arith) ∙ (h.each (start + i) (took (start + i) (covered i lt))).1)
    ∙ ap (λ (r : Option (ℕ × ℕ)). map (λ (x : ℕ). read_sector o es n key x) (sectors_in r)) (sym range)
    ∙ ap (read_values o es n) (sym begun)

-- ---- any line

-- an answer that isn't good gives nothing
bad_gives : (o : Origin) (es : List ChronicleEntry) (n : ℕ) (a : Answer) → is_good a ≡ false → GivesMachine o es n a
bad_gives o es n answer.Fine bad = tt
bad_gives o es n (answer.Read sectors) bad = absurd (true≢false bad)
bad_gives o es n (answer.Listed volumes) bad = absurd (true≢false bad)
bad_gives o es n a bad = tt

-- one that takes place as a whole
whole_gives : (o : Origin) (es : List ChronicleEntry) (m n : ℕ) (volumes : Volumes) (key own : ℕ) (c : Command) (a : Answer)
    → may_say c a ≡ true
    → is_data c ≡ false
    → list_of (plain_state o es) ≡ listed_of volumes
    → HasBrought o es volumes n own (Whole a)
    → GivesMachine o (Took m n (zero_piece key) ∷ es) n a
whole_gives o es m n volumes key own c (answer.Listed listed) says other lists brought =
    brought ∙ sym lists
    ∙ ap (λ (b : Bool). list_of (cond b (plain_state o es) (state_taken o es n))) (sym (eq-eqb n n refl))
whole_gives o es m n volumes key own c (answer.Read sectors) says other lists brought = absurd (read_is_data c says other)
  where
    read_is_data : (c : Command) → is_read c ≡ true → is_data c ≡ false → ⊥
    read_is_data (command.Read path first count) is other = true≢false other
    read_is_data c is other = true≢false (sym is)
whole_gives o es m n volumes key own c a says other lists brought = tt

-- the entries below the answer of a line
abbrev pub entries_taken : ℕ → ℕ → ℕ → Bool → List ChronicleEntry → List ChronicleEntry
entries_taken m n own whole es = if whole then Took m n (zero_piece own) ∷ es else es

-- a key that is there is the line's own
own_key : (key : Option ℕ) (own : ℕ) → is_some key ≡ true → own ≡ unwrap_or key 0 → key ≡ Some own
own_key None own there is = absurd (true≢false (sym there))
own_key (Some k) own there is = ap Some (sym is)

-- a refusal isn't good
refused_bad : {c : Command} {why : Answer} → IsRefusedLine c (Some why) → is_good why ≡ false
refused_bad {c} {why} r = ap is_good (same_Some why _ r.is)

-- what an open line answers is what its history gives
pub answered_gives : (o : Origin) (es : List ChronicleEntry) (m n own : ℕ) (volumes : Volumes) (line : Line) (key : Option ℕ) (work : Work)
    (failure : Option Answer)
    → IsWorkOf line.command key work failure
    → own ≡ unwrap_or key 0
    → begun_in es n ≡ Some (line, key)
    → (failure ≡ None → is_whole work ≡ false → (x : ℕ) → covers_sector line.command x ≡ true → took_at es n own x ≡ true)
    → list_of (plain_state o es) ≡ listed_of volumes
    → HasBrought o es volumes n own work
    → GivesMachine o (entries_taken m n own (is_whole work && is_none failure) es) n (unwrap_or failure (work_answer work))
answered_gives o es m n own volumes line key (Read start buffer) (Some why) does keyed begun taken lists brought =
    bad_gives o es n why does.2.bad
answered_gives o es m n own volumes line key (Read start buffer) None does keyed begun taken lists brought =
    read_gives o es n own start buffer line brought
    (begun ∙ ap (λ (k : Option ℕ). Some (line, k)) (own_key key own does.1 keyed)) (taken refl refl)
answered_gives o es m n own volumes line key Write (Some why) does keyed begun taken lists brought = bad_gives o es n why does.2.bad
answered_gives o es m n own volumes line key Write None does keyed begun taken lists brought = tt
answered_gives o es m n own volumes line key (Whole a) (Some why) does keyed begun taken lists brought =
    bad_gives o es n why (by does)
  where
    by : IsWorkOf line.command key (Whole a) (Some why) → is_good why ≡ false
    by (inl refused) = refused_bad refused
    by (inr whole) = whole.lost.1.bad
answered_gives o es m n own volumes line key (Whole a) None does keyed begun taken lists brought = by does
  where
    by : IsWorkOf line.command key (Whole a) None → GivesMachine o (Took m n (zero_piece own) ∷ es) n a
    by (inl refused) = absurd (none-some _ refused.is)
    by (inr whole) = whole_gives o es m n volumes own own line.command a whole.says whole.other lists brought

-- ---- no such line removes the group

pub names_no_removal : (c : Command) → is_some (volume_named c) ≡ true → removes c ≡ false
names_no_removal (command.Read path first count) is = refl
names_no_removal (command.Fill path first count value through) is = refl
names_no_removal (command.Write path first hex through) is = refl
names_no_removal (command.Flush path) is = refl
names_no_removal c is = absurd (true≢false (sym is))
