-- The first so many values with their spaces are a front of all of them.
use Rattle.std.proofs.Common.{◌≡◌, ◌<◌, ℕ, ◌+◌, true, false, List, [], ◌∷◌, ◌++◌, map, take, drop, length, get_or, ap, sym, subst, ◌∙◌}
use Rattle.std.proofs.Common.{append_assoc}
use Rattle.std.proofs.lemmas.Grind.{flat_map-append}
use Rattle.std.proofs.lemmas.List.{flat_map_more, map-append, take-append-drop, take_more}
use Rattle.std.proofs.lemmas.Result.{err_from_is_err_and}
use Rattle.std.specs.Prelude.{codes}
use Rattle.std.specs.List.{flat_map}
use Rattle.sector_base.specs.Shown.{Value, shown_text, value_text}
use Rattle.byte_streams.specs.Streams.{WritesText}
use Rattle.byte_streams.proofs.TextsWritten.{failed_before, written_both}
use Rattle.line_answers.specs.Answers.{value_of}
use Rattle.line_answers.specs.declared.shown.Shown.{Shown}
use Rattle.line_answers.proofs.shown.write_kind.Goals as goal

one_more : (kind : List ℕ) (values : List Shown) (i : ℕ) (d : Shown) → i < length values
    → shown_text (kind, map value_of (take (i + 1) values))
    ≡ shown_text (kind, map value_of (take i values)) ++ (codes " " ++ value_text (value_of (get_or values i d)))
one_more kind values i d within =
    ap (λ (l : List Shown). shown_text (kind, map value_of l)) (take_more values i d within)
    ∙ ap (λ (l : List Value). shown_text (kind, l)) (map-append value_of (take i values) (get_or values i d ∷ []))
    ∙ sym (flat_map_more (λ (value : Value). codes " " ++ value_text value) kind (map value_of (take i values))
    (value_of (get_or values i d)))

all_of : (kind : List ℕ) (values : List Shown) (i : ℕ)
    → shown_text (kind, map value_of values)
    ≡ shown_text (kind, map value_of (take i values)) ++ flat_map (λ value. codes " " ++ value_text value) (map value_of (drop i values))
all_of kind values i =
    ap (λ (l : List Shown). shown_text (kind, map value_of l)) (sym (take-append-drop i values))
    ∙ ap (λ (l : List Value). shown_text (kind, l)) (map-append value_of (take i values) (drop i values))
    ∙ ap (λ (l : List ℕ). kind ++ l) (flat_map-append (λ (value : Value). codes " " ++ value_text value) (map value_of (take i values))
    (map value_of (drop i values)))
    ∙ sym (append_assoc kind (flat_map (λ (value : Value). codes " " ++ value_text value) (map value_of (take i values)))
    (flat_map (λ (value : Value). codes " " ++ value_text value) (map value_of (drop i values))))

pub returns-in_err-write_behind_space : goal.returns-in_err-write_behind_space
returns-in_err-write_behind_space g c =
    let p = err_from_is_err_and c.from_residual-in_err-write_behind_space.result c.from_residual-in_err-write_behind_space.ensures.1 in
    let kind = c.args.kind.now in
    let values = c.args.values.now in
    let i = c.loop-value.value-index in
    let front = written_both _ _ _ _ _ _ _ _ false c.loop-value.invariant c.in_err-write_behind_space.ensures in
    let more = subst (λ (t : List ℕ). WritesText (g.W.Sink.written c.args.out.now) (g.W.Sink.fault_count c.args.out.now) t false
    (g.W.Sink.written c.write_behind_space.new.out) (g.W.Sink.fault_count c.write_behind_space.new.out))
    (sym (one_more kind values i _ c.loop-value-test.true)) front in
    rw (p.1, all_of kind values (i + 1)) (failed_before _ _ _ _ _ _ more)

pub loop-value-preserved : goal.loop-value-preserved
loop-value-preserved g c =
    subst (λ (t : List ℕ). WritesText (g.W.Sink.written c.args.out.now) (g.W.Sink.fault_count c.args.out.now) t true
    (g.W.Sink.written c.write_behind_space.new.out) (g.W.Sink.fault_count c.write_behind_space.new.out))
    (sym (one_more c.args.kind.now c.args.values.now c.loop-value.value-index _ c.loop-value-test.true))
    (written_both _ _ _ _ _ _ _ _ true c.loop-value.invariant c.in_ok-write_behind_space.ensures)
