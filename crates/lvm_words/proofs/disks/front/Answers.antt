-- The front of the words that are left, by the next one or two of them.
use Rattle.std.proofs.Common.{◌≡◌, ◌++◌, [], ◌∷◌, List, ℕ, ◌+◌, drop, ap, sym, ◌∙◌, arith}
use Rattle.std.proofs.lemmas.List.{map-append, take_rest}
use Rattle.std.specs.Prelude.{option_map}
use Rattle.std.specs.String.{string_bytes}
use Rattle.command_table.specs.Options.{Word, words_of}
use Rattle.command_table.specs.Values.{is_disk_name}
use Rattle.lvm_words.specs.Disks.{front_of}
use Rattle.lvm_words.proofs.Fronts.{after_names, ends_at, ends_past, ends_with, lacks_name_at, misnamed_at, names_more, pair_at}
use Rattle.lvm_words.proofs.disks.front.Goals as goal
use Rattle.lvm_words.proofs.disks.front.Goals.{then-loop-at-test+else-is_disk_option, else-loop-at-test}

pub returns-then-words-at-lt2-clause-no_meaning : goal.returns-then-words-at-lt2-clause-no_meaning
returns-then-words-at-lt2-clause-no_meaning c = λ _.
    c.loop-at.invariant.front
    ∙ ap (option_map (after_names (words_of c.loop-at.names.items)))
    (lacks_name_at c.args.words.now c.loop-at.at c.index-words-at.result c.loop-at-test.true c.index-words-at.is
    (sym c.is_disk_option.ensures ∙ c.if-is_disk_option.true) c.if-words-at-lt2.true)

pub returns-then-not-is_disk_name-clause-no_meaning : goal.returns-then-not-is_disk_name-clause-no_meaning
returns-then-not-is_disk_name-clause-no_meaning c = λ _.
    c.loop-at.invariant.front
    ∙ ap (option_map (after_names (words_of c.loop-at.names.items)))
    (misnamed_at c.args.words.now c.loop-at.at c.index-words-at.result c.loop-at-test.true c.index-words-at.is
    c.index-words-at-in-loop-at.result (omega arith) c.index-words-at-in-loop-at.is
    (sym c.is_disk_option.ensures ∙ c.if-is_disk_option.true)
    (ap is_disk_name (sym c.as_bytes.ensures.value) ∙ sym c.is_disk_name.ensures ∙ c.if-not-is_disk_name.true))

pub loop-at-preserved : goal.loop-at-preserved
loop-at-preserved c =
    let words = c.args.words.now in
    let at = c.loop-at.at in
    let names = words_of c.loop-at.names.items in
    let name = c.index-words-at-in-loop-at.result in
    let pair =
    pair_at words at c.index-words-at.result c.loop-at-test.true c.index-words-at.is name (omega arith) c.index-words-at-in-loop-at.is
    (sym c.is_disk_option.ensures ∙ c.if-is_disk_option.true)
    (ap is_disk_name (sym c.as_bytes.ensures.value) ∙ sym c.is_disk_name.ensures ∙ c.if-not-is_disk_name.false) in
    let more : words_of c.push.new.self.items ≡ names ++ string_bytes name ∷ [] =
    ap (λ l. words_of l) c.in_ok-push.ensures.items
    ∙ map-append string_bytes c.loop-at.names.items (c.in_ok-clone.field-0 ∷ [])
    ∙ ap (λ (b : List ℕ). names ++ b ∷ []) c.in_ok-clone.ensures.cases in
    record {
      within = omega arith;
      front = c.loop-at.invariant.front
          ∙ ap (option_map (after_names names)) pair
          ∙ names_more names (string_bytes name) (front_of (words_of (drop (at + 2) words)))
          ∙ ap (λ (l : List Word). option_map (after_names l) (front_of (words_of (drop (at + 2) words)))) (sym more);
    }

pub returns-clause-ok : goal.returns-clause-ok
returns-clause-ok c =
    let words = c.args.words.now in
    let at = c.loop-at.at in
    let names = words_of c.loop-at.names.items in
    elim c.loop-at-test.branch [
      | then-loop-at-test+else-is_disk_option w ↦ ends_with words _ at names (take_rest words at) c.loop-at.invariant.front
          (ends_at words at w.index-words-at.result w.loop-at-test.true w.index-words-at.is
          (sym w.is_disk_option.ensures ∙ w.if-is_disk_option.false))
      | else-loop-at-test w ↦ ends_with words _ at names (take_rest words at) c.loop-at.invariant.front
          (ends_past words at w.loop-at-test.false)
    ]
