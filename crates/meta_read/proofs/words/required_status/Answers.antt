-- A word that isn't known is refused.
use Rattle.std.proofs.Common.{◌≡◌, List, ℕ, Some, Ok, Err, find, map, not, sym, ap, ◌∙◌}
use Rattle.std.specs.Option.{option_map_or}
use Rattle.lvm_name.specs.Names.{is_among}
use Rattle.conf_text.specs.Items.{items}
use Rattle.meta_model.specs.Keys.{Read, required, words}
use Rattle.meta_model.specs.declared.refusal.GroupRefusal.TheVariants.{UnknownStatus}
use Rattle.meta_read.specs.Reading.{as_bytes, as_words}
use Rattle.meta_read.proofs.Steps.{then_gives, refused_by}
use Rattle.meta_read.proofs.words.required_status.Goals as goal

pub returns-in-Some : goal.returns-in-Some
returns-in-Some c =
    let is_beside : List ℕ → _ = λ word. not (is_among (map as_bytes c.args.known.now) word) in
    let found : find is_beside (as_words c.in_ok-words.words) ≡ Some c.in-Some.word.now =
    ap (λ slices. find is_beside (map as_bytes slices)) (sym c.deref.ensures.value) ∙ sym c.in-Some.ensures in
    let follow : List (List ℕ) → Read (List (List ℕ)) =
    λ found. option_map_or (λ word. Err (UnknownStatus word)) (find is_beside found) (Ok found) in
    let refused : follow (as_words c.in_ok-words.words) ≡ Err (UnknownStatus c.in-Some.word.now) =
    ap (λ first. option_map_or (λ word. Err (UnknownStatus word)) first (Ok (as_words c.in_ok-words.words))) found in
    then_gives as_words (required words c.args.key.now (items c.args.section.now)) follow (as_words c.in_ok-words.words)
    (Err c.unknown_status.result) c.in_ok-words.ensures
    (refused_by as_words (follow (as_words c.in_ok-words.words)) (UnknownStatus c.in-Some.word.now) c.unknown_status.result refused
    c.unknown_status.ensures)
