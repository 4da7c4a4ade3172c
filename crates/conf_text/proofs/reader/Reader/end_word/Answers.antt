use Rattle.std.proofs.Common.{◌-◌, length, ap, ◌∙◌}
use Rattle.conf_text.proofs.Words.{word_at}
use Rattle.conf_text.proofs.reader.Reader.end_word.Goals as goal

pub end_name-requires : goal.end_name-requires
end_name-requires c = word_at c.args.text.now c.args.self.now.word.items c.args.at c.saturating_sub-from.result c.requires.inside
    (c.saturating_sub-from.ensures ∙ ap (λ w. c.args.at - length w) c.as_slice.ensures.value) c.requires.word
