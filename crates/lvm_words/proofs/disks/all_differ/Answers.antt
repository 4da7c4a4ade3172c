-- The next name is one of those behind it, or it isn't.
use Rattle.std.proofs.Common.{◌≡◌, ◌-◌, ◌∷◌, true, List, ℕ, drop, ap, sym, subst, ◌∙◌, arith}
use Rattle.command_table.specs.Options.{Word, words_of}
use Rattle.lvm_words.specs.Disks.{all_differ}
use Rattle.lvm_words.proofs.Differing.{DifferIn, from_before, none_differ, one_differs, one_repeats, stands_twice}
use Rattle.lvm_words.proofs.disks.all_differ.Goals as goal

pub loop-at-init : goal.loop-at-init
loop-at-init c = none_differ c.new-behind.result c.args.names.now c.new-behind.ensures.empty

pub returns-then-not-branch : goal.returns-then-not-branch
returns-then-not-branch c =
    let at = c.loop-at.at in
    let names = c.args.names.now in
    let next = from_before names at c.index-names-at.result (omega arith) (omega arith) c.index-names-at.is in
    let words = words_of (drop at names) in
    let word : c.as_str.result.now ∷ words ≡ words_of (drop (at - 1) names) =
    ap (λ (w : Word). w ∷ words) c.as_str.ensures.value ∙ sym next in
    sym (stands_twice names (at - 1) (ap all_differ (sym word)
    ∙ one_repeats c.loop-at.behind c.as_str.result words c.loop-at.invariant c.in_ok-insert.field-0 c.in_ok-insert.ensures.added
    c.if-not-branch.true))

pub loop-at-preserved : goal.loop-at-preserved
loop-at-preserved c =
    let at = c.loop-at.at in
    let names = c.args.names.now in
    let next = from_before names at c.index-names-at.result (omega arith) (omega arith) c.index-names-at.is in
    let words = words_of (drop at names) in
    let word : c.as_str.result.now ∷ words ≡ words_of (drop (at - 1) names) =
    ap (λ (w : Word). w ∷ words) c.as_str.ensures.value ∙ sym next in
    subst (λ (ws : List Word). DifferIn c.insert.new.self ws) word
    (one_differs c.loop-at.behind c.as_str.result words c.loop-at.invariant c.in_ok-insert.field-0 c.in_ok-insert.ensures.added
    c.insert.new.self c.if-not-branch.false c.in_ok-insert.ensures.updates)

pub returns : goal.returns
returns c =
    let all : c.loop-at.at ≡ 0 = omega arith in
    sym (subst (λ (n : ℕ). all_differ (words_of (drop n c.args.names.now)) ≡ true) all c.loop-at.invariant.differ)
