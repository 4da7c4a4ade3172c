-- One line more of some commands.
use Rattle.std.proofs.Common.{◌≡◌, ◌<◌, ◌≤◌, ◌∙◌, ◌+◌, ℕ, List, [], ◌∷◌, ◌++◌, get_or, length, map, take, drop, set, refl, ap, sym, subst}
use Rattle.std.proofs.Common.{arith, add-one}
use Rattle.std.proofs.Math.Seq.{take-suc}
use Rattle.std.proofs.lemmas.List.{drop_more, drop-set-lt, length-drop, map-append, take_all, take_more_set}
use Rattle.command_table.specs.declared.command.Command.{Command}
use Rattle.command_table.specs.Commands.{draws}
use Rattle.lvm_script.specs.declared.line.Line.{Line}
use Rattle.lvm_script.specs.Lines.{TakesId, line_of}
use Rattle.lvm_script.specs.Script.{AreLines, numbered}

pub and_one : (before : ℕ → List ℕ) (commands : List (ℕ × Command)) (lines : List Line) (between after : ℕ → List ℕ) (number : ℕ)
    (command : Command) (line : Line)
    → AreLines before commands lines between → line ≡ line_of number command between → TakesId (draws command) between after
    → AreLines before (commands ++ (number, command) ∷ []) (lines ++ line ∷ []) after
and_one before [] [] between after number command line are is takes = (
  subst (λ words. line ≡ line_of number command words) are is,
  (after, subst (λ words. TakesId (draws command) words after) are takes, refl),
)
and_one before [] (next ∷ lines) between after number command line are is takes = elim are [ ]
and_one before (first ∷ commands) [] between after number command line are is takes = elim are [ ]
and_one before (first ∷ commands) (next ∷ lines) between after number command line are is takes =
    (are.0, (are.1.0, are.1.1, and_one are.1.0 commands lines between after number command line are.1.2 is takes))

-- the same element and the same rest
parts : {X : Type 0} (x y : X) (xs ys : List X) → x ∷ xs ≡ y ∷ ys → (x ≡ y) × (xs ≡ ys)
parts x y xs ys same = (cc, cc)

-- the line at a place and those behind it, where all from there on are as they were
from_here : (lines old : List Line) (i : ℕ) (line : Line) → drop i lines ≡ drop i old → i < length lines
    → (get_or lines i line ≡ get_or old i line) × (drop (i + 1) lines ≡ drop (i + 1) old) × (i < length old)
from_here lines old i line rest within =
    let left = length-drop i lines in
    let right = length-drop i old in
    let same = ap length rest in
    let inside : i < length old = omega (arith, within, left, right, same) in
    let both = parts _ _ _ _ (sym (drop_more lines i line within) ∙ rest ∙ drop_more old i line inside) in
    (both.0, both.1, inside)

-- the next line, in its place
pub next_drawn : (before : ℕ → List ℕ) (lines old : List Line) (i : ℕ) (first line : Line) (between after : ℕ → List ℕ)
    → AreLines before (map numbered (take i old)) (take i lines) between → drop i lines ≡ drop i old → i < length lines
    → line ≡ line_of (get_or lines i first).number (get_or lines i first).command between
    → TakesId (draws (get_or lines i first).command) between after
    → AreLines before (map numbered (take (i + 1) old)) (take (i + 1) (set lines i line)) after
    × (drop (i + 1) (set lines i line) ≡ drop (i + 1) old)
next_drawn before lines old i first line between after drawn rest within is takes =
    let here = from_here lines old i first rest within in
    let all =
    and_one before (map numbered (take i old)) (take i lines) between after (get_or lines i first).number (get_or lines i first).command
    line drawn is takes in
    let front : map numbered (take (i + 1) old) ≡ map numbered (take i old) ++ numbered (get_or lines i first) ∷ [] =
    ap (λ n. map numbered (take n old)) (add-one i) ∙ ap (map numbered) (take-suc old i first here.2)
    ∙ map-append numbered (take i old) (get_or old i first ∷ []) ∙ ap (λ l. map numbered (take i old) ++ numbered l ∷ []) (sym here.0) in (
      subst (λ commands. AreLines before commands (take (i + 1) (set lines i line)) after) (sym front)
          (subst (λ ls. AreLines before (map numbered (take i old) ++ numbered (get_or lines i first) ∷ []) ls after)
          (sym (take_more_set lines i line within)) all),
      drop-set-lt (i + 1) lines i line (omega arith) ∙ here.1,
    )

-- no line more
pub all_drawn : (before : ℕ → List ℕ) (lines old : List Line) (i : ℕ) (after : ℕ → List ℕ)
    → AreLines before (map numbered (take i old)) (take i lines) after → drop i lines ≡ drop i old → length lines ≤ i
    → AreLines before (map numbered old) lines after
all_drawn before lines old i after drawn rest past =
    let left = length-drop i lines in
    let right = length-drop i old in
    let same = ap length rest in
    subst (λ ls. AreLines before (map numbered ls) lines after) (take_all i old (omega (arith, past, left, right, same)))
    (subst (λ ls. AreLines before (map numbered (take i old)) ls after) (take_all i lines past) drawn)
