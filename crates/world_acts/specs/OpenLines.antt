-- The lines that are open, and what each call does to them.
use Rattle.std.specs.Prelude.{◌≡◌, ◌≤◌, length, ℕ, ◌+◌, ◌-◌, Bool, true, false, if◌then◌else◌, List, [], ◌∷◌, ◌++◌, Option, None, Some}
use Rattle.std.specs.Prelude.{slice_index_or, unwrap_or}
use Rattle.std.specs.Prelude.{slice_set}
use Rattle.std.specs.Option.{option_map_or}
use Rattle.line_answers.specs.declared.answer.Answer.{Answer}
use Rattle.line_answers.specs.declared.answer.Answer.TheVariants as answer
use Rattle.line_table.specs.Machine.{put_at}
use Rattle.world_acts.specs.declared.open_line.OpenLine.{OpenLine}
use Rattle.world_acts.specs.declared.open_line.Work.{Work}
use Rattle.world_acts.specs.declared.open_line.Work.TheVariants.{Read, Whole, Write}

-- of each line that was begun what is known of it until it is answered, and for how many more there is room
pub record Opens : Type 0 where
  pub list : List (Option OpenLine)
  pub spare : ℕ

-- none
abbrev pub no_opens : Opens
no_opens = record { list = []; spare = 0 }

-- the open line at this place
abbrev pub open_at : Opens → ℕ → Option OpenLine
open_at opens line = slice_index_or opens.list line None

-- stands for a line where none is open
abbrev pub no_open : OpenLine
no_open = record { key = 0; work = Write; left = 0; failure = None }

-- the same, where one is open
abbrev pub open_of : Opens → ℕ → OpenLine
open_of opens line = unwrap_or (open_at opens line) no_open

-- how much is left of it
abbrev pub left_of : Opens → ℕ → ℕ
left_of opens line = option_map_or (λ (o : OpenLine). o.left) (open_at opens line) 0

-- the next line is open
abbrev pub after_begun : Opens → OpenLine → Opens
after_begun opens opened = record opens { list = opens.list ++ Some opened ∷ []; spare = opens.spare - 1 }

-- the open line at this place is this one
abbrev pub with_open : Opens → ℕ → OpenLine → Opens
with_open opens line opened = record opens { list = slice_set opens.list line (Some opened) }

-- one more is left of it, or one less
abbrev pub after_added : Opens → ℕ → Opens
after_added opens line = with_open opens line (record (open_of opens line) { left = (open_of opens line).left + 1 })

abbrev pub after_finished : Opens → ℕ → Opens
after_finished opens line = with_open opens line (record (open_of opens line) { left = (open_of opens line).left - 1 })

-- whether it is to answer that a disk failed
abbrev pub is_pv_failed : Option Answer → Bool
is_pv_failed (Some (answer.PvFailed pv)) = true
is_pv_failed _ = false

-- it will answer so, unless it was to answer that a disk failed
abbrev pub after_failure : Opens → ℕ → Answer → Opens
after_failure opens line why =
    let opened = open_of opens line in
    if is_pv_failed opened.failure then opens else with_open opens line (record opened { failure = Some why })

-- these sectors have come of what it reads, from this one of its volume on
abbrev pub filled : Work → ℕ → List (List ℕ) → Work
filled (Read start buffer) first sectors = Read start (put_at (first - start) sectors buffer)
filled work first sectors = work

-- so many sectors from this one on are among those that it reads
abbrev pub fits_read : Work → ℕ → ℕ → Type 0
fits_read (Read start buffer) first count = (start ≤ first) × (first + count ≤ start + length buffer)
fits_read work first count = Unit {0}

abbrev pub after_filled : Opens → ℕ → ℕ → List (List ℕ) → Opens
after_filled opens line first sectors =
    with_open opens line (record (open_of opens line) { work = filled (open_of opens line).work first sectors })

-- it isn't open any more
abbrev pub after_closed : Opens → ℕ → Opens
after_closed opens line = record opens { list = slice_set opens.list line None }

-- whether it takes place as a whole, as long as nothing of it failed
abbrev pub is_whole : Work → Bool
is_whole (Whole answer) = true
is_whole _ = false

-- what it answers where nothing failed
abbrev pub work_answer : Work → Answer
work_answer (Read start buffer) = answer.Read buffer
work_answer Write = answer.Fine
work_answer (Whole answer) = answer

-- its answer: the failure, if there was one, else what it read, or that it is done
abbrev pub answer_of : OpenLine → Answer
answer_of opened = unwrap_or opened.failure (work_answer opened.work)

-- the line that waits for all others is open, and takes place as a whole
pub record IsBarrier (opens : Opens) (line : ℕ) : Type 0 where
  pub opened : OpenLine
  pub is_open : open_at opens line ≡ Some opened
  pub whole : is_whole opened.work ≡ true
  pub alone : opened.left ≡ 0
