-- What commands are that leave the volumes as they are, and those that create no sector.
use Rattle.std.proofs.Common.{◌≡◌, ℕ, Bool, true, false, List, Option, Some, None, refl, ap, not, ◌||◌, ◌∙◌}
use Rattle.std.proofs.lemmas.Bool.{and_parts, not-true}
use Rattle.command_table.specs.Commands.{CommandKind, GroupNamed, NextVersion, Removal, Restore, VolumeAdded, VolumeGone, VolumeLonger}
use Rattle.command_table.specs.Commands.{VolumeNamed, VolumeShorter, kind_of}
use Rattle.command_table.specs.Options.{Word}
use Rattle.command_table.specs.declared.command.Command.{Command}
use Rattle.command_table.specs.declared.command.Command.TheVariants as command
use Rattle.line_answers.specs.declared.answer.Answer.TheVariants as answer
use Rattle.data_lines.specs.DataLines.{is_command, is_data, is_flush, is_read, volume_named, writes}
use Rattle.disk_model.specs.Steps.{Image}
use Rattle.line_table.specs.Machine.{PlainState, plain_after}
use Rattle.group_ops.specs.Planning.{kind_zeroes, zeroes}
use Rattle.vg_scan.specs.Versions.{Version}
use Rattle.volume_history.specs.Candidates.{is_born, is_zeroed}
use Rattle.volume_history.specs.Commands.{commits, created_disk, is_list, is_pvcreate, is_resync}
use Rattle.volume_history.specs.Commands.{may_say, removes}
use Rattle.volume_history.specs.Quiet.{is_quiet, is_quiet_kind}
use Rattle.volume_history.specs.Replay.{command_step, kind_step}

-- the step of a kind of command that leaves the volumes as they are
record IsQuietStep (kind : CommandKind) : Type 0 where
  step : (before after : Option Version) (state : PlainState) (image : Image)
      → (plain_after state (kind_step kind before after state image)).volumes ≡ state.volumes
  births : (before after : Option Version) (state : PlainState) (image : Image) (key x : ℕ)
      → is_born (kind_step kind before after state image) state key x ≡ false

quiet_step : (kind : CommandKind) → is_quiet_kind kind ≡ true → IsQuietStep kind
quiet_step (VolumeAdded lv) q = cc
quiet_step Removal q = cc
quiet_step Restore q = cc
quiet_step (NextVersion (VolumeNamed old new)) q = cc
quiet_step (NextVersion (VolumeGone lv)) q = cc
quiet_step (NextVersion (VolumeShorter lv)) q = cc
quiet_step (NextVersion (VolumeLonger lv)) q = cc
quiet_step _ q = record { step = λ b a s i. refl; births = λ b a s i k x. refl }

-- a command that reads and writes no sectors of a volume writes none
undata : (c : Command) → is_data c ≡ false → writes c ≡ false
undata (command.Fill path start count value through) q = cc
undata (command.Write path start hex through) q = cc
undata _ q = refl

-- what is known of one that is no line on a volume
pub record IsPlainCommand (c : Command) : Type 0 where
  pub data_is : is_data c ≡ false
  pub flush_is : is_flush c ≡ false
  pub writes_is : writes c ≡ false
  pub unnamed : volume_named c ≡ None

pub plain_command : (c : Command) → is_command c ≡ true → IsPlainCommand c
plain_command (command.Read path start count) q = cc
plain_command (command.Fill path start count value through) q = cc
plain_command (command.Write path start hex through) q = cc
plain_command (command.Flush path) q = cc
plain_command _ q = record { data_is = refl; flush_is = refl; writes_is = refl; unnamed = refl }

-- and of one that leaves the volumes as they are
pub record IsQuietCommand (c : Command) : Type 0 where
  pub step : (before after : Option Version) (state : PlainState) (image : Image)
      → (plain_after state (command_step c before after state image)).volumes ≡ state.volumes
  pub births : (before after : Option Version) (state : PlainState) (image : Image) (key x : ℕ)
      → is_born (command_step c before after state image) state key x ≡ false
  pub writes_is : writes c ≡ false

pub quiet_command : (c : Command) → is_quiet c ≡ true → IsQuietCommand c
quiet_command c q =
    let both = and_parts (is_quiet_kind (kind_of c)) (not (is_data c)) q in
    let quiet = quiet_step (kind_of c) both.0 in
    record { step = quiet.step; births = quiet.births; writes_is = undata c (not-true (is_data c) both.1) }

-- a kind of command that creates sectors, or may place them anew as new ones
abbrev pub kind_bears : CommandKind → Bool
kind_bears (VolumeAdded lv) = true
kind_bears (NextVersion (VolumeLonger lv)) = true
kind_bears Restore = true
kind_bears _ = false

abbrev pub command_bears : Command → Bool
command_bears c = kind_bears (kind_of c)

-- the step of another needs no image, and no sector is born in it
pub record IsBearless (kind : CommandKind) : Type 0 where
  pub step : (before after : Option Version) (state : PlainState) (i j : Image)
      → kind_step kind before after state i ≡ kind_step kind before after state j
  pub births : (before after : Option Version) (state : PlainState) (i : Image) (key x : ℕ)
      → is_born (kind_step kind before after state i) state key x ≡ false

kind_bearless : (kind : CommandKind) → kind_bears kind ≡ false → IsBearless kind
kind_bearless (VolumeAdded lv) q = cc
kind_bearless (NextVersion (VolumeLonger lv)) q = cc
kind_bearless Restore q = cc
kind_bearless _ q = record { step = λ b a s i j. refl; births = λ b a s i k x. refl }

pub bearless : (c : Command) → command_bears c ≡ false → IsBearless (kind_of c)
bearless c q = kind_bearless (kind_of c) q

-- a command that creates a physical volume is a pvcreate
pub created_is : (names : List Word) (disk : ℕ) (c : Command) → created_disk names c ≡ Some disk
    → (pv : Word) × (copies : ℕ) × (c ≡ command.Pvcreate pv copies)
created_is names disk (command.Pvcreate pv copies) e = (pv, copies, refl)
created_is names disk _ e = cc

pub created_plain : (names : List Word) (disk : ℕ) (c : Command) → created_disk names c ≡ Some disk
    → (is_command c ≡ true) × (commits c ≡ false)
created_plain names disk c e = let is = created_is names disk c e in (ap is_command is.2, ap commits is.2)

-- so it may be answered ok, or fail, and removes no group
pub created_says : (names : List Word) (disk pv : ℕ) (c : Command) → created_disk names c ≡ Some disk
    → (may_say c answer.Fine ≡ true) × (may_say c (answer.PvFailed pv) ≡ true) × (removes c ≡ false)
created_says names disk pv c e =
    let is = created_is names disk c e in (
      ap (λ (k : Command). may_say k answer.Fine) is.2,
      ap (λ (k : Command). may_say k (answer.PvFailed pv)) is.2,
      ap removes is.2,
    )

-- what is known of a command that commits a version
pub commit_kind : (names : List Word) (c : Command) → commits c ≡ true → (is_command c ≡ true) × (created_disk names c ≡ None)
commit_kind names (command.Pvcreate pv copies) q = cc
commit_kind names (command.Read path start count) q = cc
commit_kind names (command.Fill path start count value through) q = cc
commit_kind names (command.Write path start hex through) q = cc
commit_kind names (command.Flush path) q = cc
commit_kind names _ q = (refl, refl)

no_sectors : (c : Command) → commits c ≡ true → (is_read c || is_list c) ≡ false
no_sectors (command.Read path start count) q = cc
no_sectors command.List q = cc
no_sectors _ q = refl

or_true : (b : Bool) → (b || true) ≡ true
or_true true = refl
or_true false = refl

-- which may be answered ok, or fail
pub commit_says : (c : Command) (pv : ℕ) → commits c ≡ true → (may_say c answer.Fine ≡ true) × (may_say c (answer.PvFailed pv) ≡ true)
commit_says c pv q = (
  ap not (no_sectors c q),
  ap (λ (b : Bool). not (is_command c) || (b || (is_pvcreate c || is_resync c))) q ∙ or_true (not (is_command c)),
)

kind_unzeroed : (kind : CommandKind) → kind_zeroes kind ≡ false → (before after : Option Version) (state : PlainState) (image : Image)
    (x : ℕ) → is_zeroed (kind_step kind before after state image) x ≡ false
kind_unzeroed (VolumeAdded lv) q before after state image x = cc
kind_unzeroed (NextVersion (GroupNamed new)) q before after state image x = refl
kind_unzeroed _ q before after state image x = refl

-- no sector is born as a zero but in lvcreate
pub none_zeroed : (c : Command) → zeroes c ≡ false → (before after : Option Version) (state : PlainState) (image : Image) (x : ℕ)
    → is_zeroed (command_step c before after state image) x ≡ false
none_zeroed c q before after state image x = kind_unzeroed (kind_of c) q before after state image x
