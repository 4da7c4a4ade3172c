-- The status words of a group and of a logical volume, and the bits that stand for them.
use Rattle.std.specs.Prelude.{ℕ, ◌+◌, ◌==◌, Bool, if◌then◌else◌}
use Rattle.std.specs.Int.RustNames.{bit_and}

-- the status of a volume group: which words it has
pub record VgStatus : Type 0 where
  -- physical volumes may be added and taken away
  pub resizeable : Bool
  -- it may be read
  pub read : Bool
  -- it may be changed, and its volumes written
  pub write : Bool

-- the status of a logical volume: which words it has
pub record LvStatus : Type 0 where
  -- it may be read
  pub read : Bool
  -- it may be written
  pub write : Bool
  -- users see it
  pub visible : Bool
  -- its device number is fixed
  pub fixed_minor : Bool
  -- it is the volume of a move
  pub pvmove : Bool
  -- it is locked by a move
  pub locked : Bool
  -- its legs need not agree
  pub notsynced : Bool

-- the status of a group that these bits stand for
abbrev pub vg_status_of : ℕ → VgStatus
vg_status_of bits = record { resizeable = bit_and bits 1 == 1; read = bit_and bits 2 == 2; write = bit_and bits 4 == 4 }

-- the status of a logical volume that these bits stand for
abbrev pub lv_status_of : ℕ → LvStatus
lv_status_of bits = record {
  read = bit_and bits 1 == 1;
  write = bit_and bits 2 == 2;
  visible = bit_and bits 4 == 4;
  fixed_minor = bit_and bits 8 == 8;
  pvmove = bit_and bits 16 == 16;
  locked = bit_and bits 32 == 32;
  notsynced = bit_and bits 64 == 64;
}

-- the bit of a word that is there
abbrev pub bit_if : Bool → ℕ → ℕ
bit_if is bit = if is then bit else 0

-- the bits of a group's status
abbrev pub vg_bits : VgStatus → ℕ
vg_bits status = bit_if status.resizeable 1 + bit_if status.read 2 + bit_if status.write 4

-- the bits of a logical volume's status
abbrev pub lv_bits : LvStatus → ℕ
lv_bits status =
    bit_if status.read 1 + bit_if status.write 2 + bit_if status.visible 4 + bit_if status.fixed_minor 8 + bit_if status.pvmove 16
    + bit_if status.locked 32 + bit_if status.notsynced 64
