-- The signatures that are known, each with its place as its layout is documented: a byte of the superblock behind where that
-- begins. Sources are libblkid's superblocks (util-linux), the headers of the Linux kernel, the LUKS2 on-disk format, SNIA's
-- Common RAID Disk Data Format, ECMA-119, ECMA-167 and the UEFI specification.
use Rattle.std.specs.Prelude.{ℕ, ◌+◌, ◌*◌, ◌-◌, List, [], ◌∷◌, ◌++◌, codes}
use Rattle.disk_signature.specs.declared.kind.Kind.{Kind}
use Rattle.disk_signature.specs.declared.kind.Kind.TheVariants as kind
use Rattle.disk_signature.specs.declared.place.Place.{Place}
use Rattle.disk_signature.specs.declared.place.Place.TheVariants.{FromStart, FromEnd, Md090, Md10}
use Rattle.disk_signature.specs.declared.table.Signature.{Signature}

-- a signature: these bytes, at this place, tell this of the disk
pub record Row : Type 0 where
  pub kind : Kind
  pub place : Place
  pub bytes : List ℕ

-- the row that the code has
abbrev pub row_of : Signature → Row
row_of signature = record { kind = signature.0; place = signature.1; bytes = signature.2.now }

abbrev row : Kind → Place → List ℕ → Row
row k p b = record { kind = k; place = p; bytes = b }

-- ---- bytes that stand in more than one place

-- the type in a label of lvm2's
abbrev label_type : List ℕ
label_type = codes "LVM2 001"

-- LUKS_MAGIC and LUKS2_MAGIC_2ND
abbrev luks : List ℕ
luks = codes "LUKS" ++ 0xba ∷ 0xbe ∷ []

abbrev luks_second : List ℕ
luks_second = codes "SKUL" ++ 0xba ∷ 0xbe ∷ []

-- MD_SB_MAGIC, in either order of its bytes
abbrev md_magic : List ℕ
md_magic = 0xfc ∷ 0x4e ∷ 0x2b ∷ 0xa9 ∷ []

abbrev md_magic_big : List ℕ
md_magic_big = 0xa9 ∷ 0x2b ∷ 0x4e ∷ 0xfc ∷ []

-- ---- the table

-- what isn't whole of lvm2's, in the sectors of its labels, and what is LVM1's
abbrev lvm_rows : List Row
lvm_rows =
    row kind.DamagedLabel (FromStart (0 * 512 + 24)) label_type ∷ row kind.DamagedLabel (FromStart (1 * 512 + 24)) label_type
    ∷ row kind.DamagedLabel (FromStart (2 * 512 + 24)) label_type ∷ row kind.DamagedLabel (FromStart (3 * 512 + 24)) label_type
    ∷ row kind.Lvm1 (FromStart 0) (codes "HM" ++ 1 ∷ 0 ∷ []) ∷ row kind.Lvm1 (FromStart 0) (codes "HM" ++ 2 ∷ 0 ∷ []) ∷ []

-- the second header of LUKS2, behind the area of the first one, of 16 KiB to 4 MiB
abbrev second_header : ℕ → Row
second_header byte = row kind.Luks (FromStart byte) luks_second

-- encrypted volumes
abbrev encrypted_rows : List Row
encrypted_rows =
    row kind.Luks (FromStart 0) luks
    ∷ second_header 0x4000 ∷ second_header 0x8000 ∷ second_header 0x10000 ∷ second_header 0x20000 ∷ second_header 0x40000
    ∷ second_header 0x80000 ∷ second_header 0x100000 ∷ second_header 0x200000 ∷ second_header 0x400000
    ∷ row kind.BitLocker (FromStart 3) (codes "-FVE-FS-") ∷ []

-- members of RAID sets: of Linux in versions 1.2, 1.1, 1.0 and 0.90, of Intel and of DDF
abbrev raid_rows : List Row
raid_rows =
    row kind.MdRaid (FromStart (8 * 512)) md_magic ∷ row kind.MdRaid (FromStart 0) md_magic ∷ row kind.MdRaid Md10 md_magic
    ∷ row kind.MdRaid Md090 md_magic ∷ row kind.MdRaid Md090 md_magic_big
    ∷ row kind.IntelRaid (FromEnd 2) (codes "Intel Raid ISM Cfg Sig. ")
    ∷ row kind.DdfRaid (FromEnd 1) (0xde ∷ 0x11 ∷ 0xde ∷ 0x11 ∷ []) ∷ []

-- what caches, shares or holds blocks for others
abbrev block_rows : List Row
block_rows =
    row kind.Bcache (FromStart (8 * 512 + 24))
    (0xc6 ∷ 0x85 ∷ 0x73 ∷ 0xf6 ∷ 0x4e ∷ 0x1a ∷ 0x45 ∷ 0xca ∷ 0x82 ∷ 0x65 ∷ 0xf5 ∷ 0x7f ∷ 0x48 ∷ 0xba ∷ 0x6d ∷ 0x81 ∷ [])
    ∷ row kind.Vdo (FromStart 0) (codes "dmvdo001") ∷ row kind.BlueStore (FromStart 0) (codes "bluestore block device") ∷ []

-- swap space with pages of this size: the last ten bytes of the first page
abbrev swap_rows : ℕ → List Row
swap_rows page =
    row kind.Swap (FromStart (page - 10)) (codes "SWAPSPACE2")
    ∷ row kind.Swap (FromStart (page - 10)) (codes "SWAP-SPACE") ∷ []

-- file systems of Linux and its clusters
abbrev linux_rows : List Row
linux_rows =
    row kind.Ext (FromStart (1024 + 0x38)) (0x53 ∷ 0xef ∷ []) ∷ row kind.Xfs (FromStart 0) (codes "XFSB")
    ∷ row kind.Btrfs (FromStart (64 * 1024 + 0x40)) (codes "_BHRfS_M")
    ∷ row kind.Bcachefs (FromStart (8 * 512 + 24))
    (0xc6 ∷ 0x85 ∷ 0x73 ∷ 0xf6 ∷ 0x66 ∷ 0xce ∷ 0x90 ∷ 0xa9 ∷ 0xd9 ∷ 0x6a ∷ 0x60 ∷ 0xcf ∷ 0x80 ∷ 0x3d ∷ 0xf7 ∷ 0xef ∷ [])
    ∷ row kind.Jfs (FromStart (32 * 1024)) (codes "JFS1")
    ∷ row kind.ReiserFs (FromStart (64 * 1024 + 0x34)) (codes "ReIsErFs")
    ∷ row kind.ReiserFs (FromStart (64 * 1024 + 0x34)) (codes "ReIsEr2Fs")
    ∷ row kind.ReiserFs (FromStart (64 * 1024 + 0x34)) (codes "ReIsEr3Fs")
    ∷ row kind.F2fs (FromStart 1024) (0x10 ∷ 0x20 ∷ 0xf5 ∷ 0xf2 ∷ []) ∷ row kind.Erofs (FromStart 1024) (0xe2 ∷ 0xe1 ∷ 0xf5 ∷ 0xe0 ∷ [])
    ∷ row kind.Nilfs2 (FromStart (1024 + 6)) (0x34 ∷ 0x34 ∷ []) ∷ row kind.Gfs2 (FromStart (64 * 1024)) (0x01 ∷ 0x16 ∷ 0x19 ∷ 0x70 ∷ [])
    ∷ row kind.Ocfs2 (FromStart 1024) (codes "OCFSV2") ∷ row kind.Ocfs2 (FromStart (2 * 1024)) (codes "OCFSV2")
    ∷ row kind.Ocfs2 (FromStart (4 * 1024)) (codes "OCFSV2") ∷ row kind.Ocfs2 (FromStart (8 * 1024)) (codes "OCFSV2") ∷ []

-- other file systems; the volume recognition sequence of optical disks begins in the sector of 2 KiB with the number 16
abbrev other_rows : List Row
other_rows =
    row kind.Vmfs (FromStart (1024 * 1024)) (0x0d ∷ 0xd0 ∷ 0x01 ∷ 0xc0 ∷ []) ∷ row kind.Squashfs (FromStart 0) (codes "hsqs")
    ∷ row kind.Cramfs (FromStart 0) (0x45 ∷ 0x3d ∷ 0xcd ∷ 0x28 ∷ [])
    ∷ row kind.Iso9660 (FromStart (16 * 2048 + 1)) (codes "CD001") ∷ row kind.Udf (FromStart (16 * 2048 + 1)) (codes "BEA01")
    ∷ row kind.Udf (FromStart (17 * 2048 + 1)) (codes "NSR02") ∷ row kind.Udf (FromStart (17 * 2048 + 1)) (codes "NSR03")
    ∷ row kind.HfsPlus (FromStart 1024) (codes "H+") ∷ row kind.HfsPlus (FromStart 1024) (codes "HX")
    ∷ row kind.Hfs (FromStart 1024) (codes "BD")
    ∷ row kind.Apfs (FromStart 32) (codes "NXSB")
    ∷ row kind.Minix (FromStart (1024 + 16)) (0x7f ∷ 0x13 ∷ []) ∷ row kind.Minix (FromStart (1024 + 16)) (0x8f ∷ 0x13 ∷ [])
    ∷ row kind.Minix (FromStart (1024 + 16)) (0x68 ∷ 0x24 ∷ []) ∷ row kind.Minix (FromStart (1024 + 16)) (0x78 ∷ 0x24 ∷ [])
    ∷ row kind.Ntfs (FromStart 3) (codes "NTFS    ") ∷ row kind.ExFat (FromStart 3) (codes "EXFAT   ")
    ∷ row kind.Fat (FromStart 0x36) (codes "FAT12   ") ∷ row kind.Fat (FromStart 0x36) (codes "FAT16   ")
    ∷ row kind.Fat (FromStart 0x52) (codes "FAT32   ") ∷ []

-- partition tables; each boot sector ends in the two bytes of the last row
abbrev partition_rows : List Row
partition_rows =
    row kind.Gpt (FromStart (1 * 512)) (codes "EFI PART") ∷ row kind.Gpt (FromEnd 1) (codes "EFI PART")
    ∷ row kind.Dos (FromStart (512 - 2)) (0x55 ∷ 0xaa ∷ []) ∷ []

-- all, in the order in which a disk is asked for them
abbrev pub signatures : List Row
signatures =
    lvm_rows ++ encrypted_rows ++ raid_rows ++ block_rows
    ++ swap_rows 4096 ++ swap_rows 8192 ++ swap_rows 16384 ++ swap_rows 32768 ++ swap_rows 65536
    ++ linux_rows ++ other_rows ++ partition_rows
