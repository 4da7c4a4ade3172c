-- What is printed of a physical volume is read again.
use Rattle.std.proofs.Common.{◌≡◌, ℕ, Bool, true, false, List, [], ◌∷◌, Some, Ok, refl}
use Rattle.std.specs.Prelude.{codes}
use Rattle.lvm_id.specs.LvmId.{hyphen_form}
use Rattle.conf_text.specs.Entries.{ConfEntry}
use Rattle.conf_text.specs.Items.{items}
use Rattle.meta_model.specs.Keys.{id_printed}
use Rattle.meta_model.specs.PassedOver.{in_pv}
use Rattle.meta_model.specs.Standing.{pv_of}
use Rattle.meta_model.specs.declared.pv.Pv.{Pv}
use Rattle.meta_print.specs.Layout.{text, words, number, word_if}
use Rattle.meta_print.proofs.Sections.{IsWhole}

-- what stands in the section
abbrev pub pv_body : Pv → List ConfEntry
pv_body pv =
    text (codes "id") (hyphen_form pv.id)
    ∷ text (codes "device") pv.device
    ∷ words (codes "status") (word_if pv.allocatable (codes "ALLOCATABLE"))
    ∷ words (codes "flags") (word_if pv.missing (codes "MISSING"))
    ∷ number (codes "dev_size") pv.dev_size
    ∷ number (codes "pe_start") pv.pe_start
    ∷ number (codes "pe_count") pv.pe_count
    ∷ []

pub pv_whole : (pv : Pv) → IsWhole (pv_body pv)
pv_whole pv = record { stays = λ deep more. refl; passes = λ deep more. refl; lists = λ more. refl }

again_by : (id device : List ℕ) (allocatable missing : Bool) (dev_size pe_start pe_count : ℕ) → id_printed (hyphen_form id) ≡ Some id
    → pv_of (items (pv_body (record {
      id = id;
      device = device;
      allocatable = allocatable;
      missing = missing;
      dev_size = dev_size;
      pe_start = pe_start;
      pe_count = pe_count;
    })))
    ≡ Ok (record {
      id = id;
      device = device;
      allocatable = allocatable;
      missing = missing;
      dev_size = dev_size;
      pe_start = pe_start;
      pe_count = pe_count;
    })
again_by id device true true dev_size pe_start pe_count is = rw is refl
again_by id device true false dev_size pe_start pe_count is = rw is refl
again_by id device false true dev_size pe_start pe_count is = rw is refl
again_by id device false false dev_size pe_start pe_count is = rw is refl

pub pv_again : (pv : Pv) → id_printed (hyphen_form pv.id) ≡ Some pv.id → pv_of (items (pv_body pv)) ≡ Ok pv
pv_again pv is = again_by pv.id pv.device pv.allocatable pv.missing pv.dev_size pv.pe_start pv.pe_count is

-- each of its keys is known
pub pv_known : (path : List ℕ) (pv : Pv) → in_pv path (items (pv_body pv)) ≡ []
pv_known path pv = refl
